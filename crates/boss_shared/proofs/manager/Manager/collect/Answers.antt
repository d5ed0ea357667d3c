use Rattle.std.proofs.Common.{ap, subst, ◌∙◌, ◌+◌, vec_capacity}
use Rattle.boss_shared.specs.Together.{IsServed}
use Rattle.boss_shared.proofs.manager.Manager.collect.Goals as goal

pub returns-in-Ok : goal.returns-in-Ok
returns-in-Ok g c =
    let reply = c.in-Ok.reply in
    record {
      collected = record {
        told = reply.seat;
        replied = reply.asked;
        served = subst (λ slip. IsServed g.K.Keeper.plant g.K.Keeper.state slip.request.seat reply.seat slip.request.asked reply.asked) c.loop.invariant.0 c.in-Ok.ensures.served;
        seat_is = c.take_back.ensures.pass ∙ (λ i. record reply.seat { parts = reply.seat.parts + c.in-Ok.ensures.bare.0 i });
        answers_are = ap (λ answers. answers.items) c.take_back.ensures.answers;
        room_is = ap (λ answers. vec_capacity answers) c.take_back.ensures.answers;
        outcomes_are = c.take_back.ensures.told;
      };
    }

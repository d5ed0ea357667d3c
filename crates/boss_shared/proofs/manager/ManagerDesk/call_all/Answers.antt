-- Where the call was served with those of others, or alone.
use Rattle.std.proofs.Common.{◌/◌, ℕ, List, [], map, vec_capacity, sym, ap, ◌∙◌, subst}
use Rattle.boss_model.specs.declared.command.Command.{Command}
use Rattle.def_history.specs.Made.{made_by_all}
use Rattle.boss_shared.specs.Calls.{is_stopped_rest, RestFits}
use Rattle.boss_shared.specs.Passes.{Turn}
use Rattle.boss_shared.specs.Together.{tried_of}
use Rattle.boss_shared.proofs.Served.{collected_done, collected_owned, collected_parts, collected_rest, collected_together, collected_told, collected_turn, collected_undenied}
use Rattle.boss_shared.proofs.Turns.{batch_of_turn}
use Rattle.boss_shared.proofs.Ungated.{allowed_ungated, judged_ungated}
use Rattle.boss_shared.proofs.manager.ManagerDesk.call_all.Goals as goal

pub returns-in-Some-clause-own : goal.returns-in-Some-clause-own
returns-in-Some-clause-own g c =
    collected_owned g.K.Keeper.plant g.K.Keeper.state c.args.self.now.lock c.args.pass.now c.in-Some.posted.slip.request.seat c.post.new.pass c.collect.new.pass
    c.in-Some.posted.slip.request.asked c.collect.new.answers.items (vec_capacity c.collect.new.answers) c.collect.result c.collect.ensures.collected
    c.in-Some.ensures.posted.0 c.in-Some.ensures.posted.2 c.in-Some.ensures.posted.1 c.requires.own.3 c.requires.own.4

pub returns-in-Some-clause-parts : goal.returns-in-Some-clause-parts
returns-in-Some-clause-parts g c = ap (λ (n : ℕ). n / 2)
    (collected_parts g.K.Keeper.plant g.K.Keeper.state c.args.self.now.lock c.args.pass.now c.in-Some.posted.slip.request.seat c.post.new.pass c.collect.new.pass
    c.in-Some.posted.slip.request.asked c.collect.new.answers.items (vec_capacity c.collect.new.answers) c.collect.result c.collect.ensures.collected
    c.in-Some.ensures.posted.0 c.in-Some.ensures.posted.2 c.in-Some.ensures.posted.1)

pub returns-in-Some-clause-turn : goal.returns-in-Some-clause-turn
returns-in-Some-clause-turn g c =
    let others = map tried_of c.collect.ensures.collected.served.behind in (
      others,
      subst (λ (q : ℕ × List (Command × ℕ)). Turn (g.K.Keeper.plant c.args.self.now.lock.start) (g.K.Keeper.state c.args.self.now.lock.start) c.args.pass.now.seen c.args.pass.now.places
          c.collect.new.pass.seen c.collect.new.pass.places (made_by_all others q.0 q.1 c.collect.new.answers.items c.collect.result.rest) (is_stopped_rest c.collect.result.rest))
          (λ i. (c.in-Some.ensures.session i, c.in-Some.ensures.commands i))
          (collected_turn g.K.Keeper.plant g.K.Keeper.state c.args.self.now.lock c.args.pass.now c.in-Some.posted.slip.request.seat c.post.new.pass c.collect.new.pass
          c.in-Some.posted.slip.request.asked c.collect.new.answers.items (vec_capacity c.collect.new.answers) c.collect.result c.collect.ensures.collected
          c.in-Some.ensures.posted.0 c.in-Some.ensures.posted.2 c.in-Some.ensures.posted.1),
    )

pub returns-in-Some-clause-batch : goal.returns-in-Some-clause-batch
returns-in-Some-clause-batch g c = let turn = returns-in-Some-clause-turn g c in batch_of_turn _ _ _ _ _ _ turn.0 _ _ _ _ turn.1

pub returns-in-Some-clause-allowed : goal.returns-in-Some-clause-allowed
returns-in-Some-clause-allowed g c = allowed_ungated _ _ _

pub returns-in-Some-clause-undenied : goal.returns-in-Some-clause-undenied
returns-in-Some-clause-undenied g c =
    collected_undenied g.K.Keeper.plant g.K.Keeper.state c.args.self.now.lock c.args.pass.now c.in-Some.posted.slip.request.seat c.post.new.pass c.collect.new.pass
    c.in-Some.posted.slip.request.asked c.collect.new.answers.items (vec_capacity c.collect.new.answers) c.collect.result c.collect.ensures.collected
    c.in-Some.ensures.posted.0 c.in-Some.ensures.posted.2 c.in-Some.ensures.posted.1

pub returns-in-Some-clause-gate : goal.returns-in-Some-clause-gate
returns-in-Some-clause-gate g c = judged_ungated c.args.session c.args.commands.now c.collect.result.done c.collect.result.rest (returns-in-Some-clause-undenied g c)

pub returns-in-Some-clause-done : goal.returns-in-Some-clause-done
returns-in-Some-clause-done g c =
    collected_done g.K.Keeper.plant g.K.Keeper.state c.args.self.now.lock c.args.pass.now c.in-Some.posted.slip.request.seat c.post.new.pass c.collect.new.pass
    c.in-Some.posted.slip.request.asked c.collect.new.answers.items (vec_capacity c.collect.new.answers) c.collect.result c.collect.ensures.collected
    c.in-Some.ensures.posted.0 c.in-Some.ensures.posted.2 c.in-Some.ensures.posted.1

pub returns-in-Some-clause-rest : goal.returns-in-Some-clause-rest
returns-in-Some-clause-rest g c =
    subst (λ calls. RestFits calls c.collect.result.done c.collect.result.rest) c.in-Some.ensures.commands
    (collected_rest g.K.Keeper.plant g.K.Keeper.state c.args.self.now.lock c.args.pass.now c.in-Some.posted.slip.request.seat c.post.new.pass c.collect.new.pass
    c.in-Some.posted.slip.request.asked c.collect.new.answers.items (vec_capacity c.collect.new.answers) c.collect.result c.collect.ensures.collected
    c.in-Some.ensures.posted.0 c.in-Some.ensures.posted.2 c.in-Some.ensures.posted.1)

pub returns-in-Some-clause-told : goal.returns-in-Some-clause-told
returns-in-Some-clause-told g c =
    collected_told g.K.Keeper.plant g.K.Keeper.state c.args.self.now.lock c.args.pass.now c.in-Some.posted.slip.request.seat c.post.new.pass c.collect.new.pass
    c.in-Some.posted.slip.request.asked c.collect.new.answers.items (vec_capacity c.collect.new.answers) c.collect.result c.collect.ensures.collected
    c.in-Some.ensures.posted.0 c.in-Some.ensures.posted.2 c.in-Some.ensures.posted.1

pub returns-in-Some-clause-room : goal.returns-in-Some-clause-room
returns-in-Some-clause-room g c =
    let got = c.collect.ensures.collected in got.room_is ∙ got.served.same.room ∙ c.in-Some.ensures.room

pub returns-in-Some-clause-together : goal.returns-in-Some-clause-together
returns-in-Some-clause-together g c =
    collected_together g.K.Keeper.plant g.K.Keeper.state c.args.self.now.lock c.args.pass.now c.in-Some.posted.slip.request.seat c.post.new.pass c.collect.new.pass
    c.in-Some.posted.slip.request.asked c.collect.new.answers.items (vec_capacity c.collect.new.answers) c.collect.result c.collect.ensures.collected
    c.in-Some.ensures.posted.0 c.in-Some.ensures.posted.2 c.in-Some.ensures.posted.1

pub returns-in-None-clause-turn : goal.returns-in-None-clause-turn
returns-in-None-clause-turn g c = ([], rw (sym c.in-None.ensures.pass) c.call_alone.ensures.turn)

pub returns-in-None-clause-batch : goal.returns-in-None-clause-batch
returns-in-None-clause-batch g c = let turn = returns-in-None-clause-turn g c in batch_of_turn _ _ _ _ _ _ turn.0 _ _ _ _ turn.1

pub returns-in-None-clause-allowed : goal.returns-in-None-clause-allowed
returns-in-None-clause-allowed g c = allowed_ungated _ _ _

pub returns-in-None-clause-gate : goal.returns-in-None-clause-gate
returns-in-None-clause-gate g c = judged_ungated c.args.session c.args.commands.now c.call_alone.result.done c.call_alone.result.rest c.call_alone.ensures.undenied

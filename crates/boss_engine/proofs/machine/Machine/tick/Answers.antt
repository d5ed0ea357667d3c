use Rattle.std.proofs.Common.{refl, sym, subst}
use Rattle.boss_persistent.specs.Lasting.{persistent_of}
use Rattle.law_due.proofs.DueLemmas.{IsNoMore, few-after}
use Rattle.boss_engine.proofs.Keeping.{keeps-places}
use Rattle.boss_engine.proofs.Rooms.{room-left}
use Rattle.boss_engine.proofs.machine.Machine.tick.Goals as goal

pub returns-clause-places : goal.returns-clause-places
returns-clause-places c = λ plant places. keeps-places plant c.args.self.now _ places refl refl c.tick.ensures.points c.tick.ensures.kept c.tick.ensures.told

pub returns-clause-room : goal.returns-clause-room
returns-clause-room c =
    let old = c.args.self.now.lasting in
    let new = c.tick.new.self in
    let few : IsNoMore (persistent_of old) (persistent_of new) = subst (IsNoMore (persistent_of old)) (sym c.tick.ensures.after) (few-after c.args.n (persistent_of old)) in
    room-left c.args.self.now _ few c.tick.ensures.stages

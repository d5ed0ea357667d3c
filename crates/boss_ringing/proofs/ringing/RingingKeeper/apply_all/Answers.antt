use Rattle.std.proofs.Common.{◌∙◌, nat_lt, min, sym, subst}
use Rattle.boss_model.specs.Limits.{most_drivers}
use Rattle.boss_ringing.specs.Rising.{risen, IsAlarm, Rang}
use Rattle.boss_ringing.proofs.Lifting.{called, rings-all, undone-all}
use Rattle.boss_ringing.proofs.ringing.RingingKeeper.apply_all.Goals as goal

pub returns-clause-kept : goal.returns-clause-kept
returns-clause-kept g c =
    let k = g.K.Keeper in
    called k.plant k.state k.stopped k.faults k.leaves k.passes k.keeps g.B.Ringer.tells g.B.Ringer.whole g.B.Ringer.rung (min c.args.self.now.drivers most_drivers)
    c.args.self.now c.ring_risen.new.self c.ring_others.new.self _ _ (nat_lt 0 c.apply_all-outcomes.result.done) c.apply_all-outcomes.ensures.kept
    c.ring_risen.ensures.same c.ring_risen.ensures.drivers c.ring_others.ensures.same c.ring_others.ensures.drivers
    (c.ring_risen.ensures.rang (k.plant c.args.self.now.keeper) (k.state c.args.self.now.keeper) (sym c.apply_all-outcomes.ensures.kept.same_plant) c.wants-before.ensures)
    c.ring_others.ensures.still (λ none. undone-all _ _ _ _ _ _ c.apply_all-outcomes.ensures.done c.apply_all-outcomes.ensures.rest none)

pub returns-clause-rang : goal.returns-clause-rang
returns-clause-rang g c =
    let k = g.K.Keeper in
    let b = g.B.Ringer in
    let same = c.ring_risen.ensures.same in
    let later = c.ring_others.ensures.same ∙ same in
    rings-all b.tells b.whole b.rung b.alarm _ _ (k.state c.ring_others.new.self.keeper) c.args.self.now.ringer c.ring_risen.new.self.ringer c.ring_others.new.self.ringer
    (subst (λ (it : g.row.K.Denot). Rang b.tells b.whole b.rung (risen (k.plant c.args.self.now.keeper) (k.state c.args.self.now.keeper) (k.state it) (min c.args.self.now.drivers most_drivers)) c.args.self.now.ringer c.ring_risen.new.self.ringer)
    (sym later)
    (c.ring_risen.ensures.rang (k.plant c.args.self.now.keeper) (k.state c.args.self.now.keeper) (sym c.apply_all-outcomes.ensures.kept.same_plant) c.wants-before.ensures))
    c.ring_others.ensures.rang
    (λ told done. subst (λ (it : g.row.K.Denot). IsAlarm (k.state it) (b.alarm c.ring_others.new.self.ringer)) (sym c.ring_others.ensures.same) (c.ring_others.ensures.alarm told done))

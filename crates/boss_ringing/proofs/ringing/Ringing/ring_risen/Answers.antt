use Rattle.std.proofs.Common.{◌∙◌, ℕ, false, sym, ap, subst, slice_index_or, ◌≡◌, arith}
use Rattle.boss_ringing.specs.Rising.{bell_if, rises, risen, Rang}
use Rattle.boss_ringing.proofs.Lifting.{rang-then, risen-more}
use Rattle.boss_ringing.proofs.ringing.Ringing.ring_risen.Goals as goal

pub loop-driver-preserved : goal.loop-driver-preserved
loop-driver-preserved g c = record {
  keeper = c.ring_if_risen.ensures.same ∙ c.loop-driver.invariant.keeper;
  drivers = c.ring_if_risen.ensures.drivers ∙ c.loop-driver.invariant.drivers;
  rang = λ plant s is told.
      let same = c.loop-driver.invariant.keeper in
      let driver = c.loop-driver.driver in
      let one = c.ring_if_risen.ensures.rang plant s (is ∙ sym (ap g.K.Keeper.plant same)) (ap (λ (k : ℕ). slice_index_or c.args.before.now k false) c.from.ensures ∙ told driver (omega (arith, c.loop-driver-test.true, c.served-driver-end.ensures))) in
      subst (λ bells. Rang g.B.Ringer.tells g.B.Ringer.whole g.B.Ringer.rung bells c.args.self.now.ringer c.ring_if_risen.new.self.ringer) (sym (risen-more plant s (g.K.Keeper.state c.args.self.now.keeper) driver))
      (rang-then g.B.Ringer.tells g.B.Ringer.whole g.B.Ringer.rung _ _ _ _ _ (c.loop-driver.invariant.rang plant s is told)
      (subst (λ (k : g.row.K.Denot). Rang g.B.Ringer.tells g.B.Ringer.whole g.B.Ringer.rung (bell_if (rises plant s (g.K.Keeper.state k) driver) driver) c.loop-driver.self.ringer c.ring_if_risen.new.self.ringer) same one));
}

pub returns-clause-rang : goal.returns-clause-rang
returns-clause-rang g c = λ plant s is told.
    let over = c.loop-driver-test.false in
    let few = c.loop-driver.auto.driver-end in
    let all : c.loop-driver.driver ≡ c.served-driver-end.result = omega (arith, over, few) in
    subst (λ (n : ℕ). Rang g.B.Ringer.tells g.B.Ringer.whole g.B.Ringer.rung (risen plant s (g.K.Keeper.state c.args.self.now.keeper) n) c.args.self.now.ringer c.loop-driver.self.ringer) (all ∙ c.served-driver-end.ensures)
    (c.loop-driver.invariant.rang plant s is told)

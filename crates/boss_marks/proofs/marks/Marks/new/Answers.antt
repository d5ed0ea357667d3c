use Rattle.std.proofs.Common.{◌≡◌, ◌∙◌, ℕ, ℤ, ap, arith, length, map, subst, sym, take}
use Rattle.std.proofs.Math.Seq.{take-length}
use Rattle.std.proofs.lemmas.List.{length-map}
use Rattle.std.specs.List.{AllByRecursion}
use Rattle.boss_model.specs.Settle.{fresh}
use Rattle.boss_marks.specs.Marks.{IsEarly, wanted_last}
use Rattle.boss_marks.proofs.Early.{early-fresh}
use Rattle.boss_marks.proofs.Rounds.{wanted_last-range}
use Rattle.boss_marks.proofs.marks.Marks.new.Goals as goal

pub loop-point-preserved : goal.loop-point-preserved
loop-point-preserved c = record {
  drivers = ap (λ w. w.drivers) c.put_last.ensures ∙ c.loop-point.invariant.drivers;
  points = ap (λ w. w.points) c.put_last.ensures ∙ (ap (wanted_last c.loop-point.point) c.loop-point.invariant.points ∙ wanted_last-range c.loop-point.point);
}

pub invariant_of-result : goal.invariant_of-result
invariant_of-result c =
    let points = c.args.points.now in
    let value = λ (point : ℕ × ℤ). fresh point.1 in
    let driver = λ (point : ℕ × ℤ). point.0 in
    let end : c.loop-driver.driver-index ≡ length points = omega (arith, c.loop-driver-test.false, ap length c.slice-driver-items.ensures, c.loop-driver.auto.driver-index-end) in
    let all : take c.loop-driver.driver-index points ≡ points = ap (λ (k : ℕ). take k points) end ∙ take-length points in
    let devices : c.loop-driver.proxies.items ≡ map value points = c.loop-driver.invariant.proxies ∙ ap (map value) all in
    let drivers : c.loop-point.wants.drivers ≡ map driver points =
    c.loop-point.invariant.drivers ∙ ap (λ w. w.drivers) c.in_ok-wants.ensures ∙ c.loop-driver.invariant.drivers ∙ ap (map driver) all in
    let served : length c.loop-driver.proxies.items ≡ length c.loop-point.wants.drivers =
    ap length devices ∙ length-map points value ∙ sym (ap length drivers ∙ length-map points driver) in
    record {
      served = served;
      few = omega (arith, c.requires, ap length devices, length-map points value);
      early = subst (AllByRecursion (IsEarly 18446744073709551615)) (sym devices) (early-fresh 18446744073709551615 (λ (point : ℕ × ℤ). point.1) points);
    }

-- A plan's file past the limit.
use Rattle.std.proofs.Common.{◌≡◌, ◌<◌, ℕ, List, length, true, nat_lt, Err, refl, arith}
use Rattle.std.proofs.lemmas.Bool.Decides.{nat_tests}
use Rattle.boss_model.specs.Catalogue.{Catalogue}
use Rattle.boss_plans.specs.declared.refusal.PlanRefusal.TheVariants.{TooLong}
use Rattle.boss_plans.specs.Plans.{plan_of}

-- it is refused for its length
pub too-long : (catalogue : Catalogue) (file : List ℕ) → 1048576 < length file → plan_of catalogue file ≡ Err (TooLong (length file))
unfolding plan_of
too-long catalogue file long =
    let past : nat_lt 1048576 (length file) ≡ true = grind (arith, nat_tests) in
    rw past refl

-- What the moments of a reversion are outside its steps.
use Rattle.std.proofs.Common.{List, None, [], arith, drop, get_or, length, refl, ℕ, ◌+◌, ◌<◌, ◌∷◌, ◌≡◌, ◌≤◌}
use Rattle.std.proofs.lemmas.Bool.Decides.{nat_tests}
use Rattle.std.proofs.lemmas.List.{drop_more}
use Rattle.boss_model.specs.declared.command.Step.{Step}
use Rattle.boss_model.specs.Reversions.{hold, over, value_from}
use Rattle.law_time.proofs.Courses.{over-later}

-- before the first step there is no value
pub value-before : (start : ℕ) (steps : List Step) (moment : ℕ) → moment < start → value_from start steps moment ≡ None
value-before start [] moment early = refl
value-before start (step ∷ steps) moment early = grind (arith, nat_tests)

-- steps are over no sooner than the first of those still to come
pub over-more : (start : ℕ) (steps : List Step) (i : ℕ) (step : Step) → i < length steps → start + hold (get_or steps i step) ≤ over start (drop i steps)
over-more start steps i step within = rw (drop_more steps i step within) (over-later (start + hold (get_or steps i step)) (drop (i + 1) steps))

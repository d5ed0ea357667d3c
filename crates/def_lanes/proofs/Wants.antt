-- The want that a driver is given is of one of its own points.
use Rattle.std.proofs.Common.{◌≡◌, ℕ, ℤ, ◌==◌, Bool, true, List, [], ◌∷◌, Option, Some, None, ap, arith, ◌++◌, sym}
use Rattle.std.specs.List.{find}
use Rattle.std.proofs.lemmas.Bool.{cond_both}
use Rattle.std.proofs.lemmas.Bool.Decides.{nat_tests}
use Rattle.def_history.specs.declared.entry.Entry.{Entry}
use Rattle.def_history.specs.declared.entry.Entry.TheVariants.{Did}
use Rattle.def_history.specs.History.{IsEntryAt, IsLegal, after_entry}
use Rattle.boss_model.specs.declared.answer.Answer.TheVariants as answer
use Rattle.boss_model.specs.declared.command.Command.TheVariants as command
use Rattle.boss_model.specs.declared.state.Actuator.{Actuator}
use Rattle.boss_model.specs.Catalogue.{driver_of}
use Rattle.boss_model.specs.Devices.{hand_out}
use Rattle.boss_model.specs.Machine.{step, pass_time}
use Rattle.boss_model.specs.State.{State}
use Rattle.boss_model.specs.Time.{moment_of}

found-passes : (test : ℕ → Bool) (xs : List ℕ) (x : ℕ) → find test xs ≡ Some x → test x ≡ true
found-passes test [] x found = absurd cc
found-passes test (y ∷ ys) x found = cond_both (test y) (Some y) (find test ys) (λ f. f ≡ Some x → test x ≡ true)
    (λ yes is. let same : y ≡ x = cc in cc) (λ _ is. found-passes test ys x is) found

handed-found : (found : Option ℕ) (s : State) (point version : ℕ) (value : ℤ) → (hand_out found s).answer ≡ answer.Want point version value → found ≡ Some point
handed-found None s point version value is = absurd cc
handed-found (Some other) s point version value is = let same : other ≡ point = cc in ap Some same

pub want-driver : (plant : List Actuator) (s : State) (driver moment point version : ℕ) (value : ℤ) →
    (step plant 0 (command.Next driver) moment s).answer ≡ answer.Want point version value → driver_of plant point ≡ driver
unfolding step
want-driver plant s driver moment point version value is =
    let passed = pass_time plant (moment_of s.persistent moment) s in
    let found = handed-found (find (λ other. driver_of plant other == driver) passed.wants) passed point version value is in
    let passes : (driver_of plant point == driver) ≡ true = found-passes (λ other. driver_of plant other == driver) passed.wants point found in
    grind (arith, nat_tests)

-- each entry of a legal history was legal where it was made
legal-entry : (plant : List Actuator) (before : List Entry) (entry : Entry) (behind : List Entry) (s : State) → IsLegal plant (before ++ entry ∷ behind) s → (at : State) × IsEntryAt plant at entry
legal-entry plant [] entry behind s legal = (s, legal.0)
legal-entry plant (one ∷ before) entry behind s legal = legal-entry plant before entry behind (after_entry plant one s) legal.2

pub legal-want-driver : (plant : List Actuator) (s : State) (before behind : List Entry) (driver moment point version : ℕ) (value : ℤ) →
    IsLegal plant (before ++ Did 0 (command.Next driver) moment (answer.Want point version value) ∷ behind) s → driver_of plant point ≡ driver
legal-want-driver plant s before behind driver moment point version value legal =
    let made = legal-entry plant before (Did 0 (command.Next driver) moment (answer.Want point version value)) behind s legal in
    want-driver plant made.0 driver moment point version value (sym made.1.1)

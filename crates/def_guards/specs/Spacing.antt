-- Source: ASHRAE 135, clause 19.2 (minimum on and off times: a value stays for its time, unless a higher priority
-- wants another).
-- The writes to one point, and that it keeps each value for its minimum time.
use Rattle.std.specs.Prelude.{◌≡◌, ◌⊎◌, ℕ, ◌-◌, ◌≤◌, ℤ, ◌==◌, Bool, true, false, if◌then◌else◌, List, [], ◌∷◌, ◌++◌}
use Rattle.std.specs.List.{AllByRecursion}
use Rattle.def_guards.specs.Acts.{Decision, Reason, passed, shown, Act, wrote, kept}
use Rattle.def_guards.specs.Turns.{Turn, TryCut, at_read, at_write, Cut, nothing, at_next, in_turn, at_doubt}

-- a write: its value, the moment at which it was decided, and whether a reading had just shown its value under a lease of the
-- levels 1 to 5
pub record Call : Type 0 where
  pub value : ℤ
  pub now : ℕ
  pub shown : Bool

abbrev pub is_shown : Reason → Bool
is_shown passed = false
is_shown (shown answer) = true

abbrev pub call_to : ℕ → Decision → Reason → List Call
call_to point d reason = if d.point == point then record { value = d.value; now = d.now; shown = is_shown reason } ∷ [] else []

abbrev pub calls_by : ℕ → Act → List Call
calls_by point (wrote d reason ok told answer) = call_to point d reason
calls_by point (kept d answer) = []

abbrev pub calls_on : ℕ → List Act → List Call
calls_on point [] = []
calls_on point (act ∷ acts) = calls_by point act ++ calls_on point acts

abbrev pub calls_in : ℕ → List Turn → List Call
calls_in point [] = []
calls_in point (turn ∷ turns) = calls_on point turn.acts ++ calls_in point turns

abbrev pub calls_at : ℕ → Decision → TryCut → List Call
calls_at point d at_read = []
calls_at point d (at_write reason cut) = call_to point d reason

abbrev pub calls_cut : ℕ → Cut → List Call
calls_cut point nothing = []
calls_cut point (at_next reading) = []
calls_cut point (in_turn turn d cut) = calls_on point turn.acts ++ calls_at point d cut
calls_cut point (at_doubt turn other differs) = calls_on point turn.acts

-- the last of these has another value, or there is none
abbrev pub ChangesTo : ℤ → List Call → Type 0
ChangesTo value calls = (before : List Call) (last : Call) → calls ≡ before ++ last ∷ [] → ¬ (last.value ≡ value)

-- A write that ends a stretch of one value is decided the minimum time of that value after the first write of the stretch, or a
-- reading had just shown it
abbrev pub KeepsTimes : (ℤ → ℕ) → List Call → Type 0
KeepsTimes minimum calls = (before stretch behind : List Call) (first next : Call) → calls ≡ before ++ ((first ∷ stretch) ++ (next ∷ behind)) →
    ChangesTo first.value before → AllByRecursion (λ call. call.value ≡ first.value) stretch → ¬ (next.value ≡ first.value) →
    (minimum first.value ≤ next.now - first.now) ⊎ (next.shown ≡ true)

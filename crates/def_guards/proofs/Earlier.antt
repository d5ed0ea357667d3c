-- A want is given before it is tried.
use Rattle.std.proofs.Common.{◌≡◌, inl, inr, ℕ, List, [], ◌∷◌, ◌++◌, Option, Some, None, refl, subst, append_assoc}
use Rattle.std.specs.List.{AllByRecursion}
use Rattle.def_guards.specs.declared.guard.Due.{Due}
use Rattle.def_guards.specs.Acts.{Watch, guard_at, want_of}
use Rattle.def_guards.specs.Given.{WasGiven}
use Rattle.def_guards.specs.Turns.{AreTurns, IsTurn, Turn, after_turns}
use Rattle.def_guards.proofs.Wants.{AreGiven, Holds, OfWant, turn_all, turns_all}

was_here : (front : List Turn) (turn : Turn) (rest : List Turn) (want : Due) → turn.want ≡ Some want → WasGiven (front ++ turn ∷ rest) want
was_here [] turn rest want is = inl is
was_here (first ∷ front) turn rest want is = inr (was_here front turn rest want is)

want_here : (front : List Turn) (turn : Turn) (rest : List Turn) (found : Option Due) → turn.want ≡ found → OfWant (WasGiven (front ++ turn ∷ rest)) found
want_here front turn rest None is = tt
want_here front turn rest (Some want) is = was_here front turn rest want is

given_each : (front turns rest : List Turn) → AreGiven (WasGiven (front ++ (turns ++ rest))) turns
given_each front [] rest = tt
given_each front (turn ∷ turns) rest = (
  want_here front turn (turns ++ rest) turn.want refl,
  subst (λ all. AreGiven (WasGiven all) turns) (append_assoc front (turn ∷ []) (turns ++ rest)) (given_each (front ++ turn ∷ []) turns rest),
)

pub given_before : (watch : Watch) (before : List Turn) (turn : Turn) (left : List Due) → ((point : ℕ) → (guard_at watch.guards point).held ≡ None) →
    AreTurns watch before → IsTurn (after_turns before watch) turn left →
    AllByRecursion (λ act. WasGiven (before ++ turn ∷ []) (want_of act)) turn.acts × AllByRecursion (WasGiven (before ++ turn ∷ [])) left
given_before watch before turn left empty are is =
    let holds : Holds (WasGiven (before ++ turn ∷ [])) watch.guards = λ place held found. absurd (let none = empty place in cc) in
    let first = turns_all (WasGiven (before ++ turn ∷ [])) before watch are (given_each [] before (turn ∷ [])) holds in
    let last = turn_all (WasGiven (before ++ turn ∷ [])) turn (after_turns before watch) left is (want_here before turn [] turn.want refl) first.1 in
    (last.0, last.2)

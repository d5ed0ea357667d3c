-- Source: own.
-- The wants that turns were given.
use Rattle.std.specs.Prelude.{◌≡◌, ◌⊎◌, List, [], ◌∷◌, Some}
use Rattle.def_guards.specs.declared.guard.Due.{Due}
use Rattle.def_guards.specs.Turns.{Turn}

-- one of these turns was given it
abbrev pub WasGiven : List Turn → Due → Type 0
WasGiven [] want = ⊥
WasGiven (turn ∷ turns) want = (turn.want ≡ Some want) ⊎ WasGiven turns want

-- The kind of bytes at each edge, computed from the definitions alone.
use Rattle.std.proofs.Common.{◌≡◌, ℕ, zero, suc, List, [], ◌∷◌, ◌++◌, refl}
use Rattle.std.specs.Prelude.{codes}
use Rattle.def_log.specs.declared.kind.DiskKind.TheVariants.{Idle, Plain, State, Other}
use Rattle.def_log.specs.InForce.{Foreign, Neither, First, Second}
use Rattle.def_log.specs.Kinds.{kind_of, in_force}

-- so many bytes of this value
abbrev bytes_of : ℕ → ℕ → List ℕ
bytes_of zero value = []
bytes_of (suc n) value = value ∷ bytes_of n value

-- ---- by length

empty : kind_of [] ≡ Idle
empty = refl

one_byte : kind_of (66 ∷ []) ≡ Idle
one_byte = refl

two_bytes : kind_of (codes "BO") ≡ Other
two_bytes = refl

-- a journal has its header and a gate: 42 bytes
no_gate : kind_of (codes "BOSSJRNL" ++ bytes_of 33 2) ≡ Other
no_gate = refl

a_gate : kind_of (codes "BOSSJRNL" ++ bytes_of 34 2) ≡ Plain
a_gate = refl

-- a kept state has at least 66
too_short_for_a_state : kind_of (codes "BOSSSNAP" ++ bytes_of 33 2 ++ 0 ∷ 0 ∷ 0 ∷ 0 ∷ 0 ∷ 0 ∷ 1 ∷ 2 ∷ bytes_of 16 0) ≡ Other
too_short_for_a_state = refl

a_state : kind_of (codes "BOSSSNAP" ++ bytes_of 33 2 ++ 0 ∷ 0 ∷ 0 ∷ 0 ∷ 0 ∷ 0 ∷ 1 ∷ 2 ∷ bytes_of 17 0) ≡ State 258
a_state = refl

-- ---- by the first byte: 0 is idle, and any other will do

first_byte_zero : kind_of (0 ∷ codes "OSSJRNL" ++ bytes_of 34 2) ≡ Idle
first_byte_zero = refl

first_byte_torn : kind_of (255 ∷ codes "OSSJRNL" ++ bytes_of 34 2) ≡ Plain
first_byte_torn = refl

another_program : kind_of (codes "SQLite format 3" ++ bytes_of 85 0) ≡ Other
another_program = refl

-- ---- pairs, each with each

foreign_first : in_force Other Idle ≡ Foreign
foreign_first = refl

foreign_second : in_force Plain Other ≡ Foreign
foreign_second = refl

foreign_behind_a_state : in_force (State 3) Other ≡ Foreign
foreign_behind_a_state = refl

foreign_behind_nothing : in_force Idle Other ≡ Foreign
foreign_behind_nothing = refl

journal_on_the_second : in_force Idle Plain ≡ Foreign
journal_on_the_second = refl

journals_on_both : in_force Plain Plain ≡ Foreign
journals_on_both = refl

journal_behind_a_state : in_force (State 3) Plain ≡ Foreign
journal_behind_a_state = refl

nothing_yet : in_force Idle Idle ≡ Neither
nothing_yet = refl

journal_alone : in_force Plain Idle ≡ First
journal_alone = refl

journal_and_state : in_force Plain (State 1) ≡ Second
journal_and_state = refl

state_alone : in_force (State 2) Idle ≡ First
state_alone = refl

state_on_the_second_alone : in_force Idle (State 1) ≡ Second
state_on_the_second_alone = refl

later_on_the_second : in_force (State 2) (State 3) ≡ Second
later_on_the_second = refl

later_on_the_first : in_force (State 4) (State 3) ≡ First
later_on_the_first = refl

-- generations go round
after_the_last : in_force (State 18446744073709551615) (State 0) ≡ Second
after_the_last = refl

last_on_the_second : in_force (State 0) (State 18446744073709551615) ≡ First
last_on_the_second = refl

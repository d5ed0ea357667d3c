-- Source: own.
use Rattle.std.specs.Prelude.{◌≡◌, ◌≢◌, ℕ, ◌+◌, ◌<◌, ◌≤◌, List, [], ◌++◌, length, slice_index}
use Rattle.boss_outside.specs.Counts.{Rose}
use Rattle.boss_outside.specs.declared.source.Got.{Got}
use Rattle.boss_outside.specs.declared.source.Got.TheVariants.{Bytes, Finish, Failed}
use Rattle.boss_model.specs.Limits.{longest_line}
use Rattle.boss_lines.specs.declared.window.Found.{Found}
use Rattle.boss_lines.specs.declared.window.Found.TheVariants.{LineEnd, SourceEnd, TooFar, Fault}

-- none of the first bytes, this many, ends a line
abbrev pub NoLineEnd : ℕ → List ℕ → Type 0
NoLineEnd count bytes = (k : ℕ) → k < count → slice_index bytes k ≢ 10

-- more bytes than a line may have come before the first line end
abbrev pub IsTooLong : List ℕ → Type 0
IsTooLong bytes = (longest_line < length bytes) × NoLineEnd (longest_line + 1) bytes

-- what a read adds to the bytes that are held
abbrev pub Adds : List ℕ → List ℕ → Got → Type 0
Adds old new (Bytes count) = (more : List ℕ) × (new ≡ old ++ more) × (length more ≡ count) × (1 ≤ count)
Adds old new Finish = new ≡ old
Adds old new Failed = new ≡ old

-- what the bytes that are held show, once the line end was sought
abbrev pub Shows : List ℕ → Found → Type 0
Shows bytes (LineEnd place) = NoLineEnd place bytes × (place < length bytes) × (slice_index bytes place ≡ 10) × (place ≤ longest_line)
Shows bytes SourceEnd = NoLineEnd (length bytes) bytes × (length bytes ≤ longest_line)
Shows bytes TooFar = IsTooLong bytes
Shows bytes Fault = NoLineEnd (length bytes) bytes

-- a line end was found
abbrev pub IsFound : Found → Type 0
IsFound found = (place : ℕ) × (found ≡ LineEnd place)

-- nothing is left of the source where its end was found
abbrev pub IsAtEnd : List ℕ → Found → Type 0
IsAtEnd left (LineEnd place) = Unit {0}
IsAtEnd left SourceEnd = left ≡ []
IsAtEnd left TooFar = Unit {0}
IsAtEnd left Fault = Unit {0}

-- a read failed exactly where the count rose
abbrev pub FoundCause : ℕ → ℕ → Found → Type 0
FoundCause before now (LineEnd place) = now ≡ before
FoundCause before now SourceEnd = now ≡ before
FoundCause before now TooFar = now ≡ before
FoundCause before now Fault = Rose before now

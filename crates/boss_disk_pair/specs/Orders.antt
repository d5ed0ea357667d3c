-- Source: own.
-- Two disks in their order, by whether the one in force is the second.
use Rattle.std.specs.Prelude.{Bool, true, false}
use Rattle.boss_disk.specs.Legs.{Two}
use Rattle.boss_disk.specs.Story.{Story}

-- what is said of a first and a second, told of the one in force and the other
abbrev pub InOrder : {X : Type 0} → (X → X → Type 0) → Bool → X → X → Type 0
InOrder P false active spare = P active spare
InOrder P true active spare = P spare active

abbrev pub first_of : {X : Type 0} → Bool → X → X → X
first_of false active spare = active
first_of true active spare = spare

abbrev pub second_of : {X : Type 0} → Bool → X → X → X
second_of false active spare = spare
second_of true active spare = active

abbrev pub stories_of : Bool → Story → Story → Two
stories_of second active spare = record { first = first_of second active spare; second = second_of second active spare }

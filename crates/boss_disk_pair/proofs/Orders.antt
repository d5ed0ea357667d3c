-- One of two disks moves while the other stands still, by whether the one in force is the second.
use Rattle.std.proofs.Common.{◌≡◌, ℕ, Bool, true, false, List, subst}
use Rattle.boss_disk.specs.Legs.{Legs, stand, LeaveBoth}
use Rattle.boss_disk.specs.Runs.{Since}
use Rattle.boss_disk.specs.Story.{Story}
use Rattle.boss_disk.specs.Window.{Window, IsImage}
use Rattle.boss_disk.proofs.Legs.{images_beside_first, images_beside_second}
use Rattle.boss_disk_pair.specs.Orders.{InOrder, stories_of}

-- what follows from what is said of two follows in their order
pub in_order : {X : Type 0} (P Q : X → X → Type 0) (second : Bool) (one other : X) → ((x y : X) → P x y → Q x y) → InOrder P second one other → InOrder Q second one other
in_order P Q false one other gives p = gives one other p
in_order P Q true one other gives p = gives other one p

-- and the other way round
pub is_second : {X : Type 0} (P : X → X → Type 0) (second : Bool) (one other : X) → second ≡ true → InOrder P second one other → P other one
is_second P second one other is p = subst (λ b. InOrder P b one other) is p

pub is_first : {X : Type 0} (P : X → X → Type 0) (second : Bool) (one other : X) → second ≡ false → InOrder P second one other → P one other
is_first P second one other is p = subst (λ b. InOrder P b one other) is p

-- the images of both, in their order
pub both_leave : (P : List ℕ → List ℕ → Type 0) (second : Bool) (one other : Window)
    → ((a b : List ℕ) → IsImage one a → IsImage other b → InOrder P second a b) → InOrder (LeaveBoth P) second one other
both_leave P false one other gives = gives
both_leave P true one other gives = λ a b first last. gives b a last first

pub both_left : (P : List ℕ → List ℕ → Type 0) (second : Bool) (one other : Window) (a b : List ℕ)
    → InOrder (LeaveBoth P) second one other → IsImage one a → IsImage other b → InOrder P second a b
both_left P false one other a b leave first last = leave a b first last
both_left P true one other a b leave first last = leave b a last first

-- neither moves
pub both_stand : (Q : Window → Window → Type 0) (second : Bool) (one other : Story) → InOrder Q second one.window other.window
    → Legs Q (stories_of second one other) (stories_of second one other)
both_stand Q false one other here = stand (stories_of false one other) here
both_stand Q true one other here = stand (stories_of true one other) here

-- the disk in force moves
pub one_moves : (P : List ℕ → List ℕ → Type 0) (Q : List ℕ → Type 0) (second : Bool) (old new still : Story)
    → ((a b : List ℕ) → Q a → IsImage still.window b → InOrder P second a b) → Since Q old new
    → Legs (LeaveBoth P) (stories_of second old still) (stories_of second new still)
one_moves P Q false old new still gives run = images_beside_second P Q old new still gives run
one_moves P Q true old new still gives run = images_beside_first P Q old new still (λ first last one two. gives last first two one) run

-- the other moves
pub other_moves : (P : List ℕ → List ℕ → Type 0) (Q : List ℕ → Type 0) (second : Bool) (still old new : Story)
    → ((a b : List ℕ) → IsImage still.window a → Q b → InOrder P second a b) → Since Q old new
    → Legs (LeaveBoth P) (stories_of second still old) (stories_of second still new)
other_moves P Q false still old new gives run = images_beside_first P Q old new still gives run
other_moves P Q true still old new gives run = images_beside_second P Q old new still (λ first last one two. gives last first two one) run

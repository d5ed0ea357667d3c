use Rattle.std.proofs.Common.{ℕ, List}
use Rattle.boss_disk.specs.Legs.{Two, Legs, stand, first_moves, second_moves, LeaveBoth}
use Rattle.boss_disk.specs.Runs.{Through, Leaves, Since}
use Rattle.boss_disk.specs.Story.{Story}
use Rattle.boss_disk.specs.Window.{Window, IsImage}
use Rattle.boss_disk.proofs.Runs.{weaker}

-- legs behind legs
pub then_legs : {Q : Window → Window → Type 0} {from mid to : Two} → Legs Q from mid → Legs Q mid to → Legs Q from to
then_legs (stand at here) rest = rest
then_legs (first_moves from by mid run more) rest = first_moves from by _ run (then_legs more rest)
then_legs (second_moves from by mid run more) rest = second_moves from by _ run (then_legs more rest)

-- what holds of each pair of one kind holds all the way
pub weaker_legs : {Q R : Window → Window → Type 0} {from to : Two} → ((first second : Window) → Q first second → R first second)
    → Legs Q from to → Legs R from to
weaker_legs gives (stand at here) = stand at (gives at.first.window at.second.window here)
weaker_legs gives (first_moves from by to run more) =
    first_moves from by to (weaker from.first by (λ window. gives window from.second.window) run) (weaker_legs gives more)
weaker_legs gives (second_moves from by to run more) =
    second_moves from by to (weaker from.second by (λ window. gives from.first.window window) run) (weaker_legs gives more)

-- the first disk moves while the second stands still
pub first_beside : {Q : Window → Type 0} {R : Window → Window → Type 0} (old new still : Story)
    → ((window : Window) → Q window → R window still.window) → Through Q old new
    → Legs R (record { first = old; second = still }) (record { first = new; second = still })
first_beside {Q} {R} old new still gives run =
    first_moves (record { first = old; second = still }) new (record { first = new; second = still })
    (weaker {Q = Q} {R = λ window. R window still.window} old new gives run)
    (stand (record { first = new; second = still }) (gives new.window run.last))

-- the second disk moves while the first stands still
pub second_beside : {Q : Window → Type 0} {R : Window → Window → Type 0} (old new still : Story)
    → ((window : Window) → Q window → R still.window window) → Through Q old new
    → Legs R (record { first = still; second = old }) (record { first = still; second = new })
second_beside {Q} {R} old new still gives run =
    second_moves (record { first = still; second = old }) new (record { first = still; second = new })
    (weaker {Q = Q} {R = λ window. R still.window window} old new gives run)
    (stand (record { first = still; second = new }) (gives new.window run.last))

-- the images of a run of the first disk, each beside each image of the second
pub images_beside_second : (P : List ℕ → List ℕ → Type 0) (Q : List ℕ → Type 0) (old new still : Story)
    → ((first second : List ℕ) → Q first → IsImage still.window second → P first second) → Since Q old new
    → Legs (LeaveBoth P) (record { first = old; second = still }) (record { first = new; second = still })
images_beside_second P Q old new still gives run =
    first_beside {Q = Leaves Q} {R = LeaveBoth P} old new still
    (λ window leaves first second one two. gives first second (leaves first one) two) run

-- the images of a run of the second disk, each beside each image of the first
pub images_beside_first : (P : List ℕ → List ℕ → Type 0) (Q : List ℕ → Type 0) (old new still : Story)
    → ((first second : List ℕ) → IsImage still.window first → Q second → P first second) → Since Q old new
    → Legs (LeaveBoth P) (record { first = still; second = old }) (record { first = still; second = new })
images_beside_first P Q old new still gives run =
    second_beside {Q = Leaves Q} {R = LeaveBoth P} old new still
    (λ window leaves first second one two. gives first second one (leaves second two)) run

-- what holds of each pair on the way holds of the last
pub legs_last : {Q : Window → Window → Type 0} {from to : Two} → Legs Q from to → Q to.first.window to.second.window
legs_last (stand at here) = here
legs_last (first_moves from by to run more) = legs_last more
legs_last (second_moves from by to run more) = legs_last more

-- Stories of two disks behind what was told before, and up to where both are given back.
use Rattle.std.proofs.Common.{◌≡◌, ◌++◌, inl, ℕ, List, [], ◌∷◌, refl, sym, ap, ◌∙◌, subst, append_assoc}
use Rattle.std.specs.List.{flat_map}
use Rattle.std.proofs.lemmas.List.Elements.{All-push, All-nil}
use Rattle.boss_disk.specs.Legs.{Two, Legs, stand, first_moves, second_moves, LeaveBoth}
use Rattle.boss_disk.specs.Runs.{Through}
use Rattle.boss_disk.specs.Story.{Story}
use Rattle.boss_disk.specs.Window.{Window, IsImage, settled}
use Rattle.boss_disk.proofs.Legs.{legs_last, then_legs, weaker_legs}
use Rattle.boss_disk.proofs.Torn.{settled_image}
use Rattle.boss_disk_pair.specs.Images.{OpensTo, OpensToOne}
use Rattle.boss_model.specs.declared.state.Actuator.{Actuator}
use Rattle.boss_model.specs.State.{Persistent, State}
use Rattle.boss_opening.specs.Opens.{WhileLooked}
use Rattle.boss_pair_find.specs.Two.{MightLeave}
use Rattle.boss_shared.specs.Walking.{WalksBy}
use Rattle.boss_shared.proofs.Walks.{walks_lead}
use Rattle.def_history.specs.declared.entry.Entry.{Entry}
use Rattle.def_history.specs.History.{run}
use Rattle.boss_jobs.specs.Crashes.{Steps}

-- ---- behind what was told before

abbrev pub later : List Window → Story → Story
later before story = record { past = before ++ story.past; window = story.window }

abbrev pub both_later : List Window → List Window → Two → Two
both_later before other two = record { first = later before two.first; second = later other two.second }

through-later : {Q : Window → Type 0} (before : List Window) (old new : Story) → Through Q old new → Through Q (later before old) (later before new)
through-later {Q} before old new run = record {
  more = run.more;
  goes_on = ap (λ past. before ++ past) run.goes_on ∙ sym (append_assoc before old.past run.more);
  each = run.each;
  last = run.last;
}

pub legs-later : {Q : Window → Window → Type 0} {from to : Two} (before other : List Window) → Legs Q from to → Legs Q (both_later before other from) (both_later before other to)
legs-later before other (stand at here) = stand (both_later before other at) here
legs-later before other (first_moves from by to run more) =
    first_moves (both_later before other from) (later before by) (both_later before other to) (through-later before from.first by run) (legs-later before other more)
legs-later before other (second_moves from by to run more) =
    second_moves (both_later before other from) (later other by) (both_later before other to) (through-later other from.second by run) (legs-later before other more)

pub steps-later : (plant : List Actuator) (digest : List ℕ) (before other : List Window) (s : State) (from : Two) (made : List Entry) (to : Two) →
    Steps plant digest s from made to → Steps plant digest s (both_later before other from) made (both_later before other to)
steps-later plant digest before other s from made to steps =
    walks_lead plant (λ old new a b. Legs (LeaveBoth (OpensToOne plant digest a b)) old new) (λ old new a b. Legs (LeaveBoth (OpensToOne plant digest a b)) old new)
    (both_later before other) (λ at. Unit {0}) (λ old new a b _ legs. (tt, legs-later before other legs)) s from made to tt steps

-- ---- up to where both are given back

-- each image of the one is one of the other
abbrev pub Within : Window → Window → Type 0
Within one other = (bytes : List ℕ) → IsImage one bytes → IsImage other bytes

-- the disks go on, and no image comes that there was not
abbrev pub Quietly : Two → Two → Type 0
Quietly from to = Legs (λ first second. Within first from.first.window × Within second from.second.window) from to

-- what a crash leaves at the beginning it leaves all along
pub quiet-legs : (P : List ℕ → List ℕ → Type 0) (from to : Two) → Quietly from to → LeaveBoth P from.first.window from.second.window → Legs (LeaveBoth P) from to
quiet-legs P from to quiet here = weaker_legs (λ first second within a b at there. here a b (within.0 a at) (within.1 b there)) quiet

pub then-quiet : (P : List ℕ → List ℕ → Type 0) (from mid to : Two) → Legs (LeaveBoth P) from mid → Quietly mid to → Legs (LeaveBoth P) from to
then-quiet P from mid to legs quiet = then_legs legs (quiet-legs P mid to quiet (legs_last legs))

-- it was only looked at
pub quiet-looked : (from to : Two) → Quietly from to → WhileLooked from to
quiet-looked from to quiet = quiet-legs (MightLeave from.first.window from.second.window) from to quiet (λ a b one other. (one, other))

pub still-looked : (from to : Two) → to ≡ from → WhileLooked from to
still-looked from to same = subst (WhileLooked from) (sym same) (stand from (λ a b one other. (one, other)))

module _ (plant : List Actuator) (digest : List ℕ) where
  abbrev passes : Two → Two → Persistent → Persistent → Type 0
  passes old new a b = Legs (LeaveBoth (OpensToOne plant digest a b)) old new

  quiet-by : (s : State) (from mid to : Two) (made : List Entry) (parts : List (List Entry)) → WalksBy plant passes s from (made ∷ parts) mid → Quietly mid to →
      WalksBy plant passes s from (made ∷ parts) to
  quiet-by s from mid to made [] first quiet = (
    to,
    (first.1.0, first.1.1, then-quiet _ from first.0 to first.1.2 (subst (λ at. Quietly at to) first.2 quiet)),
    refl,
  )
  quiet-by s from mid to made (next ∷ parts) first quiet = (first.0, first.1, quiet-by (run plant made s) first.0 mid to next parts first.2 quiet)

  quiet-parts : (s : State) (from mid to : Two) (made : List Entry) (parts : List (List Entry)) → made ≡ flat_map (λ part. part) parts → WalksBy plant passes s from parts mid →
      LeaveBoth (OpensTo plant digest s.persistent) from.first.window from.second.window → Quietly mid to → Steps plant digest s from made to
  quiet-parts s from mid to made [] joined here stands quiet = record {
    parts = [] ∷ [];
    joined = joined;
    by = (to, (0, tt, quiet-legs (OpensToOne plant digest s.persistent s.persistent) from to (subst (λ at. Quietly at to) here quiet) (λ a b at there. inl (stands a b at there))), refl);
  }
  quiet-parts s from mid to made (part ∷ parts) joined by stands quiet =
      record { parts = part ∷ parts; joined = joined; by = quiet-by s from mid to part parts by quiet }

  -- the last call goes on until then
  pub steps-quietly : (s : State) (from mid to : Two) (made : List Entry) → Steps plant digest s from made mid →
      LeaveBoth (OpensTo plant digest s.persistent) from.first.window from.second.window → Quietly mid to → Steps plant digest s from made to
  steps-quietly s from mid to made steps stands quiet = quiet-parts s from mid to made steps.parts steps.joined steps.by stands quiet

-- a disk is given back, of which this is read
abbrev pub shut : Story → List ℕ → Story
shut story bytes = record { past = story.past ++ story.window ∷ []; window = settled bytes }

shuts : {Q : Window → Type 0} (story : Story) (bytes : List ℕ) → Q story.window → Q (settled bytes) → Through Q story (shut story bytes)
shuts {Q} story bytes here there = record { more = story.window ∷ []; goes_on = refl; each = All-push Q [] story.window (All-nil Q) here; last = there }

within-read : (window : Window) (bytes : List ℕ) → IsImage window bytes → Within (settled bytes) window
within-read window bytes image other at = subst (IsImage window) (sym (settled_image bytes other at)) image

pub shut-quietly : (at : Two) (first second : List ℕ) → IsImage at.first.window first → IsImage at.second.window second →
    Quietly at (record { first = shut at.first first; second = shut at.second second })
shut-quietly at first second one other =
    let end : Two = record { first = shut at.first first; second = shut at.second second } in
    first_moves at (shut at.first first) end
    (shuts {Q = λ window. Within window at.first.window × Within at.second.window at.second.window} at.first first
    (λ a is. is, λ b is. is) (within-read at.first.window first one, λ b is. is))
    (second_moves (record { first = shut at.first first; second = at.second }) (shut at.second second) end
    (shuts {Q = λ window. Within (settled first) at.first.window × Within window at.second.window} at.second second
    (within-read at.first.window first one, λ b is. is) (within-read at.first.window first one, within-read at.second.window second other))
    (stand end (within-read at.first.window first one, within-read at.second.window second other)))

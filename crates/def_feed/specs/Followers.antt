-- Source: own.
-- What a second journal makes of the lines of a feed. It is a function but for three points, which stay relations, so that no
-- parser and no test for soundness stands in a definition: which item a line is, which event bytes are, and which state.
use Rattle.std.specs.Prelude.{◌≡◌, ◌⊎◌, ℕ, ◌+◌, ◌-◌, ◌^◌, nat_lt, nat_le, ◌==◌, min, Bool, true, ◌&&◌, if◌then◌else◌, List, [], ◌∷◌, ◌++◌, length, Option, Some, None, MatchBool}
use Rattle.boss_model.specs.declared.event.Event.{Event}
use Rattle.boss_model.specs.declared.state.Actuator.{Actuator}
use Rattle.boss_model.specs.Acts.{replay}
use Rattle.boss_model.specs.Limits.{last_number, longest_line}
use Rattle.boss_model.specs.Lines.{is_blank}
use Rattle.boss_model.specs.Sound.{IsSoundPersistent}
use Rattle.boss_model.specs.State.{Persistent}
use Rattle.def_bytes.specs.Events.{event}
use Rattle.def_bytes.specs.States.{state}
use Rattle.def_feed.specs.Feeds.{longest_part}
use Rattle.def_feed.specs.Items.{Item, StateLine, PartLine, EventLine, Reads}

-- ---- what is kept of the lines so far

-- Nothing is under way; or a state is passed over, and so many of its bytes are to come; or a state of this number and so many
-- bytes is to be taken, and these have come.
pub data Place : Type 0 where
  Between : Place
  Passing : ℕ → Place
  Taking : ℕ → ℕ → List ℕ → Place

-- what a follower's journal opens to, after how many events, and what is under way
pub record Follower : Type 0 where
  pub lasting : Persistent
  pub count : ℕ
  pub place : Place

abbrev pub between : Persistent → ℕ → Follower
between d count = record { lasting = d; count = count; place = Between }

-- ---- one item

-- It goes on; or the line is at fault; or events are missing, after the one number and up to the other; or it comes to the event
-- that is next, or to the end of a state of this number, by their bytes.
pub data Step : Type 0 where
  On : Follower → Step
  Fault : Step
  Gap : ℕ → ℕ → Step
  Next : List ℕ → Step
  Whole : ℕ → List ℕ → Step

-- bytes of a state at most: 128 MiB
abbrev pub largest_state : ℕ
largest_state = 2 ^ 27

-- a state that is passed over, with so many bytes to come
abbrev pub passing : Follower → ℕ → Step
passing f left = On (record f { place = if left == 0 then Between else Passing left })

-- a state that is to be taken, of which these bytes have come
abbrev pub taking : Follower → ℕ → ℕ → List ℕ → Step
taking f number size bytes = if length bytes == size then Whole number bytes else On (record f { place = Taking number size bytes })

-- A part has as many bytes as are due, neither more nor fewer.
abbrev pub is_due : ℕ → List ℕ → Bool
is_due left bytes = length bytes == min longest_part left

abbrev pub of_state : Follower → ℕ → ℕ → Step
of_state f number size =
    if nat_le number last_number && nat_le size largest_state
    then (if nat_le number f.count then passing f size else taking f number size []) else Fault

-- An event that is known already is passed over, whatever its bytes are.
abbrev pub of_event : Follower → ℕ → List ℕ → Step
of_event f number bytes =
    if nat_le number f.count then On f else
    (if nat_lt (f.count + 1) number then Gap f.count number else
    (if nat_le number last_number then Next bytes else Fault))

abbrev pub step_at : Follower → Place → Item → Step
step_at f Between (StateLine number size) = of_state f number size
step_at f Between (EventLine number bytes) = of_event f number bytes
step_at f (Passing left) (PartLine bytes) = if is_due left bytes then passing f (left - length bytes) else Fault
step_at f (Taking number size bytes) (PartLine more) = if is_due (size - length bytes) more then taking f number size (bytes ++ more) else Fault
step_at f place item = Fault

abbrev pub step_of : Follower → Item → Step
step_of f item = step_at f f.place item

-- ---- what bytes are

-- the bytes are an event that leads from one state to the other
pub record IsEvent (plant : List Actuator) (from : Persistent) (bytes : List ℕ) (to : Persistent) : Type 0 where
  pub made : Event
  pub fits : event.fits made ≡ true
  pub spelled : bytes ≡ event.text made
  pub leads : replay plant made from ≡ Some to

-- the bytes are a state that is sound
pub record IsState (plant : List Actuator) (bytes : List ℕ) (d : Persistent) : Type 0 where
  pub fits : (state 2).fits d ≡ true
  pub spelled : bytes ≡ (state 2).text d
  pub sound : IsSoundPersistent plant d

-- ---- lines

-- What came of lines: they were read through; or one was longer than a line may be, or at fault, or of an event that is not next.
-- The follower is as it was before that line. Lines are numbered from 1.
pub data Outcome : Type 0 where
  Through : Follower → Outcome
  TooLong : Follower → Outcome
  BadLine : ℕ → Follower → Outcome
  Late : ℕ → ℕ → Follower → Outcome

-- something is said of the state that there is of this kind; or there is none
abbrev pub IfAny : (Persistent → Type 0) → (Persistent → Type 0) → Type 0 → Type 0
IfAny Is Said other = ((d : Persistent) × Is d × Said d) ⊎ (((d : Persistent) → Is d → ⊥) × other)

-- what comes of an item in the line of this number, and then of the rest
abbrev pub OnStep : List Actuator → Follower → ℕ → (Follower → Type 0) → Outcome → Step → Type 0
OnStep plant f number Rest outcome (On next) = Rest next
OnStep plant f number Rest outcome Fault = outcome ≡ BadLine number f
OnStep plant f number Rest outcome (Gap have found) = outcome ≡ Late have found f
OnStep plant f number Rest outcome (Next bytes) = IfAny (IsEvent plant f.lasting bytes) (λ d. Rest (between d (f.count + 1))) (outcome ≡ BadLine number f)
OnStep plant f number Rest outcome (Whole many bytes) = IfAny (IsState plant bytes) (λ d. Rest (between d many)) (outcome ≡ BadLine number f)

-- what comes of a line that was read as an item, or as none
abbrev pub OnRead : List Actuator → Follower → ℕ → (Follower → Type 0) → Outcome → Option Item → Type 0
OnRead plant f number Rest outcome None = outcome ≡ BadLine number f
OnRead plant f number Rest outcome (Some item) = OnStep plant f number Rest outcome (step_of f item)

-- What a follower makes of lines, the first of which has this number: a line that is too long ends it, a blank one is passed over.
abbrev pub Follows : List Actuator → Follower → ℕ → List (List ℕ) → Outcome → Type 0
Follows plant f number [] outcome = outcome ≡ Through f
Follows plant f number (line ∷ lines) outcome =
    MatchBool (nat_le (length line) longest_line)
    (MatchBool (is_blank line) (Follows plant f (number + 1) lines outcome)
    ((read : Option Item) × Reads line read × OnRead plant f number (λ next. Follows plant next (number + 1) lines outcome) outcome read))
    (outcome ≡ TooLong f)

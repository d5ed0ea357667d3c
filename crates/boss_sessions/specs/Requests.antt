-- Source: own.
-- What one line is: a request, which is held, or something else.
use Rattle.std.specs.Prelude.{◌≡◌, ℕ, ◌≤◌, Bool, false, List, [], ◌∷◌, ◌++◌, Option, Some, None}
use Rattle.boss_model.specs.declared.command.Command.{Command}
use Rattle.boss_model.specs.Limits.{last_moment}
use Rattle.boss_outside.specs.Counts.{Rose}
use Rattle.def_connection.specs.Speech.{Reading, asks, watches, refuses, forbids, Footing, Manner, after, after_unread}
use Rattle.boss_sessions.specs.declared.heard.Heard.{Heard}
use Rattle.boss_sessions.specs.declared.heard.Heard.TheVariants.{Requests, Refused, Unread, Watch, Untimed, WrongKey}

-- nothing is held that was not, and the clock gave no moment
abbrev pub HoldsNone : Type 0 → List (Command × ℕ) → List (Command × ℕ) → List ℕ → List ℕ → Type 0
HoldsNone ticks calls calls' given given' = (calls' ≡ calls) × (ticks → given' ≡ given)

-- the command is held at a moment that the clock gave
abbrev pub HoldsOne : Type 0 → Command → List (Command × ℕ) → List (Command × ℕ) → List ℕ → List ℕ → Type 0
HoldsOne ticks command calls calls' given given' =
    (moment : ℕ) × (moment ≤ last_moment) × (calls' ≡ calls ++ (command, moment) ∷ []) × (ticks → given' ≡ given ++ moment ∷ [])

abbrev pub Holds : Type 0 → Command → List (Command × ℕ) → List (Command × ℕ) → List ℕ → List ℕ → Heard → Type 0
Holds ticks command calls calls' given given' Requests = HoldsOne ticks command calls calls' given given'
Holds ticks command calls calls' given given' Unread = HoldsNone ticks calls calls' given given'
Holds ticks command calls calls' given given' Untimed = HoldsNone ticks calls calls' given given'
Holds ticks command calls calls' given given' other = ⊥

-- a line that is not blank, by its reading
abbrev pub Hears : Reading → Type 0 → Bool → List (Command × ℕ) → List (Command × ℕ) → List ℕ → List ℕ → Heard → Type 0
Hears reading ticks later calls calls' given given' Requests = (command : Command) × (reading ≡ asks command) × HoldsOne ticks command calls calls' given given'
Hears reading ticks later calls calls' given given' (Refused why) = (reading ≡ refuses why) × HoldsNone ticks calls calls' given given'
Hears reading ticks later calls calls' given given' Unread = HoldsNone ticks calls calls' given given'
Hears reading ticks later calls calls' given given' (Watch name from) = (reading ≡ watches name from) × (later ≡ false) × (1 ≤ from) × HoldsNone ticks calls calls' given given'
Hears reading ticks later calls calls' given given' Untimed = (command : Command) × (reading ≡ asks command) × HoldsNone ticks calls calls' given given'
Hears reading ticks later calls calls' given given' WrongKey = (reading ≡ forbids) × HoldsNone ticks calls calls' given given'
Hears reading ticks later calls calls' given given' other = ⊥

abbrev pub footing : Bool → Option (List ℕ) → Footing
footing later known = record { later = later; known = known }

-- on what footing the next line is read: a line for which there was no memory shows nothing
abbrev pub after_heard : Manner → Footing → List ℕ → Heard → Footing
after_heard manner at line Unread = after_unread at
after_heard manner at line other = after manner at line

-- the name that is known behind a line that shows its key
abbrev pub known_behind : Heard → List ℕ → Option (List ℕ)
known_behind Unread name = None
known_behind other name = Some name

-- the clock failed exactly where its count rose
abbrev pub ClockCause : ℕ → ℕ → Heard → Type 0
ClockCause before now Untimed = Rose before now
ClockCause before now other = now ≡ before

-- Source: own.
-- Requests that are held, and what came behind them.
use Rattle.std.specs.Prelude.{◌≡◌, ℕ, ◌<◌, ◌≤◌, false, List, [], ◌∷◌, ◌++◌, map}
use Rattle.boss_model.specs.declared.command.Command.{Command}
use Rattle.def_connection.specs.Batches.{AreAsked}
use Rattle.def_connection.specs.Losing.{spoken_of}
use Rattle.def_connection.specs.Speech.{asks, watches, refuses, forbids, Footing, Manner, after, after_lines, after_unread}
use Rattle.boss_sessions.specs.declared.heard.Heard.{Heard}
use Rattle.boss_sessions.specs.declared.heard.Heard.TheVariants.{Requests, Refused, Unread, Watch, Untimed, WrongKey}
use Rattle.boss_sessions.specs.Places.{Place, Advances, IsOpen, IsAtStop}

-- the line that came behind the requests, which has no request that is held; and where more may come, on what footing
abbrev pub IsBehind : Manner → Footing → Footing → List (List ℕ) → Heard → Type 0
IsBehind manner at at' behind Requests = (behind ≡ []) × (at' ≡ at)
IsBehind manner at at' behind (Refused why) = (line : List ℕ) × (behind ≡ line ∷ []) × (manner.reading at line ≡ refuses why) × (at' ≡ after manner at line)
IsBehind manner at at' behind Unread = (line : List ℕ) × (behind ≡ line ∷ []) × (at' ≡ after_unread at)
IsBehind manner at at' behind (Watch name from) = (line : List ℕ) × (behind ≡ line ∷ []) × (manner.reading at line ≡ watches name from) × (at.later ≡ false) × (1 ≤ from)
IsBehind manner at at' behind Untimed = (line : List ℕ) × (behind ≡ line ∷ []) × ((command : Command) × (manner.reading at line ≡ asks command))
IsBehind manner at at' behind WrongKey = (line : List ℕ) × (behind ≡ line ∷ []) × (manner.reading at line ≡ forbids)
IsBehind manner at at' behind other = behind ≡ []

-- lines were taken: those of the requests that are held, each at a moment that the clock gave, and what came behind them
pub record Gathered (manner : Manner) (heeds ticks : Type 0) (at at' : Footing) (calls calls' : List (Command × ℕ))
    (given given' : List ℕ) (old new : Place) (heard : Heard) : Type 0 where
  pub waiting : List (List ℕ)
  pub more : List (Command × ℕ)
  pub behind : List (List ℕ)
  pub asked : AreAsked manner at waiting more
  pub held : calls' ≡ calls ++ more
  pub behind_is : IsBehind manner (after_lines manner at waiting) at' behind heard
  pub gave : ticks → given' ≡ given ++ map (λ call. call.1) more
  pub all : List (List ℕ)
  pub spoken : waiting ++ behind ≡ spoken_of all
  pub advances : Advances heeds all old new

-- how the lines stand then
abbrev pub HeardEnd : Type 0 → Place → Heard → Type 0
HeardEnd heeds place Requests = IsOpen heeds place
HeardEnd heeds place (Refused why) = IsOpen heeds place
HeardEnd heeds place Unread = IsOpen heeds place
HeardEnd heeds place (Watch name from) = IsOpen heeds place
HeardEnd heeds place Untimed = IsOpen heeds place
HeardEnd heeds place WrongKey = IsOpen heeds place
HeardEnd heeds place other = IsAtStop heeds place other

-- where more may come, fewer lines may be taken
abbrev pub GoesOn : ℕ → ℕ → Heard → Type 0
GoesOn before now Requests = now < before
GoesOn before now (Refused why) = now < before
GoesOn before now Unread = now < before
GoesOn before now other = Unit {0}

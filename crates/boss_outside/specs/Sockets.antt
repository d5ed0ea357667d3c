-- Source: own.
-- What one call does to a socket, and the socket in memory.
use Rattle.std.specs.Prelude.{◌≡◌, ◌⊎◌, ℕ, ◌≤◌, List, [], ◌∷◌, ◌++◌, take, Result, Ok, Err}
use Rattle.boss_outside.specs.Counts.{Rose}
use Rattle.boss_outside.specs.Plan.{Plan, new_plan}
use Rattle.boss_outside.specs.declared.datagrams.Heard.{Heard}
use Rattle.boss_outside.specs.declared.datagrams.Heard.TheVariants as heard

-- a datagram was sent whole; one whose send failed may have been
abbrev pub Sends : {T E : Type 0} → List (List ℕ) → List (List ℕ) → List ℕ → Result T E → Type 0
Sends old new bytes (Ok _) = new ≡ old ++ bytes ∷ []
Sends old new bytes (Err _) = (new ≡ old) ⊎ (new ≡ old ++ bytes ∷ [])

abbrev pub gained : List ℕ → Heard → List (List ℕ)
gained into (heard.Datagram count) = take count into ∷ []
gained into heard.Silence = []
gained into heard.Failed = []

abbrev pub Fits : ℕ → Heard → Type 0
Fits room (heard.Datagram count) = count ≤ room
Fits room heard.Silence = Unit {0}
Fits room heard.Failed = Unit {0}

abbrev pub HearCause : ℕ → ℕ → Heard → Type 0
HearCause before now (heard.Datagram count) = now ≡ before
HearCause before now heard.Silence = now ≡ before
HearCause before now heard.Failed = Rose before now

abbrev pub silence_in : Heard → ℕ
silence_in (heard.Datagram count) = 0
silence_in heard.Silence = 1
silence_in heard.Failed = 0

-- a socket in memory: what it gives, one after the other, where a datagram without a byte stands for silence; how many of these it
-- gave; and all that went over it
pub record Wire : Type 0 where
  pub contents : List (List ℕ)
  pub given : ℕ
  pub sent : List (List ℕ)
  pub received : List (List ℕ)
  pub silences : ℕ
  pub hosts : List (List ℕ)
  pub plan : Plan

-- one before its first call
abbrev pub new_wire : List (List ℕ) → List ℕ → Wire
new_wire contents fails = record {
  contents = contents;
  given = 0;
  sent = [];
  received = [];
  silences = 0;
  hosts = [];
  plan = new_plan fails;
}

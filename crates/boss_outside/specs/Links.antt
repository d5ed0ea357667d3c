-- Source: own.
use Rattle.std.specs.Prelude.{◌≡◌, ◌⊎◌, ℕ, Bool, false, List, [], ◌∷◌, ◌++◌, take, Result, Ok, Err}
use Rattle.boss_outside.specs.declared.source.Got.{Got}
use Rattle.boss_outside.specs.declared.source.Got.TheVariants.{Bytes, Finish, Failed}
use Rattle.boss_outside.specs.Plan.{Plan, new_plan}
use Rattle.boss_outside.specs.Stores.{Supply, bytes_left}
use Rattle.boss_outside.specs.Streams.{Reads}

-- the hosts that a link was connected to, after one connect more: one that failed may have reached its host
abbrev pub Connects : {T E : Type 0} → List (List ℕ) → List (List ℕ) → List ℕ → Result T E → Type 0
Connects old new host (Ok _) = new ≡ old ++ host ∷ []
Connects old new host (Err _) = (new ≡ old) ⊎ (new ≡ old ++ host ∷ [])

-- the bytes that a receive gave
abbrev pub gained : List ℕ → Got → List ℕ
gained into (Bytes count) = take count into
gained into Finish = []
gained into Failed = []

-- what a receive does to the bytes that were received and to those that are left
pub record Receives (received received' left left' into : List ℕ) (got : Got) : Type 0 where
  pub reads : Reads left left' into got
  pub gains : received' ≡ received ++ gained into got

-- a link in memory: what each connection gives and at most how much at a time, this connection, and all that went over it
pub record Line : Type 0 where
  pub contents : List (List ℕ)
  pub most : ℕ
  pub source : Supply
  pub sent : List ℕ
  pub received : List ℕ
  pub hosts : List (List ℕ)
  pub connected : Bool
  pub plan : Plan

-- the bytes that its connection still gives
abbrev pub line_left : Line → List ℕ
line_left line = bytes_left line.source

-- a link in memory before its first call
abbrev pub new_line : List (List ℕ) → ℕ → List ℕ → Line
new_line contents most fails = record {
  contents = contents;
  most = most;
  source = record { held = []; given = 0; plan = new_plan [] };
  sent = [];
  received = [];
  hosts = [];
  connected = false;
  plan = new_plan fails;
}

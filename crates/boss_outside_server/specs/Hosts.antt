-- Source: own.
use Rattle.std.specs.Prelude.{◌≡◌, ℕ, ◌+◌, ◌<◌, ◌≤◌, Bool, true, false, List, [], ◌∷◌, ◌++◌, Option, Result, Ok, Err}
use Rattle.std.specs.List.{AllByRecursion}
use Rattle.boss_outside.specs.Counts.{Rose}
use Rattle.boss_outside.specs.Notes.{IsUnread}
use Rattle.boss_outside.specs.Plan.{Plan, new_plan}
use Rattle.boss_outside.specs.declared.source.ReadAt.{ReadAt}
use Rattle.boss_outside.specs.declared.source.Source as source
use Rattle.boss_outside.specs.declared.sink.Sink as sink
use Rattle.boss_outside_server.specs.declared.host.Accepted.{Accepted}
use Rattle.boss_outside_server.specs.declared.host.Accepted.TheVariants.{Conn, Closed, Failed}
use Rattle.boss_outside_server.specs.declared.list_host.Ended.{Ended}

-- an ended connection: its session, all bytes that its input held and those left of them, the bytes that its output took,
-- how many of its reads and writes failed, and at which point each read was made, where this was noted
pub record Served : Type 0 where
  pub session : ℕ
  pub held : List ℕ
  pub left : List ℕ
  pub taken : List ℕ
  pub read_faults : ℕ
  pub write_faults : ℕ
  pub reads : Option (List ReadAt)

-- an address is noted among those that are listened at; a call that failed changes none
abbrev pub Listens : {T E : Type 0} → List (List ℕ) → List (List ℕ) → List ℕ → Result T E → Type 0
Listens old new address (Ok _) = new ≡ old ++ address ∷ []
Listens old new address (Err _) = new ≡ old

module _ {I O : Type 0} (i : source.Ghosts I) (o : sink.Ghosts O) where
  -- the connection as it ended
  abbrev pub served_of : ℕ → I → O → Served
  served_of session input output = record {
    session = session;
    held = i.held input;
    left = i.left input;
    taken = o.taken output;
    read_faults = i.faults input;
    write_faults = o.faults output;
    reads = i.reads input;
  }

  -- nothing was read of the input, and nothing written to the output
  pub record IsUntouched (input : I) (output : O) : Type 0 where
    pub whole : i.left input ≡ i.held input
    pub empty : o.taken output ≡ []
    pub no_read_failed : i.faults input ≡ 0
    pub no_write_failed : o.faults output ≡ 0
    pub unread : IsUnread (i.reads input)

  -- a connection is handed out untouched
  abbrev pub IsFresh : Accepted I O → Type 0
  IsFresh (Conn input output) = IsUntouched input output
  IsFresh Closed = Unit {0}
  IsFresh Failed = Unit {0}

  -- no connection was touched
  abbrev pub AreUntouched : List (I × O) → Type 0
  AreUntouched = AllByRecursion (λ connection. IsUntouched connection.0 connection.1)

module _ {I O : Type 0} where
  -- a connection comes only where fewer than the share were handed out, and Closed only where all of it was; before and
  -- now are the numbers of those that were handed out, and away the number of those that are out after the call
  abbrev pub HandsOut : ℕ → ℕ → ℕ → ℕ → Accepted I O → Type 0
  HandsOut share before now away (Conn _ _) = (before < share) × (now ≡ before + 1) × (away ≡ 1)
  HandsOut share before now away Closed = (share ≤ before) × (now ≡ before) × (away ≡ 0)
  HandsOut share before now away Failed = (before < share) × (now ≡ before) × (away ≡ 0)

  -- the accept failed exactly where the count rose in it
  abbrev pub AcceptCause : ℕ → ℕ → Accepted I O → Type 0
  AcceptCause before now (Conn _ _) = now ≡ before
  AcceptCause before now Closed = now ≡ before
  AcceptCause before now Failed = Rose before now

  -- the connection that comes is the next one, and otherwise all stay
  abbrev pub TakesNext : List (I × O) → List (I × O) → Accepted I O → Type 0
  TakesNext old new (Conn input output) = old ≡ (input, output) ∷ new
  TakesNext old new Closed = new ≡ old
  TakesNext old new Failed = new ≡ old

  -- whether the accept failed
  abbrev pub is_failed : Accepted I O → Bool
  is_failed (Conn _ _) = false
  is_failed Closed = false
  is_failed Failed = true

-- a host in memory: the addresses that it listens at, the connections of the parts that are still to be split off, those that this one has still to hand
-- out, how many it handed out, how many it is to, how many are out, and those that came back
pub record Hosting (I O : Type 0) : Type 0 where
  pub listens : List (List ℕ)
  pub parts : List (List (I × O))
  pub waiting : List (I × O)
  pub handed : ℕ
  pub share : ℕ
  pub away : ℕ
  pub ended : List (Ended I O)
  pub plan : Plan

module _ {I O : Type 0} where
  -- a host of which no part was split off
  abbrev pub new_hosting : List (List (I × O)) → List ℕ → Hosting I O
  new_hosting parts fails = record {
    listens = [];
    parts = parts;
    waiting = [];
    handed = 0;
    share = 0;
    away = 0;
    ended = [];
    plan = new_plan fails;
  }

  -- the connections of the next part, and those of the parts behind it
  abbrev pub next_part : List (List (I × O)) → List (I × O)
  next_part [] = []
  next_part (part ∷ _) = part

  abbrev pub later_parts : List (List (I × O)) → List (List (I × O))
  later_parts [] = []
  later_parts (_ ∷ parts) = parts

-- Source: own.
-- What a worker left when it ended.
use Rattle.std.specs.Prelude.{◌≡◌, ℕ, suc, ◌+◌, ◌-◌, ◌*◌, ◌<◌, ◌≤◌, ◌^◌, min, Bool, true, false, List, [], ◌∷◌, length, map}
use Rattle.std.specs.List.{AllByRecursion}
use Rattle.def_history.specs.declared.entry.Entry.{Entry}
use Rattle.def_history.specs.History.{is_broken}
use Rattle.def_lanes.specs.Parts.{Terms, Part}
use Rattle.def_lanes.specs.Works.{Cut, not_cut, by_disk, by_clock, by_memory, Work, course_of, AreBefore, clock_cuts, served_in}
use Rattle.boss_outside_server.specs.Hosts.{Served}
use Rattle.boss_outside_server.specs.declared.host.Host as host
use Rattle.boss_worker.specs.declared.flags.Flags.{Flags}
use Rattle.boss_worker.specs.Troubles.{Counts}

-- the flag stands of what a work was cut off by
abbrev pub IsMarked : Flags → Cut → Type 0
IsMarked flags not_cut = Unit {0}
IsMarked flags by_disk = flags.disk ≡ true
IsMarked flags by_clock = flags.clock ≡ true
IsMarked flags by_memory = flags.memory ≡ true

abbrev pub IsFlagged : Flags → Work → Type 0
IsFlagged flags work = IsMarked flags (course_of work).cut

abbrev pub AreFlagged : Flags → List Work → Type 0
AreFlagged flags works = AllByRecursion (IsFlagged flags) works

-- the sessions of connections, in order
abbrev pub sessions_in : List Work → List ℕ
sessions_in works = map (λ served. served.session) (served_in works)

-- the first of the numbers is this one, and each later one is so much more than the one before
abbrev pub GoBySteps : ℕ → ℕ → List ℕ → Type 0
GoBySteps step first [] = Unit {0}
GoBySteps step first (number ∷ numbers) = (number ≡ first) × GoBySteps step (first + step) numbers

-- a part of a host before it handed out a connection
module _ {H In Out : Type 0} (h : host.Ghosts H In Out) where
  pub record IsFreshHost (host : H) : Type 0 where
    pub sound : h.sound host
    pub handed : h.handed host ≡ 0
    pub back : h.away host ≡ 0
    pub faults : h.faults host ≡ 0
    pub small : h.share host < 2 ^ 32

-- the connections that a worker served so far: each was given back under the next of its sessions, and agrees with the worker's
-- own entries
pub record SoFar (terms : Terms) (number : ℕ) (works : List Work) (own : List Entry) (served served' : List Served) (given given' : List ℕ)
    (handed next : ℕ) (flags : Flags) : Type 0 where
  pub part : Part terms number (suc number) works own served served' given given'
  pub each : length (served_in works) ≡ handed
  pub next_is : next ≡ 1 + number + terms.workers * handed
  pub numbered : GoBySteps terms.workers (1 + number) (sessions_in works)
  pub before : AreBefore next works
  pub flagged : AreFlagged flags works

-- what a worker left: its works agree with its own entries; each connection that it was handed was given back, and those are as
-- many as it was to serve unless an accept failed, the disk has, or it did not run; the first has a session one more than the number
-- of the worker, and each later one as many more as there are workers for connections; and the flags have their causes in its own
-- parts, of which the counts began with 0
pub record Left (ran : Bool) (terms : Terms) (number share : ℕ) (works : List Work) (own seen : List Entry) (served served' : List Served) (given given' : List ℕ)
    (handed host_faults clock_faults : ℕ) (flags : Flags) : Type 0 where
  pub part : Part terms number (suc number) works own served served' given given'
  pub each : length (served_in works) ≡ handed
  pub numbered : GoBySteps terms.workers (1 + number) (sessions_in works)
  pub whole : ran ≡ true → flags.host ≡ false → flags.disk ≡ false → handed ≡ share
  pub flagged : AreFlagged flags works
  pub hosted : Counts flags.host host_faults
  pub ticked : flags.disk ≡ false → Counts flags.clock clock_faults
  -- one failed reading of its clock cuts one work off
  pub cuts : flags.disk ≡ false → min (clock_cuts works) (2 ^ 64 - 1) ≤ clock_faults
  pub broken : flags.disk ≡ true → is_broken seen ≡ true

-- Source: own.
-- What several workers left, taken together.
use Rattle.std.specs.Prelude.{◌≡◌, ℕ, ◌+◌, ◌-◌, ◌^◌, ◌≤◌, min, Bool, true, false, List, length}
use Rattle.boss_outside.specs.Counts.{Rose}
use Rattle.def_history.specs.declared.entry.Entry.{Entry}
use Rattle.def_history.specs.History.{is_broken}
use Rattle.def_lanes.specs.Parts.{Terms, Part}
use Rattle.def_lanes.specs.Works.{Work, clock_cuts, served_in, works_of}
use Rattle.boss_outside_server.specs.Hosts.{Served}
use Rattle.boss_worker.specs.declared.flags.Flags.{Flags}
use Rattle.boss_worker.specs.Visits.{sessions_in, AreFlagged, GoBySteps}
use Rattle.boss_server.specs.Hosted.{Hosted, RoseBy}

-- a count rose exactly where the flag stands
abbrev pub RoseWhere : Bool → ℕ → ℕ → Type 0
RoseWhere true before now = Rose before now
RoseWhere false before now = now ≡ before

-- the workers with the numbers below n, whose parts are taken back: their works agree with the entries that the pass now has made;
-- as many connections were given back as the host handed out, and as they were to serve, unless one did not run, an accept failed, or
-- the disk has; and of those of one worker the first has a session one more than its number, and each later one as many more as there
-- are workers for connections, so that none has session 0
pub record Together (terms : Terms) (n shares : ℕ) (works : List Work) (own seen : List Entry) (served served' : List Served) (given given' : List ℕ)
    (hosted hosted' : Hosted) (ticked ticked' : ℕ) (flags : Flags) (unrun : Bool) : Type 0 where
  pub part : Part terms 0 n works own served served' given given'
  pub handed : RoseBy (length (served_in works)) hosted.handed hosted'.handed
  pub numbered : (number : ℕ) → GoBySteps terms.workers (1 + number) (sessions_in (works_of terms.workers number works))
  pub whole : unrun ≡ false → flags.host ≡ false → flags.disk ≡ false → length (served_in works) ≡ shares
  pub flagged : AreFlagged flags works
  pub host_count : RoseWhere flags.host hosted.faults hosted'.faults
  pub clock_count : flags.disk ≡ false → RoseWhere flags.clock ticked ticked'
  -- one failed reading of a clock cuts one work off
  pub cuts : flags.disk ≡ false → min (ticked + clock_cuts works) (2 ^ 64 - 1) ≤ ticked'
  pub broken : flags.disk ≡ true → is_broken seen ≡ true

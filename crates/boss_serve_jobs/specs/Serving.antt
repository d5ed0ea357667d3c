-- Source: own.
-- A server over a journal, or over memory alone: what it did, and how it ended.
use denote.Ref.{MutBor}
use Rattle.std.specs.declared.alloc.Global.{Global}
use Rattle.std.specs.declared.vec.Vec.{Vec}
use Rattle.std.specs.Prelude.{◌≡◌, ◌⊎◌, ℕ, ◌+◌, ◌<◌, true, false, nat_eq, Bool, ◌||◌, if◌then◌else◌, List, [], ◌∷◌, ◌++◌, length, take, drop, Option, Some}
use Rattle.std.specs.List.{AllByRecursion}
use Rattle.boss_model.specs.Catalogue.{Catalogue, actuators}
use Rattle.boss_model.specs.declared.event.Event.{Event}
use Rattle.boss_model.specs.declared.state.Actuator.{Actuator}
use Rattle.boss_model.specs.Settle.{first_state}
use Rattle.boss_model.specs.State.{State}
use Rattle.boss_outside.specs.Counts.{Rose}
use Rattle.boss_outside.specs.Streams.{TakesFront}
use Rattle.boss_outside.specs.declared.actuators.Actuators as actuators_of
use Rattle.boss_outside.specs.declared.sink.Sink as sink
use Rattle.boss_outside.specs.declared.source.Source as source
use Rattle.boss_outside_server.specs.Hosts.{Served as Connection}
use Rattle.boss_outside_server.specs.declared.clock.Clock as clock
use Rattle.boss_outside_server.specs.declared.host.Host as host
use Rattle.boss_outside_server.specs.declared.spawner.Spawner as spawner
use Rattle.boss_outside_server.specs.declared.waiter.Waiter as waiter
use Rattle.def_history.specs.declared.entry.Entry.{Entry}
use Rattle.def_history.specs.History.{events, is_broken, IsLegal, run}
use Rattle.boss_shared.specs.declared.keeper.Keeper as keeper
use Rattle.boss_shared.specs.Keeping.{IsHeld}
use Rattle.boss_worker.specs.declared.flags.Flags.{Flags}
use Rattle.boss_worker.specs.Keyed.{AreByKeys}
use Rattle.boss_worker.specs.Saying.{terms_of}
use Rattle.boss_keys.specs.declared.entry.Entry.{Entry as KeyEntry}
use Rattle.boss_shared.specs.Gates.{Gate}
use Rattle.boss_server.specs.Accounts.{Account}
use Rattle.boss_server.specs.Hosted.{hosted_at, RoseBy}
use Rattle.boss_server.specs.Kept.{drives_of}
use Rattle.boss_server.specs.Making.{GainsNoPause, StaysClock}
use Rattle.boss_server.specs.Together.{RoseWhere}
use Rattle.boss_server.specs.declared.outside.Outside.{Outside as Given}
use Rattle.boss_disk_pair.specs.Rests.{counted}
use Rattle.boss_opening.specs.Opens.{digest_of, OpenedAt}
use Rattle.boss_journal_lines.specs.Reports.{summary_line}
use Rattle.boss_serve_jobs.specs.declared.world.Surroundings.{Surroundings}
use Rattle.boss_serve_jobs.specs.declared.serving.Run.{Run}
use Rattle.boss_serve_jobs.specs.declared.serving.Run.TheVariants.{NotBound as not_bound, NoMemory, Ended}
use Rattle.boss_jobs.specs.Crashes.{WhileRun}
use Rattle.boss_jobs.specs.Journals.{HadNoJournal, HoldsAfter, Pair, RefusedJournal, StillStands}

-- ---- what a server has beside its files

pub record Outside (K A H C W P : Type 0) : Type 0 where
  pub sink : K
  pub devices : List A
  pub clock : C
  pub host : H
  pub waiter : W
  pub spawner : P

abbrev pub outside : {K A H C W P : Type 0} → K → List A → C → H → W → P → Outside K A H C W P
outside sink devices clock host waiter spawner = record { sink = sink; devices = devices; clock = clock; host = host; waiter = waiter; spawner = spawner }

-- the same without a sink
abbrev pub parts : {A H C W P : Type 0} → List A → C → H → W → P → Outside (Unit {0}) A H C W P
parts devices clock host waiter spawner = outside tt devices clock host waiter spawner

-- The same behind references: as they are, or as they were passed; and as a call left it that they were passed to.
abbrev pub at_start : {K A C H W P : Type 0} → Surroundings K A C H W P → Outside K A H C W P
at_start given = outside given.sink.now given.devices.now.items given.clock.now given.host.now given.waiter.now given.spawner.now

abbrev pub at_end : {K A C H W P : Type 0} → MutBor K × (MutBor (Vec A Global) × (MutBor C × (MutBor H × (MutBor W × (MutBor P × Unit {0}))))) → Outside K A H C W P
at_end left = outside left.0.now left.1.0.now.items left.1.1.0.now left.1.1.1.0.now left.1.1.1.1.0.now left.1.1.1.1.1.0.now

-- the same without a sink, behind references
abbrev pub parts_of : {H C W A P : Type 0} → Given H C W A P → Outside (Unit {0}) A H C W P
parts_of given = parts given.devices.now.items given.clock.now given.host.now given.waiter.now given.spawner.now

-- ---- its status, and its last line

-- the first of these that holds: a disk failed, a worker was not started, the clock failed, the host failed, memory was wanting
abbrev pub status_of : Flags → Bool → ℕ
status_of flags unstarted =
    if flags.disk then 5 else (if unstarted then 11 else (if flags.clock then 12 else (if flags.host then 9 else (if flags.memory then 8 else 0))))

-- a write that failed counts where nothing before it in the order of statuses does
abbrev pub after_write_fault : ℕ → ℕ
after_write_fault told = if nat_eq told 0 then 7 else told

-- only a server that listens gives these: all connections were served, a worker was not started, the clock failed
abbrev pub has_listened : ℕ → Bool
has_listened status = nat_eq status 0 || nat_eq status 11 || nat_eq status 12

module _ {K : Type 0} (k : sink.Ghosts K) where
  -- a line was told; or a write failed, and the front of it was told
  abbrev pub TellsLast : List ℕ → ℕ → K → K → ℕ → Type 0
  TellsLast line told old new status =
      ((status ≡ told) × (k.tells → k.taken new ≡ k.taken old ++ line) × (k.faults new ≡ k.faults old))
      ⊎ ((status ≡ after_write_fault told) × (k.tells → TakesFront (k.taken old) (k.taken new) line) × Rose (k.faults old) (k.faults new))

  -- The line that tells what the history leaves, which began in this state, where the journal had come by so many events: their number,
  -- where it is known, the moment of the last change, and how many leases and reversions there are.
  pub record TellsSummary (known : Type 0) (plant : List Actuator) (s : State) (number : ℕ) (log : List Entry) (told : ℕ) (old new : K) (status : ℕ) : Type 0 where
    pub all : ℕ
    pub all_are : known → all ≡ counted (number + length (events plant log s))
    pub tells : TellsLast (summary_line all (run plant log s).persistent.now (length (run plant log s).persistent.leases) (length (run plant log s).persistent.pending)) told old new status

  -- this line was told, unless no worker ran or a disk failed, where nothing was
  abbrev pub TellsEnd : List ℕ → Run → K → K → ℕ → Type 0
  TellsEnd line not_bound old new status = (status ≡ 9) × (new ≡ old)
  TellsEnd line NoMemory old new status = (status ≡ 8) × (new ≡ old)
  TellsEnd line (Ended ended) old new status =
      (ended.flags.disk ≡ false → TellsLast line (status_of ended.flags ended.unstarted) old new status)
      × (ended.flags.disk ≡ true → (status ≡ 5) × (new ≡ old))

-- ---- what it did

module _ {H In Out : Type 0} (h : host.Ghosts H In Out) where
  -- all connections that the host handed out came back, each as it ended, and none of them has session 0
  pub record CameBack (old new : H) : Type 0 where
    pub connections : List Connection
    pub served : h.tells → h.served new ≡ h.served old ++ connections
    pub handed : RoseBy (length connections) (h.handed old) (h.handed new)
    pub numbered : AllByRecursion (λ connection. 0 < connection.session) connections

  -- the host began to listen, and nothing else came to it
  pub record Begins (old new : H) : Type 0 where
    pub served : h.tells → h.served new ≡ h.served old
    pub faults : h.faults new ≡ h.faults old
    pub handed : RoseBy 0 (h.handed old) (h.handed new)

  -- By how workers ran: the host was made to listen at this address, once, and nowhere else; or it could not, and handed out no
  -- connection.
  abbrev pub ListensBy : List ℕ → H → H → Run → Type 0
  ListensBy address old new not_bound = (h.listens new ≡ h.listens old) × (h.handed new ≡ h.handed old)
  ListensBy address old new NoMemory = h.listens new ≡ h.listens old ++ address ∷ []
  ListensBy address old new (Ended ended) = h.listens new ≡ h.listens old ++ address ∷ []

  -- The host was made to listen at this address, once, and nowhere else; or nowhere at all, and then it handed out no connection, and the
  -- status is none that only a server gives which listens.
  abbrev pub Listened : List ℕ → H → H → ℕ → Type 0
  Listened address old new status =
      (h.listens new ≡ h.listens old ++ address ∷ [])
      ⊎ ((h.listens new ≡ h.listens old) × (h.handed new ≡ h.handed old) × (has_listened status ≡ false))

  -- the host could not listen at its address: nothing ran, and nothing was told
  pub record NotBound {K A C W P : Type 0} (log : List Entry) (old new : Outside K A H C W P) (status : ℕ) : Type 0 where
    pub nothing : log ≡ []
    pub told : status ≡ 9
    pub why : Rose (h.faults old.host) (h.faults new.host)
    pub served : h.tells → h.served new.host ≡ h.served old.host
    pub handed : h.handed new.host ≡ h.handed old.host
    pub sink : new.sink ≡ old.sink
    pub devices : new.devices ≡ old.devices
    pub clock : new.clock ≡ old.clock
    pub waiter : new.waiter ≡ old.waiter
    pub spawner : new.spawner ≡ old.spawner

  module _ {C W Bells : Type 0} (c : clock.Ghosts C) (w : waiter.Ghosts W Bells) where
    -- no memory was to be had before a worker ran: nothing was told, and no device called
    pub record NoneRan {K A P : Type 0} (log : List Entry) (old new : Outside K A H C W P) (status : ℕ) : Type 0 where
      pub nothing : log ≡ []
      pub told : status ≡ 8
      pub host : Begins old.host new.host
      pub clock : StaysClock c old.clock new.clock
      pub waiter : GainsNoPause w.tells (w.waits old.waiter) (w.waits new.waiter)
      pub sink : new.sink ≡ old.sink
      pub devices : new.devices ≡ old.devices
      pub spawner : new.spawner ≡ old.spawner

module _ {A H In Out C W Bells P Runtime : Type 0} (a : actuators_of.Ghosts A) (h : host.Ghosts H In Out) (i : source.Ghosts In) (o : sink.Ghosts Out)
    (c : clock.Ghosts C) (w : waiter.Ghosts W Bells) (p : spawner.Ghosts P Runtime) where
  -- The workers ran: each connection that came back, the worker of time and each driver's worker agree with the entries of their own
  -- lanes.
  pub record Worked {K : Type 0} (catalogue : Catalogue) (gates : List Gate) (keys : Option (List KeyEntry)) (workers connections : ℕ) (log : List Entry) (old new : Outside K A H C W P) (flags : Flags) (unstarted : Bool) : Type 0 where
    -- the host as it listens
    pub bound : H
    pub listens : Begins h old.host bound
    pub account : Account a.calls (λ device. a.tells × a.whole device) (terms_of catalogue gates keys workers i.tells o.tells h.tells c.tells w.tells) w.tells
        (workers + 1 + drives_of catalogue old.devices) connections log log (h.served bound) (h.served new.host) (c.given old.clock) (c.given new.clock)
        (hosted_at h bound) (hosted_at h new.host) (c.faults old.clock) (c.faults new.clock) (w.waits old.waiter) (w.waits new.waiter)
        (take (drives_of catalogue old.devices) old.devices) (drop (drives_of catalogue old.devices) old.devices) new.devices flags unstarted
    pub started : RoseWhere unstarted (p.faults old.spawner) (p.faults new.spawner)
    pub disk : flags.disk ≡ is_broken log
    -- With keys, each connection is that of the name whose key one of its lines shows: all its attaches are of that name. Where none was shown,
    -- nothing was done for it.
    pub keyed : (known : List KeyEntry) → keys ≡ Some known → i.tells → AreByKeys (actuators catalogue) known log account.works

  -- how workers ran, or why none did
  abbrev pub EndsRun : Catalogue → List Gate → Option (List KeyEntry) → ℕ → ℕ → List Entry → Outside (Unit {0}) A H C W P → Outside (Unit {0}) A H C W P → Run → Type 0
  EndsRun catalogue gates keys workers connections log old new not_bound = NotBound h log old new 9
  EndsRun catalogue gates keys workers connections log old new NoMemory = NoneRan h c w log old new 8
  EndsRun catalogue gates keys workers connections log old new (Ended ended) = Worked catalogue gates keys workers connections log old new ended.flags ended.unstarted

  -- workers ran over a keeper, which stands for one history that is all that they did
  pub record RanWorkers {V : Type 0} (v : keeper.Ghosts V) (catalogue : Catalogue) (start now : V) (gates : List Gate) (keys : Option (List KeyEntry)) (workers connections : ℕ) (old new : Outside (Unit {0}) A H C W P) (result : Run) : Type 0 where
    pub log : List Entry
    pub held : IsHeld v.plant v.state v.stopped v.faults v.leaves v.passes v.keeps start now log
    pub end : EndsRun catalogue gates keys workers connections log old new result

module _ {K A H In Out C W Bells P Runtime : Type 0} (k : sink.Ghosts K) (a : actuators_of.Ghosts A) (h : host.Ghosts H In Out) (i : source.Ghosts In) (o : sink.Ghosts Out)
    (c : clock.Ghosts C) (w : waiter.Ghosts W Bells) (p : spawner.Ghosts P Runtime) where
  -- The workers ran. Then one line tells what the history leaves, unless a disk failed.
  pub record Served (catalogue : Catalogue) (known : Type 0) (s : State) (number : ℕ) (gates : List Gate) (keys : Option (List KeyEntry)) (workers connections : ℕ) (log : List Entry) (old new : Outside K A H C W P) (status : ℕ) : Type 0 where
    pub flags : Flags
    pub unstarted : Bool
    pub worked : Worked a h i o c w p catalogue gates keys workers connections log old new flags unstarted
    pub summary : is_broken log ≡ false → TellsSummary k known (actuators catalogue) s number log (status_of flags unstarted) old.sink new.sink status
    pub no_summary : is_broken log ≡ true → (status ≡ 5) × (new.sink ≡ old.sink)

  -- one history from this state, and all that was done is of it
  pub record ServedFrom (catalogue : Catalogue) (known : Type 0) (s : State) (number : ℕ) (gates : List Gate) (keys : Option (List KeyEntry)) (workers connections : ℕ) (old new : Outside K A H C W P) (status : ℕ) : Type 0 where
    pub log : List Entry
    pub legal : IsLegal (actuators catalogue) log s
    pub end : NotBound h log old new status ⊎ NoneRan h c w log old new status ⊎ Served catalogue known s number gates keys workers connections log old new status

  -- ---- over what

  -- A server ran over a keeper, which came back, and stands for one history from the keeper as it was: all that was done is of it.
  pub record ServesKeeper {V : Type 0} (v : keeper.Ghosts V) (known : Type 0) (catalogue : Catalogue) (start now : V) (gates : List Gate) (keys : Option (List KeyEntry)) (workers connections : ℕ) (old new : Outside K A H C W P) (status : ℕ) : Type 0 where
    pub log : List Entry
    pub held : IsHeld v.plant v.state v.stopped v.faults v.leaves v.passes v.keeps start now log
    -- where the keeper had come by so many events
    pub end : (number : ℕ) (before : List Event) → v.keeps start before → length before ≡ number →
        NotBound h log old new status ⊎ NoneRan h c w log old new status ⊎ Served catalogue known (v.state start) number gates keys workers connections log old new status

  module _ (catalogue : Catalogue) (was now : Pair) (gates : List Gate) (keys : Option (List KeyEntry)) (workers connections : ℕ) (old new : Outside K A H C W P) (status : ℕ) where
    -- The journal was opened, and served from the state that its bytes stand for. A disk failed exactly where the history is broken; the
    -- journal holds what the history leaves.
    pub record ServedJournal : Type 0 where
      pub state : State
      pub number : ℕ
      pub opened : was.tells → OpenedAt (actuators catalogue) (digest_of catalogue) was.first was.second state number
      pub served : ServedFrom catalogue was.tells state number gates keys workers connections old new status
      pub disk_fault : is_broken served.log ≡ true → Rose was.faults now.faults
      pub no_disk_fault : is_broken served.log ≡ false → now.faults ≡ was.faults
      pub holds : was.tells → HoldsAfter catalogue state number served.log now.first now.second
      -- what a crash may leave meanwhile
      pub images : was.tells → now.whole → WhileRun (actuators catalogue) (digest_of catalogue) was.first was.second was.stories state served.log now.stories

    -- a server over a journal
    abbrev pub ServesOver : Type 0
    ServesOver = (HadNoJournal was now old new status × (was.tells → was.lasts → StillStands catalogue was now))
        ⊎ (RefusedJournal k catalogue was now old.sink new.sink status × (new ≡ record old { sink = new.sink })) ⊎ ServedJournal

  -- A server over memory alone begins with the catalogue's first state, and nothing fails that keeps what it does.
  abbrev pub ServedMemory : Catalogue → List Gate → Option (List KeyEntry) → ℕ → ℕ → Outside K A H C W P → Outside K A H C W P → ℕ → Type 0
  ServedMemory catalogue gates keys workers connections old new status =
      (served : ServedFrom catalogue (Unit {0}) (first_state (actuators catalogue)) 0 gates keys workers connections old new status) × (is_broken served.log ≡ false)

  -- that, or no memory was to be had at all
  abbrev pub ServesMemory : Catalogue → List Gate → Option (List KeyEntry) → ℕ → ℕ → Outside K A H C W P → Outside K A H C W P → ℕ → Type 0
  ServesMemory catalogue gates keys workers connections old new status = ((status ≡ 8) × (new ≡ old)) ⊎ ServedMemory catalogue gates keys workers connections old new status

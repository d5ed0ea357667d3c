-- A server over a keeper, by how its workers ran and what was told.
use Rattle.std.proofs.Common.{Option, ◌≡◌, ◌⊎◌, inl, inr, ℕ, ◌+◌, Bool, false, List, [], ◌++◌, length, refl, sym, ap, subst, ◌∙◌}
use Rattle.boss_model.specs.Catalogue.{Catalogue, actuators}
use Rattle.boss_model.specs.declared.event.Event.{Event}
use Rattle.boss_model.specs.declared.state.Actuator.{Actuator}
use Rattle.boss_model.specs.Settle.{first_state}
use Rattle.boss_model.specs.State.{Persistent, State}
use Rattle.boss_outside.specs.declared.actuators.Actuators as actuators_of
use Rattle.boss_outside.specs.declared.sink.Sink as sink
use Rattle.boss_outside.specs.declared.source.Source as source
use Rattle.boss_outside_server.specs.declared.clock.Clock as clock
use Rattle.boss_outside_server.specs.declared.host.Host as host
use Rattle.boss_outside_server.specs.declared.spawner.Spawner as spawner
use Rattle.boss_outside_server.specs.declared.waiter.Waiter as waiter
use Rattle.def_history.specs.declared.entry.Entry.{Entry}
use Rattle.def_history.specs.History.{events, is_broken, IsLegal, run}
use Rattle.boss_memory_keeper.specs.contracts.unkept.UnkeptKeeper.TheImpl.{ghosts as unkept}
use Rattle.boss_memory_keeper.specs.declared.unkept.Unkept.{Unkept}
use Rattle.boss_keys.specs.declared.entry.Entry.{Entry as KeyEntry}
use Rattle.boss_shared.specs.Gates.{Gate}
use Rattle.boss_shared.specs.Keeping.{IsHeld}
use Rattle.boss_journal_lines.specs.Reports.{summary_line}
use Rattle.boss_disk_pair.specs.Rests.{counted}
use Rattle.boss_serve_jobs.specs.declared.serving.Run.{Run}
use Rattle.boss_serve_jobs.specs.declared.serving.Run.TheVariants.{NotBound as not_bound, NoMemory, Ended}
use Rattle.boss_serve_jobs.specs.Serving.{EndsRun, NoneRan, NotBound, Outside, outside, parts, Served, ServedMemory, ServesKeeper, status_of, TellsEnd, TellsLast}

-- what a keeper is after the history that it stands for, where no disk failed in it
module _ {V : Type 0} (plant : V → List Actuator) (state : V → State) (stopped : V → Bool) (faults : V → ℕ) (leaves : V → Persistent → Persistent → Type 0)
    (passes : V → V → Persistent → Persistent → Type 0) (keeps : V → List Event → Type 0) (points : List Actuator) (start now : V) (log : List Entry) (held : IsHeld plant state stopped faults leaves passes keeps start now log)
    (same : plant start ≡ points) where
  pub legal-so : IsLegal points log (state start)
  legal-so = subst (λ p. IsLegal p log (state start)) same held.legal

  pub state-so : is_broken log ≡ false → state now ≡ run points log (state start)
  state-so whole = held.state_is (held.marked ∙ whole) ∙ ap (λ p. run p log (state start)) same

  pub gained-so : is_broken log ≡ false → (before : List Event) → keeps start before → keeps now (before ++ events points log (state start))
  gained-so whole before kept = subst (λ p. keeps now (before ++ events p log (state start))) same (held.gained (held.marked ∙ whole) before kept)

-- the same of an engine in memory that had done nothing
module _ (points : List Actuator) (start now : Unkept) (log : List Entry)
    (held : IsHeld unkept.plant unkept.state unkept.stopped unkept.faults unkept.leaves unkept.passes unkept.keeps start now log)
    (new : start.engine ≡ record { plant = points; state = first_state points }) where
  pub memory-legal : IsLegal points log (first_state points)
  memory-legal = subst (λ e. IsLegal e.plant log e.state) new held.legal

-- only the sink changed
pub sink-alone : {K A H C W P : Type 0} (old-sink new-sink : K) (devices : List A) (clock : C) (host : H) (waiter : W) (spawner : P) →
    outside new-sink devices clock host waiter spawner ≡ record (outside old-sink devices clock host waiter spawner) { sink = new-sink }
sink-alone old-sink new-sink devices clock host waiter spawner = refl

-- what a server tells of a state, by what it asked of it
pub summary-so : (all now leases pending : ℕ) (is at : State) → now ≡ is.persistent.now → leases ≡ length is.persistent.leases → pending ≡ length is.persistent.pending →
    is ≡ at → summary_line all now leases pending ≡ summary_line all at.persistent.now (length at.persistent.leases) (length at.persistent.pending)
summary-so all now leases pending is at moment live under same i =
    summary_line all ((moment ∙ ap (λ s. s.persistent.now) same) i) ((live ∙ ap (λ s. length s.persistent.leases) same) i) ((under ∙ ap (λ s. length s.persistent.pending) same) i)

-- the same parts
pub parts-so : {A H C W P : Type 0} {devices devices' : List A} {clock clock' : C} {host host' : H} {waiter waiter' : W} {spawner spawner' : P} →
    devices ≡ devices' → clock ≡ clock' → host ≡ host' → waiter ≡ waiter' → spawner ≡ spawner' →
    parts devices clock host waiter spawner ≡ parts devices' clock' host' waiter' spawner'
parts-so devices clock host waiter spawner = λ i. parts (devices i) (clock i) (host i) (waiter i) (spawner i)

module _ {K A H In Out C W Bells P Runtime : Type 0} (k : sink.Ghosts K) (a : actuators_of.Ghosts A) (h : host.Ghosts H In Out) (i : source.Ghosts In) (o : sink.Ghosts Out)
    (c : clock.Ghosts C) (w : waiter.Ghosts W Bells) (p : spawner.Ghosts P Runtime)
    (catalogue : Catalogue) (gates : List Gate) (keys : Option (List KeyEntry)) (workers connections : ℕ) (old new : Outside K A H C W P) (known : Type 0) (s : State) (number all : ℕ) (line : List ℕ) (status : ℕ) (log : List Entry)
    (line-is : is_broken log ≡ false → line ≡ summary_line all (run (actuators catalogue) log s).persistent.now
    (length (run (actuators catalogue) log s).persistent.leases) (length (run (actuators catalogue) log s).persistent.pending))
    (all-are : is_broken log ≡ false → known → all ≡ counted (number + length (events (actuators catalogue) log s))) where
  -- the workers' run, and what was told of it, are all that a server did
  served-parts : (result : Run)
      → EndsRun a h i o c w p catalogue gates keys workers connections log (parts old.devices old.clock old.host old.waiter old.spawner)
      (parts new.devices new.clock new.host new.waiter new.spawner) result
      → TellsEnd k line result old.sink new.sink status
      → NotBound h log old new status ⊎ NoneRan h c w log old new status
      ⊎ Served k a h i o c w p catalogue known s number gates keys workers connections log old new status
  served-parts not_bound ends told = inl (record {
    nothing = ends.nothing;
    told = told.0;
    why = ends.why;
    served = ends.served;
    handed = ends.handed;
    sink = told.1;
    devices = ends.devices;
    clock = ends.clock;
    waiter = ends.waiter;
    spawner = ends.spawner;
  })
  served-parts NoMemory ends told = inr (inl (record {
    nothing = ends.nothing;
    told = told.0;
    host = ends.host;
    clock = ends.clock;
    waiter = ends.waiter;
    sink = told.1;
    devices = ends.devices;
    spawner = ends.spawner;
  }))
  served-parts (Ended ended) ends told = inr (inr (record {
    flags = ended.flags;
    unstarted = ended.unstarted;
    worked = record { bound = ends.bound; listens = ends.listens; account = ends.account; started = ends.started; disk = ends.disk; keyed = ends.keyed };
    summary = λ whole. record {
      all = all;
      all_are = all-are whole;
      tells = subst (λ text. TellsLast k text (status_of ended.flags ended.unstarted) old.sink new.sink status) (line-is whole) (told.0 (ends.disk ∙ whole));
    };
    no_summary = λ broken. told.1 (ends.disk ∙ broken);
  }))

  pub served-end : (first last : Outside (Unit {0}) A H C W P) (result : Run) → EndsRun a h i o c w p catalogue gates keys workers connections log first last result
      → first ≡ parts old.devices old.clock old.host old.waiter old.spawner → parts new.devices new.clock new.host new.waiter new.spawner ≡ last
      → TellsEnd k line result old.sink new.sink status
      → NotBound h log old new status ⊎ NoneRan h c w log old new status
      ⊎ Served k a h i o c w p catalogue known s number gates keys workers connections log old new status
  served-end first last result ends began left =
      served-parts result
      (subst (λ it. EndsRun a h i o c w p catalogue gates keys workers connections log (parts old.devices old.clock old.host old.waiter old.spawner) it result) (sym left)
      (subst (λ it. EndsRun a h i o c w p catalogue gates keys workers connections log it last result) began ends))

-- a server over an engine in memory that had done nothing
module _ {K A H In Out C W Bells P Runtime : Type 0} (k : sink.Ghosts K) (a : actuators_of.Ghosts A) (h : host.Ghosts H In Out) (i : source.Ghosts In) (o : sink.Ghosts Out)
    (c : clock.Ghosts C) (w : waiter.Ghosts W Bells) (p : spawner.Ghosts P Runtime) (catalogue : Catalogue) (start now : Unkept) (gates : List Gate) (keys : Option (List KeyEntry)) (workers connections : ℕ) (old new : Outside K A H C W P) (status : ℕ)
    (engine : start.engine ≡ record { plant = actuators catalogue; state = first_state (actuators catalogue) }) (none : start.events ≡ 0) where
  pub served-memory : ServesKeeper k a h i o c w p unkept (Unit {0}) catalogue start now gates keys workers connections old new status
      → ServedMemory k a h i o c w p catalogue gates keys workers connections old new status
  served-memory it = (
    record {
      log = it.log;
      legal = memory-legal (actuators catalogue) start now it.log it.held engine;
      end = subst (λ s. NotBound h it.log old new status ⊎ NoneRan h c w it.log old new status
          ⊎ Served k a h i o c w p catalogue (Unit {0}) s 0 gates keys workers connections it.log old new status) (ap (λ e. e.state) engine) (it.end 0 [] none refl);
    },
    sym it.held.marked,
  )

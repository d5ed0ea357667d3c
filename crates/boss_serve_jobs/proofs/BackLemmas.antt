-- Every connection that was handed out came back, however a server ended.
use Rattle.std.proofs.Common.{Option, ◌≡◌, inl, inr, ℕ, ◌+◌, ◌<◌, ◌==◌, Bool, true, false, cond, List, [], ◌∷◌, ◌++◌, length, refl, ap, sym, ◌∙◌, subst, arith}
use Rattle.std.proofs.lemmas.Bool.{cond-true}
use Rattle.std.proofs.lemmas.Bool.Decides.{nat_tests}
use Rattle.std.proofs.lemmas.List.{append-nil}
use Rattle.std.specs.List.{AllByRecursion}
use Rattle.boss_model.specs.Catalogue.{actuators, Catalogue}
use Rattle.boss_model.specs.Settle.{first_state}
use Rattle.boss_model.specs.State.{State}
use Rattle.boss_outside.specs.declared.actuators.Actuators as actuators_of
use Rattle.boss_outside.specs.declared.sink.Sink as sink
use Rattle.boss_outside.specs.declared.source.Source as source
use Rattle.boss_outside_server.specs.Hosts.{Served as Connection}
use Rattle.boss_outside_server.specs.declared.clock.Clock as clock
use Rattle.boss_outside_server.specs.declared.host.Host as host
use Rattle.boss_outside_server.specs.declared.spawner.Spawner as spawner
use Rattle.boss_outside_server.specs.declared.waiter.Waiter as waiter
use Rattle.boss_jobs.specs.Journals.{Pair}
use Rattle.boss_keys.specs.declared.entry.Entry.{Entry as KeyEntry}
use Rattle.boss_shared.specs.Gates.{Gate}
use Rattle.boss_worker.specs.Visits.{sessions_in, GoBySteps}
use Rattle.def_lanes.specs.Works.{Work, visit, beat, drive, owner, served_in, works_of}
use Rattle.boss_server.specs.Hosted.{RoseBy}
use Rattle.boss_server.proofs.TogetherLemmas.{rose-both, rose-none}
use Rattle.boss_serve_jobs.specs.Serving.{Begins, CameBack, Outside, ServedFrom, ServesMemory, ServesOver}

-- ---- no session is 0

steps-some : (step first : ℕ) (numbers : List ℕ) → GoBySteps step first numbers → 0 < first → AllByRecursion (λ number. 0 < number) numbers
steps-some step first [] go some = tt
steps-some step first (number ∷ numbers) go some = (omega (arith, go.0, some), steps-some step (first + step) numbers go.1 (omega (arith, some)))

-- of all works, where it holds of those of each worker
some-all : (workers : ℕ) (works : List Work) → ((number : ℕ) → AllByRecursion (λ session. 0 < session) (sessions_in (works_of workers number works))) →
    AllByRecursion (λ (connection : Connection). 0 < connection.session) (served_in works)
some-all workers [] some = tt
some-all workers (visit served course ∷ works) some = (
  (subst (λ list. AllByRecursion (λ session. 0 < session) (sessions_in list)) own (some (owner workers (visit served course)))).0,
  some-all workers works (λ number. rest (owner workers (visit served course) == number) (works_of workers number works) (some number)),
)
  where
    own : works_of workers (owner workers (visit served course)) (visit served course ∷ works) ≡ visit served course ∷ works_of workers (owner workers (visit served course)) works
    own =
        let same : (owner workers (visit served course) == owner workers (visit served course)) ≡ true = grind (arith, nat_tests) in
        cond-true (owner workers (visit served course) == owner workers (visit served course)) (visit served course ∷ works_of workers (owner workers (visit served course)) works)
        (works_of workers (owner workers (visit served course)) works) same

    rest : (b : Bool) (list : List Work) → AllByRecursion (λ session. 0 < session) (sessions_in (cond b (visit served course ∷ list) list)) → AllByRecursion (λ session. 0 < session) (sessions_in list)
    rest true list all = all.1
    rest false list all = all
some-all workers (beat waited course ∷ works) some = some-all workers works (λ number. rest (workers == number) (works_of workers number works) (some number))
  where
    rest : (b : Bool) (list : List Work) → AllByRecursion (λ session. 0 < session) (sessions_in (cond b (beat waited course ∷ list) list)) → AllByRecursion (λ session. 0 < session) (sessions_in list)
    rest true list all = all
    rest false list all = all
some-all workers (drive driver calls waited course ∷ works) some = some-all workers works (λ number. rest ((workers + 1 + driver) == number) (works_of workers number works) (some number))
  where
    rest : (b : Bool) (list : List Work) → AllByRecursion (λ session. 0 < session) (sessions_in (cond b (drive driver calls waited course ∷ list) list)) → AllByRecursion (λ session. 0 < session) (sessions_in list)
    rest true list all = all
    rest false list all = all

-- ---- by each end

module _ {H In Out : Type 0} (h : host.Ghosts H In Out) where
  none-back : (old new : H) → Begins h old new → CameBack h old new
  none-back old new stays = record {
    connections = [];
    served = λ told. stays.served told ∙ sym (append-nil (h.served old));
    handed = stays.handed;
    numbered = tt;
  }

  pub same-back : (old new : H) → new ≡ old → CameBack h old new
  same-back old new same = subst (CameBack h old) (sym same) (none-back old old (record { served = λ told. refl; faults = refl; handed = rose-none (h.handed old) }))

module _ {K A H In Out C W Bells P Runtime : Type 0} (k : sink.Ghosts K) (a : actuators_of.Ghosts A) (h : host.Ghosts H In Out) (i : source.Ghosts In) (o : sink.Ghosts Out)
    (c : clock.Ghosts C) (w : waiter.Ghosts W Bells) (p : spawner.Ghosts P Runtime) (catalogue : Catalogue) (gates : List Gate) (keys : Option (List KeyEntry)) (workers connections : ℕ) (old new : Outside K A H C W P) (status : ℕ) where
  from-back : (known : Type 0) (s : State) (number : ℕ) → ServedFrom k a h i o c w p catalogue known s number gates keys workers connections old new status → CameBack h old.host new.host
  from-back known s number it = elim it.end [
    | inl unbound ↦ record {
      connections = [];
      served = λ told. unbound.served told ∙ sym (append-nil (h.served old.host));
      handed = subst (RoseBy 0 (h.handed old.host)) (sym unbound.handed) (rose-none (h.handed old.host));
      numbered = tt;
    }
    | inr (inl none) ↦ none-back h old.host new.host none.host
    | inr (inr served) ↦
        let worked = served.worked in
        let together = worked.account.together in
        let works = worked.account.works in
        record {
          connections = served_in works;
          served = λ told. together.part.came_back told ∙ ap (λ front. front ++ served_in works) (worked.listens.served told);
          handed =
              let both : RoseBy (0 + length (served_in works)) (h.handed old.host) (h.handed new.host) =
              rose-both 0 (length (served_in works)) (h.handed old.host) (h.handed worked.bound) (h.handed new.host) worked.listens.handed together.handed in
              omega (arith, both);
          numbered = some-all workers works (λ number. steps-some workers (1 + number) (sessions_in (works_of workers number works)) (together.numbered number) (omega arith));
        }
  ]

  pub memory-back : ServesMemory k a h i o c w p catalogue gates keys workers connections old new status → CameBack h old.host new.host
  memory-back it = elim it [
    | inl lack ↦ same-back h old.host new.host (ap (λ (it : Outside K A H C W P). it.host) lack.1)
    | inr ran ↦ from-back (Unit {0}) (first_state (actuators catalogue)) 0 ran.0
  ]

  pub over-back : (was now : Pair) → ServesOver k a h i o c w p catalogue was now gates keys workers connections old new status → CameBack h old.host new.host
  over-back was now it = elim it [
    | inl none ↦ same-back h old.host new.host (ap (λ (it : Outside K A H C W P). it.host) none.0.untouched)
    | inr (inl refused) ↦ same-back h old.host new.host (ap (λ (it : Outside K A H C W P). it.host) refused.1)
    | inr (inr ran) ↦ from-back was.tells ran.state ran.number ran.served
  ]

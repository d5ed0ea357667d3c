-- A server's job, by its ends.
use Rattle.std.proofs.Common.{◌≡◌, ◌≢◌, ◌⊎◌, inl, inr, ℕ, Bool, true, false, List, [], ◌∷◌, ◌++◌, Option, Some, Ok, if◌then◌else◌, refl, sym, ap, subst, ◌∙◌}
use Rattle.boss_model.specs.Catalogue.{Catalogue, actuators}
use Rattle.boss_model.specs.Settle.{first_state}
use Rattle.boss_model.specs.State.{State}
use Rattle.boss_outside.specs.Counts.{Rose}
use Rattle.boss_outside.specs.declared.actuators.Actuators as actuators_of
use Rattle.boss_outside.specs.declared.sink.Sink as sink
use Rattle.boss_outside.specs.declared.source.Source as source
use Rattle.boss_files.specs.declared.files.Files as files
use Rattle.boss_outside_server.specs.declared.clock.Clock as clock
use Rattle.boss_outside_server.specs.declared.host.Host as host
use Rattle.boss_outside_server.specs.declared.spawner.Spawner as spawner
use Rattle.boss_outside_server.specs.declared.waiter.Waiter as waiter
use Rattle.boss_pair_find.specs.declared.refusal.DurableRefusal.{DurableRefusal}
use Rattle.def_history.specs.declared.entry.Entry.{Entry}
use Rattle.def_history.specs.History.{is_broken}
use Rattle.boss_keys.specs.declared.entry.Entry.{Entry as KeyEntry}
use Rattle.boss_shared.specs.Gates.{Gate}
use Rattle.boss_server.specs.Together.{RoseWhere}
use Rattle.boss_files.specs.Names.{second_name}
use Rattle.boss_jobs.specs.Jobs.{TellsLine}
use Rattle.boss_jobs.specs.Journals.{AsksFront, in_files, IsRefused, Pair}
use Rattle.boss_server.specs.Sites.{gates_of}
use Rattle.boss_serve_jobs.specs.Keying.{keys_in}
use Rattle.boss_serve_jobs.specs.Preparing.{listed, TakesKeys, TakesPlan, TakesRules}
use Rattle.boss_jobs.specs.Programs.{usable}
use Rattle.boss_serve_jobs.specs.ServeJobs.{DoesServe, EndsBy, Faults, faults_at, NoneRose, outside_at, ServedCatalogue, ServedFiles, ServerWorld, ServesInMemory, ServesNone}
use Rattle.boss_serve_jobs.proofs.BackLemmas.{memory-back, over-back, same-back}
use Rattle.boss_serve_jobs.proofs.ListenLemmas.{nowhere, unprepared-unheard}
use Rattle.boss_serve_jobs.proofs.PreparingLemmas.{keys-not-refused, not-refused, one-catalogue, plan-not-refused, rules-not-refused}
use Rattle.boss_serve_jobs.specs.Serving.{after_write_fault, Listened, Outside, Served, ServedFrom, ServesMemory, ServesOver, status_of}

-- ---- statuses

wrong : {P : Type 0} → true ≡ false → P
wrong e = absurd cc

module _ (was now : Faults) where
  pub ends-fine : (status : ℕ) → EndsBy was now status → NoneRose was now → (status ≡ 0) ⊎ (status ≡ 8)
  ends-fine status ends fine = elim ends [
    | inl done ↦ inl done.0
    | inr (inl disk) ↦ absurd (fine.files disk.1)
    | inr (inr (inl write)) ↦ absurd (fine.sink write.1)
    | inr (inr (inr (inl host))) ↦ absurd (fine.host host.1)
    | inr (inr (inr (inr (inl spawner)))) ↦ absurd (fine.spawner spawner.1)
    | inr (inr (inr (inr (inr (inl clock))))) ↦ absurd (fine.clock clock.1)
    | inr (inr (inr (inr (inr (inr lack))))) ↦ inr lack
  ]

  ends-so : (told status : ℕ) → status ≡ told → EndsBy was now told → EndsBy was now status
  ends-so told status is = subst (λ n. EndsBy was now n) (sym is)

  -- no disk failed and every write was made: the first of the flags tells the status
  by-flags : (unstarted clock host memory : Bool) → now.files ≡ was.files → now.sink ≡ was.sink → RoseWhere unstarted was.spawner now.spawner → RoseWhere clock was.clock now.clock →
      RoseWhere host was.host now.host → EndsBy was now (if unstarted then 11 else (if clock then 12 else (if host then 9 else (if memory then 8 else 0))))
  by-flags true clock host memory f k p c h = inr (inr (inr (inr (inl (refl, p)))))
  by-flags false true host memory f k p c h = inr (inr (inr (inr (inr (inl (refl, c))))))
  by-flags false false true memory f k p c h = inr (inr (inr (inl (refl, h))))
  by-flags false false false true f k p c h = inr (inr (inr (inr (inr (inr refl)))))
  by-flags false false false false f k p c h = inl (refl, λ j. record { files = f j; sink = k j; host = h j; spawner = p j; clock = c j })

  -- the same where a write failed
  by-write-fault : (unstarted clock host memory : Bool) → Rose was.sink now.sink → RoseWhere unstarted was.spawner now.spawner → RoseWhere clock was.clock now.clock →
      RoseWhere host was.host now.host → EndsBy was now (after_write_fault (if unstarted then 11 else (if clock then 12 else (if host then 9 else (if memory then 8 else 0)))))
  by-write-fault true clock host memory k p c h = inr (inr (inr (inr (inl (refl, p)))))
  by-write-fault false true host memory k p c h = inr (inr (inr (inr (inr (inl (refl, c))))))
  by-write-fault false false true memory k p c h = inr (inr (inr (inl (refl, h))))
  by-write-fault false false false true k p c h = inr (inr (inr (inr (inr (inr refl)))))
  by-write-fault false false false false k p c h = inr (inr (inl (refl, k)))

  -- no memory was to be had
  lacks : (status : ℕ) → status ≡ 8 → EndsBy was now status
  lacks status is = inr (inr (inr (inr (inr (inr is)))))

module _ {K A H In Out C W Bells P Runtime : Type 0} (k : sink.Ghosts K) (a : actuators_of.Ghosts A) (h : host.Ghosts H In Out) (i : source.Ghosts In) (o : sink.Ghosts Out)
    (c : clock.Ghosts C) (w : waiter.Ghosts W Bells) (p : spawner.Ghosts P Runtime) (catalogue : Catalogue) (gates : List Gate) (keys : Option (List KeyEntry)) (workers connections : ℕ) (old new : Outside K A H C W P) (status : ℕ) where
  abbrev faults_of : ℕ → Outside K A H C W P → Faults
  faults_of files outside =
      record { files = files; sink = k.faults outside.sink; host = h.faults outside.host; spawner = p.faults outside.spawner; clock = c.faults outside.clock }

  served-ends : (known : Type 0) (s : State) (number : ℕ) (log : List Entry) (was now : ℕ) → (is_broken log ≡ true → Rose was now) → (is_broken log ≡ false → now ≡ was) →
      Served k a h i o c w p catalogue known s number gates keys workers connections log old new status → EndsBy (faults_of was old) (faults_of now new) status
  served-ends known s number log was now rose stood it = by-broken (is_broken log) refl
    where
      by-broken : (b : Bool) → is_broken log ≡ b → EndsBy (faults_of was old) (faults_of now new) status
      by-broken true e = inr (inl ((it.no_summary e).0, rose e))
      by-broken false e =
          let whole : it.flags.disk ≡ false = it.worked.disk ∙ e in
          let hosted : RoseWhere it.flags.host (h.faults old.host) (h.faults new.host) =
          subst (λ n. RoseWhere it.flags.host n (h.faults new.host)) it.worked.listens.faults it.worked.account.together.host_count in
          let ticked : RoseWhere it.flags.clock (c.faults old.clock) (c.faults new.clock) = it.worked.account.together.clock_count whole in
          let told : status_of it.flags it.unstarted ≡ (if it.unstarted then 11 else (if it.flags.clock then 12 else (if it.flags.host then 9 else (if it.flags.memory then 8 else 0)))) =
          ap (λ d. if d then 5 else (if it.unstarted then 11 else (if it.flags.clock then 12 else (if it.flags.host then 9 else (if it.flags.memory then 8 else 0))))) whole in
          elim (it.summary e).tells [
            | inl said ↦ ends-so (faults_of was old) (faults_of now new) _ status (said.0 ∙ told)
                (by-flags (faults_of was old) (faults_of now new) it.unstarted it.flags.clock it.flags.host it.flags.memory (stood e) said.2 it.worked.started ticked hosted)
            | inr fault ↦ ends-so (faults_of was old) (faults_of now new) _ status (fault.0 ∙ ap after_write_fault told)
                (by-write-fault (faults_of was old) (faults_of now new) it.unstarted it.flags.clock it.flags.host it.flags.memory fault.2 it.worked.started ticked hosted)
          ]

  from-ends : (known : Type 0) (s : State) (number : ℕ) (was now : ℕ) → (it : ServedFrom k a h i o c w p catalogue known s number gates keys workers connections old new status) →
      (is_broken it.log ≡ true → Rose was now) → (is_broken it.log ≡ false → now ≡ was) → EndsBy (faults_of was old) (faults_of now new) status
  from-ends known s number was now it rose stood = elim it.end [
    | inl unbound ↦ inr (inr (inr (inl (unbound.told, unbound.why))))
    | inr (inl none) ↦ lacks _ _ status none.told
    | inr (inr served) ↦ served-ends known s number it.log was now rose stood served
  ]

  pub memory-ends : (files : ℕ) → ServesMemory k a h i o c w p catalogue gates keys workers connections old new status → EndsBy (faults_of files old) (faults_of files new) status
  memory-ends files it = elim it [
    | inl lack ↦ lacks _ _ status lack.0
    | inr ran ↦ from-ends (Unit {0}) (first_state (actuators catalogue)) 0 files files ran.0 (λ broken. wrong (sym broken ∙ ran.1)) (λ whole. refl)
  ]

  pub over-ends : (was now : Pair) → ServesOver k a h i o c w p catalogue was now gates keys workers connections old new status →
      EndsBy (faults_of was.faults old) (faults_of now.faults new) status ⊎ (status ≡ 4)
  over-ends was now it = elim it [
    | inl none ↦ elim none.0.why [ inl fault ↦ inl (inr (inl fault)) | inr lack ↦ inl (lacks _ _ status lack.0) ]
    | inr (inl refused) ↦ elim refused.0.tells [
      | inl said ↦ inr said.0
      | inr (inl fault) ↦ inl (inr (inr (inl (fault.0, fault.2))))
      | inr (inr lack) ↦ inl (lacks _ _ status lack.0)
    ]
    | inr (inr ran) ↦ inl (from-ends was.tells ran.state ran.number was.faults now.faults ran.served ran.disk_fault ran.no_disk_fault)
  ]

  -- a journal that is not refused
  pub over-fine : (was now : Pair) → ServesOver k a h i o c w p catalogue was now gates keys workers connections old new status → was.tells →
      ((refusal : DurableRefusal) → IsRefused catalogue was refusal → ⊥) → NoneRose (faults_of was.faults old) (faults_of now.faults new) → (status ≡ 0) ⊎ (status ≡ 8)
  over-fine was now it told opens fine = elim it [
    | inl none ↦ elim none.0.why [ inl fault ↦ absurd (fine.files fault.1) | inr lack ↦ inr lack.0 ]
    | inr (inl refused) ↦ absurd (opens refused.0.refusal (refused.0.of_bytes, refused.0.refuses told))
    | inr (inr ran) ↦ ends-fine _ _ status (from-ends was.tells ran.state ran.number was.faults now.faults ran.served ran.disk_fault ran.no_disk_fault) fine
  ]

module _ {F D S K A H In Out C W Bells P Runtime : Type 0} (f : files.Ghosts F D) (s : source.Ghosts S) (k : sink.Ghosts K) (a : actuators_of.Ghosts A)
    (h : host.Ghosts H In Out) (i : source.Ghosts In) (o : sink.Ghosts Out) (c : clock.Ghosts C) (w : waiter.Ghosts W Bells) (p : spawner.Ghosts P Runtime)
    (name address : List ℕ) (rules plan keys : Option (List ℕ)) (count workers connections : ℕ) (old new : ServerWorld F S K A C H W P) (status : ℕ) where
  abbrev was : Faults
  was = faults_at f s k a h i o c w p old

  abbrev now : Faults
  now = faults_at f s k a h i o c w p new

  line-ends : (line : List ℕ) (told : ℕ) → TellsLine k line told old.world.sink new.world.sink status → EndsBy was now status ⊎ (status ≡ told)
  line-ends line told tells = elim tells [
    | inl said ↦ inr said.0
    | inr (inl fault) ↦ inl (inr (inr (inl (fault.0, fault.2))))
    | inr (inr lack) ↦ inl (lacks was now status lack.0)
  ]

  none-ends : ServesNone f s k a h i o c w p name rules plan keys count old new status → EndsBy was now status ⊎ (status ≡ 3) ⊎ (status ≡ 16) ⊎ (status ≡ 17) ⊎ (status ≡ 19)
  none-ends none = elim none.0 [
    | inl lost ↦ elim lost.why [ inl fault ↦ inl (inr (inl fault)) | inr lack ↦ inl (lacks was now status lack.0) ]
    | inr (inl refused) ↦ elim (line-ends _ 3 refused.ends.tells) [ inl ends ↦ inl ends | inr told ↦ inr (inl told) ]
    | inr (inr (inl refused)) ↦ elim (line-ends _ 16 refused.ends.tells) [ inl ends ↦ inl ends | inr told ↦ inr (inr (inl told)) ]
    | inr (inr (inr (inl refused))) ↦ elim (line-ends _ 19 refused.ends.tells) [ inl ends ↦ inl ends | inr told ↦ inr (inr (inr (inr told))) ]
    | inr (inr (inr (inr refused))) ↦ elim (line-ends _ 17 refused.ends.tells) [ inl ends ↦ inl ends | inr told ↦ inr (inr (inr (inl told))) ]
  ]

  none-listens : ServesNone f s k a h i o c w p name rules plan keys count old new status → Listened h address old.host new.host status
  none-listens none = nowhere h address old.host new.host status none.1.host (unprepared-unheard f k name rules plan keys count _ _ status none.0)

  none-fine : (catalogue : Catalogue) (file : List ℕ) → f.tells → f.holds old.world.files name ≡ Some file → usable count file ≡ Ok catalogue → TakesRules f rules old.world.files → TakesKeys f keys old.world.files → TakesPlan f plan catalogue old.world.files →
      ServesNone f s k a h i o c w p name rules plan keys count old new status → NoneRose was now → (status ≡ 0) ⊎ (status ≡ 8)
  none-fine catalogue file tells holds used ruled keyed takes none fine = elim none.0 [
    | inl lost ↦ elim lost.why [ inl fault ↦ absurd (fine.files fault.1) | inr lack ↦ inr lack.0 ]
    | inr (inl refused) ↦ not-refused f old.world.files tells name count file catalogue holds used refused.refusal refused.comes
    | inr (inr (inl refused)) ↦ rules-not-refused f old.world.files tells rules refused.refusal ruled refused.refuses
    | inr (inr (inr (inl refused))) ↦ keys-not-refused f old.world.files tells keys refused.refusal keyed refused.refuses
    | inr (inr (inr (inr refused))) ↦
        let same : refused.catalogue ≡ catalogue = one-catalogue f old.world.files tells name count file catalogue holds used refused.catalogue refused.comes in
        plan-not-refused f old.world.files tells plan refused.catalogue refused.refusal (subst (λ one. TakesPlan f plan one old.world.files) (sym same) takes) refused.refuses
  ]

  pub does-serve : (journal : List ℕ) → ServesNone f s k a h i o c w p name rules plan keys count old new status
      ⊎ (ServedFiles f s k a h i o c w p name journal address rules plan keys count workers connections old new status × (h.tells → Listened h address old.host new.host status)) →
      new.world.source ≡ old.world.source → (f.tells → AsksFront ((name ∷ listed rules ++ listed keys ++ listed plan) ++ journal ∷ second_name journal ∷ []) (f.asked old.world.files) (f.asked new.world.files)) →
      (f.tells → (file : List ℕ) → file ≢ journal → file ≢ second_name journal → f.holds new.world.files file ≡ f.holds old.world.files file) →
      DoesServe f s k a h i o c w p name journal address rules plan keys count workers connections old new status
  does-serve journal did source asks others = record {
    did = elim did [ inl none ↦ inl none | inr served ↦ inr served.0 ];
    source = source;
    asks = asks;
    came_back = elim did [
      | inl none ↦ same-back h old.host new.host none.1.host
      | inr served ↦ over-back k a h i o c w p served.0.catalogue (gates_of served.0.catalogue served.0.given) (keys_in served.0.entries) workers connections (record (outside_at old) { devices = served.0.devices }) (outside_at new) status _ _ served.0.serves
    ];
    listens = elim did [ inl none ↦ λ tells. none-listens none | inr served ↦ served.1 ];
    others = others;
    causes = elim did [
      | inl none ↦ elim (none-ends none) [ inl ends ↦ inl ends | inr (inl refused) ↦ inr (inl refused) | inr (inr refused) ↦ inr (inr (inr refused)) ]
      | inr served ↦
          elim (over-ends k a h i o c w p served.0.catalogue (gates_of served.0.catalogue served.0.given) (keys_in served.0.entries) workers connections (record (outside_at old) { devices = served.0.devices }) (outside_at new) status _ _ served.0.serves)
          [ inl ends ↦ inl ends | inr refused ↦ inr (inr (inl refused)) ]
    ];
    complete = λ catalogue file tells holds used ruled keyed takes opens fine. elim did [
      | inl none ↦ none-fine catalogue file tells holds used ruled keyed takes none fine
      | inr served ↦
          let same : served.0.catalogue ≡ catalogue = one-catalogue f old.world.files tells name count file catalogue holds used served.0.catalogue served.0.comes in
          over-fine k a h i o c w p served.0.catalogue (gates_of served.0.catalogue served.0.given) (keys_in served.0.entries) workers connections (record (outside_at old) { devices = served.0.devices }) (outside_at new) status _ _ served.0.serves tells
          (λ refusal refused. opens refusal (subst (λ one. IsRefused one (in_files f journal old.world.files) refusal) same refused)) fine
    ];
  }

  pub serves-memory : ServesNone f s k a h i o c w p name rules plan keys count old new status
      ⊎ (ServedCatalogue f s k a h i o c w p name address rules plan keys count workers connections old new status × (h.tells → Listened h address old.host new.host status)) →
      new.world.source ≡ old.world.source → (f.tells → AsksFront (name ∷ listed rules ++ listed keys ++ listed plan) (f.asked old.world.files) (f.asked new.world.files)) →
      (f.tells → (file : List ℕ) → f.holds new.world.files file ≡ f.holds old.world.files file) → ServesInMemory f s k a h i o c w p name address rules plan keys count workers connections old new status
  serves-memory did source asks others = record {
    did = elim did [ inl none ↦ inl none | inr served ↦ inr served.0 ];
    source = source;
    asks = asks;
    others = others;
    listens = elim did [ inl none ↦ λ tells. none-listens none | inr served ↦ served.1 ];
    came_back = elim did [
      | inl none ↦ same-back h old.host new.host none.1.host
      | inr served ↦ memory-back k a h i o c w p served.0.catalogue (gates_of served.0.catalogue served.0.given) (keys_in served.0.entries) workers connections (record (outside_at old) { devices = served.0.devices }) (outside_at new) status served.0.serves
    ];
    causes = elim did [ inl none ↦ none-ends none | inr served ↦ inl (memory-causes served.0) ];
    complete = λ catalogue file tells holds used ruled keyed takes fine. elim did [
      | inl none ↦ none-fine catalogue file tells holds used ruled keyed takes none fine
      | inr served ↦ ends-fine was now status (memory-causes served.0) fine
    ];
  }
    where
      memory-causes : ServedCatalogue f s k a h i o c w p name address rules plan keys count workers connections old new status → EndsBy was now status
      memory-causes served =
          subst (λ n. EndsBy was (record { files = n; sink = now.sink; host = now.host; spawner = now.spawner; clock = now.clock }) status) (sym served.files)
          (memory-ends k a h i o c w p served.catalogue (gates_of served.catalogue served.given) (keys_in served.entries) workers connections (record (outside_at old) { devices = served.devices }) (outside_at new) status (f.faults old.world.files) served.serves)

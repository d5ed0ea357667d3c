-- A script over a journal that was opened, by what its bytes stand for; and what a journal holds after any entries.
use Rattle.std.proofs.Common.{◌≡◌, inl, inr, Bool, true, false, ℕ, ◌+◌, ◌^◌, ◌<◌, ◌≤◌, List, length, replicate, sym, ap, subst, ◌∙◌, arith}
use Rattle.std.proofs.lemmas.List.{length-replicate}
use Rattle.boss_model.specs.Catalogue.{Catalogue, actuators}
use Rattle.boss_model.specs.declared.event.Act.TheVariants.{Tick}
use Rattle.boss_model.specs.declared.event.Event.{Event}
use Rattle.boss_model.specs.declared.state.Actuator.{Actuator}
use Rattle.boss_model.specs.Limits.{last_number}
use Rattle.boss_model.specs.State.{Persistent}
use Rattle.boss_outside.specs.Counts.{Rose}
use Rattle.boss_outside.specs.declared.actuators.Actuators as actuators_of
use Rattle.boss_outside.specs.declared.sink.Sink as sink
use Rattle.boss_outside.specs.declared.source.Source as source
use Rattle.boss_disk.specs.declared.disk.Disk as disk
use Rattle.boss_durable.specs.declared.durable.Durable.{Durable}
use Rattle.boss_durable.specs.Words.{faults, keeps, lasting, leaves}
use Rattle.def_history.specs.declared.entry.Entry.{Entry}
use Rattle.def_history.specs.History.{events, is_broken, run, run_tried}
use Rattle.def_history.proofs.Going.{tried_whole}
use Rattle.boss_opening.specs.Opens.{digest_of, OpenedAt}
use Rattle.def_disk_pair.specs.Pairs.{OpensCleanly}
use Rattle.boss_shared.specs.Walking.{AreTried, shortened}
use Rattle.boss_shared.proofs.Holding.{whole_shortened}
use Rattle.boss_disk.specs.Legs.{Two, Legs, LeaveBoth}
use Rattle.boss_disk.specs.Story.{Story}
use Rattle.boss_disk_pair.specs.Causes.{counts_of, first_disk, second_disk}
use Rattle.boss_disk_pair.specs.Images.{OpensTo, OpensToOne}
use Rattle.boss_disk_pair.specs.Orders.{InOrder, stories_of}
use Rattle.boss_disk_pair.specs.Rests as pair
use Rattle.boss_disk_pair.specs.Rests.{counted, stories}
use Rattle.boss_opening.specs.Opens.{Meanwhile}
use Rattle.boss_opening.specs.UnderWay.{MayComeTo}
use Rattle.boss_pair_find.specs.Two.{two}
use Rattle.boss_pair_find.proofs.Orders.{stories_are}
use Rattle.boss_jobs.specs.Crashes.{Steps, WhileMoved, WhileOpened, WhileRun}
use Rattle.boss_jobs.specs.Journals.{Beside, HoldsAfter, on_disks, RanJournal}
use Rattle.boss_jobs.specs.Openings.{RunsFrom}
use Rattle.boss_jobs.proofs.Refusals.{both}

-- so many events
abbrev pub some-events : ℕ → List Event
some-events many = replicate many (record { moment = 0; act = Tick })

pub many-events : (many : ℕ) → length (some-events many) ≡ many
many-events many = length-replicate many (record { moment = 0; act = Tick })

pub within-last : (number : ℕ) → number ≤ 2 ^ 62 → counted number ≡ number
within-last number few = omega arith

same-state : (plant : List Actuator) (digest : List ℕ) (a b : Persistent) (first second : List ℕ) → b ≡ a → OpensToOne plant digest a b first second → OpensTo plant digest a first second
same-state plant digest a b first second same it = elim it [ inl one ↦ one | inr other ↦ subst (λ d. OpensTo plant digest d first second) same other ]

module _ {D : Type 0} (d : disk.Ghosts D) (catalogue : Catalogue) (durable : Durable D d) (disks : D × D) (made : List Entry)
    (few : counted durable.disks.events ≡ durable.disks.events)
    (held : (any : List Event) → counted (length any) ≡ durable.disks.events → keeps durable any)
    (left : leaves durable (lasting durable) (lasting durable))
    (digest : durable.disks.digest ≡ digest_of catalogue)
    (whole : d.tells → (before : List Event) → keeps durable before → is_broken made ≡ false
    → length before + length (events (actuators catalogue) made durable.engine.state) < last_number
    → OpensCleanly (actuators catalogue) durable.disks.digest (run (actuators catalogue) made durable.engine.state).persistent
    (length before + length (events (actuators catalogue) made durable.engine.state)) (d.reads disks.0) (d.reads disks.1))
    (torn : d.tells → (before : List Event) → keeps durable before → leaves durable (lasting durable) (lasting durable)
    → (tried : ℕ) × AreTried tried made × OpensToOne (actuators catalogue) durable.disks.digest (run (actuators catalogue) made durable.engine.state).persistent
    (run_tried (actuators catalogue) (shortened tried made) durable.engine.state).persistent (d.reads disks.0) (d.reads disks.1)) where
  -- what disks hold that came back of an engine, after the entries that it made
  pub holds-so : d.tells → HoldsAfter catalogue durable.engine.state durable.disks.events made (d.reads disks.0) (d.reads disks.1)
  holds-so tells =
      let plant = actuators catalogue in
      let number = durable.disks.events in
      let any = some-events number in
      let kept : keeps durable any = held any (ap counted (many-events number) ∙ few) in
      let torn : (tried : ℕ) × AreTried tried made × OpensToOne plant (digest_of catalogue) (run plant made durable.engine.state).persistent
      (run_tried plant (shortened tried made) durable.engine.state).persistent (d.reads disks.0) (d.reads disks.1) =
      subst (λ g. (tried : ℕ) × AreTried tried made × OpensToOne plant g (run plant made durable.engine.state).persistent
      (run_tried plant (shortened tried made) durable.engine.state).persistent (d.reads disks.0) (d.reads disks.1)) digest (torn tells any kept left) in
      record {
        whole = λ fine.
            same-state plant (digest_of catalogue) _ _ (d.reads disks.0) (d.reads disks.1)
            (ap (λ es. (run_tried plant es durable.engine.state).persistent) (whole_shortened torn.0 made fine) ∙ ap (λ t. t.persistent) (tried_whole plant made durable.engine.state fine))
            torn.2;
        counted = λ fine few.
            subst (λ n. OpensCleanly plant (digest_of catalogue) (run plant made durable.engine.state).persistent (n + length (events plant made durable.engine.state)) (d.reads disks.0) (d.reads disks.1))
            (many-events number)
            (subst (λ g. OpensCleanly plant g (run plant made durable.engine.state).persistent (length any + length (events plant made durable.engine.state)) (d.reads disks.0) (d.reads disks.1)) digest
            (whole tells any kept fine (subst (λ n. n + length (events plant made durable.engine.state) < last_number) (sym (many-events number)) few)));
        torn = torn;
      }

-- disks that leave one state
pub left-stands : {D : Type 0} (d : disk.Ghosts D) (durable : Durable D d) → d.tells → leaves durable (lasting durable) (lasting durable) →
    LeaveBoth (OpensTo durable.engine.plant durable.disks.digest (lasting durable)) (stories durable.disks).first.window (stories durable.disks).second.window
unfolding leaves pair.leaves
left-stands d durable told left = one-left durable.disks.second (d.story durable.disks.journal.disk) (d.story durable.disks.spare) (left told)
  where
    one-left : (second : Bool) (active spare : Story) →
        InOrder (LeaveBoth (OpensToOne durable.engine.plant durable.disks.digest (lasting durable) (lasting durable))) second active.window spare.window →
        LeaveBoth (OpensTo durable.engine.plant durable.disks.digest (lasting durable)) (stories_of second active spare).first.window (stories_of second active spare).second.window
    one-left false active spare leave a b at there = elim (leave a b at there) [ inl one ↦ one | inr other ↦ other ]
    one-left true active spare leave a b at there = elim (leave a b at there) [ inl one ↦ one | inr other ↦ other ]

-- what a crash may leave of disks on which a journal was opened, and then calls made some entries
module _ {D : Type 0} (d : disk.Ghosts D) (catalogue : Catalogue) (first second : D) (durable : Durable D d)
    (held : (any : List Event) → counted (length any) ≡ durable.disks.events → keeps durable any)
    (left : leaves durable (lasting durable) (lasting durable))
    (digest : durable.disks.digest ≡ digest_of catalogue)
    (plant : durable.engine.plant ≡ actuators catalogue)
    (opening : d.tells → (p : Persistent) (count : ℕ) → OpensCleanly (actuators catalogue) (digest_of catalogue) p count (d.reads first) (d.reads second) →
    (after : Persistent) × MayComeTo (actuators catalogue) (digest_of catalogue) p count after (d.reads first) (d.reads second)
    × Meanwhile (actuators catalogue) (digest_of catalogue) p after (d.story first) (d.story second) (d.story (first_disk durable.disks)) (d.story (second_disk durable.disks))) where
  same-stories : two (d.story (first_disk durable.disks)) (d.story (second_disk durable.disks)) ≡ stories durable.disks
  same-stories = sym (stories_are d.story durable.disks.second durable.disks.journal.disk durable.disks.spare)

  pub run-so : d.tells → (made : List Entry) (to : Two) →
      ((before : List Event) → keeps durable before → Steps (actuators catalogue) durable.disks.digest durable.engine.state (stories durable.disks) made to) →
      WhileRun (actuators catalogue) (digest_of catalogue) (d.reads first) (d.reads second) (two (d.story first) (d.story second)) durable.engine.state made to
  run-so told made to steps =
      let number = durable.disks.events in
      let any = some-events number in
      let kept : keeps durable any = held any (ap counted (many-events number) ∙ within-last durable.disks.events durable.disks.few) in
      record {
        opened = stories durable.disks;
        opening = subst (λ at. WhileOpened (actuators catalogue) (digest_of catalogue) (d.reads first) (d.reads second) (two (d.story first) (d.story second)) at) same-stories (opening told);
        stands =
            subst (λ (q : List Actuator × List ℕ). LeaveBoth (OpensTo q.0 q.1 durable.engine.state.persistent) (stories durable.disks).first.window (stories durable.disks).second.window)
            (λ i. (plant i, digest i)) (left-stands d durable told left);
        steps = subst (λ g. Steps (actuators catalogue) g durable.engine.state (stories durable.disks) made to) digest (steps any kept);
      }

  -- and of disks that moved then
  pub moved-so : d.tells → (P : List ℕ → List ℕ → Type 0) (to : Two) → Legs (LeaveBoth P) (stories durable.disks) to →
      WhileMoved (actuators catalogue) (digest_of catalogue) (d.reads first) (d.reads second) (two (d.story first) (d.story second)) P to
  moved-so told P to moves = record {
    opened = stories durable.disks;
    opening = subst (λ at. WhileOpened (actuators catalogue) (digest_of catalogue) (d.reads first) (d.reads second) (two (d.story first) (d.story second)) at) same-stories (opening told);
    moves = moves;
  }

module _ {D S K A : Type 0} (d : disk.Ghosts D) (s : source.Ghosts S) (k : sink.Ghosts K) (a : actuators_of.Ghosts A)
    (catalogue : Catalogue) (first second : D) (durable : Durable D d) (disks : D × D) (old new : Beside S K A) (status : ℕ)
    (opens : d.tells → OpenedAt (actuators catalogue) (digest_of catalogue) (d.reads first) (d.reads second) durable.engine.state durable.disks.events)
    (held : (any : List Event) → counted (length any) ≡ durable.disks.events → keeps durable any)
    (left : leaves durable (lasting durable) (lasting durable))
    (digest : durable.disks.digest ≡ digest_of catalogue)
    (plant : durable.engine.plant ≡ actuators catalogue)
    (opening : d.tells → (p : Persistent) (count : ℕ) → OpensCleanly (actuators catalogue) (digest_of catalogue) p count (d.reads first) (d.reads second) →
    (after : Persistent) × MayComeTo (actuators catalogue) (digest_of catalogue) p count after (d.reads first) (d.reads second)
    × Meanwhile (actuators catalogue) (digest_of catalogue) p after (d.story first) (d.story second) (d.story (first_disk durable.disks)) (d.story (second_disk durable.disks)))
    (counts : counts_of durable.disks ≡ record { first = d.faults first; second = d.faults second }) where
  pub ran-journal : RunsFrom d s k a catalogue durable disks old new status → RanJournal s k a catalogue (on_disks d (first, second)) (on_disks d disks) old new status
  ran-journal it =
      let before : faults durable ≡ d.faults first + d.faults second = ap both counts in
      record {
        state = durable.engine.state;
        number = durable.disks.events;
        opened = opens;
        made = it.made;
        legal = it.legal;
        end = it.end;
        told = it.told;
        ended = it.ended;
        broke = it.broke;
        read_fault = it.read_fault;
        write_fault = it.write_fault;
        disk_fault = λ broken. subst (λ n. Rose n (d.faults disks.0 + d.faults disks.1)) before (it.disk_fault broken);
        no_disk_fault = λ fine. it.no_disk_fault fine ∙ before;
        holds = holds-so d catalogue durable disks it.made (within-last durable.disks.events durable.disks.few) held left digest it.whole it.torn;
        images = λ told _. run-so d catalogue first second durable held left digest plant opening told it.made (two (d.story disks.0) (d.story disks.1)) (it.steps told);
      }

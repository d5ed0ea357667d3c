-- What a call owes for what it did: where it was stopped before, where nothing was done, where commands were done, and where a disk
-- failed.
use Rattle.std.proofs.Common.{◌≡◌, ◌⊎◌, inl, inr, Bool, true, false, ◌||◌, ℕ, ◌+◌, List, [], ◌∷◌, ◌++◌, length, take, refl, sym, ap, ◌∙◌, subst, arith, append-nil, length-append}
use Rattle.std.specs.List.{AllByRecursion}
use Rattle.boss_disk.specs.declared.disk.Disk as disk
use Rattle.def_history.specs.declared.entry.Entry.{Entry}
use Rattle.def_history.specs.declared.entry.Entry.TheVariants.{Broke}
use Rattle.def_history.specs.declared.entry.Tried.{Tried}
use Rattle.def_history.specs.History.{events, is_broken, run, run_tried, stepped, all_stepped, IsLegal, MayCall, MayTry}
use Rattle.boss_model.specs.declared.command.Command.{Command}
use Rattle.boss_model.specs.declared.event.Event.{Event}
use Rattle.boss_model.specs.declared.state.Actuator.{Actuator}
use Rattle.boss_model.specs.State.{Persistent, State}
use Rattle.boss_outside.specs.Counts.{Rose}
use Rattle.boss_shared.specs.Calls.{is_growing_at}
use Rattle.boss_shared.specs.Walking.{shortened, Walks}
use Rattle.boss_shared.proofs.Holding.{none_tried, tried_same}
use Rattle.boss_shared.proofs.Walks.{walks_once}
use Rattle.boss_disk_pair.specs.Causes.{Counts, counts_of, OneRose}
use Rattle.boss_disk_pair.specs.declared.two_disks.TwoDisks.{TwoDisks}
use Rattle.boss_disk_pair.specs.Rests as pair
use Rattle.boss_disk_pair.proofs.Words as words
use Rattle.boss_durable.specs.declared.batch.Batch.{Batch}
use Rattle.boss_durable.specs.declared.durable.Durable.{Durable}
use Rattle.boss_durable.specs.Taken.{Taken}
use Rattle.boss_engine.specs.Running.{Running}
use Rattle.boss_durable.specs.Words.{lasting, keeps, leaves, passes, passes_in_plant, changes, faults, Does, RunsThrough}

never : (b : Bool) → b ≡ true → b ≡ false → ⊥
never b on off = let clash : true ≡ false = sym on ∙ off in cc

pub rose_sum : (before now : Counts) → OneRose before now → Rose (before.first + before.second) (now.first + now.second)
rose_sum before now (inl rose) = omega (arith, rose.0, rose.1)
rose_sum before now (inr rose) = omega (arith, rose.0, rose.1)

module _ {D : Type 0} {g : disk.Ghosts D} where
  -- ---- words

  pub keeps_leaves : (durable : Durable D g) (before : List Event) → keeps durable before → leaves durable (lasting durable) (lasting durable)
  unfolding keeps leaves
  keeps_leaves durable before held = words.rests_leaves durable.disks durable.engine.plant (lasting durable) (length before) held

  pub keeps_passes : (durable : Durable D g) (before : List Event) → keeps durable before → passes durable durable (lasting durable) (lasting durable)
  unfolding keeps passes
  keeps_passes durable before held = words.rests_passes durable.disks durable.engine.plant (lasting durable) (length before) held

  -- ---- a log begun anew, of the same engine or another

  pub anew_keeps : (old new : Durable D g) (engine : Running) → new.engine ≡ engine →
      ((count : ℕ) → pair.rests old.disks old.engine.plant (lasting old) count → pair.rests new.disks engine.plant engine.state.persistent count) →
      (before : List Event) → keeps old before → keeps new before
  unfolding keeps
  anew_keeps old new engine is rests before held =
      subst (λ (e : Running). pair.rests new.disks e.plant e.state.persistent (length before)) (sym is) (rests (length before) held)

  pub anew_changes : (old new : Durable D g) (plant : List Actuator) (digest : List ℕ) (d : Persistent) →
      ((count : ℕ) → pair.rests old.disks old.engine.plant (lasting old) count → pair.changes old.disks new.disks old.engine.plant (lasting old) plant digest d) →
      (before : List Event) → keeps old before → changes old new plant digest d
  unfolding keeps changes
  anew_changes old new plant digest d runs before held = runs (length before) held

  pub anew_leaves : (old new : Durable D g) → new.engine ≡ old.engine →
      ((count : ℕ) → pair.rests old.disks old.engine.plant (lasting old) count → pair.leaves new.disks old.engine.plant (lasting old) (lasting old)) →
      (before : List Event) → keeps old before → leaves new (lasting old) (lasting old)
  unfolding keeps leaves
  anew_leaves old new same left before held =
      subst (λ (e : Running). pair.leaves new.disks e.plant (lasting old) (lasting old)) (sym same) (left (length before) held)

  pub anew_passes : (old new : Durable D g) →
      ((count : ℕ) → pair.rests old.disks old.engine.plant (lasting old) count → pair.passes old.disks new.disks old.engine.plant (lasting old) (lasting old)) →
      (before : List Event) → keeps old before → passes old new (lasting old) (lasting old)
  unfolding keeps passes
  anew_passes old new runs before held = runs (length before) held

  -- ---- calls

  pub idle_runs : (durable : Durable D g) → RunsThrough durable durable []
  idle_runs durable before held = (0, tt, keeps_passes durable before held)

  one_call : (old new : Durable D g) (made : List Entry) → new.engine.plant ≡ old.engine.plant → RunsThrough old new made →
      (before : List Event) → keeps old before → Walks old.engine.plant passes_in_plant old.engine.state old made new
  one_call old new made same runs before held =
      let ran = runs before held in
      walks_once old.engine.plant passes_in_plant old.engine.state old made new (ran.0, ran.1, (same, ran.2))

  pub idle_does : (durable : Durable D g) (made : List Entry) → durable.disks.stopped ≡ true → made ≡ [] → Does durable durable made
  idle_does durable made on nil = subst (Does durable durable) (sym nil) (record {
    legal = tt;
    same_plant = refl;
    marked = on ∙ sym (ap (λ b. b || false) on);
    none = λ _. refl;
    still = λ _. refl;
    state_is = λ off. absurd (never durable.disks.stopped on off);
    rose = λ off _. absurd (never durable.disks.stopped on off);
    stood = λ _. refl;
    images = λ off. absurd (never durable.disks.stopped on off);
    images_stay = λ _ first second there. there;
    through = λ off. absurd (never durable.disks.stopped on off);
    gained = λ off. absurd (never durable.disks.stopped on off);
  })

  pub gained_there : (old new : Durable D g) (more : List Event) → new.engine.plant ≡ old.engine.plant →
      ((count : ℕ) → pair.rests old.disks old.engine.plant (lasting old) count → pair.rests new.disks old.engine.plant (lasting new) (count + length more)) →
      (before : List Event) → keeps old before → keeps new (before ++ more)
  unfolding keeps
  gained_there old new more same rests before held =
      subst (λ (q : List Actuator × ℕ). pair.rests new.disks q.0 (lasting new) q.1) (λ i. (sym same i, sym (length-append before more) i)) (rests (length before) held)

  -- commands were done, and the disks rest at what they made
  pub done_does : (old new : Durable D g) (made : List Entry) (batch : Batch) → old.disks.stopped ≡ false → new.disks.stopped ≡ false →
      new.engine.plant ≡ old.engine.plant → counts_of new.disks ≡ counts_of old.disks → Taken old.engine.plant made old.engine.state new.engine.state batch →
      ((count : ℕ) → pair.rests old.disks old.engine.plant (lasting old) count →
      pair.rests new.disks old.engine.plant (lasting new) (count + length (events old.engine.plant made old.engine.state))) →
      RunsThrough old new made → Does old new made
  done_does old new made batch off on same stood taken rests runs =
      let gains : (before : List Event) → keeps old before → keeps new (before ++ events old.engine.plant made old.engine.state) =
      gained_there old new (events old.engine.plant made old.engine.state) same rests in
      record {
        legal = taken.legal;
        same_plant = same;
        marked = on ∙ sym (λ i. off i || taken.whole i);
        none = λ was. absurd (never old.disks.stopped was off);
        still = λ was. absurd (never old.disks.stopped was off);
        state_is = λ _. taken.state_is;
        rose = λ _ stops. absurd (never new.disks.stopped stops on);
        stood = λ _. ap (λ counts. counts.first + counts.second) stood;
        images = λ _ _ before held. (
          0,
          none_tried made taken.whole,
          subst (λ (q : State × State). leaves new q.0.persistent q.1.persistent)
              (λ i. (taken.state_is i, (taken.state_is ∙ sym (tried_same old.engine.plant made old.engine.state taken.whole)) i))
              (keeps_leaves new _ (gains before held)),
        );
        images_stay = λ was. absurd (never old.disks.stopped was off);
        through = λ _. one_call old new made same runs;
        gained = λ _ before held. gains before held;
      }

  -- a disk failed while these commands were tried, and behind them those of others
  fault_does : (old new : Durable D g) (session tried : ℕ) (calls : List (Command × ℕ)) (others : List Tried) → old.disks.stopped ≡ false → new.disks.stopped ≡ true →
      new.engine.plant ≡ old.engine.plant → OneRose (counts_of old.disks) (counts_of new.disks) → AllByRecursion (MayCall old.engine.plant) calls →
      AllByRecursion (MayTry old.engine.plant) others →
      ((before : List Event) → keeps old before → leaves new (lasting old) (all_stepped old.engine.plant others (stepped old.engine.plant session (take tried calls) old.engine.state)).persistent) →
      (tried ≡ length calls) ⊎ (is_growing_at calls tried ≡ true) → RunsThrough old new (Broke session calls others ∷ []) → Does old new (Broke session calls others ∷ [])
  fault_does old new session tried calls others off on same rose may more there all runs = record {
    legal = ((may, more), refl, tt);
    same_plant = same;
    marked = on ∙ sym (ap (λ b. b || true) off);
    none = λ was. absurd (never old.disks.stopped was off);
    still = λ was. absurd (never old.disks.stopped was off);
    state_is = λ not. absurd (never new.disks.stopped on not);
    rose = λ _ _. rose_sum (counts_of old.disks) (counts_of new.disks) rose;
    stood = λ equal. absurd (never new.disks.stopped on (equal ∙ off));
    images = λ _ _ before held. (tried, (all, tt), there before held);
    images_stay = λ was. absurd (never old.disks.stopped was off);
    through = λ _. one_call old new (Broke session calls others ∷ []) same runs;
    gained = λ not. absurd (never new.disks.stopped on not);
  }

  -- after a beginning that left all as it was
  pub begun_does : (old mid new : Durable D g) (made : List Entry) → old.disks.stopped ≡ false → mid.disks.stopped ≡ false → mid.engine ≡ old.engine →
      counts_of mid.disks ≡ counts_of old.disks → ((before : List Event) → keeps old before → keeps mid before) → Does mid new made →
      RunsThrough old new made → Does old new made
  begun_does old mid new made off begun same stood stays k runs = record {
    legal = subst (λ (e : Running). IsLegal e.plant made e.state) same k.legal;
    same_plant = k.same_plant ∙ ap (λ e. e.plant) same;
    marked = k.marked ∙ ap (λ b. b || is_broken made) (begun ∙ sym off);
    none = λ was. absurd (never old.disks.stopped was off);
    still = λ was. absurd (never old.disks.stopped was off);
    state_is = λ on. subst (λ (e : Running). new.engine.state ≡ run e.plant made e.state) same (k.state_is on);
    rose = λ _ stops. subst (λ (n : ℕ). Rose n (faults new)) (ap (λ counts. counts.first + counts.second) stood) (k.rose begun stops);
    stood = λ equal. k.stood (equal ∙ off ∙ sym begun) ∙ ap (λ counts. counts.first + counts.second) stood;
    images = λ _ _ before held.
        let left = k.images begun (keeps_leaves mid before (stays before held)) before (stays before held) in
        (left.0, left.1, subst (λ (e : Running). leaves new (run e.plant made e.state).persistent (run_tried e.plant (shortened left.0 made) e.state).persistent) same left.2);
    images_stay = λ was. absurd (never old.disks.stopped was off);
    through = λ _. one_call old new made (k.same_plant ∙ ap (λ e. e.plant) same) runs;
    gained = λ on before held. subst (λ (e : Running). keeps new (before ++ events e.plant made e.state)) same (k.gained on before (stays before held));
  }

  pub begun_runs : (old mid new : Durable D g) (made : List Entry) → mid.engine ≡ old.engine → ((before : List Event) → keeps old before → keeps mid before) →
      ((before : List Event) → keeps old before → passes old mid (lasting old) (lasting old)) → RunsThrough mid new made → RunsThrough old new made
  unfolding passes
  begun_runs old mid new made same still first then before held =
      let ran = then before (still before held) in (
        ran.0,
        ran.1,
        words.passes_before old.disks mid.disks new.disks old.engine.plant (lasting old) _ (first before held)
            (subst (λ (e : Running). pair.passes mid.disks new.disks e.plant e.state.persistent (run_tried e.plant (shortened ran.0 made) e.state).persistent) same ran.2),
      )

  -- ---- nothing done

  same_does : (durable : Durable D g) → durable.disks.stopped ≡ false → Does durable durable []
  same_does durable off = record {
    legal = tt;
    same_plant = refl;
    marked = off ∙ sym (ap (λ b. b || false) off);
    none = λ _. refl;
    still = λ _. refl;
    state_is = λ _. refl;
    rose = λ _ stops. absurd (never durable.disks.stopped stops off);
    stood = λ _. refl;
    images = λ _ left before held. (0, tt, left);
    images_stay = λ _ first second there. there;
    through = λ _. one_call durable durable [] refl (idle_runs durable);
    gained = λ _ before held. subst (keeps durable) (sym (append-nil before)) held;
  }

  pub unmoved_does : (old new : Durable D g) → old.disks.stopped ≡ false → new.disks.stopped ≡ false → new.engine ≡ old.engine → counts_of new.disks ≡ counts_of old.disks →
      ((before : List Event) → keeps old before → keeps new before) → RunsThrough old new [] → Does old new []
  unmoved_does old new off on same stood stays runs = begun_does old new new [] off on same stood stays (same_does new on) runs

  pub unmoved_keeps : (old new : Durable D g) → new.engine ≡ old.engine → new.disks ≡ old.disks → (before : List Event) → keeps old before → keeps new before
  unfolding keeps
  unmoved_keeps old new same disks before held =
      subst (λ (q : TwoDisks D g × Running). pair.rests q.0 q.1.plant q.1.state.persistent (length before)) (λ i. (sym disks i, sym same i)) held

  pub unmoved_runs : (old new : Durable D g) → new.disks ≡ old.disks → RunsThrough old new []
  unfolding keeps passes
  unmoved_runs old new disks before held = (
    0,
    tt,
    subst (λ (x : TwoDisks D g). pair.passes old.disks x old.engine.plant (lasting old) (lasting old)) (sym disks)
        (words.rests_passes old.disks old.engine.plant (lasting old) (length before) held),
  )

  -- ---- while commands were done, or tried

  pub done_runs : (old new : Durable D g) (made : List Entry) (batch : Batch) → Taken old.engine.plant made old.engine.state new.engine.state batch →
      ((count : ℕ) → pair.rests old.disks old.engine.plant (lasting old) count → pair.passes old.disks new.disks old.engine.plant (lasting old) (lasting new)) →
      RunsThrough old new made
  unfolding keeps passes
  done_runs old new made batch taken runs before held = (
    0,
    none_tried made taken.whole,
    subst (λ (s : State). pair.passes old.disks new.disks old.engine.plant (lasting old) s.persistent)
        (taken.state_is ∙ sym (tried_same old.engine.plant made old.engine.state taken.whole)) (runs (length before) held),
  )

  pub failed_runs : (old new : Durable D g) (session tried : ℕ) (calls : List (Command × ℕ)) (others : List Tried) → (tried ≡ length calls) ⊎ (is_growing_at calls tried ≡ true) →
      new.engine.state ≡ all_stepped old.engine.plant others (stepped old.engine.plant session (take tried calls) old.engine.state) →
      ((count : ℕ) → pair.rests old.disks old.engine.plant (lasting old) count → pair.passes old.disks new.disks old.engine.plant (lasting old) (lasting new)) →
      RunsThrough old new (Broke session calls others ∷ [])
  unfolding keeps passes
  failed_runs old new session tried calls others all came runs before held = (
    tried,
    (all, tt),
    subst (λ (s : State). pair.passes old.disks new.disks old.engine.plant (lasting old) s.persistent) came (runs (length before) held),
  )

  failed_leaves : (old new : Durable D g) (to : State) → new.engine.plant ≡ old.engine.plant → new.engine.state ≡ to →
      ((count : ℕ) → pair.rests old.disks old.engine.plant (lasting old) count → pair.passes old.disks new.disks old.engine.plant (lasting old) (lasting new)) →
      (before : List Event) → keeps old before → leaves new (lasting old) to.persistent
  unfolding keeps leaves
  failed_leaves old new to same came runs before held =
      subst (λ (q : List Actuator × State). pair.leaves new.disks q.0 (lasting old) q.1.persistent) (λ i. (sym same i, came i))
      (words.passes_leaves old.disks new.disks old.engine.plant (lasting old) (lasting new) (runs (length before) held))

  -- a disk failed behind the steps of so many of these commands, and behind those of others
  pub failed_does : (old new : Durable D g) (session tried : ℕ) (calls : List (Command × ℕ)) (others : List Tried) → old.disks.stopped ≡ false → new.disks.stopped ≡ true →
      new.engine.plant ≡ old.engine.plant → OneRose (counts_of old.disks) (counts_of new.disks) → AllByRecursion (MayCall old.engine.plant) calls →
      AllByRecursion (MayTry old.engine.plant) others →
      new.engine.state ≡ all_stepped old.engine.plant others (stepped old.engine.plant session (take tried calls) old.engine.state) →
      ((count : ℕ) → pair.rests old.disks old.engine.plant (lasting old) count → pair.passes old.disks new.disks old.engine.plant (lasting old) (lasting new)) →
      (tried ≡ length calls) ⊎ (is_growing_at calls tried ≡ true) → Does old new (Broke session calls others ∷ [])
  failed_does old new session tried calls others off on same rose may more came runs all =
      fault_does old new session tried calls others off on same rose may more
      (failed_leaves old new (all_stepped old.engine.plant others (stepped old.engine.plant session (take tried calls) old.engine.state)) same came runs) all
      (failed_runs old new session tried calls others all came runs)

  pub unbegun_runs : (old new : Durable D g) (session : ℕ) (calls : List (Command × ℕ)) (others : List Tried) →
      ((before : List Event) → keeps old before → passes old new (lasting old) (lasting old)) → RunsThrough old new (Broke session calls others ∷ [])
  unfolding passes
  unbegun_runs old new session calls others runs before held = (
    length calls,
    (inl refl, tt),
    words.passes_wider old.disks new.disks old.engine.plant (lasting old) _ (runs before held),
  )

  widened_leaves : (old new : Durable D g) (to : Persistent) → new.engine.plant ≡ old.engine.plant →
      ((before : List Event) → keeps old before → passes old new (lasting old) (lasting old)) → (before : List Event) → keeps old before → leaves new (lasting old) to
  unfolding leaves passes
  widened_leaves old new to same runs before held =
      subst (λ (p : List Actuator). pair.leaves new.disks p (lasting old) to) (sym same)
      (words.passes_leaves old.disks new.disks old.engine.plant (lasting old) to (words.passes_wider old.disks new.disks old.engine.plant (lasting old) to (runs before held)))

  -- a disk failed before any step
  pub unbegun_does : (old new : Durable D g) (session : ℕ) (calls : List (Command × ℕ)) (others : List Tried) → old.disks.stopped ≡ false → new.disks.stopped ≡ true →
      new.engine ≡ old.engine → OneRose (counts_of old.disks) (counts_of new.disks) → AllByRecursion (MayCall old.engine.plant) calls → AllByRecursion (MayTry old.engine.plant) others →
      ((before : List Event) → keeps old before → passes old new (lasting old) (lasting old)) → Does old new (Broke session calls others ∷ [])
  unbegun_does old new session calls others off on same rose may more runs =
      fault_does old new session (length calls) calls others off on (ap (λ e. e.plant) same) rose may more
      (widened_leaves old new (all_stepped old.engine.plant others (stepped old.engine.plant session (take (length calls) calls) old.engine.state)).persistent (ap (λ e. e.plant) same) runs) (inl refl)
      (unbegun_runs old new session calls others runs)

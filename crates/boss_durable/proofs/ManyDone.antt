-- What a call of several commands owes.
use Rattle.std.proofs.Common.{◌≡◌, ◌⊎◌, inl, inr, true, false, ℕ, zero, suc, ◌+◌, ◌<◌, ◌≤◌, List, [], ◌∷◌, ◌++◌, length, take, Option, Some, None, refl, sym, ap, ◌∙◌, subst, arith, append-nil, length-take}
use Rattle.std.specs.List.{AllByRecursion}
use Rattle.boss_disk.specs.declared.disk.Disk as disk
use Rattle.def_history.specs.declared.entry.Entry.TheVariants.{Did, Broke}
use Rattle.def_history.specs.declared.outcome.Outcome.{Outcome}
use Rattle.def_history.specs.declared.outcome.Outcome.TheVariants.{Done, Stopped, DiskFault, NoMemory, Denied}
use Rattle.def_history.specs.History.{events, run, stepped, MayCall}
use Rattle.def_history.specs.Made.{done_by, mark_by, made_by_all}
use Rattle.boss_model.specs.declared.answer.Answer.{Answer}
use Rattle.boss_model.specs.declared.command.Command.{Command}
use Rattle.boss_model.specs.declared.event.Event.{Event}
use Rattle.boss_model.specs.declared.state.Actuator.{Actuator}
use Rattle.boss_model.specs.State.{State}
use Rattle.boss_shared.specs.Calls.{has_failed_rest, is_growing_at, NoneDone, RestFits}
use Rattle.boss_disk_pair.specs.Causes.{counts_of, OneRose}
use Rattle.boss_disk_pair.specs.Rests as pair
use Rattle.boss_durable.specs.declared.batch.Batch.{Batch}
use Rattle.boss_durable.specs.declared.durable.Durable.{Durable}
use Rattle.boss_durable.specs.Begun.{WantNone}
use Rattle.boss_durable.specs.Taken.{Taken}
use Rattle.boss_durable.specs.Words.{lasting, keeps, passes, Does, RunsThrough}
use Rattle.boss_durable.proofs.Doing.{done_does, done_runs, failed_does, failed_runs, idle_does, idle_runs, unbegun_does, unbegun_runs}
use Rattle.boss_durable.proofs.Takings.{done_none}

-- ---- the first of several commands

pub done_front : (session : ℕ) (calls : List (Command × ℕ)) (answers : List Answer) (k : ℕ) → length answers ≤ k →
    done_by session (take k calls) answers ≡ done_by session calls answers
done_front session [] answers zero less = refl
done_front session [] answers (suc k) less = refl
done_front session (call ∷ calls) [] k less = done_none session (take k (call ∷ calls))
done_front session (call ∷ calls) (answer ∷ answers) zero less = absurd (omega arith)
done_front session (call ∷ calls) (answer ∷ answers) (suc k) less =
    ap (λ es. Did session call.0 call.1 answer ∷ es) (done_front session calls answers k (omega arith))

-- the state after what was answered is that after as many commands
pub run_done : (plant : List Actuator) (session : ℕ) (calls : List (Command × ℕ)) (answers : List Answer) (s : State) → length answers ≤ length calls →
    run plant (done_by session calls answers) s ≡ stepped plant session (take (length answers) calls) s
run_done plant session [] [] s less = refl
run_done plant session [] (answer ∷ answers) s less = absurd (omega arith)
run_done plant session (call ∷ calls) [] s less = refl
run_done plant session (call ∷ calls) (answer ∷ answers) s less = run_done plant session calls answers _ (omega arith)

pub all_front : {X : Type 0} (P : X → Type 0) (k : ℕ) (xs : List X) → AllByRecursion P xs → AllByRecursion P (take k xs)
all_front P zero xs all = tt
all_front P (suc k) [] all = tt
all_front P (suc k) (x ∷ xs) all = (all.0, all_front P k xs all.1)

pub growing_front : (calls : List (Command × ℕ)) (n k : ℕ) → n < k → is_growing_at (take k calls) n ≡ is_growing_at calls n
growing_front calls n zero less = absurd (omega arith)
growing_front [] n (suc k) less = refl
growing_front (call ∷ calls) zero (suc k) less = refl
growing_front (call ∷ calls) (suc n) (suc k) less = growing_front calls n k (omega arith)

-- ---- how many there were

pub done_within : (calls : List (Command × ℕ)) (many n : ℕ) → n ≤ length (take many calls) → many ≤ length calls → n ≤ many
done_within calls many n less within = omega (arith, length-take many calls)

compared : (m n : ℕ) → m ≤ n → (m ≡ n) ⊎ (m < n)
compared zero zero less = inl refl
compared zero (suc n) less = inr (omega arith)
compared (suc m) zero less = absurd (omega arith)
compared (suc m) (suc n) less = elim (compared m n (omega arith)) [ inl same ↦ inl (ap suc same) | inr lower ↦ inr (omega arith) ]

-- where not all were done, the next may want memory
pub stops_at : (calls : List (Command × ℕ)) (many n : ℕ) → n ≤ length (take many calls) → many ≤ length calls →
    (n < length (take many calls) → is_growing_at (take many calls) n ≡ true) → (many < length calls → is_growing_at calls many ≡ true) →
    n < length calls → is_growing_at calls n ≡ true
stops_at calls many n within under grows wants less =
    let size : length (take many calls) ≡ many = omega (arith, length-take many calls) in
    elim (compared n (length (take many calls)) within) [
      | inl same ↦ (let whole : n ≡ many = same ∙ size in subst (λ (k : ℕ). is_growing_at calls k ≡ true) (sym whole) (wants (omega arith)))
      | inr lower ↦ (let front : n < many = omega arith in sym (growing_front calls n many front) ∙ grows lower)
    ]

pub rest_fits : (calls : List (Command × ℕ)) (n done : ℕ) (rest : Option Outcome) → n ≤ length calls → done ≡ n → (n ≡ length calls → rest ≡ None) →
    (n < length calls → rest ≡ Some NoMemory) → (n < length calls → is_growing_at calls n ≡ true) → RestFits calls done rest
rest_fits calls n done rest within is all wants grows =
    elim (compared n (length calls) within) [
      | inl same ↦ subst (RestFits calls done) (sym (all same)) (is ∙ same)
      | inr lower ↦ subst (λ (q : Option Outcome × ℕ). RestFits calls q.1 q.0) (λ i. (sym (wants lower) i, sym is i)) (lower, grows lower)
    ]

-- all were tried, or the next may want memory
all_tried : (calls : List (Command × ℕ)) (n : ℕ) → n ≤ length calls → (n < length calls → is_growing_at calls n ≡ true) →
    (n ≡ length calls) ⊎ (is_growing_at calls n ≡ true)
all_tried calls n within wants = elim (compared n (length calls) within) [ inl same ↦ inl same | inr lower ↦ inr (wants lower) ]

-- ---- the log

pub fewer_want : (s : State) (calls : List (Command × ℕ)) (done many : ℕ) → done ≤ many → WantNone s (take many calls) → WantNone s (take done calls)
fewer_want s calls zero many less none = tt
fewer_want s calls (suc done) zero less none = absurd (omega arith)
fewer_want s [] (suc done) (suc many) less none = tt
fewer_want s (call ∷ calls) (suc done) (suc many) less none = (none.0, fewer_want s calls done many (omega arith) none.1)

grown : (s : State) (calls : List (Command × ℕ)) (done many before after limit : ℕ) → after ≤ before + 65536 → done ≤ many →
    (before + 65536 ≤ limit) ⊎ WantNone s (take many calls) → (after ≤ limit) ⊎ WantNone s (take done calls)
grown s calls done many before after limit short less (inl room) = inl (omega arith)
grown s calls done many before after limit short less (inr none) = inr (fewer_want s calls done many less none)

wants_nothing : (s : State) (calls : List (Command × ℕ)) (done after limit : ℕ) → done ≡ 0 → (after ≤ limit) ⊎ WantNone s (take done calls)
wants_nothing s calls done after limit none = inr (subst (λ (n : ℕ). WantNone s (take n calls)) (sym none) tt)

-- the log stays within its limit, or none of those that were done may want memory
pub stays_within : (s : State) (calls : List (Command × ℕ)) (done many before after limit : ℕ) (rest : Option Outcome) → NoneDone done rest →
    (has_failed_rest rest ≡ false → after ≤ before + 65536) → done ≤ many → (before + 65536 ≤ limit) ⊎ WantNone s (take many calls) →
    (after ≤ limit) ⊎ WantNone s (take done calls)
stays_within s calls done many before after limit None together short less room = grown s calls done many before after limit (short refl) less room
stays_within s calls done many before after limit (Some (Done answer)) together short less room = grown s calls done many before after limit (short refl) less room
stays_within s calls done many before after limit (Some Stopped) together short less room = wants_nothing s calls done after limit together
stays_within s calls done many before after limit (Some DiskFault) together short less room = wants_nothing s calls done after limit together
stays_within s calls done many before after limit (Some NoMemory) together short less room = grown s calls done many before after limit (short refl) less room
stays_within s calls done many before after limit (Some (Denied index rule)) together short less room = grown s calls done many before after limit (short refl) less room

-- ---- the entries

mark_none : (session : ℕ) (calls : List (Command × ℕ)) (rest : Option Outcome) → has_failed_rest rest ≡ false → mark_by [] session calls rest ≡ []
mark_none session calls None fine = refl
mark_none session calls (Some (Done answer)) fine = refl
mark_none session calls (Some Stopped) fine = refl
mark_none session calls (Some DiskFault) fine = absurd cc
mark_none session calls (Some NoMemory) fine = refl
mark_none session calls (Some (Denied index rule)) fine = refl

pub made_fine : (session : ℕ) (calls : List (Command × ℕ)) (answers : List Answer) (rest : Option Outcome) → has_failed_rest rest ≡ false →
    made_by_all [] session calls answers rest ≡ done_by session calls answers
made_fine session calls answers rest fine = ap (λ es. done_by session calls answers ++ es) (mark_none session calls rest fine) ∙ append-nil (done_by session calls answers)

broke_alone : (session : ℕ) (calls : List (Command × ℕ)) (answers : List Answer) → answers ≡ [] →
    made_by_all [] session calls answers (Some DiskFault) ≡ Broke session calls [] ∷ []
broke_alone session calls answers none = ap (λ es. es ++ Broke session calls [] ∷ []) (ap (done_by session calls) none ∙ done_none session calls)

module _ {D : Type 0} {g : disk.Ghosts D} where
  pub all_idle : (durable : Durable D g) (session : ℕ) (calls : List (Command × ℕ)) (answers : List Answer) → durable.disks.stopped ≡ true → answers ≡ [] →
      Does durable durable (made_by_all [] session calls answers (Some Stopped))
  all_idle durable session calls answers on none =
      idle_does durable _ on (ap (λ es. es ++ []) (ap (done_by session calls) none ∙ done_none session calls))

  pub all_idle_runs : (durable : Durable D g) (session : ℕ) (calls : List (Command × ℕ)) (answers : List Answer) → answers ≡ [] →
      RunsThrough durable durable (made_by_all [] session calls answers (Some Stopped))
  all_idle_runs durable session calls answers none =
      subst (RunsThrough durable durable) (sym (ap (λ es. es ++ []) (ap (done_by session calls) none ∙ done_none session calls))) (idle_runs durable)

  -- a disk failed before any step
  pub all_unbegun : (old new : Durable D g) (session : ℕ) (calls : List (Command × ℕ)) (answers : List Answer) → answers ≡ [] → old.disks.stopped ≡ false →
      new.disks.stopped ≡ true → new.engine ≡ old.engine → OneRose (counts_of old.disks) (counts_of new.disks) → AllByRecursion (MayCall old.engine.plant) calls →
      ((before : List Event) → keeps old before → passes old new (lasting old) (lasting old)) → Does old new (made_by_all [] session calls answers (Some DiskFault))
  all_unbegun old new session calls answers none off on same rose may runs =
      subst (Does old new) (sym (broke_alone session calls answers none)) (unbegun_does old new session calls [] off on same rose may tt runs)

  pub all_unbegun_runs : (old new : Durable D g) (session : ℕ) (calls : List (Command × ℕ)) (answers : List Answer) → answers ≡ [] →
      ((before : List Event) → keeps old before → passes old new (lasting old) (lasting old)) → RunsThrough old new (made_by_all [] session calls answers (Some DiskFault))
  all_unbegun_runs old new session calls answers none runs =
      subst (RunsThrough old new) (sym (broke_alone session calls answers none)) (unbegun_runs old new session calls [] runs)

  -- So many were answered, of those that could go on.
  module _ (old new : Durable D g) (session many : ℕ) (calls : List (Command × ℕ)) (answers : List Answer) (batch : Batch) (under : length answers ≤ many)
      (taken : Taken old.engine.plant (done_by session (take many calls) answers) old.engine.state new.engine.state batch)
      (runs : (count : ℕ) → pair.rests old.disks old.engine.plant (lasting old) count →
      pair.passes old.disks new.disks old.engine.plant (lasting old) (lasting new)) where
    made_is : (rest : Option Outcome) → has_failed_rest rest ≡ false → made_by_all [] session calls answers rest ≡ done_by session (take many calls) answers
    made_is rest fine = made_fine session calls answers rest fine ∙ sym (done_front session calls answers many under)

    pub all_done : (rest : Option Outcome) → has_failed_rest rest ≡ false → old.disks.stopped ≡ false → new.disks.stopped ≡ false →
        new.engine.plant ≡ old.engine.plant → counts_of new.disks ≡ counts_of old.disks →
        ((count : ℕ) → pair.rests old.disks old.engine.plant (lasting old) count →
        pair.rests new.disks old.engine.plant (lasting new) (count + length (events old.engine.plant (done_by session (take many calls) answers) old.engine.state))) →
        Does old new (made_by_all [] session calls answers rest)
    all_done rest fine off on same stood rests =
        subst (Does old new) (sym (made_is rest fine)) (done_does old new (done_by session (take many calls) answers) batch off on same stood taken rests
        (done_runs old new (done_by session (take many calls) answers) batch taken runs))

    pub all_done_runs : (rest : Option Outcome) → has_failed_rest rest ≡ false → RunsThrough old new (made_by_all [] session calls answers rest)
    all_done_runs rest fine = subst (RunsThrough old new) (sym (made_is rest fine)) (done_runs old new (done_by session (take many calls) answers) batch taken runs)

    came : length answers ≤ length calls → new.engine.state ≡ stepped old.engine.plant session (take (length answers) calls) old.engine.state
    came within =
        taken.state_is ∙ ap (λ es. run old.engine.plant es old.engine.state) (done_front session calls answers many under)
        ∙ run_done old.engine.plant session calls answers old.engine.state within

    -- and then a disk failed
    pub all_failed : (left : List Answer) → left ≡ [] → length answers ≤ length calls → AllByRecursion (MayCall old.engine.plant) calls → old.disks.stopped ≡ false →
        new.disks.stopped ≡ true → new.engine.plant ≡ old.engine.plant → OneRose (counts_of old.disks) (counts_of new.disks) →
        (length answers < length calls → is_growing_at calls (length answers) ≡ true) → Does old new (made_by_all [] session calls left (Some DiskFault))
    all_failed left none within may off on same rose wants =
        subst (Does old new) (sym (broke_alone session calls left none))
        (failed_does old new session (length answers) calls [] off on same rose may tt (came within) runs (all_tried calls (length answers) within wants))

    pub all_failed_runs : (left : List Answer) → left ≡ [] → length answers ≤ length calls → (length answers < length calls → is_growing_at calls (length answers) ≡ true) →
        RunsThrough old new (made_by_all [] session calls left (Some DiskFault))
    all_failed_runs left none within wants =
        subst (RunsThrough old new) (sym (broke_alone session calls left none))
        (failed_runs old new session (length answers) calls [] (all_tried calls (length answers) within wants) (came within) runs)

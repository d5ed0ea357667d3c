-- What a call of several callers owes.
use Rattle.std.proofs.Common.{◌≡◌, ◌⊎◌, inl, inr, true, false, ℕ, ◌+◌, ◌≤◌, List, [], ◌∷◌, ◌++◌, length, map, take, Option, Some, None, refl, sym, ap, ◌∙◌, subst, arith, append-nil, length-append}
use Rattle.std.specs.List.{AllByRecursion}
use Rattle.boss_disk.specs.declared.disk.Disk as disk
use Rattle.boss_disk_pair.specs.Causes.{counts_of, OneRose}
use Rattle.boss_disk_pair.specs.declared.two_disks.TwoDisks.{TwoDisks}
use Rattle.boss_disk_pair.specs.Rests as pair
use Rattle.boss_model.specs.declared.answer.Answer.{Answer}
use Rattle.boss_model.specs.declared.command.Command.{Command}
use Rattle.boss_model.specs.declared.event.Event.{Event}
use Rattle.boss_model.specs.declared.state.Actuator.{Actuator}
use Rattle.boss_model.specs.State.{State}
use Rattle.boss_shared.specs.declared.asked.Asked.{Asked}
use Rattle.boss_shared.specs.Calls.{has_failed_rest, is_growing_at, RestFits}
use Rattle.boss_shared.specs.Gates.{denial_of_rest}
use Rattle.boss_shared.specs.Together.{commands_in, tried_of, IsReplied, MayAsk}
use Rattle.boss_shared.proofs.Together.{all_more, answered, answered_append, may_try, IsFine}
use Rattle.def_history.specs.declared.entry.Entry.TheVariants.{Broke}
use Rattle.def_history.specs.declared.outcome.Outcome.{Outcome}
use Rattle.def_history.specs.declared.outcome.Outcome.TheVariants.{Done, Stopped, DiskFault, NoMemory, Denied}
use Rattle.def_history.specs.History.{all_stepped, events, run, stepped}
use Rattle.def_history.specs.Made.{done_by}
use Rattle.def_history.proofs.Going.{run_append}
use Rattle.boss_durable.specs.declared.batch.Batch.{Batch}
use Rattle.boss_durable.specs.declared.durable.Durable.{Durable}
use Rattle.boss_durable.specs.Taken.{Taken}
use Rattle.boss_durable.specs.Words.{lasting, keeps, passes, Does, RunsThrough}
use Rattle.boss_durable.proofs.Doing.{done_does, done_runs, failed_does, failed_runs, unbegun_does}
use Rattle.boss_durable.proofs.ManyDone.{run_done}
use Rattle.boss_durable.proofs.Takings.{nothing_taken}

-- as many commands were tried as were answered
abbrev pub AreTriedSo : List Asked → Type 0
AreTriedSo [] = Unit {0}
AreTriedSo (asked ∷ group) = (asked.tried ≡ length asked.answers.items) × (length asked.answers.items ≤ length asked.commands) × AreTriedSo group

-- the machine is then where the mark's calls lead to
pub run_answered : (plant : List Actuator) (group : List Asked) (s : State) → AreTriedSo group → run plant (answered group) s ≡ all_stepped plant (map tried_of group) s
run_answered plant [] s so = refl
run_answered plant (asked ∷ group) s so =
    run_append plant (done_by asked.session asked.commands asked.answers.items) (answered group) s
    ∙ ap (run plant (answered group)) (run_done plant asked.session asked.commands asked.answers.items s so.1
    ∙ ap (λ (n : ℕ). stepped plant asked.session (take n asked.commands) s) (sym so.0))
    ∙ run_answered plant group (stepped plant asked.session (take asked.tried asked.commands) s) so.2

-- where not all of a caller's commands were done, the next one may want memory
pub tried_all : (calls : List (Command × ℕ)) (done : ℕ) (rest : Option Outcome) → RestFits calls done rest → has_failed_rest rest ≡ false → denial_of_rest rest ≡ None →
    (done ≡ length calls) ⊎ (is_growing_at calls done ≡ true)
tried_all calls done None fits fine undenied = inl fits
tried_all calls done (Some (Done answer)) fits fine undenied = absurd fits
tried_all calls done (Some Stopped) fits fine undenied = absurd cc
tried_all calls done (Some DiskFault) fits fine undenied = absurd cc
tried_all calls done (Some NoMemory) fits fine undenied = inr fits.1
tried_all calls done (Some (Denied index rule)) fits fine undenied = absurd cc

-- These callers' commands were tried, one caller's behind another's, and the batch has their events.
pub record HasTried (plant : List Actuator) (start now : State) (batch : Batch) (group : List Asked) : Type 0 where
  pub taken : Taken plant (answered group) start now batch
  pub fine : AllByRecursion IsFine group
  pub told : AllByRecursion (IsReplied false) group
  pub tried : AreTriedSo group

pub tried_nothing : (plant : List Actuator) (s : State) (batch : Batch) → batch.bytes.bytes ≡ [] → batch.events ≡ 0 → HasTried plant s s batch []
tried_nothing plant s batch none empty = record { taken = nothing_taken plant s batch none empty; fine = tt; told = tt; tried = tt }

-- ---- one caller's commands

done_short : (session : ℕ) (calls : List (Command × ℕ)) (answers : List Answer) → length (done_by session calls answers) ≤ length calls
done_short session [] answers = omega arith
done_short session (call ∷ calls) [] = omega arith
done_short session (call ∷ calls) (answer ∷ answers) = omega (arith, done_short session calls answers)

-- no more entries than commands
pub answered_few : (group : List Asked) → length (answered group) ≤ commands_in group
answered_few [] = omega arith
answered_few (asked ∷ group) =
    omega (arith, length-append (done_by asked.session asked.commands asked.answers.items) (answered group), done_short asked.session asked.commands asked.answers.items, answered_few group)

fits_within : (calls : List (Command × ℕ)) (done : ℕ) (rest : Option Outcome) → RestFits calls done rest → done ≤ length calls
fits_within calls done None fits = omega (arith, fits)
fits_within calls done (Some (Done answer)) fits = absurd fits
fits_within calls done (Some Stopped) fits = omega (arith, fits)
fits_within calls done (Some DiskFault) fits = omega (arith, fits)
fits_within calls done (Some NoMemory) fits = omega (arith, fits.0)
fits_within calls done (Some (Denied index rule)) fits = omega (arith, fits)

tried_more : (group : List Asked) (asked : Asked) → AreTriedSo group → asked.tried ≡ length asked.answers.items → length asked.answers.items ≤ length asked.commands →
    AreTriedSo (group ++ asked ∷ [])
tried_more [] asked so many within = (many, within, tt)
tried_more (first ∷ group) asked so many within = (so.0, so.1, tried_more group asked so.2 many within)

-- one caller more
pub has_tried_more : (plant : List Actuator) (start now next : State) (old new : Batch) (group : List Asked) (asked : Asked) → HasTried plant start now old group →
    (Taken plant (answered group) start now old → Taken plant (answered group ++ done_by asked.session asked.commands asked.answers.items) start next new) →
    IsFine asked → IsReplied false asked → asked.tried ≡ asked.outcomes.done → HasTried plant start next new (group ++ asked ∷ [])
has_tried_more plant start now next old new group asked has takes fine told tried =
    let whole : answered group ++ done_by asked.session asked.commands asked.answers.items ≡ answered (group ++ asked ∷ []) =
    ap (λ es. answered group ++ es) (sym (append-nil (done_by asked.session asked.commands asked.answers.items)))
    ∙ sym (answered_append group (asked ∷ [])) in
    let within = fits_within asked.commands asked.outcomes.done asked.outcomes.rest told.rest in
    record {
      taken = subst (λ es. Taken plant es start next new) whole (takes has.taken);
      fine = all_more IsFine group asked has.fine fine;
      told = all_more (IsReplied false) group asked has.told told;
      tried = tried_more group asked has.tried (tried ∙ sym told.done) (omega (arith, within, told.done));
    }

-- ---- where the commands of all callers were tried, over these disks, and then kept

module _ {D : Type 0} {g : disk.Ghosts D} (old new : Durable D g) (disks : TwoDisks D g) (over : disks ≡ old.disks) (batch : Batch) (group : List Asked)
    (has : HasTried old.engine.plant old.engine.state new.engine.state batch group)
    (runs : (count : ℕ) → pair.rests disks old.engine.plant (lasting old) count → pair.passes disks new.disks old.engine.plant (lasting old) (lasting new)) where
  runs_on : (count : ℕ) → pair.rests old.disks old.engine.plant (lasting old) count → pair.passes old.disks new.disks old.engine.plant (lasting old) (lasting new)
  runs_on count at =
      subst (λ (d : TwoDisks D g). pair.passes d new.disks old.engine.plant (lasting old) (lasting new)) over
      (runs count (subst (λ (d : TwoDisks D g). pair.rests d old.engine.plant (lasting old) count) (sym over) at))

  pub together_runs : RunsThrough old new (answered group)
  together_runs = done_runs old new (answered group) batch has.taken runs_on

  pub together_does : old.disks.stopped ≡ false → new.disks.stopped ≡ false → new.engine.plant ≡ old.engine.plant → counts_of new.disks ≡ counts_of disks →
      ((count : ℕ) → pair.rests disks old.engine.plant (lasting old) count →
      pair.rests new.disks old.engine.plant (lasting new) (count + length (events old.engine.plant (answered group) old.engine.state))) → Does old new (answered group)
  together_does off on same stood rests =
      done_does old new (answered group) batch off on same (stood ∙ ap counts_of over) has.taken
      (λ count at. rests count (subst (λ (d : TwoDisks D g). pair.rests d old.engine.plant (lasting old) count) (sym over) at)) together_runs

-- ---- where a disk failed

-- before any step
pub unbegun_together : {D : Type 0} {g : disk.Ghosts D} (old new : Durable D g) (first : Asked) (others : List Asked) → old.disks.stopped ≡ false → new.disks.stopped ≡ true →
    OneRose (counts_of old.disks) (counts_of new.disks) → AllByRecursion (MayAsk old.engine.plant) (first ∷ others) → new.engine ≡ old.engine →
    ((before : List Event) → keeps old before → passes old new (lasting old) (lasting old)) → Does old new (Broke first.session first.commands (map tried_of others) ∷ [])
unbegun_together old new first others off on rose may same runs =
    unbegun_does old new first.session first.commands (map tried_of others) off on same rose may.0.may (may_try old.engine.plant others may.1) runs

-- behind the steps
module _ {D : Type 0} {g : disk.Ghosts D} (old new : Durable D g) (disks : TwoDisks D g) (over : disks ≡ old.disks) (batch : Batch) (group : List Asked)
    (has : HasTried old.engine.plant old.engine.state new.engine.state batch group)
    (runs : (count : ℕ) → pair.rests disks old.engine.plant (lasting old) count → pair.passes disks new.disks old.engine.plant (lasting old) (lasting new))
    (first : Asked) (others : List Asked) (is : group ≡ first ∷ others) where
  all_has : HasTried old.engine.plant old.engine.state new.engine.state batch (first ∷ others)
  all_has = subst (HasTried old.engine.plant old.engine.state new.engine.state batch) is has

  came : new.engine.state ≡ all_stepped old.engine.plant (map tried_of others) (stepped old.engine.plant first.session (take first.tried first.commands) old.engine.state)
  came = all_has.taken.state_is ∙ run_answered old.engine.plant (first ∷ others) old.engine.state all_has.tried

  all_tried : (first.tried ≡ length first.commands) ⊎ (is_growing_at first.commands first.tried ≡ true)
  all_tried =
      subst (λ (n : ℕ). (n ≡ length first.commands) ⊎ (is_growing_at first.commands n ≡ true)) (sym (all_has.tried.0 ∙ all_has.told.0.done))
      (tried_all first.commands first.outcomes.done first.outcomes.rest all_has.told.0.rest all_has.fine.0 all_has.told.0.undenied)

  pub failed_together_runs : RunsThrough old new (Broke first.session first.commands (map tried_of others) ∷ [])
  failed_together_runs = failed_runs old new first.session first.tried first.commands (map tried_of others) all_tried came (runs_on old new disks over batch group has runs)

  pub failed_together : old.disks.stopped ≡ false → new.disks.stopped ≡ true → OneRose (counts_of disks) (counts_of new.disks) →
      AllByRecursion (MayAsk old.engine.plant) group → new.engine.plant ≡ old.engine.plant → Does old new (Broke first.session first.commands (map tried_of others) ∷ [])
  failed_together off on rose may same =
      let may_all = subst (AllByRecursion (MayAsk old.engine.plant)) is may in
      failed_does old new first.session first.tried first.commands (map tried_of others) off on same
      (subst (λ (d : TwoDisks D g). OneRose (counts_of d) (counts_of new.disks)) over rose) may_all.0.may (may_try old.engine.plant others may_all.1) came
      (runs_on old new disks over batch group has runs) all_tried

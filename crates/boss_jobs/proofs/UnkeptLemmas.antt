-- A script whose journal is in memory alone is one whose journal does not fail.
use Rattle.std.proofs.Common.{◌≡◌, ℕ, Bool, false, List, [], ◌++◌, refl, ap, ap₂, sym, subst, ◌∙◌, length, if◌then◌else◌, Some, None, Result, Ok, Err, IfOk, OnErr}
use Rattle.boss_lines.specs.declared.reader.Next.{Next}
use Rattle.boss_lines.specs.declared.reader.Next.TheVariants.{Line, Finish, TooLong, ReadFault}
use Rattle.boss_model.specs.Catalogue.{Catalogue, actuators}
use Rattle.boss_model.specs.Lines.{lines}
use Rattle.boss_model.specs.Settle.{first_state}
use Rattle.boss_model.specs.State.{State}
use Rattle.def_wire.specs.Script.{script}
use Rattle.def_history.specs.declared.entry.Entry.{Entry}
use Rattle.def_history.specs.History.{deeds, is_broken}
use Rattle.boss_shared.specs.declared.keeper.Keeper as keeper
use Rattle.boss_scripts.specs.declared.broken.Broken.{Broken}
use Rattle.boss_scripts.specs.Ends.{CarriesOut, EndsOver, LeavesOff}
use Rattle.boss_scripts.specs.InTime.{AreInTime}
use Rattle.boss_scripts.specs.Outside.{Outside}
use Rattle.boss_scripts.specs.Runs.{dealt, IsFrontOf}
use Rattle.boss_scripts.specs.Scripts as over
use Rattle.boss_scripts.proofs.ScriptLemmas as opening
use Rattle.boss_jobs.specs.Ends.{Ended}
use Rattle.boss_jobs.specs.Scripts.{BrokeScript, RanScript, whole_script}

-- what follows from how a script ran follows from how it ended
ends-as : (Ran Was : List (List ℕ) → Bool → Type 0) (old new : Outside) (next : Next) → ((all : List (List ℕ)) (is_over : Bool) → Ran all is_over → Was all is_over) →
    EndsOver Ran old new next → EndsOver Was old new next
ends-as Ran Was old new Finish go ends = (ends.0, ends.1, λ tells. go _ _ (ends.2 tells))
ends-as Ran Was old new ReadFault go ends = (ends.0, ends.1, λ tells. go _ _ (ends.2 tells))
ends-as Ran Was old new TooLong go ends = (ends.0, ends.1, ends.2, ends.3, λ tells. go _ _ (ends.4 tells))
ends-as Ran Was old new Line go ends = (ends.0, ends.1, ends.2, λ tells. go _ _ (ends.3 tells))

module _ (catalogue : Catalogue) (s : State) (entries : List Entry) (first : s ≡ first_state (actuators catalogue)) (whole : is_broken entries ≡ false) where
  same : (all : List (List ℕ)) (results : List Bool) → over.script_with catalogue s all entries results ≡ whole_script catalogue all results
  same all results =
      ap₂ (λ t b. script catalogue t all results (if b then Some (length (deeds entries)) else None)) first whole

  pub ran : (all : List (List ℕ)) (is_over : Bool) (old new : Outside) → over.RanScript catalogue s all is_over entries old new → RanScript catalogue all is_over old new
  ran all is_over old new it =
      let run : over.script_with catalogue s all entries it.results ≡ whole_script catalogue all it.results = same all it.results in
      record {
        results = it.results;
        finished = ap (λ r. r.short) (sym run) ∙ it.finished;
        over = ap (λ r. r.over) (sym run) ∙ it.over;
        used = ap (λ r. r.results) (sym run) ∙ it.used;
        text = it.text ∙ ap (λ r. old.trace.taken ++ r.text) run;
        answered = it.answered;
        devices = λ all_told. let done = it.devices all_told in (done.0, done.1 ∙ ap (λ r. dealt (actuators catalogue) r.calls old.trace.calls) run);
        in_time = subst (λ over. AreInTime over old.left (length old.trace.taken) old.reads new.reads) (λ i come. same come it.results i) it.in_time;
      }

  pub broke : (all : List (List ℕ)) (old new : Outside) → over.BrokeScript catalogue s all entries old new → BrokeScript catalogue all old new
  broke all old new it =
      let run : over.script_with catalogue s all entries it.results ≡ whole_script catalogue all it.results = same all it.results in
      record {
        results = it.results;
        told = it.told;
        calls = it.calls;
        front = subst (λ r. IsFrontOf it.told r.text) run it.front;
        first = subst (λ r. IsFrontOf it.calls r.calls) run it.first;
        text = it.text;
        answered = it.answered;
        devices = it.devices;
        in_time = subst (λ over. AreInTime over old.left (length old.trace.taken) old.reads new.reads) (λ i come. same come it.results i) it.in_time;
      }

-- nothing was told and called yet
pub nothing : (catalogue : Catalogue) (all : List (List ℕ)) (old : Outside) → BrokeScript catalogue all old old
nothing catalogue all old = broke catalogue (first_state (actuators catalogue)) [] refl refl all old old (opening.nothing catalogue (first_state (actuators catalogue)) all old)

module _ {V : Type 0} (v : keeper.Ghosts V) (catalogue : Catalogue) (before now : V) (old new : Outside) (first : v.state before ≡ first_state (actuators catalogue)) (off : v.stopped now ≡ false) where
  pub ended-so : (end : Result Next Broken) → IfOk end (λ next. CarriesOut v catalogue before now old new next) → old.source_tells → Ended catalogue old new end
  ended-so (Ok next) it left =
      ends-as (λ all is_over. over.RanScript catalogue (v.state before) all is_over it.entries old new) (λ all is_over. RanScript catalogue all is_over old new) old new next
      (λ all is_over. ran catalogue (v.state before) it.entries first (sym it.stopped ∙ off) all is_over old new) (it.ended left)
  ended-so (Err broken) it left = tt

  pub broke-so : (end : Result Next Broken) → OnErr end (LeavesOff v catalogue before now old new) →
      OnErr end (old.source_tells → old.sink_tells → BrokeScript catalogue (lines old.left) old new)
  broke-so (Ok next) it = tt
  broke-so (Err broken) it = λ left tells. broke catalogue (v.state before) it.entries first (sym it.stopped ∙ off) (lines old.left) old new (it.broke left tells)

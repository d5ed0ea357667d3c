-- A script over a keeper, whichever way it ended.
use Rattle.std.proofs.Common.{◌≡◌, true, ℕ, List, Result, Ok, Err, IfOk, OnErr, subst}
use Rattle.boss_lines.specs.declared.reader.Next.{Next}
use Rattle.boss_model.specs.Catalogue.{Catalogue}
use Rattle.boss_model.specs.Lines.{lines}
use Rattle.boss_model.specs.declared.state.Actuator.{Actuator}
use Rattle.boss_model.specs.State.{Persistent}
use Rattle.boss_outside.specs.Counts.{Rose}
use Rattle.def_disk_pair.specs.Pairs.{OpensCleanly}
use Rattle.boss_disk_pair.specs.Images.{OpensToOne}
use Rattle.def_history.specs.declared.entry.Entry.{Entry}
use Rattle.def_history.specs.History.{is_broken}
use Rattle.boss_shared.specs.declared.keeper.Keeper as keeper
use Rattle.boss_scripts.specs.declared.broken.Broken.{Broken}
use Rattle.boss_scripts.specs.Ends.{CarriesOut, EndsOver, LeavesOff}
use Rattle.boss_scripts.specs.Keepers.{Kept}
use Rattle.boss_scripts.specs.Outside.{Outside}
use Rattle.boss_scripts.specs.Scripts.{BrokeScript, RanScript}

module _ {V : Type 0} (v : keeper.Ghosts V) (catalogue : Catalogue) (before now : V) (old new : Outside) where
  -- the keeper made entries, and they are those of the script as far as it came
  pub record Ran (end : Result Next Broken) : Type 0 where
    pub made : List Entry
    pub kept : Kept v before now made
    pub stopped : v.stopped now ≡ is_broken made
    pub disk_fault : is_broken made ≡ true → Rose (v.faults before) (v.faults now)
    pub ended : old.source_tells → IfOk end (EndsOver (λ all is_over. RanScript catalogue (v.state before) all is_over made old new) old new)
    pub broke : old.source_tells → old.sink_tells → OnErr end (BrokeScript catalogue (v.state before) (lines old.left) made old new)

  pub ran-so : (end : Result Next Broken) → IfOk end (λ next. CarriesOut v catalogue before now old new next) → OnErr end (LeavesOff v catalogue before now old new) → Ran end
  ran-so (Ok next) it _ =
      record { made = it.entries; kept = it.kept; stopped = it.stopped; disk_fault = it.disk_fault; ended = it.ended; broke = λ _ _. tt }
  ran-so (Err broken) _ it =
      record { made = it.entries; kept = it.kept; stopped = it.stopped; disk_fault = it.disk_fault; ended = λ _. tt; broke = it.broke }

-- ---- what a pair opens to, told of equal things

pub opens-as : (p p' : List Actuator) (g g' : List ℕ) (d d' : Persistent) (n n' : ℕ) (a b : List ℕ) → p ≡ p' → g ≡ g' → d ≡ d' → n ≡ n' →
    OpensCleanly p g d n a b → OpensCleanly p' g' d' n' a b
opens-as p p' g g' d d' n n' a b e f h i it =
    subst (λ (q : List Actuator × List ℕ × Persistent × ℕ). OpensCleanly q.0 q.1 q.2 q.3 a b) (λ j. (e j, f j, h j, i j)) it

pub one-as : (p p' : List Actuator) (g g' : List ℕ) (d d' t t' : Persistent) (a b : List ℕ) → p ≡ p' → g ≡ g' → d ≡ d' → t ≡ t' →
    OpensToOne p g d t a b → OpensToOne p' g' d' t' a b
one-as p p' g g' d d' t t' a b e f h i it =
    subst (λ (q : List Actuator × List ℕ × Persistent × Persistent). OpensToOne q.0 q.1 q.2 q.3 a b) (λ j. (e j, f j, h j, i j)) it

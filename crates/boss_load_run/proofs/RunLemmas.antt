-- What a load that was run tells, and what lasts of it.
use Rattle.std.proofs.Common.{arith, ◌≡◌, ◌⊎◌, inl, inr, true, subst, ℕ, zero, suc, Bool, false, List, [], ◌∷◌, ◌++◌, length, map, slice_index_or, if◌then◌else◌, Some, None, refl, ap, ap₂, sym, ◌∙◌}
use Rattle.boss_model.specs.Catalogue.{actuators}
use Rattle.boss_model.specs.Lines.{lines}
use Rattle.boss_model.specs.Settle.{first_state}
use Rattle.boss_model.specs.State.{State}
use Rattle.def_wire.specs.Script.{script}
use Rattle.boss_outside.specs.Counts.{Rose}
use Rattle.def_history.specs.declared.entry.Entry.{Entry}
use Rattle.def_history.specs.History.{deeds, is_broken, run}
use Rattle.boss_lines.specs.declared.reader.Next.{Next}
use Rattle.boss_lines.specs.declared.reader.Next.TheVariants.{Line, Finish, TooLong, ReadFault}
use Rattle.boss_shared.specs.declared.keeper.Keeper as keeper
use Rattle.boss_scripts.specs.Ends.{CarriesOut, EndsOver}
use Rattle.boss_scripts.specs.Outside.{Outside}
use Rattle.boss_scripts.specs.Scripts.{RanScript, script_with}
use Rattle.boss_load_run.specs.Load.{Ran, run_over}
use Rattle.boss_load_run.specs.Plant.{plant}

-- the counts of devices that count no fault
abbrev pub counts : {A : Type 0} → List A → List ℕ
counts devices = map (λ _. 0) devices

none-counted : {A : Type 0} (devices : List A) (device : ℕ) → slice_index_or (counts devices) device 0 ≡ 0
none-counted [] device = refl
none-counted (first ∷ devices) zero = refl
none-counted (first ∷ devices) (suc device) = none-counted devices device

pub none-rose : {A : Type 0} (before now : List A) (device : ℕ) → ¬ Rose (slice_index_or (counts before) device 0) (slice_index_or (counts now) device 0)
none-rose before now device rose =
    let was = none-counted before device in
    let is = none-counted now device in
    omega arith

module _ (all : List (List ℕ)) (s : State) (entries : List Entry) (first : s ≡ first_state (actuators plant)) (whole : is_broken entries ≡ false) where
  same : (results : List Bool) → script_with plant s all entries results ≡ run_over all results
  same results = ap₂ (λ t b. script plant t all results (if b then Some (length (deeds entries)) else None)) first whole

  -- where no device's count rose, a sink that had taken nothing took the script's text
  ran : (is_over : Bool) (old new : Outside) (now : State) → now ≡ run (actuators plant) entries s → old.trace.taken ≡ []
      → ((device : ℕ) → ¬ Rose (slice_index_or old.trace.faults device 0) (slice_index_or new.trace.faults device 0))
      → RanScript plant s all is_over entries old new → Ran all new.trace.taken now.persistent
  ran is_over old new now at empty fine it =
      let is = same it.results in
      record {
        results = it.results;
        taken = it.answered.taken fine;
        finished = ap (λ r. r.short) (sym is) ∙ it.finished;
        used = ap (λ r. r.results) (sym is) ∙ it.used;
        told = it.text ∙ ap (λ t. t ++ (script_with plant s all entries it.results).text) empty ∙ ap (λ r. r.text) is;
        lasts = ap (λ t. t.persistent) (at ∙ sym it.state ∙ ap (λ r. r.state) is);
      }

-- the end of a script that was carried out, which may be a line that is too long
abbrev pub IsEnd : Next → Type 0
IsEnd end = (end ≡ Finish) ⊎ (end ≡ TooLong)

module _ {V : Type 0} (v : keeper.Ghosts V) (before now : V) (old new : Outside) where
  over-end : (entries : List Entry) (end : Next) → IsEnd end → old.sink_tells
      → EndsOver (λ all is_over. RanScript plant (v.state before) all is_over entries old new) old new end
      → (is_over : Bool) × RanScript plant (v.state before) (lines old.left) is_over entries old new
  over-end entries Finish is tells ends = (false, ends.2 tells)
  over-end entries TooLong is tells ends = (true, ends.4 tells)
  over-end entries ReadFault is tells ends = elim is [ inl other ↦ absurd cc | inr other ↦ absurd cc ]
  over-end entries Line is tells ends = elim is [ inl other ↦ absurd cc | inr other ↦ absurd cc ]

  pub carried : (end : Next) → IsEnd end → v.plant before ≡ actuators plant → v.state before ≡ first_state (actuators plant) → v.stopped now ≡ false
      → old.source_tells → old.sink_tells → old.trace.taken ≡ []
      → ((device : ℕ) → ¬ Rose (slice_index_or old.trace.faults device 0) (slice_index_or new.trace.faults device 0))
      → CarriesOut v plant before now old new end → Ran (lines old.left) new.trace.taken (v.state now).persistent
  carried end is points first off source sink empty fine it =
      let over = over-end it.entries end is sink (it.ended source) in
      let at : v.state now ≡ run (actuators plant) it.entries (v.state before) = it.kept.state_is off ∙ ap (λ p. run p it.entries (v.state before)) points in
      ran (lines old.left) (v.state before) it.entries first (sym it.stopped ∙ off) over.0 old new (v.state now) at empty fine over.1

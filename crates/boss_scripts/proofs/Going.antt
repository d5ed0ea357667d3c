-- Parts of a script that a keeper carried out, one after another.
use Rattle.std.proofs.Common.{◌≡◌, false, List, [], ◌++◌, ◌∙◌, subst}
use Rattle.boss_model.specs.declared.state.Actuator.{Actuator}
use Rattle.def_wire.specs.Script.{Run}
use Rattle.def_history.specs.declared.entry.Entry.{Entry}
use Rattle.boss_shared.specs.declared.keeper.Keeper as keeper
use Rattle.boss_scripts.specs.Keepers.{Breaks, BrokeOff, Kept, Through, Went}
use Rattle.boss_scripts.specs.Outside.{Trace}
use Rattle.boss_scripts.specs.Runs.{after, Broke, Did}
use Rattle.boss_scripts.proofs.Fronts.{GoesOn}
use Rattle.boss_scripts.proofs.Keeping.{at-running, is-after, kept-nothing, kept-then, running}
use Rattle.boss_scripts.proofs.RunLemmas.{broke-nothing, broke-then, did-nothing, did-then}

module _ {V : Type 0} (v : keeper.Ghosts V) {plant : List Actuator} where
  module _ {k k' k'' : V} {first second : List Entry} (same : v.plant k ≡ plant) (one : Kept v k k' first) (two : Kept v k' k'' second) where
    unfoldable pub through-then : {G H K : Run → Run} {old mid new : Trace} → Through v plant G H k first old mid → Through v plant H K k' second mid new → Through v plant G K k (first ++ second) old new
    through-then before behind start is =
        let there = is-after v k k' first one plant start same is in
        did-then (λ on. two.none (there.stopped ∙ on)) (before start is) (behind (after plant first start) there)

    unfoldable pub breaks-then : {G H : Run → Run} {old mid new : Trace} → Through v plant G H k first old mid → Breaks v plant H k' second mid new → Breaks v plant G k (first ++ second) old new
    breaks-then before behind start is =
        let there = is-after v k k' first one plant start same is in
        broke-then (λ on. two.none (there.stopped ∙ on)) (before start is) (behind (after plant first start) there)

  module _ {tells : Type 0} where
    pub went-nothing : (G : Run → Run) (k : V) (old : Trace) → Went v plant G G k k tells old old
    went-nothing G k old = record { entries = []; kept = kept-nothing v k; did = λ _ start _. did-nothing G start old }

    pub broke-off-nothing : (G : Run → Run) (k : V) (old : Trace) → GoesOn G → BrokeOff v plant G k k tells old old
    broke-off-nothing G k old goes = record { entries = []; kept = kept-nothing v k; broke = λ _ start _. broke-nothing G start old goes }

    pub went-then : {G H K : Run → Run} {k k' k'' : V} {old mid new : Trace} → v.plant k ≡ plant →
        Went v plant G H k k' tells old mid → Went v plant H K k' k'' tells mid new → Went v plant G K k k'' tells old new
    went-then {k = k} {k' = k'} {k'' = k''} same one two = record {
      entries = one.entries ++ two.entries;
      kept = kept-then v k k' k'' one.entries two.entries one.kept two.kept;
      did = λ tell. through-then same one.kept two.kept (one.did tell) (two.did tell);
    }

    pub broke-off-then : {G H : Run → Run} {k k' k'' : V} {old mid new : Trace} → v.plant k ≡ plant →
        Went v plant G H k k' tells old mid → BrokeOff v plant H k' k'' tells mid new → BrokeOff v plant G k k'' tells old new
    broke-off-then {k = k} {k' = k'} {k'' = k''} same one two = record {
      entries = one.entries ++ two.entries;
      kept = kept-then v k k' k'' one.entries two.entries one.kept two.kept;
      broke = λ tell. breaks-then same one.kept two.kept (one.did tell) (two.broke tell);
    }

    -- a keeper whose disk has not failed is nowhere but at its state
    pub went-running : {G H : Run → Run} {k k' : V} {entries : List Entry} {old new : Trace} → v.stopped k ≡ false → Kept v k k' entries →
        (tells → Did plant G H (running v k) entries old new) → Went v plant G H k k' tells old new
    went-running {G} {H} {k} {k'} {entries} {old} {new} off kept did = record {
      entries = entries;
      kept = kept;
      did = λ tell start is. subst (λ u. Did plant G H u entries old new) (at-running v k start off is) (did tell);
    }

    pub broke-off-running : {G : Run → Run} {k k' : V} {entries : List Entry} {old new : Trace} → v.stopped k ≡ false → Kept v k k' entries →
        (tells → Broke plant G (running v k) entries old new) → BrokeOff v plant G k k' tells old new
    broke-off-running {G} {k} {k'} {entries} {old} {new} off kept broke = record {
      entries = entries;
      kept = kept;
      broke = λ tell start is. subst (λ u. Broke plant G u entries old new) (at-running v k start off is) (broke tell);
    }

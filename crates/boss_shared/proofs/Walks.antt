-- Calls that went by, and more behind them.
use Rattle.std.proofs.Common.{List, [], ◌∷◌, ◌++◌, refl, sym, ap, ◌∙◌, subst, append-nil}
use Rattle.std.specs.List.{flat_map}
use Rattle.std.proofs.lemmas.List.Concat.{flat_map-append}
use Rattle.boss_model.specs.declared.state.Actuator.{Actuator}
use Rattle.boss_model.specs.State.{Persistent, State}
use Rattle.def_history.specs.declared.entry.Entry.{Entry}
use Rattle.def_history.specs.History.{run}
use Rattle.def_history.proofs.Going.{run_append}
use Rattle.boss_shared.specs.Walking.{RunsThrough, Walks, WalksBy}

module _ {V : Type 0} (plant : List Actuator) (passes : V → V → Persistent → Persistent → Type 0) where
  -- no call
  pub walks_nowhere : (s : State) (here : V) → Walks plant passes s here [] here
  walks_nowhere s here = record { parts = []; joined = refl; by = refl }

  -- one call
  pub walks_once : (s : State) (old : V) (made : List Entry) (new : V) → RunsThrough plant passes s old made new → Walks plant passes s old made new
  walks_once s old made new runs = record { parts = made ∷ []; joined = sym (append-nil made); by = (new, runs, refl) }

  joins-by : (s : State) (old mid new : V) (parts others : List (List Entry)) → WalksBy plant passes s old parts mid →
      WalksBy plant passes (run plant (flat_map (λ part. part) parts) s) mid others new → WalksBy plant passes s old (parts ++ others) new
  joins-by s old mid new [] others here then = subst (λ from. WalksBy plant passes s from others new) here then
  joins-by s old mid new (made ∷ parts) others first then = (
    first.0,
    first.1,
    joins-by (run plant made s) first.0 mid new parts others first.2
        (subst (λ t. WalksBy plant passes t mid others new) (run_append plant made (flat_map (λ part. part) parts) s) then),
  )

  -- calls, and then others
  pub walks_join : (s : State) (old mid new : V) (made more : List Entry) → Walks plant passes s old made mid →
      Walks plant passes (run plant made s) mid more new → Walks plant passes s old (made ++ more) new
  walks_join s old mid new made more first then = record {
    parts = first.parts ++ then.parts;
    joined = (λ i. first.joined i ++ then.joined i) ∙ sym (flat_map-append (λ part. part) first.parts then.parts);
    by = joins-by s old mid new first.parts then.parts first.by
        (subst (λ entries. WalksBy plant passes (run plant entries s) mid then.parts new) first.joined then.by);
  }

-- what is told of other values, each of which stands for one of these
module _ {V W : Type 0} (plant : List Actuator) (passes : V → V → Persistent → Persistent → Type 0) (other : W → W → Persistent → Persistent → Type 0) (of : V → W)
    (IsGood : V → Type 0) (goes : (old new : V) (a b : Persistent) → IsGood old → passes old new a b → IsGood new × other (of old) (of new) a b) where
  leads-by : (s : State) (old new : V) (parts : List (List Entry)) → IsGood old → WalksBy plant passes s old parts new → WalksBy plant other s (of old) parts (of new)
  leads-by s old new [] good here = ap of here
  leads-by s old new (made ∷ parts) good first =
      let gone = goes old first.0 _ _ good first.1.2 in (
        of first.0,
        (first.1.0, first.1.1, gone.1),
        leads-by (run plant made s) first.0 new parts gone.0 first.2,
      )

  pub walks_lead : (s : State) (old : V) (made : List Entry) (new : V) → IsGood old → Walks plant passes s old made new → Walks plant other s (of old) made (of new)
  walks_lead s old made new good walks = record { parts = walks.parts; joined = walks.joined; by = leads-by s old new walks.parts good walks.by }

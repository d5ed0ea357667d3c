-- A record that is looked for by halves among records that rise by number.
use Rattle.std.proofs.Common.{◌≡◌, ℕ, ◌==◌, List, [], ◌∷◌, map, Bool, true, false, ◌&&◌, ◌||◌, cond, Option, Some, None, refl, ap, ◌∙◌}
use Rattle.std.specs.Prelude.{find, is_some, slice_get}
use Rattle.std.specs.List.{list_any, list_all}
use Rattle.std.specs.List.Sorted.{IsPartitionPoint}
use Rattle.std.specs.Option.{option_map_or}
use Rattle.boss_model.specs.declared.kept.KeptPart.{KeptPart}
use Rattle.boss_model.specs.declared.kept.KeptTxn.{KeptTxn}
use Rattle.boss_model.specs.Order.{comes_before}
use Rattle.boss_model.specs.Records.{Part, Transaction}
use Rattle.boss_model.specs.Seen.{seen_part, seen_txn}
use Rattle.boss_model.specs.Sound.{Rising, is_kept, number_rank}
use Rattle.boss_state_check.specs.Searches.{precedes, kept_rank}
use Rattle.boss_state_check.proofs.Ranked.{kept, transaction-found}
use Rattle.law_time.proofs.Filters.{any-map, each-unmapped}
use Rattle.law_adoption.specs.Renumber.{stays}

pub rising-kept : (ts : List KeptTxn) → Rising number_rank (map seen_txn ts) → Rising kept_rank ts
rising-kept [] rising = tt
rising-kept (t ∷ ts) rising = (each-unmapped (λ (u : Transaction). comes_before (number_rank u) (number_rank (seen_txn t)) ≡ false) seen_txn ts rising.0, rising-kept ts rising.1)

found-next : {X : Type 0} (passes later : Bool) (x : X) (found : Option X) → later ≡ is_some found → (passes || later) ≡ is_some (cond passes (Some x) found)
found-next true later x found is = refl
found-next false later x found is = is

any-found : {X : Type 0} (test : X → Bool) (xs : List X) → list_any test xs ≡ is_some (find test xs)
any-found test [] = refl
any-found test (x ∷ xs) = found-next (test x) (list_any test xs) x (find test xs) (any-found test xs)

one-kept : (test : KeptTxn → Bool) (found : Option KeptTxn) → is_some (kept test found) ≡ option_map_or test found false
one-kept test None = refl
one-kept test (Some t) = by (test t)
  where
    by : (b : Bool) → is_some (cond b (Some t) None) ≡ b
    by true = refl
    by false = refl

pub record-found : (ts : List KeptTxn) (txn place : ℕ) → Rising number_rank (map seen_txn ts) →
    IsPartitionPoint (λ t. precedes (kept_rank t) (txn ∷ []) ≡ true) (λ t. precedes (kept_rank t) (txn ∷ []) ≡ false) ts place →
    is_kept (map seen_txn ts) txn ≡ option_map_or (λ t. t.txn == txn) (slice_get ts place) false
record-found ts txn place rising at =
    any-map (λ (t : Transaction). t.txn == txn) seen_txn ts
    ∙ any-found (λ (t : KeptTxn). t.txn == txn) ts
    ∙ ap is_some (transaction-found ts txn place (rising-kept ts rising) at)
    ∙ one-kept (λ t. t.txn == txn) (slice_get ts place)

-- the points of parts that are kept stay where those of the parts do
pub seen-stay : (to : ℕ → Option ℕ) (parts : List KeptPart) → list_all (λ (part : Part). stays to part.point) (map seen_part parts) ≡ list_all (λ part. stays to part.point) parts
seen-stay to [] = refl
seen-stay to (part ∷ parts) = ap (λ rest. stays to part.point && rest) (seen-stay to parts)

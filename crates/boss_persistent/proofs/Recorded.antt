-- The records of transactions, as they are kept and as the model's list has them.
use Rattle.std.proofs.Common.{◌≡◌, ℕ, ◌==◌, List, [], ◌∷◌, map, Bool, true, false, Option, Some, None, cond, refl, ap, ◌∙◌}
use Rattle.std.specs.Option.{option_map}
use Rattle.boss_model.specs.declared.answer.Refusal.{Refusal}
use Rattle.boss_model.specs.declared.answer.Refusal.TheVariants as refusal
use Rattle.boss_model.specs.Records.{Transaction}
use Rattle.boss_model.specs.Renew.{transaction_of, if_own}
use Rattle.boss_stages.specs.Stages.{Tracked, number, kept_as}

abbrev pub record_of : Tracked → Transaction
record_of kept = kept.transaction

chosen : (own : Bool) (kept : Tracked) (rest : Option Tracked) → cond own (Some (record_of kept)) (option_map record_of rest) ≡ option_map record_of (cond own (Some kept) rest)
chosen true kept rest = refl
chosen false kept rest = refl

pub found-kept : (kept : List Tracked) (txn : ℕ) → transaction_of (map record_of kept) txn ≡ option_map record_of (kept_as txn kept)
found-kept [] txn = refl
found-kept (k ∷ ks) txn = ap (cond (number k == txn) (Some (record_of k))) (found-kept ks txn) ∙ chosen (number k == txn) k (kept_as txn ks)

-- one that is kept is the transaction of its number
pub is-found : (kept : List Tracked) (txn : ℕ) (k : Tracked) → kept_as txn kept ≡ Some k → transaction_of (map record_of kept) txn ≡ Some (record_of k)
is-found kept txn k found = found-kept kept txn ∙ ap (option_map record_of) found

-- one that is not kept is none
pub is-unknown : (kept : List Tracked) (txn : ℕ) → kept_as txn kept ≡ None → transaction_of (map record_of kept) txn ≡ None
is-unknown kept txn none = found-kept kept txn ∙ ap (option_map record_of) none

-- ---- whose it is

module _ (owner : ℕ) (refused : Transaction → Option Refusal) (kept : List Tracked) (txn : ℕ) where
  pub of-nobody : kept_as txn kept ≡ None → if_own owner refused (transaction_of (map record_of kept) txn) ≡ Some refusal.UnknownTxn
  of-nobody none = ap (if_own owner refused) (is-unknown kept txn none)

  pub of-another : (k : Tracked) → kept_as txn kept ≡ Some k → (k.transaction.owner == owner) ≡ false → if_own owner refused (transaction_of (map record_of kept) txn) ≡ Some refusal.NotYours
  of-another k found other =
      ap (if_own owner refused) (is-found kept txn k found) ∙ ap (λ own. cond own (refused (record_of k)) (Some refusal.NotYours)) other

  pub of-owner : (k : Tracked) → kept_as txn kept ≡ Some k → (k.transaction.owner == owner) ≡ true → if_own owner refused (transaction_of (map record_of kept) txn) ≡ refused (record_of k)
  of-owner k found own =
      ap (if_own owner refused) (is-found kept txn k found) ∙ ap (λ own. cond own (refused (record_of k)) (Some refusal.NotYours)) own

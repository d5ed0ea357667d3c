-- The least removed point that records name, one record after another.
use Rattle.std.proofs.Common.{◌≡◌, ℕ, ◌+◌, ◌<◌, List, [], ◌∷◌, ◌++◌, length, get_or, take, map, Bool, true, false, not, cond, Option, None, refl, ap, sym, ◌∙◌}
use Rattle.std.specs.List.{filter, flat_map}
use Rattle.std.proofs.lemmas.Grind.{flat_map-append}
use Rattle.std.proofs.lemmas.List.{map-append, append-nil}
use Rattle.boss_model.specs.declared.kept.KeptPart.{KeptPart}
use Rattle.boss_model.specs.declared.kept.KeptTxn.{KeptTxn}
use Rattle.boss_model.specs.Lists.{member}
use Rattle.boss_model.specs.Order.{least}
use Rattle.boss_model.specs.Records.{Part, Transaction}
use Rattle.boss_model.specs.Seen.{seen_part, seen_txn}
use Rattle.law_time.proofs.Filters.{filter-append}
use Rattle.law_adoption.specs.Renumber.{stays}
use Rattle.boss_adopting.specs.Least.{lesser_of, least_removed, least_used}
use Rattle.boss_adopting.proofs.Fronts.{take-item}
use Rattle.boss_adopting.proofs.LeastOf.{least-append}

-- ---- points

removed-append : (to : ℕ → Option ℕ) (xs ys : List ℕ) → least_removed to (xs ++ ys) ≡ lesser_of (least_removed to xs) (least_removed to ys)
removed-append to xs ys =
    ap (least (λ p. p)) (filter-append (λ p. not (stays to p)) xs ys) ∙ least-append (filter (λ p. not (stays to p)) xs) (filter (λ p. not (stays to p)) ys)

-- the first points, and one more
pub removed-more : {X : Type 0} (to : ℕ → Option ℕ) (point : X → ℕ) (xs : List X) (i : ℕ) (x : X) → i < length xs → x ≡ get_or xs i x →
    least_removed to (map point (take (i + 1) xs)) ≡ lesser_of (least_removed to (map point (take i xs))) (least_removed to (point x ∷ []))
removed-more to point xs i x within is =
    ap (λ ys. least_removed to (map point ys)) (take-item xs i x within is)
    ∙ ap (least_removed to) (map-append point (take i xs) (x ∷ []))
    ∙ removed-append to (map point (take i xs)) (point x ∷ [])

-- ---- records

module _ (to : ℕ → Option ℕ) (done : List ℕ) where
  abbrev points : Transaction → List ℕ
  points t = map (λ part. part.point) t.parts

  abbrev counts : Transaction → Bool
  counts t = not (member t.txn done)

  used-append : (ts us : List Transaction) → least_used to done (ts ++ us) ≡ lesser_of (least_used to done ts) (least_used to done us)
  used-append ts us =
      ap (λ left. least_removed to (flat_map points left)) (filter-append counts ts us)
      ∙ ap (least_removed to) (flat_map-append points (filter counts ts) (filter counts us))
      ∙ removed-append to (flat_map points (filter counts ts)) (flat_map points (filter counts us))

  -- the first records, and one more
  pub used-more : (ts : List KeptTxn) (i : ℕ) (t : KeptTxn) → i < length ts → t ≡ get_or ts i t →
      least_used to done (map seen_txn (take (i + 1) ts)) ≡ lesser_of (least_used to done (map seen_txn (take i ts))) (least_used to done (seen_txn t ∷ []))
  used-more ts i t within is =
      ap (λ us. least_used to done (map seen_txn us)) (take-item ts i t within is)
      ∙ ap (least_used to done) (map-append seen_txn (take i ts) (t ∷ []))
      ∙ used-append (map seen_txn (take i ts)) (seen_txn t ∷ [])

  one-used : (t : Transaction) (is_done : Bool) → least_removed to (flat_map points (cond (not is_done) (t ∷ []) [])) ≡ cond is_done None (least_removed to (points t))
  one-used t true = refl
  one-used t false = ap (least_removed to) (append-nil (points t))

  used-one : (t : Transaction) → least_used to done (t ∷ []) ≡ cond (member t.txn done) None (least_removed to (points t))
  used-one t = one-used t (member t.txn done)

  -- the points of a record are those that are kept of it
  same-points : (parts : List KeptPart) → map (λ (part : Part). part.point) (map seen_part parts) ≡ map (λ (part : KeptPart). part.point) parts
  same-points [] = refl
  same-points (part ∷ parts) = ap (λ rest. part.point ∷ rest) (same-points parts)

  -- one record, by what was found of its points
  pub used-found : (t : KeptTxn) (found : Option ℕ) → found ≡ least_removed to (map (λ (part : KeptPart). part.point) t.parts) →
      least_used to done (seen_txn t ∷ []) ≡ cond (member t.txn done) None found
  used-found t found is =
      used-one (seen_txn t)
      ∙ ap (λ ps. cond (member t.txn done) None (least_removed to ps)) (same-points t.parts)
      ∙ ap (cond (member t.txn done) None) (sym is)

  neither : (b : Bool) → ◌≡◌ {A = Option ℕ} (cond b None None) None
  neither true = refl
  neither false = refl

  pub none-used : (t : KeptTxn) → None ≡ least_removed to (map (λ (part : KeptPart). part.point) t.parts) → None ≡ least_used to done (seen_txn t ∷ [])
  none-used t none = sym (used-found t None none ∙ neither (member t.txn done))

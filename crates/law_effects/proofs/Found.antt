-- What is found among the parts of a transaction, and among transactions.
use Rattle.std.proofs.Common.{◌≡◌, ℕ, ◌≤◌, ◌==◌, List, [], ◌∷◌, length, map, Bool, true, false, ◌&&◌, ◌||◌, cond, Option, Some, None, is_none, refl, ap, sym, ◌∙◌, arith}
use Rattle.std.specs.Option.{option_map}
use Rattle.std.specs.List.{filter_map, list_any, list_all, cons_option, AllByRecursion}
use Rattle.std.proofs.lemmas.Bool.Decides.{nat_tests}
use Rattle.boss_model.specs.Order.{comes_before}
use Rattle.boss_model.specs.Records.{Part, Transaction}
use Rattle.boss_model.specs.Renew.{part_on, wrote, named_parts}
use Rattle.boss_model.specs.Sound.{Rising, has_part, number_rank}
use Rattle.law_time.proofs.Filters.{each-found}

pub any-some : {X : Type 0} (P : X → Type 0) (test : X → Bool) (xs : List X) → AllByRecursion P xs → list_any test xs ≡ true → (x : X) × (test x ≡ true) × P x
any-some P test [] all some = absurd (cc (sym some))
any-some {X = X} P test (x ∷ xs) all some = by (test x) refl some (any-some P test xs all.1)
  where
    by : (b : Bool) → test x ≡ b → (b || list_any test xs) ≡ true → (list_any test xs ≡ true → (y : X) × (test y ≡ true) × P y) → (y : X) × (test y ≡ true) × P y
    by true is e rest = (x, is, all.0)
    by false is e rest = rest e

pub head-some : {X : Type 0} (P : X → Type 0) (test : X → Bool) (xs : List X) → AllByRecursion P xs → 1 ≤ length xs → list_all test xs ≡ true → (x : X) × (test x ≡ true) × P x
head-some P test [] all more is = absurd (omega arith)
head-some P test (x ∷ xs) all more is = (x, grind (arith), all.0)

pub consed : {X : Type 0} (P : X → Type 0) (x : Option X) (xs : List X) → ((y : X) → x ≡ Some y → P y) → AllByRecursion P xs → AllByRecursion P (cons_option x xs)
consed P None xs here all = all
consed P (Some y) xs here all = (here y refl, all)

pub chosen-each : (P : Part → Type 0) (points : List ℕ) (parts : List Part) → AllByRecursion P parts → AllByRecursion P (filter_map (part_on parts) points)
chosen-each P [] parts all = tt
chosen-each P (point ∷ points) parts all =
    consed P (part_on parts point) (filter_map (part_on parts) points) (λ y found. each-found P (λ part. part.point == point) parts y all found) (chosen-each P points parts all)

pub named-each : (P : Part → Type 0) (points : List ℕ) (parts : List Part) → AllByRecursion P parts → AllByRecursion P (named_parts points parts)
named-each P [] parts all = all
named-each P (point ∷ points) parts all = chosen-each P (point ∷ points) parts all

-- points that are all its own are those of some part
pub some-named : (points : List ℕ) (parts : List Part) → 1 ≤ length parts → list_all (wrote parts) points ≡ true → 1 ≤ length (named_parts points parts)
some-named [] parts more all = more
some-named (point ∷ points) parts more all = by (part_on parts point) refl
  where
    wrote-found : (ps : List Part) → wrote ps point ≡ true → part_on ps point ≡ None → true ≡ false
    wrote-found [] is none = sym is
    wrote-found (p ∷ ps) is none = found (p.point == point) is none (wrote-found ps)
      where
        found : (b : Bool) → (b || wrote ps point) ≡ true → cond b (Some p) (part_on ps point) ≡ None → (wrote ps point ≡ true → part_on ps point ≡ None → true ≡ false) → true ≡ false
        found true e x rest = cc
        found false e x rest = rest e x

    by : (found : Option Part) → part_on parts point ≡ found → 1 ≤ length (cons_option found (filter_map (part_on parts) points))
    by None is = absurd (cc (wrote-found parts (grind (arith)) is))
    by (Some part) is = omega arith

module _ (change : Part → Part) (same : (part : Part) → (change part).point ≡ part.point) where
  pub on-changed : (parts : List Part) (point : ℕ) → part_on (map change parts) point ≡ option_map change (part_on parts point)
  on-changed [] point = refl
  on-changed (p ∷ ps) point = ap (λ k. cond (k == point) (Some (change p)) (part_on (map change ps) point)) (same p) ∙ by (p.point == point) (on-changed ps point)
    where
      by : (b : Bool) → part_on (map change ps) point ≡ option_map change (part_on ps point) →
          cond b (Some (change p)) (part_on (map change ps) point) ≡ option_map change (cond b (Some p) (part_on ps point))
      by true rest = refl
      by false rest = rest

  pub consed-changed : (x : Option Part) (xs : List Part) → cons_option (option_map change x) (map change xs) ≡ map change (cons_option x xs)
  consed-changed None xs = refl
  consed-changed (Some p) xs = refl

  pub chosen-changed : (points : List ℕ) (parts : List Part) → filter_map (part_on (map change parts)) points ≡ map change (filter_map (part_on parts) points)
  chosen-changed [] parts = refl
  chosen-changed (point ∷ points) parts =
      (λ i. cons_option (on-changed parts point i) (chosen-changed points parts i)) ∙ consed-changed (part_on parts point) (filter_map (part_on parts) points)

  pub named-changed : (points : List ℕ) (parts : List Part) → named_parts points (map change parts) ≡ map change (named_parts points parts)
  named-changed [] parts = refl
  named-changed (point ∷ points) parts = chosen-changed (point ∷ points) parts

  pub wrote-changed : (parts : List Part) (point : ℕ) → wrote (map change parts) point ≡ wrote parts point
  wrote-changed [] point = refl
  wrote-changed (p ∷ ps) point = λ i. (same p i == point) || wrote-changed ps point i

  pub all-wrote-changed : (points : List ℕ) (parts : List Part) → list_all (wrote (map change parts)) points ≡ list_all (wrote parts) points
  all-wrote-changed [] parts = refl
  all-wrote-changed (point ∷ points) parts = λ i. wrote-changed parts point i && all-wrote-changed points parts i

  pub all-changed : (P : Part → Type 0) (test now : Part → Bool) → ((part : Part) → P part → test (change part) ≡ now part) → (parts : List Part) → AllByRecursion P parts →
      list_all test (map change parts) ≡ list_all now parts
  all-changed P test now each [] all = refl
  all-changed P test now each (p ∷ ps) all = λ i. each p all.0 i && all-changed P test now each ps all.1 i

-- each record is the only one of its number
pub parts-of : (ts : List Transaction) → Rising number_rank ts →
    AllByRecursion (λ t. (point priority : ℕ) → has_part is_none ts t.txn point priority ≡ list_any (λ part. (part.point == point) && ((part.priority == priority) && is_none part.end)) t.parts) ts
parts-of [] rising = tt
parts-of (t ∷ ts) rising = (
  (λ point priority.
      let g = λ (u : Transaction). list_any (λ part. (part.point == point) && ((part.priority == priority) && is_none part.end)) u.parts in
      let here : (t.txn == t.txn) ≡ true = grind (arith, nat_tests) in
      ap (λ b. (b && g t) || has_part is_none ts t.txn point priority) here ∙ ap (λ b. g t || b) (none point priority ts rising.0) ∙ or-false (g t)),
  later ts rising.0 (parts-of ts rising.1),
)
  where
    or-false : (b : Bool) → (b || false) ≡ b
    or-false true = refl
    or-false false = refl

    none : (point priority : ℕ) (us : List Transaction) → AllByRecursion (λ u. comes_before (number_rank u) (number_rank t) ≡ false) us → has_part is_none us t.txn point priority ≡ false
    none point priority [] all = refl
    none point priority (u ∷ us) all =
        let after : comes_before (u.txn ∷ []) (t.txn ∷ []) ≡ false = all.0 in
        let other : (u.txn == t.txn) ≡ false = grind (arith, nat_tests) in
        λ i. (other i && list_any (λ part. (part.point == point) && ((part.priority == priority) && is_none part.end)) u.parts) || none point priority us all.1 i

    later : (us : List Transaction) → AllByRecursion (λ u. comes_before (number_rank u) (number_rank t) ≡ false) us →
        AllByRecursion (λ u. (point priority : ℕ) → has_part is_none ts u.txn point priority ≡ list_any (λ part. (part.point == point) && ((part.priority == priority) && is_none part.end)) u.parts) us →
        AllByRecursion (λ u. (point priority : ℕ) → has_part is_none (t ∷ ts) u.txn point priority ≡ list_any (λ part. (part.point == point) && ((part.priority == priority) && is_none part.end)) u.parts) us
    later [] all those = tt
    later (u ∷ us) all those = (
      (λ point priority.
          let after : comes_before (u.txn ∷ []) (t.txn ∷ []) ≡ false = all.0 in
          let other : (t.txn == u.txn) ≡ false = grind (arith, nat_tests) in
          ap (λ b. (b && list_any (λ part. (part.point == point) && ((part.priority == priority) && is_none part.end)) t.parts) || has_part is_none ts u.txn point priority) other
          ∙ those.0 point priority),
      later us all.1 those.1,
    )

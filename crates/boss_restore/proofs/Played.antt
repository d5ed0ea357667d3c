-- In a sound state the reversions of a transaction are under way in the slots of those of its parts that ended.
use Rattle.std.proofs.Common.{◌≡◌, ℕ, ◌≤◌, ◌+◌, ◌==◌, List, [], ◌∷◌, length, map, Bool, true, false, not, ◌&&◌, ◌||◌, cond, Option, Some, None, is_none, refl, ap, sym, ◌∙◌, subst, ⊎_elim, arith}
use Rattle.std.specs.Option.{option_map_or}
use Rattle.std.specs.List.{filter, find, list_any, AllByRecursion}
use Rattle.std.proofs.lemmas.Bool.{cases_Bool, cond_both}
use Rattle.std.proofs.lemmas.Bool.Decides.{nat_tests}
use Rattle.boss_model.specs.declared.state.Actuator.{Actuator}
use Rattle.boss_model.specs.declared.state.Pending.{Pending}
use Rattle.boss_model.specs.Lists.{member}
use Rattle.boss_model.specs.Order.{comes_before}
use Rattle.boss_model.specs.Records.{Part, Transaction}
use Rattle.boss_model.specs.Sound.{Rising, IsPending, IsSoundPersistent}
use Rattle.boss_model.specs.State.{pending_slot, Persistent}
use Rattle.law_time.proofs.Filters.{any-map, each-always, each-found}
use Rattle.law_time.proofs.Orders.{each-map}
use Rattle.boss_booking.specs.Books.{reverts_on}
use Rattle.boss_booking.proofs.Changed.{any-filter}
use Rattle.law_due.proofs.Keys.{IsPartAt, found-any, found-has, found_part, is_some, own-parts, part_at, pending_key, pending-found}
use Rattle.boss_booking.proofs.Overs.{passed-any}
use Rattle.boss_stages.specs.Stages.{is_live}
use Rattle.boss_holdings.specs.Putting.{in_place}
use Rattle.boss_restore.specs.Restoring.{is_played, reverting_points}
use Rattle.boss_restore.proofs.Places.{within-levels}

any-none : {X : Type 0} (test : X → Bool) (xs : List X) → AllByRecursion (λ x. test x ≡ false) xs → list_any test xs ≡ false
any-none test [] all = refl
any-none test (x ∷ xs) all = λ i. all.0 i || any-none test xs all.1 i

-- a slot is taken once, so the first reversion in it is the only one
place-any : (g : Pending → Bool) (p q : ℕ) (xs : List Pending) → Rising pending_slot xs → list_any (λ r. in_place p q r && g r) xs ≡ option_map_or g (find (in_place p q) xs) false
place-any g p q [] rising = refl
place-any g p q (x ∷ xs) rising = ⊎_elim
    (λ here.
    let none : list_any (λ r. in_place p q r && g r) xs ≡ false = any-none (λ r. in_place p q r && g r) xs
    (each-map (λ r. comes_before (pending_slot r) (pending_slot x) ≡ false) (λ r. (in_place p q r && g r) ≡ false)
    (λ r after.
    let later : comes_before (r.point ∷ r.priority ∷ []) (x.point ∷ x.priority ∷ []) ≡ false = after in
    let other : in_place p q r ≡ false = grind (arith, nat_tests) in ap (λ b. b && g r) other) xs rising.0) in
    (λ i. (here i && g x) || none i) ∙ or-false (g x) ∙ sym (ap (λ b. option_map_or g (cond b (Some x) (find (in_place p q) xs)) false) here))
    (λ away. ap (λ b. (b && g x) || list_any (λ r. in_place p q r && g r) xs) away ∙ place-any g p q xs rising.1
    ∙ sym (ap (λ b. option_map_or g (cond b (Some x) (find (in_place p q) xs)) false) away))
    (cases_Bool (in_place p q x))
  where
    or-false : (b : Bool) → (b || false) ≡ b
    or-false true = refl
    or-false false = refl

-- what is found in a slot is there
found-any-in : (g : Pending → Bool) (p q : ℕ) (xs : List Pending) → option_map_or g (find (in_place p q) xs) false ≡ true → list_any (λ r. in_place p q r && g r) xs ≡ true
found-any-in g p q [] found = absurd (cc)
found-any-in g p q (x ∷ xs) found = ⊎_elim
    (λ here.
    let own : g x ≡ true = sym (ap (λ b. option_map_or g (cond b (Some x) (find (in_place p q) xs)) false) here) ∙ found in
    (λ i. (here i && own i) || list_any (λ r. in_place p q r && g r) xs))
    (λ away. ap (λ b. (b && g x) || list_any (λ r. in_place p q r && g r) xs) away
    ∙ found-any-in g p q xs (sym (ap (λ b. option_map_or g (cond b (Some x) (find (in_place p q) xs)) false) away) ∙ found))
    (cases_Bool (in_place p q x))

any-weaker : {X : Type 0} (f g : X → Bool) → ((x : X) → f x ≡ true → g x ≡ true) → (xs : List X) → list_any f xs ≡ true → list_any g xs ≡ true
any-weaker f g weaker [] is = absurd (cc)
any-weaker f g weaker (x ∷ xs) is = ⊎_elim
    (λ here. ap (λ b. b || list_any g xs) (weaker x here))
    (λ away. let rest : list_any g xs ≡ true = any-weaker f g weaker xs (sym (ap (λ b. b || list_any f xs) away) ∙ is) in grind (arith))
    (cases_Bool (f x))

-- where a reversion is under way in a part's slot, the transaction reverts on its point
played-reverts : (pending : List Pending) (txn : ℕ) (part : Part) → is_played pending txn part ≡ true → reverts_on txn part.point pending ≡ true
played-reverts pending txn part is =
    let there : option_map_or (λ reversion. reversion.txn == txn) (find (in_place part.point part.priority) pending) false ≡ true = grind arith in
    any-weaker (λ r. in_place part.point part.priority r && (r.txn == txn)) (λ r. (r.txn == txn) && (r.point == part.point)) (λ r both. grind (arith, nat_tests)) pending
    (found-any-in (λ r. r.txn == txn) part.point part.priority pending there)

-- a part that ended, in whose slot a reversion of the transaction is under way
abbrev plays-on : List Pending → ℕ → ℕ → Part → Bool
plays-on pending txn point part = (part.point == point) && is_played pending txn part

pub told-points : (pending : List Pending) (txn point : ℕ) (parts : List Part) → member point (reverting_points pending txn parts) ≡ list_any (plays-on pending txn point) parts
told-points pending txn point parts =
    any-map (λ (other : ℕ). other == point) (λ (part : Part). part.point) (filter (is_played pending txn) parts)
    ∙ any-filter (λ (part : Part). part.point == point) (is_played pending txn) parts

-- the part on the point is such a one
part-plays : (pending : List Pending) (txn point priority : ℕ) (parts : List Part) (part : Part) → part_at point parts ≡ Some part → part.priority ≡ priority → is_some part.end ≡ true →
    1 ≤ priority → priority ≤ 16 → option_map_or (λ reversion. reversion.txn == txn) (find (in_place point priority) pending) false ≡ true → list_any (plays-on pending txn point) parts ≡ true
part-plays pending txn point priority parts part found level ended least most plays =
    let here : (part.point == point) ≡ true = (found-has (λ (p : Part). p.point == point) (λ _. Unit {0}) parts part (each-always (λ _. Unit {0}) (λ _. tt) parts) found).1 in
    let on : part.point ≡ point = grind (arith, nat_tests) in
    let own : option_map_or (λ reversion. reversion.txn == txn) (find (in_place part.point part.priority) pending) false ≡ true =
    ap (λ p. option_map_or (λ reversion. reversion.txn == txn) (find (in_place p part.priority) pending) false) on
    ∙ ap (λ q. option_map_or (λ reversion. reversion.txn == txn) (find (in_place point q) pending) false) level ∙ plays in
    let played : is_played pending txn part ≡ true = grind (arith, nat_tests) in
    passed-any (λ (p : Part). p.point == point) (plays-on pending txn point) parts part found (λ i. here i && played i)

module _ (plant : List Actuator) (d : Persistent) (sound : IsSoundPersistent plant d) where
  reverts-told : (t : Transaction) → ((point : ℕ) → found_part d.txns t.txn point ≡ part_at point t.parts) → (point : ℕ) →
      list_any (plays-on d.pending t.txn point) t.parts ≡ reverts_on t.txn point d.pending
  reverts-told t own point = told (find (pending_key t.txn point) d.pending) refl
    where
      told : (found : Option Pending) → find (pending_key t.txn point) d.pending ≡ found → list_any (plays-on d.pending t.txn point) t.parts ≡ reverts_on t.txn point d.pending
      told None is =
          let none : reverts_on t.txn point d.pending ≡ false = found-any (pending_key t.txn point) d.pending is in
          any-none (plays-on d.pending t.txn point) t.parts (each-always (λ part. plays-on d.pending t.txn point part ≡ false)
          (λ part. ⊎_elim
          (λ plays.
          let on : part.point ≡ point = grind (arith, nat_tests) in
          let played : is_played d.pending t.txn part ≡ true = grind (arith) in
          let some : reverts_on t.txn point d.pending ≡ true = ap (λ p. reverts_on t.txn p d.pending) (sym on) ∙ played-reverts d.pending t.txn part played in absurd (cc))
          (λ away. away) (cases_Bool (plays-on d.pending t.txn point part))) t.parts) ∙ sym none
      told (Some r) is =
          let has = found-has (pending_key t.txn point) (IsPending plant d.now) d.pending r sound.pending is in
          let on : r.point ≡ point = grind (arith, nat_tests) in
          let mine : (r.txn == t.txn) ≡ true = grind (arith) in
          let level = within-levels r.priority has.0.level in
          let p = pending-found plant d sound t.txn point r is in
          let some : reverts_on t.txn point d.pending ≡ true = passed-any (pending_key t.txn point) (pending_key t.txn point) d.pending r is has.1 in
          let there : in_place point r.priority r ≡ true = grind (arith, nat_tests) in
          let plays : option_map_or (λ reversion. reversion.txn == t.txn) (find (in_place point r.priority) d.pending) false ≡ true =
          sym (place-any (λ reversion. reversion.txn == t.txn) point r.priority d.pending sound.pending_slots)
          ∙ passed-any (pending_key t.txn point) (λ reversion. in_place point r.priority reversion && (reversion.txn == t.txn)) d.pending r is (λ i. there i && mine i) in
          part-plays d.pending t.txn point r.priority t.parts p.part (sym (own point) ∙ p.is) p.level p.passes level.0 level.1 plays ∙ sym some

  -- the points of a record are those on which the transaction reverts
  pub all-told : AllByRecursion (λ t. (point : ℕ) → member point (reverting_points d.pending t.txn t.parts) ≡ reverts_on t.txn point d.pending) d.txns
  all-told = each-map (λ t. (point : ℕ) → found_part d.txns t.txn point ≡ part_at point t.parts)
      (λ t. (point : ℕ) → member point (reverting_points d.pending t.txn t.parts) ≡ reverts_on t.txn point d.pending)
      (λ t own point. told-points d.pending t.txn point t.parts ∙ reverts-told t own point) d.txns (own-parts d.txns sound.numbers)

-- no part has both a live lease and a reversion under way
pub few-played : (pending : List Pending) (txn : ℕ) (parts : List Part) → length (reverting_points pending txn parts) + length (filter is_live parts) ≤ length parts
few-played pending txn [] = omega arith
few-played pending txn (part ∷ parts) = by (is_played pending txn part) (is_none part.end) (let apart : (is_played pending txn part && is_none part.end) ≡ false = grind arith in apart) (few-played pending txn parts)
  where
    by : (played live : Bool) → (played && live) ≡ false → length (reverting_points pending txn parts) + length (filter is_live parts) ≤ length parts →
        length (map (λ (p : Part). p.point) (cond played (part ∷ filter (is_played pending txn) parts) (filter (is_played pending txn) parts))) + length (cond live (part ∷ filter is_live parts) (filter is_live parts)) ≤ length (part ∷ parts)
    by true true apart rest = absurd (cc)
    by true false apart rest = omega (arith, rest)
    by false true apart rest = omega (arith, rest)
    by false false apart rest = omega (arith, rest)

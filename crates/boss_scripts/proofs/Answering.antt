-- The answers of the devices, and their counts of faults.
use Rattle.std.proofs.Common.{◌≡◌, ℕ, zero, suc, ◌<◌, Bool, true, false, List, [], ◌∷◌, ◌++◌, length, map, set, get_or, refl, arith, subst, inl, inr, slice_index_or, Result, Ok, Err}
use Rattle.std.specs.List.{AllByRecursion}
use Rattle.std.specs.Prelude.{is_ok}
use Rattle.boss_outside.specs.Counts.{HasCause, Rose}
use Rattle.boss_scripts.specs.Outside.{Answered, Stays}

stays-stays : (a b c : ℕ) → Stays a b → Stays b c → Stays a c
stays-stays a b c first second = elim first [
  | inl same ↦ subst (λ n. Stays n c) same second
  | inr rose ↦ elim second [ inl same' ↦ inr (omega (arith, rose, same')) | inr rose' ↦ inr (omega (arith, rose, rose')) ]
]

rose-stays : (a b c : ℕ) → Rose a b → Stays b c → Rose a c
rose-stays a b c rose second = elim second [ inl same ↦ omega (arith, rose, same) | inr rose' ↦ omega (arith, rose, rose') ]

stays-rose : (a b c : ℕ) → Stays a b → Rose b c → Rose a c
stays-rose a b c first rose = elim first [ inl same ↦ omega (arith, rose, same) | inr rose' ↦ omega (arith, rose, rose') ]

all-append : (xs ys : List Bool) → AllByRecursion (λ ok. ok ≡ true) xs → AllByRecursion (λ ok. ok ≡ true) ys → AllByRecursion (λ ok. ok ≡ true) (xs ++ ys)
all-append [] ys first second = second
all-append (x ∷ xs) ys first second = (first.0, all-append xs ys first.1 second)

pub answered-nothing : (counts : List ℕ) → Answered [] counts counts
answered-nothing counts = record { stays = λ device. inl refl; taken = λ quiet. tt }

pub answered-then : (first second : List Bool) (a b c : List ℕ) → Answered first a b → Answered second b c → Answered (first ++ second) a c
answered-then first second a b c one two = record {
  stays = λ device. stays-stays (slice_index_or a device 0) (slice_index_or b device 0) (slice_index_or c device 0) (one.stays device) (two.stays device);
  taken = λ quiet. all-append first second
      (one.taken (λ device rose. quiet device (rose-stays (slice_index_or a device 0) (slice_index_or b device 0) (slice_index_or c device 0) rose (two.stays device))))
      (two.taken (λ device rose. quiet device (stays-rose (slice_index_or a device 0) (slice_index_or b device 0) (slice_index_or c device 0) (one.stays device) rose)));
}

-- ---- one call of one device

-- a call fails where the count rose, and else it stayed
pub caused : {T E : Type 0} {before now : ℕ} (result : Result T E) → HasCause before now result → (is_ok result ≡ true → now ≡ before) × (is_ok result ≡ false → Rose before now)
caused (Ok x) cause = (λ _. cause.fine, λ is. absurd cc)
caused (Err e) cause = (λ is. absurd cc, λ _. cause.failed)

module _ {A : Type 0} (faults : A → ℕ) where
  stays-set : (devices : List A) (driver : ℕ) (old new : A) → old ≡ get_or devices driver old → Stays (faults old) (faults new) →
      (k : ℕ) → Stays (slice_index_or (map faults devices) k 0) (slice_index_or (map faults (set devices driver new)) k 0)
  stays-set [] driver old new is stays k = inl refl
  stays-set (d ∷ ds) zero old new is stays zero = subst (λ x. Stays (faults x) (faults new)) is stays
  stays-set (d ∷ ds) zero old new is stays (suc k) = inl refl
  stays-set (d ∷ ds) (suc driver) old new is stays zero = inl refl
  stays-set (d ∷ ds) (suc driver) old new is stays (suc k) = stays-set ds driver old new is stays k

  rose-set : (devices : List A) (driver : ℕ) (old new : A) → driver < length devices → old ≡ get_or devices driver old → Rose (faults old) (faults new) →
      Rose (slice_index_or (map faults devices) driver 0) (slice_index_or (map faults (set devices driver new)) driver 0)
  rose-set [] driver old new within is rose = absurd (omega arith)
  rose-set (d ∷ ds) zero old new within is rose = subst (λ x. Rose (faults x) (faults new)) is rose
  rose-set (d ∷ ds) (suc driver) old new within is rose = rose-set ds driver old new (omega arith) is rose

  pub answered-one : (ok : Bool) (devices : List A) (driver : ℕ) (old new : A) → driver < length devices → old ≡ get_or devices driver old →
      (ok ≡ true → faults new ≡ faults old) → (ok ≡ false → Rose (faults old) (faults new)) → Answered (ok ∷ []) (map faults devices) (map faults (set devices driver new))
  answered-one true devices driver old new within is fine failed =
      record { stays = stays-set devices driver old new is (inl (fine refl)); taken = λ quiet. (refl, tt) }
  answered-one false devices driver old new within is fine failed =
      record {
        stays = stays-set devices driver old new is (inr (failed refl));
        taken = λ quiet. absurd (quiet driver (rose-set devices driver old new within is (failed refl)));
      }

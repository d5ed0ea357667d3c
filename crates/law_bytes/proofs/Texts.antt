-- Numbers below 256, one after another: what fields made of fields write.
use Rattle.std.proofs.Common.{◌≡◌, ℕ, zero, suc, ◌<◌, nat_lt, Bool, true, false, ◌&&◌, List, [], ◌∷◌, ◌++◌, length, Option, Some, None, arith}
use Rattle.std.specs.Prelude.{flat_map}
use Rattle.std.specs.List.{list_all}
use Rattle.std.specs.Option.{option_map_or}
use Rattle.std.specs.Int.{Width, byte_at, bytes_high_first, byte_len}
use Rattle.std.proofs.lemmas.Bool.{ltb-true}
use Rattle.def_bytes.specs.Exact.{IsBytes}
use Rattle.def_bytes.specs.Fields.{Field, Variants, number_text, number, byte, both, only, made_of, counted, tagged}
use Rattle.def_bytes.proofs.Spelling.{left_true, right_true}

-- each value that has a spelling is spelled by bytes
pub record IsOfBytes {X : Type 0} (f : Field X) : Type 0 where
  pub bytes : (x : X) → f.fits x ≡ true → IsBytes (f.text x)

-- ---- lists of bytes

pub no-bytes : IsBytes []
no-bytes i = omega arith

pub one-more : (b : ℕ) (bytes : List ℕ) → b < 256 → IsBytes bytes → IsBytes (b ∷ bytes)
one-more b bytes small are zero = small
one-more b bytes small are (suc i) = are i

first-of : (b : ℕ) (bytes : List ℕ) → IsBytes (b ∷ bytes) → b < 256
first-of b bytes are = are zero

others-of : (b : ℕ) (bytes : List ℕ) → IsBytes (b ∷ bytes) → IsBytes bytes
others-of b bytes are i = are (suc i)

pub joined : (xs ys : List ℕ) → IsBytes xs → IsBytes ys → IsBytes (xs ++ ys)
joined [] ys are too = too
joined (x ∷ xs) ys are too = one-more x (xs ++ ys) (first-of x xs are) (joined xs ys (others-of x xs are) too)

pub each-joined : {X : Type 0} (f : Field X) → IsOfBytes f → (xs : List X) → list_all f.fits xs ≡ true → IsBytes (flat_map f.text xs)
each-joined f of [] fit = no-bytes
each-joined f of (x ∷ xs) fit = joined (f.text x) (flat_map f.text xs) (of.bytes x (left_true (f.fits x) _ fit)) (each-joined f of xs (right_true (f.fits x) _ fit))

-- ---- numbers

below : (k n : ℕ) → byte_at k n < 256
below zero n = omega arith
below (suc k) n = omega arith

high-first : (k n : ℕ) → IsBytes (bytes_high_first k n)
high-first zero n = no-bytes
high-first (suc k) n = one-more (byte_at k n) (bytes_high_first k n) (below k n) (high-first k n)

pub numbers : (w : Width) → IsOfBytes (number w)
unfolding number_text
numbers w = record { bytes = λ n fits. high-first (byte_len w) n }

pub one-byte : IsOfBytes byte
one-byte = record { bytes = λ n fits. one-more n [] (ltb-true n 256 fits) no-bytes }

-- ---- fields of fields

pub pair : {X Y : Type 0} (f : Field X) (g : Field Y) → IsOfBytes f → IsOfBytes g → IsOfBytes (both f g)
pair f g a b = record {
  bytes = λ x fits. joined (f.text x.0) (g.text x.1) (a.bytes x.0 (left_true (f.fits x.0) _ fits)) (b.bytes x.1 (right_true (f.fits x.0) _ fits));
}

pub tested : {X : Type 0} (test : X → Bool) (f : Field X) → IsOfBytes f → IsOfBytes (only test f)
tested test f a = record { bytes = λ x fits. a.bytes x (left_true (f.fits x) _ fits) }

-- what fits is taken apart, and its parts fit
pub taken-apart : {Y : Type 0} (f : Field Y) (found : Option Y) → option_map_or f.fits found false ≡ true → (P : List ℕ → Type 0) →
    ((y : Y) → f.fits y ≡ true → P (f.text y)) → P (option_map_or f.text found [])
taken-apart f None fits P each = absurd cc
taken-apart f (Some y) fits P each = each y fits

pub whole : {X Y : Type 0} (parts : X → Option Y) (made : Y → X) (f : Field Y) → IsOfBytes f → IsOfBytes (made_of parts made f)
whole parts made f a = record { bytes = λ x fits. taken-apart f (parts x) fits IsBytes a.bytes }

pub list : {X : Type 0} (count : Field ℕ) (limit : ℕ) (f : Field X) → IsOfBytes count → IsOfBytes f → IsOfBytes (counted count limit f)
list count limit f a b = record {
  bytes = λ xs fits.
      let fit : (count.fits (length xs) && list_all f.fits xs) ≡ true = right_true _ _ fits in
      joined (count.text (length xs)) (flat_map f.text xs) (a.bytes (length xs) (left_true (count.fits (length xs)) _ fit)) (each-joined f b xs (right_true (count.fits (length xs)) _ fit));
}

pub kinds : {X : Type 0} (v : Variants X) → ((x : X) → v.fits x ≡ true → IsBytes (v.text x)) → IsOfBytes (tagged v)
kinds v each = record {
  bytes = λ x fits. one-more (v.tag x) (v.text x) (ltb-true (v.tag x) 256 (left_true (nat_lt (v.tag x) 256) _ fits)) (each x (right_true (nat_lt (v.tag x) 256) _ fits));
}

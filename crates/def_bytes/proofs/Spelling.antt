-- Fields that are exact and short, and how they are put together from such fields.
use Rattle.std.proofs.Common.{◌≡◌, ℕ, ◌≤◌, nat_lt, ◌==◌, Bool, true, false, cond, ◌&&◌, List, ◌++◌, length, Option, Some, None, refl, sym, ap, subst, ◌∙◌, arith}
use Rattle.std.specs.Int.{Width, w16, w32, w64}
use Rattle.std.proofs.lemmas.Bool.{cond_both}
use Rattle.std.proofs.lemmas.Bool.Decides.{nat_tests}
use Rattle.def_bytes.specs.Exact.{IsBytes, IsExact, IsShort, Undoes, TookKind, IsExactKinds}
use Rattle.def_bytes.specs.Fields.{Field, Variants, ◌>>=◌, number, byte, both, only, made_of, counted, tagged}
use Rattle.def_bytes.proofs.Exact.{IsWide, wide16, wide32, wide64, number-exact, number-short, byte-exact, byte-short, both-exact, both-short, only-exact, only-short, made-exact, made-short, counted-exact, counted-short, tagged-exact}
use Rattle.def_bytes.specs.Events.{kind_at}

pub record IsSpelled {X : Type 0} (f : Field X) : Type 0 where
  pub exact : IsExact f
  pub short : IsShort f

-- ---- numbers and bytes

pub wide : (w : Width) → IsWide w → IsSpelled (number w)
wide w is = record { exact = number-exact w is; short = number-short w is }

pub word16 : IsSpelled (number w16)
word16 = wide w16 wide16

pub word32 : IsSpelled (number w32)
word32 = wide w32 wide32

pub word64 : IsSpelled (number w64)
word64 = wide w64 wide64

pub one_byte : IsSpelled byte
one_byte = record { exact = byte-exact; short = byte-short }

-- ---- fields of fields

pub pair : {X Y : Type 0} (f : Field X) (g : Field Y) → IsSpelled f → IsSpelled g → IsSpelled (both f g)
pair f g a b = record { exact = both-exact f g a.exact b.exact; short = both-short f g a.short b.short }

pub tested : {X : Type 0} (test : X → Bool) (f : Field X) → IsSpelled f → IsSpelled (only test f)
tested test f a = record { exact = only-exact test f a.exact; short = only-short test f a.short }

pub whole : {X Y : Type 0} (parts : X → Option Y) (made : Y → X) (f : Field Y) → Undoes parts made f → IsSpelled f → IsSpelled (made_of parts made f)
whole parts made f undoes a = record {
  exact = made-exact parts made f undoes a.exact;
  short = made-short parts made f undoes a.short;
}

pub list : {X : Type 0} (count : Field ℕ) (limit : ℕ) (f : Field X) → IsSpelled count → IsSpelled f → IsSpelled (counted count limit f)
list count limit f a b = record {
  exact = counted-exact f count limit a.exact b.exact;
  short = counted-short f count limit a.short b.short;
}

-- ---- kinds

pub record AreSpelled {X : Type 0} (v : Variants X) : Type 0 where
  pub exact : IsExactKinds v
  pub short : (x : X) → v.fits x ≡ true → length (v.text x) ≤ v.most

pub left_true : (a b : Bool) → (a && b) ≡ true → a ≡ true
left_true true b is = refl
left_true false b is = absurd cc

pub right_true : (a b : Bool) → (a && b) ≡ true → b ≡ true
right_true true b is = is
right_true false b is = absurd cc

pub both_true : (a b : Bool) → a ≡ true → b ≡ true → (a && b) ≡ true
both_true true b is also = also
both_true false b is also = absurd cc

pub variants : {X : Type 0} (v : Variants X) → AreSpelled v → IsSpelled (tagged v)
variants v a = record {
  exact = tagged-exact v a.exact;
  short = record { short = λ x fits. omega (arith, a.short x (right_true (nat_lt (v.tag x) 256) (v.fits x) fits)) };
}

pub bind_some : {A B : Type 0} (found : Option A) (f : A → Option B) (y : B) → (found >>= f) ≡ Some y → (x : A) × (found ≡ Some x) × (f x ≡ Some y)
bind_some None f y is = absurd cc
bind_some (Some x) f y is = (x, refl, is)

pub some-is : {A : Type 0} (x y : A) → Some x ≡ Some y → x ≡ y
some-is x y is = cc

-- a value of the kind, and the field that it is made of
pub record IsKind {X Y : Type 0} (v : Variants X) (tag : ℕ) (made : Y → X) (f : Field Y) (y : Y) : Type 0 where
  pub told : v.tag (made y) ≡ tag
  pub fits : v.fits (made y) ≡ true
  pub text : v.text (made y) ≡ f.text y

-- which kind the tag is of
pub if_tag : {X : Type 0} (v : Variants X) (tag k : ℕ) (here other : Option (X × List ℕ)) (bytes : List ℕ) (x : X) (rest : List ℕ) →
    (here ≡ Some (x, rest) → TookKind v k bytes x rest) → (other ≡ Some (x, rest) → TookKind v tag bytes x rest) →
    cond (tag == k) here other ≡ Some (x, rest) → TookKind v tag bytes x rest
if_tag v tag k here other bytes x rest this that = cond_both (tag == k) here other (λ o. o ≡ Some (x, rest) → TookKind v tag bytes x rest)
    (λ same is. let k-is : k ≡ tag = grind (arith, nat_tests) in subst (λ n. TookKind v n bytes x rest) k-is (this is))
    (λ _ is. that is)

pub no_tag : {X : Type 0} (v : Variants X) (tag : ℕ) (bytes : List ℕ) (x : X) (rest : List ℕ) →
    ◌≡◌ {A = Option (X × List ℕ)} None (Some (x, rest)) → TookKind v tag bytes x rest
no_tag v tag bytes x rest is = absurd cc

module _ {X Y : Type 0} (v : Variants X) (tag : ℕ) (made : Y → X) (f : Field Y) where
  pub kind_takes : IsSpelled f → ((y : Y) → f.fits y ≡ true → IsKind v tag made f y) →
      (bytes : List ℕ) (x : X) (rest : List ℕ) → IsBytes bytes → kind_at made f bytes ≡ Some (x, rest) → TookKind v tag bytes x rest
  kind_takes a link bytes x rest are is =
      let found = bind_some (f.at bytes) (λ y. Some (made y.0, y.1)) (x, rest) is in
      let took = a.exact.takes bytes found.0.0 found.0.1 are found.1 in
      let kind = link found.0.0 took.fits in
      subst (λ (p : X × List ℕ). TookKind v tag bytes p.0 p.1) (some-is _ _ found.2) (record {
        kind = kind.told;
        fits = kind.fits;
        spelled = took.spelled ∙ ap (λ t. t ++ found.0.1) (sym kind.text);
        rest_bytes = took.rest_bytes;
      })

pub kind_again : {X Y : Type 0} (made : Y → X) (f : Field Y) → IsSpelled f → (y : Y) (rest : List ℕ) → f.fits y ≡ true →
    kind_at made f (f.text y ++ rest) ≡ Some (made y, rest)
kind_again made f a y rest fits = ap (λ o. o >>= λ z. Some (made z.0, z.1)) (a.exact.again y rest fits)

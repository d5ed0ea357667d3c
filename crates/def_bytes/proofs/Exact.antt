-- What is read is spelled so, and what is spelled so is read.
use Rattle.std.proofs.Common.{◌≡◌, ℕ, zero, suc, ◌+◌, ◌*◌, ◌^◌, ◌<◌, ◌≤◌, Bool, true, false, cond, nat_lt, nat_le, ◌&&◌, List, [], ◌∷◌, ◌++◌, length, take, drop, Option, Some, None, refl, sym, ap, subst, ◌∙◌, append_assoc, arith, inl, inr}
use Rattle.std.specs.Prelude.{flat_map}
use Rattle.std.specs.List.{list_all}
use Rattle.std.specs.Option.{option_map_or}
use Rattle.std.specs.Int.{Width, w16, w32, w64, byte_len, from_be_bytes, to_be_bytes}
use Rattle.std.proofs.lemmas.Bool.{cond_both}
use Rattle.std.proofs.lemmas.Bool.Decides.{nat_tests}
use Rattle.std.proofs.lemmas.Bool.{cases_lt, le-leb, leb-true, lt-ltb}
use Rattle.std.proofs.Math.Nat.{mul-le-mul_right}
use Rattle.std.proofs.lemmas.List.{take_at, drop_at, take-append-drop, length-append, length-take, get_or-drop, get_or-take, get_or_past}
use Rattle.std.proofs.lemmas.Nat.{be_bytes_2, be_bytes_4, be_bytes_8, from_be_bytes-to_be_bytes_2, from_be_bytes-to_be_bytes_4, from_be_bytes-to_be_bytes_8}
use Rattle.def_bytes.specs.Exact.{IsBytes, Took, IsExact, IsShort, Undoes, IsExactKinds}
use Rattle.def_bytes.specs.Fields.{Field, Variants, tagged, ◌>>=◌, number_text, number_at, number, byte_at, byte, second_at, both, if_passes, only, made_of, next_items, items_at, counted}

IsBytes-drop : (n : ℕ) (bytes : List ℕ) → IsBytes bytes → IsBytes (drop n bytes)
IsBytes-drop n bytes h i = rw get_or-drop (h (n + i))

IsBytes-take : (n : ℕ) (bytes : List ℕ) → IsBytes bytes → IsBytes (take n bytes)
IsBytes-take n bytes h i =
    elim (cases_lt i n) [
      | inl lt ↦ rw (get_or-take n bytes i 0 lt) (h i)
      | inr le ↦ rw (get_or_past (take n bytes) i 0 (omega (arith, length-take n bytes))) (omega arith)
    ]

bind_some : {A B : Type 0} (found : Option A) (f : A → Option B) (y : B) → (found >>= f) ≡ Some y → (x : A) × (found ≡ Some x) × (f x ≡ Some y)
bind_some None f y is = absurd cc
bind_some (Some x) f y is = (x, refl, is)

pub some-is : {A : Type 0} (x y : A) → Some x ≡ Some y → x ≡ y
some-is x y is = cc

both-true : (a b : Bool) → a ≡ true → b ≡ true → (a && b) ≡ true
both-true true b is also = also
both-true false b is also = absurd cc

left-true : (a b : Bool) → (a && b) ≡ true → a ≡ true
left-true true b is = refl
left-true false b is = absurd cc

right-true : (a b : Bool) → (a && b) ≡ true → b ≡ true
right-true true b is = is
right-true false b is = absurd cc

-- ---- numbers

pub record IsWide (w : Width) : Type 0 where
  pub len : (n : ℕ) → length (to_be_bytes w n) ≡ byte_len w
  pub back : (bytes : List ℕ) → length bytes ≡ byte_len w → IsBytes bytes → to_be_bytes w (from_be_bytes w bytes) ≡ bytes
  pub again : (n : ℕ) → n < 2 ^ (8 * byte_len w) → from_be_bytes w (to_be_bytes w n) ≡ n
  pub below : (bytes : List ℕ) → IsBytes bytes → from_be_bytes w bytes < 2 ^ (8 * byte_len w)

pub wide16 : IsWide w16
wide16 = record {
  len = λ n. refl;
  back = λ bytes len fits. be_bytes_2 bytes _ len fits refl;
  again = λ n lt. from_be_bytes-to_be_bytes_2 n lt;
  below = λ bytes fits. omega (arith, fits 0, fits 1);
}

pub wide32 : IsWide w32
wide32 = record {
  len = λ n. refl;
  back = λ bytes len fits. be_bytes_4 bytes _ len fits refl;
  again = λ n lt. from_be_bytes-to_be_bytes_4 n lt;
  below = λ bytes fits. omega (arith, fits 0, fits 1, fits 2, fits 3);
}

pub wide64 : IsWide w64
wide64 = record {
  len = λ n. refl;
  back = λ bytes len fits. be_bytes_8 bytes _ len fits refl;
  again = λ n lt. from_be_bytes-to_be_bytes_8 n lt;
  below = λ bytes fits. omega (arith, fits 0, fits 1, fits 2, fits 3, fits 4, fits 5, fits 6, fits 7);
}

module _ (w : Width) (wide : IsWide w) where
  number-takes : (bytes : List ℕ) (n : ℕ) (rest : List ℕ) → IsBytes bytes → number_at w bytes ≡ Some (n, rest) → Took (number w) bytes n rest
  unfolding number_at number_text
  number-takes bytes n rest are is = cond_both (nat_le (byte_len w) (length bytes))
      (Some (from_be_bytes w (take (byte_len w) bytes), drop (byte_len w) bytes)) None (λ found. found ≡ Some (n, rest) → Took (number w) bytes n rest)
      (λ long found.
      let enough : byte_len w ≤ length bytes = grind (arith, nat_tests) in
      let front : length (take (byte_len w) bytes) ≡ byte_len w = omega (arith, length-take (byte_len w) bytes) in
      let pair = some-is _ _ found in
      let n-is : from_be_bytes w (take (byte_len w) bytes) ≡ n = ap (λ (p : ℕ × List ℕ). p.0) pair in
      let rest-is : drop (byte_len w) bytes ≡ rest = ap (λ (p : ℕ × List ℕ). p.1) pair in
      let small : n < 2 ^ (8 * byte_len w) = subst (λ k. k < 2 ^ (8 * byte_len w)) n-is (wide.below (take (byte_len w) bytes) (IsBytes-take (byte_len w) bytes are)) in
      let same : to_be_bytes w n ≡ take (byte_len w) bytes = ap (to_be_bytes w) (sym n-is) ∙ wide.back (take (byte_len w) bytes) front (IsBytes-take (byte_len w) bytes are) in
      record {
        fits = lt-ltb _ _ small;
        spelled = sym (take-append-drop (byte_len w) bytes) ∙ ap (λ t. t ++ drop (byte_len w) bytes) (sym same) ∙ ap (λ t. to_be_bytes w n ++ t) rest-is;
        rest_bytes = subst IsBytes rest-is (IsBytes-drop (byte_len w) bytes are);
      })
      (λ _ found. absurd cc) is

  number-again : (n : ℕ) (rest : List ℕ) → nat_lt n (2 ^ (8 * byte_len w)) ≡ true → number_at w (number_text w n ++ rest) ≡ Some (n, rest)
  unfolding number_at number_text
  number-again n rest fits =
      let small : n < 2 ^ (8 * byte_len w) = grind (arith, nat_tests) in
      let len : length (to_be_bytes w n) ≡ byte_len w = wide.len n in
      let long : nat_le (byte_len w) (length (to_be_bytes w n ++ rest)) ≡ true = le-leb _ _ (omega (arith, length-append (to_be_bytes w n) rest)) in
      rw (long, take_at (to_be_bytes w n) rest (byte_len w) len, drop_at (to_be_bytes w n) rest (byte_len w) len, wide.again n small) refl

  pub number-exact : IsExact (number w)
  number-exact = record { takes = number-takes; again = number-again }

  pub number-short : IsShort (number w)
  unfolding number_text
  number-short = record { short = λ n fits. omega (arith, wide.len n) }

-- ---- a byte

byte-takes : (bytes : List ℕ) (x : ℕ) (rest : List ℕ) → IsBytes bytes → byte_at bytes ≡ Some (x, rest) → Took byte bytes x rest
byte-takes [] x rest are is = absurd cc
byte-takes (b ∷ bytes) x rest are is =
    let pair = some-is (b, bytes) (x, rest) is in
    let x-is : b ≡ x = ap (λ (p : ℕ × List ℕ). p.0) pair in
    let rest-is : bytes ≡ rest = ap (λ (p : ℕ × List ℕ). p.1) pair in
    let small : x < 256 = subst (λ n. n < 256) x-is (are 0) in
    record {
      fits = lt-ltb _ _ small;
      spelled = ap (λ n. n ∷ bytes) x-is ∙ ap (λ t. x ∷ t) rest-is;
      rest_bytes = subst IsBytes rest-is (λ i. are (suc i));
    }

pub byte-exact : IsExact byte
byte-exact = record { takes = byte-takes; again = λ x rest fits. refl }

pub byte-short : IsShort byte
byte-short = record { short = λ x fits. omega arith }

-- ---- one field behind another

module _ {X Y : Type 0} (f : Field X) (g : Field Y) where
  pub both-exact : IsExact f → IsExact g → IsExact (both f g)
  both-exact first second = record {
    takes = λ bytes x rest are is.
        let found = bind_some (f.at bytes) (second_at g) (x, rest) is in
        let after = bind_some (g.at found.0.1) (λ y. Some ((found.0.0, y.0), y.1)) (x, rest) found.2 in
        let a = first.takes bytes found.0.0 found.0.1 are found.1 in
        let b = second.takes found.0.1 after.0.0 after.0.1 a.rest_bytes after.1 in
        subst (λ (p : (X × Y) × List ℕ). Took (both f g) bytes p.0 p.1) (some-is _ _ after.2) (record {
          fits = both-true _ _ a.fits b.fits;
          spelled = a.spelled ∙ ap (λ t. f.text found.0.0 ++ t) b.spelled ∙ sym (append_assoc (f.text found.0.0) (g.text after.0.0) after.0.1);
          rest_bytes = b.rest_bytes;
        });
    again = λ x rest fits.
        ap (λ t. f.at t >>= second_at g) (append_assoc (f.text x.0) (g.text x.1) rest)
        ∙ ap (λ found. found >>= second_at g) (first.again x.0 (g.text x.1 ++ rest) (left-true _ _ fits))
        ∙ ap (λ found. found >>= λ y. Some ((x.0, y.0), y.1)) (second.again x.1 rest (right-true _ _ fits));
  }

  pub both-short : IsShort f → IsShort g → IsShort (both f g)
  both-short first second = record {
    short = λ x fits. omega (arith, length-append (f.text x.0) (g.text x.1), first.short x.0 (left-true _ _ fits), second.short x.1 (right-true _ _ fits));
  }

-- ---- the values that pass a test

module _ {X : Type 0} (test : X → Bool) (f : Field X) where
  pub only-exact : IsExact f → IsExact (only test f)
  only-exact exact = record {
    takes = λ bytes x rest are is.
        let found = bind_some (f.at bytes) (if_passes test) (x, rest) is in
        let took = exact.takes bytes found.0.0 found.0.1 are found.1 in
        cond_both (test found.0.0) (Some found.0) None (λ passed. passed ≡ Some (x, rest) → Took (only test f) bytes x rest)
        (λ passes same. subst (λ (p : X × List ℕ). Took (only test f) bytes p.0 p.1) (some-is _ _ same) (record {
          fits = both-true _ _ took.fits passes;
          spelled = took.spelled;
          rest_bytes = took.rest_bytes;
        }))
        (λ _ same. absurd cc) found.2;
    again = λ x rest fits. ap (λ found. found >>= if_passes test) (exact.again x rest (left-true _ _ fits))
        ∙ ap (λ b. cond b (Some (x, rest)) None) (right-true _ _ fits);
  }

  pub only-short : IsShort f → IsShort (only test f)
  only-short is = record { short = λ x fits. is.short x (left-true _ _ fits) }

-- ---- values that are spelled by their parts

module _ {X Y : Type 0} (parts : X → Option Y) (made : Y → X) (f : Field Y) (undoes : Undoes parts made f) where
  taken-apart : (x : X) (found : Option Y) → parts x ≡ found → option_map_or f.fits found false ≡ true → (y : Y) × (parts x ≡ Some y) × (f.fits y ≡ true)
  taken-apart x None is fits = absurd cc
  taken-apart x (Some y) is fits = (y, is, fits)

  pub made-exact : IsExact f → IsExact (made_of parts made f)
  made-exact exact = record {
    takes = λ bytes x rest are is.
        let found = bind_some (f.at bytes) (λ y. Some (made y.0, y.1)) (x, rest) is in
        let took = exact.takes bytes found.0.0 found.0.1 are found.1 in
        let apart : parts (made found.0.0) ≡ Some found.0.0 = undoes.back found.0.0 took.fits in
        subst (λ (p : X × List ℕ). Took (made_of parts made f) bytes p.0 p.1) (some-is _ _ found.2) (record {
          fits = ap (λ o. option_map_or f.fits o false) apart ∙ took.fits;
          spelled = took.spelled ∙ ap (λ o. option_map_or f.text o [] ++ found.0.1) (sym apart);
          rest_bytes = took.rest_bytes;
        });
    again = λ x rest fits.
        let y = taken-apart x (parts x) refl fits in
        ap (λ o. f.at (option_map_or f.text o [] ++ rest) >>= λ z. Some (made z.0, z.1)) y.1
        ∙ ap (λ found. found >>= λ z. Some (made z.0, z.1)) (exact.again y.0 rest y.2)
        ∙ ap (λ z. Some (z, rest)) (undoes.whole x y.0 y.1);
  }

  pub made-short : IsShort f → IsShort (made_of parts made f)
  made-short is = record {
    short = λ x fits. let y = taken-apart x (parts x) refl fits in
        subst (λ o. length (option_map_or f.text o []) ≤ f.most) (sym y.1) (is.short y.0 y.2);
  }

-- ---- lists

module _ {X : Type 0} (f : Field X) where
  record TookItems (bytes : List ℕ) (count : ℕ) (xs : List X) (rest : List ℕ) : Type 0 where
    many : length xs ≡ count
    fit : list_all f.fits xs ≡ true
    spelled : bytes ≡ flat_map f.text xs ++ rest
    rest_bytes : IsBytes rest

  items-take : IsExact f → (count : ℕ) (bytes : List ℕ) (xs : List X) (rest : List ℕ) → IsBytes bytes → items_at f count bytes ≡ Some (xs, rest) → TookItems bytes count xs rest
  items-take exact zero bytes xs rest are is =
      subst (λ (p : List X × List ℕ). TookItems bytes zero p.0 p.1) (some-is ([], bytes) (xs, rest) is) (record { many = refl; fit = refl; spelled = refl; rest_bytes = are })
  items-take exact (suc count) bytes xs rest are is =
      let found = bind_some (f.at bytes) (λ x. items_at f count x.1 >>= next_items x.0) (xs, rest) is in
      let more = bind_some (items_at f count found.0.1) (next_items found.0.0) (xs, rest) found.2 in
      let took = exact.takes bytes found.0.0 found.0.1 are found.1 in
      let others = items-take exact count found.0.1 more.0.0 more.0.1 took.rest_bytes more.1 in
      subst (λ (p : List X × List ℕ). TookItems bytes (suc count) p.0 p.1) (some-is _ _ more.2) (record {
        many = ap suc others.many;
        fit = both-true _ _ took.fits others.fit;
        spelled = took.spelled ∙ ap (λ t. f.text found.0.0 ++ t) others.spelled ∙ sym (append_assoc (f.text found.0.0) (flat_map f.text more.0.0) more.0.1);
        rest_bytes = others.rest_bytes;
      })

  items-again : IsExact f → (xs : List X) (rest : List ℕ) → list_all f.fits xs ≡ true → items_at f (length xs) (flat_map f.text xs ++ rest) ≡ Some (xs, rest)
  items-again exact [] rest fit = refl
  items-again exact (x ∷ xs) rest fit =
      ap (λ t. f.at t >>= λ y. items_at f (length xs) y.1 >>= next_items y.0) (append_assoc (f.text x) (flat_map f.text xs) rest)
      ∙ ap (λ found. found >>= λ y. items_at f (length xs) y.1 >>= next_items y.0) (exact.again x (flat_map f.text xs ++ rest) (left-true _ _ fit))
      ∙ ap (λ found. found >>= next_items x) (items-again exact xs rest (right-true _ _ fit))

  module _ (count : Field ℕ) (limit : ℕ) where
    pub counted-exact : IsExact count → IsExact f → IsExact (counted count limit f)
    counted-exact first exact = record {
      takes = λ bytes xs rest are is.
          let found = bind_some (count.at bytes) (λ n. cond (nat_le n.0 limit) (items_at f n.0 n.1) None) (xs, rest) is in
          let took = first.takes bytes found.0.0 found.0.1 are found.1 in
          cond_both (nat_le found.0.0 limit) (items_at f found.0.0 found.0.1) None (λ o. o ≡ Some (xs, rest) → Took (counted count limit f) bytes xs rest)
          (λ few same.
          let items = items-take exact found.0.0 found.0.1 xs rest took.rest_bytes same in
          record {
            fits = both-true _ _ (ap (λ n. nat_le n limit) items.many ∙ few) (both-true _ _ (ap count.fits items.many ∙ took.fits) items.fit);
            spelled = took.spelled ∙ ap (λ t. count.text found.0.0 ++ t) items.spelled
                ∙ sym (append_assoc (count.text found.0.0) (flat_map f.text xs) rest)
                ∙ ap (λ n. (count.text n ++ flat_map f.text xs) ++ rest) (sym items.many);
            rest_bytes = items.rest_bytes;
          })
          (λ _ same. absurd cc) found.2;
      again = λ xs rest fits.
          let few = left-true _ _ fits in
          let both = right-true _ _ fits in
          ap (λ t. count.at t >>= λ n. cond (nat_le n.0 limit) (items_at f n.0 n.1) None) (append_assoc (count.text (length xs)) (flat_map f.text xs) rest)
          ∙ ap (λ found. found >>= λ n. cond (nat_le n.0 limit) (items_at f n.0 n.1) None) (first.again (length xs) (flat_map f.text xs ++ rest) (left-true _ _ both))
          ∙ ap (λ b. cond b (items_at f (length xs) (flat_map f.text xs ++ rest)) None) few
          ∙ items-again exact xs rest (right-true _ _ both);
    }

    pub counted-short : IsShort count → IsShort f → IsShort (counted count limit f)
    counted-short first is = record {
      short = λ xs fits.
          let both : (count.fits (length xs) && list_all f.fits xs) ≡ true = right-true _ _ fits in
          let few : length xs ≤ limit = leb-true _ _ (left-true _ _ fits) in
          let all : length (flat_map f.text xs) ≤ length xs * f.most = items-short is xs (right-true _ _ both) in
          let most : length xs * f.most ≤ limit * f.most = mul-le-mul_right f.most few in
          omega (arith, length-append (count.text (length xs)) (flat_map f.text xs), first.short (length xs) (left-true _ _ (right-true _ _ fits)), all, most);
    }
      where
        items-short : IsShort f → (xs : List X) → list_all f.fits xs ≡ true → length (flat_map f.text xs) ≤ length xs * f.most
        items-short is [] fit = omega arith
        items-short is (x ∷ xs) fit = omega (arith, length-append (f.text x) (flat_map f.text xs), is.short x (left-true _ _ fit), items-short is xs (right-true _ _ fit))

-- ---- values of several kinds

pub tagged-exact : {X : Type 0} (v : Variants X) → IsExactKinds v → IsExact (tagged v)
tagged-exact v kinds = record {
  takes = λ bytes x rest are is.
      let found = bind_some (byte_at bytes) (λ b. v.at b.0 b.1) (x, rest) is in
      let tag = byte-takes bytes found.0.0 found.0.1 are found.1 in
      let took = kinds.takes found.0.0 found.0.1 x rest tag.rest_bytes found.2 in
      record {
        fits = both-true _ _ (ap (λ n. nat_lt n 256) took.kind ∙ tag.fits) took.fits;
        spelled = tag.spelled ∙ ap (λ t. found.0.0 ∷ t) took.spelled ∙ ap (λ n. n ∷ (v.text x ++ rest)) (sym took.kind);
        rest_bytes = took.rest_bytes;
      };
  again = λ x rest fits. kinds.again x rest (right-true _ _ fits);
}

-- ---- what is exact has one spelling, and no spelling begins another

pub one-spelling : {X : Type 0} (f : Field X) → IsExact f → (x y : X) (a b : List ℕ) → f.fits x ≡ true → f.fits y ≡ true →
    f.text x ++ a ≡ f.text y ++ b → (x ≡ y) × (a ≡ b)
one-spelling f exact x y a b fits others is =
    let pair = some-is (x, a) (y, b) (sym (exact.again x a fits) ∙ ap f.at is ∙ exact.again y b others) in
    (ap (λ p. p.0) pair, ap (λ p. p.1) pair)

-- What one pass over a list finds.
use Rattle.std.proofs.Common.{◌≡◌, ℕ, zero, suc, ◌+◌, ◌<◌, List, [], ◌∷◌, ◌++◌, length, take, get_or, Bool, true, false, Option, Some, None, cond, subst, ap, sym, ◌∙◌, refl, map, zero-add, arith, if◌then◌else◌}
use Rattle.std.specs.Array.{IsFromFnResult, IsFromFnResultFrom}
use Rattle.std.specs.Fn.{Called}
use Rattle.std.specs.List.{filter, AllByRecursion, range_with_len}
use denote.Param.Members.{Mut}
use Rattle.std.proofs.lemmas.Bool.Decides.{nat_tests}
use Rattle.std.proofs.lemmas.Grind.{common_steps}
use Rattle.std.proofs.lemmas.List.{take_more}
use Rattle.std.proofs.lemmas.List.FromFn.{fill_by_all}
use Rattle.boss_model.specs.Order.{least, lesser, kept}
use Rattle.law_time.proofs.Filters.{filter-append}
use Rattle.law_time.proofs.Orders.{each-filter, least-of}

-- what holds of all items holds of the least of those that pass a test
pub each-least : {X : Type 0} (P : X → Type 0) (key : X → ℕ) (test : X → Bool) (xs : List X) (x : X) → AllByRecursion P xs → least key (filter test xs) ≡ Some x → P x
each-least P key test xs x all found = least-of P key (filter test xs) x (each-filter P test xs all) found

-- ---- the least of those that pass a test, with one item more

lesser-kept : {X : Type 0} (key : X → ℕ) (x : X) (rest : Option X) (last : X) → lesser key x (Some (kept key rest last)) ≡ lesser key (lesser key x rest) (Some last)
lesser-kept key x None last = cc
lesser-kept key x (Some y) last = grind (arith, nat_tests)

pub least-snoc : {X : Type 0} (key : X → ℕ) (xs : List X) (x : X) → least key (xs ++ x ∷ []) ≡ Some (kept key (least key xs) x)
least-snoc key [] x = cc
least-snoc key (y ∷ ys) x = ap (λ r. Some (lesser key y r)) (least-snoc key ys x) ∙ ap Some (lesser-kept key y (least key ys) x)

pub least-more : {X : Type 0} (key : X → ℕ) (test : X → Bool) (xs : List X) (i : ℕ) (x : X) → i < length xs → x ≡ get_or xs i x →
    least key (filter test (take (i + 1) xs)) ≡ (if test x then Some (kept key (least key (filter test (take i xs))) x) else least key (filter test (take i xs)))
least-more key test xs i x within is =
    ap (λ ys. least key (filter test ys)) (take_more xs i x within)
    ∙ ap (λ y. least key (filter test (take i xs ++ y ∷ []))) (sym is)
    ∙ ap (least key) (filter-append test (take i xs) (x ∷ []))
    ∙ chosen (test x)
  where
    chosen : (b : Bool) → least key (filter test (take i xs) ++ cond b (x ∷ []) []) ≡ (if b then Some (kept key (least key (filter test (take i xs))) x) else least key (filter test (take i xs)))
    chosen true = least-snoc key (filter test (take i xs)) x
    chosen false = grind (arith, common_steps)

-- ---- an array made item by item, by calls that change nothing

module _ {F B : Type 0} (g : Mut F (ℕ × Unit {0}) B) (f : F) (v : ℕ → B) (gives : (i : ℕ) (y : B) (q : F) → Called g f (i, tt) y q → (q ≡ f) × (y ≡ v i)) where
  made-at : (ys : List B) (i n : ℕ) (now : F) → now ≡ f → IsFromFnResultFrom g now ys i n → (k : ℕ) (d : B) → k < n → get_or ys (i + k) d ≡ v (i + k)
  made-at ys i zero now same made k d within = absurd (omega arith)
  made-at ys i (suc n) now same made zero d within =
      let here : i + 0 ≡ i = omega arith in
      let item : get_or ys i d ≡ made.1 = made.2.1 d in
      rw here (item ∙ (gives i made.1 made.0 (subst (λ p. Called g p (i, tt) made.1 made.0) same made.3)).1)
  made-at ys i (suc n) now same made (suc k) d within =
      let next : i + suc k ≡ i + 1 + k = omega arith in
      rw next (made-at ys (i + 1) n made.0 ((gives i made.1 made.0 (subst (λ p. Called g p (i, tt) made.1 made.0) same made.3)).0) made.4 k d (omega arith))

  pub made-array : (ys : List B) (n : ℕ) (d : B) → IsFromFnResult g f ys n → ys ≡ map v (range_with_len 0 n)
  made-array ys n d made = fill_by_all v ys n d made.long (λ k within. rw (← zero-add k) (made-at ys 0 n f refl made.each k d within))

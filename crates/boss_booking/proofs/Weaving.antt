-- Each transaction's being done behind the last end of its parts stands where the order of happenings has it.
use Rattle.std.proofs.Common.{◌≡◌, ℕ, ◌==◌, nat_le, List, [], ◌∷◌, ◌++◌, Bool, true, false, not, ◌&&◌, cond, map, Option, Some, None, refl, ap, sym, ◌∙◌, subst, ⊎_elim, arith, append-nil}
use Rattle.std.specs.List.{filter, AllByRecursion}
use Rattle.std.proofs.lemmas.Bool.{cases_Bool, cond_both}
use Rattle.std.proofs.lemmas.Bool.Decides.{nat_tests}
use Rattle.boss_model.specs.declared.notice.What.{What}
use Rattle.boss_model.specs.declared.notice.What.TheVariants as what
use Rattle.boss_model.specs.Happenings.{Happening, rank, rank_of, is_done}
use Rattle.boss_model.specs.Lists.{member, without}
use Rattle.boss_model.specs.Order.{comes_before, put, in_order}
use Rattle.boss_model.specs.Sound.{Rising, Distinct}
use Rattle.boss_model.proofs.Members.{member-filter, Distinct-filter, without-none}
use Rattle.law_time.proofs.Filters.{filter-append, filter-none, filter-all, each-mapped, Apart, put-put}
use Rattle.law_time.proofs.Orders.{before-trans, before-total, before-both, each-map, each-both, each-filter, Ordered, Ordered-filter, Ordered-in_order, in_order-Ordered, filter-in_order}
use Rattle.boss_booking.specs.Books.{Telling, is_end, all_done}
use Rattle.boss_booking.specs.Gathered.{told_rank}
use Rattle.boss_booking.proofs.Points.{point_in, is_on}
use Rattle.boss_booking.proofs.Staging.{weave}
use Rattle.boss_booking.proofs.Tellings.{ends, awaits}

-- ---- ranks of happenings

abbrev kind : Option What → ℕ
kind None = 0
kind (Some (what.Fault point)) = 1
kind (Some (what.Ended point why)) = 2
kind (Some (what.Reverted point)) = 3
kind (Some (what.Cut point by)) = 4
kind (Some what.Done) = 5

rank-kind : (told : Option What) → rank_of told ≡ kind told ∷ point_in told ∷ []
rank-kind None = refl
rank-kind (Some (what.Fault point)) = refl
rank-kind (Some (what.Ended point why)) = refl
rank-kind (Some (what.Reverted point)) = refl
rank-kind (Some (what.Cut point by)) = refl
rank-kind (Some what.Done) = refl

end-kind : (told : Option What) → is_end told ≡ (nat_le 2 (kind told) && nat_le (kind told) 4)
end-kind None = refl
end-kind (Some (what.Fault point)) = refl
end-kind (Some (what.Ended point why)) = refl
end-kind (Some (what.Reverted point)) = refl
end-kind (Some (what.Cut point by)) = refl
end-kind (Some what.Done) = refl

done-kind : (told : Option What) → is_done told ≡ nat_le 5 (kind told)
done-kind None = refl
done-kind (Some (what.Fault point)) = refl
done-kind (Some (what.Ended point why)) = refl
done-kind (Some (what.Reverted point)) = refl
done-kind (Some (what.Cut point by)) = refl
done-kind (Some what.Done) = refl

pub rank-parts : (h : Happening) → rank h ≡ h.at ∷ h.txn ∷ kind h.told ∷ point_in h.told ∷ []
rank-parts h = ap (λ r. h.at ∷ h.txn ∷ r) (rank-kind h.told)

-- a telling stands before its transaction's being done
pub before-done : (h : Happening) → is_done h.told ≡ false → comes_before (rank h) (rank (all_done h)) ≡ true
before-done h other =
    let k = done-kind h.told in
    ap (λ r. comes_before r (rank (all_done h))) (rank-parts h) ∙ grind (arith, nat_tests)

-- and that stands before what comes later, if nothing of the transaction ends later
after-done : (e g : Happening) → is_end e.told ≡ true → is_done g.told ≡ false → comes_before (rank g) (rank e) ≡ false → (is_end g.told && (g.txn == e.txn)) ≡ false →
    comes_before (rank (all_done e)) (rank g) ≡ true
after-done e g end other later last =
    let a = end-kind e.told in
    let b = end-kind g.told in
    let c = done-kind g.told in
    let behind : comes_before (g.at ∷ g.txn ∷ kind g.told ∷ point_in g.told ∷ []) (e.at ∷ e.txn ∷ kind e.told ∷ point_in e.told ∷ []) ≡ false =
    (λ i. comes_before (sym (rank-parts g) i) (sym (rank-parts e) i)) ∙ later in
    ap (λ r. comes_before (rank (all_done e)) r) (rank-parts g) ∙ grind (arith, nat_tests)

-- ---- all that is woven

each-woven : (P : Happening → Type 0) (over : ℕ → Bool) (es : List Telling) → AllByRecursion (λ e. P e.happening × P (all_done e.happening)) es → AllByRecursion P (weave over es)
each-woven P over [] all = tt
each-woven P over (e ∷ es) all = (
  all.0.0,
  cond_both (is_end e.happening.told && (not (awaits e.happening.txn es) && over e.happening.txn)) (all_done e.happening ∷ weave over es) (weave over es) (AllByRecursion P)
      (λ _. (all.0.1, each-woven P over es all.1)) (λ _. each-woven P over es all.1),
)

pub none-awaited : (txn : ℕ) (es : List Telling) → awaits txn es ≡ false → AllByRecursion (λ e. ends txn e ≡ false) es
none-awaited txn [] none = tt
none-awaited txn (e ∷ es) none = (grind (arith), none-awaited txn es (grind (arith)))

woven-Ordered : (over : ℕ → Bool) (es : List Telling) → Rising told_rank es → AllByRecursion (λ e. is_done e.happening.told ≡ false) es → Ordered rank (weave over es)
woven-Ordered over [] rising none = tt
woven-Ordered over (e ∷ es) rising none =
    let h = e.happening in
    let L = λ (g : Telling). comes_before (rank g.happening) (rank h) ≡ false in
    let N = λ (g : Telling). is_done g.happening.told ≡ false in
    let rest : Ordered rank (weave over es) = woven-Ordered over es rising.1 none.1 in
    let here : AllByRecursion (λ x. comes_before (rank h) (rank x) ≡ true) (weave over es) = each-woven (λ x. comes_before (rank h) (rank x) ≡ true) over es
    (each-map (λ g. L g × N g) (λ g. (comes_before (rank h) (rank g.happening) ≡ true) × (comes_before (rank h) (rank (all_done g.happening)) ≡ true))
    (λ g both. let first : comes_before (rank h) (rank g.happening) ≡ true = before-total (rank g.happening) (rank h) both.0 in
    (first, before-trans (rank h) (rank g.happening) (rank (all_done g.happening)) first (before-done g.happening both.1))) es (each-both L N es rising.0 none.1)) in
    cond_both (is_end h.told && (not (awaits h.txn es) && over h.txn)) (all_done h ∷ weave over es) (weave over es)
    (λ xs. AllByRecursion (λ x. comes_before (rank h) (rank x) ≡ true) xs × Ordered rank xs)
    (λ test.
    let end : is_end h.told ≡ true = grind (arith) in
    let last : awaits h.txn es ≡ false = grind (arith) in
    let E = λ (g : Telling). ends h.txn g ≡ false in
    let D = λ (x : Happening). comes_before (rank (all_done h)) (rank x) ≡ true in
    let behind : AllByRecursion D (weave over es) = each-woven D over es
    (each-map (λ g. (L g × N g) × E g) (λ g. D g.happening × D (all_done g.happening))
    (λ g all. let first : D g.happening = after-done h g.happening end all.0.1 all.0.0 all.1 in
    (first, before-trans (rank (all_done h)) (rank g.happening) (rank (all_done g.happening)) first (before-done g.happening all.0.1)))
    es (each-both (λ g. L g × N g) E es (each-both L N es rising.0 none.1) (none-awaited h.txn es last))) in
    ((before-done h none.0, here), (behind, rest)))
    (λ _. (here, rest))

-- ---- two lists in order that are the same by the two halves of a test

module _ {X : Type 0} (rank_by : X → List ℕ) (test : X → Bool) (apart : (x y : X) → test x ≡ true → test y ≡ false → rank_by x ≡ rank_by y → ⊥) where
  abbrev fails : X → Bool
  fails x = not (test x)

  head-first : (x : X) (xs ys : List X) (half : X → Bool) → AllByRecursion (λ z. comes_before (rank_by x) (rank_by z) ≡ true) xs → (y : X) → y ∷ ys ≡ filter half xs → comes_before (rank_by x) (rank_by y) ≡ true
  head-first x xs ys half all y is =
      (subst (AllByRecursion (λ z. comes_before (rank_by x) (rank_by z) ≡ true)) (sym is) (each-filter (λ z. comes_before (rank_by x) (rank_by z) ≡ true) half xs all)).0

  pub merged : (xs ys : List X) → Ordered rank_by xs → Ordered rank_by ys → filter test xs ≡ filter test ys → filter fails xs ≡ filter fails ys → xs ≡ ys
  merged [] [] p q one other = refl
  merged [] (y ∷ ys) p q one other = ⊎_elim
      (λ is. absurd (let e : [] ≡ y ∷ filter test ys = one ∙ ap (λ b. cond b (y ∷ filter test ys) (filter test ys)) is in cc))
      (λ out. absurd (let e : [] ≡ y ∷ filter fails ys = other ∙ ap (λ b. cond (not b) (y ∷ filter fails ys) (filter fails ys)) out in cc))
      (cases_Bool (test y))
  merged (x ∷ xs) [] p q one other = ⊎_elim
      (λ is. absurd (let e : [] ≡ x ∷ filter test xs = sym one ∙ ap (λ b. cond b (x ∷ filter test xs) (filter test xs)) is in cc))
      (λ out. absurd (let e : [] ≡ x ∷ filter fails xs = sym other ∙ ap (λ b. cond (not b) (x ∷ filter fails xs) (filter fails xs)) out in cc))
      (cases_Bool (test x))
  merged (x ∷ xs) (y ∷ ys) p q one other =
      let tx = λ (b : Bool). cond b (x ∷ filter test xs) (filter test xs) in
      let fx = λ (b : Bool). cond (not b) (x ∷ filter fails xs) (filter fails xs) in
      let ty = λ (b : Bool). cond b (y ∷ filter test ys) (filter test ys) in
      let fy = λ (b : Bool). cond (not b) (y ∷ filter fails ys) (filter fails ys) in
      ⊎_elim
      (λ px. ⊎_elim
      (λ py.
      let e : x ∷ filter test xs ≡ y ∷ filter test ys = sym (ap tx px) ∙ one ∙ ap ty py in
      let f : filter fails xs ≡ filter fails ys = sym (ap fx px) ∙ other ∙ ap fy py in
      let head : x ≡ y = cc in
      let rest : xs ≡ ys = merged xs ys p.1 q.1 (let g : filter test xs ≡ filter test ys = cc in g) f in
      λ i. head i ∷ rest i)
      (λ ny.
      let e : x ∷ filter test xs ≡ filter test ys = sym (ap tx px) ∙ one ∙ ap ty ny in
      let f : y ∷ filter fails ys ≡ filter fails xs = sym (sym (ap fx px) ∙ other ∙ ap fy ny) in
      absurd (apart x y px ny (before-both (rank_by x) (rank_by y) (head-first x xs (filter fails ys) fails p.0 y f) (head-first y ys (filter test xs) test q.0 x e))))
      (cases_Bool (test y)))
      (λ nx. ⊎_elim
      (λ py.
      let e : y ∷ filter test ys ≡ filter test xs = sym (sym (ap tx nx) ∙ one ∙ ap ty py) in
      let f : x ∷ filter fails xs ≡ filter fails ys = sym (ap fx nx) ∙ other ∙ ap fy py in
      absurd (apart y x py nx (before-both (rank_by y) (rank_by x) (head-first y ys (filter fails xs) fails q.0 x f) (head-first x xs (filter test ys) test p.0 y e))))
      (λ ny.
      let f : x ∷ filter fails xs ≡ y ∷ filter fails ys = sym (ap fx nx) ∙ other ∙ ap fy ny in
      let e : filter test xs ≡ filter test ys = sym (ap tx nx) ∙ one ∙ ap ty ny in
      let head : x ≡ y = cc in
      let rest : xs ≡ ys = merged xs ys p.1 q.1 e (let g : filter fails xs ≡ filter fails ys = cc in g) in
      λ i. head i ∷ rest i)
      (cases_Bool (test y)))
      (cases_Bool (test x))

-- ---- lists of the same numbers, told of in order

both-left : (a b : Bool) → (a && b) ≡ true → a ≡ true
both-left true b both = refl
both-left false b both = both

both-right : (a b : Bool) → (a && b) ≡ true → b ≡ true
both-right true b both = both
both-right false b both = absurd (cc)

unlike : (a b : ℕ) → (a == b) ≡ false → a ≡ b → ⊥
unlike a b other same = grind (arith, nat_tests)

module _ (g : ℕ → Happening) (own : (txn : ℕ) → (g txn).txn ≡ txn) where
  apart-numbers : (a b : ℕ) → (a == b) ≡ false → Apart rank (g a) (g b)
  apart-numbers a b other = ⊎_elim
      (λ both.
      let same : rank (g a) ≡ rank (g b) = before-both (rank (g a)) (rank (g b)) (both-left (comes_before (rank (g a)) (rank (g b))) (comes_before (rank (g b)) (rank (g a))) both)
      (both-right (comes_before (rank (g a)) (rank (g b))) (comes_before (rank (g b)) (rank (g a))) both) in
      let txns : (g a).txn ≡ (g b).txn = cc in
      absurd (unlike a b other (sym (own a) ∙ txns ∙ own b)))
      (λ apart. apart)
      (cases_Bool (comes_before (rank (g a)) (rank (g b)) && comes_before (rank (g b)) (rank (g a))))

  pulled : (n : ℕ) (us : List ℕ) → Distinct us → member n us ≡ true → in_order rank (map g us) ≡ put rank (g n) (in_order rank (map g (without n us)))
  pulled n [] once there = absurd (cc)
  pulled n (u ∷ us) once there = ⊎_elim
      (λ is.
      let same : u ≡ n = grind (arith, nat_tests) in
      let away : member n us ≡ false = subst (λ k. member k us ≡ false) same once.0 in
      let rest : without n (u ∷ us) ≡ us = ap (λ b. cond (not b) (u ∷ without n us) (without n us)) is ∙ without-none n us away in
      (λ i. put rank (g (same i)) (in_order rank (map g (sym rest i)))))
      (λ other.
      let later : member n us ≡ true = grind (arith) in
      let rest : without n (u ∷ us) ≡ u ∷ without n us = ap (λ b. cond (not b) (u ∷ without n us) (without n us)) other in
      ap (put rank (g u)) (pulled n us once.1 later)
      ∙ put-put rank (g u) (g n) (in_order rank (map g (without n us))) (apart-numbers u n other)
      ∙ ap (λ xs. put rank (g n) (in_order rank (map g xs))) (sym rest))
      (cases_Bool (u == n))

  nobody : (us : List ℕ) → ((n : ℕ) → false ≡ member n us) → [] ≡ us
  nobody [] none = refl
  nobody (u ∷ us) none = absurd (let here : false ≡ member u (u ∷ us) = none u in grind (arith, nat_tests))

  pub same-numbers : (ts us : List ℕ) → Distinct ts → Distinct us → ((n : ℕ) → member n ts ≡ member n us) → in_order rank (map g ts) ≡ in_order rank (map g us)
  same-numbers [] us p q same = ap (λ xs. in_order rank (map g xs)) (nobody us same)
  same-numbers (t ∷ ts) us p q same =
      let there : member t us ≡ true = sym (same t) ∙ grind (arith, nat_tests) in
      let rest : (n : ℕ) → member n ts ≡ member n (without t us) = λ n. rest_of n in
      ap (put rank (g t)) (same-numbers ts (without t us) p.1 (Distinct-filter (λ other. not (other == t)) us q) rest) ∙ sym (pulled t us q there)
    where
      rest_of : (n : ℕ) → member n ts ≡ member n (without t us)
      rest_of n = ⊎_elim
          (λ is.
          let number : t ≡ n = grind (arith, nat_tests) in
          let away : member n ts ≡ false = subst (λ k. member k ts ≡ false) number p.0 in
          grind (arith, nat_tests, member-filter n (λ other. not (other == t)) us))
          (λ other. let at : member n (t ∷ ts) ≡ member n us = same n in
          grind (arith, nat_tests, member-filter n (λ other. not (other == t)) us))
          (cases_Bool (t == n))

-- ---- the transactions that become done

module _ (over : ℕ → Bool) where
  abbrev pub is_last : Telling → List Telling → Bool
  is_last e es = is_end e.happening.told && (not (awaits e.happening.txn es) && over e.happening.txn)

  abbrev pub done_txns : List Telling → List ℕ
  done_txns [] = []
  done_txns (e ∷ es) = cond (is_last e es) (e.happening.txn ∷ done_txns es) (done_txns es)

  pub member-done : (n : ℕ) (es : List Telling) → member n (done_txns es) ≡ (awaits n es && over n)
  member-done n [] = refl
  member-done n (e ∷ es) =
      let rest : member n (done_txns es) ≡ (awaits n es && over n) = member-done n es in
      ⊎_elim
      (λ is.
      let own : e.happening.txn ≡ n = grind (arith, nat_tests) in
      let at : is_last e es ≡ (is_end e.happening.told && (not (awaits n es) && over n)) = ap (λ k. is_end e.happening.told && (not (awaits k es) && over k)) own in
      cond_both (is_last e es) (e.happening.txn ∷ done_txns es) (done_txns es) (λ xs. member n xs ≡ (awaits n (e ∷ es) && over n)) (λ last. grind (arith, nat_tests)) (λ not_last. grind (arith, nat_tests)))
      (λ other.
      cond_both (is_last e es) (e.happening.txn ∷ done_txns es) (done_txns es) (λ xs. member n xs ≡ (awaits n (e ∷ es) && over n)) (λ last. grind (arith, nat_tests)) (λ not_last. grind (arith, nat_tests)))
      (cases_Bool (e.happening.txn == n))

  pub Distinct-done : (es : List Telling) → Distinct (done_txns es)
  Distinct-done [] = tt
  Distinct-done (e ∷ es) = cond_both (is_last e es) (e.happening.txn ∷ done_txns es) (done_txns es) Distinct
      (λ last. (member-done e.happening.txn es ∙ grind (arith), Distinct-done es)) (λ _. Distinct-done es)

  module _ (g : ℕ → Happening) where
    -- what is woven in is this
    abbrev pub AreWoven : List Telling → Type 0
    AreWoven [] = Unit {0}
    AreWoven (e ∷ es) = (is_last e es ≡ true → all_done e.happening ≡ g e.happening.txn) × AreWoven es

    woven-done : (es : List Telling) → AllByRecursion (λ e. is_done e.happening.told ≡ false) es → AreWoven es → filter (λ h. is_done h.told) (weave over es) ≡ map g (done_txns es)
    woven-done [] none woven = refl
    woven-done (e ∷ es) none woven =
        let rest : filter (λ h. is_done h.told) (weave over es) ≡ map g (done_txns es) = woven-done es none.1 woven.1 in
        let F = filter (λ (h : Happening). is_done h.told) in
        let tail = λ (b : Bool). cond b (all_done e.happening ∷ weave over es) (weave over es) in
        ap (λ b. cond b (e.happening ∷ F (tail (is_last e es))) (F (tail (is_last e es)))) none.0
        ∙ ⊎_elim
        (λ last. ap (λ b. F (tail b)) last ∙ (λ i. woven.0 last i ∷ rest i) ∙ sym (ap (λ b. map g (cond b (e.happening.txn ∷ done_txns es) (done_txns es))) last))
        (λ more. ap (λ b. F (tail b)) more ∙ rest ∙ sym (ap (λ b. map g (cond b (e.happening.txn ∷ done_txns es) (done_txns es))) more))
        (cases_Bool (is_last e es))

  woven-others : (es : List Telling) → AllByRecursion (λ e. is_done e.happening.told ≡ false) es → filter (λ h. not (is_done h.told)) (weave over es) ≡ map (λ e. e.happening) es
  woven-others [] none = refl
  woven-others (e ∷ es) none =
      let F = filter (λ (h : Happening). not (is_done h.told)) in
      let tail = λ (b : Bool). cond b (all_done e.happening ∷ weave over es) (weave over es) in
      ap (λ b. cond (not b) (e.happening ∷ F (tail (is_last e es))) (F (tail (is_last e es)))) none.0
      ∙ ap (λ xs. e.happening ∷ xs) (cond_both (is_last e es) (all_done e.happening ∷ weave over es) (weave over es) (λ xs. F xs ≡ map (λ x. x.happening) es) (λ _. woven-others es none.1) (λ _. woven-others es none.1))

-- order by what is told, and order of what is told
put-told : (e : Telling) (es : List Telling) → map (λ x. x.happening) (put told_rank e es) ≡ put rank e.happening (map (λ x. x.happening) es)
put-told e [] = refl
put-told e (x ∷ xs) = ⊎_elim
    (λ first. ap (λ b. map (λ (y : Telling). y.happening) (cond b (e ∷ x ∷ xs) (x ∷ put told_rank e xs))) first
    ∙ sym (ap (λ b. cond b (e.happening ∷ x.happening ∷ map (λ y. y.happening) xs) (x.happening ∷ put rank e.happening (map (λ y. y.happening) xs))) first))
    (λ behind. ap (λ b. map (λ (y : Telling). y.happening) (cond b (e ∷ x ∷ xs) (x ∷ put told_rank e xs))) behind
    ∙ ap (λ ys. x.happening ∷ ys) (put-told e xs)
    ∙ sym (ap (λ b. cond b (e.happening ∷ x.happening ∷ map (λ y. y.happening) xs) (x.happening ∷ put rank e.happening (map (λ y. y.happening) xs))) behind))
    (cases_Bool (comes_before (rank e.happening) (rank x.happening)))

pub in_order-told : (es : List Telling) → map (λ x. x.happening) (in_order told_rank es) ≡ in_order rank (map (λ x. x.happening) es)
in_order-told [] = refl
in_order-told (e ∷ es) = put-told e (in_order told_rank es) ∙ ap (put rank e.happening) (in_order-told es)

-- the transactions that become done might as well be put in order with all else
pub woven : (over : ℕ → Bool) (g : ℕ → Happening) (es : List Telling) (ts : List ℕ) → ((txn : ℕ) → (g txn).txn ≡ txn) → ((txn : ℕ) → (g txn).told ≡ Some what.Done) →
    Rising told_rank (in_order told_rank es) → AllByRecursion (λ e. is_done e.happening.told ≡ false) es → AllByRecursion (λ e. is_done e.happening.told ≡ false) (in_order told_rank es) →
    AreWoven over g (in_order told_rank es) → Distinct ts → ((n : ℕ) → member n ts ≡ (awaits n (in_order told_rank es) && over n)) →
    weave over (in_order told_rank es) ≡ in_order rank (map (λ e. e.happening) es ++ map g ts)
woven over g es ts own done rising none none_sorted woven_so once same =
    let sorted = in_order told_rank es in
    let hs = map (λ (e : Telling). e.happening) es in
    let test = λ (h : Happening). is_done h.told in
    let others = λ (h : Happening). not (is_done h.told) in
    let woven_order : Ordered rank (weave over sorted) = woven-Ordered over sorted rising none_sorted in
    let firsts : AllByRecursion (λ h. test h ≡ false) hs = each-mapped (λ h. test h ≡ false) (λ e. e.happening) es none in
    let lasts : AllByRecursion (λ h. test h ≡ true) (map g ts) = lasts_of ts in
    let one : filter test (weave over sorted) ≡ filter test (in_order rank (hs ++ map g ts)) =
    sym (in_order-Ordered rank (filter test (weave over sorted)) (Ordered-filter rank test (weave over sorted) woven_order))
    ∙ ap (in_order rank) (woven-done over g sorted none_sorted woven_so)
    ∙ same-numbers g own (done_txns over sorted) ts (Distinct-done over sorted) once (λ n. member-done over n sorted ∙ sym (same n))
    ∙ ap (in_order rank) (sym (filter-append test hs (map g ts) ∙ (λ i. filter-none test hs firsts i ++ filter-all test (map g ts) lasts i)))
    ∙ sym (filter-in_order rank test (hs ++ map g ts)) in
    let other : filter others (weave over sorted) ≡ filter others (in_order rank (hs ++ map g ts)) =
    woven-others over sorted none_sorted ∙ in_order-told es
    ∙ ap (in_order rank) (sym (filter-append others hs (map g ts)
    ∙ (λ i. filter-all others hs (each-map (λ h. test h ≡ false) (λ h. others h ≡ true) (λ h out. grind (arith)) hs firsts) i
    ++ filter-none others (map g ts) (each-map (λ h. test h ≡ true) (λ h. others h ≡ false) (λ h is. grind (arith)) (map g ts) lasts) i)
    ∙ append-nil hs))
    ∙ sym (filter-in_order rank others (hs ++ map g ts)) in
    merged rank test (λ x y p q alike. kinds-apart x y p q alike) (weave over sorted) (in_order rank (hs ++ map g ts)) woven_order (Ordered-in_order rank (hs ++ map g ts)) one other
  where
    lasts_of : (us : List ℕ) → AllByRecursion (λ h. is_done h.told ≡ true) (map g us)
    lasts_of [] = tt
    lasts_of (u ∷ us) = (ap is_done (done u), lasts_of us)

    kinds-apart : (x y : Happening) → is_done x.told ≡ true → is_done y.told ≡ false → rank x ≡ rank y → ⊥
    kinds-apart x y p q alike =
        let a = done-kind x.told in
        let b = done-kind y.told in
        let both : x.at ∷ x.txn ∷ kind x.told ∷ point_in x.told ∷ [] ≡ y.at ∷ y.txn ∷ kind y.told ∷ point_in y.told ∷ [] = sym (rank-parts x) ∙ alike ∙ rank-parts y in
        let kinds : kind x.told ≡ kind y.told = cc in
        let same_too : is_done x.told ≡ is_done y.told = a ∙ ap (nat_le 5) kinds ∙ sym b in
        cc

-- the last end of a transaction that becomes done comes when this says
abbrev pub AreTimely : (ℕ → Bool) → (ℕ → ℕ) → List Telling → Type 0
AreTimely over last [] = Unit {0}
AreTimely over last (e ∷ es) = (is_last over e es ≡ true → e.happening.at ≡ last e.happening.txn) × AreTimely over last es

pub timely-woven : (over : ℕ → Bool) (last owners : ℕ → ℕ) (es : List Telling) → AllByRecursion (λ e. is_end e.happening.told ≡ true → e.happening.owner ≡ owners e.happening.txn) es → AreTimely over last es →
    AreWoven over (λ txn. record { at = last txn; txn = txn; owner = owners txn; told = Some what.Done }) es
timely-woven over last owners [] owned timely = tt
timely-woven over last owners (e ∷ es) owned timely = (
  (λ is. let end : is_end e.happening.told ≡ true = grind (arith) in
      λ i. record { at = timely.0 is i; txn = e.happening.txn; owner = owned.0 end i; told = Some what.Done }),
  timely-woven over last owners es owned.1 timely.1,
)

-- ends that all come at one moment
pub at-once : (over : ℕ → Bool) (n : ℕ) (es : List Telling) → AllByRecursion (λ e. is_end e.happening.told ≡ true → e.happening.at ≡ n) es → AreTimely over (λ txn. n) es
at-once over n [] all = tt
at-once over n (e ∷ es) all = ((λ last. all.0 (grind (arith))), at-once over n es all.1)

-- ---- ends of one part are never of one rank

each-unpassed : (P : Telling → Type 0) (test : Telling → Bool) (es : List Telling) → AllByRecursion P (filter test es) → AllByRecursion (λ e. test e ≡ true → P e) es
each-unpassed P test [] all = tt
each-unpassed P test (e ∷ es) all = cond_both (test e) (e ∷ filter test es) (filter test es) (λ xs. AllByRecursion P xs → (test e ≡ true → P e) × AllByRecursion (λ x. test x ≡ true → P x) es)
    (λ _ every. ((λ _. every.0), each-unpassed P test es every.1)) (λ out every. ((λ passed. absurd (cc)), each-unpassed P test es every)) all

Rising-rest : (test : Telling → Bool) (e : Telling) (es : List Telling) → Rising told_rank (filter test (e ∷ es)) → Rising told_rank (filter test es)
Rising-rest test e es rising = cond_both (test e) (e ∷ filter test es) (filter test es) (λ xs. Rising told_rank xs → Rising told_rank (filter test es)) (λ _ all. all.1) (λ _ all. all) rising

-- none behind it has its rank, where none of its class has
strictly : (test : Telling → Bool) (e : Telling) (es : List Telling) → AllByRecursion (λ y. comes_before (told_rank e) (told_rank y) ≡ true) es → test e ≡ true →
    ((y : Telling) → told_rank e ≡ told_rank y → test y ≡ true) → Rising told_rank (filter test (e ∷ es)) → AllByRecursion (λ y. comes_before (told_rank y) (told_rank e) ≡ false) es
strictly test e es order here alike rising =
    let L = λ (y : Telling). comes_before (told_rank y) (told_rank e) ≡ false in
    let B = λ (y : Telling). comes_before (told_rank e) (told_rank y) ≡ true in
    let all : Rising told_rank (e ∷ filter test es) = subst (λ b. Rising told_rank (cond b (e ∷ filter test es) (filter test es))) here rising in
    each-map (λ y. B y × (test y ≡ true → L y)) L
    (λ y both. ⊎_elim
    (λ alike_too. let same : told_rank e ≡ told_rank y = before-both (told_rank e) (told_rank y) both.0 alike_too in both.1 (alike y same))
    (λ later. later)
    (cases_Bool (comes_before (told_rank y) (told_rank e))))
    es (each-both B (λ y. test y ≡ true → L y) es order (each-unpassed L test es all.0))

same-end : (e y : Telling) → told_rank e ≡ told_rank y → is_end y.happening.told ≡ is_end e.happening.told
same-end e y alike =
    let both : e.happening.at ∷ e.happening.txn ∷ kind e.happening.told ∷ point_in e.happening.told ∷ [] ≡ y.happening.at ∷ y.happening.txn ∷ kind y.happening.told ∷ point_in y.happening.told ∷ [] =
    sym (rank-parts e.happening) ∙ alike ∙ rank-parts y.happening in
    let kinds : kind y.happening.told ≡ kind e.happening.told = cc in
    end-kind y.happening.told ∙ ap (λ k. nat_le 2 k && nat_le k 4) kinds ∙ sym (end-kind e.happening.told)

same-on : (e y : Telling) → is_end e.happening.told ≡ true → told_rank e ≡ told_rank y → is_on e.happening.txn (point_in e.happening.told) y ≡ true
same-on e y end alike =
    let both : e.happening.at ∷ e.happening.txn ∷ kind e.happening.told ∷ point_in e.happening.told ∷ [] ≡ y.happening.at ∷ y.happening.txn ∷ kind y.happening.told ∷ point_in y.happening.told ∷ [] =
    sym (rank-parts e.happening) ∙ alike ∙ rank-parts y.happening in
    let txns : y.happening.txn ≡ e.happening.txn = cc in
    let points : point_in y.happening.told ≡ point_in e.happening.told = cc in
    let ends_too : is_end y.happening.told ≡ true = same-end e y alike ∙ end in
    grind (arith, nat_tests)

pub strict : (es : List Telling) → Ordered told_rank es → ((txn point : ℕ) → Rising told_rank (filter (is_on txn point) es)) →
    Rising told_rank (filter (λ e. not (is_end e.happening.told)) es) → Rising told_rank es
strict [] order parts rest = tt
strict (e ∷ es) order parts rest = (
  ⊎_elim
      (λ end. strictly (is_on e.happening.txn (point_in e.happening.told)) e es order.0 (same-on e e end refl) (λ y alike. same-on e y end alike) (parts e.happening.txn (point_in e.happening.told)))
      (λ other. strictly (λ x. not (is_end x.happening.told)) e es order.0 (ap not other) (λ y alike. ap not (same-end e y alike ∙ other)) rest)
      (cases_Bool (is_end e.happening.told)),
  strict es order.1 (λ txn point. Rising-rest (is_on txn point) e es (parts txn point)) (Rising-rest (λ x. not (is_end x.happening.told)) e es rest),
)

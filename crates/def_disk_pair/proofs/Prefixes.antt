-- A front is determined by the bytes that begin with it.
use Rattle.std.proofs.Common.{◌≡◌, inl, inr, ℕ, ◌^◌, ◌<◌, ◌≤◌, nat_lt, Bool, true, false, cond, List, [], ◌∷◌, ◌++◌, length, get_or, drop, refl, sym, ap, subst, ◌∙◌, append_assoc, arith}
use Rattle.std.specs.Int.{w64}
use Rattle.std.proofs.lemmas.Bool.{lt-ltb}
use Rattle.std.proofs.lemmas.List.{drop_at, append_cancel_left}
use Rattle.def_bytes.specs.Fields.{number, number_text}
use Rattle.def_bytes.proofs.Exact.{one-spelling}
use Rattle.boss_model.specs.declared.state.Actuator.{Actuator}
use Rattle.boss_model.specs.State.{Persistent}
use Rattle.def_bytes.specs.States.{state}
use Rattle.def_bytes.proofs.Spelling.{word64}
use Rattle.def_bytes.proofs.OfStates.{state_spelled}
use Rattle.def_log.specs.Kinds.{plain_mark, state_mark}
use Rattle.def_seal.specs.Seals.{has_sums, sum_of}
use Rattle.def_seal.proofs.Seals.{length-seed_of, length-sum_of}
use Rattle.def_disk_pair.specs.Fronts.{heading, IsPlainFront, kept_size, kept_bytes, kept_state, kept_head, kept_seed, kept_front, IsStateFront, IsFront}

-- two fronts of the same bytes are one, and so is what follows them
pub record IsSame (version other : ℕ) (from next : Persistent) (before many : ℕ) (front ahead a b : List ℕ) : Type 0 where
  pub version_same : version ≡ other
  pub from_same : from ≡ next
  pub before_same : before ≡ many
  pub front_same : front ≡ ahead
  pub rest_same : a ≡ b

-- ---- headings

-- what a heading of a mark of seven bytes has at its places
record SameHeading (v w : ℕ) (f g : ℕ) (a b : List ℕ) : Type 0 where
  first : f ≡ g
  version : v ≡ w
  rest : a ≡ b

plain_heading : (f g v w : ℕ) (digest a b : List ℕ) → heading f plain_mark v digest ++ a ≡ heading g plain_mark w digest ++ b → SameHeading v w f g a b
plain_heading f g v w digest a b is = record {
  first = ap (λ l. get_or l 0 0) is;
  version = ap (λ l. get_or l 8 0) is;
  rest = append_cancel_left digest a b (ap (drop 9) is);
}

state_heading : (f g v w : ℕ) (digest a b : List ℕ) → heading f state_mark v digest ++ a ≡ heading g state_mark w digest ++ b → SameHeading v w f g a b
state_heading f g v w digest a b is = record {
  first = ap (λ l. get_or l 0 0) is;
  version = ap (λ l. get_or l 8 0) is;
  rest = append_cancel_left digest a b (ap (drop 9) is);
}

other_mark : (f g v w : ℕ) (digest a b : List ℕ) → heading f plain_mark v digest ++ a ≡ heading g state_mark w digest ++ b → ⊥
other_mark f g v w digest a b is = let no : 74 ≡ 83 = ap (λ l. get_or l 4 0) is in omega (arith, no)

-- ---- what follows the heading of a kept state

long_word : (n : ℕ) → length (number_text w64 n) ≡ 8
unfolding number_text
long_word n = refl

fits_word : (n : ℕ) → n < 2 ^ 64 → nat_lt n (2 ^ 64) ≡ true
fits_word n lt = lt-ltb _ _ lt

-- two numbers of 64 bits with what follows them
same_word : (m n : ℕ) (a b : List ℕ) → m < 2 ^ 64 → n < 2 ^ 64 → number_text w64 m ++ a ≡ number_text w64 n ++ b → (m ≡ n) × (a ≡ b)
same_word m n a b small few is = one-spelling (number w64) word64.exact m n a b (fits_word m small) (fits_word n few) is

-- past a number of 64 bits, whatever it is
past_word : (m n : ℕ) (a b : List ℕ) → number_text w64 m ++ a ≡ number_text w64 n ++ b → a ≡ b
past_word m n a b is = sym (drop_at (number_text w64 m) a 8 (long_word m)) ∙ ap (drop 8) is ∙ drop_at (number_text w64 n) b 8 (long_word n)

kept_apart : (v g e : ℕ) (seed text a : List ℕ) →
    kept_state v seed g e text ++ a ≡ number_text w64 g ++ (number_text w64 e ++ (number_text w64 (kept_size v text) ++ (kept_bytes v seed text ++ a)))
kept_apart v g e seed text a =
    append_assoc (number_text w64 g) (number_text w64 e ++ (number_text w64 (kept_size v text) ++ kept_bytes v seed text)) a
    ∙ ap (λ t. number_text w64 g ++ t) (append_assoc (number_text w64 e) (number_text w64 (kept_size v text) ++ kept_bytes v seed text) a)
    ∙ ap (λ t. number_text w64 g ++ (number_text w64 e ++ t)) (append_assoc (number_text w64 (kept_size v text)) (kept_bytes v seed text) a)

record SameKept (before many : ℕ) (x y : List ℕ) : Type 0 where
  counts : before ≡ many
  bytes : x ≡ y

same_kept : (v w g h e f : ℕ) (s t x y a b : List ℕ) → g < 2 ^ 64 → h < 2 ^ 64 → e ≤ 2 ^ 62 → f ≤ 2 ^ 62 →
    kept_state v s g e x ++ a ≡ kept_state w t h f y ++ b → (g ≡ h) × SameKept e f (kept_bytes v s x ++ a) (kept_bytes w t y ++ b)
same_kept v w g h e f s t x y a b gs hs es fs is =
    let all = sym (kept_apart v g e s x a) ∙ is ∙ kept_apart w h f t y b in
    let one = same_word g h _ _ gs hs all in
    let two = same_word e f _ _ (omega (arith, es)) (omega (arith, fs)) one.1 in
    (one.0, record { counts = two.0; bytes = past_word (kept_size v x) (kept_size w y) (kept_bytes v s x ++ a) (kept_bytes w t y ++ b) two.1 })

-- states of one version, by what stands for them
past_seed : (on : Bool) (s t x y m n a b : List ℕ) → length s ≡ 8 → length t ≡ 8 → cond on (s ++ (x ++ m)) x ++ a ≡ cond on (t ++ (y ++ n)) y ++ b →
    x ++ (cond on m [] ++ a) ≡ y ++ (cond on n [] ++ b)
past_seed true s t x y m n a b eight eight_too is =
    sym (append_assoc x m a) ∙ sym (drop_at s ((x ++ m) ++ a) 8 eight)
    ∙ ap (drop 8) (sym (append_assoc s (x ++ m) a) ∙ is ∙ append_assoc t (y ++ n) b) ∙ drop_at t ((y ++ n) ++ b) 8 eight_too ∙ append_assoc y n b
past_seed false s t x y m n a b eight eight_too is = is

past_sum : (on : Bool) (m n a b : List ℕ) → length m ≡ 8 → length n ≡ 8 → cond on m [] ++ a ≡ cond on n [] ++ b → a ≡ b
past_sum true m n a b eight eight_too is = sym (drop_at m a 8 eight) ∙ ap (drop 8) is ∙ drop_at n b 8 eight_too
past_sum false m n a b eight eight_too is = is

-- ---- fronts

module _ (plant : List Actuator) (digest : List ℕ) where
  same_plain : (v w : ℕ) (from next : Persistent) (before many : ℕ) (front ahead a b : List ℕ) →
      IsPlainFront digest v from before front → IsPlainFront digest w next many ahead → front ++ a ≡ ahead ++ b →
      IsSame v w from next before many front ahead a b
  same_plain v w from next before many front ahead a b p q is =
      let same = plain_heading p.first q.first v w digest a b (ap (λ t. t ++ a) (sym p.is) ∙ is ∙ ap (λ t. t ++ b) q.is) in
      record {
        version_same = same.version;
        from_same = p.first_state ∙ sym q.first_state;
        before_same = p.none_before ∙ sym q.none_before;
        front_same = p.is ∙ ap (λ f. heading f plain_mark v digest) same.first ∙ ap (λ x. heading q.first plain_mark x digest) same.version ∙ sym q.is;
        rest_same = same.rest;
      }

  same_state : (v w g h : ℕ) (from next : Persistent) (before many : ℕ) (front ahead a b : List ℕ) →
      IsStateFront plant digest v g from before front → IsStateFront plant digest w h next many ahead → front ++ a ≡ ahead ++ b →
      IsSame v w from next before many front ahead a b
  same_state v w g h from next before many front ahead a b p q is =
      let ours = (state v).text from in
      let theirs = (state w).text next in
      let mine = kept_seed v digest g before ours in
      let other = kept_seed w digest h many theirs in
      let apart : heading p.first state_mark v digest ++ (kept_state v mine g before ours ++ a) ≡ heading q.first state_mark w digest ++ (kept_state w other h many theirs ++ b) =
      sym (append_assoc (heading p.first state_mark v digest) (kept_state v mine g before ours) a) ∙ ap (λ t. t ++ a) (sym p.is) ∙ is
      ∙ ap (λ t. t ++ b) q.is ∙ append_assoc (heading q.first state_mark w digest) (kept_state w other h many theirs) b in
      let same = state_heading p.first q.first v w digest _ _ apart in
      let kept = same_kept v w g h before many mine other ours theirs a b p.counted q.counted p.few q.few same.rest in
      let next-fits : (state v).fits next ≡ true = subst (λ x. (state x).fits next ≡ true) (sym same.version) q.fits in
      let told : kept_bytes v mine ours ++ a ≡ kept_bytes v other ((state v).text next) ++ b =
      kept.1.bytes ∙ ap (λ x. kept_bytes x other ((state x).text next) ++ b) (sym same.version) in
      let sums : List ℕ → List ℕ → List ℕ = λ seed text. sum_of seed 65 text in
      let texts : ours ++ (cond (has_sums v) (sums mine ours) [] ++ a) ≡ (state v).text next ++ (cond (has_sums v) (sums other ((state v).text next)) [] ++ b) =
      past_seed (has_sums v) mine other ours ((state v).text next) (sums mine ours) (sums other ((state v).text next)) a b
      (length-seed_of (0 ∷ kept_head v digest g before (kept_size v ours))) (length-seed_of (0 ∷ kept_head w digest h many (kept_size w theirs))) told in
      let states = one-spelling (state v) (state_spelled v).exact from next _ _ p.fits next-fits texts in
      record {
        version_same = same.version;
        from_same = states.0;
        before_same = kept.1.counts;
        front_same = p.is ∙ ap (λ f. kept_front f v digest g before ours) same.first
            ∙ ap (λ x. kept_front q.first x digest g before ((state x).text from)) same.version
            ∙ ap (λ x. kept_front q.first w digest x before ((state w).text from)) kept.0
            ∙ ap (λ x. kept_front q.first w digest h x ((state w).text from)) kept.1.counts
            ∙ ap (λ d. kept_front q.first w digest h many ((state w).text d)) states.0 ∙ sym q.is;
        rest_same = past_sum (has_sums v) (sums mine ours) (sums other ((state v).text next)) a b (length-sum_of mine 65 ours) (length-sum_of other 65 ((state v).text next)) states.1;
      }

  apart : (v w g : ℕ) (from next : Persistent) (before many : ℕ) (front ahead a b : List ℕ) →
      IsPlainFront digest v from before front → IsStateFront plant digest w g next many ahead → front ++ a ≡ ahead ++ b → ⊥
  apart v w g from next before many front ahead a b p q is =
      let kept = kept_state w (kept_seed w digest g many ((state w).text next)) g many ((state w).text next) in
      other_mark p.first q.first v w digest a (kept ++ b)
      (ap (λ t. t ++ a) (sym p.is) ∙ is ∙ ap (λ t. t ++ b) q.is ∙ append_assoc (heading q.first state_mark w digest) kept b)

  pub same_front : (v w : ℕ) (from next : Persistent) (before many : ℕ) (front ahead a b : List ℕ) →
      IsFront plant digest v from before front → IsFront plant digest w next many ahead → front ++ a ≡ ahead ++ b →
      IsSame v w from next before many front ahead a b
  same_front v w from next before many front ahead a b (inl p) (inl q) is = same_plain v w from next before many front ahead a b p q is
  same_front v w from next before many front ahead a b (inl p) (inr q) is = absurd (apart v w q.0 from next before many front ahead a b p q.1 is)
  same_front v w from next before many front ahead a b (inr p) (inl q) is = absurd (apart w v p.0 next from many before ahead front b a q p.1 (sym is))
  same_front v w from next before many front ahead a b (inr p) (inr q) is = same_state v w p.0 q.0 from next before many front ahead a b p.1 q.1 is

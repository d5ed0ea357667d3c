-- Heaps of weights by place, as one weight goes up or down.
use Rattle.std.proofs.Common.{◌≡◌, ◌≢◌, ℕ, zero, suc, ◌+◌, ◌-◌, ◌*◌, ◌/◌, ◌^◌, ◌<◌, ◌≤◌, refl, ap, inl, inr, arith}
use Rattle.std.proofs.lemmas.Bool.{cases_eq}
use Rattle.boss_timers.specs.Heap.{IsHeap, IsHole, IsRising, IsSinking, doubled}

-- ---- up

pub hole-from_rising : (n : ℕ) (w : ℕ → ℕ) (at : ℕ) → IsRising n w at → IsHole n w at
hole-from_rising n w at rising = record {
  ordered = λ a b lo hi inside _ apart. rising.ordered a b lo hi inside apart;
  over = rising.over;
}

-- the weight at `at` has gone up to `above`, which is less than the one that stood there
pub hole-risen : (n : ℕ) (w w' : ℕ → ℕ) (at above : ℕ) → 2 * above < at → at ≤ 2 * above + 2 → at < n → IsHole n w at → w at < w above
    → w' above ≡ w at → w' at ≡ w above → ((k : ℕ) → k ≢ above → k ≢ at → w' k ≡ w k) → IsRising n w' above
hole-risen n w w' at above low high within hole less here there others = record {
  ordered = λ a b lo hi inside differs. elim (cases_eq a at) [
    | inl is ↦
        let b-above : b ≢ above = omega arith in
        let b-at : b ≢ at = omega arith in
        omega (arith, ap w' is, others b b-above b-at, hole.over above b low high (omega arith) (omega arith) inside)
    | inr a-at ↦ elim (cases_eq a above) [
      | inl is ↦ elim (cases_eq b at) [
        | inl is' ↦ omega (arith, ap w' is, ap w' is')
        | inr b-at ↦
            let above-at : above ≢ at = omega arith in
            let b-above : b ≢ above = omega arith in
            omega (arith, ap w' is, others b b-above b-at, hole.ordered above b (omega arith) (omega arith) inside above-at b-at)
      ]
      | inr a-above ↦
          let b-at : b ≢ at = omega arith in
          omega (arith, others a a-above a-at, others b differs b-at, hole.ordered a b lo hi inside a-at b-at)
    ]
  ];
  over = λ a b lo hi lo' hi' inside.
      let a-at : a ≢ at = omega arith in
      let a-above : a ≢ above = omega arith in
      let above-at : above ≢ at = omega arith in
      elim (cases_eq b at) [
        | inl is ↦ omega (arith, others a a-above a-at, ap w' is, hole.ordered a above lo hi (omega arith) a-at above-at)
        | inr b-at ↦
            let b-above : b ≢ above = omega arith in
            omega (arith, others a a-above a-at, others b b-above b-at, hole.ordered a above lo hi (omega arith) a-at above-at, hole.ordered above b lo' hi' inside above-at b-at)
      ];
}

-- ---- the top

root-under : (n : ℕ) (w : ℕ → ℕ) → IsHeap n w → (bound k : ℕ) → k ≤ bound → k < n → w 0 ≤ w k
root-under n w heap zero k most within = let is : k ≡ 0 = omega arith in omega (arith, ap w is)
root-under n w heap (suc bound) k most within =
    elim (cases_eq k 0) [
      | inl is ↦ omega (arith, ap w is)
      | inr some ↦
          let above : ℕ = (k - 1) / 2 in
          let low : 2 * above < k = omega arith in
          let high : k ≤ 2 * above + 2 = omega arith in
          omega (arith, heap.ordered above k low high within, root-under n w heap bound above (omega arith) (omega arith))
    ]

-- no weight of a heap is less than the one at its top
pub root-least : (n : ℕ) (w : ℕ → ℕ) → IsHeap n w → (k : ℕ) → k < n → w 0 ≤ w k
root-least n w heap k within = root-under n w heap k k (omega arith) within

-- ---- one weight changes

-- a heap with another weight at one place, and perhaps fewer places
pub hole-from_heap : (n n' : ℕ) (w w' : ℕ → ℕ) (at : ℕ) → n' ≤ n → ((k : ℕ) → k < n' → k ≢ at → w' k ≡ w k) → at < n' → IsHeap n w → IsHole n' w' at
hole-from_heap n n' w w' at fewer others within heap = record {
  ordered = λ a b lo hi inside a-at b-at. omega (arith, others a (omega arith) a-at, others b inside b-at, heap.ordered a b lo hi (omega arith));
  over = λ a b lo hi lo' hi' inside.
      let a-at : a ≢ at = omega arith in
      let b-at : b ≢ at = omega arith in
      omega (arith, others a (omega arith) a-at, others b inside b-at, heap.ordered a at lo hi (omega arith), heap.ordered at b lo' hi' (omega arith));
}

-- and one with another weight at its end
pub rising-from_heap : (n : ℕ) (w w' : ℕ → ℕ) → ((k : ℕ) → k < n → w' k ≡ w k) → IsHeap n w → IsRising (n + 1) w' n
rising-from_heap n w w' others heap = record {
  ordered = λ a b lo hi inside differs. omega (arith, others a (omega arith), others b (omega arith), heap.ordered a b lo hi (omega arith));
  over = λ a b lo hi lo' hi' inside. absurd (omega arith);
}

pub heap-fewer : (n n' : ℕ) (w w' : ℕ → ℕ) → n' ≤ n → ((k : ℕ) → k < n' → w' k ≡ w k) → IsHeap n w → IsHeap n' w'
heap-fewer n n' w w' fewer same heap = record {
  ordered = λ a b lo hi inside. omega (arith, same a (omega arith), same b inside, heap.ordered a b lo hi (omega arith));
}

-- ---- how high a heap is

-- a place below a power of two stands under one below half of it
pub halves : (at d : ℕ) → 0 < at → at < 2 ^ d → (e : ℕ) × (d ≡ suc e) × ((at - 1) / 2 < 2 ^ e)
halves at zero some within = absurd (omega arith)
halves at (suc e) some within = let power : 2 ^ suc e ≡ 2 * 2 ^ e = omega arith in (e, refl, omega arith)

doubled-double : (n d : ℕ) → doubled (n + n) d ≡ doubled n d + doubled n d
doubled-double n zero = refl
doubled-double n (suc d) = doubled-double (n + n) d

doubled-one : (d : ℕ) → doubled 1 d ≡ 2 ^ d
doubled-one zero = refl
doubled-one (suc d) = let power : 2 ^ suc d ≡ 2 * 2 ^ d = omega arith in omega (arith, doubled-double 1 d, doubled-one d)

pub doubled-more : (m n d : ℕ) → m ≤ n → doubled m d ≤ doubled n d
doubled-more m n zero more = more
doubled-more m n (suc d) more = doubled-more (m + m) (n + n) d (omega arith)

pub power-doubled : (n d : ℕ) → 2 ^ d ≤ doubled (n + 1) d
power-doubled n d = omega (arith, doubled-one d, doubled-more 1 (n + 1) d (omega arith))

-- ---- how many comparisons

pub rise-cost : (at before counted after : ℕ) → 0 < at → counted ≡ before + 1 → ((d : ℕ) → (at - 1) / 2 < 2 ^ d → after ≤ counted + d) → (d : ℕ) → at < 2 ^ d → after ≤ before + d
rise-cost at before counted after some one above d small =
    let half = halves at d some small in
    omega (arith, above half.0 half.2, half.1)

pub sink-cost : (n n' at least before chosen counted after : ℕ) → n' ≡ n → 2 * at < least → 2 * at + 1 < n → chosen ≤ before + 1 → counted ≡ chosen + 1
    → ((e : ℕ) → n' < doubled (least + 1) (suc e) → after ≤ counted + 2 * e) → (e : ℕ) → n < doubled (at + 1) (suc e) → after ≤ before + 2 * e
sink-cost n n' at least before chosen counted after same low more one two below zero small = absurd (omega arith)
sink-cost n n' at least before chosen counted after same low more one two below (suc e) small =
    omega (arith, below e (omega (arith, doubled-more (at + 1 + (at + 1)) (least + 1) (suc e) (omega arith))))

pub mend-cost-down : (n at before counted after : ℕ) → at < n → counted ≤ before + 1 → ((e : ℕ) → n < doubled (at + 1) (suc e) → after ≤ counted + 2 * e) → (d : ℕ) → n < 2 ^ d → after ≤ before + 2 * d
mend-cost-down n at before counted after within one below zero small = absurd (omega arith)
mend-cost-down n at before counted after within one below (suc e) small = omega (arith, below e (omega (arith, power-doubled at (suc e))))

pub mend-cost-up : (n at before counted after : ℕ) → 0 < at → at < n → counted ≡ before + 1 → ((d : ℕ) → (at - 1) / 2 < 2 ^ d → after ≤ counted + d) → (d : ℕ) → n < 2 ^ d → after ≤ before + 2 * d
mend-cost-up n at before counted after some within one above d small = omega (arith, rise-cost at before counted after some one above d (omega arith))

-- ---- down

-- the weight at `at` has gone down to `least`, where the lesser of the two below it stood, which is less
pub sinking-sunk : (n : ℕ) (w w' : ℕ → ℕ) (at least : ℕ) → 2 * at < least → least ≤ 2 * at + 2 → least < n → IsSinking n w at → w least < w at
    → ((below : ℕ) → 2 * at < below → below ≤ 2 * at + 2 → below < n → w least ≤ w below)
    → w' at ≡ w least → w' least ≡ w at → ((k : ℕ) → k ≢ at → k ≢ least → w' k ≡ w k) → IsSinking n w' least
sinking-sunk n w w' at least low high within sinking less both here there others = record {
  ordered = λ a b lo hi inside differs. elim (cases_eq a at) [
    | inl is ↦ elim (cases_eq b least) [
      | inl is' ↦ omega (arith, ap w' is, ap w' is')
      | inr b-least ↦
          let b-at : b ≢ at = omega arith in
          omega (arith, ap w' is, others b b-at b-least, both b (omega arith) (omega arith) inside)
    ]
    | inr a-at ↦
        let b-least : b ≢ least = omega arith in
        elim (cases_eq b at) [
          | inl is' ↦ omega (arith, ap w' is', others a a-at differs, sinking.over a least (omega arith) (omega arith) low high within)
          | inr b-at ↦ omega (arith, others a a-at differs, others b b-at b-least, sinking.ordered a b lo hi inside a-at)
        ]
  ];
  over = λ a b lo hi lo' hi' inside.
      let is : a ≡ at = omega arith in
      let b-at : b ≢ at = omega arith in
      let b-least : b ≢ least = omega arith in
      let least-at : least ≢ at = omega arith in
      omega (arith, ap w' is, others b b-at b-least, sinking.ordered least b lo' hi' inside least-at);
}

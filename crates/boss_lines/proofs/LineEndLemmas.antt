use Rattle.std.proofs.Common.{◌≡◌, ℕ, ◌+◌, ◌-◌, ◌≤◌, ◌<◌, List, take, drop, slice_index, ◌∙◌, ap, inl, inr, eq-eqb, arith}
use Rattle.std.proofs.lemmas.Bool.{cases_lt}
use Rattle.std.proofs.lemmas.List.{get_or-take, get_or-drop}
use Rattle.memchr.specs.Find.{Passes, Nowhere, is_byte}
use Rattle.boss_lines.specs.Window.{NoLineEnd}

-- a place of what stands behind the first bytes
pub slice_index-take-drop : (bytes : List ℕ) (passed count k : ℕ) → k < count → slice_index (take count (drop passed bytes)) k ≡ slice_index bytes (passed + k)
slice_index-take-drop bytes passed count k low = get_or-take count (drop passed bytes) k 0 low ∙ get_or-drop passed bytes k 0

-- no line ends in what was passed over, nor in what was searched behind it
pub NoLineEnd-add : (bytes : List ℕ) (passed size count all : ℕ) → NoLineEnd passed bytes
    → Nowhere (Passes (is_byte 10) (take size (drop passed bytes))) 0 count → count ≤ size → all ≤ passed + count → NoLineEnd all bytes
NoLineEnd-add bytes passed size count all before none within reached k low is =
    elim (cases_lt k passed) [
      | inl early ↦ before k early is
      | inr late ↦
          let j = k - passed in
          let here : passed + j ≡ k = omega arith in
          let same : slice_index (take size (drop passed bytes)) j ≡ 10 =
          slice_index-take-drop bytes passed size j (omega arith) ∙ ap (slice_index bytes) here ∙ is in
          none j (omega arith) (omega arith) (eq-eqb _ 10 same)
    ]

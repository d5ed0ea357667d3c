-- What the first bytes behind a gate tell.
use Rattle.std.proofs.Common.{◌≡◌, ℕ, ◌+◌, ◌^◌, ◌<◌, ◌≤◌, ◌⊎◌, inl, inr, ⊎_elim, List, [], ◌∷◌, ◌++◌, length, take, drop, get_or, refl, sym, ap, ◌∙◌, append_assoc, length-append, arith}
use Rattle.std.specs.Int.{w32, from_be_bytes, to_be_bytes}
use Rattle.std.proofs.lemmas.List.{take_at, drop_at, take-take, take-append-drop}
use Rattle.std.proofs.lemmas.Nat.{from_be_bytes-to_be_bytes_4}
use Rattle.boss_model.specs.Limits.{longest_record}
use Rattle.def_log.specs.Log.{framed}
use Rattle.boss_journal.specs.Headings.{IsBroken}
use Rattle.boss_journal.proofs.Frames.{length-framed}

-- the gate is 1
pub open_gate : (head bytes : List ℕ) → head ≡ take 5 bytes → get_or head 0 0 ≡ 1 → (tail : List ℕ) × (bytes ≡ 1 ∷ tail)
open_gate head [] is one = let none : get_or head 0 0 ≡ 0 = ap (λ l. get_or l 0 0) is in absurd (omega arith)
open_gate head (x ∷ bytes) is one =
    let first : get_or head 0 0 ≡ x = ap (λ l. get_or l 0 0) is in
    (bytes, ap (λ g. g ∷ bytes) (sym first ∙ one))

-- a frame and a gate have five bytes at least
pub too_short : (tail : List ℕ) → length tail < 5 → IsBroken tail
too_short tail few r gate more short is =
    let whole : length tail ≡ length (framed r ++ gate ∷ more) = ap length is in
    omega (arith, length-append (framed r) (gate ∷ more), length-framed r)

pub short_heading : (head bytes : List ℕ) → head ≡ take 5 bytes → get_or head 0 0 ≡ 1 → length bytes < 5
    → (tail : List ℕ) × (bytes ≡ 1 ∷ tail) × IsBroken tail
short_heading head bytes is one few =
    let gate = open_gate head bytes is one in
    let size : length bytes ≡ length (1 ∷ gate.0) = ap length gate.1 in
    (gate.0, gate.1, too_short gate.0 (omega arith))

-- the length, and what stands behind it
pub with_size : (head bytes tail : List ℕ) (size : ℕ) → head ≡ take 5 bytes → bytes ≡ 1 ∷ tail → to_be_bytes w32 size ≡ take 4 (drop 1 head)
    → tail ≡ to_be_bytes w32 size ++ drop 4 tail
with_size head bytes tail size is gate spelt =
    let four : to_be_bytes w32 size ≡ take 4 tail =
    spelt ∙ ap (λ l. take 4 (drop 1 l)) (is ∙ ap (take 5) gate) ∙ take-take 4 4 tail (omega arith) in
    sym (take-append-drop 4 tail) ∙ ap (λ l. l ++ drop 4 tail) (sym four)

-- a length that is too great, or greater than what stands behind it
pub no_record : (tail more : List ℕ) (size : ℕ) → tail ≡ to_be_bytes w32 size ++ more → size < 2 ^ 32
    → (longest_record < size) ⊎ (length more ≤ size) → IsBroken tail
unfolding framed
no_record tail more size parts fits side r gate rest short is =
    let same : to_be_bytes w32 size ++ more ≡ to_be_bytes w32 (length r) ++ (r ++ gate ∷ rest) =
    sym parts ∙ is ∙ append_assoc (to_be_bytes w32 (length r)) r (gate ∷ rest) in
    let fronts : to_be_bytes w32 size ≡ to_be_bytes w32 (length r) =
    sym (take_at (to_be_bytes w32 size) more 4 refl) ∙ ap (take 4) same ∙ take_at (to_be_bytes w32 (length r)) (r ++ gate ∷ rest) 4 refl in
    let backs : more ≡ r ++ gate ∷ rest =
    sym (drop_at (to_be_bytes w32 size) more 4 refl) ∙ ap (drop 4) same ∙ drop_at (to_be_bytes w32 (length r)) (r ++ gate ∷ rest) 4 refl in
    let many : size ≡ length r =
    sym (from_be_bytes-to_be_bytes_4 size fits) ∙ ap (from_be_bytes w32) fronts ∙ from_be_bytes-to_be_bytes_4 (length r) (omega arith) in
    let long : length more ≡ length r + length (gate ∷ rest) = ap length backs ∙ length-append r (gate ∷ rest) in
    ⊎_elim (λ above. omega arith) (λ few. omega arith) side

pub sized_heading : (head bytes : List ℕ) (size : ℕ) → head ≡ take 5 bytes → get_or head 0 0 ≡ 1 → to_be_bytes w32 size ≡ take 4 (drop 1 head)
    → size < 2 ^ 32 → (longest_record < size) ⊎ (length bytes ≤ size + 5) → 5 ≤ length head → (tail : List ℕ) × (bytes ≡ 1 ∷ tail) × IsBroken tail
sized_heading head bytes size is one spelt fits side many =
    let gate = open_gate head bytes is one in
    let parts = with_size head bytes gate.0 size is gate.1 spelt in
    let all : length bytes ≡ length (1 ∷ gate.0) = ap length gate.1 in
    let four : length (to_be_bytes w32 size) ≡ 4 = refl in
    let long : length gate.0 ≡ length (to_be_bytes w32 size) + length (drop 4 gate.0) =
    ap length parts ∙ length-append (to_be_bytes w32 size) (drop 4 gate.0) in
    let other : (longest_record < size) ⊎ (length (drop 4 gate.0) ≤ size) =
    ⊎_elim (λ above. inl above) (λ few. inr (omega arith)) side in
    (gate.0, gate.1, no_record gate.0 (drop 4 gate.0) size parts fits other)

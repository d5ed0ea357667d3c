-- So many bytes are read at once, and not one by one.
use Rattle.std.proofs.Common.{◌≡◌, ℕ, zero, suc, ◌<◌, ◌≤◌, List, [], ◌∷◌, length, take, drop, Some, None, refl, ap, arith}
use Rattle.def_bytes.specs.Fields.{◌>>=◌, byte, next_items, items_at}

pub some_bytes : (n : ℕ) (bytes : List ℕ) → n ≤ length bytes → items_at byte n bytes ≡ Some (take n bytes, drop n bytes)
some_bytes zero bytes enough = refl
some_bytes (suc n) [] enough = absurd (omega (arith, enough))
some_bytes (suc n) (b ∷ bytes) enough = ap (λ found. found >>= next_items b) (some_bytes n bytes (omega (arith, enough)))

pub too_few : (n : ℕ) (bytes : List ℕ) → length bytes < n → items_at byte n bytes ≡ None
too_few zero bytes few = absurd (omega (arith, few))
too_few (suc n) [] few = refl
too_few (suc n) (b ∷ bytes) few = ap (λ found. found >>= next_items b) (too_few n bytes (omega (arith, few)))

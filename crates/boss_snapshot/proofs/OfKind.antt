-- The first bytes tell the kind of all.
use Rattle.std.proofs.Common.{◌≡◌, ℕ, ◌<◌, Bool, true, false, cond, List, length, take, drop, get_or, refl, ap, ◌∙◌, arith}
use Rattle.std.specs.Prelude.{bytes_eq, nat_le}
use Rattle.std.proofs.lemmas.Bool.Decides.{nat_tests}
use Rattle.std.proofs.lemmas.Slice.Eq.{bytes_eq-Decides}
use Rattle.std.proofs.lemmas.List.{take-take, drop-take, get_or-take, length-take, length-drop}
use Rattle.sha2.specs.Sha256.{sha256}
use Rattle.def_seal.specs.Seals.{seed_of}
use Rattle.def_seal.proofs.Seals.{length-seed_of}
use Rattle.def_log.specs.Kinds.{kind_of}
use Rattle.boss_snapshot.specs.Firsts.{kind_by}

-- a seed is that of the first bytes
seed_within : (bytes : List ℕ) → seed_of (take 73 bytes) ≡ seed_of bytes
unfolding seed_of
seed_within bytes = ap (λ l. take 8 (sha256 l)) (ap (take 64) (drop-take 1 72 bytes) ∙ take-take 64 72 (drop 1 bytes) (omega arith))

-- bytes that are tested where there are sums
pub if_on : (on test : Bool) → on ≡ true → test ≡ cond on test true
if_on true test is = refl
if_on false test is = absurd cc

off : (test : Bool) → (test ≡ true → ⊥) → test ≡ false
off true never = absurd (never refl)
off false never = refl

pub not_same : (a b : List ℕ) → (length a ≡ length b → ⊥) → bytes_eq a b ≡ false
not_same a b never = off (bytes_eq a b) (λ is. never (ap length ((bytes_eq-Decides a b).0 is)))

pub too_few : (n : ℕ) → n < 73 → nat_le 73 n ≡ false
too_few n few = grind (arith, nat_tests, few)

-- a disk that ends before the end of a seed
pub short_seed : (bytes : List ℕ) → length bytes < 73 → length (take 8 (drop 65 bytes)) ≡ length (seed_of bytes) → ⊥
short_seed bytes few is =
    let eight = length-seed_of bytes in
    omega (arith, few, is, eight, length-take 8 (drop 65 bytes), length-drop 65 bytes)

pub kind_of_all : (bytes : List ℕ) → kind_by (length bytes) (take 73 bytes) ≡ kind_of bytes
kind_of_all bytes =
    let zeroth : get_or (take 73 bytes) 0 0 ≡ get_or bytes 0 0 = get_or-take 73 bytes 0 0 (omega arith) in
    let mark : take 7 (drop 1 (take 73 bytes)) ≡ take 7 (drop 1 bytes) = ap (take 7) (drop-take 1 72 bytes) ∙ take-take 7 72 (drop 1 bytes) (omega arith) in
    let last : take 8 (drop 41 (take 73 bytes)) ≡ take 8 (drop 41 bytes) = ap (take 8) (drop-take 41 32 bytes) ∙ take-take 8 32 (drop 41 bytes) (omega arith) in
    let version : get_or (take 73 bytes) 8 0 ≡ get_or bytes 8 0 = get_or-take 73 bytes 8 0 (omega arith) in
    let seed : take 8 (drop 65 (take 73 bytes)) ≡ take 8 (drop 65 bytes) = ap (take 8) (drop-take 65 8 bytes) ∙ take-take 8 8 (drop 65 bytes) (omega arith) in
    rw (zeroth, mark, last, version, seed, seed_within bytes) refl

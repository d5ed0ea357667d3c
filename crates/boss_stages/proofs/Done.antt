-- The last ones that became done, and which one makes room for one more.
use Rattle.std.proofs.Common.{◌≡◌, ℕ, ◌-◌, ◌<◌, ◌≤◌, List, [], ◌∷◌, ◌++◌, length, take, length-append, Option, Some, None, cond, refl, ap, ⊎_elim, arith}
use Rattle.std.specs.Prelude.{slice_get, nat_lt}
use Rattle.std.proofs.lemmas.Bool.{cases_lt}
use Rattle.std.proofs.lemmas.Grind.{common_steps}
use Rattle.boss_model.specs.Limits.{done_kept}
use Rattle.boss_stages.specs.Stages.{Tracked, dropped, without}

first_one : (numbers : List ℕ) (oldest : ℕ) → slice_get numbers 0 ≡ Some oldest → take 1 numbers ≡ oldest ∷ []
first_one [] oldest is = absurd (grind arith)
first_one (x ∷ xs) oldest is = grind (arith, common_steps)

-- where all places are taken, the oldest one is dropped
pub dropped-full : (done : List ℕ) (txn oldest : ℕ) → length done ≡ done_kept → slice_get (done ++ txn ∷ []) 0 ≡ Some oldest → dropped (done ++ txn ∷ []) ≡ oldest ∷ []
dropped-full done txn oldest full is =
    let one : length (done ++ txn ∷ []) - done_kept ≡ 1 = omega (arith, length-append done (txn ∷ [])) in
    rw one (first_one (done ++ txn ∷ []) oldest is)

-- else none is
pub dropped-room : (done : List ℕ) (txn : ℕ) → length done < done_kept → dropped (done ++ txn ∷ []) ≡ []
dropped-room done txn room =
    let none : length (done ++ txn ∷ []) - done_kept ≡ 0 = omega (arith, length-append done (txn ∷ [])) in
    rw none refl

pub without-none : (all : List Tracked) → without [] all ≡ all
without-none [] = refl
without-none (kept ∷ all) = ap (λ rest. kept ∷ rest) (without-none all)

-- what a push hands back: the oldest one where all places are taken, else nothing
pub handed_back : (done : List ℕ) (room txn oldest : ℕ) (given : Option ℕ) → given ≡ cond (nat_lt (length done) room) None (slice_get (done ++ txn ∷ []) 0) → given ≡ Some oldest
    → (room ≤ length done) × (slice_get (done ++ txn ∷ []) 0 ≡ Some oldest)
handed_back done room txn oldest given is some =
    ⊎_elim (λ less. absurd (grind (arith, common_steps))) (λ full. grind (arith, common_steps)) (cases_lt (length done) room)

not_empty : (done : List ℕ) (txn : ℕ) → slice_get (done ++ txn ∷ []) 0 ≡ None → ⊥
not_empty [] txn none = grind arith
not_empty (x ∷ xs) txn none = grind arith

pub nothing_back : (done : List ℕ) (room txn : ℕ) (given : Option ℕ) → given ≡ cond (nat_lt (length done) room) None (slice_get (done ++ txn ∷ []) 0) → given ≡ None → length done < room
nothing_back done room txn given is none =
    ⊎_elim (λ less. less) (λ full. absurd (not_empty done txn (grind (arith, common_steps)))) (cases_lt (length done) room)

-- Notices that are numbered one by one, and what stays so.
use Rattle.std.proofs.Common.{◌≡◌, ℕ, suc, zero, ◌+◌, List, [], ◌∷◌, ◌++◌, length, drop, subst, arith}
use Rattle.boss_model.specs.declared.notice.Notice.{Notice}
use Rattle.boss_model.specs.Sound.{NumberedFrom}

-- one more, with the next number
pub NumberedFrom-append : (number : ℕ) (notices : List Notice) (new : Notice) → NumberedFrom number notices → new.number ≡ number + length notices → NumberedFrom number (notices ++ new ∷ [])
NumberedFrom-append number [] new numbered next = (omega arith, tt)
NumberedFrom-append number (notice ∷ notices) new numbered next =
    (numbered.0, NumberedFrom-append (number + 1) notices new numbered.1 (omega arith))

-- without the first ones
pub NumberedFrom-drop : (number count : ℕ) (notices : List Notice) → NumberedFrom number notices → NumberedFrom (number + count) (drop count notices)
NumberedFrom-drop number zero notices numbered =
    let P : ℕ → Type 0 = λ n. NumberedFrom n notices in
    subst P (omega arith) numbered
NumberedFrom-drop number (suc count) [] numbered = tt
NumberedFrom-drop number (suc count) (notice ∷ notices) numbered =
    let P : ℕ → Type 0 = λ n. NumberedFrom n (drop count notices) in
    subst P (omega arith) (NumberedFrom-drop (number + 1) count notices numbered.1)

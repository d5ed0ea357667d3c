-- Points that are not the first are told without drivers.
use Rattle.std.proofs.Common.{◌≡◌, ℕ, List, [], ◌++◌, codes, sym, subst, append-nil}
use Rattle.boss_model.specs.Held.{Held}
use Rattle.boss_answers.specs.Room.{PutsAtMost}

abbrev before : List ℕ
before = codes "{\"ok\":\"points\",\"digest\":"

pub without_drivers : (most : ℕ) (old new : Held) (digest drivers list : List ℕ) → drivers ≡ [] → PutsAtMost most old new (before ++ digest ++ list)
    → PutsAtMost most old new (before ++ digest ++ drivers ++ list)
without_drivers most old new digest drivers list none put =
    subst (λ text. PutsAtMost most old new (before ++ digest ++ text ++ list)) (sym none)
    (subst (λ front. PutsAtMost most old new (front ++ list)) (sym (append-nil (before ++ digest))) put)

-- Processes as plain lists, one after another.
use Rattle.std.proofs.Common.{◌≡◌, ℕ, zero, suc, ◌+◌, ◌<◌, List, [], ◌∷◌, ◌++◌, length, map, take, refl, ap, sym, ◌∙◌, arith}
use Rattle.std.proofs.lemmas.List.{map-append}
use Rattle.boss_model.specs.declared.kept.KeptProcess.{KeptProcess}
use Rattle.boss_model.specs.Seen.{seen_process}
use Rattle.boss_model.specs.State.{Process}
use Rattle.boss_persistent.specs.Processes.{process_at}

take-at : (ps : List Process) (i : ℕ) → i < length ps → take (i + 1) ps ≡ take i ps ++ process_at ps i ∷ []
take-at [] i within = absurd (omega arith)
take-at (p ∷ ps) zero within = refl
take-at (p ∷ ps) (suc i) within = let next : suc i + 1 ≡ suc (i + 1) = omega arith in ap (λ n. take n (p ∷ ps)) next ∙ ap (λ zs. p ∷ zs) (take-at ps i (omega arith))

-- one process more is kept
pub next-kept : (ks : List KeptProcess) (k : KeptProcess) (ps : List Process) (i : ℕ) → map seen_process ks ≡ take i ps → i < length ps → seen_process k ≡ process_at ps i →
    map seen_process (ks ++ k ∷ []) ≡ take (i + 1) ps
next-kept ks k ps i before within here = map-append seen_process ks (k ∷ []) ∙ (λ j. before j ++ here j ∷ []) ∙ sym (take-at ps i within)

-- how many were put back so far
pub so-many : (ks : List KeptProcess) (i : ℕ) → i < length ks → length (map seen_process (take i ks)) ≡ i
so-many [] i within = absurd (omega arith)
so-many (k ∷ ks) zero within = refl
so-many (k ∷ ks) (suc i) within = ap suc (so-many ks i (omega arith))

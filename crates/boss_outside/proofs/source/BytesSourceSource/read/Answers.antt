use Rattle.std.proofs.Common.{◌≡◌, ◌≤◌, ◌+◌, ℕ, List, length, take, drop, ◌++◌, sym, ◌∙◌, ap, subst, arith}
use Rattle.std.proofs.Math.Seq.{take-append_seam}
use Rattle.std.proofs.lemmas.List.{drop-drop, take-append-drop, length-take-le}
use Rattle.boss_outside.proofs.source.BytesSourceSource.read.Goals as goal

-- what a read puts at the front of the room, and what it leaves, is what was left before
drop-cut : (n taken : ℕ) (held left given rest : List ℕ) → left ≡ drop taken held → n ≤ length left → given ≡ take n left
    → drop taken held ≡ take n (given ++ rest) ++ drop (taken + n) held
drop-cut n taken held left given rest is fits front =
    let size : length given ≡ n = ap length front ∙ length-take-le n left fits in
    let put : take n (given ++ rest) ≡ given = subst (λ (k : ℕ). take k (given ++ rest) ≡ given) size (take-append_seam given rest) in
    let behind : drop (taken + n) held ≡ drop n left = sym (drop-drop n taken held) ∙ ap (drop n) (sym is) in
    rw (put, behind, front, take-append-drop n left) (sym is)

pub returns-clause-bytes : goal.returns-clause-bytes
returns-clause-bytes c =
    rw (← c.self.view_is)
    (drop-cut c.min-count.result c.self.inside.given c.self.inside.contents _ _ _ c.left-left.ensures.value (omega arith) c.copy_from_slice.ensures.after)

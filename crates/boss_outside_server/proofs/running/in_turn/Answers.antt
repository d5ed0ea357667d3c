use Rattle.std.proofs.Common.{◌≡◌, [], ◌∙◌, ap, length, append-nil, length-drop, arith}
use Rattle.std.proofs.lemmas.List.{nil_from_length}
use Rattle.boss_outside_server.proofs.running.in_turn.Goals as goal

pub returns : goal.returns
returns g c =
    let size = simp length-drop at (ap length (c.in_default.ensures.items ∙ c.in_default.ensures.rest)) in
    let none : c.loop-next.waiting.items ≡ [] = nil_from_length _ (omega arith) in
    let all = rw none at c.loop-next.invariant.0 in
    rw append-nil at (all [] tt)

use Rattle.std.proofs.Common.{◌++◌, ◌∙◌, ap, subst, append_assoc}
use Rattle.std.specs.Int.{w64, to_be_bytes}
use Rattle.sha2.specs.Hashers.{Holds256}
use Rattle.boss_seal.proofs.summing.Summing.take.Goals as goal

pub returns : goal.returns
returns c seed place taken held =
    let bytes = to_be_bytes w64 place in
    subst (Holds256 c.update.new.self)
    (append_assoc seed (bytes ++ taken) c.args.piece.now ∙ ap (λ t. seed ++ t) (append_assoc bytes taken c.args.piece.now))
    (c.update.ensures (seed ++ (bytes ++ taken)) held)

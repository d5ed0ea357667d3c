use Rattle.std.proofs.Common.{[], ◌++◌, sym, ◌∙◌, subst, append-nil}
use Rattle.std.specs.Int.{w64, to_be_bytes}
use Rattle.sha2.specs.Hashers.{Holds256}
use Rattle.boss_seal.proofs.summing.Summing.begin.Goals as goal

pub returns : goal.returns
returns c =
    subst (λ m. Holds256 c.update-2.new.self (c.args.seed.now ++ m)) (c.to_be_bytes.ensures ∙ sym (append-nil (to_be_bytes w64 c.args.place)))
    (c.update-2.ensures c.args.seed.now (c.update.ensures [] c.new-hasher.ensures))

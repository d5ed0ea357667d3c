use Rattle.std.proofs.Common.{[], ◌∷◌, ◌++◌, subst, append_assoc}
use Rattle.sha2.specs.Hashers.{Holds256}
use Rattle.boss_seal.proofs.seeds.front_hasher.Goals as goal

pub returns : goal.returns
returns c =
    subst (Holds256 c.update-3.new.self) (append_assoc c.args.mark.now (c.args.version ∷ []) c.args.digest.now)
    (c.update-3.ensures (c.args.mark.now ++ c.args.version ∷ []) (c.update-2.ensures c.args.mark.now (c.update.ensures [] c.new-hasher.ensures)))

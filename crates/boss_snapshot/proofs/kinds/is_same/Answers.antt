use Rattle.std.proofs.Common.{◌≡◌, sym, subst, IsTrue}
use Rattle.std.proofs.lemmas.Slice.Eq.{bytes_eq-Decides}
use Rattle.boss_snapshot.proofs.kinds.is_same.Goals as goal

pub returns : goal.returns
returns c = subst (λ b. (IsTrue b → c.args.some.now ≡ c.args.other.now) × (c.args.some.now ≡ c.args.other.now → IsTrue b)) (sym c.eq.ensures) (bytes_eq-Decides c.args.some.now c.args.other.now)

use Rattle.std.proofs.Common.{ℕ, ◌<◌, subst}
use Rattle.std.proofs.lemmas.Option.{IfSome_then}
use Rattle.boss_holdings.proofs.Counted.{touched-within}
use Rattle.boss_holdings.proofs.holdings.Holdings.take_touched.Goals as goal

pub returns-clause-within : goal.returns-clause-within
returns-clause-within c = rw (← c.self.view_is) (IfSome_then c.take_first.result c.take_first.ensures.first (λ point first. subst (λ (n : ℕ). point < n) c.self.invariant.flags (touched-within c.self.inside.touched point first.is)))

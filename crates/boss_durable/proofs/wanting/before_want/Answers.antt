use Rattle.std.proofs.Common.{◌≡◌, ℕ, suc, ◌+◌, take, sym, ◌∙◌, subst, arith}
use Rattle.boss_durable.specs.Begun.{WantNone}
use Rattle.boss_durable.proofs.Takings.{growing_at, none_more}
use Rattle.boss_durable.proofs.wanting.before_want.Goals as goal

pub returns-then-may_want-clause-wants : goal.returns-then-may_want-clause-wants
returns-then-may_want-clause-wants c less =
    growing_at c.args.commands.now c.loop-place.place c.index-commands-place.result less c.index-commands-place.is (c.may_want.ensures.grows c.if-may_want.true)

pub loop-place-preserved : goal.loop-place-preserved
loop-place-preserved c =
    let next : suc c.loop-place.place ≡ c.loop-place.place + 1 = omega arith in
    subst (λ (n : ℕ). WantNone c.args.engine.now.state (take n c.args.commands.now)) next
    (none_more c.args.engine.now.state c.args.commands.now c.loop-place.place c.index-commands-place.result c.loop-place-test.true c.index-commands-place.is
    (sym c.may_want.ensures.is ∙ c.if-may_want.false) c.loop-place.invariant)

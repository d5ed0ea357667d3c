use Rattle.std.proofs.Common.{◌≡◌, ◌≤◌, ap, ◌∙◌, arith}
use Rattle.boss_server.proofs.ShareLemmas.{shares_before, shares-all}
use Rattle.boss_outside_server.specs.declared.waited.Waited.{Waited}
use Rattle.boss_server.proofs.making.make_connections.Goals as goal

pub returns-clause-share : goal.returns-clause-share
returns-clause-share g c =
    let all : c.loop-number.number ≡ c.args.server.now.workers = omega (arith, c.loop-number-test.false, c.loop-number.auto.number-end) in
    c.loop-number.invariant.shares ∙ ap (shares_before c.args.connections c.args.server.now.workers) all ∙ shares-all c.args.connections c.args.server.now.workers c.requires.some

-- each worker so far left the waiter as it was told
pub make_next-requires-clause-told : goal.make_next-requires-clause-told
make_next-requires-clause-told g c = λ told. ap (λ (it : Waited). it.expected) (c.loop-number.invariant.waiter.waited told) ∙ c.requires.told told

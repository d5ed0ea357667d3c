use Rattle.std.proofs.Common.{◌≡◌, ◌+◌, drop, min, ap, sym, ◌∙◌}
use Rattle.std.proofs.lemmas.List.{drop_more, drop_all}
use Rattle.boss_model.specs.declared.state.Pending.{Pending}
use Rattle.boss_shifting.proofs.Least.{least_from, least-early, least-started, least-most}
use Rattle.boss_shifting.proofs.most.least_start.Goals as goal

-- at the end nothing is left to take
least-found : (c : goal.After-loop-reversion) → c.loop-reversion.least ≡ least_from c.args.now c.args.pending.now
least-found c = sym (ap (least_from c.loop-reversion.least) (drop_all c.loop-reversion.reversion-index c.args.pending.now c.loop-reversion-test.false)) ∙ c.loop-reversion.invariant

pub loop-reversion-preserved : goal.loop-reversion-preserved
loop-reversion-preserved c =
    let index = c.loop-reversion.reversion-index in
    let pending = c.args.pending.now in
    let rest = drop (index + 1) pending in
    ap (λ least. least_from least rest) (c.min-least.ensures ∙ ap (λ (r : Pending). min c.loop-reversion.least r.start) c.reversion-item.is)
    ∙ sym (ap (least_from c.loop-reversion.least) (drop_more pending index c.reversion-item.result c.loop-reversion-test.true))
    ∙ c.loop-reversion.invariant

pub returns-clause-now : goal.returns-clause-now
returns-clause-now c = rw (least-found c) (least-early c.args.now c.args.pending.now)

pub returns-clause-started : goal.returns-clause-started
returns-clause-started c = rw (least-found c) (least-started c.args.now c.args.pending.now)

pub returns-clause-most : goal.returns-clause-most
returns-clause-most c by early started = rw (least-found c) (least-most by c.args.now c.args.pending.now early started)

use Rattle.std.proofs.Common.{ap₂, sym, ◌∙◌, arith}
use Rattle.boss_adopting.specs.Least.{lesser_of}
use Rattle.boss_adopting.specs.Places.{places_of}
use Rattle.boss_adopting.proofs.Used.{used-more}
use Rattle.boss_adopting.proofs.uses.least_used.Goals as goal

pub loop-transaction-preserved : goal.loop-transaction-preserved
loop-transaction-preserved c =
    c.lesser_of-found.ensures ∙ ap₂ lesser_of c.loop-transaction.invariant c.least_used_by.ensures
    ∙ sym (used-more (places_of c.args.numbering.now) c.args.done.now c.args.txns.now c.loop-transaction.transaction-index c.transaction-item.result (omega arith) c.transaction-item.is)

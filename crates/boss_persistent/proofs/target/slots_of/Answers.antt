use Rattle.std.proofs.Common.{◌+◌, ℕ, rules}
use Rattle.boss_model.specs.declared.answer.Slot.TheVariants as slot
use Rattle.boss_persistent.specs.Slots.{slot_in}
use Rattle.law_due.proofs.Found.{made-array}
use Rattle.boss_persistent.proofs.target.slots_of.Goals as goal

pub returns : goal.returns
returns c = made-array _ _ (λ (k : ℕ). slot_in c.args.holdings.now.leases c.args.holdings.now.pending c.args.holdings.now.now c.args.point (k + 1)) (λ i y q k. search rules) c.from_fn-at.result 16 slot.Empty c.from_fn-at.ensures.items

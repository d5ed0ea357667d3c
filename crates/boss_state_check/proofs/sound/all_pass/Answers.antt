use Rattle.std.proofs.Common.{sym, ◌∙◌}
use Rattle.boss_state_check.proofs.Whole.{orders-of}
use Rattle.boss_state_check.proofs.sound.all_pass.Goals as goal

pub slots_pass-requires-clause-leases : goal.slots_pass-requires-clause-leases
slots_pass-requires-clause-leases c = (orders-of c.args.kept.now (sym c.orders_pass.ensures ∙ c.if-not-orders_pass.false)).leases

pub records_pass-requires-clause-leases : goal.records_pass-requires-clause-leases
records_pass-requires-clause-leases c = (orders-of c.args.kept.now (sym c.orders_pass.ensures ∙ c.if-not-orders_pass.false)).leases

pub records_pass-requires-clause-txns : goal.records_pass-requires-clause-txns
records_pass-requires-clause-txns c = (orders-of c.args.kept.now (sym c.orders_pass.ensures ∙ c.if-not-orders_pass.false)).txns

pub done_passes-requires-clause-pending : goal.done_passes-requires-clause-pending
done_passes-requires-clause-pending c = (orders-of c.args.kept.now (sym c.orders_pass.ensures ∙ c.if-not-orders_pass.false)).pending

pub done_passes-requires-clause-txns : goal.done_passes-requires-clause-txns
done_passes-requires-clause-txns c = (orders-of c.args.kept.now (sym c.orders_pass.ensures ∙ c.if-not-orders_pass.false)).txns

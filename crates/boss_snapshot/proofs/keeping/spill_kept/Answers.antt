use Rattle.boss_model.specs.Seen.{seen}
use Rattle.boss_snapshot.proofs.KeptProcesses.{parts_pass, state_halves}
use Rattle.boss_snapshot.proofs.keeping.spill_kept.Goals as goal

pub spill_first-requires-clause-processes : goal.spill_first-requires-clause-processes
spill_first-requires-clause-processes g c = (parts_pass (seen c.args.kept.now) c.requires.fits).third

pub spill_first-requires-clause-txns : goal.spill_first-requires-clause-txns
spill_first-requires-clause-txns g c = (parts_pass (seen c.args.kept.now) c.requires.fits).fourth

pub spill_last-requires-clause-done : goal.spill_last-requires-clause-done
spill_last-requires-clause-done g c = (parts_pass (seen c.args.kept.now) c.requires.fits).fifth

pub spill_last-requires-clause-leases : goal.spill_last-requires-clause-leases
spill_last-requires-clause-leases g c = (parts_pass (seen c.args.kept.now) c.requires.fits).sixth

pub spill_last-requires-clause-pending : goal.spill_last-requires-clause-pending
spill_last-requires-clause-pending g c = (parts_pass (seen c.args.kept.now) c.requires.fits).seventh

pub returns-clause-text : goal.returns-clause-text
returns-clause-text g c told =
    state_halves (seen c.args.kept.now) _ _ _ (c.in_ok-spill_first.ensures.text told) (c.in_ok-spill_last.ensures.text told)

use Rattle.boss_snapshot.proofs.Clearings.{still_held, zero_run}
use Rattle.boss_snapshot.proofs.clearing.put_zero.Goals as goal

pub returns-in_err-is_zero-clause-images : goal.returns-in_err-is_zero-clause-images
returns-in_err-is_zero-clause-images g c told synced = still_held _ _ _ (c.is_zero.ensures.windows told) synced

pub returns-then-branch-clause-images : goal.returns-then-branch-clause-images
returns-then-branch-clause-images g c told synced = still_held _ _ _ (c.is_zero.ensures.windows told) synced

pub returns-clause-images : goal.returns-clause-images
returns-clause-images g c told synced =
    zero_run _ _ _ _ _ _ (c.is_zero.ensures.windows told) (c.is_zero.ensures.reads told)
    (c.in_ok-is_zero.ensures.other told c.if-branch.false) synced (c.write_through.ensures.windows told)

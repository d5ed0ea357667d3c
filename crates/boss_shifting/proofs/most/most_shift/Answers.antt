use Rattle.boss_shifting.proofs.most.most_shift.Goals as goal

pub returns-clause-most : goal.returns-clause-most
returns-clause-most c by may = c.least_start.ensures.most by may.now (rw c.slice.ensures may.started)

use Rattle.trial_workers.proofs.tests.take_back_all.Given as goal

abbrev pub invariant-loop-ran : goal.invariant-loop-ran
invariant-loop-ran g l = g.H.Host.sound l.host

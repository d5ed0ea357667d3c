use Rattle.trial_engine.proofs.timers.set.Given as goal

abbrev pub ghosts-set_counted : goal.ghosts-set_counted
ghosts-set_counted a = record { name = a.blank.name; parts = a.blank.parts }

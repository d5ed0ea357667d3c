use Rattle.boss_lock.proofs.steps.lend_turn.Given as goal

abbrev pub ghosts-add : goal.ghosts-add
ghosts-add g a = record { told = g.M.Made.entries a.made.now }

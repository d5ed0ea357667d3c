use Rattle.boss_lock.proofs.steps.end_turn.Given as goal

abbrev pub ghosts-give_back : goal.ghosts-give_back
ghosts-give_back g a = record { told = g.M.Made.entries a.made.now }

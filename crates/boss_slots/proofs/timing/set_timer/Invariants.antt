use Rattle.boss_slots.proofs.timing.set_timer.Given as goal

abbrev pub ghosts-set_by : goal.ghosts-set_by
ghosts-set_by a = record { name = a.blank.name; parts = a.blank.parts }

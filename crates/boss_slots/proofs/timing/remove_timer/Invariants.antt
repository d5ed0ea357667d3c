use Rattle.boss_slots.proofs.timing.remove_timer.Given as goal

abbrev pub ghosts-remove_by : goal.ghosts-remove_by
ghosts-remove_by a = record { name = a.blank.name; parts = a.blank.parts }

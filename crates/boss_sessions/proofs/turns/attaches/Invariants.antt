use Rattle.std.proofs.Common.{◌≡◌, drop, map}
use Rattle.def_connection.specs.Speech.{of_answer}
use Rattle.boss_sessions.specs.Turns.{attached_by}
use Rattle.boss_sessions.proofs.turns.attaches.Given as goal

-- none of the answers before this place is to an attach that was accepted
abbrev pub invariant-loop-place : goal.invariant-loop-place
invariant-loop-place l = attached_by l.commands (map of_answer l.answers) ≡ attached_by (drop l.place l.commands) (map of_answer (drop l.place l.answers))

use Rattle.std.proofs.Common.{◌≡◌, drop}
use Rattle.boss_access.specs.Decisions.{denied_among, first_denied}
use Rattle.boss_access.proofs.rules.Rules.first_denied.Given as goal

-- no write so far is denied
abbrev pub invariant-loop-index : goal.invariant-loop-index
invariant-loop-index l =
    denied_among l.index l.self l.catalogue.points l.process (drop l.index l.writes) ≡ first_denied l.self l.catalogue.points l.process l.writes

use Rattle.std.proofs.Common.{◌≡◌, drop}
use Rattle.boss_access.specs.Decisions.{admits}
use Rattle.boss_access.proofs.rules.Rules.admits.Given as goal

-- no rule so far is for the name
abbrev pub invariant-loop-rule : goal.invariant-loop-rule
invariant-loop-rule l = admits (drop l.rule-index l.self) l.name ≡ admits l.self l.name

use Rattle.std.proofs.Common.{◌≡◌, drop}
use Rattle.boss_gate.specs.Gates.{gate_of}
use Rattle.boss_gate.specs.Whole.{goes_whole}
use Rattle.boss_gate.proofs.denial.goes_whole.Given as goal

-- all so far go through
abbrev pub invariant-loop-call : goal.invariant-loop-call
invariant-loop-call l =
    goes_whole (gate_of l.rules l.catalogue.points) l.held l.session (drop l.call-index l.calls)
    ≡ goes_whole (gate_of l.rules l.catalogue.points) l.held l.session l.calls

use Rattle.boss_server.proofs.gating.serve_gated.Goals as goal

-- its gate is that of the rules, and the pass that comes back is the one within
pub returns-clause-account : goal.returns-clause-account
returns-clause-account g c =
    rw c.inner.ensures (rw (c.new-gate.ensures.rules, c.new-gate.ensures.catalogue, c.new-gate.ensures.inner, c.requires.open) at c.serve-told.ensures.account)

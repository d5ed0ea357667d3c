use Rattle.trial_shared.proofs.rules.ask_behind_rules.Goals as goal

-- the manager within owns the pass that it came with
pub admit-pass-requires-clause-own : goal.admit-pass-requires-clause-own
admit-pass-requires-clause-own g c = rw c.new-gate.ensures.inner c.in-Ok.ensures.own

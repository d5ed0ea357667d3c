use Rattle.std.proofs.Common.{None, subst, sym}
use Rattle.boss_sessions.specs.Holding.{Holds}
use Rattle.trial_connections.proofs.connection.Connection.serve.Goals as goal

pub serve_connection-requires-clause-unheld : goal.serve_connection-requires-clause-unheld
serve_connection-requires-clause-unheld g c = subst (λ gates. Holds gates c.args.session None (g.G.Desk.held c.args.pass.now)) (sym c.requires.ungated) tt

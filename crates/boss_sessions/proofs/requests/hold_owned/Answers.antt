use Rattle.std.proofs.Common.{option_copied, sym, ◌∙◌}
use Rattle.def_connection.specs.Speech.{asks}
use Rattle.boss_sessions.specs.Speaking.{owned_by}
use Rattle.boss_sessions.proofs.RequestLemmas.{holds-hears, owned-asks}
use Rattle.boss_sessions.proofs.requests.hold_owned.Goals as goal

pub returns-clause-hears : goal.returns-clause-hears
returns-clause-hears g c later =
    holds-hears g.C.Clock.tells c.args.command c.args.commands.now.items c.hold.new.commands.items (g.C.Clock.given c.args.clock.now) (g.C.Clock.given c.hold.new.clock)
    (owned_by (option_copied c.args.own) (asks c.args.command)) later c.hold.result
    (owned-asks (option_copied c.args.own) c.args.command (sym c.is_other_by.ensures ∙ c.if-is_other_by.false)) c.hold.ensures.holds

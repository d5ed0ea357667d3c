use Rattle.std.proofs.Common.{◌≡◌, option_copied, ap, sym, ◌∙◌, subst}
use Rattle.boss_model.specs.Catalogue.{actuators}
use Rattle.boss_model.specs.Sound.{IsAllowed}
use Rattle.boss_requests.specs.Given.{MayAsk}
use Rattle.def_wire.specs.Requests.{parsed}
use Rattle.def_connection.specs.Speech.{asks}
use Rattle.boss_sessions.specs.Requests.{Hears}
use Rattle.boss_sessions.specs.Speaking.{asked_in, owned_by, reading_of, reading_of_ask}
use Rattle.boss_sessions.proofs.requests.take_owned.Goals as goal

pub returns-in-Command-clause-hears : goal.returns-in-Command-clause-hears
returns-in-Command-clause-hears g c =
    let reads : asked_in c.args.catalogue.now c.args.later c.args.line.now ≡ asks c.in-Command.command =
    ap (λ form. reading_of (parsed c.args.catalogue.now form c.args.line.now)) (sym c.form_of.ensures) ∙ ap reading_of c.in-Ok.ensures.request ∙ ap reading_of_ask c.in-Command.is in
    subst (λ reading. Hears (owned_by (option_copied c.args.own) reading) g.C.Clock.tells c.args.later c.args.commands.now.items c.hold_owned.new.commands.items
    (g.C.Clock.given c.args.clock.now) (g.C.Clock.given c.hold_owned.new.clock) c.hold_owned.result) (ap asks c.in-Command.command-is ∙ sym reads) (c.hold_owned.ensures.hears c.args.later)

pub returns-in-Command-clause-may : goal.returns-in-Command-clause-may
returns-in-Command-clause-may g c =
    c.hold_owned.ensures.may (actuators c.args.catalogue.now)
    (subst (IsAllowed (actuators c.args.catalogue.now)) (sym c.in-Command.command-is) (subst (MayAsk (actuators c.args.catalogue.now)) c.in-Command.is c.in-Ok.ensures.allowed)) c.requires.may

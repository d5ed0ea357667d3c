use Rattle.std.proofs.Common.{◌∙◌, subst}
use Rattle.std.specs.Str.Parse.{ParsesUnsigned}
use Rattle.boss_places.proofs.Ports.{number_is_text, port_is}
use Rattle.boss_places.proofs.port.is_low.Goals as goal

pub returns-in_default : goal.returns-in_default
returns-in_default c = absurd (c.in_default.ensures.cases.0 (number_is_text c.args.digits.now c.requires))

pub returns : goal.returns
returns c =
    c.is_ok.ensures.value ∙ port_is c.args.digits.now c.parse.result c.requires
    (subst (λ text. ParsesUnsigned 16 10 text c.parse.result) c.in-Ok.ensures.cases.0 c.parse.ensures.value.0)

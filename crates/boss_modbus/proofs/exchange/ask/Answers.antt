use Rattle.std.proofs.Common.{◌++◌, ap, ◌∙◌, subst}
use Rattle.boss_modbus.specs.Fates.{Fared}
use Rattle.boss_modbus.proofs.exchange.ask.Goals as goal

pub returns-in-Whole-clause-fared : goal.returns-in-Whole-clause-fared
returns-in-Whole-clause-fared g c tells =
    let left = g.L.Link.left c.hear.new.link in
    subst (λ bytes. Fared c.args.number c.args.asked.now bytes left c.judge.result) c.as_slice-in-Whole.ensures.value (c.judge.ensures.fared left)

pub returns-in-Finished-clause-sent : goal.returns-in-Finished-clause-sent
returns-in-Finished-clause-sent g c tells no_fault =
    c.in-Finished.ensures.sent tells
    ∙ c.in-Ok-send.ensures.sent tells
    ∙ ap (λ sent. sent ++ c.as_slice.result.now) (c.in-Ok.ensures.sent tells)
    ∙ ap (λ frame. g.L.Link.sent c.args.link.now ++ frame) (c.as_slice.ensures.value ∙ c.frame.ensures)

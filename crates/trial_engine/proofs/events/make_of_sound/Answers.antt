use Rattle.std.proofs.Common.{◌∙◌, ap, sym}
use Rattle.boss_model.specs.Effects.{event_of}
use Rattle.law_spelling.proofs.Events.{step-spelled}
use Rattle.trial_engine.proofs.events.make_of_sound.Goals as goal

pub do_again-requires : goal.do_again-requires
do_again-requires g c =
    let engine = c.args.engine.now in
    step-spelled engine.plant engine.state c.args.call.session c.args.call.command c.args.call.moment c.in-Some.event
    c.requires.whole c.requires.sound c.requires.allowed c.requires.moment
    (ap (event_of c.args.call.command) (sym c.effect_of-effect.ensures.effect) ∙ sym c.event_of.ensures ∙ c.in-Some.is)

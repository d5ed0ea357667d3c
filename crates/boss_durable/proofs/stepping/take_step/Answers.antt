use Rattle.std.proofs.Common.{◌≡◌, [], ◌+◌, ◌++◌, length, Some, ap, ◌∙◌, subst}
use Rattle.def_bytes.specs.Batches.{batch_text}
use Rattle.def_history.specs.History.{if_event}
use Rattle.boss_model.specs.Effects.{event_of}
use Rattle.boss_durable.proofs.Takings.{step_taken, want_grows}
use Rattle.boss_durable.proofs.stepping.take_step.Goals as goal

pub put-requires-clause-fits : goal.put-requires-clause-fits
put-requires-clause-fits c e is = c.in-Ok.ensures.fits e (subst (λ does. event_of c.args.command.now does ≡ Some e) c.in-Ok.ensures.effect is)

pub returns-in-Ok-clause-taken : goal.returns-in-Ok-clause-taken
returns-in-Ok-clause-taken c made start taken =
    step_taken c.args.engine.now.plant c.args.session c.args.moment c.args.command.now c.in-Ok.answer made start c.args.engine.now.state c.step.new.self.state
    c.args.batch.now c.put.new.self c.in-Ok.ensures.reached.whole c.in-Ok.ensures.reached.sound c.requires.may taken c.in-Ok.ensures.answer c.in-Ok.ensures.state
    (ap (λ b. b.bytes) c.put.ensures.bytes
    ∙ ap (λ does. c.args.batch.now.bytes.bytes ++ batch_text (if_event (event_of c.args.command.now does) [])) c.in-Ok.ensures.effect)
    (c.put.ensures.events ∙ ap (λ does. c.args.batch.now.events + length (if_event (event_of c.args.command.now does) [])) c.in-Ok.ensures.effect)

pub returns-in-Err-clause-grows : goal.returns-in-Err-clause-grows
returns-in-Err-clause-grows c = want_grows c.args.engine.now.state c.args.command.now c.in-Err.ensures.wants

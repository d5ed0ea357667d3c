use Rattle.std.proofs.Common.{sym, ap, subst, arith, length}
use Rattle.boss_feeding.specs.Faults.{ActiveCause, SinkCause}
use Rattle.boss_feeding.specs.Held.{HasLog}
use Rattle.boss_feeding.proofs.Stood.{feed_with, feed_without, gate_far}
use Rattle.boss_feeding.proofs.Writing.{part_told, then_told}
use Rattle.boss_model.specs.Seen.{seen}
use Rattle.boss_outside.specs.Streams.{TakesFront, Writes}
use Rattle.boss_feeding.proofs.feeding.feed_sound.Goals as goal

pub feed_log-requires-clause-inside : goal.feed_log-requires-clause-inside
feed_log-requires-clause-inside g c tells = (c.requires.kept tells).1.gate

pub returns-then-from-base-clause-told : goal.returns-then-from-base-clause-told
returns-then-from-base-clause-told g c tells takes events has =
    subst (λ text. Writes (g.K.Sink.taken c.args.sink.now) (g.K.Sink.taken c.feed_log.new.sink) text c.feed_log.result.1)
    (sym (feed_without c.args.from (seen c.args.base.now.kept) c.args.base.now.before events c.if-from-base.true)) (c.feed_log.ensures.told tells takes events has)

pub feed_log-requires-clause-past : goal.feed_log-requires-clause-past
feed_log-requires-clause-past g c tells = let far = gate_far _ _ _ _ _ (c.requires.kept tells).1 in omega (arith, far)

pub feed_log-requires-in-Ok-clause-past : goal.feed_log-requires-in-Ok-clause-past
feed_log-requires-in-Ok-clause-past g c tells = let far = gate_far _ _ _ _ _ (c.requires.kept tells).1 in omega (arith, far)

pub feed_log-requires-in-Ok-clause-inside : goal.feed_log-requires-in-Ok-clause-inside
feed_log-requires-in-Ok-clause-inside g c tells =
    let gate = (c.requires.kept tells).1.gate in
    omega (arith, gate, ap length (c.tell_base.ensures.reads tells))

pub returns-in-Ok-clause-told : goal.returns-in-Ok-clause-told
returns-in-Ok-clause-told g c tells takes events has =
    let d = seen c.args.base.now.kept in
    subst (λ text. Writes (g.K.Sink.taken c.args.sink.now) (g.K.Sink.taken c.feed_log-in-Ok.new.sink) text c.feed_log-in-Ok.result.1)
    (sym (feed_with c.args.from d c.args.base.now.before events c.if-from-base.false))
    (then_told (g.K.Sink.taken c.args.sink.now) (g.K.Sink.taken c.tell_base.new.sink) (g.K.Sink.taken c.feed_log-in-Ok.new.sink) _ _ c.feed_log-in-Ok.result.1
    (c.in-Ok.ensures.told tells takes)
    (c.feed_log-in-Ok.ensures.told tells takes events (subst (HasLog c.args.base.now.gate events) (sym (c.tell_base.ensures.reads tells)) has)))

pub returns-in-Ok-clause-cause : goal.returns-in-Ok-clause-cause
returns-in-Ok-clause-cause g c =
    subst (λ before. ActiveCause before (g.D.Disk.faults c.feed_log-in-Ok.result.0) c.feed_log-in-Ok.result.1) c.in-Ok.ensures.cause c.feed_log-in-Ok.ensures.cause

pub returns-in-Ok-clause-sink : goal.returns-in-Ok-clause-sink
returns-in-Ok-clause-sink g c =
    subst (λ before. SinkCause before (g.K.Sink.faults c.feed_log-in-Ok.new.sink) c.feed_log-in-Ok.result.1) c.in-Ok.ensures.sink c.feed_log-in-Ok.ensures.sink

pub returns-in-Err-clause-told : goal.returns-in-Err-clause-told
returns-in-Err-clause-told g c tells takes events has =
    let d = seen c.args.base.now.kept in
    let old = g.K.Sink.taken c.args.sink.now in
    let new = g.K.Sink.taken c.tell_base.new.sink in
    subst (TakesFront old new) (sym (feed_with c.args.from d c.args.base.now.before events c.if-from-base.false)) (part_told old new _ _ (c.in-Err.ensures.told tells takes))

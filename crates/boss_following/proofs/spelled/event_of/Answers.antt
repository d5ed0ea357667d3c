use Rattle.boss_following.proofs.Bytes.{no-event, no-other-size}
use Rattle.boss_following.proofs.spelled.event_of.Goals as goal

pub returns-else-size-bytes-clause-wrong : goal.returns-else-size-bytes-clause-wrong
returns-else-size-bytes-clause-wrong c e fits is =
    no-other-size c.args.bytes.now c.in-Ok-Some.field-0 c.in-Ok-Some.event e c.in-Ok-Some.size c.in-Ok-Some.field-0-is c.if-size-bytes.false
    (λ rest all. c.in-Ok-Some.ensures.only e rest fits all) is

pub returns-in-Ok-None-clause-wrong : goal.returns-in-Ok-None-clause-wrong
returns-in-Ok-None-clause-wrong c e fits is =
    no-event c.args.bytes.now c.in-Ok-None.field-0 e c.in-Ok-None.field-0-is (λ rest all. c.in-Ok-None.ensures.only e rest fits all) is

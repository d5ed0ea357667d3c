use Rattle.std.proofs.Common.{◌<◌, length, length-take, ap, inl, inr, arith}
use Rattle.boss_journal.proofs.HeadingBytes.{short_heading, sized_heading}
use Rattle.boss_journal.proofs.heading.heading_of.Goals as goal

pub returns-then-head-lt5-clause-heading : goal.returns-then-head-lt5-clause-heading
returns-then-head-lt5-clause-heading c bytes is many =
    let few : length bytes < 5 = omega (arith, ap length is, length-take 5 bytes) in
    short_heading c.args.head.now bytes is (c.is_open.ensures.0 c.if-not-is_open.false) few

pub returns-then-size-gt-LONGEST_RECORD-clause-heading : goal.returns-then-size-gt-LONGEST_RECORD-clause-heading
returns-then-size-gt-LONGEST_RECORD-clause-heading c bytes is many =
    sized_heading c.args.head.now bytes c.size_of-size.result is (c.is_open.ensures.0 c.if-not-is_open.false) c.size_of-size.ensures (omega arith) (inl (omega arith)) (omega arith)

pub returns-then-left-from-clause-heading : goal.returns-then-left-from-clause-heading
returns-then-left-from-clause-heading c bytes is many =
    sized_heading c.args.head.now bytes c.size_of-size.result is (c.is_open.ensures.0 c.if-not-is_open.false) c.size_of-size.ensures (omega arith) (inr (omega arith)) (omega arith)

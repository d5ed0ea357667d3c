use Rattle.std.proofs.Common.{ap, arith}
use Rattle.boss_lines.proofs.TakenLemmas.{still-going}
use Rattle.boss_sessions.proofs.PlaceLemmas.{advances-line, none-behind}
use Rattle.boss_sessions.proofs.ReadLemmas.{reads-line}
use Rattle.boss_sessions.proofs.next_line.next_line.Goals as goal

pub returns-in-Line-clause-advances : goal.returns-in-Line-clause-advances
returns-in-Line-clause-advances g c =
    advances-line g.S.Source.tells _ _ _
    (still-going _ _ c.args.hearing.now.reader.stopped c.next.result c.requires.ready.going c.next.ensures.stays (λ over. let is = c.in-Line.is in absurd cc))
    (omega (arith, c.if-hearing-eq0.false)) c.in-Line.ensures.leaves
    (λ t. (c.in-Line.ensures.bytes t (λ is. none-behind c.args.hearing.now.reader.ahead (g.S.Source.left c.args.source.now) (c.requires.ready.over t is))).0)
    (λ t. c.next.ensures.ends t c.in-Line.is) c.in-Line.ensures.stops

pub returns-in-Line-clause-reads : goal.returns-in-Line-clause-reads
returns-in-Line-clause-reads g c t =
    reads-line c.args.hearing.now.reader.ahead (g.S.Source.left c.args.source.now) c.args.hearing.now.lines (g.S.Source.told c.args.source.now) _ _ _
    (λ answer stays. ap g.S.Source.reads stays.1) c.args.hearing.now.reader.stopped c.next.ensures.stays (c.next.ensures.reads t)

pub returns-in-Finish-clause-reads : goal.returns-in-Finish-clause-reads
returns-in-Finish-clause-reads g c t =
    reads-line c.args.hearing.now.reader.ahead (g.S.Source.left c.args.source.now) c.args.hearing.now.lines (g.S.Source.told c.args.source.now) _ _ _
    (λ answer stays. ap g.S.Source.reads stays.1) c.args.hearing.now.reader.stopped c.next.ensures.stays (c.next.ensures.reads t)

pub returns-in-TooLong-clause-reads : goal.returns-in-TooLong-clause-reads
returns-in-TooLong-clause-reads g c t =
    reads-line c.args.hearing.now.reader.ahead (g.S.Source.left c.args.source.now) c.args.hearing.now.lines (g.S.Source.told c.args.source.now) _ _ _
    (λ answer stays. ap g.S.Source.reads stays.1) c.args.hearing.now.reader.stopped c.next.ensures.stays (c.next.ensures.reads t)

pub returns-in-ReadFault-clause-reads : goal.returns-in-ReadFault-clause-reads
returns-in-ReadFault-clause-reads g c t =
    reads-line c.args.hearing.now.reader.ahead (g.S.Source.left c.args.source.now) c.args.hearing.now.lines (g.S.Source.told c.args.source.now) _ _ _
    (λ answer stays. ap g.S.Source.reads stays.1) c.args.hearing.now.reader.stopped c.next.ensures.stays (c.next.ensures.reads t)

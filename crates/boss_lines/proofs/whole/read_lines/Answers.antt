use Rattle.std.proofs.Common.{◌≡◌, [], ◌∷◌, ◌++◌, subst, arith}
use Rattle.std.proofs.lemmas.Grind.{common_steps}
use Rattle.boss_lines.specs.Lines.{NextCause}
use Rattle.boss_lines.proofs.LinesLemmas.{no-fault, none-left}
use Rattle.boss_lines.proofs.TakenLemmas.{Taken, gives-lines, still-going, taken-line}
use Rattle.boss_lines.proofs.whole.read_lines.Goals as goal

pub loop-preserved : goal.loop-preserved
loop-preserved g c =
    let inv = c.loop.invariant in
    record {
      going = c.in-Line.ensures.stops;
      over = λ t is.
          none-left _ c.next.new.self.ahead (g.S.Source.left c.next.new.source) c.next.new.self.line c.next.new.self.stopped
          (c.next.ensures.ends t c.in-Line.is) is;
      taken = λ t.
          let pushed : c.loop.lines ++ c.next.new.self.line ∷ [] ≡ c.try_push.new.self = grind (arith, common_steps) in
          subst (λ given. Taken (g.S.Source.left c.args.source.now) given (c.next.new.self.ahead ++ g.S.Source.left c.next.new.source) c.next.new.self.stopped) pushed
          (taken-line _ _ _ _ _ _ _ (inv.taken t)
          (still-going _ _ c.loop.reader.stopped c.next.result inv.going c.next.ensures.stays (λ over. let is = c.in-Line.is in absurd cc))
          (c.in-Line.ensures.bytes t (inv.over t)).0 (c.next.ensures.ends t c.in-Line.is));
      short = grind (arith, common_steps);
      count = grind (arith, common_steps);
      within = grind (arith, common_steps);
      faults = let same = c.in-Line.ensures.cause (no-fault c.loop.reader.stopped inv.going) in grind (arith, same, inv.faults);
    }

pub returns-in_default : goal.returns-in_default
returns-in_default g c =
    let inv = c.loop.invariant in
    record {
      all = λ t.
          gives-lines c.args.limit _ _ _ _ _ _ _ c.next.result (inv.taken t)
          (still-going _ _ c.loop.reader.stopped c.next.result inv.going c.next.ensures.stays)
          (c.next.ensures.bytes t (inv.over t)) c.next.ensures.leaves (λ is. absurd (c.in_default.not-Line is));
      short = inv.short;
      limit = grind (arith, common_steps);
      full = λ is. absurd (c.in_default.not-Line is);
      cause = subst (λ before. NextCause before (g.S.Source.faults c.next.new.source) c.next.result) inv.faults
          (c.next.ensures.cause (no-fault c.loop.reader.stopped inv.going));
    }

pub returns-clause-all : goal.returns-clause-all
returns-clause-all g c = λ t.
    let inv = c.loop.invariant in
    gives-lines c.args.limit _ _ _ _ _ _ _ c.next-end.result (inv.taken t)
    (still-going _ _ c.loop.reader.stopped c.next-end.result inv.going c.next-end.ensures.stays)
    (c.next-end.ensures.bytes t (inv.over t)) c.next-end.ensures.leaves
    (λ is. (grind (arith, common_steps), (c.next-end.new.self.stopped, c.next-end.ensures.ends t is)))

pub returns-clause-cause : goal.returns-clause-cause
returns-clause-cause g c =
    let inv = c.loop.invariant in
    subst (λ before. NextCause before (g.S.Source.faults c.next-end.new.source) c.next-end.result) inv.faults
    (c.next-end.ensures.cause (no-fault c.loop.reader.stopped inv.going))

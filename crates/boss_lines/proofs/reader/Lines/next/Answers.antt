use Rattle.std.proofs.Common.{[], ◌+◌, ◌++◌, length, take, drop, Some, subst, sym, ◌∙◌, ap, arith}
use Rattle.boss_lines.specs.Lines.{Answers, EndsLine, StopsAt}
use Rattle.boss_lines.proofs.LinesLemmas.{Answers-again, Answers-line, Answers-rest, Answers-too_long, EndsLine-line, EndsLine-rest, Leaves-again, NextCause-again, StopsAt-again, not-a-line, not-stopped}
use Rattle.boss_lines.proofs.reader.Lines.next.Goals as goal

pub returns-in-Some-clause-bytes : goal.returns-in-Some-clause-bytes
returns-in-Some-clause-bytes g c t over =
    let inside = c.self.inside in
    let left = g.S.Source.left c.args.source.now in
    subst (λ reader. Answers (reader.ahead ++ left) (drop inside.used inside.window ++ left) [] c.in-Some.answer) c.self.view_is
    (Answers-again c.in-Some.answer (drop inside.used inside.window) left (c.self.invariant.leaves c.in-Some.answer c.in-Some.is)
    (λ is. over (sym (ap (λ reader. reader.stopped) c.self.view_is) ∙ c.in-Some.is ∙ is)))

pub returns-in-Some-clause-ends : goal.returns-in-Some-clause-ends
returns-in-Some-clause-ends g c t is =
    absurd (not-a-line c.in-Some.answer (drop c.self.inside.used c.self.inside.window) (c.self.invariant.leaves c.in-Some.answer c.in-Some.is) is)

pub returns-in-Some-clause-leaves : goal.returns-in-Some-clause-leaves
returns-in-Some-clause-leaves g c =
    Leaves-again c.in-Some.answer (drop c.self.inside.used c.self.inside.window) (c.self.invariant.leaves c.in-Some.answer c.in-Some.is)

pub returns-in-Some-clause-stops : goal.returns-in-Some-clause-stops
returns-in-Some-clause-stops g c =
    subst (StopsAt c.in-Some.answer) (sym c.in-Some.is)
    (StopsAt-again c.in-Some.answer (drop c.self.inside.used c.self.inside.window) (c.self.invariant.leaves c.in-Some.answer c.in-Some.is))

pub returns-in-Some-clause-cause : goal.returns-in-Some-clause-cause
returns-in-Some-clause-cause g c other = NextCause-again c.in-Some.answer (g.S.Source.faults c.args.source.now) (λ is. other (sym (ap (λ reader. reader.stopped) c.self.view_is) ∙ c.in-Some.is ∙ ap Some is))

pub returns-in-LineEnd-clause-bytes : goal.returns-in-LineEnd-clause-bytes
returns-in-LineEnd-clause-bytes g c t over =
    Answers-line _ _ _ c.in-LineEnd.place
    (c.find_line_end.ensures.bytes t ∙ ap (λ bytes. bytes ++ g.S.Source.left c.args.source.now) (c.consume.ensures ∙ ap (λ reader. reader.ahead) c.self.view_is))
    c.in-LineEnd.ensures.shows

pub returns-in-LineEnd-clause-ends : goal.returns-in-LineEnd-clause-ends
returns-in-LineEnd-clause-ends g c t is =
    let held = c.find_line_end.new.self in
    let left = g.S.Source.left c.find_line_end.new.source in
    let old = c.args.self.now.ahead ++ g.S.Source.left c.args.source.now in
    subst (EndsLine old (drop (c.in-LineEnd.place + 1) held ++ left) (take c.in-LineEnd.place held)) (sym (not-stopped c.self.inside.stopped c.in_default.not-Some))
    (EndsLine-line held left old c.in-LineEnd.place
    (c.find_line_end.ensures.bytes t ∙ ap (λ bytes. bytes ++ g.S.Source.left c.args.source.now) (c.consume.ensures ∙ ap (λ reader. reader.ahead) c.self.view_is))
    c.in-LineEnd.ensures.shows)

pub returns-in_default-len-clause-bytes : goal.returns-in_default-len-clause-bytes
returns-in_default-len-clause-bytes g c t over =
    rw c.bytes.ensures
    (Answers-rest _ _ _
    (c.find_line_end.ensures.bytes t ∙ ap (λ bytes. bytes ++ g.S.Source.left c.args.source.now) (c.consume.ensures ∙ ap (λ reader. reader.ahead) c.self.view_is))
    (c.in-SourceEnd.ensures.finish t) c.in-SourceEnd.ensures.shows (omega (arith, c.in_default-len, ap length c.bytes.ensures)))

pub returns-in_default-len-clause-ends : goal.returns-in_default-len-clause-ends
returns-in_default-len-clause-ends g c t is =
    rw c.bytes.ensures
    (EndsLine-rest _ _ _
    (c.find_line_end.ensures.bytes t ∙ ap (λ bytes. bytes ++ g.S.Source.left c.args.source.now) (c.consume.ensures ∙ ap (λ reader. reader.ahead) c.self.view_is))
    (c.in-SourceEnd.ensures.finish t))

pub returns-in-TooFar-clause-bytes : goal.returns-in-TooFar-clause-bytes
returns-in-TooFar-clause-bytes g c t over =
    Answers-too_long _ _ _ []
    (c.find_line_end.ensures.bytes t ∙ ap (λ bytes. bytes ++ g.S.Source.left c.args.source.now) (c.consume.ensures ∙ ap (λ reader. reader.ahead) c.self.view_is))
    c.in-TooFar.ensures.shows

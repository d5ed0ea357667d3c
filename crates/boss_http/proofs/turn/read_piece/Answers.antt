use Rattle.std.proofs.Common.{◌+◌, ◌++◌, ◌∙◌, length, drop, sym, ap, refl, subst}
use Rattle.std.proofs.lemmas.List.{take_rest}
use Rattle.httparse.specs.Spans.{span_bytes}
use Rattle.http1.specs.Decoder.{Continues, Ends}
use Rattle.boss_http.specs.Turns.{GoesOn}
use Rattle.boss_http.proofs.Bodies.{goes_on, over}
use Rattle.boss_http.proofs.turn.read_piece.Goals as goal

pub returns-in-Ok-clause-turned : goal.returns-in-Ok-clause-turned
returns-in-Ok-clause-turned c =
    let left = drop c.args.at.now c.args.bytes.now in
    let piece = c.in-Ok-Data.piece in
    let rest = take_rest c.args.bytes.now c.args.at.now in
    let found = rw c.in-Ok-Data.field-0-is at c.in-Ok-Data.ensures.ok in
    let took = subst (λ text. Continues c.args.decoder.now text c.decode.new.self piece.end (span_bytes text piece)) rest found.1 in
    let kept = c.in-Ok.ensures.items ∙ ap (λ more. c.args.content.now.items ++ more) (c.of.ensures ∙ ap (λ text. span_bytes text piece) rest) in
    subst (GoesOn c.args.decoder.now left c.args.content.now.items c.decode.new.self (drop (c.args.at.now + piece.end) c.args.bytes.now)) (sym kept)
    (goes_on c.args.decoder.now c.decode.new.self c.args.bytes.now c.args.content.now.items (span_bytes left piece) c.args.at.now piece.end took)

pub returns-then-len-rest-clause-turned : goal.returns-then-len-rest-clause-turned
returns-then-len-rest-clause-turned c =
    let found = rw c.in-Ok-End.field-0-is at c.in-Ok-End.ensures.ok in
    let ends =
    subst (λ text. Ends c.args.decoder.now text c.decode.new.trailers c.in-Ok-End.len c.in-Ok-End.field-0-1) (take_rest c.args.bytes.now c.args.at.now) found in
    let all = c.if-len-rest.true ∙ ap length (take_rest c.args.bytes.now c.args.at.now) in
    (over c.args.decoder.now (drop c.args.at.now c.args.bytes.now) c.decode.new.trailers c.in-Ok-End.len c.in-Ok-End.field-0-1 ends all, refl)

use Rattle.std.proofs.Common.{◌≤◌, length, drop, ◌∙◌, ap, subst, arith}
use Rattle.http1.specs.Decoder.{decoder_for}
use Rattle.boss_http.specs.Responses.{limits}
use Rattle.boss_http.specs.Turns.{Follows, GoesOn, IsOver}
use Rattle.boss_http.proofs.Bodies.{ended, grows}
use Rattle.boss_http.proofs.Fronts.{front_front, longer}
use Rattle.boss_http.proofs.hearing.hear_body.Goals as goal

pub loop-bytes-preserved : goal.loop-bytes-preserved
loop-bytes-preserved g c =
    let bytes = c.loop-bytes.bytes.items in
    let more = c.receive_more.new.bytes.items in
    let on =
    subst
    (λ held. GoesOn c.loop-bytes.decoder (drop c.loop-bytes.at held) c.loop-bytes.content.items c.read_piece.new.decoder
    (drop c.read_piece.new.at held) c.read_piece.new.content.items)
    c.as_slice.ensures.value c.in-More.ensures.turned in
    let within : c.read_piece.new.at ≤ length c.loop-bytes.bytes.items = omega (arith, c.read_piece.ensures.within, ap length c.as_slice.ensures.value) in
    let long : length c.loop-bytes.bytes.items ≤ length c.receive_more.new.bytes.items = longer bytes more c.receive_more.ensures.kept in
    record {
      received = λ tells before is. c.receive_more.ensures.received tells before (c.loop-bytes.invariant.received tells before is);
      kept = front_front c.args.bytes.now.items bytes more c.loop-bytes.invariant.kept c.receive_more.ensures.kept;
      sent = λ tells. c.receive_more.ensures.sent tells ∙ c.loop-bytes.invariant.sent tells;
      hosts = λ tells. c.receive_more.ensures.hosts tells ∙ c.loop-bytes.invariant.hosts tells;
      within = omega (arith, within, long);
      begun = omega (arith, c.loop-bytes.invariant.begun, long);
      follows =
          grows c.new-decoder.result c.read_piece.new.decoder bytes more c.read_piece.new.content.items c.args.start c.read_piece.new.at
          c.receive_more.ensures.kept c.loop-bytes.invariant.begun within
          (on c.new-decoder.result (drop c.args.start bytes) c.loop-bytes.invariant.follows);
    }

pub returns-in-Whole-clause-whole : goal.returns-in-Whole-clause-whole
returns-in-Whole-clause-whole g c so =
    let whole = drop c.args.start c.loop-bytes.bytes.items in
    let left = drop c.loop-bytes.at c.loop-bytes.bytes.items in
    let over = subst (λ held. IsOver c.loop-bytes.decoder (drop c.loop-bytes.at held)) c.as_slice.ensures.value c.in-Whole.ensures.turned.0 in
    ended c.args.framing c.loop-bytes.decoder whole left c.loop-bytes.content.items c.read_piece.new.content.items
    (subst (λ first. Follows first whole c.loop-bytes.decoder left c.loop-bytes.content.items)
    (c.new-decoder.ensures ∙ ap (λ most. decoder_for most c.args.framing) c.limits.ensures) c.loop-bytes.invariant.follows)
    over c.in-Whole.ensures.turned.1

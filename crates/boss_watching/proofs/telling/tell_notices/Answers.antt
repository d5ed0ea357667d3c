use Rattle.std.proofs.Common.{◌∙◌, ◌++◌, sym, ap, take, append_assoc}
use Rattle.std.specs.List.{flat_map}
use Rattle.boss_points.proofs.Fed.{flat_map-take_more}
use Rattle.boss_watching.specs.Notes.{note_line}
use Rattle.boss_watching.proofs.Lines.{front-more, some-at}
use Rattle.boss_watching.proofs.telling.tell_notices.Goals as goal

pub returns-in-Err-clause-bytes : goal.returns-in-Err-clause-bytes
returns-in-Err-clause-bytes g c = λ tells.
    let line = note_line c.args.catalogue.now in
    front-more line c.args.notices.now c.loop-notice.notice-index c.notice-item.result _ _ _
    (flat_map-take_more line c.args.notices.now c.loop-notice.notice-index c.notice-item.result c.loop-notice-test.true c.notice-item.is)
    (c.loop-notice.invariant.bytes tells) (c.in-Err.ensures.bytes tells)

pub returns-in-Err-clause-some : goal.returns-in-Err-clause-some
returns-in-Err-clause-some g c = some-at c.args.notices.now c.loop-notice.notice-index c.loop-notice-test.true

pub loop-notice-preserved : goal.loop-notice-preserved
loop-notice-preserved g c =
    let line = note_line c.args.catalogue.now in record {
      room = c.tell_notice.ensures.room ∙ c.loop-notice.invariant.room;
      bytes = λ tells. c.in-Ok.ensures.bytes tells ∙ ap (λ text. text ++ line c.notice-item.result) (c.loop-notice.invariant.bytes tells)
          ∙ append_assoc (g.K.Sink.taken c.args.sink.now) (flat_map line (take c.loop-notice.notice-index c.args.notices.now)) (line c.notice-item.result)
          ∙ ap (λ text. g.K.Sink.taken c.args.sink.now ++ text)
          (sym (flat_map-take_more line c.args.notices.now c.loop-notice.notice-index c.notice-item.result c.loop-notice-test.true c.notice-item.is));
      faults = c.in-Ok.ensures.cause.fine ∙ c.loop-notice.invariant.faults;
    }

use Rattle.std.proofs.Common.{◌≡◌, ◌<◌, List, [], ◌∷◌, ◌++◌, length, true, false, ap, ap₂, sym, ◌∙◌, arith}
use Rattle.boss_model.specs.declared.notice.Notice.{Notice}
use Rattle.law_adoption.specs.Adopted.{notice_stays}
use Rattle.boss_adopting.specs.Places.{places_of}
use Rattle.boss_adopting.proofs.Told.{left-staying, left-going}
use Rattle.boss_adopting.proofs.notices.moved_notices.Goals as goal
use Rattle.boss_adopting.proofs.notices.moved_notices.Goals.{then-what_stays+in_ok-push, else-what_stays}

pub loop-notice-preserved : goal.loop-notice-preserved
loop-notice-preserved c =
    let to = places_of c.args.numbering.now in
    let within : c.loop-notice.notice-index < length c.args.notices.now = omega arith in
    elim c.if-what_stays.branch [
      | then-what_stays+in_ok-push w ↦
          (let stays : notice_stays to c.notice-item.result ≡ true = sym c.what_stays.ensures ∙ w.if-what_stays.true in
          let more = left-staying to c.args.notices.now c.loop-notice.notice-index c.notice-item.result within c.notice-item.is stays in
          ◌∙◌ {A = List Notice} (ap (λ moved. moved.items) w.moved-is) (◌∙◌ {A = List Notice} w.in_ok-push.ensures.items
          (◌∙◌ {A = List Notice} (ap₂ (λ moved notice. moved ++ notice ∷ []) c.loop-notice.invariant w.moved_notice.ensures) (sym more))))
      | else-what_stays w ↦
          (let goes : notice_stays to c.notice-item.result ≡ false = sym c.what_stays.ensures ∙ w.if-what_stays.false in
          let more = left-going to c.args.notices.now c.loop-notice.notice-index c.notice-item.result within c.notice-item.is goes in
          cc)
    ]

use Rattle.std.proofs.Common.{ℕ, ◌+◌, [], length, refl, sym, ap, subst, ◌∙◌, arith, Option}
use Rattle.std.specs.Prelude.{Result}
use Rattle.std.proofs.lemmas.Result.{err_from_is_err_and}
use Rattle.boss_feeding.specs.declared.fault.FeedFault.{FeedFault}
use Rattle.boss_feeding.specs.Lines.{lines_text}
use Rattle.boss_feeding.specs.Nexts.{TellsNext}
use Rattle.boss_feeding.proofs.FirstRecords.{at_log, first_record, no_record, not_damaged}
use Rattle.boss_feeding.proofs.LogSteps.{some_broken, some_told}
use Rattle.boss_feeding.proofs.Writing.{nothing_told}
use Rattle.def_bytes.specs.Batches.{batch_text}
use Rattle.def_seal.specs.Seals.{sealed}
use Rattle.def_feed.specs.Feeds.{event_items}
use Rattle.boss_feeding.proofs.logs.tell_next.Goals as goal

pub tell_record-requires : goal.tell_record-requires
tell_record-requires g c =
    let shorter = c.without_sum-text.ensures.shorter in omega (arith, c.requires.few, c.in-Bytes.ensures.passes.1, ap length c.bytes.ensures, shorter)

pub returns-in_ok-more-in-Bytes-clause-told : goal.returns-in_ok-more-in-Bytes-clause-told
returns-in_ok-more-in-Bytes-clause-told g c tells takes events has =
    let place = c.args.journal.now.place in
    let reads = g.D.Disk.reads c.args.journal.now.disk in
    let after = c.next.new.self.place in
    let found = c.next.new.into.bytes in
    let first = first_record place events reads has after found (c.in-Bytes.ensures.tells tells has.front [] (at_log place events reads has)) in
    let version = c.version.ensures ∙ c.next.ensures.version ∙ c.requires.version tells in
    let text = c.without_sum-text.ensures.text first.seed place (batch_text first.some)
    (c.bytes.ensures ∙ first.text ∙ ap (λ v. sealed v first.seed place (batch_text first.some)) (sym version)) in
    some_told place events reads after found first c.args.from c.args.number (g.K.Sink.taken c.args.sink.now) (g.K.Sink.taken c.tell_record.new.sink) c.in_ok-more-in-Bytes.more
    (c.in_ok-more-in-Bytes.ensures.number first.some first.spelled_so text) (c.in_ok-more-in-Bytes.ensures.told takes first.some first.spelled_so text)

pub returns-in_err-more-in-Bytes-clause-told : goal.returns-in_err-more-in-Bytes-clause-told
returns-in_err-more-in-Bytes-clause-told g c tells takes events has =
    let place = c.args.journal.now.place in
    let reads = g.D.Disk.reads c.args.journal.now.disk in
    let after = c.next.new.self.place in
    let found = c.next.new.into.bytes in
    let old = g.K.Sink.taken c.args.sink.now in
    let new = g.K.Sink.taken c.tell_record.new.sink in
    let first = first_record place events reads has after found (c.in-Bytes.ensures.tells tells has.front [] (at_log place events reads has)) in
    let version = c.version.ensures ∙ c.next.ensures.version ∙ c.requires.version tells in
    let text = c.without_sum-text.ensures.text first.seed place (batch_text first.some)
    (c.bytes.ensures ∙ first.text ∙ ap (λ v. sealed v first.seed place (batch_text first.some)) (sym version)) in
    let p = err_from_is_err_and c.from_residual.result c.from_residual.ensures.1 in
    subst (λ (r : Result (Option ℕ) FeedFault). TellsNext c.args.from c.args.number events reads old new after r) (sym p.1)
    (some_broken place events reads after found first c.args.from c.args.number old new (c.in_err-more-in-Bytes.ensures.told takes first.some first.spelled_so text))

pub returns-in-Finish-clause-told : goal.returns-in-Finish-clause-told
returns-in-Finish-clause-told g c tells takes events has =
    let place = c.args.journal.now.place in
    let reads = g.D.Disk.reads c.args.journal.now.disk in
    (no_record place events reads has c.next.new.self.place (c.in-Finish.ensures.tells tells has.front [] (at_log place events reads has)), refl)

pub returns-in-Damaged-clause-told : goal.returns-in-Damaged-clause-told
returns-in-Damaged-clause-told g c tells takes events has =
    let place = c.args.journal.now.place in
    let reads = g.D.Disk.reads c.args.journal.now.disk in
    absurd (not_damaged place events reads has (c.in-Damaged.ensures.tells tells has.front [] (at_log place events reads has)))

pub returns-in-DiskFault-clause-told : goal.returns-in-DiskFault-clause-told
returns-in-DiskFault-clause-told g c tells takes events has =
    nothing_told (g.K.Sink.taken c.args.sink.now) (lines_text (event_items c.args.from (c.args.number + 1) events))

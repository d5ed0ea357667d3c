use Rattle.std.proofs.Common.{sym, subst}
use Rattle.std.specs.Prelude.{Result}
use Rattle.std.proofs.lemmas.Result.{err_from_is_err_and}
use Rattle.boss_feeding.specs.declared.fault.FeedFault.{FeedFault}
use Rattle.boss_feeding.specs.Lines.{lines_text}
use Rattle.boss_feeding.specs.Held.{text_size}
use Rattle.boss_feeding.proofs.Stood.{inside_at, text_at}
use Rattle.boss_feeding.proofs.Writing.{nothing_told}
use Rattle.def_log.specs.Versions.{newest_version}
use Rattle.boss_model.specs.Seen.{seen}
use Rattle.boss_outside.specs.Streams.{Writes}
use Rattle.def_bytes.specs.States.{state}
use Rattle.def_feed.specs.Feeds.{state_items}
use Rattle.boss_feeding.proofs.kept.tell_anew.Goals as goal

pub tell_text-requires : goal.tell_text-requires
tell_text-requires g c = record {
  low = c.text_of-place.ensures.low;
  inside = λ tells. inside_at c.text_of-place.result.0 73 c.text_of-place.result.1 (text_size newest_version c.in_ok-gate.gate) _ c.text_of-place.ensures.place c.text_of-place.ensures.size
      c.in_ok-gate.ensures.inside;
}

pub returns-in-Ok-clause-told : goal.returns-in-Ok-clause-told
returns-in-Ok-clause-told g c takes = c.in-Ok.ensures.told tt takes _
    (text_at c.text_of-place.result.0 73 c.text_of-place.result.1 (text_size newest_version c.in_ok-gate.gate) _ _ c.text_of-place.ensures.place c.text_of-place.ensures.size c.in_ok-gate.ensures.text)

pub returns-in-Err-WriteFault-clause-told : goal.returns-in-Err-WriteFault-clause-told
returns-in-Err-WriteFault-clause-told g c takes = c.in-Err-WriteFault.ensures.told tt takes _
    (text_at c.text_of-place.result.0 73 c.text_of-place.result.1 (text_size newest_version c.in_ok-gate.gate) _ _ c.text_of-place.ensures.place c.text_of-place.ensures.size c.in_ok-gate.ensures.text)

pub returns-in_err-gate-clause-told : goal.returns-in_err-gate-clause-told
returns-in_err-gate-clause-told g c takes =
    let old = g.K.Sink.taken c.args.sink.now in
    let all = lines_text (state_items c.args.before ((state 2).text (seen c.args.kept.now))) in
    let p = err_from_is_err_and c.from_residual-in_err-gate.result c.from_residual-in_err-gate.ensures.1 in
    subst (λ (r : Result (Unit {0}) FeedFault). Writes old old all r) (sym p.1) (nothing_told old all)

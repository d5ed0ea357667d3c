use Rattle.std.proofs.Common.{◌+◌, ◌≤◌, sym, subst, ap, ◌∙◌, arith, length}
use Rattle.std.specs.Prelude.{Result}
use Rattle.std.proofs.lemmas.Result.{err_from_is_err_and}
use Rattle.boss_feeding.specs.declared.fault.FeedFault.{FeedFault}
use Rattle.boss_feeding.specs.Faults.{ActiveCause}
use Rattle.boss_feeding.specs.Held.{HasText, text_size}
use Rattle.boss_feeding.specs.Lines.{lines_text}
use Rattle.boss_feeding.proofs.Writing.{nothing_told}
use Rattle.boss_feeding.proofs.Stood.{gate_far, inside_at, text_at, text_inside, text_there}
use Rattle.boss_model.specs.Seen.{seen}
use Rattle.boss_snapshot.specs.Fronts.{text_place, version_of}
use Rattle.boss_outside.specs.Streams.{Writes}
use Rattle.def_bytes.specs.States.{state}
use Rattle.def_feed.specs.Feeds.{state_items}
use Rattle.boss_feeding.proofs.kept.tell_base.Goals as goal

pub read_version-requires : goal.read_version-requires
read_version-requires g c tells =
    let far = gate_far _ _ _ _ _ (c.requires.kept tells).1 in
    let gate = (c.requires.kept tells).1.gate in
    omega (arith, far, gate)

pub tell_text-requires : goal.tell_text-requires
tell_text-requires g c =
    let version = c.in_ok-version.version in
    let gate = c.args.base.now.gate in
    record {
      low = c.text_of-place.ensures.low;
      inside = λ tells.
          let kept = c.requires.kept tells in
          let reads = g.D.Disk.reads c.args.disk.now in
          let here = c.in_ok-version.ensures.version tells in
          subst (λ b. c.text_of-place.result.0 + c.text_of-place.result.1 ≤ length b) (sym (c.in_ok-version.ensures.reads tells))
          (inside_at c.text_of-place.result.0 (text_place (version_of reads)) c.text_of-place.result.1 (text_size (version_of reads) gate) (length reads)
          (c.text_of-place.ensures.place ∙ ap text_place here) (c.text_of-place.ensures.size ∙ ap (λ v. text_size v gate) here)
          (text_inside kept.0 reads (seen c.args.base.now.kept) c.args.base.now.before gate kept.1));
    }

pub returns-else-version-eq1-clause-told : goal.returns-else-version-eq1-clause-told
returns-else-version-eq1-clause-told g c tells takes =
    let kept = c.requires.kept tells in
    let reads = g.D.Disk.reads c.args.disk.now in
    let d = seen c.args.base.now.kept in
    let gate = c.args.base.now.gate in
    let here = c.in_ok-version.ensures.version tells in
    c.tell_text.ensures.told tells takes ((state 2).text d)
    (subst (HasText c.text_of-place.result.0 c.text_of-place.result.1 ((state 2).text d)) (sym (c.in_ok-version.ensures.reads tells))
    (text_at c.text_of-place.result.0 (text_place (version_of reads)) c.text_of-place.result.1 (text_size (version_of reads) gate) ((state 2).text d) reads
    (c.text_of-place.ensures.place ∙ ap text_place here) (c.text_of-place.ensures.size ∙ ap (λ v. text_size v gate) here)
    (text_there kept.0 reads d c.args.base.now.before gate kept.1 (λ one. c.if-version-eq1.false (here ∙ one)))))

pub returns-then-version-eq1-clause-cause : goal.returns-then-version-eq1-clause-cause
returns-then-version-eq1-clause-cause g c =
    subst (λ now. ActiveCause (g.D.Disk.faults c.args.disk.now) now c.tell_anew.result) (sym c.in_ok-version.ensures.cause.fine) (c.tell_anew.ensures.cause (g.D.Disk.faults c.args.disk.now))

pub returns-in_err-version-clause-told : goal.returns-in_err-version-clause-told
returns-in_err-version-clause-told g c tells takes =
    let old = g.K.Sink.taken c.args.sink.now in
    let all = lines_text (state_items c.args.base.now.before ((state 2).text (seen c.args.base.now.kept))) in
    let p = err_from_is_err_and c.from_residual.result c.from_residual.ensures.1 in
    subst (λ (r : Result (Unit {0}) FeedFault). Writes old old all r) (sym p.1) (nothing_told old all)

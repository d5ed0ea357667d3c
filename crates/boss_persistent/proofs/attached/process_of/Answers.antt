use Rattle.std.proofs.Common.{◌≡◌, ◌==◌, ◌≤◌, true, false, length, sym, ◌∙◌, ap, arith, Some}
use Rattle.std.specs.Option.{option_map}
use Rattle.boss_model.specs.State.{Attachment}
use Rattle.boss_persistent.proofs.Firsts.{skipped-more, find-here, find-none}
use Rattle.boss_persistent.proofs.attached.process_of.Goals as goal

pub loop-attachment-preserved : goal.loop-attachment-preserved
loop-attachment-preserved c =
    let own : c.attachment.inside.session ≡ c.attachment-item.result.session = ap (λ a. a.session) c.attachment.view_is in
    let other : (c.attachment-item.result.session == c.args.session) ≡ false = rw (← own) (sym c.eq.ensures ∙ c.if-eq.false) in
    skipped-more (λ (attachment : Attachment). attachment.session == c.args.session) c.args.attached.now c.loop-attachment.attachment-index c.attachment-item.result
    c.loop-attachment-test.true c.attachment-item.is other c.loop-attachment.invariant

pub returns-then-eq : goal.returns-then-eq
returns-then-eq c =
    let own : c.attachment.inside.session ≡ c.attachment-item.result.session = ap (λ a. a.session) c.attachment.view_is in
    let same : (c.attachment-item.result.session == c.args.session) ≡ true = rw (← own) (sym c.eq.ensures ∙ c.if-eq.true) in
    let found = find-here (λ (attachment : Attachment). attachment.session == c.args.session) c.args.attached.now c.loop-attachment.attachment-index c.attachment-item.result
    c.loop-attachment-test.true c.attachment-item.is same c.loop-attachment.invariant in
    ap (λ (a : Attachment). Some a.process) c.attachment.view_is ∙ sym (ap (option_map (λ a. a.process)) found)

pub returns : goal.returns
returns c =
    let past : length c.args.attached.now ≤ c.loop-attachment.attachment-index = omega arith in
    let none = find-none (λ (attachment : Attachment). attachment.session == c.args.session) c.args.attached.now c.loop-attachment.attachment-index past c.loop-attachment.invariant in
    sym (ap (option_map (λ a. a.process)) none)

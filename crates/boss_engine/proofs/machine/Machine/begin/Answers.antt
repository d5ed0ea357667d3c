use Rattle.std.proofs.Common.{◌≡◌, ap, ◌∙◌}
use Rattle.boss_model.specs.declared.kept.Acceptance.TheVariants as acceptance
use Rattle.boss_model.specs.Submit.{first_until}
use Rattle.boss_persistent.specs.Lasting.{persistent_of}
use Rattle.boss_persistent.specs.Replying.{accepted, with_reply}
use Rattle.boss_engine.proofs.machine.Machine.begin.Goals as goal

pub returns-clause-after : goal.returns-clause-after
returns-clause-after c = λ owner policy writes is.
    let seq = c.args.seq in
    let next = c.args.self.now.lasting.next_txn in
    let after = c.submit.new.self in
    let own : c.owner-owner.result ≡ owner = c.owner-owner.ensures ∙ ap (λ t. t.owner) is.recorded in
    let until : c.first_until-until.result ≡ first_until c.args.leases.items = c.first_until-until.ensures ∙ ap first_until c.deref.ensures.value in
    let kept : c.accept.new.self ≡ accepted owner seq (acceptance.Accepted next (first_until c.args.leases.items)) after.processes =
    c.accept.ensures.kept ∙ (λ i. accepted (own i) seq (acceptance.Accepted next (until i)) after.processes) in
    (λ i. record (persistent_of after) { processes = kept i })
    ∙ ap (with_reply owner seq (acceptance.Accepted next (first_until c.args.leases.items))) (c.submit.ensures.after owner policy writes is)

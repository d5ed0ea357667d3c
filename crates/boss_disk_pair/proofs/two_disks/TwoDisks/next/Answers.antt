use Rattle.std.proofs.Common.{◌≡◌, ◌∙◌, ap, sym, subst}
use Rattle.def_seal.specs.Seals.{sealed}
use Rattle.def_disk_pair.specs.Contents.{records_of}
use Rattle.boss_journal.specs.declared.reading.NextRecord.TheVariants.{Bytes, Damaged}
use Rattle.boss_disk_pair.specs.Reads.{reads_to, ends_at, stands_for, is_damaged_at}
use Rattle.boss_disk_pair.proofs.Readings.{bytes_place, damaged_place, damaged_still, moved, leads_on, leads_nowhere, sum_wrong, stands_nowhere, at_end, stands}
use Rattle.boss_disk_pair.proofs.two_disks.TwoDisks.next.Goals as goal

pub returns-then-cut_sum-clause-leads : goal.returns-then-cut_sum-clause-leads
unfolding reads_to
returns-then-cut_sum-clause-leads g c plant from d before events at place is batch after text next = λ told.
    let here = at told in
    let there = c.in-Bytes.ensures.tells told here.coming.front (records_of c.args.self.now.journal.version here.coming.front here.coming.batches) here.at in
    let cut = c.cut_sum.ensures.right c.if-cut_sum.true
    ∙ ap (λ v. sealed v c.args.self.now.seed c.in-Bytes.place c.cut_sum.new.into.bytes) c.next.ensures.version
    ∙ ap (λ p. sealed c.args.self.now.journal.version c.args.self.now.seed p c.cut_sum.new.into.bytes) c.in-Bytes.ensures.passes.0 in
    moved _ _ _ _ _ _ _ _ _ c.args.self.now.journal.place _ _ events d _ _ _ _ _ c.next.ensures.version (c.next.ensures.reads told)
    (leads_on _ _ _ _ _ _ _ _ _ _ _ _ _ _ here _ c.cut_sum.new.into.bytes c.next.new.into.bytes batch after there cut text next)

pub returns-then-cut_sum-clause-broken : goal.returns-then-cut_sum-clause-broken
unfolding reads_to is_damaged_at
returns-then-cut_sum-clause-broken g c plant from d before events at place is none = λ told.
    let here = at told in
    let there = c.in-Bytes.ensures.tells told here.coming.front (records_of c.args.self.now.journal.version here.coming.front here.coming.batches) here.at in
    let cut = c.cut_sum.ensures.right c.if-cut_sum.true
    ∙ ap (λ v. sealed v c.args.self.now.seed c.in-Bytes.place c.cut_sum.new.into.bytes) c.next.ensures.version
    ∙ ap (λ p. sealed c.args.self.now.journal.version c.args.self.now.seed p c.cut_sum.new.into.bytes) c.in-Bytes.ensures.passes.0 in
    damaged_still plant c.args.self.now.digest c.args.self.now.second _ _ _ c.args.self.now.journal.place place
    (sym (bytes_place c.in-Bytes.place place is) ∙ c.in-Bytes.ensures.passes.0) (c.next.ensures.reads told)
    (leads_nowhere _ _ _ _ _ _ _ _ _ _ _ _ _ _ here _ c.cut_sum.new.into.bytes c.next.new.into.bytes there cut none)

pub returns-else-cut_sum-clause-damaged : goal.returns-else-cut_sum-clause-damaged
unfolding reads_to is_damaged_at
returns-else-cut_sum-clause-damaged g c plant from d before events at place is = λ told.
    let here = at told in
    let there = c.in-Bytes.ensures.tells told here.coming.front (records_of c.args.self.now.journal.version here.coming.front here.coming.batches) here.at in
    damaged_still plant c.args.self.now.digest c.args.self.now.second _ _ _ c.args.self.now.journal.place place
    (sym (damaged_place c.in-Bytes.place place is) ∙ c.in-Bytes.ensures.passes.0) (c.next.ensures.reads told)
    (sum_wrong _ _ _ _ _ _ _ _ _ _ _ _ _ _ here _ c.next.new.into.bytes there
    (λ bytes same. c.cut_sum.ensures.wrong c.if-cut_sum.false bytes
    (same ∙ ap (λ v. sealed v c.args.self.now.seed c.args.self.now.journal.place bytes) (sym c.next.ensures.version)
    ∙ ap (λ p. sealed c.next.new.self.version c.args.self.now.seed p bytes) (sym c.in-Bytes.ensures.passes.0))))

pub returns-in-Finish-clause-ends : goal.returns-in-Finish-clause-ends
unfolding reads_to ends_at
returns-in-Finish-clause-ends g c plant from d before events at is = λ told.
    let here = at told in
    let there = c.in-Finish.ensures.tells told here.coming.front (records_of c.args.self.now.journal.version here.coming.front here.coming.batches) here.at in
    at_end _ _ _ _ _ _ _ _ _ _ _ _ _ _ here _ _ _ c.next.ensures.version (c.next.ensures.reads told) there

pub returns-in-Finish-clause-stands : goal.returns-in-Finish-clause-stands
unfolding reads_to stands_for
returns-in-Finish-clause-stands g c plant from d before events at is = λ told.
    let here = at told in
    let there = c.in-Finish.ensures.tells told here.coming.front (records_of c.args.self.now.journal.version here.coming.front here.coming.batches) here.at in
    stands _ _ _ _ _ _ _ _ _ _ _ _ _ _ here _ _ (c.next.ensures.reads told) there

pub returns-in-Damaged-clause-damaged : goal.returns-in-Damaged-clause-damaged
unfolding reads_to is_damaged_at
returns-in-Damaged-clause-damaged g c plant from d before events at place is = λ told.
    let here = at told in
    let there = c.in-Damaged.ensures.tells told here.coming.front (records_of c.args.self.now.journal.version here.coming.front here.coming.batches) here.at in
    damaged_still plant c.args.self.now.digest c.args.self.now.second _ _ _ c.args.self.now.journal.place place
    (sym (damaged_place c.in-Damaged.place place is) ∙ c.in-Damaged.ensures.passes.0) (c.next.ensures.reads told)
    (stands_nowhere _ _ _ _ _ _ _ _ _ _ _ _ _ _ here there)

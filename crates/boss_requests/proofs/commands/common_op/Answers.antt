use Rattle.std.proofs.Common.{◌≡◌, codes, sym, ap, arith, rules}
use Rattle.std.proofs.lemmas.Slice.Eq.{text_from_reads}
use Rattle.def_wire.specs.Requests.{common_op}
use Rattle.boss_requests.proofs.commands.common_op.Goals as goal

pub returns-in-attach-clause-op : goal.returns-in-attach-clause-op
returns-in-attach-clause-op c =
    let same : c.args.text.now ≡ codes "attach" = text_from_reads _ (codes "attach") (omega (arith, c.in-attach.len_at_least, c.in-attach.len_below)) (search rules) in
    sym (ap common_op same)

pub returns-in-submit-clause-op : goal.returns-in-submit-clause-op
returns-in-submit-clause-op c =
    let same : c.args.text.now ≡ codes "submit" = text_from_reads _ (codes "submit") (omega (arith, c.in-submit.len_at_least, c.in-submit.len_below)) (search rules) in
    sym (ap common_op same)

pub returns-in-cancel-clause-op : goal.returns-in-cancel-clause-op
returns-in-cancel-clause-op c =
    let same : c.args.text.now ≡ codes "cancel" = text_from_reads _ (codes "cancel") (omega (arith, c.in-cancel.len_at_least, c.in-cancel.len_below)) (search rules) in
    sym (ap common_op same)

pub returns-in-status-clause-op : goal.returns-in-status-clause-op
returns-in-status-clause-op c =
    let same : c.args.text.now ≡ codes "status" = text_from_reads _ (codes "status") (omega (arith, c.in-status.len_at_least, c.in-status.len_below)) (search rules) in
    sym (ap common_op same)

pub returns-in-notices-clause-op : goal.returns-in-notices-clause-op
returns-in-notices-clause-op c =
    let same : c.args.text.now ≡ codes "notices" = text_from_reads _ (codes "notices") (omega (arith, c.in-notices.len_at_least, c.in-notices.len_below)) (search rules) in
    sym (ap common_op same)

pub returns-in-points-clause-op : goal.returns-in-points-clause-op
returns-in-points-clause-op c =
    let same : c.args.text.now ≡ codes "points" = text_from_reads _ (codes "points") (omega (arith, c.in-points.len_at_least, c.in-points.len_below)) (search rules) in
    sym (ap common_op same)

pub returns-in-version-clause-op : goal.returns-in-version-clause-op
returns-in-version-clause-op c =
    let same : c.args.text.now ≡ codes "version" = text_from_reads _ (codes "version") (omega (arith, c.in-version.len_at_least, c.in-version.len_below)) (search rules) in
    sym (ap common_op same)

use Rattle.std.proofs.Common.{◌∙◌, sym, subst}
use Rattle.std.specs.Prelude.{IfOk, IfErr}
use Rattle.boss_pair_find.specs.Finds.{Finds, Starts, found_first, found_second}
use Rattle.boss_pair_find.specs.Refusals.{FindRefuses}
use Rattle.boss_pair_find.specs.Two.{counts}
use Rattle.boss_pair_find.proofs.Orders.{at_both}
use Rattle.boss_model.specs.Catalogue.{actuators}
use Rattle.boss_opening.specs.Checks.{CheckCause, ChecksPair}
use Rattle.boss_opening.specs.Opens.{OpenRefuses, digest_of}
use Rattle.boss_opening.proofs.Openings.{of_find}
use Rattle.boss_disk_pair.specs.Causes.{Counts}
use Rattle.boss_opening.proofs.checking.check.Goals as goal

pub check_found-requires-clause-finds : goal.check_found-requires-clause-finds
check_found-requires-clause-finds g c told =
    at_both (λ a b. Finds (digest_of c.args.catalogue.now) a b c.in-Ok.found) _ _ _ _ (sym (c.in-Ok.ensures.first_reads told)) (sym (c.in-Ok.ensures.second_reads told))
    (subst (λ digest. Finds digest (g.D.Disk.reads c.args.first) (g.D.Disk.reads c.args.second) c.in-Ok.found) c.digest.ensures (c.in-Ok.ensures.finds told))

pub check_found-requires-clause-starts : goal.check_found-requires-clause-starts
check_found-requires-clause-starts g c = subst (λ digest. Starts digest c.in-Ok.found) c.digest.ensures c.in-Ok.ensures.starts

pub returns-in-Ok-clause-tells : goal.returns-in-Ok-clause-tells
returns-in-Ok-clause-tells g c told =
    at_both (λ a b. IfOk c.check_found.result.1 (ChecksPair (actuators c.args.catalogue.now) (digest_of c.args.catalogue.now) a b)) _ _ _ _ (c.in-Ok.ensures.first_reads told) (c.in-Ok.ensures.second_reads told)
    (c.check_found.ensures.tells told)

pub returns-in-Ok-clause-refuses : goal.returns-in-Ok-clause-refuses
returns-in-Ok-clause-refuses g c told =
    at_both (λ a b. IfErr c.check_found.result.1 (OpenRefuses (actuators c.args.catalogue.now) (digest_of c.args.catalogue.now) a b)) _ _ _ _ (c.in-Ok.ensures.first_reads told) (c.in-Ok.ensures.second_reads told)
    (c.check_found.ensures.refuses told)

pub returns-in-Ok-clause-cause : goal.returns-in-Ok-clause-cause
returns-in-Ok-clause-cause g c = subst (λ (before : Counts). CheckCause before (counts (g.D.Disk.faults c.check_found.result.0.0) (g.D.Disk.faults c.check_found.result.0.1)) c.check_found.result.1) c.in-Ok.ensures.cause c.check_found.ensures.cause

pub returns-in-Err-clause-refuses : goal.returns-in-Err-clause-refuses
returns-in-Err-clause-refuses g c told =
    of_find (actuators c.args.catalogue.now) (digest_of c.args.catalogue.now) (g.D.Disk.reads c.args.first) (g.D.Disk.reads c.args.second) c.in-Err.refusal
    (subst (λ digest. FindRefuses digest (g.D.Disk.reads c.args.first) (g.D.Disk.reads c.args.second) c.in-Err.refusal) c.digest.ensures (c.in-Err.ensures.refuses told))

use Rattle.std.proofs.Common.{false, sym, subst, arith}
use Rattle.std.specs.Prelude.{IfOk}
use Rattle.boss_pair_find.specs.Finds.{Finds, first_back, second_back}
use Rattle.boss_pair_find.specs.Holds.{IsPlain}
use Rattle.boss_pair_find.specs.Two.{counts}
use Rattle.boss_pair_find.proofs.Told.{front_refused, fault_refused, disk_cause}
use Rattle.boss_pair_find.specs.Refusals.{AnswerCause}
use Rattle.boss_disk_pair.specs.Rests.{IsInForce}
use Rattle.boss_disk_pair.proofs.Findings.{plain_long}
use Rattle.boss_pair_find.proofs.finding.find_plain.Goals as goal

pub check_front-requires : goal.check_front-requires
check_front-requires g c told = let long = plain_long (g.D.Disk.reads c.args.first) (c.requires.kind told) in omega (arith, long)

pub begin_plain-requires-clause-here : goal.begin_plain-requires-clause-here
begin_plain-requires-clause-here g c told = subst (λ bytes. IsInForce false bytes (g.D.Disk.reads c.args.second)) (sym (c.check_front.ensures.reads told)) (c.requires.here told)

pub begin_plain-requires-clause-plain : goal.begin_plain-requires-clause-plain
begin_plain-requires-clause-plain g c told =
    subst (IsPlain c.args.digest.now) (sym (c.check_front.ensures.reads told)) (c.requires.kind told, (c.in-Ok.ensures.known told).0, (c.in-Ok.ensures.known told).1)

pub returns-in-Ok-clause-finds : goal.returns-in-Ok-clause-finds
returns-in-Ok-clause-finds g c told =
    subst (λ bytes. IfOk c.begin_plain.result (Finds c.args.digest.now bytes (g.D.Disk.reads c.args.second))) (c.check_front.ensures.reads told) (c.begin_plain.ensures.finds told)

pub returns-in-Ok-clause-refuses : goal.returns-in-Ok-clause-refuses
returns-in-Ok-clause-refuses g c told = fault_refused c.begin_plain.result c.args.digest.now (g.D.Disk.reads c.args.first) (g.D.Disk.reads c.args.second) c.begin_plain.ensures.refuses

pub returns-in-Ok-clause-cause : goal.returns-in-Ok-clause-cause
returns-in-Ok-clause-cause g c =
    subst
    (λ n. AnswerCause (counts n (g.D.Disk.faults c.args.second)) (counts (g.D.Disk.faults (first_back c.begin_plain.result)) (g.D.Disk.faults (second_back c.begin_plain.result)))
    c.begin_plain.result)
    c.in-Ok.ensures.fine c.begin_plain.ensures.cause

pub returns-in-Err-clause-refuses : goal.returns-in-Err-clause-refuses
returns-in-Err-clause-refuses g c told =
    front_refused g.D.Disk.reads false c.args.first c.args.second (c.requires.here told) c.args.digest.now c.in-Err.refusal (c.in-Err.ensures.refuses told)

pub returns-in-Err-clause-cause : goal.returns-in-Err-clause-cause
returns-in-Err-clause-cause g c = disk_cause g.D.Disk.faults _ c.args.first c.args.second false c.in-Err.refusal c.in-Err.ensures.cause

use Rattle.std.proofs.Common.{inl, false, refl, sym, ap, subst, ◌∙◌, arith}
use Rattle.boss_pair_find.specs.Holds.{IsPlain}
use Rattle.boss_pair_find.specs.Refusals.{of_journal, PairCause}
use Rattle.boss_pair_find.proofs.Begun.{plain_stands}
use Rattle.boss_pair_find.proofs.Orders.{of_one, first_as, second_as, counts_as, begun_at}
use Rattle.boss_disk_pair.proofs.Findings.{plain_long}
use Rattle.boss_pair_find.proofs.finding.begin_plain.Goals as goal

pub open_after-requires : goal.open_after-requires
open_after-requires g c told = let long = plain_long (g.D.Disk.reads c.args.first) (c.requires.plain told).0 in omega (arith, long)

pub returns-in-Ok-clause-finds : goal.returns-in-Ok-clause-finds
returns-in-Ok-clause-finds g c told =
    let stands = plain_stands (g.D.Disk.reads c.args.first) (g.D.Disk.reads c.in-Ok.journal.disk) (g.D.Disk.reads c.args.second) c.in-Ok.journal.version
    (c.in-Ok.ensures.reads told) (c.in-Ok.ensures.version told) c.args.digest.now (c.requires.here told) (c.requires.plain told) in (
      of_one g.D.Disk.reads (IsPlain c.args.digest.now) false c.args.first c.args.second (c.requires.here told) (c.requires.plain told),
      λ plant. c.begin-pair.ensures.plain told stands.0 stands.1 stands.2 stands.3 stands.4 (c.in-Ok.ensures.place told) refl plant,
    )

pub returns-in-Ok-clause-starts : goal.returns-in-Ok-clause-starts
returns-in-Ok-clause-starts g c = record {
  first = begun_at c.begin-pair.result false c.in-Ok.journal c.args.second c.begin-pair.ensures.order c.begin-pair.ensures.journal c.begin-pair.ensures.spare
      c.args.digest.now c.begin-pair.ensures.digest c.begin-pair.ensures.going c.in-Ok.ensures.start.0;
  events = c.begin-pair.ensures.events;
  generation = c.begin-pair.ensures.generation;
}

pub returns-in-Ok-clause-first_reads : goal.returns-in-Ok-clause-first_reads
returns-in-Ok-clause-first_reads g c told =
    first_as c.begin-pair.result false c.in-Ok.journal c.args.second c.begin-pair.ensures.order c.begin-pair.ensures.journal c.begin-pair.ensures.spare
    g.D.Disk.reads c.args.first (c.in-Ok.ensures.reads told)

pub returns-in-Ok-clause-second_reads : goal.returns-in-Ok-clause-second_reads
returns-in-Ok-clause-second_reads g c told =
    second_as c.begin-pair.result false c.in-Ok.journal c.args.second c.begin-pair.ensures.order c.begin-pair.ensures.journal c.begin-pair.ensures.spare
    g.D.Disk.reads c.args.first (c.in-Ok.ensures.reads told)

pub returns-in-Ok-clause-first_windows : goal.returns-in-Ok-clause-first_windows
returns-in-Ok-clause-first_windows g c told =
    first_as c.begin-pair.result false c.in-Ok.journal c.args.second c.begin-pair.ensures.order c.begin-pair.ensures.journal c.begin-pair.ensures.spare
    g.D.Disk.story c.args.first (c.in-Ok.ensures.windows told)

pub returns-in-Ok-clause-second_windows : goal.returns-in-Ok-clause-second_windows
returns-in-Ok-clause-second_windows g c told =
    second_as c.begin-pair.result false c.in-Ok.journal c.args.second c.begin-pair.ensures.order c.begin-pair.ensures.journal c.begin-pair.ensures.spare
    g.D.Disk.story c.args.first (c.in-Ok.ensures.windows told)

pub returns-in-Ok-clause-cause : goal.returns-in-Ok-clause-cause
returns-in-Ok-clause-cause g c =
    counts_as c.begin-pair.result false c.in-Ok.journal c.args.second c.begin-pair.ensures.order c.begin-pair.ensures.journal c.begin-pair.ensures.spare
    g.D.Disk.faults c.args.first c.in-Ok.ensures.cause

pub returns-in-Err-clause-refuses : goal.returns-in-Err-clause-refuses
returns-in-Err-clause-refuses g c = c.from.ensures ∙ ap of_journal c.in-Err.ensures.cause.0

pub returns-in-Err-clause-cause : goal.returns-in-Err-clause-cause
returns-in-Err-clause-cause g c =
    subst (PairCause _ _) (sym (c.from.ensures ∙ ap of_journal c.in-Err.ensures.cause.0)) (inl (c.in-Err.ensures.cause.1, refl))

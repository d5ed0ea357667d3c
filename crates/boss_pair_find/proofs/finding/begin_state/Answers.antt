use Rattle.std.proofs.Common.{refl, sym, ap, subst, ◌∙◌, []}
use Rattle.boss_pair_find.specs.declared.refusal.DurableRefusal.TheVariants.{DiskFault}
use Rattle.boss_pair_find.specs.Refusals.{of_journal, PairCause}
use Rattle.boss_pair_find.specs.Two.{counts}
use Rattle.boss_pair_find.proofs.Begun.{state_stands, kept_stands, state_of_kind}
use Rattle.boss_pair_find.proofs.Orders.{at_both, of_one, first_as, second_as, counts_as, begun_at, place_of, first_stays, second_stays}
use Rattle.boss_pair_find.proofs.Told.{one_rose}
use Rattle.def_log.specs.Kinds.{kind_of}
use Rattle.boss_model.specs.Seen.{seen}
use Rattle.boss_snapshot.specs.Refusals.{IsKeptState, IsState}
use Rattle.boss_disk_pair.specs.Orders.{first_of, second_of}
use Rattle.boss_disk_pair.specs.Reads.{reads_to}
use Rattle.boss_pair_find.proofs.finding.begin_state.Goals as goal

pub open_after-requires : goal.open_after-requires
open_after-requires g c told = (c.requires.kept told).gate

pub returns-in-Ok-clause-finds : goal.returns-in-Ok-clause-finds
returns-in-Ok-clause-finds g c told =
    let stands = state_stands (g.D.Disk.reads c.args.active) (g.D.Disk.reads c.in-Ok.journal.disk) (g.D.Disk.reads c.args.spare) c.in-Ok.journal.version
    (c.in-Ok.ensures.reads told) (c.in-Ok.ensures.version told) c.args.second c.args.generation (c.requires.here told) (c.requires.kind told) in
    let gate = place_of _ _ c.begin-pair.ensures.journal ∙ c.in-Ok.ensures.place told in (
      of_one g.D.Disk.reads
          (λ bytes. IsState (kind_of bytes) × IsKeptState c.args.digest.now bytes (seen c.args.read.0) c.begin-pair.result.events c.begin-pair.result.journal.place)
          c.args.second c.args.active c.args.spare (c.requires.here told) (
            state_of_kind (g.D.Disk.reads c.args.active) c.args.generation (c.requires.kind told),
            kept_stands c.args.digest.now _ _ _ _ _ _ _ refl (c.begin-pair.ensures.events ∙ c.min-events.ensures) gate (c.requires.kept told),
          ),
      λ plant sound.
          subst (λ n. reads_to c.begin-pair.result plant (seen c.args.read.0) n [] (seen c.args.read.0)) (sym c.begin-pair.ensures.events)
          (c.begin-pair.ensures.kept told stands.0 stands.1 stands.2 (seen c.args.read.0)
          (kept_stands c.args.digest.now _ _ _ _ _ _ _ (c.in-Ok.ensures.reads told) c.min-events.ensures (c.in-Ok.ensures.place told) (c.requires.kept told)) plant sound),
    )

pub returns-in-Ok-clause-starts : goal.returns-in-Ok-clause-starts
returns-in-Ok-clause-starts g c =
    begun_at c.begin-pair.result c.args.second c.in-Ok.journal c.args.spare c.begin-pair.ensures.order c.begin-pair.ensures.journal c.begin-pair.ensures.spare
    c.args.digest.now c.begin-pair.ensures.digest c.begin-pair.ensures.going c.in-Ok.ensures.start.0

pub returns-in-Ok-clause-first_reads : goal.returns-in-Ok-clause-first_reads
returns-in-Ok-clause-first_reads g c told =
    first_as c.begin-pair.result c.args.second c.in-Ok.journal c.args.spare c.begin-pair.ensures.order c.begin-pair.ensures.journal c.begin-pair.ensures.spare
    g.D.Disk.reads c.args.active (c.in-Ok.ensures.reads told)

pub returns-in-Ok-clause-second_reads : goal.returns-in-Ok-clause-second_reads
returns-in-Ok-clause-second_reads g c told =
    second_as c.begin-pair.result c.args.second c.in-Ok.journal c.args.spare c.begin-pair.ensures.order c.begin-pair.ensures.journal c.begin-pair.ensures.spare
    g.D.Disk.reads c.args.active (c.in-Ok.ensures.reads told)

pub returns-in-Ok-clause-first_windows : goal.returns-in-Ok-clause-first_windows
returns-in-Ok-clause-first_windows g c told =
    first_as c.begin-pair.result c.args.second c.in-Ok.journal c.args.spare c.begin-pair.ensures.order c.begin-pair.ensures.journal c.begin-pair.ensures.spare
    g.D.Disk.story c.args.active (c.in-Ok.ensures.windows told)

pub returns-in-Ok-clause-second_windows : goal.returns-in-Ok-clause-second_windows
returns-in-Ok-clause-second_windows g c told =
    second_as c.begin-pair.result c.args.second c.in-Ok.journal c.args.spare c.begin-pair.ensures.order c.begin-pair.ensures.journal c.begin-pair.ensures.spare
    g.D.Disk.story c.args.active (c.in-Ok.ensures.windows told)

pub returns-in-Ok-clause-cause : goal.returns-in-Ok-clause-cause
returns-in-Ok-clause-cause g c =
    counts_as c.begin-pair.result c.args.second c.in-Ok.journal c.args.spare c.begin-pair.ensures.order c.begin-pair.ensures.journal c.begin-pair.ensures.spare
    g.D.Disk.faults c.args.active c.in-Ok.ensures.cause

pub returns-in-Err-clause-refuses : goal.returns-in-Err-clause-refuses
returns-in-Err-clause-refuses g c = c.from.ensures ∙ ap of_journal c.in-Err.ensures.cause.0

pub returns-in-Err-clause-first_reads : goal.returns-in-Err-clause-first_reads
returns-in-Err-clause-first_reads g c told =
    ap g.D.Disk.reads c.in_order.ensures.0 ∙ first_stays g.D.Disk.reads c.in-Err.active c.args.active c.args.spare (c.in-Err.ensures.reads told) c.args.second

pub returns-in-Err-clause-second_reads : goal.returns-in-Err-clause-second_reads
returns-in-Err-clause-second_reads g c told =
    ap g.D.Disk.reads c.in_order.ensures.1 ∙ second_stays g.D.Disk.reads c.in-Err.active c.args.active c.args.spare (c.in-Err.ensures.reads told) c.args.second

pub returns-in-Err-clause-first_windows : goal.returns-in-Err-clause-first_windows
returns-in-Err-clause-first_windows g c told =
    ap g.D.Disk.story c.in_order.ensures.0 ∙ first_stays g.D.Disk.story c.in-Err.active c.args.active c.args.spare (c.in-Err.ensures.windows told) c.args.second

pub returns-in-Err-clause-second_windows : goal.returns-in-Err-clause-second_windows
returns-in-Err-clause-second_windows g c told =
    ap g.D.Disk.story c.in_order.ensures.1 ∙ second_stays g.D.Disk.story c.in-Err.active c.args.active c.args.spare (c.in-Err.ensures.windows told) c.args.second

pub returns-in-Err-clause-cause : goal.returns-in-Err-clause-cause
returns-in-Err-clause-cause g c =
    subst (PairCause _ _) (sym (c.from.ensures ∙ ap of_journal c.in-Err.ensures.cause.0))
    (at_both
    (λ x y. PairCause (counts (g.D.Disk.faults (first_of c.args.second c.args.active c.args.spare)) (g.D.Disk.faults (second_of c.args.second c.args.active c.args.spare)))
    (counts (g.D.Disk.faults x) (g.D.Disk.faults y)) DiskFault)
    _ _ _ _ (sym c.in_order.ensures.0) (sym c.in_order.ensures.1)
    (one_rose g.D.Disk.faults c.in-Err.active c.args.active c.args.spare c.args.second c.in-Err.ensures.cause.1))

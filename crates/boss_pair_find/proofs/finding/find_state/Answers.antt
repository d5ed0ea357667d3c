use Rattle.std.proofs.Common.{sym, ap, subst, ◌∙◌}
use Rattle.std.specs.Prelude.{IfOk}
use Rattle.boss_pair_find.specs.Finds.{Finds, first_back, second_back}
use Rattle.boss_pair_find.specs.Refusals.{of_state, FindRefuses, PairCause, AnswerCause}
use Rattle.boss_pair_find.specs.Two.{counts}
use Rattle.boss_pair_find.proofs.Begun.{state_of_kind}
use Rattle.boss_pair_find.proofs.Orders.{at_both, first_stays, second_stays}
use Rattle.boss_pair_find.proofs.Told.{state_refused, fault_refused, state_cause, none_rose}
use Rattle.def_log.specs.Kinds.{kind_of}
use Rattle.boss_model.specs.Seen.{seen}
use Rattle.boss_snapshot.specs.Refusals.{IsKeptState}
use Rattle.boss_disk_pair.specs.Orders.{InOrder, first_of, second_of}
use Rattle.boss_disk_pair.specs.Rests.{IsInForce}
use Rattle.boss_pair_find.proofs.finding.find_state.Goals as goal

pub read_state-requires : goal.read_state-requires
read_state-requires g c told = state_of_kind (g.D.Disk.reads c.args.active) c.args.generation (c.requires.kind told)

pub begin_state-requires-clause-here : goal.begin_state-requires-clause-here
begin_state-requires-clause-here g c told =
    subst (λ bytes. InOrder (IsInForce c.args.second) c.args.second bytes (g.D.Disk.reads c.args.spare)) (sym (c.read_state.ensures.reads told)) (c.requires.here told)

pub begin_state-requires-clause-kind : goal.begin_state-requires-clause-kind
begin_state-requires-clause-kind g c told = ap kind_of (c.read_state.ensures.reads told) ∙ c.requires.kind told

pub begin_state-requires-clause-kept : goal.begin_state-requires-clause-kept
begin_state-requires-clause-kept g c told =
    subst (λ bytes. IsKeptState c.args.digest.now bytes (seen c.in-Ok.read.0) c.in-Ok.read.1 c.in-Ok.read.2) (sym (c.read_state.ensures.reads told))
    (c.in-Ok.ensures.finds told)

pub returns-in-Ok-clause-finds : goal.returns-in-Ok-clause-finds
returns-in-Ok-clause-finds g c told =
    at_both (λ a b. IfOk c.begin_state.result (Finds c.args.digest.now a b)) _ _ _ _
    (first_stays g.D.Disk.reads c.read_state.new.disk c.args.active c.args.spare (c.read_state.ensures.reads told) c.args.second)
    (second_stays g.D.Disk.reads c.read_state.new.disk c.args.active c.args.spare (c.read_state.ensures.reads told) c.args.second)
    (c.begin_state.ensures.finds told)

pub returns-in-Ok-clause-refuses : goal.returns-in-Ok-clause-refuses
returns-in-Ok-clause-refuses g c told = fault_refused c.begin_state.result c.args.digest.now (g.D.Disk.reads (first_of c.args.second c.args.active c.args.spare)) (g.D.Disk.reads (second_of c.args.second c.args.active c.args.spare)) c.begin_state.ensures.refuses

pub returns-in-Ok-clause-first_reads : goal.returns-in-Ok-clause-first_reads
returns-in-Ok-clause-first_reads g c told =
    c.begin_state.ensures.first_reads told
    ∙ first_stays g.D.Disk.reads c.read_state.new.disk c.args.active c.args.spare (c.read_state.ensures.reads told) c.args.second

pub returns-in-Ok-clause-second_reads : goal.returns-in-Ok-clause-second_reads
returns-in-Ok-clause-second_reads g c told =
    c.begin_state.ensures.second_reads told
    ∙ second_stays g.D.Disk.reads c.read_state.new.disk c.args.active c.args.spare (c.read_state.ensures.reads told) c.args.second

pub returns-in-Ok-clause-first_windows : goal.returns-in-Ok-clause-first_windows
returns-in-Ok-clause-first_windows g c told =
    c.begin_state.ensures.first_windows told
    ∙ first_stays g.D.Disk.story c.read_state.new.disk c.args.active c.args.spare (c.read_state.ensures.windows told) c.args.second

pub returns-in-Ok-clause-second_windows : goal.returns-in-Ok-clause-second_windows
returns-in-Ok-clause-second_windows g c told =
    c.begin_state.ensures.second_windows told
    ∙ second_stays g.D.Disk.story c.read_state.new.disk c.args.active c.args.spare (c.read_state.ensures.windows told) c.args.second

pub returns-in-Ok-clause-cause : goal.returns-in-Ok-clause-cause
returns-in-Ok-clause-cause g c =
    subst
    (λ before. AnswerCause before (counts (g.D.Disk.faults (first_back c.begin_state.result)) (g.D.Disk.faults (second_back c.begin_state.result))) c.begin_state.result)
    (none_rose g.D.Disk.faults c.read_state.new.disk c.args.active c.args.spare c.args.second c.in-Ok.ensures.fine) c.begin_state.ensures.cause

pub returns-in-Err-clause-refuses : goal.returns-in-Err-clause-refuses
returns-in-Err-clause-refuses g c told =
    subst (FindRefuses c.args.digest.now (g.D.Disk.reads (first_of c.args.second c.args.active c.args.spare)) (g.D.Disk.reads (second_of c.args.second c.args.active c.args.spare))) (sym c.from.ensures)
    (state_refused g.D.Disk.reads c.args.second c.args.active c.args.spare (c.requires.here told) c.args.digest.now c.args.generation (c.requires.kind told) c.in-Err.refusal
    (c.in-Err.ensures.refuses told))

pub returns-in-Err-clause-first_reads : goal.returns-in-Err-clause-first_reads
returns-in-Err-clause-first_reads g c told =
    ap g.D.Disk.reads c.in_order.ensures.0
    ∙ first_stays g.D.Disk.reads c.read_state.new.disk c.args.active c.args.spare (c.read_state.ensures.reads told) c.args.second

pub returns-in-Err-clause-second_reads : goal.returns-in-Err-clause-second_reads
returns-in-Err-clause-second_reads g c told =
    ap g.D.Disk.reads c.in_order.ensures.1
    ∙ second_stays g.D.Disk.reads c.read_state.new.disk c.args.active c.args.spare (c.read_state.ensures.reads told) c.args.second

pub returns-in-Err-clause-first_windows : goal.returns-in-Err-clause-first_windows
returns-in-Err-clause-first_windows g c told =
    ap g.D.Disk.story c.in_order.ensures.0
    ∙ first_stays g.D.Disk.story c.read_state.new.disk c.args.active c.args.spare (c.read_state.ensures.windows told) c.args.second

pub returns-in-Err-clause-second_windows : goal.returns-in-Err-clause-second_windows
returns-in-Err-clause-second_windows g c told =
    ap g.D.Disk.story c.in_order.ensures.1
    ∙ second_stays g.D.Disk.story c.read_state.new.disk c.args.active c.args.spare (c.read_state.ensures.windows told) c.args.second

pub returns-in-Err-clause-cause : goal.returns-in-Err-clause-cause
returns-in-Err-clause-cause g c =
    subst (PairCause _ _) (sym c.from.ensures)
    (at_both
    (λ x y. PairCause (counts (g.D.Disk.faults (first_of c.args.second c.args.active c.args.spare)) (g.D.Disk.faults (second_of c.args.second c.args.active c.args.spare)))
    (counts (g.D.Disk.faults x) (g.D.Disk.faults y)) (of_state c.in-Err.refusal))
    _ _ _ _ (sym c.in_order.ensures.0) (sym c.in_order.ensures.1)
    (state_cause g.D.Disk.faults c.read_state.new.disk c.args.active c.args.spare c.args.second c.in-Err.refusal c.in-Err.ensures.cause))

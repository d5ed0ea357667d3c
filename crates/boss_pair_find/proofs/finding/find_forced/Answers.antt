use Rattle.std.proofs.Common.{◌≡◌, subst}
use Rattle.std.specs.Prelude.{IfOk, IfErr}
use Rattle.boss_pair_find.specs.Finds.{Finds, first_back, second_back}
use Rattle.boss_pair_find.specs.Refusals.{FindRefuses, AnswerCause}
use Rattle.boss_pair_find.specs.Two.{counts}
use Rattle.boss_pair_find.proofs.Orders.{at_both, first_again, second_again}
use Rattle.boss_pair_find.proofs.Told.{forced_none, forced_plain, forced_state}
use Rattle.def_log.specs.Kinds.{kind_of}
use Rattle.boss_pair_find.proofs.finding.find_forced.Goals as goal

pub find_new-requires : goal.find_new-requires
find_new-requires g c told = forced_none (kind_of (g.D.Disk.reads c.args.first)) (kind_of (g.D.Disk.reads c.args.second)) c.args.force c.in-Neither.is (c.requires told)

pub find_plain-requires-clause-here : goal.find_plain-requires-clause-here
find_plain-requires-clause-here g c told = (forced_plain (kind_of (g.D.Disk.reads c.args.first)) (kind_of (g.D.Disk.reads c.args.second)) c.args.force c.in-Plain.is (c.requires told)).0

pub find_plain-requires-clause-kind : goal.find_plain-requires-clause-kind
find_plain-requires-clause-kind g c told = (forced_plain (kind_of (g.D.Disk.reads c.args.first)) (kind_of (g.D.Disk.reads c.args.second)) c.args.force c.in-Plain.is (c.requires told)).1

pub find_state-requires-clause-here : goal.find_state-requires-clause-here
find_state-requires-clause-here g c told =
    (forced_state g.D.Disk.reads c.args.first c.args.second c.in-State.generation c.args.force c.in-State.is_second _ _ c.in-State.is (c.requires told)
    c.in_order-ordered.ensures.0 c.in_order-ordered.ensures.1).0

pub find_state-requires-clause-kind : goal.find_state-requires-clause-kind
find_state-requires-clause-kind g c told =
    (forced_state g.D.Disk.reads c.args.first c.args.second c.in-State.generation c.args.force c.in-State.is_second _ _ c.in-State.is (c.requires told)
    c.in_order-ordered.ensures.0 c.in_order-ordered.ensures.1).1

pub returns-in-State-clause-finds : goal.returns-in-State-clause-finds
returns-in-State-clause-finds g c told =
    at_both (λ x y. IfOk c.find_state.result (Finds c.args.digest.now (g.D.Disk.reads x) (g.D.Disk.reads y))) _ _ c.args.first c.args.second
    (first_again c.in-State.is_second c.args.first c.args.second _ _ c.in_order-ordered.ensures.0 c.in_order-ordered.ensures.1)
    (second_again c.in-State.is_second c.args.first c.args.second _ _ c.in_order-ordered.ensures.0 c.in_order-ordered.ensures.1)
    (c.find_state.ensures.finds told)

pub returns-in-State-clause-refuses : goal.returns-in-State-clause-refuses
returns-in-State-clause-refuses g c told =
    at_both (λ x y. IfErr c.find_state.result (λ refused. FindRefuses c.args.digest.now (g.D.Disk.reads x) (g.D.Disk.reads y) refused.1)) _ _ c.args.first c.args.second
    (first_again c.in-State.is_second c.args.first c.args.second _ _ c.in_order-ordered.ensures.0 c.in_order-ordered.ensures.1)
    (second_again c.in-State.is_second c.args.first c.args.second _ _ c.in_order-ordered.ensures.0 c.in_order-ordered.ensures.1)
    (c.find_state.ensures.refuses told)

pub returns-in-State-clause-first_reads : goal.returns-in-State-clause-first_reads
returns-in-State-clause-first_reads g c told =
    subst (λ x. g.D.Disk.reads (first_back c.find_state.result) ≡ g.D.Disk.reads x)
    (first_again c.in-State.is_second c.args.first c.args.second _ _ c.in_order-ordered.ensures.0 c.in_order-ordered.ensures.1) (c.find_state.ensures.first_reads told)

pub returns-in-State-clause-second_reads : goal.returns-in-State-clause-second_reads
returns-in-State-clause-second_reads g c told =
    subst (λ x. g.D.Disk.reads (second_back c.find_state.result) ≡ g.D.Disk.reads x)
    (second_again c.in-State.is_second c.args.first c.args.second _ _ c.in_order-ordered.ensures.0 c.in_order-ordered.ensures.1) (c.find_state.ensures.second_reads told)

pub returns-in-State-clause-first_windows : goal.returns-in-State-clause-first_windows
returns-in-State-clause-first_windows g c told =
    subst (λ x. g.D.Disk.story (first_back c.find_state.result) ≡ g.D.Disk.story x)
    (first_again c.in-State.is_second c.args.first c.args.second _ _ c.in_order-ordered.ensures.0 c.in_order-ordered.ensures.1) (c.find_state.ensures.first_windows told)

pub returns-in-State-clause-second_windows : goal.returns-in-State-clause-second_windows
returns-in-State-clause-second_windows g c told =
    subst (λ x. g.D.Disk.story (second_back c.find_state.result) ≡ g.D.Disk.story x)
    (second_again c.in-State.is_second c.args.first c.args.second _ _ c.in_order-ordered.ensures.0 c.in_order-ordered.ensures.1) (c.find_state.ensures.second_windows told)

pub returns-in-State-clause-cause : goal.returns-in-State-clause-cause
returns-in-State-clause-cause g c =
    at_both
    (λ x y. AnswerCause (counts (g.D.Disk.faults x) (g.D.Disk.faults y))
    (counts (g.D.Disk.faults (first_back c.find_state.result)) (g.D.Disk.faults (second_back c.find_state.result))) c.find_state.result)
    _ _ c.args.first c.args.second
    (first_again c.in-State.is_second c.args.first c.args.second _ _ c.in_order-ordered.ensures.0 c.in_order-ordered.ensures.1)
    (second_again c.in-State.is_second c.args.first c.args.second _ _ c.in_order-ordered.ensures.0 c.in_order-ordered.ensures.1)
    c.find_state.ensures.cause

pub returns-in-Neither-clause-finds : goal.returns-in-Neither-clause-finds
returns-in-Neither-clause-finds g c told = c.find_new.ensures.finds told c.args.digest.now

pub returns-in-Neither-clause-starts : goal.returns-in-Neither-clause-starts
returns-in-Neither-clause-starts g c = c.find_new.ensures.starts c.args.digest.now

pub returns-in-Neither-clause-refuses : goal.returns-in-Neither-clause-refuses
returns-in-Neither-clause-refuses g c told = c.find_new.ensures.refuses told c.args.digest.now

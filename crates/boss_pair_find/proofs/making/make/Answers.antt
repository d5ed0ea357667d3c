use Rattle.std.proofs.Common.{false, sym, subst, ◌∙◌}
use Rattle.boss_disk.specs.Legs.{Legs, LeaveBoth}
use Rattle.boss_pair_find.specs.Makes.{HasVersion}
use Rattle.boss_pair_find.specs.Refusals.{PairCause}
use Rattle.boss_pair_find.specs.Two.{two}
use Rattle.boss_pair_find.proofs.Made.{journal_new, making_legs, made_rests, has_version, opened_place, version_known, begun_rests}
use Rattle.boss_pair_find.proofs.Orders.{at_both, begun_first, begun_second, begun_at, counts_as}
use Rattle.boss_pair_find.proofs.Told.{journal_cause, only_fault}
use Rattle.boss_model.specs.State.{first_persistent}
use Rattle.def_disk_pair.specs.Pairs.{OpensCleanly}
use Rattle.boss_pair_find.proofs.making.make.Goals as goal

pub returns-in-Ok-clause-rests : goal.returns-in-Ok-clause-rests
returns-in-Ok-clause-rests g c told synced plant =
    let opened = c.in-Ok.ensures.opens told in
    let of = has_version c.args.digest.now _ _ _ _ _ (c.requires told).1 opened in
    begun_rests c.begin.result c.in-Ok.journal c.args.second c.begin.ensures.order c.begin.ensures.journal c.begin.ensures.spare plant c.args.digest.now
    c.begin.ensures.digest c.begin.ensures.generation c.begin.ensures.events c.begin.ensures.going
    (λ again. made_rests plant c.args.digest.now c.told-digest _ _ _ _ _ _ _ _ (version_known c.args.digest.now _ _ of)
    (λ on. c.begin.ensures.seed (opened_place c.args.digest.now _ _ _ _ _ c.told-digest (c.requires told).1 opened) 66) opened (c.requires told) synced)

pub returns-in-Ok-clause-images : goal.returns-in-Ok-clause-images
returns-in-Ok-clause-images g c told one other plant =
    at_both
    (λ x y. Legs (LeaveBoth (OpensCleanly plant c.args.digest.now first_persistent 0)) (two (g.D.Disk.story c.args.first) (g.D.Disk.story c.args.second))
    (two (g.D.Disk.story x) (g.D.Disk.story y)))
    c.in-Ok.journal.disk c.args.second _ _
    (sym (begun_first c.begin.result false c.in-Ok.journal c.args.second c.begin.ensures.order c.begin.ensures.journal c.begin.ensures.spare))
    (sym (begun_second c.begin.result false c.in-Ok.journal c.args.second c.begin.ensures.order c.begin.ensures.journal c.begin.ensures.spare))
    (making_legs plant c.args.digest.now c.told-digest (g.D.Disk.reads c.args.first) (g.D.Disk.reads c.args.second) (g.D.Disk.story c.args.first)
    (g.D.Disk.story c.in-Ok.journal.disk) (g.D.Disk.story c.args.second) one other (c.requires told) (c.in-Ok.ensures.images told))

pub returns-in-Ok-clause-version : goal.returns-in-Ok-clause-version
returns-in-Ok-clause-version g c told =
    subst (λ j. HasVersion c.args.digest.now (g.D.Disk.reads c.args.first) j.version) (sym c.begin.ensures.journal)
    (has_version c.args.digest.now _ _ _ _ _ (c.requires told).1 (c.in-Ok.ensures.opens told))

pub returns-in-Ok-clause-starts : goal.returns-in-Ok-clause-starts
returns-in-Ok-clause-starts g c = record {
  first = begun_at c.begin.result false c.in-Ok.journal c.args.second c.begin.ensures.order c.begin.ensures.journal c.begin.ensures.spare c.args.digest.now
      c.begin.ensures.digest c.begin.ensures.going c.in-Ok.ensures.first.0;
  events = c.begin.ensures.events;
  generation = c.begin.ensures.generation;
}

pub returns-in-Ok-clause-second : goal.returns-in-Ok-clause-second
returns-in-Ok-clause-second g c = begun_second c.begin.result false c.in-Ok.journal c.args.second c.begin.ensures.order c.begin.ensures.journal c.begin.ensures.spare

pub returns-in-Ok-clause-cause : goal.returns-in-Ok-clause-cause
returns-in-Ok-clause-cause g c =
    counts_as c.begin.result false c.in-Ok.journal c.args.second c.begin.ensures.order c.begin.ensures.journal c.begin.ensures.spare g.D.Disk.faults c.args.first
    c.in-Ok.ensures.cause

pub returns-in-Err-clause-images : goal.returns-in-Err-clause-images
returns-in-Err-clause-images g c told one other plant =
    making_legs plant c.args.digest.now c.told-digest (g.D.Disk.reads c.args.first) (g.D.Disk.reads c.args.second) (g.D.Disk.story c.args.first)
    (g.D.Disk.story c.in-Err.first) (g.D.Disk.story c.args.second) one other (c.requires told) (c.in-Err.ensures.images told)

pub returns-in-Err-clause-refuses : goal.returns-in-Err-clause-refuses
returns-in-Err-clause-refuses g c told =
    c.from.ensures ∙ only_fault c.args.digest.now _ c.in-Err.refusal (journal_new c.args.digest.now _ (c.requires told).1) (c.in-Err.ensures.refuses told)

pub returns-in-Err-clause-cause : goal.returns-in-Err-clause-cause
returns-in-Err-clause-cause g c =
    subst (PairCause _ _) (sym c.from.ensures) (journal_cause g.D.Disk.faults c.in-Err.first c.args.first c.args.second false c.in-Err.refusal c.in-Err.ensures.cause)

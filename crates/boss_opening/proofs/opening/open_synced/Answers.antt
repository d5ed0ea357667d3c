use Rattle.std.proofs.Common.{List, ℕ, sym, ap, subst, ◌∙◌}
use Rattle.boss_disk.specs.Story.{Story}
use Rattle.boss_disk.specs.Window.{settled}
use Rattle.boss_pair_find.specs.Finds.{Finds, Starts, found_first, found_second}
use Rattle.boss_pair_find.specs.Refusals.{FindRefuses}
use Rattle.boss_pair_find.proofs.Orders.{at_both}
use Rattle.boss_model.specs.Catalogue.{actuators}
use Rattle.boss_opening.specs.Opens.{digest_of}
use Rattle.boss_opening.proofs.Openings.{nothing_moved, of_find, refused, same_opening, same_stays, same_untouched}
use Rattle.boss_opening.proofs.opening.open_synced.Goals as goal

pub open_found-requires-clause-finds : goal.open_found-requires-clause-finds
open_found-requires-clause-finds g c told =
    at_both (λ a b. Finds (digest_of c.args.catalogue.now) a b c.in-Ok.found) _ _ _ _ (sym (c.in-Ok.ensures.first_reads told)) (sym (c.in-Ok.ensures.second_reads told))
    (subst (λ digest. Finds digest (g.D.Disk.reads c.args.first) (g.D.Disk.reads c.args.second) c.in-Ok.found) c.digest.ensures (c.in-Ok.ensures.finds told))

pub open_found-requires-clause-starts : goal.open_found-requires-clause-starts
open_found-requires-clause-starts g c = subst (λ digest. Starts digest c.in-Ok.found) c.digest.ensures c.in-Ok.ensures.starts

pub open_found-requires-clause-synced : goal.open_found-requires-clause-synced
open_found-requires-clause-synced g c told = (
  ap (λ (s : Story). s.window) (c.in-Ok.ensures.first_windows told) ∙ (c.requires.synced told).0 ∙ ap settled (sym (c.in-Ok.ensures.first_reads told)),
  ap (λ (s : Story). s.window) (c.in-Ok.ensures.second_windows told) ∙ (c.requires.synced told).1 ∙ ap settled (sym (c.in-Ok.ensures.second_reads told)),
)

pub open_found-requires-clause-settled : goal.open_found-requires-clause-settled
open_found-requires-clause-settled g c told = c.in-Ok.ensures.settled told (c.requires.synced told).0 (c.requires.synced told).1

pub returns-in-Ok-clause-opening : goal.returns-in-Ok-clause-opening
returns-in-Ok-clause-opening g c =
    same_opening (actuators c.args.catalogue.now) (digest_of c.args.catalogue.now) c.args.log_limit (found_first c.in-Ok.found) (found_second c.in-Ok.found) c.args.first c.args.second
    c.open_found.result c.in-Ok.ensures.first_reads c.in-Ok.ensures.second_reads c.in-Ok.ensures.cause c.open_found.ensures.opening

pub returns-in-Ok-clause-stays : goal.returns-in-Ok-clause-stays
returns-in-Ok-clause-stays g c told =
    same_stays (actuators c.args.catalogue.now) (digest_of c.args.catalogue.now) c.args.log_limit (found_first c.in-Ok.found) (found_second c.in-Ok.found) c.args.first c.args.second
    c.open_found.result c.in-Ok.ensures.first_reads c.in-Ok.ensures.second_reads told (c.in-Ok.ensures.first_windows told) (c.in-Ok.ensures.second_windows told) (c.open_found.ensures.stays told)

pub returns-in-Ok-clause-untouched : goal.returns-in-Ok-clause-untouched
returns-in-Ok-clause-untouched g c told =
    same_untouched (actuators c.args.catalogue.now) (digest_of c.args.catalogue.now) c.args.log_limit (found_first c.in-Ok.found) (found_second c.in-Ok.found) c.args.first c.args.second
    c.open_found.result c.in-Ok.ensures.first_reads c.in-Ok.ensures.second_reads (c.in-Ok.ensures.first_windows told) (c.in-Ok.ensures.second_windows told) (c.open_found.ensures.untouched told)

pub returns-in-Err-clause-untouched : goal.returns-in-Err-clause-untouched
returns-in-Err-clause-untouched g c told some = (c.in-Err.ensures.first_windows told, c.in-Err.ensures.second_windows told)

pub returns-in-Err-clause-opening : goal.returns-in-Err-clause-opening
returns-in-Err-clause-opening g c =
    refused (actuators c.args.catalogue.now) (digest_of c.args.catalogue.now) c.args.log_limit c.args.first c.args.second c.in-Err.refused.0 c.in-Err.refused.1
    (λ told. of_find (actuators c.args.catalogue.now) (digest_of c.args.catalogue.now) (g.D.Disk.reads c.args.first) (g.D.Disk.reads c.args.second) c.in-Err.refused.1
    (subst (λ digest. FindRefuses digest (g.D.Disk.reads c.args.first) (g.D.Disk.reads c.args.second) c.in-Err.refused.1) c.digest.ensures (c.in-Err.ensures.refuses told)))
    (λ told some. (c.in-Err.ensures.first_reads told, c.in-Err.ensures.second_reads told)) c.in-Err.ensures.cause

pub returns-in-Err-clause-stays : goal.returns-in-Err-clause-stays
returns-in-Err-clause-stays g c told =
    nothing_moved g.D.Disk (actuators c.args.catalogue.now) (digest_of c.args.catalogue.now) c.args.first c.args.second c.in-Err.refused.0 c.in-Err.refused.1
    (c.requires.synced told).0 (c.requires.synced told).1 (c.in-Err.ensures.first_windows told) (c.in-Err.ensures.second_windows told)

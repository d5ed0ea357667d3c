use Rattle.std.proofs.Common.{rules, sym, subst, ap, ◌∙◌}
use Rattle.boss_lock.specs.Places.{entries_at}
use Rattle.boss_shared.specs.Passes.{only}
use Rattle.boss_shared.specs.Together.{IsPaired}
use Rattle.boss_shared.proofs.Joins.{join_keeps, join_takes_in}
use Rattle.boss_shared.proofs.Pairs.{paired_sum}
use Rattle.boss_shared.proofs.manager.ManagerDesk.join.Goals as goal

pub returns-clause-own : goal.returns-clause-own
returns-clause-own g c =
    let own = c.requires.own.0 in
    let other = c.requires.own.1 in
    let joined = c.join.ensures.seat in (
      (ap (λ s. s.table) joined ∙ own.0.0, ap (λ s. s.start) joined ∙ own.0.1),
      ap (λ s. s.turn) joined ∙ own.1,
      record { sound = own.2.sound; legal = search rules; places = c.join.ensures.places },
      subst IsPaired (sym (ap (λ s. s.parts) joined)) (paired_sum c.args.pass.now.parts c.args.other.parts own.3 other.3),
      own.4,
    )

pub returns-clause-kept : goal.returns-clause-kept
returns-clause-kept g c p nil =
    ap (λ s. only p (entries_at c.join.new.seat.seen s.places)) c.join.ensures.seat
    ∙ join_keeps p _ _ _ _ _ c.join.ensures.history c.requires.own.0.2.places c.requires.own.1.2.places nil

pub returns-clause-taken_in : goal.returns-clause-taken_in
returns-clause-taken_in g c p nil =
    ap (λ s. only p (entries_at c.join.new.seat.seen s.places)) c.join.ensures.seat
    ∙ join_takes_in p _ _ _ _ _ c.join.ensures.history c.requires.own.0.2.places c.requires.own.1.2.places nil

use Rattle.std.proofs.Common.{rules, sym, subst, ap, ◌∙◌}
use Rattle.boss_lock.specs.Seats.{one_part_less, one_part_of, with_parts_of}
use Rattle.boss_shared.specs.Together.{IsPaired}
use Rattle.boss_shared.proofs.Pairs.{paired_less}
use Rattle.boss_shared.proofs.manager.ManagerDesk.split.Goals as goal

pub returns-clause-own : goal.returns-clause-own
returns-clause-own g c =
    let own = c.requires.own in
    let left = c.split-second.ensures.left ∙ ap one_part_less c.split-other.ensures.left in
    let right = c.fold.ensures.seat ∙ (λ i. with_parts_of (c.split-other.ensures.right i) ((c.split-second.ensures.right ∙ ap (λ s. one_part_of s) c.split-other.ensures.left) i)) in (
      (
        (ap (λ s. s.table) left ∙ own.0.0, ap (λ s. s.start) left ∙ own.0.1),
        ap (λ s. s.turn) left ∙ own.1,
        record { sound = own.2.sound; legal = search rules; places = search rules },
        subst IsPaired (sym (ap (λ s. s.parts) left)) (paired_less c.args.pass.now.parts own.3 c.requires.two_parts),
        own.4,
      ),
      (
        (ap (λ s. s.table) right ∙ own.0.0, ap (λ s. s.start) right ∙ own.0.1),
        ap (λ s. s.turn) right ∙ own.1,
        record { sound = own.2.sound; legal = search rules; places = search rules },
        subst IsPaired (sym (ap (λ s. s.parts) right)) (1, search rules, search rules),
        own.4,
      ),
    )

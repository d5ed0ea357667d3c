-- Processes whose notices have moved.
use Rattle.std.proofs.Common.{◌≡◌, ℕ, ◌+◌, ◌-◌, ◌≤◌, List, [], ◌∷◌, length, map, true, Option, refl, ap, subst, arith}
use Rattle.std.proofs.lemmas.List.{length-map}
use Rattle.boss_model.specs.declared.notice.Notice.{Notice}
use Rattle.boss_model.specs.declared.notice.What.{What}
use Rattle.boss_model.specs.declared.notice.What.TheVariants as what
use Rattle.boss_model.specs.declared.state.Actuator.{Actuator}
use Rattle.boss_model.specs.Limits.{notices_kept}
use Rattle.boss_model.specs.Sound.{NumberedFrom, IsKnown, IsWhat, IsNotice, IsProcess}
use Rattle.boss_model.specs.State.{Process}
use Rattle.law_time.proofs.Filters.{each-mapped}
use Rattle.law_time.proofs.Orders.{each-map}
use Rattle.law_adoption.specs.Adopted.{moved_what, moved_notice, what_stays, notice_stays, last_passing, moved_process}
use Rattle.law_adoption.specs.Renumber.{IsRenumbering}
use Rattle.law_adoption.proofs.LongestSuffix.{each-passing, few-passing, passing-passes, passing-numbers, each-passes}
use Rattle.law_adoption.proofs.Points.{within-plant}

module _ (to : ℕ → Option ℕ) where
  what-known : (points : ℕ) → IsRenumbering to points → (told : What) → what_stays to told ≡ true → IsKnown points (moved_what to told)
  what-known points renumbering (what.Fault point) there = within-plant to points renumbering point there
  what-known points renumbering (what.Ended point cause) there = within-plant to points renumbering point there
  what-known points renumbering (what.Reverted point) there = within-plant to points renumbering point there
  what-known points renumbering (what.Cut point by) there = within-plant to points renumbering point there
  what-known points renumbering what.Done there = tt

  what-words : (told : What) → IsWhat told → IsWhat (moved_what to told)
  what-words (what.Fault point) is = is
  what-words (what.Ended point cause) is = is
  what-words (what.Reverted point) is = is
  what-words (what.Cut point by) is = is
  what-words what.Done is = is

  numbers-stay : (number : ℕ) (notices : List Notice) → NumberedFrom number notices → NumberedFrom number (map (moved_notice to) notices)
  numbers-stay number [] numbered = tt
  numbers-stay number (notice ∷ notices) numbered = (numbered.0, numbers-stay (number + 1) notices numbered.1)

  pub process-sound : (plant new : List Actuator) (now : ℕ) → IsRenumbering to (length new) → (process : Process) → IsProcess plant now process → IsProcess new now (moved_process to process)
  process-sound plant new now renumbering process is =
      let test = notice_stays to in
      let left = last_passing test process.kept in
      let as_many : length (map (moved_notice to) left) ≡ length left = length-map left (moved_notice to) in
      let fewer : length left ≤ length process.kept = few-passing test process.kept in
      let few : length process.kept ≤ notices_kept = is.few in
      let sent : length process.kept ≤ process.count = is.sent in
      let first : process.count + 1 - length process.kept + length process.kept - length left ≡ process.count + 1 - length (map (moved_notice to) left) = omega arith in
      record {
        name = is.name;
        count = is.count;
        few = omega arith;
        sent = omega arith;
        numbers = numbers-stay (process.count + 1 - length (map (moved_notice to) left)) left
            (subst (λ n. NumberedFrom n left) first (passing-numbers test (process.count + 1 - length process.kept) process.kept is.numbers));
        past = each-mapped (λ notice. notice.at ≤ now) (moved_notice to) left (each-passing test (λ notice. notice.at ≤ now) process.kept is.past);
        known = each-mapped (λ notice. IsKnown (length new) notice.what) (moved_notice to) left
            (each-map (λ notice. test notice ≡ true) (λ notice. IsKnown (length new) (moved_what to notice.what)) (λ notice there. what-known (length new) renumbering notice.what there) left
            (each-passes test left (passing-passes test process.kept)));
        words = each-mapped IsNotice (moved_notice to) left
            (each-map IsNotice (λ notice. IsNotice (moved_notice to notice)) (λ notice words. (words.0, what-words notice.what words.1)) left (each-passing test IsNotice process.kept is.words));
        reply = is.reply;
      }

  pub names-stay : (processes : List Process) → map (λ process. process.name) processes ≡ map (λ process. process.name) (map (moved_process to) processes)
  names-stay [] = refl
  names-stay (process ∷ processes) = ap (λ names. process.name ∷ names) (names-stay processes)

-- The parts of a transaction: how many live leases are left where one ends.
use Rattle.std.proofs.Common.{◌≡◌, ℕ, ◌+◌, ◌≤◌, ◌==◌, true, false, cond, List, [], ◌∷◌, length, map, Option, Some, None, refl, ap, ⊎_elim, arith}
use Rattle.std.specs.Prelude.{filter, is_none}
use Rattle.std.proofs.lemmas.Bool.{cases_Bool}
use Rattle.std.proofs.lemmas.Grind.{common_steps}
use Rattle.boss_model.specs.Records.{End, Part}
use Rattle.boss_stages.specs.declared.part.PartEnd.TheVariants.{Live}
use Rattle.boss_stages.specs.Stages.{is_live, live_part, end_as, part_end, part_on, ended_on}

-- an ended part is not live
ended_on-other : (point : ℕ) (end : End) (part : Part) → (part.point == point) ≡ false → ended_on point end part ≡ part
ended_on-other point end part other = ap (λ b. cond b (record part { end = Some end }) part) other

ended_on-own : (point : ℕ) (end : End) (part : Part) → (part.point == point) ≡ true → is_live (ended_on point end part) ≡ false
ended_on-own point end part own = ap (λ b. is_live (cond b (record part { end = Some end }) part)) own

-- no part comes back to life
pub live-ended : (point : ℕ) (end : End) (parts : List Part) → length (filter is_live (map (ended_on point end) parts)) ≤ length (filter is_live parts)
live-ended point end [] = omega arith
live-ended point end (part ∷ parts) =
    ⊎_elim
    (λ own. grind (arith, common_steps, ended_on-own point end part own, live-ended point end parts))
    (λ other. grind (arith, common_steps, ended_on-other point end part other, live-ended point end parts))
    (cases_Bool (part.point == point))

live_end : (end : Option End) → end_as end ≡ Live → is_none end ≡ true
live_end None live = refl
live_end (Some end) live = absurd (cc)

-- where the part on the point is live, one live part less is left
pub live-ended_live : (point : ℕ) (end : End) (parts : List Part) → part_end (part_on point parts) ≡ Live → length (filter is_live (map (ended_on point end) parts)) + 1 ≤ length (filter is_live parts)
live-ended_live point end [] live = absurd (grind arith)
live-ended_live point end (part ∷ parts) live =
    ⊎_elim
    (λ own.
    let found : part_on point (part ∷ parts) ≡ Some part = ap (λ b. cond b (Some part) (part_on point parts)) own in
    let was_live : is_live part ≡ true = live_end part.end (rw found at live) in
    grind (arith, common_steps, was_live, ended_on-own point end part own, live-ended point end parts))
    (λ other. grind (arith, common_steps, ended_on-other point end part other, live-ended_live point end parts))
    (cases_Bool (part.point == point))

-- all parts of a new transaction are live
pub live-live_part : (slots : List (ℕ × ℕ)) → length (filter is_live (map live_part slots)) ≡ length slots
live-live_part [] = refl
live-live_part (slot ∷ slots) = grind (arith, common_steps, live-live_part slots)

-- Notices that are numbered one by one: what stays so, and which places the numbers of a range have.
use Rattle.std.proofs.Common.{◌≡◌, ℕ, suc, ◌+◌, ◌-◌, ◌<◌, ◌≤◌, List, [], ◌∷◌, ◌++◌, length, take, drop, length-append, length-drop, ap, subst, ⊎_elim, inl, inr, arith}
use Rattle.std.specs.Prelude.{◌⊎◌, true, false, slice_get, nat_lt, nat_le, ◌&&◌}
use Rattle.circular_buffer.specs.Buffer.{keep_last}
use Rattle.std.specs.Option.{option_map_or}
use Rattle.std.proofs.lemmas.Bool.{cases_lt}
use Rattle.std.proofs.lemmas.Grind.{common_steps}
use Rattle.boss_model.specs.declared.notice.Notice.{Notice}
use Rattle.boss_model.proofs.Numbered.{NumberedFrom-append, NumberedFrom-drop}
use Rattle.boss_model.specs.Queries.{numbered_from}
use Rattle.boss_model.specs.Sound.{NumberedFrom}

pub first_number : (number next : ℕ) (notices : List Notice) → NumberedFrom number notices → next ≡ number + length notices → option_map_or (λ notice. notice.number) (slice_get notices 0) next ≡ number
first_number number next [] numbered is_next = omega arith
first_number number next (notice ∷ notices) numbered is_next = numbered.0

-- whether a number is in a range
in_range : (start most number : ℕ) → start ≤ number → number < start + most → (nat_le start number && nat_lt number (start + most)) ≡ true
in_range start most number low high = grind (arith, common_steps)

out_of_range : (start most number : ℕ) → (number < start) ⊎ (start + most ≤ number) → (nat_le start number && nat_lt number (start + most)) ≡ false
out_of_range start most number outside = grind (arith, common_steps)

-- of notices that are all numbered from the start on, a range of numbers is the first ones
pub numbered_from-low : (number start most : ℕ) (notices : List Notice) → NumberedFrom number notices → start ≤ number → numbered_from start most notices ≡ take (start + most - number) notices
numbered_from-low number start most [] numbered low = grind (arith, common_steps)
numbered_from-low number start most (notice ∷ notices) numbered low =
    let rest : numbered_from start most notices ≡ take (start + most - (number + 1)) notices = numbered_from-low (number + 1) start most notices numbered.1 (omega arith) in
    let low' : start ≤ notice.number = omega arith in
    ⊎_elim
    (λ inside.
    let more : start + most - number ≡ suc (start + most - (number + 1)) = omega arith in
    let passes : (nat_le start notice.number && nat_lt notice.number (start + most)) ≡ true = in_range start most notice.number low' inside in
    rw (more, passes) (ap (λ r. notice ∷ r) rest))
    (λ outside.
    let none : start + most - number ≡ 0 = omega arith in
    let none_left : start + most - (number + 1) ≡ 0 = omega arith in
    let fails : (nat_le start notice.number && nat_lt notice.number (start + most)) ≡ false = out_of_range start most notice.number (inr outside) in
    rw (none, fails) (rw none_left at rest))
    (cases_lt notice.number (start + most))

-- else the ones before the start are passed over
pub numbered_from-places : (number start most : ℕ) (notices : List Notice) → NumberedFrom number notices → number ≤ start → numbered_from start most notices ≡ take most (drop (start - number) notices)
numbered_from-places number start most [] numbered low = grind (arith, common_steps)
numbered_from-places number start most (notice ∷ notices) numbered low =
    ⊎_elim
    (λ before.
    let rest : numbered_from start most notices ≡ take most (drop (start - (number + 1)) notices) = numbered_from-places (number + 1) start most notices numbered.1 (omega arith) in
    let more : start - number ≡ suc (start - (number + 1)) = omega arith in
    let fails : (nat_le start notice.number && nat_lt notice.number (start + most)) ≡ false = out_of_range start most notice.number (inl (omega arith)) in
    rw (more, fails) rest)
    (λ there.
    let none : start - number ≡ 0 = omega arith in
    let all : start + most - number ≡ most = omega arith in
    let first : numbered_from start most (notice ∷ notices) ≡ take (start + most - number) (notice ∷ notices) = numbered_from-low number start most (notice ∷ notices) numbered (omega arith) in
    rw none (rw all at first))
    (cases_lt number start)

-- one notice more with the next number, and the last of all are kept: these are numbered up to the new count
pub posted_numbered : (count room : ℕ) (kept : List Notice) (new : Notice) → length kept ≤ count → NumberedFrom (count - length kept + 1) kept → new.number ≡ count + 1
    → (length (keep_last room (kept ++ new ∷ [])) ≤ count + 1) × NumberedFrom (count + 1 - length (keep_last room (kept ++ new ∷ [])) + 1) (keep_last room (kept ++ new ∷ []))
posted_numbered count room kept new within numbered next =
    let all : List Notice = kept ++ new ∷ [] in
    let gone : ℕ = length all - room in
    let more : length all ≡ length kept + 1 = length-append kept (new ∷ []) in
    let left : length (drop gone all) ≡ length all - gone = length-drop gone all in
    let P : ℕ → Type 0 = λ number. NumberedFrom number (drop gone all) in
    (omega arith, subst P (omega arith) (NumberedFrom-drop _ gone all (NumberedFrom-append _ kept new numbered (omega arith))))

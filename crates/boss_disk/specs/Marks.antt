-- Source: own.
-- Lemmas: marks by the place that they stand at.

use Rattle.std.proofs.Common.{◌≡◌, ℕ, zero, suc, ◌+◌, ◌-◌, ◌≤◌, ◌<◌, min, List, [], ◌∷◌, ◌++◌, length, get_or, take, drop, Option, Some, None, ◌⊎◌, ⊎_elim, sym, ◌∙◌, ap, refl, length-append, length-take, length-drop, arith}
use Rattle.std.proofs.lemmas.Bool.{cases_lt}
use Rattle.std.proofs.lemmas.List.{length-map, get_or_append_left, get_or-append_right, get_or-take, get_or-drop, get_or-map, get_or_past, length-take-le}
use Rattle.boss_disk.specs.Window.{Agrees, forgotten, written}

-- the mark of a place, none past the end
abbrev pub mark : List (Option ℕ) → ℕ → Option ℕ
mark marks place = get_or marks place None

-- bytes agree with marks that are no longer and name the byte at each place that they name one for
pub agrees_from : (marks : List (Option ℕ)) (bytes : List ℕ) → length marks ≤ length bytes
    → ((place kept : ℕ) → mark marks place ≡ Some kept → get_or bytes place 0 ≡ kept) → Agrees marks bytes
agrees_from [] bytes long each = tt
agrees_from (mark ∷ marks) [] long each = omega arith
agrees_from (None ∷ marks) (byte ∷ bytes) long each =
    agrees_from marks bytes (omega arith) (λ place kept is. each (suc place) kept is)
agrees_from (Some kept ∷ marks) (byte ∷ bytes) long each =
    (each 0 kept refl, agrees_from marks bytes (omega arith) (λ place other is. each (suc place) other is))

-- and the other way round
pub agrees_length : (marks : List (Option ℕ)) (bytes : List ℕ) → Agrees marks bytes → length marks ≤ length bytes
agrees_length [] bytes fits = omega arith
agrees_length (mark ∷ marks) [] fits = absurd fits
agrees_length (None ∷ marks) (byte ∷ bytes) fits = let short = agrees_length marks bytes fits in omega arith
agrees_length (Some kept ∷ marks) (byte ∷ bytes) fits = let short = agrees_length marks bytes fits.1 in omega arith

pub agrees_at : (marks : List (Option ℕ)) (bytes : List ℕ) → Agrees marks bytes → (place kept : ℕ) → mark marks place ≡ Some kept
    → get_or bytes place 0 ≡ kept
agrees_at [] bytes fits place kept is = cc
agrees_at (mark ∷ marks) [] fits place kept is = absurd fits
agrees_at (None ∷ marks) (byte ∷ bytes) fits zero kept is = cc
agrees_at (None ∷ marks) (byte ∷ bytes) fits (suc place) kept is = agrees_at marks bytes fits place kept is
agrees_at (Some there ∷ marks) (byte ∷ bytes) fits zero kept is = cc
agrees_at (Some there ∷ marks) (byte ∷ bytes) fits (suc place) kept is = agrees_at marks bytes fits.1 place kept is

-- where no byte stays, no mark names one
length-forgotten : (marks : List (Option ℕ)) → length (forgotten marks) ≡ length marks
length-forgotten marks = let none : Option ℕ → Option ℕ = λ m. None in length-map marks none

mark-forgotten : (marks : List (Option ℕ)) (place : ℕ) → place < length marks → get_or (forgotten marks) place None ≡ None
mark-forgotten marks place inside = let none : Option ℕ → Option ℕ = λ m. None in get_or-map none marks place None None inside

-- a write leaves as many marks
pub length-written : (at count : ℕ) (marks : List (Option ℕ)) → length (written at count marks) ≡ length marks
length-written at count marks =
    let a = length-append (take at marks ++ forgotten (take count (drop at marks))) (drop (at + count) marks) in
    let b = length-append (take at marks) (forgotten (take count (drop at marks))) in
    let c = length-forgotten (take count (drop at marks)) in
    let d = length-take count (drop at marks) in
    let e = length-drop at marks in
    let f = length-take at marks in
    let g = length-drop (at + count) marks in
    omega arith

-- the marks of the written bytes name none, and all others are as they were
pub mark-written_in : (at count : ℕ) (marks : List (Option ℕ)) (place : ℕ) → at ≤ place → place < at + count
    → mark (written at count marks) place ≡ None
mark-written_in at count marks place from to =
    ⊎_elim
    (λ inside.
    let whole : length (take at marks) ≡ at = length-take-le at marks (omega arith) in
    let gone : length (forgotten (take count (drop at marks))) ≡ length (take count (drop at marks)) = length-forgotten (take count (drop at marks)) in
    let many : length (take count (drop at marks)) ≡ min count (length marks - at) = length-take count (drop at marks) ∙ ap (min count) (length-drop at marks) in
    let low : place - at < length (take count (drop at marks)) = omega arith in
    let front : place < length (take at marks ++ forgotten (take count (drop at marks))) = omega (arith, length-append (take at marks) (forgotten (take count (drop at marks)))) in
    get_or_append_left (take at marks ++ forgotten (take count (drop at marks))) (drop (at + count) marks) None place front
    ∙ get_or-append_right (take at marks) (forgotten (take count (drop at marks))) at place None whole from
    ∙ mark-forgotten (take count (drop at marks)) (place - at) low)
    (λ past. get_or_past (written at count marks) place None (omega (arith, length-written at count marks)))
    (cases_lt place (length marks))

mark_before : (at count : ℕ) (marks : List (Option ℕ)) (place : ℕ) → place < length marks → place < at
    → mark (written at count marks) place ≡ mark marks place
mark_before at count marks place inside low =
    let front : place < length (take at marks) = omega (arith, length-take at marks) in
    let longer : place < length (take at marks ++ forgotten (take count (drop at marks))) = omega (arith, length-append (take at marks) (forgotten (take count (drop at marks)))) in
    get_or_append_left (take at marks ++ forgotten (take count (drop at marks))) (drop (at + count) marks) None place longer
    ∙ get_or_append_left (take at marks) (forgotten (take count (drop at marks))) None place front
    ∙ get_or-take at marks place None low

mark_behind : (at count : ℕ) (marks : List (Option ℕ)) (place : ℕ) → place < length marks → at + count ≤ place
    → mark (written at count marks) place ≡ mark marks place
mark_behind at count marks place inside high =
    let whole : length (take at marks) ≡ at = length-take-le at marks (omega arith) in
    let gone : length (forgotten (take count (drop at marks))) ≡ length (take count (drop at marks)) = length-forgotten (take count (drop at marks)) in
    let many : length (take count (drop at marks)) ≡ count = length-take-le count (drop at marks) (omega (arith, length-drop at marks)) in
    let front : length (take at marks ++ forgotten (take count (drop at marks))) ≡ at + count = omega (arith, length-append (take at marks) (forgotten (take count (drop at marks)))) in
    let there : at + count + (place - (at + count)) ≡ place = omega arith in
    get_or-append_right (take at marks ++ forgotten (take count (drop at marks))) (drop (at + count) marks) (at + count) place None front high
    ∙ get_or-drop (at + count) marks (place - (at + count)) None
    ∙ ap (λ k. get_or marks k None) there

pub mark-written_out : (at count : ℕ) (marks : List (Option ℕ)) (place : ℕ) → (place < at) ⊎ (at + count ≤ place)
    → mark (written at count marks) place ≡ mark marks place
mark-written_out at count marks place side =
    ⊎_elim
    (λ inside. ⊎_elim (mark_before at count marks place inside) (mark_behind at count marks place inside) side)
    (λ past. get_or_past (written at count marks) place None (omega (arith, length-written at count marks)) ∙ sym (get_or_past marks place None past))
    (cases_lt place (length marks))

-- What is due of the points from a place on.
use Rattle.std.proofs.Common.{◌≡◌, ℕ, zero, suc, ◌+◌, ◌<◌, ◌≤◌, true, false, cond, List, [], ◌∷◌, ◌++◌, length, Option, Some, None, set, drop, refl, sym, ap, ◌∙◌, arith, add-one, eqb}
use Rattle.std.proofs.Math.Seq.{drop-cons}
use Rattle.std.proofs.lemmas.Bool.{eq-eqb, cond-true}
use Rattle.std.proofs.lemmas.List.{drop_all, drop-set-lt}
use Rattle.def_guards.specs.declared.guard.Guard.{Guard}
use Rattle.def_guards.specs.declared.guard.Held.{Held}
use Rattle.def_guards.specs.Guards.{guard_for}
use Rattle.def_guards.specs.declared.guard.Due.{Due}
use Rattle.def_guards.specs.Acts.{due_from, guard_at, held_at, is_skipped}

module _ (guards : List Guard) (place : ℕ) (known : place < length guards) where
  drop_here : drop place guards ≡ guard_at guards place ∷ drop (place + 1) guards
  drop_here = rw add-one (drop-cons guards place (guard_for 0 0) known)

  due_here : (skipped : Option ℕ) → due_from place skipped (drop place guards)
      ≡ (cond (is_skipped skipped place) [] (held_at place (guard_at guards place).held)) ++ due_from (place + 1) skipped (drop (place + 1) guards)
  due_here skipped = ap (due_from place skipped) drop_here

  pub due_passed : (skipped : Option ℕ) → is_skipped skipped place ≡ true →
      due_from place skipped (drop place guards) ≡ due_from (place + 1) skipped (drop (place + 1) guards)
  due_passed skipped is = due_here skipped
      ∙ ap (λ b. (cond b [] (held_at place (guard_at guards place).held)) ++ due_from (place + 1) skipped (drop (place + 1) guards)) is

  due_heard : (skipped : Option ℕ) → is_skipped skipped place ≡ false →
      due_from place skipped (drop place guards) ≡ held_at place (guard_at guards place).held ++ due_from (place + 1) skipped (drop (place + 1) guards)
  due_heard skipped is = due_here skipped
      ∙ ap (λ b. (cond b [] (held_at place (guard_at guards place).held)) ++ due_from (place + 1) skipped (drop (place + 1) guards)) is

  pub due_held : (skipped : Option ℕ) (held : Held) → is_skipped skipped place ≡ false → (guard_at guards place).held ≡ Some held →
      due_from place skipped (drop place guards)
      ≡ record { point = place; version = held.version; value = held.value } ∷ due_from (place + 1) skipped (drop (place + 1) guards)
  due_held skipped held is holds = due_heard skipped is ∙ ap (λ h. held_at place h ++ due_from (place + 1) skipped (drop (place + 1) guards)) holds

  pub due_none : (skipped : Option ℕ) → is_skipped skipped place ≡ false → (guard_at guards place).held ≡ None →
      due_from place skipped (drop place guards) ≡ due_from (place + 1) skipped (drop (place + 1) guards)
  due_none skipped is holds = due_heard skipped is ∙ ap (λ h. held_at place h ++ due_from (place + 1) skipped (drop (place + 1) guards)) holds

-- behind the last point nothing is due
pub due_behind : (guards : List Guard) (place : ℕ) (skipped : Option ℕ) → length guards ≤ place → due_from place skipped (drop place guards) ≡ []
due_behind guards place skipped long = ap (due_from place skipped) (drop_all place guards long)

-- a guard that is set leaves what is due behind it
pub due_behind_set : (guards : List Guard) (place : ℕ) (guard : Guard) (skipped : Option ℕ) →
    due_from (place + 1) skipped (drop (place + 1) (set guards place guard)) ≡ due_from (place + 1) skipped (drop (place + 1) guards)
due_behind_set guards place guard skipped = ap (due_from (place + 1) skipped) (drop-set-lt (place + 1) guards place guard (omega arith))

skipped_here : (held : List Due) (place point : ℕ) → point ≡ place → cond (is_skipped (Some point) place) [] held ≡ []
skipped_here held place point is = cond-true (eqb point place) [] held (eq-eqb point place is)

skipped_from : (guards : List Guard) (from at point : ℕ) (guard : Guard) → point ≡ from + at →
    due_from from (Some point) (set guards at guard) ≡ due_from from (Some point) guards
skipped_from [] from at point guard is = refl
skipped_from (first ∷ guards) from zero point guard is =
    ap (λ front. front ++ due_from (from + 1) (Some point) guards)
    (skipped_here (held_at from guard.held) from point (omega (arith, is)) ∙ sym (skipped_here (held_at from first.held) from point (omega (arith, is))))
skipped_from (first ∷ guards) from (suc at) point guard is =
    ap (λ rest. (cond (is_skipped (Some point) from) [] (held_at from first.held)) ++ rest) (skipped_from guards (from + 1) at point guard (omega (arith, is)))

-- a guard that is set leaves what is due of the other points
pub due_skipped : (guards : List Guard) (point : ℕ) (guard : Guard) → due_from 0 (Some point) (set guards point guard) ≡ due_from 0 (Some point) guards
due_skipped guards point guard = skipped_from guards 0 point point guard (omega arith)

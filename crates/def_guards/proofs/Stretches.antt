-- Writes of which each is free after those before it keep their minimum times.
use Rattle.std.proofs.Common.{◌≡◌, ◌⊎◌, inl, inr, ℕ, ◌-◌, ◌≤◌, ℤ, true, false, List, [], ◌∷◌, ◌++◌, Option, Some, None, refl, sym, ap, ◌∙◌, subst, leb}
use Rattle.std.proofs.lemmas.Bool.{cases_Bool, or_cases, leb-true, cond-true, cond-false, false_from_ne_true}
use Rattle.std.proofs.lemmas.Bool.Decides.{Decides-int_eq}
use Rattle.std.specs.List.{AllByRecursion}
use Rattle.std.specs.Ordering.{int_eq}
use Rattle.def_guards.specs.declared.guard.Stretch.{Stretch}
use Rattle.def_guards.specs.Guards.{is_free_after, stretch_after}
use Rattle.def_guards.specs.Spacing.{Call, ChangesTo, KeepsTimes}

-- each write is free after those before it, or a reading had just shown it
abbrev pub IsOpen : (ℤ → ℕ) → Option Stretch → Call → Type 0
IsOpen minimum last call = (is_free_after minimum last call.value call.now ≡ true) ⊎ (call.shown ≡ true)

abbrev pub Spaced : (ℤ → ℕ) → Option Stretch → List Call → Type 0
Spaced minimum last [] = Unit {0}
Spaced minimum last (call ∷ calls) = IsOpen minimum last call × Spaced minimum (Some (stretch_after last call.value call.now)) calls

abbrev pub last_after : Option Stretch → List Call → Option Stretch
last_after last [] = last
last_after last (call ∷ calls) = last_after (Some (stretch_after last call.value call.now)) calls

-- ---- one write after another

pub last_after_both : (last : Option Stretch) (first then : List Call) → last_after last (first ++ then) ≡ last_after (last_after last first) then
last_after_both last [] then = refl
last_after_both last (call ∷ first) then = last_after_both (Some (stretch_after last call.value call.now)) first then

pub spaced_both : (minimum : ℤ → ℕ) (last : Option Stretch) (first then : List Call) → Spaced minimum last first → Spaced minimum (last_after last first) then →
    Spaced minimum last (first ++ then)
spaced_both minimum last [] then one two = two
spaced_both minimum last (call ∷ first) then one two = (one.0, spaced_both minimum (Some (stretch_after last call.value call.now)) first then one.1 two)

spaced_then : (minimum : ℤ → ℕ) (last : Option Stretch) (first then : List Call) → Spaced minimum last (first ++ then) → Spaced minimum (last_after last first) then
spaced_then minimum last [] then spaced = spaced
spaced_then minimum last (call ∷ first) then spaced = spaced_then minimum (Some (stretch_after last call.value call.now)) first then spaced.1

-- ---- the stretch of a value

not_equal : (x y : ℤ) → ¬ (x ≡ y) → int_eq x y ≡ false
not_equal x y other = false_from_ne_true (int_eq x y) (λ equal. other ((Decides-int_eq x y).0 equal))

-- it is of the value of its last write
stretch_value : (last : Option Stretch) (value : ℤ) (now : ℕ) → (stretch_after last value now).value ≡ value
stretch_value None value now = refl
stretch_value (Some last) value now = elim (cases_Bool (int_eq last.value value)) [
  | inl same ↦ ap (λ s. s.value) (cond-true (int_eq last.value value) last (record { value = value; since = now }) same) ∙ (Decides-int_eq last.value value).0 same
  | inr other ↦ ap (λ s. s.value) (cond-false (int_eq last.value value) last (record { value = value; since = now }) other)
]

IsOther : ℤ → Option Stretch → Type 0
IsOther value None = Unit {0}
IsOther value (Some last) = ¬ (last.value ≡ value)

-- after a last write of another value it begins with the next one
changed : (value : ℤ) (last : Option Stretch) (call : Call) (calls : List Call) → ChangesTo value (call ∷ calls) → IsOther value (last_after last (call ∷ calls))
unfolding IsOther
changed value last call [] changes = λ same. changes [] call refl (sym (stretch_value last call.value call.now) ∙ same)
changed value last call (more ∷ calls) changes = changed value (Some (stretch_after last call.value call.now)) more calls
    (λ before end is. changes (call ∷ before) end (ap (λ cs. call ∷ cs) is))

other_after : (value : ℤ) (calls : List Call) → ChangesTo value calls → IsOther value (last_after None calls)
unfolding IsOther
other_after value [] changes = tt
other_after value (call ∷ calls) changes = changed value None call calls changes

begins : (last : Option Stretch) (value : ℤ) (now : ℕ) → IsOther value last → stretch_after last value now ≡ record { value = value; since = now }
unfolding IsOther
begins None value now other = refl
begins (Some last) value now other = cond-false (int_eq last.value value) last (record { value = value; since = now }) (not_equal last.value value other)

-- it stays through writes of its value
stays : (last : Stretch) (calls : List Call) → AllByRecursion (λ call. call.value ≡ last.value) calls → last_after (Some last) calls ≡ Some last
stays last [] all = refl
stays last (call ∷ calls) all =
    let same : stretch_after (Some last) call.value call.now ≡ last = cond-true (int_eq last.value call.value) last (record { value = call.value; since = call.now })
    ((Decides-int_eq last.value call.value).1 (sym all.0)) in
    ap (λ s. last_after (Some s) calls) same ∙ stays last calls all.1

-- ---- the law

ends : (minimum : ℤ → ℕ) (last : Stretch) (next : Call) → IsOpen minimum (Some last) next → ¬ (next.value ≡ last.value) →
    (minimum last.value ≤ next.now - last.since) ⊎ (next.shown ≡ true)
ends minimum last next (inl free) other = elim (or_cases (int_eq last.value next.value) (leb (minimum last.value) (next.now - last.since)) free) [
  | inl same ↦ absurd (other (sym ((Decides-int_eq last.value next.value).0 same)))
  | inr passed ↦ inl (leb-true (minimum last.value) (next.now - last.since) passed)
]
ends minimum last next (inr shown) other = inr shown

pub keeps : (minimum : ℤ → ℕ) (calls : List Call) → Spaced minimum None calls → KeepsTimes minimum calls
keeps minimum calls spaced before stretch behind first next is changes same other =
    let all : Spaced minimum None (before ++ ((first ∷ stretch) ++ (next ∷ behind))) = subst (λ cs. Spaced minimum None cs) is spaced in
    let of_first : Spaced minimum (last_after None before) ((first ∷ stretch) ++ (next ∷ behind)) = spaced_then minimum None before ((first ∷ stretch) ++ (next ∷ behind)) all in
    let of_next : Spaced minimum (last_after (last_after None before) (first ∷ stretch)) (next ∷ behind) =
    spaced_then minimum (last_after None before) (first ∷ stretch) (next ∷ behind) of_first in
    let begun : stretch_after (last_after None before) first.value first.now ≡ record { value = first.value; since = first.now } =
    begins (last_after None before) first.value first.now (other_after first.value before changes) in
    let is_now : last_after (last_after None before) (first ∷ stretch) ≡ Some (record { value = first.value; since = first.now }) =
    ap (λ s. last_after (Some s) stretch) begun ∙ stays (record { value = first.value; since = first.now }) stretch same in
    let then : Spaced minimum (Some (record { value = first.value; since = first.now })) (next ∷ behind) = subst (λ last. Spaced minimum last (next ∷ behind)) is_now of_next in
    ends minimum (record { value = first.value; since = first.now }) next then.0 other

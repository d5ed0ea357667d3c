-- What the number of a counter's word, and what a seat knows, say of the phase.
use Rattle.std.proofs.Common.{◌≡◌, ◌≢◌, ℕ, refl, sym, ap, arith}
use Rattle.boss_counters.specs.Rule.{Phase, free, held, asked, served, told, number_of, IsHeldBy, IsAskedBy, IsOwedBy, IsPartIn}
use Rattle.boss_counters.specs.declared.view.Part.{Part}
use Rattle.boss_counters.specs.declared.view.Part.TheVariants.{Nothing, Place, Asked, Owes}

module _ {Q R : Type 0} where
  pub is_free : (p : Phase Q R) → number_of p ≡ 0 → p ≡ free
  is_free free n = refl
  is_free (held i) n = absurd (omega arith)
  is_free (asked i q) n = absurd (omega arith)
  is_free (served i q j) n = absurd (omega arith)
  is_free (told i q x) n = absurd (omega arith)

  pub is_held : (p : Phase Q R) (id : ℕ) → IsHeldBy p id → p ≡ held id
  is_held free id h = absurd h
  is_held (held i) id h = ap held h
  is_held (asked i q) id h = absurd h
  is_held (served i q j) id h = absurd h
  is_held (told i q x) id h = absurd h

  pub is_asked : (p : Phase Q R) → number_of p ≡ 2 → (i : ℕ) × (q : Q) × (p ≡ asked i q)
  is_asked free n = absurd (omega arith)
  is_asked (held i) n = absurd (omega arith)
  is_asked (asked i q) n = (i, q, refl)
  is_asked (served i q j) n = absurd (omega arith)
  is_asked (told i q x) n = absurd (omega arith)

  pub is_own : (p : Phase Q R) (id : ℕ) (q : Q) → number_of p ≡ 2 → IsAskedBy p id q → p ≡ asked id q
  is_own free id q n h = absurd h
  is_own (held i) id q n h = absurd h
  is_own (asked i r) id q n h = λ k. asked (h.0 k) (h.1 k)
  is_own (served i r j) id q n h = absurd (omega arith)
  is_own (told i r x) id q n h = absurd (omega arith)

  pub is_told : (p : Phase Q R) (id : ℕ) (q : Q) → number_of p ≡ 4 → IsAskedBy p id q → (x : R) × (p ≡ told id q x)
  is_told free id q n h = absurd h
  is_told (held i) id q n h = absurd h
  is_told (asked i r) id q n h = absurd (omega arith)
  is_told (served i r j) id q n h = absurd (omega arith)
  is_told (told i r x) id q n h = (x, λ k. told (h.0 k) (h.1 k) x)

  pub is_served : (p : Phase Q R) (id : ℕ) (q : Q) → IsOwedBy p id q → (i : ℕ) × (p ≡ served i q id)
  is_served free id q h = absurd h
  is_served (held i) id q h = absurd h
  is_served (asked i r) id q h = absurd h
  is_served (served i r j) id q h = (i, λ k. served i (h.1 k) (h.0 k))
  is_served (told i r x) id q h = absurd h

-- What the other seats know stays so, where one seat moves on
module _ {Q : Type 0} (R : Type 0) where
  pub claimed_else : (id j : ℕ) (part : Part Q) → IsPartIn {R = R} free j part → IsPartIn {R = R} (held id) j part
  claimed_else id j Nothing has = tt
  claimed_else id j Place has = absurd has
  claimed_else id j (Asked q) has = absurd has
  claimed_else id j (Owes q) has = absurd has

  -- none but the seat with the place knows of it
  pub held_else : (id j : ℕ) (part : Part Q) (next : Phase Q R) → j ≢ id → IsPartIn {R = R} (held id) j part → IsPartIn next j part
  held_else id j Nothing next apart has = tt
  held_else id j Place next apart has = absurd (apart (sym has))
  held_else id j (Asked q) next apart has = absurd has
  held_else id j (Owes q) next apart has = absurd has

  pub recalled_else : (id j : ℕ) (q : Q) (part : Part Q) → j ≢ id → IsPartIn {R = R} (asked id q) j part → IsPartIn {R = R} (held id) j part
  recalled_else id j q Nothing apart has = tt
  recalled_else id j q Place apart has = absurd has
  recalled_else id j q (Asked r) apart has = absurd (apart (sym has.0))
  recalled_else id j q (Owes r) apart has = absurd has

  pub fetched_else : (id j : ℕ) (q : Q) (x : R) (part : Part Q) → j ≢ id → IsPartIn (told id q x) j part → IsPartIn {R = R} (held id) j part
  fetched_else id j q x Nothing apart has = tt
  fetched_else id j q x Place apart has = absurd has
  fetched_else id j q x (Asked r) apart has = absurd (apart (sym has.0))
  fetched_else id j q x (Owes r) apart has = absurd has

  pub accepted_else : (id i j : ℕ) (q : Q) (part : Part Q) → IsPartIn {R = R} (asked i q) j part → IsPartIn {R = R} (served i q id) j part
  accepted_else id i j q Nothing has = tt
  accepted_else id i j q Place has = absurd has
  accepted_else id i j q (Asked r) has = has
  accepted_else id i j q (Owes r) has = absurd has

  pub told_else : (id i j : ℕ) (q : Q) (x : R) (part : Part Q) → j ≢ id → IsPartIn {R = R} (served i q id) j part → IsPartIn (told i q x) j part
  told_else id i j q x Nothing apart has = tt
  told_else id i j q x Place apart has = absurd has
  told_else id i j q x (Asked r) apart has = has
  told_else id i j q x (Owes r) apart has = absurd (apart (sym has.0))

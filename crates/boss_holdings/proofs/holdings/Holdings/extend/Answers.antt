use Rattle.std.proofs.Common.{◌≡◌, ◌∙◌, ℕ, nat_lt, true, false, [], ◌∷◌, Option, Some, None, length, inl, inr, refl, ap, sym, arith}
use Rattle.std.specs.Option.{option_map, option_map_or}
use Rattle.std.proofs.lemmas.Bool.{cond_both}
use Rattle.std.proofs.lemmas.Bool.Decides.{nat_tests}
use Rattle.boss_model.specs.declared.state.Lease.{Lease}
use Rattle.boss_model.specs.Renew.{extended, extended_if}
use Rattle.boss_slots.specs.Slots.{all}
use Rattle.boss_holdings.specs.Held.{in_slots}
use Rattle.boss_slots.specs.Tables.{lease_at}
use Rattle.boss_slots.specs.declared.place.Place.{Place}
use Rattle.boss_slots.proofs.BySlot.{all-same, at-whole, map-all}
use Rattle.boss_slots.proofs.Kept.{lease-placed, one-or-other}
use Rattle.boss_holdings.proofs.holdings.Holdings.extend.Goals as goal

-- a lease in the slot gets longer, and one in another slot stays
extended-here : (slot : Place) (until : ℕ) (o : Option Lease) → ((l : Lease) → o ≡ Some l → (l.point ≡ slot.point) × (l.priority ≡ slot.priority)) → option_map (extended until) o ≡ option_map (extended_if (in_slots (slot ∷ [])) until) o
extended-here slot until None at = refl
extended-here slot until (Some l) at =
    let place = at l refl in let one = place.0 in let two = place.1 in
    let here : in_slots (slot ∷ []) l ≡ true = grind (arith, nat_tests) in rw here refl

extended-there : (slot : Place) (until a b : ℕ) (o : Option Lease) → (a ≡ slot.point → b ≡ slot.priority → ⊥) → ((l : Lease) → o ≡ Some l → (l.point ≡ a) × (l.priority ≡ b)) → o ≡ option_map (extended_if (in_slots (slot ∷ [])) until) o
extended-there slot until a b None differs at = refl
extended-there slot until a b (Some l) differs at =
    let place = at l refl in let one = place.0 in let two = place.1 in
    cond_both (in_slots (slot ∷ []) l) (extended until l) l (λ x. Some l ≡ Some x)
    (λ here. absurd (differs (grind (arith, nat_tests)) (grind (arith, nat_tests)))) (λ _. refl)

pub returns-clause-leases : goal.returns-clause-leases
returns-clause-leases c =
    let t = c.self.inside.tables in
    let e = c.extend_slot.ensures in
    rw (← c.self.view_is) (ap (all (lease_at c.extend_slot.new.tables)) e.points
    ∙ all-same (lease_at c.extend_slot.new.tables) (λ p q. option_map (extended_if (in_slots (c.args.slot ∷ [])) c.args.until) (lease_at t p q)) (length t.arrays.items)
    (λ p q _ _ _. elim (one-or-other c.args.slot.point c.args.slot.priority p q) [
      | inl (one, two) ↦ ap (λ x. lease_at c.extend_slot.new.tables x q) one ∙ ap (lease_at c.extend_slot.new.tables c.args.slot.point) two ∙ e.lease
          ∙ extended-here c.args.slot c.args.until (lease_at t c.args.slot.point c.args.slot.priority) (lease-placed t c.self.invariant.kept c.args.slot.point c.args.slot.priority)
          ∙ ap (option_map (extended_if (in_slots (c.args.slot ∷ [])) c.args.until)) (sym (ap (λ x. lease_at t x q) one ∙ ap (lease_at t c.args.slot.point) two))
      | inr differs ↦ e.others p q differs ∙ extended-there c.args.slot c.args.until p q (lease_at t p q) differs (lease-placed t c.self.invariant.kept p q)
    ])
    ∙ sym (map-all (extended_if (in_slots (c.args.slot ∷ [])) c.args.until) (lease_at t) (length t.arrays.items)))

pub returns-clause-longer : goal.returns-clause-longer
returns-clause-longer c =
    let t = c.self.inside.tables in
    let slot = rw (← c.self.view_is) at c.requires.slot in
    rw (← c.self.view_is) (c.extend_slot.ensures.longer
    ∙ ap (λ o. option_map_or (λ (lease : Lease). nat_lt lease.until c.args.until) o false)
    (sym (at-whole (λ (x : Lease). x.point) (λ (x : Lease). x.priority) (lease_at t) (length t.arrays.items) c.args.slot.point c.args.slot.priority (lease-placed t c.self.invariant.kept) slot.0 slot.1 slot.2)))

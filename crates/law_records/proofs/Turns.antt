-- Leases that are extended by one test and then by another are extended by both.
use Rattle.std.proofs.Common.{◌≡◌, ℕ, max, nat_lt, List, [], ◌∷◌, map, Bool, true, false, ◌&&◌, ◌||◌, cond, refl, ap, sym, ◌∙◌, arith}
use Rattle.std.specs.List.{list_any}
use Rattle.std.proofs.lemmas.Bool.Decides.{nat_tests}
use Rattle.boss_model.specs.declared.state.Lease.{Lease}
use Rattle.boss_model.specs.Renew.{extended, extended_if}
use Rattle.law_time.proofs.Filters.{any-map, each-always}
use Rattle.law_records.proofs.Firsts.{any-or}
use Rattle.law_records.proofs.Lookups.{or-false, any-alike}

module _ (first next : Lease → Bool) (until : ℕ) where
  both-extend : (lease : Lease) → extended_if next until (extended_if first until lease) ≡ extended_if (λ l. first l || next l) until lease
  both-extend lease = by (first lease)
    where
      again : (b : Bool) → cond b (extended until (extended until lease)) (extended until lease) ≡ extended until lease
      again true = let same : max (max lease.until until) until ≡ max lease.until until = grind (arith, nat_tests) in λ i. record lease { until = same i }
      again false = refl

      by : (b : Bool) → extended_if next until (cond b (extended until lease) lease) ≡ cond (b || next lease) (extended until lease) lease
      by true = again (next (extended until lease))
      by false = refl

  both-shorten : (lease : Lease) → ((first lease && nat_lt lease.until until) || (next (extended_if first until lease) && nat_lt (extended_if first until lease).until until))
      ≡ ((first lease || next lease) && nat_lt lease.until until)
  both-shorten lease = by (first lease)
    where
      and-none : (a b c : Bool) → c ≡ false → (a || (b && c)) ≡ a
      and-none a true c none = ap (λ k. a || k) none ∙ or-false a
      and-none a false c none = or-false a

      by : (b : Bool) → ((b && nat_lt lease.until until) || (next (cond b (extended until lease) lease) && nat_lt (cond b (extended until lease) lease).until until))
          ≡ ((b || next lease) && nat_lt lease.until until)
      by true = and-none (nat_lt lease.until until) (next (extended until lease)) (nat_lt (max lease.until until) until) (grind (arith, nat_tests))
      by false = refl

  pub extended-both : (leases : List Lease) → map (extended_if next until) (map (extended_if first until) leases) ≡ map (extended_if (λ l. first l || next l) until) leases
  extended-both [] = refl
  extended-both (l ∷ ls) = λ i. both-extend l i ∷ extended-both ls i

  pub shorter-both : (leases : List Lease) →
      (list_any (λ l. first l && nat_lt l.until until) leases || list_any (λ l. next l && nat_lt l.until until) (map (extended_if first until) leases))
      ≡ list_any (λ l. (first l || next l) && nat_lt l.until until) leases
  shorter-both leases =
      ap (λ b. list_any (λ l. first l && nat_lt l.until until) leases || b) (any-map (λ l. next l && nat_lt l.until until) (extended_if first until) leases)
      ∙ sym (any-or (λ l. first l && nat_lt l.until until) (λ l. next (extended_if first until l) && nat_lt (extended_if first until l).until until) leases)
      ∙ any-alike (λ l. (first l && nat_lt l.until until) || (next (extended_if first until l) && nat_lt (extended_if first until l).until until))
      (λ l. (first l || next l) && nat_lt l.until until) leases (each-always _ both-shorten leases)

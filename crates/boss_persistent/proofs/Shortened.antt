-- Leases that end before their time, by two tests that agree on those that there are.
use Rattle.std.proofs.Common.{◌≡◌, ℕ, List, map, Bool, cond, ap}
use Rattle.std.specs.List.{AllByRecursion}
use Rattle.boss_model.specs.declared.notice.Cause.{Cause}
use Rattle.boss_model.specs.declared.state.Lease.{Lease}
use Rattle.boss_model.specs.Ends.{shortened, shortened_if}
use Rattle.boss_model.specs.Reversions.{reversion_of}
use Rattle.law_time.proofs.Filters.{filter-same}
use Rattle.law_time.proofs.Orders.{each-map}
use Rattle.boss_booking.specs.Gathered.{end_tellings, ended_with}
use Rattle.law_records.proofs.Ending.{map-alike}

module _ (which other : Lease → Bool) (n : ℕ) (leases : List Lease) (agree : AllByRecursion (λ lease. which lease ≡ other lease) leases) where
  pub shortened-alike : map (shortened_if which n) leases ≡ map (shortened_if other n) leases
  shortened-alike = map-alike (shortened_if which n) (shortened_if other n) leases
      (each-map (λ lease. which lease ≡ other lease) (λ lease. shortened_if which n lease ≡ shortened_if other n lease)
      (λ lease same. ap (λ b. cond b (shortened n lease) lease) same) leases agree)

  pub told-alike : (why : Cause) → end_tellings which why n leases ≡ end_tellings other why n leases
  told-alike why = ap (map (λ (lease : Lease). ended_with why (reversion_of (shortened n lease)))) (filter-same which other leases agree)

-- Two tests that agree on the leases that there are make the same of them.
use Rattle.std.proofs.Common.{◌≡◌, ℕ, List, [], ◌∷◌, ◌++◌, map, Bool, cond, Option, Some, None, refl, ap}
use Rattle.std.specs.List.{AllByRecursion}
use Rattle.boss_model.specs.declared.notice.Cause.{Cause}
use Rattle.boss_model.specs.declared.state.Lease.{Lease}
use Rattle.boss_model.specs.Ends.{shortened, shortened_if, end_if, end_leases}
use Rattle.boss_model.specs.Groups.{conclude}
use Rattle.boss_model.specs.Happenings.{Happening, ended}
use Rattle.boss_model.specs.Records.{End, Part, Transaction}
use Rattle.boss_model.specs.Reversions.{reversion_of, courses}
use Rattle.boss_model.specs.State.{Persistent}
use Rattle.boss_model.specs.Time.{live, under_way, lease_of_part, end_after, part_after, record_after}
use Rattle.law_time.proofs.Filters.{filter-same, each-always, each-found}
use Rattle.law_time.proofs.Orders.{each-map}

pub map-alike : {X Y : Type 0} (f g : X → Y) (xs : List X) → AllByRecursion (λ x. f x ≡ g x) xs → map f xs ≡ map g xs
map-alike f g [] all = refl
map-alike f g (x ∷ xs) all = λ i. all.0 i ∷ map-alike f g xs all.1 i

module _ (which other : Lease → Bool) (why : Cause) (n : ℕ) where
  end-alike : (found : Option Lease) → ((l : Lease) → found ≡ Some l → which l ≡ other l) → (end : Option End) →
      end_after (end_if which why n) found end ≡ end_after (end_if other why n) found end
  end-alike found agree (Some end) = refl
  end-alike None agree None = refl
  end-alike (Some l) agree None = ap (λ b. cond {A = Option End} b (Some (record { cause = why; at = n })) None) (agree l refl)

  module _ (leases : List Lease) (agree : AllByRecursion (λ l. which l ≡ other l) leases) where
    part-alike : (txn : ℕ) (part : Part) → part_after (end_if which why n) leases txn part ≡ part_after (end_if other why n) leases txn part
    part-alike txn part =
        let found = lease_of_part leases txn part.point part.priority in
        let same = end-alike found (λ l is. each-found (λ l. which l ≡ other l) _ leases l agree is) part.end in
        λ i. record part { end = same i }

    records-alike : (ts : List Transaction) → map (record_after (end_if which why n) leases) ts ≡ map (record_after (end_if other why n) leases) ts
    records-alike ts = map-alike (record_after (end_if which why n) leases) (record_after (end_if other why n) leases) ts
        (each-always (λ t. record_after (end_if which why n) leases t ≡ record_after (end_if other why n) leases t)
        (λ t. let same = map-alike (part_after (end_if which why n) leases t.txn) (part_after (end_if other why n) leases t.txn) t.parts
        (each-always (λ part. part_after (end_if which why n) leases t.txn part ≡ part_after (end_if other why n) leases t.txn part) (part-alike t.txn) t.parts) in
        λ i. record t { parts = same i }) ts)

    shortened-alike : map (shortened_if which n) leases ≡ map (shortened_if other n) leases
    shortened-alike = map-alike (shortened_if which n) (shortened_if other n) leases
        (each-map (λ l. which l ≡ other l) (λ l. shortened_if which n l ≡ shortened_if other n l) (λ l same. ap (λ b. cond b (shortened n l) l) same) leases agree)

-- leases end by what is known of them
pub ends-alike : (which other : Lease → Bool) (why : Cause) (n : ℕ) (first : List Happening) (d : Persistent) → AllByRecursion (λ l. which l ≡ other l) d.leases →
    end_leases which why n first d ≡ end_leases other why n first d
ends-alike which other why n first d agree =
    let short = shortened-alike which other why n d.leases agree in
    let those = filter-same which other d.leases agree in
    let records = records-alike which other why n d.leases agree d.txns in
    λ i. conclude n (first ++ map (λ lease. ended why (reversion_of (shortened n lease))) (those i)) d (record d {
      leases = live n (short i);
      pending = under_way n (courses d.pending (short i));
      txns = records i;
    })

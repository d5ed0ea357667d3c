use Rattle.std.proofs.Common.{◌≡◌, ◌∙◌, ℕ, ◌<◌, ◌≤◌, max, nat_lt, true, false, Some, None, get_or, inl, inr, ap, sym, subst, arith}
use Rattle.std.specs.Option.{option_copied, option_map}
use Rattle.std.proofs.lemmas.Bool.Decides.{nat_tests}
use Rattle.boss_model.specs.declared.state.Lease.{Lease}
use Rattle.boss_model.specs.Renew.{extended}
use Rattle.boss_slots.specs.Tables.{IsMoved, lease_at, pending_at}
use Rattle.boss_slots.proofs.Kept.{lease-placed, lease-there, no-pending-there, one-or-other}
use Rattle.boss_slots.proofs.extending.extend_slot.Goals as goal

same-until : (l : Lease) (until : ℕ) → max l.until until ≡ l.until → extended until l ≡ l
same-until l until same = ap (λ m. record l { until = m }) same

pub returns-then-until-lease-clause-lease : goal.returns-then-until-lease-clause-lease
returns-then-until-lease-clause-lease c =
    let l = c.in-Some-get.lease.now in
    let entry = c.in-Some.ensures.some in
    let there : get_or c.args.tables.now.leases c.in-Some.key None ≡ Some l = sym c.get.ensures ∙ ap option_copied c.in-Some-get.is in
    let is : lease_at c.args.tables.now c.args.point c.args.priority ≡ Some l = lease-there c.args.tables.now c.args.point c.args.priority c.in-Some.key entry ∙ there in
    let at = lease-placed c.args.tables.now c.requires.kept c.args.point c.args.priority l is in
    let short : c.args.until ≤ l.until = c.if-until-lease.true in
    is ∙ ap (λ x. Some x) (sym (same-until l c.args.until (omega arith))) ∙ sym (ap (option_map (extended c.args.until)) is)

pub returns-then-until-lease-clause-longer : goal.returns-then-until-lease-clause-longer
returns-then-until-lease-clause-longer c =
    let l = c.in-Some-get.lease.now in
    let entry = c.in-Some.ensures.some in
    let there : get_or c.args.tables.now.leases c.in-Some.key None ≡ Some l = sym c.get.ensures ∙ ap option_copied c.in-Some-get.is in
    let is : lease_at c.args.tables.now c.args.point c.args.priority ≡ Some l = lease-there c.args.tables.now c.args.point c.args.priority c.in-Some.key entry ∙ there in
    let at = lease-placed c.args.tables.now c.requires.kept c.args.point c.args.priority l is in
    let short : c.args.until ≤ l.until = c.if-until-lease.true in
    let no-longer : nat_lt l.until c.args.until ≡ false = grind (arith, nat_tests) in
    rw is (sym no-longer)

pub returns-clause-lease : goal.returns-clause-lease
returns-clause-lease c =
    let l = c.in-Some-get.lease.now in
    let entry = c.in-Some.ensures.some in
    let there : get_or c.args.tables.now.leases c.in-Some.key None ≡ Some l = sym c.get.ensures ∙ ap option_copied c.in-Some-get.is in
    let is : lease_at c.args.tables.now c.args.point c.args.priority ≡ Some l = lease-there c.args.tables.now c.args.point c.args.priority c.in-Some.key entry ∙ there in
    let at = lease-placed c.args.tables.now c.requires.kept c.args.point c.args.priority l is in
    let moved = subst (λ p. IsMoved c.args.tables.now c.extend_lease.new.tables p l.priority (Some (record l { until = c.args.until })) None) at.0 (c.extend_lease.ensures.moved l there) in
    let moved' = subst (λ q. IsMoved c.args.tables.now c.extend_lease.new.tables c.args.point q (Some (record l { until = c.args.until })) None) at.1 moved in
    let long : l.until < c.args.until = c.if-until-lease.false in
    let until : c.args.until ≡ max l.until c.args.until = omega arith in
    moved'.lease ∙ ap (λ m. Some (record l { until = m })) until ∙ sym (ap (option_map (extended c.args.until)) is)

pub returns-clause-others : goal.returns-clause-others
returns-clause-others c a b differs =
    let l = c.in-Some-get.lease.now in
    let entry = c.in-Some.ensures.some in
    let there : get_or c.args.tables.now.leases c.in-Some.key None ≡ Some l = sym c.get.ensures ∙ ap option_copied c.in-Some-get.is in
    let is : lease_at c.args.tables.now c.args.point c.args.priority ≡ Some l = lease-there c.args.tables.now c.args.point c.args.priority c.in-Some.key entry ∙ there in
    let at = lease-placed c.args.tables.now c.requires.kept c.args.point c.args.priority l is in
    let moved = subst (λ p. IsMoved c.args.tables.now c.extend_lease.new.tables p l.priority (Some (record l { until = c.args.until })) None) at.0 (c.extend_lease.ensures.moved l there) in
    let moved' = subst (λ q. IsMoved c.args.tables.now c.extend_lease.new.tables c.args.point q (Some (record l { until = c.args.until })) None) at.1 moved in
    (moved'.others a b differs).0

pub returns-clause-pending : goal.returns-clause-pending
returns-clause-pending c a b =
    let l = c.in-Some-get.lease.now in
    let entry = c.in-Some.ensures.some in
    let there : get_or c.args.tables.now.leases c.in-Some.key None ≡ Some l = sym c.get.ensures ∙ ap option_copied c.in-Some-get.is in
    let is : lease_at c.args.tables.now c.args.point c.args.priority ≡ Some l = lease-there c.args.tables.now c.args.point c.args.priority c.in-Some.key entry ∙ there in
    let at = lease-placed c.args.tables.now c.requires.kept c.args.point c.args.priority l is in
    let moved = subst (λ p. IsMoved c.args.tables.now c.extend_lease.new.tables p l.priority (Some (record l { until = c.args.until })) None) at.0 (c.extend_lease.ensures.moved l there) in
    let moved' = subst (λ q. IsMoved c.args.tables.now c.extend_lease.new.tables c.args.point q (Some (record l { until = c.args.until })) None) at.1 moved in
    let none = no-pending-there c.args.tables.now c.args.point c.args.priority c.in-Some.key entry in
    elim (one-or-other c.args.point c.args.priority a b) [
      | inl (one, two) ↦ ap (λ x. pending_at c.extend_lease.new.tables x b) one ∙ ap (pending_at c.extend_lease.new.tables c.args.point) two ∙ moved'.pending
          ∙ sym (ap (λ x. pending_at c.args.tables.now x b) one ∙ ap (pending_at c.args.tables.now c.args.point) two ∙ none)
      | inr differs ↦ (moved'.others a b differs).1
    ]

pub returns-clause-timed : goal.returns-clause-timed
returns-clause-timed c last timed =
    let l = c.in-Some-get.lease.now in
    let entry = c.in-Some.ensures.some in
    let there : get_or c.args.tables.now.leases c.in-Some.key None ≡ Some l = sym c.get.ensures ∙ ap option_copied c.in-Some-get.is in
    let is : lease_at c.args.tables.now c.args.point c.args.priority ≡ Some l = lease-there c.args.tables.now c.args.point c.args.priority c.in-Some.key entry ∙ there in
    let at = lease-placed c.args.tables.now c.requires.kept c.args.point c.args.priority l is in
    let long : l.until < c.args.until = c.if-until-lease.false in
    c.extend_lease.ensures.timed last l there (omega arith) timed

pub returns-clause-points : goal.returns-clause-points
returns-clause-points c =
    let l = c.in-Some-get.lease.now in
    let entry = c.in-Some.ensures.some in
    let there : get_or c.args.tables.now.leases c.in-Some.key None ≡ Some l = sym c.get.ensures ∙ ap option_copied c.in-Some-get.is in
    let is : lease_at c.args.tables.now c.args.point c.args.priority ≡ Some l = lease-there c.args.tables.now c.args.point c.args.priority c.in-Some.key entry ∙ there in
    let at = lease-placed c.args.tables.now c.requires.kept c.args.point c.args.priority l is in
    let moved = subst (λ p. IsMoved c.args.tables.now c.extend_lease.new.tables p l.priority (Some (record l { until = c.args.until })) None) at.0 (c.extend_lease.ensures.moved l there) in
    let moved' = subst (λ q. IsMoved c.args.tables.now c.extend_lease.new.tables c.args.point q (Some (record l { until = c.args.until })) None) at.1 moved in
    moved'.points

pub returns-clause-longer : goal.returns-clause-longer
returns-clause-longer c =
    let l = c.in-Some-get.lease.now in
    let entry = c.in-Some.ensures.some in
    let there : get_or c.args.tables.now.leases c.in-Some.key None ≡ Some l = sym c.get.ensures ∙ ap option_copied c.in-Some-get.is in
    let is : lease_at c.args.tables.now c.args.point c.args.priority ≡ Some l = lease-there c.args.tables.now c.args.point c.args.priority c.in-Some.key entry ∙ there in
    let at = lease-placed c.args.tables.now c.requires.kept c.args.point c.args.priority l is in
    let long : l.until < c.args.until = c.if-until-lease.false in
    let longer : nat_lt l.until c.args.until ≡ true = grind (arith, nat_tests) in
    rw is (sym longer)

use Rattle.std.proofs.Common.{◌≡◌, ◌==◌, ◌&&◌, ◌≤◌, true, false, Some, length, refl, sym, ◌∙◌, ap, rules, arith}
use Rattle.std.specs.Prelude.{slice_get}
use Rattle.std.proofs.lemmas.Bool.Decides.{nat_tests}
use Rattle.std.proofs.lemmas.Option.{slice_get_read, slice_get_past}
use Rattle.boss_model.specs.declared.state.Lease.{Lease}
use Rattle.boss_state_check.proofs.Ranked.{lease-found, kept, kept-some, kept-not}
use Rattle.boss_state_check.proofs.searches.lease_at.Goals as goal
use Rattle.boss_state_check.proofs.searches.lease_at.Goals.{in_default-via-in-Some+else-eq, in_default-via-in_default}

pub returns-in-Some : goal.returns-in-Some
returns-in-Some c =
    let test = (λ (lease : Lease). (lease.point == c.args.slot.0) && (lease.priority == c.args.slot.1)) in
    let looked = c.in-Some.ensures.lookup in
    let there : slice_get c.args.leases.now c.lease_place.result ≡ Some c.in-Some.lease.now =
    slice_get_read c.args.leases.now (length c.args.leases.now) c.lease_place.result c.in-Some.lease.now refl looked.3.0 looked.1 in
    let passes : test c.in-Some.lease.now ≡ true = search rules in
    sym (lease-found c.args.leases.now c.args.slot.0 c.args.slot.1 c.lease_place.result c.requires c.lease_place.ensures ∙ kept-some test _ c.in-Some.lease.now there passes)

pub returns-in_default : goal.returns-in_default
returns-in_default c =
    let test = (λ (lease : Lease). (lease.point == c.args.slot.0) && (lease.priority == c.args.slot.1)) in
    let found = lease-found c.args.leases.now c.args.slot.0 c.args.slot.1 c.lease_place.result c.requires c.lease_place.ensures in
    elim c.in_default.branch [
      | in_default-via-in-Some+else-eq w ↦
          (let looked = w.in-Some.ensures.lookup in
          let there : slice_get c.args.leases.now c.lease_place.result ≡ Some w.in-Some.lease.now =
          slice_get_read c.args.leases.now (length c.args.leases.now) c.lease_place.result w.in-Some.lease.now refl looked.3.0 looked.1 in
          let fails : test w.in-Some.lease.now ≡ false = search rules in
          sym (found ∙ kept-not test _ w.in-Some.lease.now there fails))
      | in_default-via-in_default w ↦
          (let past : length c.args.leases.now ≤ c.lease_place.result = grind (arith, nat_tests, w.in_default.ensures.lookup.0) in
          sym (found ∙ ap (kept test) (slice_get_past c.args.leases.now c.lease_place.result past)))
    ]

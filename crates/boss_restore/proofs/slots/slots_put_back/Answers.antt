use Rattle.std.proofs.Common.{◌≡◌, ◌∙◌, ◌<◌, ◌≤◌, sym, subst}
use Rattle.std.specs.List.{AllByRecursion}
use Rattle.boss_model.specs.declared.state.Lease.{Lease}
use Rattle.boss_model.specs.declared.state.Pending.{Pending}
use Rattle.boss_model.specs.Seen.{seen}
use Rattle.boss_model.specs.Sound.{Rising}
use Rattle.boss_model.specs.State.{lease_slot, pending_slot}
use Rattle.boss_holdings.specs.Putting.{IsUnderWay}
use Rattle.boss_restore.proofs.Places.{leases-placed, pending-placed, pending-playing}
use Rattle.boss_restore.proofs.slots.slots_put_back.Goals as goal

pub put_back-requires-clause-lease_slots : goal.put_back-requires-clause-lease_slots
put_back-requires-clause-lease_slots c = subst (Rising lease_slot) (sym (c.in_ok-leases.ensures ∙ c.slice.ensures)) c.requires.sound.2.lease_slots

pub put_back-requires-clause-pending_slots : goal.put_back-requires-clause-pending_slots
put_back-requires-clause-pending_slots c = subst (Rising pending_slot) (sym (c.in_ok-pending.ensures ∙ c.slice-2.ensures)) c.requires.sound.2.pending_slots

pub put_back-requires-clause-slots : goal.put_back-requires-clause-slots
put_back-requires-clause-slots c =
    let leases : c.in_ok-leases.leases.items ≡ c.args.kept.now.leases = c.in_ok-leases.ensures ∙ c.slice.ensures in
    let pending : c.in_ok-pending.pending.items ≡ c.args.kept.now.pending = c.in_ok-pending.ensures ∙ c.slice-2.ensures in
    rw (leases, pending) c.requires.sound.2.slots

pub put_back-requires-clause-leases : goal.put_back-requires-clause-leases
put_back-requires-clause-leases c =
    let leases : c.in_ok-leases.leases.items ≡ c.args.kept.now.leases = c.in_ok-leases.ensures ∙ c.slice.ensures in
    subst (AllByRecursion (λ (l : Lease). (l.point < c.args.points) × (1 ≤ l.priority) × (l.priority ≤ 16))) (sym leases)
    (subst (λ n. AllByRecursion (λ (l : Lease). (l.point < n) × (1 ≤ l.priority) × (l.priority ≤ 16)) c.args.kept.now.leases) c.requires.sound.1
    (leases-placed c.requires.sound.0 (seen c.args.kept.now) c.requires.sound.2))

pub put_back-requires-clause-pending : goal.put_back-requires-clause-pending
put_back-requires-clause-pending c =
    let pending : c.in_ok-pending.pending.items ≡ c.args.kept.now.pending = c.in_ok-pending.ensures ∙ c.slice-2.ensures in
    subst (AllByRecursion (λ (r : Pending). (r.point < c.args.points) × (1 ≤ r.priority) × (r.priority ≤ 16))) (sym pending)
    (subst (λ n. AllByRecursion (λ (r : Pending). (r.point < n) × (1 ≤ r.priority) × (r.priority ≤ 16)) c.args.kept.now.pending) c.requires.sound.1
    (pending-placed c.requires.sound.0 (seen c.args.kept.now) c.requires.sound.2))

pub put_back-requires-clause-playing : goal.put_back-requires-clause-playing
put_back-requires-clause-playing c =
    subst (AllByRecursion (IsUnderWay c.args.kept.now.now)) (sym (c.in_ok-pending.ensures ∙ c.slice-2.ensures))
    (pending-playing c.requires.sound.0 (seen c.args.kept.now) c.requires.sound.2)

pub returns : goal.returns
returns c =
    let leases : c.in_ok-leases.leases.items ≡ c.args.kept.now.leases = c.in_ok-leases.ensures ∙ c.slice.ensures in
    let pending : c.in_ok-pending.pending.items ≡ c.args.kept.now.pending = c.in_ok-pending.ensures ∙ c.slice-2.ensures in
    rw (leases, pending) at c.put_back.ensures

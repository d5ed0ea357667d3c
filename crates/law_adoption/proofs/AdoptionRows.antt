-- Adopted states, computed from the definitions alone.
use Rattle.std.proofs.Common.{◌≡◌, [], ◌∷◌, pos, refl, map, None}
use Rattle.std.specs.Prelude.{codes}
use Rattle.boss_model.specs.declared.answer.Answer.TheVariants as answer
use Rattle.boss_model.specs.declared.answer.Refusal.TheVariants as refusal
use Rattle.boss_model.specs.declared.notice.Stage.TheVariants as stage
use Rattle.boss_model.specs.declared.command.Command.TheVariants as command
use Rattle.boss_model.specs.declared.command.Policy.TheVariants.{Abort}
use Rattle.boss_model.specs.declared.state.Lease.{Lease}
use Rattle.boss_model.specs.Catalogue.{actuators}
use Rattle.boss_model.specs.Machine.{step}
use Rattle.boss_model.specs.Queries.{status}
use Rattle.boss_model.specs.Records.{Part}
use Rattle.boss_model.specs.Run.{answers}
use Rattle.boss_model.specs.Settle.{opened}
use Rattle.boss_model.specs.State.{Persistent, lease_slot, pending_slot}
use Rattle.boss_model.specs.Target.{target}
use Rattle.boss_model.specs.Time.{tick}
use Rattle.boss_model.proofs.Building.{damper, lamp, fan, at, write, reverting, held, submit, cancel, a_attaches}
use Rattle.law_adoption.specs.Adopted.{adopted}
use Rattle.law_adoption.specs.MayMove.{in_use, unfit}
use Rattle.law_adoption.specs.Renumber.{renumbered}
use Rattle.law_adoption.proofs.Catalogues.{old, changed, turned_round, lamp_and_damper, after, one_lease}

-- ---- a fan is removed, and a valve added

may_change : (in_use (renumbered old changed) one_lease ≡ None) × (unfit (actuators changed) (renumbered old changed) one_lease ≡ None)
unfolding step
may_change = (refl, refl)

-- nothing changes, since the damper keeps its number
same_state : adopted (renumbered old changed) one_lease ≡ one_lease
unfolding step
same_state = refl

-- each device is told its target: the damper that of its lease, the lamp and the valve the new defaults
targets : map (λ proxy. proxy.commanded) (opened (actuators changed) (adopted (renumbered old changed) one_lease)).proxies ≡ pos 45000 ∷ pos 1 ∷ pos 10 ∷ []
unfolding step
targets = refl

-- and when the lease ends the damper has its default
target_after_the_lease : target (actuators changed) (tick (adopted (renumbered old changed) one_lease) 61000) damper ≡ pos 20000
unfolding step
target_after_the_lease = refl

-- the same catalogue again
adopted_by_itself : adopted (renumbered old old) one_lease ≡ one_lease
unfolding step
adopted_by_itself = refl

-- ---- the points in another order

abbrev two_points : Persistent
two_points = after (
    at 1000 1 (submit (write damper 45000 8 60000 ∷ write lamp 1 9 60000 ∷ [])) ∷
    at 1000 2 (submit (reverting (held 30000 5000 ∷ []) (write damper 45000 5 1000) ∷ reverting (held 0 5000 ∷ []) (write lamp 1 5 1000) ∷ [])) ∷
    at 2000 1 command.Tick ∷ [])

abbrev turned : Persistent
turned = adopted (renumbered old turned_round) two_points

-- leases and reversions stand in the order of their new slots
turned_leases : map lease_slot turned.leases ≡ (1 ∷ 9 ∷ []) ∷ (2 ∷ 8 ∷ []) ∷ []
unfolding step
turned_leases = refl

turned_values : map (λ (lease : Lease). lease.value) turned.leases ≡ pos 1 ∷ pos 45000 ∷ []
unfolding step
turned_values = refl

turned_pending : map pending_slot turned.pending ≡ (1 ∷ 5 ∷ []) ∷ (2 ∷ 5 ∷ []) ∷ []
unfolding step
turned_pending = refl

-- parts stay in the order of the writes
turned_parts : map (λ transaction. map (λ (part : Part). part.point) transaction.parts) turned.txns ≡ (2 ∷ 1 ∷ []) ∷ (2 ∷ 1 ∷ []) ∷ []
unfolding step
turned_parts = refl

-- turned round twice nothing has changed, and without the fan, which nobody wrote, nothing is lost
turned_twice : adopted (renumbered turned_round old) turned ≡ two_points
unfolding step
turned_twice = refl

back_again : adopted (renumbered lamp_and_damper old) (adopted (renumbered old lamp_and_damper) two_points) ≡ two_points
unfolding step
back_again = refl

-- ---- what is done and named the fan

abbrev three_done : Persistent
three_done = after (
    at 1000 1 (submit (write lamp 1 8 60000 ∷ [])) ∷
    at 1000 1 (submit (write damper 45000 8 60000 ∷ write fan 2 8 60000 ∷ [])) ∷
    at 1000 1 (submit (write damper 50000 9 60000 ∷ [])) ∷
    at 2000 1 (cancel 1) ∷
    at 3000 1 (cancel 2) ∷
    at 4000 1 (cancel 3) ∷ [])

abbrev two_done : Persistent
two_done = adopted (renumbered old changed) three_done

three_were_done : three_done.done ≡ 1 ∷ 2 ∷ 3 ∷ []
unfolding step
three_were_done = refl

not_in_use_when_done : in_use (renumbered old changed) three_done ≡ None
unfolding step
not_in_use_when_done = refl

two_are_left : (two_done.done ≡ 1 ∷ 3 ∷ []) × (map (λ transaction. transaction.txn) two_done.txns ≡ 1 ∷ 3 ∷ [])
unfolding step
two_are_left = (refl, refl)

forgotten : status 2 two_done ≡ answer.Refused refusal.UnknownTxn
unfolding step
forgotten = refl

still_known : (status 3 two_done ≡ answer.Status 3 (codes "a") stage.Done 0 0) × (status 3 three_done ≡ answer.Status 3 (codes "a") stage.Done 0 0)
unfolding step
still_known = (refl, refl)

-- numbers of transactions go on
next_stays : two_done.next ≡ 4
unfolding step
next_stays = refl

-- ---- the kept answer of a numbered request outlives the record of its transaction

abbrev numbered : Persistent
numbered = after (at 1000 1 (command.Submit (write fan 2 8 60000 ∷ []) Abort 5) ∷ at 2000 1 (cancel 1) ∷ [])

kept_answer : answers (actuators changed) (opened (actuators changed) (adopted (renumbered old changed) numbered)) (
    a_attaches ∷
    at 3000 1 (command.Status 1) ∷
    at 3000 1 (command.Submit (write damper 45000 8 60000 ∷ []) Abort 5) ∷
    at 3000 1 (command.Submit (write damper 45000 8 60000 ∷ []) Abort 4) ∷ [])
    ≡ answer.Attached (codes "a") 3 ∷
    answer.Refused refusal.UnknownTxn ∷
    answer.Accepted 1 61000 ∷
    answer.Refused (refusal.Stale 5) ∷ []
unfolding step
kept_answer = refl

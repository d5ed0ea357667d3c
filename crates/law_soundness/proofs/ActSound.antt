-- Each command keeps a sound persistent part sound.
use Rattle.std.proofs.Common.{◌≡◌, ℕ, ◌<◌, ◌≤◌, ◌==◌, ℤ, List, [], ◌∷◌, length, true, false, cond, Option, Some, None, refl, arith}
use Rattle.std.specs.List.{filter, AllByRecursion, list_any}
use Rattle.std.proofs.lemmas.Bool.{cond_both}
use Rattle.boss_model.specs.declared.answer.Refusal.TheVariants as refusal
use Rattle.boss_model.specs.declared.command.Policy.{Policy}
use Rattle.boss_model.specs.declared.command.Policy.TheVariants.{Abort, Keep}
use Rattle.boss_model.specs.declared.command.Setting.{Setting}
use Rattle.boss_model.specs.declared.notice.Cause.TheVariants as cause
use Rattle.boss_model.specs.declared.state.Actuator.{Actuator}
use Rattle.boss_model.specs.declared.state.Lease.{Lease}
use Rattle.boss_model.specs.Ends.{end_leases, is_of, is_owned_by, lost, fault, faulted_under, faulted}
use Rattle.boss_model.specs.Limits.{most_writes, last_moment}
use Rattle.boss_model.specs.Names.{is_name}
use Rattle.boss_model.specs.Processes.{process_named, is_full, enrolled}
use Rattle.boss_model.specs.Renew.{renewed, renew_refused}
use Rattle.boss_model.specs.Sound.{IsLease, IsSoundPersistent}
use Rattle.boss_model.specs.State.{Persistent}
use Rattle.boss_model.specs.Submit.{is_length, submitted, submit_refused}
use Rattle.boss_model.specs.Target.{in_force}
use Rattle.boss_model.specs.Time.{tick_to, due}
use Rattle.law_soundness.proofs.ConcludeSound.{IsNews, IsNext}
use Rattle.law_soundness.proofs.EndSound.{IsAt, end_leases-sound, no-news}
use Rattle.law_soundness.proofs.EnrolSound.{enrolled-sound}
use Rattle.law_time.proofs.GroupSound.{tell-length}
use Rattle.law_soundness.proofs.NotRefused.{none-of-first, submit-not-refused}
use Rattle.law_time.proofs.Orders.{each-filter, least-of}
use Rattle.law_soundness.proofs.RenewSound.{later-sound, renewed-sound, told-sound}
use Rattle.law_soundness.proofs.SubmitChange.{submitted-sound}
use Rattle.law_time.proofs.TickSound.{known-lease, lease-numbers, word-of}

pub tick-length : (d : Persistent) (n : ℕ) → length (tick_to n d).processes ≡ length d.processes
tick-length d n = tell-length d.processes (due n d)

module _ (plant : List Actuator) (n : ℕ) (d : Persistent) (sound : IsSoundPersistent plant d) (at : IsAt n d) (small : n ≤ last_moment) where
  pub submit-next : (owner : ℕ) (policy : Policy) (writes : List Setting) → submit_refused plant writes d ≡ None → 1 ≤ length writes → length writes ≤ most_writes →
      AllByRecursion (λ w. w.point < length plant) writes → owner < length d.processes → IsNext plant d (submitted owner policy writes n d)
  submit-next owner policy writes none some few known held =
      submitted-sound plant owner policy writes n d (later-sound plant n d sound at small) at (submit-not-refused plant writes d none) some few known held

  pub renew-next : (owner txn : ℕ) (asked : ℤ) (points : List ℕ) → renew_refused owner txn asked points n d ≡ None → IsNext plant d (renewed txn asked points n d)
  renew-next owner txn asked points none = renewed-sound plant txn asked points n d sound at small
      (cond_both (is_length asked) None (Some (refusal.BadLease 0)) (λ found. found ≡ None → is_length asked ≡ true) (λ fits _. fits) (λ _ e. cc)
      (none-of-first (cond (is_length asked) None (Some (refusal.BadLease 0))) _ none).0)

  pub cancel-next : (txn : ℕ) → IsNext plant d (end_leases (is_of txn) cause.Cancelled n [] d)
  cancel-next txn = end_leases-sound plant (is_of txn) cause.Cancelled n [] d sound at small refl (no-news plant n)

  pub lost-next : (owner : ℕ) → IsNext plant d (lost owner n d)
  lost-next owner = cond_both (list_any (is_owned_by owner) d.leases) (end_leases (is_owned_by owner) cause.Died n [] d) d (IsNext plant d)
      (λ _. end_leases-sound plant (is_owned_by owner) cause.Died n [] d sound at small refl (no-news plant n)) (λ _. record { sound = sound; processes = refl })

  fault-news : (lease : Lease) → lease.point < length plant → lease.txn < d.next → IsNews plant n (fault n lease ∷ [])
  fault-news lease known early = record { silent = (refl, tt); told = (record { past = omega arith; known = known; words = (word-of d.next lease.txn sound.next early, tt) }, tt) }

  faulted_under-next : (policy : Policy) (lease : Lease) → lease.point < length plant → lease.txn < d.next → IsNext plant d (faulted_under policy lease n d)
  faulted_under-next Abort lease known early = end_leases-sound plant (is_of lease.txn) cause.Fault n (fault n lease ∷ []) d sound at small refl (fault-news lease known early)
  faulted_under-next Keep lease known early = told-sound plant n (fault n lease ∷ []) d sound at small (fault-news lease known early)

  faulted-found : (found : Option Lease) → ((lease : Lease) → found ≡ Some lease → (lease.point < length plant) × (lease.txn < d.next)) → IsNext plant d (faulted found n d)
  faulted-found None known = record { sound = sound; processes = refl }
  faulted-found (Some lease) known = let both = known lease refl in faulted_under-next lease.policy lease both.0 both.1

  pub faulted-next : (point : ℕ) → IsNext plant d (faulted (in_force d.leases point) n d)
  faulted-next point = faulted-found (in_force d.leases point)
      (λ lease found. (
        known-lease plant d.now lease (least-of (IsLease plant d.now) (λ l. l.priority) (filter (λ l. l.point == point) d.leases) lease
            (each-filter (IsLease plant d.now) (λ l. l.point == point) d.leases sound.leases) found),
        least-of (λ l. l.txn < d.next) (λ l. l.priority) (filter (λ l. l.point == point) d.leases) lease
            (each-filter (λ l. l.txn < d.next) (λ l. l.point == point) d.leases (lease-numbers plant d sound)) found,
      ))

  pub enrol-sound : (name : List ℕ) → is_name name ≡ true → process_named d.processes name ≡ None → is_full d.processes ≡ false → IsSoundPersistent plant (enrolled name n d)
  enrol-sound name named none room = enrolled-sound plant name n d sound at small named none room

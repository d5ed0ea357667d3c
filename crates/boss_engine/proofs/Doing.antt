-- What commands that are not refused leave.
use Rattle.std.proofs.Common.{◌≡◌, ℕ, ℤ, ◌<◌, ◌==◌, nat_lt, List, [], ◌∷◌, ◌++◌, length, filter, Bool, true, false, not, ◌&&◌, ◌||◌, if◌then◌else◌, Option, Some, None, refl, ap, ◌∙◌, arith}
use Rattle.std.specs.Prelude.{slice_get}
use Rattle.std.proofs.lemmas.Bool.Decides.{nat_tests}
use Rattle.boss_model.specs.declared.answer.Answer.TheVariants as answer
use Rattle.boss_model.specs.declared.command.Command.TheVariants as command
use Rattle.boss_model.specs.declared.command.Policy.{Policy}
use Rattle.boss_model.specs.declared.command.Policy.TheVariants.{Abort, Keep}
use Rattle.boss_model.specs.declared.kept.Acceptance.TheVariants as acceptance
use Rattle.boss_model.specs.declared.notice.Cause.TheVariants as cause
use Rattle.boss_model.specs.declared.state.Actuator.{Actuator}
use Rattle.boss_model.specs.declared.state.Lease.{Lease}
use Rattle.boss_model.specs.Ends.{end_leases, fault, faulted, is_of, is_owned_by, lost}
use Rattle.boss_model.specs.Happenings.{tell}
use Rattle.boss_model.specs.Machine.{act, after}
use Rattle.boss_model.specs.Processes.{attach_refused, attached_too, enrol, enrol_unless, next_notice, number_of, process_named, process_of}
use Rattle.boss_model.specs.Renew.{renewed, renew_refused}
use Rattle.boss_model.specs.Sound.{IsSoundPersistent}
use Rattle.boss_model.specs.State.{Persistent, Process, State}
use Rattle.boss_model.specs.Target.{in_force}
use Rattle.boss_policy.specs.Decision.{decision}
use Rattle.boss_policy.specs.declared.Decision.TheVariants.{EndAll, Mark, Tell}
use Rattle.law_effects.specs.Changes.{failure_changes, may_be_told}
use Rattle.boss_persistent.proofs.Concluded.{kept-fault}
use Rattle.boss_persistent.proofs.Counted.{any-counted}
use Rattle.boss_persistent.proofs.Replied.{once-did}
use Rattle.boss_persistent.specs.Replying.{decided, renewed_until, with_reply}

-- ---- renew

module _ (any : List Actuator) (session owner txn : ℕ) (asked : ℤ) (points : List ℕ) (seq n : ℕ) (s : State)
    (held : process_of s.attached session ≡ Some owner) (undecided : decided s.persistent.processes owner seq ≡ None)
    (passed : renew_refused owner txn asked points n s.persistent ≡ None) where
  abbrev until : ℕ
  until = renewed_until txn asked points n s.persistent

  pub renew-leaves : act any session n (command.Renew txn asked points seq) s
      ≡ record {
        answer = answer.Renewed txn until;
        state = record s { persistent = with_reply owner seq (acceptance.Renewed txn until) (renewed txn asked points n s.persistent) };
      }
  renew-leaves = rw (held, passed) (
      ap (after s) (once-did owner seq s.persistent (acceptance.Renewed txn until) (renewed txn asked points n s.persistent) undecided))

-- ---- a process is lost

pub lost-some : (owner n : ℕ) (d : Persistent) → 0 < length (filter (is_owned_by owner) d.leases) → lost owner n d ≡ end_leases (is_owned_by owner) cause.Died n [] d
lost-some owner n d some =
    let has : nat_lt 0 (length (filter (is_owned_by owner) d.leases)) ≡ true = grind (arith, nat_tests) in
    ap (λ b. if b then end_leases (is_owned_by owner) cause.Died n [] d else d) (any-counted (is_owned_by owner) d.leases ∙ has)

pub lost-none : (owner n : ℕ) (d : Persistent) → length (filter (is_owned_by owner) d.leases) ≡ 0 → lost owner n d ≡ d
lost-none owner n d none =
    let has : nat_lt 0 (length (filter (is_owned_by owner) d.leases)) ≡ false = grind (arith, nat_tests) in
    ap (λ b. if b then end_leases (is_owned_by owner) cause.Died n [] d else d) (any-counted (is_owned_by owner) d.leases ∙ has)

-- ---- a device fails

decided-end : (policy : Policy) (first : Bool) → EndAll ≡ decision (Some policy) first → (policy ≡ Abort) × (first ≡ true)
decided-end Abort true is = (refl, refl)
decided-end Abort false is = cc
decided-end Keep true is = cc
decided-end Keep false is = cc

decided-tell : (policy : Policy) (first : Bool) → Tell ≡ decision (Some policy) first → (policy ≡ Keep) × (first ≡ true)
decided-tell Abort true is = cc
decided-tell Abort false is = cc
decided-tell Keep true is = (refl, refl)
decided-tell Keep false is = cc

pub ended-all : (point n : ℕ) (lease : Lease) (first : Bool) (d : Persistent) → Some lease ≡ in_force d.leases point → EndAll ≡ decision (Some lease.policy) first →
    (if first then faulted (in_force d.leases point) n d else d) ≡ end_leases (is_of lease.txn) cause.Fault n (fault n lease ∷ []) d
ended-all point n lease first d found is =
    let both : (lease.policy ≡ Abort) × (first ≡ true) = decided-end lease.policy first is in
    rw (← found, both.1, both.0) refl

pub told-only : (plant : List Actuator) (point n : ℕ) (lease : Lease) (first : Bool) (d : Persistent) → IsSoundPersistent plant d →
    Some lease ≡ in_force d.leases point → Tell ≡ decision (Some lease.policy) first →
    (if first then faulted (in_force d.leases point) n d else d) ≡ record d { now = n; processes = tell d.processes (fault n lease) }
told-only plant point n lease first d sound found is =
    let both : (lease.policy ≡ Keep) × (first ≡ true) = decided-tell lease.policy first is in
    rw (← found, both.1, both.0) (kept-fault plant n lease d sound)

-- whether it changes something
pub ended-changed : (point n : ℕ) (lease : Lease) (first : Bool) (d : Persistent) → Some lease ≡ in_force d.leases point → EndAll ≡ decision (Some lease.policy) first →
    true ≡ (first && failure_changes n (in_force d.leases point) d)
ended-changed point n lease first d found is =
    let both : (lease.policy ≡ Abort) × (first ≡ true) = decided-end lease.policy first is in
    rw (← found, both.1, both.0) refl

pub told-changed : (point n : ℕ) (lease : Lease) (first : Bool) (d : Persistent) → Some lease ≡ in_force d.leases point → Tell ≡ decision (Some lease.policy) first →
    (not (d.now == n) || may_be_told d.processes lease.owner) ≡ (first && failure_changes n (in_force d.leases point) d)
told-changed point n lease first d found is =
    let both : (lease.policy ≡ Keep) × (first ≡ true) = decided-tell lease.policy first is in
    rw (← found, both.1, both.0) refl

decided-mark : (policy : Policy) (first : Bool) → Mark ≡ decision (Some policy) first → first ≡ false
decided-mark Abort true is = cc
decided-mark Abort false is = refl
decided-mark Keep true is = cc
decided-mark Keep false is = refl

pub marked-unchanged : (point n : ℕ) (lease : Lease) (first : Bool) (d : Persistent) → Mark ≡ decision (Some lease.policy) first →
    false ≡ (first && failure_changes n (in_force d.leases point) d)
marked-unchanged point n lease first d is = rw (decided-mark lease.policy first is) refl

pub none-unchanged : (point n : ℕ) (first : Bool) (d : Persistent) → None ≡ in_force d.leases point → false ≡ (first && failure_changes n (in_force d.leases point) d)
none-unchanged point n true d none = rw (← none) refl
none-unchanged point n false d none = refl

-- ---- attach

pub attach-leaves : (any : List Actuator) (session n : ℕ) (name : List ℕ) (s : State) → attach_refused session name s.attached s.persistent ≡ None →
    act any session n (command.Attach name) s
    ≡ record {
      answer = answer.Attached name (next_notice s.persistent.processes (number_of s.persistent.processes (process_named s.persistent.processes name)));
      state = record s {
        persistent = enrol name n s.persistent;
        attached = attached_too session (number_of s.persistent.processes (process_named s.persistent.processes name)) s.attached;
      };
    }
attach-leaves any session n name s passed = rw passed refl

get-last : (ps : List Process) (p : Process) → slice_get (ps ++ p ∷ []) (length ps) ≡ Some p
get-last [] p = refl
get-last (q ∷ ps) p = get-last ps p

get-none : (ps : List Process) → slice_get ps (length ps) ≡ None
get-none [] = refl
get-none (q ∷ ps) = get-none ps

-- a new process has been told nothing
pub next-enrolled : (name : List ℕ) (n : ℕ) (d : Persistent) →
    next_notice (enrol name n d).processes (number_of d.processes (process_named d.processes name)) ≡ next_notice d.processes (number_of d.processes (process_named d.processes name))
next-enrolled name n d = found (process_named d.processes name)
  where
    found : (named : Option ℕ) → next_notice (enrol_unless named name n d).processes (number_of d.processes named) ≡ next_notice d.processes (number_of d.processes named)
    found None = rw (get-last d.processes (record { name = name; count = 0; kept = []; reply = None }), get-none d.processes) refl
    found (Some process) = refl

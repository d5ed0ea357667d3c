-- Submit, renew and cancel: each is refused, or it is accepted, for itself or because its answer was kept.
use Rattle.std.proofs.Common.{◌≡◌, ℕ, ℤ, List, [], true, false, Option, Some, None, refl}
use Rattle.std.specs.List.{filter}
use Rattle.boss_model.specs.declared.answer.Answer.TheVariants as answer
use Rattle.boss_model.specs.declared.answer.Refusal.{Refusal}
use Rattle.boss_model.specs.declared.command.Policy.{Policy}
use Rattle.boss_model.specs.declared.command.Setting.{Setting}
use Rattle.boss_model.specs.declared.kept.Acceptance.{Acceptance}
use Rattle.boss_model.specs.declared.kept.Acceptance.TheVariants as acceptance
use Rattle.boss_model.specs.declared.notice.Cause.TheVariants as cause
use Rattle.boss_model.specs.declared.state.Actuator.{Actuator}
use Rattle.boss_model.specs.Ends.{is_of, end_leases, cancel, cancel_refused}
use Rattle.boss_model.specs.Outcomes.{Outcome, refused, did, unless}
use Rattle.boss_model.specs.Renew.{is_meant, renewed, renew, renew_refused}
use Rattle.boss_model.specs.Replies.{answer_of, remembered, once}
use Rattle.boss_model.specs.State.{Persistent}
use Rattle.boss_model.specs.Submit.{granted, first_until, submitted, submit, submit_refused}
use Rattle.law_soundness.proofs.OnceCases.{once-by}

abbrev pub IsRequest : Outcome → Type 0
IsRequest (refused why) = Unit {0}
IsRequest (did given d) = (accepted : Acceptance) × (given ≡ answer_of accepted)

request-unless : (why : Option Refusal) (accepted : Acceptance) (d : Persistent) → IsRequest (unless why (answer_of accepted) d)
request-unless None accepted d = (accepted, refl)
request-unless (Some why) accepted d = tt

pub submit-request : (plant : List Actuator) (owner : ℕ) (policy : Policy) (writes : List Setting) (n : ℕ) (d : Persistent) → IsRequest (submit plant owner policy writes n d)
submit-request plant owner policy writes n d = request-unless (submit_refused plant writes d)
    (acceptance.Accepted d.next (first_until (granted owner policy d.next n writes))) (submitted owner policy writes n d)

pub renew-request : (owner txn : ℕ) (asked : ℤ) (points : List ℕ) (n : ℕ) (d : Persistent) → IsRequest (renew owner txn asked points n d)
renew-request owner txn asked points n d = request-unless (renew_refused owner txn asked points n d)
    (acceptance.Renewed txn (first_until (filter (is_meant txn points) (renewed txn asked points n d).leases))) (renewed txn asked points n d)

pub cancel-request : (owner txn n : ℕ) (d : Persistent) → IsRequest (cancel owner txn n d)
cancel-request owner txn n d = request-unless (cancel_refused owner txn d) (acceptance.Cancelled txn n) (end_leases (is_of txn) cause.Cancelled n [] d)

request-remembered : (owner seq : ℕ) (outcome : Outcome) → IsRequest outcome → IsRequest (remembered owner seq outcome)
request-remembered owner seq (refused why) is = tt
request-remembered owner seq (did given d) is = is

pub request-once : (owner seq : ℕ) (d : Persistent) (outcome : Outcome) → IsRequest outcome → IsRequest (once owner seq d outcome)
request-once owner seq d outcome is = once-by owner seq d outcome IsRequest (λ _. is) (λ _ _. request-remembered owner seq outcome is)
    (λ reply _ _ _. (reply.acceptance, refl)) (λ reply _ _ _. tt)

-- what is accepted is not refused
pub never-refused : (accepted : Acceptance) (why : Refusal) → answer_of accepted ≡ answer.Refused why → true ≡ false
never-refused (acceptance.Accepted txn until) why is = cc
never-refused (acceptance.Renewed txn until) why is = cc
never-refused (acceptance.Cancelled txn at) why is = cc

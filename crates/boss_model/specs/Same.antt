-- Source: own.
use Rattle.std.specs.Prelude.{ℕ, ◌==◌, nat_eq, Bool, true, false, ◌&&◌, List, [], ◌∷◌, Option, Some, None}
use Rattle.std.specs.Cmp.Lexicographic.{pointwise}
use Rattle.std.specs.Ordering.{int_eq}
use Rattle.boss_model.specs.declared.command.Policy.{Policy}
use Rattle.boss_model.specs.declared.command.Policy.TheVariants.{Abort, Keep}
use Rattle.boss_model.specs.declared.command.Step.{Step}
use Rattle.boss_model.specs.declared.kept.Acceptance.{Acceptance}
use Rattle.boss_model.specs.declared.kept.Acceptance.TheVariants as acceptance
use Rattle.boss_model.specs.declared.kept.KeptReply.{KeptReply}
use Rattle.boss_model.specs.declared.notice.Cause.{Cause}
use Rattle.boss_model.specs.declared.notice.Cause.TheVariants as cause
use Rattle.boss_model.specs.declared.notice.Notice.{Notice}
use Rattle.boss_model.specs.declared.notice.What.{What}
use Rattle.boss_model.specs.declared.notice.What.TheVariants as what
use Rattle.boss_model.specs.Records.{End, Part, Transaction}
use Rattle.boss_model.specs.State.{Lease, Pending, Process, Persistent}

-- Whether two persistent parts are equal, field by field.

abbrev pub same_policy : Policy → Policy → Bool
same_policy Abort Abort = true
same_policy Abort Keep = false
same_policy Keep Abort = false
same_policy Keep Keep = true

-- the five causes, told apart by a number, and the transaction that a superseded lease gave way to
abbrev pub cause_numbers : Cause → List ℕ
cause_numbers cause.Expired = 0 ∷ []
cause_numbers cause.Cancelled = 1 ∷ []
cause_numbers cause.Died = 2 ∷ []
cause_numbers cause.Fault = 3 ∷ []
cause_numbers (cause.Superseded by) = 4 ∷ by ∷ []

abbrev pub same_cause : Cause → Cause → Bool
same_cause x y = pointwise nat_eq (cause_numbers x) (cause_numbers y)

abbrev pub what_numbers : What → List ℕ
what_numbers (what.Fault point) = 0 ∷ point ∷ []
what_numbers (what.Ended point why) = 1 ∷ point ∷ cause_numbers why
what_numbers (what.Reverted point) = 2 ∷ point ∷ []
what_numbers (what.Cut point by) = 3 ∷ point ∷ by ∷ []
what_numbers what.Done = 4 ∷ []

abbrev pub same_what : What → What → Bool
same_what x y = pointwise nat_eq (what_numbers x) (what_numbers y)

abbrev pub same_step : Step → Step → Bool
same_step x y = int_eq x.value y.value && int_eq x.hold y.hold

abbrev pub same_steps : List Step → List Step → Bool
same_steps xs ys = pointwise same_step xs ys

abbrev pub same_lease : Lease → Lease → Bool
same_lease x y = x.txn == y.txn && (x.owner == y.owner && (x.point == y.point && (x.priority == y.priority
    && (int_eq x.value y.value && (x.until == y.until && (same_steps x.revert y.revert && same_policy x.policy y.policy))))))

abbrev pub same_pending : Pending → Pending → Bool
same_pending x y = x.txn == y.txn && (x.owner == y.owner && (x.point == y.point && (x.priority == y.priority
    && (same_steps x.steps y.steps && x.start == y.start))))

abbrev pub same_end : Option End → Option End → Bool
same_end None None = true
same_end None (Some y) = false
same_end (Some x) None = false
same_end (Some x) (Some y) = same_cause x.cause y.cause && x.at == y.at

abbrev pub same_part : Part → Part → Bool
same_part x y = x.point == y.point && (x.priority == y.priority && same_end x.end y.end)

abbrev pub same_transaction : Transaction → Transaction → Bool
same_transaction x y = x.txn == y.txn && (x.owner == y.owner && (same_policy x.policy y.policy && pointwise same_part x.parts y.parts))

abbrev pub same_notice : Notice → Notice → Bool
same_notice x y = x.number == y.number && (x.at == y.at && (x.txn == y.txn && same_what x.what y.what))

-- the three answers that are kept, told apart by a number
abbrev pub acceptance_numbers : Acceptance → List ℕ
acceptance_numbers (acceptance.Accepted txn until) = 0 ∷ txn ∷ until ∷ []
acceptance_numbers (acceptance.Renewed txn until) = 1 ∷ txn ∷ until ∷ []
acceptance_numbers (acceptance.Cancelled txn at) = 2 ∷ txn ∷ at ∷ []

abbrev pub same_reply : Option KeptReply → Option KeptReply → Bool
same_reply None None = true
same_reply None (Some y) = false
same_reply (Some x) None = false
same_reply (Some x) (Some y) = x.seq == y.seq && pointwise nat_eq (acceptance_numbers x.acceptance) (acceptance_numbers y.acceptance)

abbrev pub same_process : Process → Process → Bool
same_process x y = pointwise nat_eq x.name y.name && (x.count == y.count && (pointwise same_notice x.kept y.kept && same_reply x.reply y.reply))

abbrev pub same_persistent : Persistent → Persistent → Bool
same_persistent x y = x.now == y.now && (x.next == y.next && (pointwise same_lease x.leases y.leases
    && (pointwise same_pending x.pending y.pending && (pointwise same_transaction x.txns y.txns
    && (pointwise nat_eq x.done y.done && pointwise same_process x.processes y.processes)))))

-- What a cancel that is not refused leaves.
use Rattle.std.proofs.Common.{◌≡◌, ℕ, List, [], Some, None, ap}
use Rattle.boss_model.specs.declared.answer.Answer.TheVariants as answer
use Rattle.boss_model.specs.declared.command.Command.TheVariants as command
use Rattle.boss_model.specs.declared.kept.Acceptance.TheVariants as acceptance
use Rattle.boss_model.specs.declared.notice.Cause.TheVariants as cause
use Rattle.boss_model.specs.declared.state.Actuator.{Actuator}
use Rattle.boss_model.specs.Ends.{cancel_refused, end_leases, is_of}
use Rattle.boss_model.specs.Machine.{act, after}
use Rattle.boss_model.specs.Processes.{process_of}
use Rattle.boss_model.specs.State.{State}
use Rattle.boss_persistent.specs.Replying.{decided, with_reply}
use Rattle.boss_persistent.proofs.Replied.{once-did}

pub cancel-leaves : (plant : List Actuator) (session owner txn seq n : ℕ) (s : State) → process_of s.attached session ≡ Some owner →
    decided s.persistent.processes owner seq ≡ None → cancel_refused owner txn s.persistent ≡ None →
    act plant session n (command.Cancel txn seq) s
    ≡ record {
      answer = answer.Cancelled txn n;
      state = record s { persistent = with_reply owner seq (acceptance.Cancelled txn n) (end_leases (is_of txn) cause.Cancelled n [] s.persistent) };
    }
cancel-leaves plant session owner txn seq n s held undecided passed =
    rw (held, passed) (ap (after s) (once-did owner seq s.persistent (acceptance.Cancelled txn n) (end_leases (is_of txn) cause.Cancelled n [] s.persistent) undecided))

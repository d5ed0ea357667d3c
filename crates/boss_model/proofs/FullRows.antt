-- What happens at the limits of what is kept and of what is numbered, computed from the definitions alone.
use Rattle.std.proofs.Common.{◌≡◌, ℕ, List, [], ◌∷◌, pos, refl, map, None, Some}
use Rattle.std.specs.Prelude.{codes, decimal}
use Rattle.std.specs.Fmt.{digits}
use Rattle.std.specs.List.{range_with_len}
use Rattle.boss_model.specs.declared.answer.Answer.{Answer}
use Rattle.boss_model.specs.declared.answer.Answer.TheVariants as answer
use Rattle.boss_model.specs.declared.answer.Refusal.TheVariants as refusal
use Rattle.boss_model.specs.declared.command.Command.TheVariants as command
use Rattle.boss_model.specs.declared.command.Policy.TheVariants.{Abort}
use Rattle.boss_model.specs.declared.notice.Cause.TheVariants as cause
use Rattle.boss_model.specs.declared.notice.Notice.{Notice}
use Rattle.boss_model.specs.declared.notice.What.TheVariants as what
use Rattle.boss_model.specs.Happenings.{posted}
use Rattle.boss_model.specs.Machine.{step}
use Rattle.boss_model.specs.Records.{Transaction}
use Rattle.boss_model.specs.Run.{Call, answers}
use Rattle.boss_model.specs.Settle.{opened}
use Rattle.boss_model.specs.State.{Process, Persistent, first_persistent}
use Rattle.boss_model.specs.Ends.{is_of, end_leases}
use Rattle.boss_model.specs.Outcomes.{refused}
use Rattle.boss_model.specs.Renew.{renew}
use Rattle.boss_model.specs.Submit.{submit_refused, submitted}
use Rattle.boss_model.proofs.Building.{building, damper, at, write, notice}

abbrev asked_of : Persistent → List Call → List Answer
asked_of d calls = answers building (opened building d) calls

-- ---- 256 processes

abbrev numbered : ℕ → Process
numbered n = record { name = decimal n; count = 0; kept = []; reply = None }

abbrev crowd : ℕ → Persistent
crowd n = record first_persistent { processes = map numbered (range_with_len 1 n) }

last_process : asked_of (crowd 255) (at 0 1 (command.Attach (codes "a")) ∷ []) ≡ answer.Attached (codes "a") 1 ∷ []
unfolding step digits
last_process = refl

one_process_too_many : asked_of (crowd 256) (at 0 1 (command.Attach (codes "a")) ∷ at 0 1 (command.Attach (codes "256")) ∷ [])
    ≡ answer.Refused refusal.TooManyProcesses ∷ answer.Attached (codes "256") 1 ∷ []
unfolding step digits
one_process_too_many = refl

-- ---- 1,024 transactions that are done

abbrev cancelled_record : ℕ → Transaction
cancelled_record n = record {
  txn = n;
  owner = 0;
  policy = Abort;
  parts = record { point = damper; priority = 8; end = Some (record { cause = cause.Cancelled; at = 1000 }) } ∷ [];
}

-- of the records the two oldest are enough here
abbrev history : Persistent
history = record {
  now = 1000;
  next = 1025;
  leases = [];
  pending = [];
  txns = map cancelled_record (1 ∷ 2 ∷ []);
  done = range_with_len 1 1024;
  processes = record { name = codes "a"; count = 0; kept = []; reply = None } ∷ [];
}

-- a renewal of the oldest of them is told how it ended
oldest_transaction_known : renew 0 1 (pos 60000) [] 2000 history ≡ refused (refusal.Ended cause.Cancelled 1000 2000)
oldest_transaction_known = refl

-- until one more becomes done
abbrev one_more : Persistent
one_more = end_leases (is_of 1025) cause.Cancelled 3000 [] (submitted 0 Abort (write damper 45000 8 60000 ∷ []) 2000 history)

oldest_transaction_forgotten : renew 0 1 (pos 60000) [] 3000 one_more ≡ refused refusal.UnknownTxn
oldest_transaction_forgotten = refl

next_transaction_known : renew 0 2 (pos 60000) [] 3000 one_more ≡ refused (refusal.Ended cause.Cancelled 1000 3000)
next_transaction_known = refl

-- ---- 1,024 notices of a process

abbrev told_done : ℕ → Notice
told_done n = notice n 5000 1 what.Done

abbrev told_by : ℕ → List Notice → Process
told_by count kept = record { name = codes "a"; count = count; kept = kept; reply = None }

-- one notice more takes the place of the oldest
oldest_notice_forgotten : posted 5000 1 what.Done (told_by 1024 (map told_done (range_with_len 1 1024))) ≡ told_by 1025 (map told_done (range_with_len 2 1024))
oldest_notice_forgotten = refl

-- ---- the last numbers

last_transaction : submit_refused building (write damper 45000 8 60000 ∷ []) (record first_persistent { next = 4611686018427387903 }) ≡ None
last_transaction = refl

no_transaction_left : submit_refused building (write damper 45000 8 60000 ∷ []) (record first_persistent { next = 4611686018427387904 }) ≡ Some refusal.Spent
no_transaction_left = refl

last_notice : posted 5000 1 what.Done (told_by 4611686018427387903 []) ≡ told_by 4611686018427387904 (told_done 4611686018427387904 ∷ [])
last_notice = refl

no_notice_left : posted 5000 1 what.Done (told_by 4611686018427387904 []) ≡ told_by 4611686018427387904 []
no_notice_left = refl

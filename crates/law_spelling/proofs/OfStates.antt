-- A persistent part that is within its ranges has a spelling.
use Rattle.std.proofs.Common.{◌≡◌, ℕ, ◌+◌, ◌^◌, ◌<◌, ◌≤◌, true, List, [], ◌∷◌, length, map, cond, Option, Some, None, refl, ap, subst, sym, arith}
use Rattle.std.specs.Int.{w16, w32, w64}
use Rattle.std.specs.List.{AllByRecursion}
use Rattle.std.proofs.lemmas.Bool.{le-leb, eq-eqb}
use Rattle.std.proofs.lemmas.List.{length-map}
use Rattle.def_bytes.specs.Fields.{Field, number, byte, both, counted, tagged}
use Rattle.boss_model.specs.declared.kept.Acceptance.{Acceptance}
use Rattle.boss_model.specs.declared.kept.Acceptance.TheVariants.{Accepted, Renewed, Cancelled}
use Rattle.boss_model.specs.declared.kept.KeptReply.{KeptReply}
use Rattle.boss_model.specs.declared.notice.Cause.{Cause}
use Rattle.boss_model.specs.declared.notice.Cause.TheVariants as cause
use Rattle.boss_model.specs.declared.notice.Notice.{Notice}
use Rattle.boss_model.specs.declared.notice.What.{What}
use Rattle.boss_model.specs.declared.notice.What.TheVariants as what
use Rattle.boss_model.specs.declared.state.Lease.{Lease}
use Rattle.boss_model.specs.declared.state.Pending.{Pending}
use Rattle.boss_model.specs.Limits.{most_writes, done_kept, most_processes, notices_kept, last_moment, last_number}
use Rattle.boss_model.specs.Records.{End, Part, Transaction}
use Rattle.boss_model.specs.Sound.{NumberedFrom, IsWord, IsCause, IsAcceptance, IsReply}
use Rattle.boss_model.specs.State.{Process, Persistent}
use Rattle.law_time.proofs.Orders.{each-map, each-both}
use Rattle.law_time.proofs.Filters.{each-mapped}
use Rattle.law_spelling.specs.Ranges.{IsLevel, IsStoredLease, IsStoredPending, IsStoredEnd, IsStoredPart, IsStoredTransaction, IsStoredWhat, IsStoredNotice, IsStoredProcess, most_slots, IsStorable}
use Rattle.def_bytes.specs.Parts.{listed, name}
use Rattle.def_bytes.specs.States.{causes, whats, told, reply, is_numbered_from, told_of, first_of_last, process_parts, process_of, sent, process, ends, part, most_parts, transaction, lease, pending, state}
use Rattle.def_bytes.proofs.Spelling.{both_true}
use Rattle.law_spelling.proofs.Parts.{word-fits, owner-fits, point-fits, byte-fits, signed-fits, made-fits, list-fits, name-fits, policy-fits, steps-fit}

-- ---- causes and notices

cause-fits : (why : Cause) → IsCause why → (tagged causes).fits why ≡ true
cause-fits cause.Expired is = refl
cause-fits cause.Cancelled is = refl
cause-fits cause.Died is = refl
cause-fits cause.Fault is = refl
cause-fits (cause.Superseded by) is = word-fits by is

what-fits : (x : What) → IsStoredWhat x → (tagged whats).fits x ≡ true
what-fits (what.Fault point) is = point-fits point is
what-fits (what.Ended point why) is = both_true _ _ (point-fits point is.0) (cause-fits why is.1)
what-fits (what.Reverted point) is = point-fits point is
what-fits (what.Cut point by) is = both_true _ _ (point-fits point is.0) (word-fits by is.1)
what-fits what.Done is = refl

notice-fits : (n : Notice) → IsStoredNotice n → told.fits (told_of n) ≡ true
notice-fits n is = both_true _ _ (word-fits n.at is.at) (both_true _ _ (word-fits n.txn is.txn) (what-fits n.what is.told))

-- ---- kept replies

pub reply-fits : (r : Option KeptReply) → IsReply r → (reply 2).fits r ≡ true
reply-fits None is = refl
reply-fits (Some r) is = by r.acceptance is.2
  where
    own : (number w64).fits r.seq ≡ true
    own = let few : r.seq < last_number = is.1 in word-fits r.seq (omega arith)

    by : (a : Acceptance) → IsAcceptance a → (reply 2).fits (Some (record { seq = r.seq; acceptance = a })) ≡ true
    by (Accepted txn until) are = both_true _ _ own (both_true _ _ (word-fits txn are.0) (word-fits until are.1))
    by (Renewed txn until) are = both_true _ _ own (both_true _ _ (word-fits txn are.0) (word-fits until are.1))
    by (Cancelled txn at) are = both_true _ _ own (both_true _ _ (word-fits txn are.0) (word-fits at are.1))

pub none-fits : (r : Option KeptReply) → r ≡ None → (reply 1).fits r ≡ true
none-fits r none = subst (λ o. (reply 1).fits o ≡ true) (sym none) refl

-- ---- processes

one-by-one : (n : ℕ) (notices : List Notice) → NumberedFrom n notices → is_numbered_from n notices ≡ true
one-by-one n [] are = refl
one-by-one n (notice ∷ notices) are = both_true _ _ (eq-eqb _ _ are.0) (one-by-one (n + 1) notices are.1)

process-fits : (version : ℕ) (p : Process) → IsStoredProcess p → (reply version).fits p.reply ≡ true → (process version).fits p ≡ true
process-fits version p is replied =
    let notices = map told_of p.kept in
    let many : length notices ≡ length p.kept = length-map p.kept told_of in
    let few : length p.kept ≤ notices_kept = is.few in
    let count : p.count ≤ last_number = is.count in
    let enough : length p.kept ≤ p.count = is.sent in
    let told-fit : (counted (number w16) notices_kept told).fits notices ≡ true = list-fits (number w16) notices_kept told notices (omega arith) (owner-fits _ (omega arith))
    (each-mapped (λ x. told.fits x ≡ true) told_of p.kept (each-map IsStoredNotice (λ n. told.fits (told_of n) ≡ true) notice-fits p.kept is.notices)) in
    made-fits process_parts process_of (both name (both sent (reply version))) p (p.name, ((p.count, notices), p.reply))
    (ap (λ b. cond b (Some (p.name, ((p.count, notices), p.reply))) None) (one-by-one (first_of_last p.count (length p.kept)) p.kept is.numbers))
    (both_true _ _ (name-fits p.name is.name) (both_true _ _
    (both_true _ _ (both_true _ _ (word-fits p.count (omega arith)) told-fit) (le-leb _ _ (omega arith))) replied))

-- ---- records of transactions

end-fits : (end : Option End) → IsStoredEnd end → (tagged ends).fits end ≡ true
end-fits None is = refl
end-fits (Some end) is = both_true _ _ (cause-fits end.cause is.0) (word-fits end.at is.1)

part-fits : (p : Part) → IsStoredPart p → part.fits p ≡ true
part-fits p is = both_true _ _ (point-fits p.point is.point) (both_true _ _ (byte-fits p.priority is.priority) (end-fits p.end is.end))

transaction-fits : (t : Transaction) → IsStoredTransaction t → transaction.fits t ≡ true
transaction-fits t is =
    let few : length t.parts ≤ most_writes = is.few_parts in
    both_true _ _ (word-fits t.txn is.txn) (both_true _ _ (owner-fits t.owner is.owner) (both_true _ _ (policy-fits t.policy)
    (list-fits byte most_parts part t.parts (omega arith) (byte-fits _ (omega arith)) (each-map IsStoredPart (λ p. part.fits p ≡ true) part-fits t.parts is.parts))))

-- ---- leases and reversions

level-fits : (n : ℕ) → IsLevel n → byte.fits n ≡ true
level-fits n is = byte-fits n (omega (arith, is.1))

lease-fits : (l : Lease) → IsStoredLease l → lease.fits l ≡ true
lease-fits l is = both_true _ _ (word-fits l.txn is.txn) (both_true _ _ (owner-fits l.owner is.owner) (both_true _ _ (point-fits l.point is.point)
    (both_true _ _ (level-fits l.priority is.priority) (both_true _ _ (signed-fits l.value is.value) (both_true _ _ (word-fits l.until is.until)
    (both_true _ _ (policy-fits l.policy) (steps-fit l.revert is.revert)))))))

pending-fits : (r : Pending) → IsStoredPending r → pending.fits r ≡ true
pending-fits r is = both_true _ _ (word-fits r.txn is.txn) (both_true _ _ (owner-fits r.owner is.owner) (both_true _ _ (point-fits r.point is.point)
    (both_true _ _ (level-fits r.priority is.priority) (both_true _ _ (word-fits r.start is.start) (steps-fit r.steps is.steps)))))

-- ---- the whole

-- lists whose length takes two bytes, and four
short-list : {X : Type 0} (f : Field X) (xs : List X) → length xs < 2 ^ 16 → AllByRecursion (λ x. f.fits x ≡ true) xs → (listed w16 f).fits xs ≡ true
short-list f xs few all = list-fits (number w16) _ f xs (omega arith) (owner-fits _ few) all

long-list : {X : Type 0} (f : Field X) (xs : List X) → length xs < 2 ^ 32 → AllByRecursion (λ x. f.fits x ≡ true) xs → (listed w32 f).fits xs ≡ true
long-list f xs few all = list-fits (number w32) _ f xs (omega arith) (point-fits _ few) all

pub state-fits : (version : ℕ) (d : Persistent) → IsStorable d → AllByRecursion (λ p. (reply version).fits p.reply ≡ true) d.processes → (state version).fits d ≡ true
state-fits version d is replied =
    let now : d.now ≤ last_moment = is.now in
    let next : d.next ≤ last_number = is.next in
    let few_slots : length d.pending + length d.leases ≤ most_slots = is.few_slots in
    let few_txns : length d.txns ≤ most_slots + done_kept = is.few_txns in
    let few_done : length d.done ≤ done_kept = is.few_done in
    let few_processes : length d.processes ≤ most_processes = is.few_processes in
    both_true _ _ (word-fits d.now (omega arith)) (both_true _ _ (word-fits d.next (omega arith))
    (both_true _ _ (short-list (process version) d.processes (omega arith)
    (each-map (λ p. IsStoredProcess p × ((reply version).fits p.reply ≡ true)) (λ p. (process version).fits p ≡ true) (λ p both. process-fits version p both.0 both.1) d.processes
    (each-both IsStoredProcess (λ p. (reply version).fits p.reply ≡ true) d.processes is.processes replied)))
    (both_true _ _ (long-list transaction d.txns (omega arith) (each-map IsStoredTransaction (λ t. transaction.fits t ≡ true) transaction-fits d.txns is.txns))
    (both_true _ _ (short-list (number w64) d.done (omega arith) (each-map IsWord (λ n. (number w64).fits n ≡ true) word-fits d.done is.done))
    (both_true _ _ (long-list lease d.leases (omega arith) (each-map IsStoredLease (λ l. lease.fits l ≡ true) lease-fits d.leases is.leases))
    (long-list pending d.pending (omega arith) (each-map IsStoredPending (λ r. pending.fits r ≡ true) pending-fits d.pending is.pending)))))))

-- How many bytes a sound state's spelling has at most: so many for each number and each tag, and so many items in each list.
use Rattle.std.proofs.Common.{◌≡◌, ℕ, zero, suc, ◌+◌, ◌*◌, ◌^◌, ◌≤◌, ◌==◌, nat_le, ℤ, true, List, [], ◌∷◌, ◌++◌, length, map, Option, Some, None, refl, ap, arith, length-append}
use Rattle.std.specs.Prelude.{flat_map}
use Rattle.std.specs.List.{AllByRecursion}
use Rattle.std.specs.Option.{option_map_or}
use Rattle.std.specs.Int.{Width, w16, w32, w64, byte_len, bytes_high_first}
use Rattle.std.proofs.lemmas.Bool.{cond_both}
use Rattle.std.proofs.lemmas.Bool.Decides.{nat_tests}
use Rattle.std.proofs.lemmas.List.{length-map}
use Rattle.boss_model.specs.declared.command.Policy.{Policy}
use Rattle.boss_model.specs.declared.command.Policy.TheVariants.{Abort, Keep}
use Rattle.boss_model.specs.declared.command.Step.{Step}
use Rattle.boss_model.specs.declared.kept.KeptReply.{KeptReply}
use Rattle.boss_model.specs.declared.notice.Cause.{Cause}
use Rattle.boss_model.specs.declared.notice.Cause.TheVariants as cause
use Rattle.boss_model.specs.declared.notice.What.{What}
use Rattle.boss_model.specs.declared.notice.What.TheVariants as what
use Rattle.boss_model.specs.declared.state.Actuator.{Actuator}
use Rattle.boss_model.specs.declared.state.Lease.{Lease}
use Rattle.boss_model.specs.declared.state.Pending.{Pending}
use Rattle.boss_model.specs.Limits.{longest_name, most_steps, most_writes, done_kept, most_processes, notices_kept}
use Rattle.boss_model.specs.Names.{is_name}
use Rattle.boss_model.specs.Plants.{IsPlant}
use Rattle.boss_model.specs.Records.{End, Part, Transaction}
use Rattle.boss_model.specs.Sound.{IsSoundPersistent}
use Rattle.boss_model.specs.State.{Process, Persistent}
use Rattle.def_bytes.specs.Fields.{Field, number_text, number, byte, both, tagged}
use Rattle.def_bytes.specs.Parts.{bits_of, signed64, unsigned, natural, name, policy, step, steps}
use Rattle.def_bytes.specs.States.{causes, what_text, whats, told_of, told, acceptance_numbers, reply_text, replies, no_reply_part, no_reply, reply, is_numbered_from, first_of_last, sent, process, ends, part, transaction, lease, pending, state}
use Rattle.law_spelling.specs.Ranges.{AreSteps, IsStoredLease, IsStoredPending, IsStoredTransaction, IsStoredProcess, most_slots, IsStorable}
use Rattle.law_spelling.proofs.Stored.{storable}

-- ---- one after another

both-sizes : (xs ys : List ℕ) (a b : ℕ) → length xs ≤ a → length ys ≤ b → length (xs ++ ys) ≤ a + b
both-sizes xs ys a b first second = omega (arith, length-append xs ys)

each-size : {X : Type 0} (P : X → Type 0) (f : Field X) (most : ℕ) → ((x : X) → P x → length (f.text x) ≤ most) →
    (xs : List X) → AllByRecursion P xs → length (flat_map f.text xs) ≤ length xs * most
each-size P f most each [] all = omega arith
each-size P f most each (x ∷ xs) all = omega (arith, length-append (f.text x) (flat_map f.text xs), each x all.0, each-size P f most each xs all.1)

any-size : {X : Type 0} (f : Field X) (most : ℕ) → ((x : X) → length (f.text x) ≤ most) → (xs : List X) → length (flat_map f.text xs) ≤ length xs * most
any-size f most each [] = omega arith
any-size f most each (x ∷ xs) = omega (arith, length-append (f.text x) (flat_map f.text xs), each x, any-size f most each xs)

-- what can't be taken apart has no bytes
made-size : {Y : Type 0} (f : Field Y) (most : ℕ) → ((y : Y) → length (f.text y) ≤ most) → (found : Option Y) → length (option_map_or f.text found []) ≤ most
made-size f most each None = omega arith
made-size f most each (Some y) = each y

-- ---- numbers

so-many : (k n : ℕ) → length (bytes_high_first k n) ≡ k
so-many zero n = refl
so-many (suc k) n = ap suc (so-many k n)

number-size : (w : Width) (n : ℕ) → length (number_text w n) ≤ byte_len w
unfolding number_text
number-size w n = omega (arith, so-many (byte_len w) n)

signed-size : (z : ℤ) → length (signed64.text z) ≤ 8
signed-size z = made-size (number w64) 8 (number-size w64) (bits_of z)

-- ---- names, policies, reversions

name-size : (bytes : List ℕ) → is_name bytes ≡ true → length (name.text bytes) ≤ 65
name-size bytes is =
    let few : nat_le (length bytes) longest_name ≡ true = grind arith in
    let within : length bytes ≤ longest_name = grind (arith, nat_tests) in
    let items : length (flat_map byte.text bytes) ≤ length bytes * 1 = any-size byte 1 (λ b. omega arith) bytes in
    omega (arith, items, within)

policy-size : (p : Policy) → length (policy.text p) ≤ 1
policy-size Abort = omega arith
policy-size Keep = omega arith

step-size : (s : Step) → length (step.text s) ≤ 12
step-size s = both-sizes (signed64.text s.value) ((natural (number w32)).text s.hold) 8 4 (signed-size s.value) (made-size (number w32) 4 (number-size w32) (unsigned s.hold))

steps-size : (ss : List Step) → AreSteps ss → length (steps.text ss) ≤ 97
steps-size ss are =
    let few : length ss ≤ most_steps = are.few in
    let items : length (flat_map step.text ss) ≤ length ss * 12 = any-size step 12 step-size ss in
    omega (arith, items, few)

-- ---- causes, notices, replies

cause-size : (why : Cause) → length ((tagged causes).text why) ≤ 9
cause-size cause.Expired = omega arith
cause-size cause.Cancelled = omega arith
cause-size cause.Died = omega arith
cause-size cause.Fault = omega arith
cause-size (cause.Superseded by) = let h : length (number_text w64 by) ≤ 8 = number-size w64 by in omega (arith, h)

what-size : (x : What) → length (what_text x) ≤ 13
what-size (what.Fault point) = let h : length (number_text w32 point) ≤ 4 = number-size w32 point in omega (arith, h)
what-size (what.Ended point why) = both-sizes (number_text w32 point) ((tagged causes).text why) 4 9 (number-size w32 point) (cause-size why)
what-size (what.Reverted point) = let h : length (number_text w32 point) ≤ 4 = number-size w32 point in omega (arith, h)
what-size (what.Cut point by) =
    let h : length (number_text w32 point ++ number_text w64 by) ≤ 4 + 8 = both-sizes (number_text w32 point) (number_text w64 by) 4 8 (number-size w32 point) (number-size w64 by) in
    omega (arith, h)
what-size what.Done = omega arith

notice-size : (x : ℕ × (ℕ × What)) → length (told.text x) ≤ 30
notice-size x = both-sizes (number_text w64 x.0) _ 8 22 (number-size w64 x.0) (both-sizes (number_text w64 x.1.0) ((tagged whats).text x.1.1) 8 14 (number-size w64 x.1.0)
    (let h : length (what_text x.1.1) ≤ 13 = what-size x.1.1 in omega (arith, h)))

reply-size : (r : Option KeptReply) → length (reply_text r) ≤ 24
reply-size None = omega arith
reply-size (Some r) =
    let both = acceptance_numbers r.acceptance in
    both-sizes (number_text w64 r.seq) _ 8 16 (number-size w64 r.seq) (both-sizes (number_text w64 both.0) (number_text w64 both.1) 8 8 (number-size w64 both.0) (number-size w64 both.1))

any-reply-size : (version : ℕ) (r : Option KeptReply) → length ((reply version).text r) ≤ 25
any-reply-size version r = cond_both (version == 1) no_reply (tagged replies) (λ (f : Field (Option KeptReply)). length (f.text r) ≤ 25)
    (λ first. none-size (no_reply_part r)) (λ later. let h : length (reply_text r) ≤ 24 = reply-size r in omega (arith, h))
  where
    none-size : (found : Option Unit) → length (option_map_or (λ (x : Unit). ◌++◌ {A = ℕ} [] []) found []) ≤ 25
    none-size None = omega arith
    none-size (Some x) = omega arith

-- ---- processes, records, leases, reversions

process-size : (version : ℕ) (p : Process) → IsStoredProcess p → length ((process version).text p) ≤ 30820
process-size version p is =
    let notices = map told_of p.kept in
    let few : length p.kept ≤ notices_kept = is.few in
    let items : length (flat_map told.text notices) ≤ length notices * 30 = any-size told 30 notice-size notices in
    let kept : length (number_text w16 (length notices) ++ flat_map told.text notices) ≤ 2 + 30720 =
    both-sizes (number_text w16 (length notices)) (flat_map told.text notices) 2 30720 (number-size w16 (length notices)) (omega (arith, items, few, length-map p.kept told_of)) in
    cond_both (is_numbered_from (first_of_last p.count (length p.kept)) p.kept) (Some (p.name, ((p.count, notices), p.reply))) None
    (λ o. length (option_map_or (both name (both sent (reply version))).text o []) ≤ 30820)
    (λ numbered. both-sizes (name.text p.name) _ 65 30755 (name-size p.name is.name)
    (both-sizes (sent.text (p.count, notices)) ((reply version).text p.reply) 30730 25 (both-sizes (number_text w64 p.count) _ 8 30722 (number-size w64 p.count) kept) (any-reply-size version p.reply)))
    (λ other. omega arith)

end-size : (e : Option End) → length ((tagged ends).text e) ≤ 18
end-size None = omega arith
end-size (Some e) =
    let h : length ((tagged causes).text e.cause ++ number_text w64 e.at) ≤ 9 + 8 = both-sizes ((tagged causes).text e.cause) (number_text w64 e.at) 9 8 (cause-size e.cause) (number-size w64 e.at) in
    omega (arith, h)

part-size : (p : Part) → length (part.text p) ≤ 23
part-size p = both-sizes (number_text w32 p.point) _ 4 19 (number-size w32 p.point) (both-sizes (byte.text p.priority) ((tagged ends).text p.end) 1 18 (omega arith) (end-size p.end))

transaction-size : (t : Transaction) → IsStoredTransaction t → length (transaction.text t) ≤ 748
transaction-size t is =
    let few : length t.parts ≤ most_writes = is.few_parts in
    let items : length (flat_map part.text t.parts) ≤ length t.parts * 23 = any-size part 23 part-size t.parts in
    both-sizes (number_text w64 t.txn) _ 8 740 (number-size w64 t.txn) (both-sizes (number_text w16 t.owner) _ 2 738 (number-size w16 t.owner)
    (both-sizes (policy.text t.policy) _ 1 737 (policy-size t.policy) (omega (arith, items, few))))

lease-size : (l : Lease) → IsStoredLease l → length (lease.text l) ≤ 129
lease-size l is =
    both-sizes (number_text w64 l.txn) _ 8 121 (number-size w64 l.txn) (both-sizes (number_text w16 l.owner) _ 2 119 (number-size w16 l.owner)
    (both-sizes (number_text w32 l.point) _ 4 115 (number-size w32 l.point) (both-sizes (byte.text l.priority) _ 1 114 (omega arith)
    (both-sizes (signed64.text l.value) _ 8 106 (signed-size l.value) (both-sizes (number_text w64 l.until) _ 8 98 (number-size w64 l.until)
    (both-sizes (policy.text l.policy) (steps.text l.revert) 1 97 (policy-size l.policy) (steps-size l.revert is.revert)))))))

pending-size : (r : Pending) → IsStoredPending r → length (pending.text r) ≤ 129
pending-size r is =
    both-sizes (number_text w64 r.txn) _ 8 121 (number-size w64 r.txn) (both-sizes (number_text w16 r.owner) _ 2 119 (number-size w16 r.owner)
    (both-sizes (number_text w32 r.point) _ 4 115 (number-size w32 r.point) (both-sizes (byte.text r.priority) _ 1 114 (omega arith)
    (both-sizes (number_text w64 r.start) (steps.text r.steps) 8 106 (number-size w64 r.start) (let h : length (steps.text r.steps) ≤ 97 = steps-size r.steps is.steps in omega (arith, h))))))

-- ---- the whole

-- a list of so many items at most
list-size : {X : Type 0} (P : X → Type 0) (w : Width) (f : Field X) (most room : ℕ) → ((x : X) → P x → length (f.text x) ≤ most) → (xs : List X) → AllByRecursion P xs →
    length xs * most ≤ room → length (number_text w (length xs) ++ flat_map f.text xs) ≤ byte_len w + room
list-size P w f most room each xs all few =
    both-sizes (number_text w (length xs)) (flat_map f.text xs) (byte_len w) room (number-size w (length xs)) (omega (arith, each-size P f most each xs all))

storable-size : (version : ℕ) (d : Persistent) → IsStorable d → length ((state version).text d) ≤ 2 ^ 27
storable-size version d is =
    let few_slots : length d.pending + length d.leases ≤ most_slots = is.few_slots in
    let few_txns : length d.txns ≤ most_slots + done_kept = is.few_txns in
    let few_done : length d.done ≤ done_kept = is.few_done in
    let few_processes : length d.processes ≤ most_processes = is.few_processes in
    let processes : length (number_text w16 (length d.processes) ++ flat_map (process version).text d.processes) ≤ 2 + 7889920 =
    list-size IsStoredProcess w16 (process version) 30820 7889920 (process-size version) d.processes is.processes (omega arith) in
    let records : length (number_text w32 (length d.txns) ++ flat_map transaction.text d.txns) ≤ 4 + 49786880 =
    list-size IsStoredTransaction w32 transaction 748 49786880 transaction-size d.txns is.txns (omega arith) in
    let done : length (number_text w16 (length d.done) ++ flat_map (number w64).text d.done) ≤ 2 + 8192 =
    both-sizes (number_text w16 (length d.done)) (flat_map (number w64).text d.done) 2 8192 (number-size w16 (length d.done)) (omega (arith, any-size (number w64) 8 (number-size w64) d.done)) in
    let leases : length (number_text w32 (length d.leases) ++ flat_map lease.text d.leases) ≤ 4 + 8454144 =
    list-size IsStoredLease w32 lease 129 8454144 lease-size d.leases is.leases (omega arith) in
    let reversions : length (number_text w32 (length d.pending) ++ flat_map pending.text d.pending) ≤ 4 + 8454144 =
    list-size IsStoredPending w32 pending 129 8454144 pending-size d.pending is.pending (omega arith) in
    both-sizes (number_text w64 d.now) _ 8 134217720 (number-size w64 d.now) (both-sizes (number_text w64 d.next) _ 8 134217712 (number-size w64 d.next)
    (both-sizes _ _ (2 + 7889920) 126327790 processes (both-sizes _ _ (4 + 49786880) 76540906 records (both-sizes _ _ (2 + 8192) 76532712 done
    (both-sizes _ _ (4 + 8454144) 68078564 leases (omega (arith, reversions)))))))

pub sound-size : (version : ℕ) (plant : List Actuator) (d : Persistent) → IsPlant plant → IsSoundPersistent plant d → length ((state version).text d) ≤ 2 ^ 27
sound-size version plant d whole sound = storable-size version d (storable plant whole d sound)

eight-bytes : (n : ℕ) → length (number_text w64 n) ≡ 8
unfolding number_text
eight-bytes n = so-many 8 n

at-first : (xs ys : List ℕ) → length xs ≡ 8 → 1 ≤ length (xs ++ ys)
at-first xs ys first = omega (arith, length-append xs ys)

pub some-bytes : (version : ℕ) (d : Persistent) → 1 ≤ length ((state version).text d)
some-bytes version d = at-first (number_text w64 d.now) _ (eight-bytes d.now)

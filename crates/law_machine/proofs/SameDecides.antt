-- The test of two persistent parts says whether they are equal.
use Rattle.std.proofs.Common.{◌≡◌, ℕ, ◌==◌, nat_eq, List, [], ◌∷◌, Bool, true, cond, Option, Some, None, refl, ap, sym, ◌∙◌, arith}
use Rattle.std.specs.Cmp.Lexicographic.{pointwise}
use Rattle.std.proofs.lemmas.Bool.Decides.{nat_tests, Decides-int_eq}
use Rattle.boss_model.specs.declared.command.Policy.{Policy}
use Rattle.boss_model.specs.declared.command.Policy.TheVariants.{Abort, Keep}
use Rattle.boss_model.specs.declared.command.Step.{Step}
use Rattle.boss_model.specs.declared.kept.Acceptance.{Acceptance}
use Rattle.boss_model.specs.declared.kept.Acceptance.TheVariants as acceptance
use Rattle.boss_model.specs.declared.kept.KeptReply.{KeptReply}
use Rattle.boss_model.specs.declared.notice.Cause.{Cause}
use Rattle.boss_model.specs.declared.notice.Cause.TheVariants as cause
use Rattle.boss_model.specs.declared.notice.Notice.{Notice}
use Rattle.boss_model.specs.declared.notice.What.{What}
use Rattle.boss_model.specs.declared.notice.What.TheVariants as what
use Rattle.boss_model.specs.declared.state.Lease.{Lease}
use Rattle.boss_model.specs.declared.state.Pending.{Pending}
use Rattle.boss_model.specs.Records.{End, Part, Transaction}
use Rattle.boss_model.specs.Same.{same_policy, cause_numbers, same_cause, what_numbers, same_what, same_step, same_lease, same_pending, same_end, same_part, same_transaction, same_notice, acceptance_numbers, same_reply, same_process, same_persistent}
use Rattle.boss_model.specs.State.{Process, Persistent}

module _ {X : Type 0} (same : X → X → Bool) where
  pub lists-equal : ((x y : X) → same x y ≡ true → x ≡ y) → (xs ys : List X) → pointwise same xs ys ≡ true → xs ≡ ys
  lists-equal equal [] [] is = refl
  lists-equal equal [] (y ∷ ys) is = cc
  lists-equal equal (x ∷ xs) [] is = cc
  lists-equal equal (x ∷ xs) (y ∷ ys) is =
      let here : x ≡ y = equal x y (grind (arith)) in
      let rest : xs ≡ ys = lists-equal equal xs ys (grind (arith)) in
      λ i. here i ∷ rest i

  pub lists-self : ((x : X) → same x x ≡ true) → (xs : List X) → pointwise same xs xs ≡ true
  lists-self self [] = refl
  lists-self self (x ∷ xs) = grind (arith, self x, lists-self self xs)

numbers-equal : (xs ys : List ℕ) → pointwise nat_eq xs ys ≡ true → xs ≡ ys
numbers-equal xs ys is = lists-equal nat_eq (λ x y same. grind (arith, nat_tests)) xs ys is

numbers-self : (xs : List ℕ) → pointwise nat_eq xs xs ≡ true
numbers-self xs = lists-self nat_eq (λ x. grind (arith, nat_tests)) xs

policy-equal : (x y : Policy) → same_policy x y ≡ true → x ≡ y
policy-equal Abort Abort is = refl
policy-equal Abort Keep is = cc
policy-equal Keep Abort is = cc
policy-equal Keep Keep is = refl

policy-self : (x : Policy) → same_policy x x ≡ true
policy-self Abort = refl
policy-self Keep = refl

-- the cause that some numbers are of
cause_of : List ℕ → Cause
cause_of [] = cause.Expired
cause_of (n ∷ []) = cond (n == 1) cause.Cancelled (cond (n == 2) cause.Died (cond (n == 3) cause.Fault cause.Expired))
cause_of (n ∷ by ∷ rest) = cause.Superseded by

cause_of-numbers : (x : Cause) → cause_of (cause_numbers x) ≡ x
unfolding cause_of
cause_of-numbers cause.Expired = refl
cause_of-numbers cause.Cancelled = refl
cause_of-numbers cause.Died = refl
cause_of-numbers cause.Fault = refl
cause_of-numbers (cause.Superseded by) = refl

cause-equal : (x y : Cause) → same_cause x y ≡ true → x ≡ y
cause-equal x y is = sym (cause_of-numbers x) ∙ ap cause_of (numbers-equal (cause_numbers x) (cause_numbers y) is) ∙ cause_of-numbers y

-- what some numbers tell
what_of : List ℕ → What
what_of [] = what.Done
what_of (n ∷ []) = what.Done
what_of (n ∷ point ∷ []) = cond (n == 0) (what.Fault point) (what.Reverted point)
what_of (n ∷ point ∷ k ∷ []) = cond (n == 3) (what.Cut point k) (what.Ended point (cause_of (k ∷ [])))
what_of (n ∷ point ∷ k ∷ by ∷ rest) = what.Ended point (cause_of (k ∷ by ∷ rest))

what_of-numbers : (x : What) → what_of (what_numbers x) ≡ x
unfolding what_of cause_of
what_of-numbers (what.Fault point) = refl
what_of-numbers (what.Ended point cause.Expired) = refl
what_of-numbers (what.Ended point cause.Cancelled) = refl
what_of-numbers (what.Ended point cause.Died) = refl
what_of-numbers (what.Ended point cause.Fault) = refl
what_of-numbers (what.Ended point (cause.Superseded by)) = refl
what_of-numbers (what.Reverted point) = refl
what_of-numbers (what.Cut point by) = refl
what_of-numbers what.Done = refl

what-equal : (x y : What) → same_what x y ≡ true → x ≡ y
what-equal x y is = sym (what_of-numbers x) ∙ ap what_of (numbers-equal (what_numbers x) (what_numbers y) is) ∙ what_of-numbers y

step-equal : (x y : Step) → same_step x y ≡ true → x ≡ y
step-equal x y is =
    let v : x.value ≡ y.value = (Decides-int_eq x.value y.value).0 (grind (arith)) in
    let h : x.hold ≡ y.hold = (Decides-int_eq x.hold y.hold).0 (grind (arith)) in
    λ i. record { value = v i; hold = h i }

step-self : (x : Step) → same_step x x ≡ true
step-self x = grind (arith, (Decides-int_eq x.value x.value).1 refl, (Decides-int_eq x.hold x.hold).1 refl)

lease-equal : (x y : Lease) → same_lease x y ≡ true → x ≡ y
lease-equal x y is =
    let a : x.txn ≡ y.txn = grind (arith, nat_tests) in
    let b : x.owner ≡ y.owner = grind (arith, nat_tests) in
    let c : x.point ≡ y.point = grind (arith, nat_tests) in
    let e : x.priority ≡ y.priority = grind (arith, nat_tests) in
    let v : x.value ≡ y.value = (Decides-int_eq x.value y.value).0 (grind (arith)) in
    let u : x.until ≡ y.until = grind (arith, nat_tests) in
    let r : x.revert ≡ y.revert = lists-equal same_step step-equal x.revert y.revert (grind (arith)) in
    let p : x.policy ≡ y.policy = policy-equal x.policy y.policy (grind (arith)) in
    λ i. record { txn = a i; owner = b i; point = c i; priority = e i; value = v i; until = u i; revert = r i; policy = p i }

lease-self : (x : Lease) → same_lease x x ≡ true
lease-self x = grind (arith, nat_tests, (Decides-int_eq x.value x.value).1 refl, lists-self same_step step-self x.revert, policy-self x.policy)

pending-equal : (x y : Pending) → same_pending x y ≡ true → x ≡ y
pending-equal x y is =
    let a : x.txn ≡ y.txn = grind (arith, nat_tests) in
    let b : x.owner ≡ y.owner = grind (arith, nat_tests) in
    let c : x.point ≡ y.point = grind (arith, nat_tests) in
    let e : x.priority ≡ y.priority = grind (arith, nat_tests) in
    let r : x.steps ≡ y.steps = lists-equal same_step step-equal x.steps y.steps (grind (arith)) in
    let u : x.start ≡ y.start = grind (arith, nat_tests) in
    λ i. record { txn = a i; owner = b i; point = c i; priority = e i; steps = r i; start = u i }

pending-self : (x : Pending) → same_pending x x ≡ true
pending-self x = grind (arith, nat_tests, lists-self same_step step-self x.steps)

end-equal : (x y : Option End) → same_end x y ≡ true → x ≡ y
end-equal None None is = refl
end-equal None (Some y) is = cc
end-equal (Some x) None is = cc
end-equal (Some x) (Some y) is =
    let c : x.cause ≡ y.cause = cause-equal x.cause y.cause (grind (arith)) in
    let a : x.at ≡ y.at = grind (arith, nat_tests) in
    λ i. Some (record { cause = c i; at = a i })

end-self : (x : Option End) → same_end x x ≡ true
end-self None = refl
end-self (Some x) = grind (arith, nat_tests, numbers-self (cause_numbers x.cause))

part-equal : (x y : Part) → same_part x y ≡ true → x ≡ y
part-equal x y is =
    let a : x.point ≡ y.point = grind (arith, nat_tests) in
    let b : x.priority ≡ y.priority = grind (arith, nat_tests) in
    let e : x.end ≡ y.end = end-equal x.end y.end (grind (arith)) in
    λ i. record { point = a i; priority = b i; end = e i }

part-self : (x : Part) → same_part x x ≡ true
part-self x = grind (arith, nat_tests, end-self x.end)

transaction-equal : (x y : Transaction) → same_transaction x y ≡ true → x ≡ y
transaction-equal x y is =
    let a : x.txn ≡ y.txn = grind (arith, nat_tests) in
    let b : x.owner ≡ y.owner = grind (arith, nat_tests) in
    let p : x.policy ≡ y.policy = policy-equal x.policy y.policy (grind (arith)) in
    let q : x.parts ≡ y.parts = lists-equal same_part part-equal x.parts y.parts (grind (arith)) in
    λ i. record { txn = a i; owner = b i; policy = p i; parts = q i }

transaction-self : (x : Transaction) → same_transaction x x ≡ true
transaction-self x = grind (arith, nat_tests, policy-self x.policy, lists-self same_part part-self x.parts)

notice-equal : (x y : Notice) → same_notice x y ≡ true → x ≡ y
notice-equal x y is =
    let a : x.number ≡ y.number = grind (arith, nat_tests) in
    let b : x.at ≡ y.at = grind (arith, nat_tests) in
    let c : x.txn ≡ y.txn = grind (arith, nat_tests) in
    let w : x.what ≡ y.what = what-equal x.what y.what (grind (arith)) in
    λ i. record { number = a i; at = b i; txn = c i; what = w i }

notice-self : (x : Notice) → same_notice x x ≡ true
notice-self x = grind (arith, nat_tests, numbers-self (what_numbers x.what))

-- the kept answer that some numbers are of
acceptance_of : List ℕ → Acceptance
acceptance_of [] = acceptance.Cancelled 0 0
acceptance_of (n ∷ []) = acceptance.Cancelled 0 0
acceptance_of (n ∷ txn ∷ []) = acceptance.Cancelled txn 0
acceptance_of (n ∷ txn ∷ moment ∷ rest) = cond (n == 0) (acceptance.Accepted txn moment) (cond (n == 1) (acceptance.Renewed txn moment) (acceptance.Cancelled txn moment))

acceptance_of-numbers : (x : Acceptance) → acceptance_of (acceptance_numbers x) ≡ x
unfolding acceptance_of
acceptance_of-numbers (acceptance.Accepted txn until) = refl
acceptance_of-numbers (acceptance.Renewed txn until) = refl
acceptance_of-numbers (acceptance.Cancelled txn at) = refl

acceptance-equal : (x y : Acceptance) → pointwise nat_eq (acceptance_numbers x) (acceptance_numbers y) ≡ true → x ≡ y
acceptance-equal x y is = sym (acceptance_of-numbers x) ∙ ap acceptance_of (numbers-equal (acceptance_numbers x) (acceptance_numbers y) is) ∙ acceptance_of-numbers y

reply-equal : (x y : Option KeptReply) → same_reply x y ≡ true → x ≡ y
reply-equal None None is = refl
reply-equal None (Some y) is = cc
reply-equal (Some x) None is = cc
reply-equal (Some x) (Some y) is =
    let n : x.seq ≡ y.seq = grind (arith, nat_tests) in
    let a : x.acceptance ≡ y.acceptance = acceptance-equal x.acceptance y.acceptance (grind (arith)) in
    λ i. Some (record { seq = n i; acceptance = a i })

reply-self : (x : Option KeptReply) → same_reply x x ≡ true
reply-self None = refl
reply-self (Some x) = grind (arith, nat_tests, numbers-self (acceptance_numbers x.acceptance))

process-equal : (x y : Process) → same_process x y ≡ true → x ≡ y
process-equal x y is =
    let a : x.name ≡ y.name = numbers-equal x.name y.name (grind (arith)) in
    let b : x.count ≡ y.count = grind (arith, nat_tests) in
    let k : x.kept ≡ y.kept = lists-equal same_notice notice-equal x.kept y.kept (grind (arith)) in
    let r : x.reply ≡ y.reply = reply-equal x.reply y.reply (grind (arith)) in
    λ i. record { name = a i; count = b i; kept = k i; reply = r i }

process-self : (x : Process) → same_process x x ≡ true
process-self x = grind (arith, nat_tests, numbers-self x.name, lists-self same_notice notice-self x.kept, reply-self x.reply)

pub persistent-equal : (x y : Persistent) → same_persistent x y ≡ true → x ≡ y
persistent-equal x y is =
    let a : x.now ≡ y.now = grind (arith, nat_tests) in
    let b : x.next ≡ y.next = grind (arith, nat_tests) in
    let l : x.leases ≡ y.leases = lists-equal same_lease lease-equal x.leases y.leases (grind (arith)) in
    let p : x.pending ≡ y.pending = lists-equal same_pending pending-equal x.pending y.pending (grind (arith)) in
    let t : x.txns ≡ y.txns = lists-equal same_transaction transaction-equal x.txns y.txns (grind (arith)) in
    let e : x.done ≡ y.done = numbers-equal x.done y.done (grind (arith)) in
    let q : x.processes ≡ y.processes = lists-equal same_process process-equal x.processes y.processes (grind (arith)) in
    λ i. record { now = a i; next = b i; leases = l i; pending = p i; txns = t i; done = e i; processes = q i }

pub persistent-self : (x : Persistent) → same_persistent x x ≡ true
persistent-self x = grind (
  arith,
  nat_tests,
  lists-self same_lease lease-self x.leases,
  lists-self same_pending pending-self x.pending,
  lists-self same_transaction transaction-self x.txns,
  numbers-self x.done,
  lists-self same_process process-self x.processes,
)

-- What is asked before time passes is what is refused after it.
use Rattle.std.proofs.Common.{◌≡◌, ℕ, ◌==◌, nat_eq, nat_lt, nat_le, ℤ, List, [], ◌∷◌, length, map, Bool, true, false, not, ◌&&◌, ◌||◌, cond, Option, Some, None, is_some, is_none, refl, ap, sym, ◌∙◌, arith}
use Rattle.std.specs.Option.{option_map, option_map_or}
use Rattle.std.specs.List.{fold, position, position_or_len, list_any, list_all}
use Rattle.std.specs.Cmp.Lexicographic.{pointwise}
use Rattle.std.proofs.lemmas.Bool.Decides.{nat_tests}
use Rattle.boss_model.specs.declared.answer.Answer.{Answer}
use Rattle.boss_model.specs.declared.answer.Refusal.{Refusal}
use Rattle.boss_model.specs.declared.answer.Refusal.TheVariants as refusal
use Rattle.boss_model.specs.declared.event.Act.{Act}
use Rattle.boss_model.specs.declared.event.Act.TheVariants as act
use Rattle.boss_model.specs.declared.event.Event.{Event}
use Rattle.boss_model.specs.declared.kept.KeptReply.{KeptReply}
use Rattle.boss_model.specs.declared.state.Actuator.{Actuator}
use Rattle.boss_model.specs.declared.state.Lease.{Lease}
use Rattle.boss_model.specs.Acts.{is_known_process, is_known_point, if_did, by_number, enrol_if, act_on, effective, replay}
use Rattle.boss_model.specs.Ends.{is_of, last_part_end, cancel_refused, gone, faulted}
use Rattle.boss_model.specs.Limits.{most_processes}
use Rattle.boss_model.specs.Lists.{member, first_some}
use Rattle.boss_model.specs.Outcomes.{unless}
use Rattle.boss_model.specs.Processes.{process_named, is_full, enrolled}
use Rattle.boss_model.specs.Records.{Part, Transaction}
use Rattle.boss_model.specs.Renew.{transaction_of, if_own, wrote, named_parts, ended_at, renew, renew_refused}
use Rattle.boss_model.specs.Replies.{reply_of, remembered, once, is_repeat}
use Rattle.boss_model.specs.Reversions.{courses}
use Rattle.boss_model.specs.Happenings.{lives, finish}
use Rattle.boss_model.specs.Sound.{IsPart, IsTransaction, has_part, IsSoundPersistent}
use Rattle.boss_model.specs.State.{Process, Persistent}
use Rattle.boss_model.specs.Submit.{is_length, submit, submit_refused}
use Rattle.boss_model.specs.Target.{in_force}
use Rattle.boss_model.specs.Time.{live, left, due, lease_of_part, part_after, record_after, expired, moment_of, tick_to}
use Rattle.law_machine.proofs.OnceStep.{repeat-found, ticked-same}
use Rattle.law_soundness.proofs.ActSound.{tick-length}
use Rattle.law_soundness.proofs.OnceCases.{repeat-of, once-by}
use Rattle.law_time.proofs.GroupSound.{tell-names}
use Rattle.law_time.proofs.Orders.{each-map, each-both}
use Rattle.law_time.proofs.Slots.{self-found}
use Rattle.law_effects.specs.Changes.{is_new}
use Rattle.law_effects.specs.Early.{slot_lease, open_still, if_owned, is_renewable, is_cancellable, early}
use Rattle.law_effects.proofs.Changed.{and-true, new-bare, new-above, new-not}
use Rattle.law_effects.proofs.Lasting.{and-false, same-tests, found-passes, any-filter, any-implies, least-some, slot-found, open-after, still-lease, lives-still, owned-kept}
use Rattle.law_effects.proofs.Found.{any-some, head-some, named-each, some-named, named-changed, all-wrote-changed, all-changed, parts-of}

-- ---- refusals as tests

fails-within : {X : Type 0} (f : X → Bool) (xs : List X) → nat_lt (position_or_len (λ x. not (f x)) xs) (length xs) ≡ not (list_all f xs)
fails-within f [] = refl
fails-within f (x ∷ xs) = grind (arith, nat_tests, fails-within f xs)

none-fails : {X : Type 0} (f : X → Bool) (xs : List X) → is_none (position (λ x. not (f x)) xs) ≡ list_all f xs
none-fails f xs = ap (λ b. is_none (cond b (Some (position_or_len (λ x. not (f x)) xs)) None)) (fails-within f xs) ∙ by (list_all f xs)
  where
    by : (b : Bool) → is_none (cond (not b) (Some (position_or_len (λ x. not (f x)) xs)) None) ≡ b
    by true = refl
    by false = refl

none-first : {X : Type 0} (x : Option X) (xs : List (Option X)) → is_none (first_some (x ∷ xs)) ≡ (is_none x && is_none (first_some xs))
none-first None xs = refl
none-first (Some x) xs = refl

none-mapped : {X Y : Type 0} (f : X → Y) (x : Option X) → is_none (option_map f x) ≡ is_none x
none-mapped f None = refl
none-mapped f (Some x) = refl

none-ended : (parts : List Part) → is_none (first_some (map (λ part. part.end) parts)) ≡ list_all (λ part. is_none part.end) parts
none-ended [] = refl
none-ended (p ∷ ps) = none-first p.end (map (λ part. part.end) ps) ∙ ap (λ b. is_none p.end && b) (none-ended ps)

none-own : (owner : ℕ) (why : Transaction → Option Refusal) (test : Transaction → Bool) → ((t : Transaction) → is_none (why t) ≡ test t) → (found : Option Transaction) →
    is_none (if_own owner why found) ≡ if_owned owner test found
none-own owner why test each None = refl
none-own owner why test each (Some t) = by (t.owner == owner)
  where
    by : (own : Bool) → is_none (cond own (why t) (Some refusal.NotYours)) ≡ (own && test t)
    by true = each t
    by false = refl

-- a renewal is not refused where no part that is meant has an end
is_open : List ℕ → Transaction → Bool
is_open points t = list_all (wrote t.parts) points && list_all (λ part. is_none part.end) (named_parts points t.parts)

renew-none : (owner txn : ℕ) (asked : ℤ) (points : List ℕ) (n : ℕ) (d : Persistent) →
    is_none (renew_refused owner txn asked points n d) ≡ (is_length asked && if_owned owner (is_open points) (transaction_of d.txns txn))
unfolding is_open
renew-none owner txn asked points n d =
    let why = λ (t : Transaction). first_some (option_map refusal.NotInTxn (position (λ point. not (wrote t.parts point)) points) ∷
    option_map (ended_at n) (first_some (map (λ part. part.end) (named_parts points t.parts))) ∷ []) in
    let found = transaction_of d.txns txn in
    none-first (cond (is_length asked) None (Some (refusal.BadLease 0))) (if_own owner why found ∷ [])
    ∙ (λ i. length-none (is_length asked) i && (none-first (if_own owner why found) [] ∙ and-true (is_none (if_own owner why found))
    ∙ none-own owner why (is_open points) (λ t.
    none-first (option_map refusal.NotInTxn (position (λ point. not (wrote t.parts point)) points)) (option_map (ended_at n) (first_some (map (λ part. part.end) (named_parts points t.parts))) ∷ [])
    ∙ (λ j. (none-mapped refusal.NotInTxn (position (λ point. not (wrote t.parts point)) points) ∙ none-fails (wrote t.parts) points) j
    && (none-first (option_map (ended_at n) (first_some (map (λ part. part.end) (named_parts points t.parts)))) []
    ∙ and-true (is_none (option_map (ended_at n) (first_some (map (λ part. part.end) (named_parts points t.parts)))))
    ∙ none-mapped (ended_at n) (first_some (map (λ part. part.end) (named_parts points t.parts))) ∙ none-ended (named_parts points t.parts)) j)) found) i)
  where
    length-none : (b : Bool) → is_none {T = Refusal} (cond b None (Some (refusal.BadLease 0))) ≡ b
    length-none true = refl
    length-none false = refl

cancel-none : (owner txn : ℕ) (d : Persistent) →
    is_none (cancel_refused owner txn d) ≡ if_owned owner (λ t. list_any (is_of txn) d.leases) (transaction_of d.txns txn)
cancel-none owner txn d = none-own owner (λ t. cond (list_any (is_of txn) d.leases) None (Some (refusal.Over (last_part_end t)))) (λ t. list_any (is_of txn) d.leases)
    (λ t. by t (list_any (is_of txn) d.leases)) (transaction_of d.txns txn)
  where
    by : (t : Transaction) (b : Bool) → is_none (cond b None (Some (refusal.Over (last_part_end t)))) ≡ b
    by t true = refl
    by t false = refl

-- ---- a request of a process that may be numbered

pub number-some : (owner seq : ℕ) (d : Persistent) (why : Option Refusal) (given : Answer) (changed : Persistent) →
    is_some (by_number owner seq d (unless why given changed)) ≡ (is_known_process d owner && (is_new owner seq d && is_none why))
number-some owner seq d why given changed = by (is_repeat owner seq d) refl
  where
    plain : (x : Option Refusal) → is_some (if_did (unless x given changed)) ≡ is_none x
    plain None = refl
    plain (Some x) = refl

    numbered : (x : Option Refusal) → is_some (if_did (remembered owner seq (unless x given changed))) ≡ is_none x
    numbered None = refl
    numbered (Some x) = refl

    made : is_repeat owner seq d ≡ false → is_some (if_did (once owner seq d (unless why given changed))) ≡ (is_new owner seq d && is_none why)
    made new = once-by owner seq d (unless why given changed) (λ o. is_some (if_did o) ≡ (is_new owner seq d && is_none why))
        (λ none. plain why ∙ ap (λ b. b && is_none why) (sym (new-bare owner seq d none)))
        (λ some above. numbered why ∙ ap (λ b. b && is_none why) (sym (new-above owner seq d (reply_of d.processes owner) some refl above)))
        (λ reply some found is.
        let test = repeat-of owner seq d (Some reply) found in
        let again : is_repeat owner seq d ≡ true = grind (arith, nat_tests) in absurd (cc (sym again ∙ new)))
        (λ reply some found less. ap (λ b. b && is_none why) (sym (new-not owner seq d reply some found (omega arith))))

    known : (k : Bool) → is_repeat owner seq d ≡ false →
        is_some (cond k (if_did (once owner seq d (unless why given changed))) None) ≡ (k && (is_new owner seq d && is_none why))
    known true new = made new
    known false new = refl

    by : (again : Bool) → is_repeat owner seq d ≡ again →
        is_some (cond again None (cond (is_known_process d owner) (if_did (once owner seq d (unless why given changed))) None)) ≡ (is_known_process d owner && (is_new owner seq d && is_none why))
    by true is =
        let kept = repeat-found owner seq d is in
        let none : is_new owner seq d ≡ false = new-not owner seq d kept.0 kept.3 kept.1 (let same : kept.0.seq ≡ seq = kept.2 in omega arith) in
        sym (ap (λ b. is_known_process d owner && (b && is_none why)) none ∙ and-false (is_known_process d owner))
    by false is = known (is_known_process d owner) is

-- ---- names

named-within : (test : List ℕ → Bool) (ps : List Process) → position_or_len (λ p. test p.name) ps ≡ position_or_len test (map (λ p. p.name) ps)
named-within test [] = refl
named-within test (p ∷ ps) = grind (arith, named-within test ps)

module _ (plant : List Actuator) (n : ℕ) (d : Persistent) (sound : IsSoundPersistent plant d) where
  tick-named : (name : List ℕ) → process_named (tick_to n d).processes name ≡ process_named d.processes name
  tick-named name =
      let t = λ (other : List ℕ). pointwise nat_eq other name in
      let ps = (tick_to n d).processes in
      let place : position_or_len (λ p. t p.name) ps ≡ position_or_len (λ p. t p.name) d.processes =
      named-within t ps ∙ ap (position_or_len t) (tell-names d.processes (due n d)) ∙ sym (named-within t d.processes) in
      λ i. cond (nat_lt (place i) (tick-length d n i)) (Some (place i)) None

  tick-known : (owner : ℕ) → is_known_process (tick_to n d) owner ≡ is_known_process d owner
  tick-known owner = ap (λ k. nat_lt owner k) (tick-length d n)

  tick-new : (owner seq : ℕ) → is_new owner seq (tick_to n d) ≡ is_new owner seq d
  tick-new owner seq = ap (λ f. (seq == 0) || option_map_or (λ (reply : KeptReply). nat_lt reply.seq seq) f true) (ticked-same d n owner)

  number-early : (owner seq : ℕ) (why : Option Refusal) (given : Answer) (changed : Persistent) (test : Bool) → is_none why ≡ test →
      is_some (by_number owner seq (tick_to n d) (unless why given changed)) ≡ (is_known_process d owner && (is_new owner seq d && test))
  number-early owner seq why given changed test is =
      number-some owner seq (tick_to n d) why given changed ∙ (λ i. tick-known owner i && (tick-new owner seq i && is i))

  -- ---- records, after time has passed

  how : Transaction → Transaction
  how t = record_after (expired n) d.leases t

  stays : Transaction → Bool
  stays t = lives t.txn (left n (courses d.pending d.leases)) || member t.txn (fold finish d.done (due n d))

  stays-still : (t : Transaction) → IsTransaction plant d t → stays (how t) ≡ false → (part : Part) → IsPart plant d.now t.txn d.leases part → open_still n d.leases part ≡ true → true ≡ false
  unfolding stays how
  stays-still t is goes part fits lasts =
      sym (ap (λ b. b || member t.txn (fold finish d.done (due n d))) (lives-still plant n d sound t.txn part fits lasts)) ∙ goes

  renew-part : (points : List ℕ) (t : Transaction) → IsTransaction plant d t → is_open points (how t) ≡ is_renewable n d.leases points t
  unfolding how is_open
  renew-part points t is =
      let change = part_after (expired n) d.leases t.txn in
      λ i. all-wrote-changed change (λ p. refl) points t.parts i
      && (ap (list_all (λ part. is_none part.end)) (named-changed change (λ p. refl) points t.parts)
      ∙ all-changed change (λ p. refl) (IsPart plant d.now t.txn d.leases) (λ part. is_none part.end) (open_still n d.leases) (open-after plant n d sound t.txn)
      (named_parts points t.parts) (named-each (IsPart plant d.now t.txn d.leases) points t.parts is.parts)) i

  renew-goes : (points : List ℕ) (t : Transaction) → IsTransaction plant d t → stays (how t) ≡ false → is_renewable n d.leases points t ≡ false
  renew-goes points t is goes = by (is_renewable n d.leases points t) refl
    where
      by : (b : Bool) → is_renewable n d.leases points t ≡ b → b ≡ false
      by false none = refl
      by true some =
          let first = head-some (IsPart plant d.now t.txn d.leases) (open_still n d.leases) (named_parts points t.parts)
          (named-each (IsPart plant d.now t.txn d.leases) points t.parts is.parts) (some-named points t.parts is.some_part (grind (arith))) (grind (arith)) in
          stays-still t is goes first.0 first.2 first.1

  renew-owned : (owner txn : ℕ) (points : List ℕ) →
      if_owned owner (is_open points) (transaction_of (tick_to n d).txns txn) ≡ if_owned owner (is_renewable n d.leases points) (transaction_of d.txns txn)
  unfolding how stays
  renew-owned owner txn points = owned-kept plant n d sound owner txn (is_renewable n d.leases points) (is_open points) how stays (λ t. refl) (λ t. refl) d.txns sound.numbers
      (each-map (IsTransaction plant d) (λ t. (t.txn ≡ txn → is_open points (how t) ≡ is_renewable n d.leases points t) × (t.txn ≡ txn → stays (how t) ≡ false → is_renewable n d.leases points t ≡ false))
      (λ t is. (λ _. renew-part points t is, λ _ goes. renew-goes points t is goes)) d.txns sound.txns)

  -- a transaction has a lease left exactly where one of its parts is open still
  IsHeld : Lease → Type 0
  IsHeld l = (has_part is_none d.txns l.txn l.point l.priority ≡ true) × (lease_of_part d.leases l.txn l.point l.priority ≡ Some l)

  Parts : Transaction → Type 0
  Parts t = (point priority : ℕ) → has_part is_none d.txns t.txn point priority ≡ list_any (λ part. (part.point == point) && ((part.priority == priority) && is_none part.end)) t.parts

  cancel-part : (t : Transaction) → IsTransaction plant d t → Parts t → list_any (is_of t.txn) (live n d.leases) ≡ is_cancellable n d.leases t
  unfolding IsHeld Parts
  cancel-part t is parts = any-filter (is_of t.txn) (λ l. nat_lt n l.until) d.leases
      ∙ same-tests (list_any (λ l. nat_lt n l.until && is_of t.txn l) d.leases) (is_cancellable n d.leases t)
      (λ some.
      let l = any-some IsHeld (λ l. nat_lt n l.until && is_of t.txn l) d.leases
      (each-both (λ l. has_part is_none d.txns l.txn l.point l.priority ≡ true) (λ l. lease_of_part d.leases l.txn l.point l.priority ≡ Some l) d.leases sound.open_parts
      (self-found d.leases sound.lease_slots)) some in
      let lease = l.0 in
      let test : (nat_lt n lease.until && (lease.txn == t.txn)) ≡ true = l.1 in
      let mine : lease.txn ≡ t.txn = grind (arith, nat_tests) in
      let lasts : nat_lt n lease.until ≡ true = grind (arith) in
      let itself : (lease.txn == lease.txn) && ((lease.point == lease.point) && (lease.priority == lease.priority)) ≡ true = grind (arith, nat_tests) in
      let there = (found-passes (λ o. (o.txn == lease.txn) && ((o.point == lease.point) && (o.priority == lease.priority))) d.leases lease l.2.1).1
      (λ o. (o.txn == lease.txn) && ((o.point == lease.point) && (o.priority == lease.priority))) itself in
      let slot = slot-found d.leases sound.lease_slots lease.txn lease.point lease.priority there in
      let same : slot.0 ≡ lease = (let both : Some slot.0 ≡ Some lease = sym slot.1 ∙ l.2.1 in cc) in
      let until : option_map_or (λ o. nat_lt n o.until) (slot_lease d.leases lease.point lease.priority) false ≡ true =
      ap (λ f. option_map_or (λ (o : Lease). nat_lt n o.until) f false) (slot.2 ∙ ap Some same) ∙ lasts in
      let part : list_any (λ part. (part.point == lease.point) && ((part.priority == lease.priority) && is_none part.end)) t.parts ≡ true =
      sym (parts lease.point lease.priority) ∙ ap (λ k. has_part is_none d.txns k lease.point lease.priority) (sym mine) ∙ l.2.0 in
      any-implies (IsPart plant d.now t.txn d.leases) (λ part. (part.point == lease.point) && ((part.priority == lease.priority) && is_none part.end)) (open_still n d.leases)
      (λ part _ passes.
      let a : part.point ≡ lease.point = grind (arith, nat_tests) in
      let b : part.priority ≡ lease.priority = grind (arith, nat_tests) in
      let e : is_none part.end ≡ true = grind (arith) in
      (λ i. e i && option_map_or (λ (o : Lease). nat_lt n o.until) (slot_lease d.leases (a i) (b i)) false) ∙ until)
      t.parts is.parts part)
      (λ some.
      let part = any-some (IsPart plant d.now t.txn d.leases) (open_still n d.leases) t.parts is.parts some in
      let l = still-lease plant n d sound t.txn part.0 part.2 part.1 in
      let found = found-passes (λ o. (o.txn == t.txn) && ((o.point == part.0.point) && (o.priority == part.0.priority))) d.leases l.0 l.2 in
      let own : (l.0.txn == t.txn) ≡ true = (let both = found.0 in grind (arith)) in
      found.1 (λ o. nat_lt n o.until && is_of t.txn o) (λ i. l.1 i && own i))

  cancel-goes : (t : Transaction) → IsTransaction plant d t → stays (how t) ≡ false → is_cancellable n d.leases t ≡ false
  cancel-goes t is goes = by (is_cancellable n d.leases t) refl
    where
      by : (b : Bool) → is_cancellable n d.leases t ≡ b → b ≡ false
      by false none = refl
      by true some =
          let part = any-some (IsPart plant d.now t.txn d.leases) (open_still n d.leases) t.parts is.parts some in
          stays-still t is goes part.0 part.2 part.1

  cancel-owned : (owner txn : ℕ) →
      if_owned owner (λ t. list_any (is_of txn) (live n d.leases)) (transaction_of (tick_to n d).txns txn) ≡ if_owned owner (is_cancellable n d.leases) (transaction_of d.txns txn)
  unfolding how stays Parts
  cancel-owned owner txn = owned-kept plant n d sound owner txn (is_cancellable n d.leases) (λ t. list_any (is_of txn) (live n d.leases)) how stays (λ t. refl) (λ t. refl) d.txns sound.numbers
      (each-map (λ t. IsTransaction plant d t × Parts t) (λ t. (t.txn ≡ txn → list_any (is_of txn) (live n d.leases) ≡ is_cancellable n d.leases t) × (t.txn ≡ txn → stays (how t) ≡ false → is_cancellable n d.leases t ≡ false))
      (λ t both. (λ mine. ap (λ k. list_any (is_of k) (live n d.leases)) (sym mine) ∙ cancel-part t both.0 both.1, λ _ goes. cancel-goes t both.0 goes)) d.txns
      (each-both (IsTransaction plant d) Parts d.txns sound.txns (parts-of d.txns sound.numbers)))

  -- ---- acts

  some-if : (test : Bool) (made : Option Persistent) (flag : Bool) → is_some made ≡ flag → is_some (cond test made None) ≡ (test && flag)
  some-if true made flag is = is
  some-if false made flag is = refl

  enrol-early : (found : Option ℕ) (name : List ℕ) (e : Persistent) → is_some (enrol_if found name n e) ≡ (is_some found || not (is_full e.processes))
  enrol-early None name e = by (is_full e.processes)
    where
      by : (full : Bool) → is_some (cond full None (Some (enrolled name n e))) ≡ not full
      by true = refl
      by false = refl
  enrol-early (Some process) name e = refl

  pub act-early : (done : Act) → is_some (act_on plant n done (tick_to n d)) ≡ early plant n done d
  act-early (act.Enrol name) = enrol-early (process_named (tick_to n d).processes name) name (tick_to n d)
      ∙ (λ i. is_some (tick-named name i) || not (nat_le most_processes (tick-length d n i)))
  act-early (act.Submit owner policy writes seq) = some-if (list_all (λ write. is_known_point plant write.point) writes) (by_number owner seq (tick_to n d) (submit plant owner policy writes n (tick_to n d)))
      (is_known_process d owner && (is_new owner seq d && is_none (submit_refused plant writes d)))
      (number-early owner seq (submit_refused plant writes (tick_to n d)) _ _ (is_none (submit_refused plant writes d)) refl)
  act-early (act.Renew owner txn asked points seq) =
      let test = is_length asked && if_owned owner (is_renewable n d.leases points) (transaction_of d.txns txn) in
      some-if (list_all (is_known_point plant) points) (by_number owner seq (tick_to n d) (renew owner txn asked points n (tick_to n d)))
      (is_known_process d owner && (is_new owner seq d && test))
      (number-early owner seq (renew_refused owner txn asked points n (tick_to n d)) _ _ test
      (renew-none owner txn asked points n (tick_to n d) ∙ ap (λ b. is_length asked && b) (renew-owned owner txn points)))
  act-early (act.Cancel owner txn seq) = number-early owner seq (cancel_refused owner txn (tick_to n d)) _ _ (if_owned owner (is_cancellable n d.leases) (transaction_of d.txns txn))
      (cancel-none owner txn (tick_to n d) ∙ cancel-owned owner txn)
  act-early (act.Gone owner) = some-if (is_known_process (tick_to n d) owner) (if_did (gone owner n (tick_to n d))) true refl ∙ and-true (is_known_process (tick_to n d) owner) ∙ tick-known owner
  act-early act.Tick = refl
  act-early (act.Fault point) =
      some-if (is_known_point plant point && is_some (in_force (live n d.leases) point)) (Some (faulted (in_force (live n d.leases) point) n (tick_to n d))) true refl
      ∙ and-true (is_known_point plant point && is_some (in_force (live n d.leases) point))
      ∙ ap (λ b. is_known_point plant point && b) (least-some (λ l. l.priority) (λ l. l.point == point) (live n d.leases) ∙ any-filter (λ l. l.point == point) (λ l. nat_lt n l.until) d.leases)

pub replay-refused : (plant : List Actuator) (event : Event) (d : Persistent) → IsSoundPersistent plant d → early plant (moment_of d event.moment) event.act d ≡ false →
    replay plant event d ≡ None
replay-refused plant event d sound not_early =
    let n = moment_of d event.moment in
    none-effective (act_on plant n event.act (tick_to n d)) (act-early plant n d sound event.act ∙ not_early)
  where
    none-effective : (made : Option Persistent) → is_some made ≡ false → effective d made ≡ None
    none-effective None none = refl
    none-effective (Some after) none = absurd (cc (sym none))

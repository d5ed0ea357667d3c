-- What an accepted request is answered has numbers that fit, and keeping the answer keeps a sound persistent part sound.
use Rattle.std.proofs.Common.{◌≡◌, ℕ, ◌+◌, ◌<◌, ◌≤◌, ◌==◌, ℤ, List, [], ◌∷◌, length, map, set, not, cond, Option, Some, None, refl, sym, ◌∙◌, subst, arith}
use Rattle.std.specs.Option.{option_and_then, option_map, option_map_or}
use Rattle.std.specs.List.{filter, find, position, AllByRecursion, list_any, slice_get}
use Rattle.std.proofs.Math.ListN.{length-set}
use Rattle.std.proofs.lemmas.Bool.{cond_both}
use Rattle.std.proofs.lemmas.Bool.Decides.{nat_tests}
use Rattle.boss_model.specs.declared.answer.Answer.{Answer}
use Rattle.boss_model.specs.declared.answer.Answer.TheVariants as answer
use Rattle.boss_model.specs.declared.answer.Refusal.{Refusal}
use Rattle.boss_model.specs.declared.answer.Refusal.TheVariants as refusal
use Rattle.boss_model.specs.declared.command.Policy.{Policy}
use Rattle.boss_model.specs.declared.command.Setting.{Setting}
use Rattle.boss_model.specs.declared.kept.Acceptance.{Acceptance}
use Rattle.boss_model.specs.declared.kept.Acceptance.TheVariants as acceptance
use Rattle.boss_model.specs.declared.state.Actuator.{Actuator}
use Rattle.boss_model.specs.declared.state.Lease.{Lease}
use Rattle.boss_model.specs.Ends.{is_of, last_part_end, cancel, cancel_refused}
use Rattle.boss_model.specs.Limits.{longest_lease, most_writes, most_processes, last_moment, last_number}
use Rattle.boss_model.specs.Lists.{first_some}
use Rattle.boss_model.specs.Order.{least}
use Rattle.boss_model.specs.Outcomes.{Outcome, refused, did, unless}
use Rattle.boss_model.specs.Records.{Transaction}
use Rattle.boss_model.specs.Renew.{transaction_of, if_own, wrote, named_parts, ended_at, is_meant, renewed, renew, renew_refused}
use Rattle.boss_model.specs.Replies.{answer_of, acceptance_of, reply_of, replied, keep_reply, remembered, once}
use Rattle.boss_model.specs.Sound.{DistinctNames, IsWord, IsLease, IsTransaction, IsAcceptance, IsReply, IsProcess, IsSoundPersistent}
use Rattle.boss_model.specs.State.{Process, Persistent}
use Rattle.boss_model.specs.Submit.{is_length, lease_of, granted, first_until, submitted, submit, submit_refused}
use Rattle.law_soundness.proofs.ActSound.{submit-next, renew-next, cancel-next}
use Rattle.law_soundness.proofs.ConcludeSound.{IsNext}
use Rattle.law_soundness.proofs.EndSound.{IsAt}
use Rattle.law_soundness.proofs.NotRefused.{IsWrite, none-of-first, submit-not-refused}
use Rattle.law_soundness.proofs.OnceCases.{once-by}
use Rattle.law_soundness.proofs.SubmitSound.{new-lease}
use Rattle.law_time.proofs.Filters.{each-mapped}
use Rattle.law_time.proofs.GroupSound.{got, each-set, map-set, transaction-in}
use Rattle.law_time.proofs.Orders.{each-map, each-filter, least-of}
use Rattle.law_time.proofs.TickSound.{numbers-fit}

-- ---- the answer is kept

abbrev pub IsGiven : Option Acceptance → Type 0
IsGiven None = Unit {0}
IsGiven (Some given) = IsAcceptance given

-- an outcome that leaves what is sound, and whose answer may be kept
abbrev pub IsGood : List Actuator → Persistent → Outcome → Type 0
IsGood plant d (refused why) = Unit {0}
IsGood plant d (did given after) = IsNext plant d after × IsGiven (acceptance_of given)

with-processes : (plant : List Actuator) (d : Persistent) (ps : List Process) → IsSoundPersistent plant d → length ps ≡ length d.processes →
    map (λ p. p.name) ps ≡ map (λ p. p.name) d.processes → AllByRecursion (IsProcess plant d.now) ps → IsSoundPersistent plant (record d { processes = ps })
with-processes plant d ps sound many names all =
    let after : Persistent = record d { processes = ps } in
    record {
      now = sound.now;
      first = sound.first;
      next = sound.next;
      lease_slots = sound.lease_slots;
      pending_slots = sound.pending_slots;
      slots = sound.slots;
      leases = sound.leases;
      pending = sound.pending;
      numbers = sound.numbers;
      txns = each-map (IsTransaction plant d) (IsTransaction plant after)
          (λ t is. transaction-in plant d after t t.parts is is.given (subst (λ k. t.owner < k) (sym many) is.owner) refl is.parts is.owned is.policies) d.txns sound.txns;
      open_parts = sound.open_parts;
      ended_parts = sound.ended_parts;
      done = sound.done;
      few_done = sound.few_done;
      done_once = sound.done_once;
      done_known = sound.done_known;
      few_processes = subst (λ k. k ≤ most_processes) (sym many) sound.few_processes;
      names = subst DistinctNames (sym names) sound.names;
      processes = all;
    }

with-reply : (plant : List Actuator) (now seq : ℕ) (given : Acceptance) (p : Process) → 1 ≤ seq → seq < last_number → IsAcceptance given → IsProcess plant now p →
    IsProcess plant now (record p { reply = Some (record { seq = seq; acceptance = given }) })
with-reply plant now seq given p some few fits is = record {
  name = is.name;
  count = is.count;
  few = is.few;
  sent = is.sent;
  numbers = is.numbers;
  past = is.past;
  known = is.known;
  words = is.words;
  reply = (some, few, fits);
}

module _ (plant : List Actuator) (d : Persistent) (sound : IsSoundPersistent plant d) where
  replied-next : (owner seq : ℕ) (given : Acceptance) (found : Option Process) → slice_get d.processes owner ≡ found → 1 ≤ seq → seq < last_number → IsAcceptance given →
      IsNext plant d (record d { processes = replied d.processes owner (record { seq = seq; acceptance = given }) found })
  replied-next owner seq given None is some few fits = record { sound = sound; processes = refl }
  replied-next owner seq given (Some p) is some few fits =
      let q : Process = record p { reply = Some (record { seq = seq; acceptance = given }) } in
      let many : length (set d.processes owner q) ≡ length d.processes = length-set d.processes owner q in
      record {
        sound = with-processes plant d (set d.processes owner q) sound many (map-set (λ x. x.name) d.processes owner q p is refl)
            (each-set (IsProcess plant d.now) d.processes owner q (with-reply plant d.now seq given p some few fits (got (IsProcess plant d.now) d.processes owner p is sound.processes)) sound.processes);
        processes = many;
      }

  keep-next : (owner seq : ℕ) (given : Option Acceptance) → 1 ≤ seq → seq < last_number → IsGiven given → IsNext plant d (record d { processes = keep_reply owner seq given d.processes })
  keep-next owner seq None some few fits = record { sound = sound; processes = refl }
  keep-next owner seq (Some given) some few fits = replied-next owner seq given (slice_get d.processes owner) refl some few fits

  found-reply : (owner : ℕ) (found : Option Process) → slice_get d.processes owner ≡ found → IsReply (option_and_then (λ p. p.reply) found)
  found-reply owner None is = tt
  found-reply owner (Some p) is = (got (IsProcess plant d.now) d.processes owner p is sound.processes).reply

  -- the reply that is kept of a process
  pub reply-sound : (owner : ℕ) → IsReply (reply_of d.processes owner)
  reply-sound owner = found-reply owner (slice_get d.processes owner) refl

remembered-good : (plant : List Actuator) (d : Persistent) (owner seq : ℕ) (outcome : Outcome) → 1 ≤ seq → seq < last_number → IsGood plant d outcome → IsGood plant d (remembered owner seq outcome)
remembered-good plant d owner seq (refused why) some few good = tt
remembered-good plant d owner seq (did given after) some few good =
    let kept = keep-next plant after good.0.sound owner seq (acceptance_of given) some few good.1 in
    (record { sound = kept.sound; processes = kept.processes ∙ good.0.processes }, good.1)

-- what is answered again is what was kept
given-back : (given : Acceptance) → IsAcceptance given → IsGiven (acceptance_of (answer_of given))
given-back (acceptance.Accepted txn until) fits = fits
given-back (acceptance.Renewed txn until) fits = fits
given-back (acceptance.Cancelled txn at) fits = fits

pub once-good : (plant : List Actuator) (d : Persistent) (owner seq : ℕ) (outcome : Outcome) → IsSoundPersistent plant d → seq < last_number → IsGood plant d outcome →
    IsGood plant d (once owner seq d outcome)
once-good plant d owner seq outcome sound few good = once-by owner seq d outcome (IsGood plant d)
    (λ _. good)
    (λ some _. remembered-good plant d owner seq outcome some few good)
    (λ reply _ found _. let kept : IsReply (Some reply) = subst IsReply found (reply-sound plant d sound owner) in
    (record { sound = sound; processes = refl }, given-back reply.acceptance kept.2))
    (λ reply _ _ _. tt)

-- ---- the three kinds of requests

unless-good : (plant : List Actuator) (d after : Persistent) (why : Option Refusal) (given : Answer) → (why ≡ None → IsNext plant d after × IsGiven (acceptance_of given)) →
    IsGood plant d (unless why given after)
unless-good plant d after None given good = good refl
unless-good plant d after (Some why) given good = tt

until-found : (n : ℕ) (found : Option Lease) → n ≤ last_moment → ((lease : Lease) → found ≡ Some lease → lease.until ≤ n + longest_lease) → IsWord (option_map_or (λ lease. lease.until) found 0)
until-found n None small soon = omega arith
until-found n (Some lease) small soon = let early : lease.until ≤ n + longest_lease = soon lease refl in omega arith

until-word : (n : ℕ) (leases : List Lease) → n ≤ last_moment → AllByRecursion (λ lease. lease.until ≤ n + longest_lease) leases → IsWord (first_until leases)
until-word n leases small soon = until-found n (least (λ lease. lease.until) leases) small
    (λ lease found. least-of (λ l. l.until ≤ n + longest_lease) (λ l. l.until) leases lease soon found)

-- a transaction that is found has a number that fits
found-number : (next : ℕ) (txns : List Transaction) (txn : ℕ) (t : Transaction) → AllByRecursion (λ u. u.txn < next) txns → transaction_of txns txn ≡ Some t → txn < next
found-number next [] txn t below found = cc
found-number next (u ∷ us) txn t below found =
    let here : u.txn < next = below.0 in
    cond_both (u.txn == txn) (Some u) (find (λ x. x.txn == txn) us) (λ f. f ≡ Some t → txn < next)
    (λ is _. grind (arith, nat_tests)) (λ _ e. found-number next us txn t below.1 e) found

pub own-number : (next : ℕ) (txns : List Transaction) (owner txn : ℕ) (why : Transaction → Option Refusal) (found : Option Transaction) → AllByRecursion (λ u. u.txn < next) txns →
    transaction_of txns txn ≡ found → if_own owner why found ≡ None → txn < next
own-number next txns owner txn why None below is none = cc
own-number next txns owner txn why (Some t) below is none = found-number next txns txn t below is

module _ (plant : List Actuator) (n : ℕ) (d : Persistent) (sound : IsSoundPersistent plant d) (at : IsAt n d) (small : n ≤ last_moment) where
  moment-word : IsWord n
  moment-word = omega arith

  number-word : (txn : ℕ) → txn < d.next → IsWord txn
  number-word txn early = let most : d.next ≤ last_number = sound.next in omega arith

  pub submit-good : (owner : ℕ) (policy : Policy) (writes : List Setting) → 1 ≤ length writes → length writes ≤ most_writes →
      AllByRecursion (λ w. w.point < length plant) writes → owner < length d.processes → IsGood plant d (submit plant owner policy writes n d)
  submit-good owner policy writes some few known held = unless-good plant d (submitted owner policy writes n d) (submit_refused plant writes d)
      (answer.Accepted d.next (first_until (granted owner policy d.next n writes)))
      (λ none. (
        submit-next plant n d sound at small owner policy writes none some few known held,
        (
          (let most : d.next ≤ last_number = sound.next in omega arith),
          until-word n (granted owner policy d.next n writes) small (each-mapped (λ l. l.until ≤ n + longest_lease) (lease_of owner policy d.next n) writes
              (each-map (IsWrite plant) (λ w. (lease_of owner policy d.next n w).until ≤ n + longest_lease) (λ w is. (new-lease plant owner policy d.next n w is).soon)
              writes (submit-not-refused plant writes d none).allowed)),
        ),
      ))

  pub renew-good : (owner txn : ℕ) (asked : ℤ) (points : List ℕ) → IsGood plant d (renew owner txn asked points n d)
  renew-good owner txn asked points =
      let after = renewed txn asked points n d in
      let refuses : Transaction → Option Refusal = λ transaction. first_some (
      option_map refusal.NotInTxn (position (λ point. not (wrote transaction.parts point)) points) ∷
      option_map (ended_at n) (first_some (map (λ part. part.end) (named_parts points transaction.parts))) ∷ []) in
      unless-good plant d after (renew_refused owner txn asked points n d) (answer.Renewed txn (first_until (filter (is_meant txn points) after.leases)))
      (λ none.
      let next = renew-next plant n d sound at small owner txn asked points none in
      let own = none-of-first (cond (is_length asked) None (Some (refusal.BadLease 0))) (if_own owner refuses (transaction_of d.txns txn) ∷ []) none in (
        next,
        (
          number-word txn (own-number d.next d.txns owner txn refuses (transaction_of d.txns txn) (numbers-fit plant d sound) refl
              (none-of-first (if_own owner refuses (transaction_of d.txns txn)) [] own.1).0),
          until-word n (filter (is_meant txn points) after.leases) small (each-filter (λ l. l.until ≤ n + longest_lease) (is_meant txn points) after.leases
              (each-map (IsLease plant n) (λ l. l.until ≤ n + longest_lease) (λ l is. is.soon) after.leases next.sound.leases)),
        ),
      ))

  pub cancel-good : (owner txn : ℕ) → IsGood plant d (cancel owner txn n d)
  cancel-good owner txn =
      let refuses : Transaction → Option Refusal = λ transaction. cond (list_any (is_of txn) d.leases) None (Some (refusal.Over (last_part_end transaction))) in
      unless-good plant d _ (cancel_refused owner txn d) (answer.Cancelled txn n)
      (λ none. (
        cancel-next plant n d sound at small txn,
        (number-word txn (own-number d.next d.txns owner txn refuses (transaction_of d.txns txn) (numbers-fit plant d sound) refl none), moment-word),
      ))

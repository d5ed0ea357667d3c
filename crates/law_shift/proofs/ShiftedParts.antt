-- What a shift makes of leases, reversions, parts and processes.
use Rattle.std.proofs.Common.{◌≡◌, ℕ, ◌+◌, ◌-◌, ◌<◌, ◌≤◌, ◌==◌, ◌^◌, List, [], ◌∷◌, ◌++◌, length, map, Bool, true, ◌&&◌, Option, Some, None, is_none, refl, ap, sym, ◌∙◌, arith}
use Rattle.std.specs.List.{list_any}
use Rattle.std.specs.Option.{option_map}
use Rattle.std.proofs.lemmas.List.{length-map}
use Rattle.std.proofs.lemmas.Bool.Decides.{nat_tests}
use Rattle.boss_model.specs.declared.command.Step.{Step}
use Rattle.boss_model.specs.declared.kept.Acceptance.{Acceptance}
use Rattle.boss_model.specs.declared.kept.Acceptance.TheVariants as acceptance
use Rattle.boss_model.specs.declared.kept.KeptReply.{KeptReply}
use Rattle.boss_model.specs.declared.notice.Notice.{Notice}
use Rattle.boss_model.specs.declared.state.Actuator.{Actuator}
use Rattle.boss_model.specs.declared.state.Lease.{Lease}
use Rattle.boss_model.specs.declared.state.Pending.{Pending}
use Rattle.boss_model.specs.Limits.{longest_lease}
use Rattle.boss_model.specs.Order.{in_order}
use Rattle.boss_model.specs.Records.{End, Part, Transaction}
use Rattle.boss_model.specs.Reversions.{hold, over, end_of, reversion_of, courses}
use Rattle.boss_model.specs.Sound.{NumberedFrom, IsLease, IsPending, IsPast, IsEnd, IsPart, IsAcceptance, IsReply, IsKnown, IsNotice, IsProcess, holds, has_part, is_start}
use Rattle.boss_model.specs.State.{pending_slot, Process}
use Rattle.law_time.proofs.Filters.{each-mapped}
use Rattle.law_time.proofs.Orders.{each-map}
use Rattle.law_shift.specs.Shifted.{shifted_lease, shifted_pending, shifted_end, shifted_part, shifted_txn, shifted_notice, shifted_acceptance, shifted_reply, shifted_process}
use Rattle.law_shift.proofs.Anys.{any-alike, any-weaker, in_order-map}

module _ (by : ℕ) where
  -- ---- leases and reversions

  pub over-back : (start : ℕ) (steps : List Step) → by ≤ start → over (start - by) steps ≡ over start steps - by
  over-back start [] far = refl
  over-back start (step ∷ steps) far =
      let along : (start - by) + hold step ≡ (start + hold step) - by = omega (arith, far) in
      ap (λ s. over s steps) along ∙ over-back (start + hold step) steps (omega (arith, far))

  pub lease-sound : (plant : List Actuator) (now : ℕ) (lease : Lease) → by ≤ now → IsLease plant now lease → IsLease plant (now - by) (shifted_lease by lease)
  lease-sound plant now lease far is =
      let live : now < lease.until = is.live in
      let soon : lease.until ≤ now + longest_lease = is.soon in
      record { fitting = is.fitting; level = is.level; reverting = is.reverting; live = omega arith; soon = omega arith }

  pub pending-sound : (plant : List Actuator) (now : ℕ) (r : Pending) → by ≤ r.start → IsPending plant now r → IsPending plant (now - by) (shifted_pending by r)
  pending-sound plant now r far is =
      let started : r.start ≤ now = is.started in
      let running : now < end_of r = is.running in
      let ends = over-back r.start r.steps far in
      record { level = is.level; steps = is.steps; started = omega arith; running = omega (arith, ends, started, running, far) }

  append-map : {X Y : Type 0} (f : X → Y) (xs ys : List X) → map f (xs ++ ys) ≡ map f xs ++ map f ys
  append-map f [] ys = refl
  append-map f (x ∷ xs) ys = ap (λ zs. f x ∷ zs) (append-map f xs ys)

  turned-map : (leases : List Lease) → map reversion_of (map (shifted_lease by) leases) ≡ map (shifted_pending by) (map reversion_of leases)
  turned-map [] = refl
  turned-map (l ∷ ls) = ap (λ zs. shifted_pending by (reversion_of l) ∷ zs) (turned-map ls)

  pub courses-map : (pending : List Pending) (leases : List Lease) →
      courses (map (shifted_pending by) pending) (map (shifted_lease by) leases) ≡ map (shifted_pending by) (courses pending leases)
  courses-map pending leases = ap (λ ls. in_order pending_slot (map (shifted_pending by) pending ++ ls)) (turned-map leases)
      ∙ ap (in_order pending_slot) (sym (append-map (shifted_pending by) pending (map reversion_of leases)))
      ∙ in_order-map pending_slot (shifted_pending by) (λ r. refl) (pending ++ map reversion_of leases)

  -- ---- parts

  pub holds-map : (leases : List Lease) (txn point priority : ℕ) → holds (map (shifted_lease by) leases) txn point priority ≡ holds leases txn point priority
  holds-map leases txn point priority = any-alike (λ l. (l.txn == txn) && ((l.point == point) && (l.priority == priority)))
      (λ l. (l.txn == txn) && ((l.point == point) && (l.priority == priority))) (shifted_lease by) (λ l. refl) leases

  none-back : (end : Option End) → is_none (option_map (shifted_end by) end) ≡ is_none end
  none-back None = refl
  none-back (Some end) = refl

  past-back : (now : ℕ) (end : Option End) → IsPast now end → IsPast (now - by) (option_map (shifted_end by) end)
  past-back now None past = past
  past-back now (Some end) past = let early : end.at ≤ now = past in omega arith

  why-back : (end : Option End) → IsEnd end → IsEnd (option_map (shifted_end by) end)
  why-back None why = why
  why-back (Some end) why = why

  pub part-sound : (plant : List Actuator) (now txn : ℕ) (leases : List Lease) (part : Part) → IsPart plant now txn leases part →
      IsPart plant (now - by) txn (map (shifted_lease by) leases) (shifted_part by part)
  part-sound plant now txn leases part is = record {
    known = is.known;
    priority = is.priority;
    open_part = none-back part.end ∙ is.open_part ∙ sym (holds-map leases txn part.point part.priority);
    past = past-back now part.end is.past;
    why = why-back part.end is.why;
  }

  pub points-map : (parts : List Part) → map (λ part. part.point) parts ≡ map (λ part. part.point) (map (shifted_part by) parts)
  points-map [] = refl
  points-map (p ∷ ps) = ap (λ points. p.point ∷ points) (points-map ps)

  -- a part that passes still does, where its end passes moved back
  pub has_part-map : (test later : Option End → Bool) → ((end : Option End) → test end ≡ true → later (option_map (shifted_end by) end) ≡ true) →
      (txns : List Transaction) (txn point priority : ℕ) → has_part test txns txn point priority ≡ true → has_part later (map (shifted_txn by) txns) txn point priority ≡ true
  has_part-map test later passes txns txn point priority there = any-weaker
      (λ t. (t.txn == txn) && list_any (λ part. (part.point == point) && ((part.priority == priority) && test part.end)) t.parts)
      (λ t. (t.txn == txn) && list_any (λ part. (part.point == point) && ((part.priority == priority) && later part.end)) t.parts)
      (shifted_txn by)
      (λ t one. let inner = any-weaker (λ part. (part.point == point) && ((part.priority == priority) && test part.end))
      (λ part. (part.point == point) && ((part.priority == priority) && later part.end)) (shifted_part by)
      (λ part here. let on = passes part.end in grind (arith, on)) t.parts in grind (arith, inner))
      txns there

  pub none-passes : (end : Option End) → is_none end ≡ true → is_none (option_map (shifted_end by) end) ≡ true
  none-passes end none = none-back end ∙ none

  pub start-passes : (start : ℕ) (end : Option End) → is_start start end ≡ true → is_start (start - by) (option_map (shifted_end by) end) ≡ true
  start-passes start None one = one
  start-passes start (Some end) one = grind (arith, nat_tests)

  -- ---- processes

  numbered-map : (number : ℕ) (notices : List Notice) → NumberedFrom number notices → NumberedFrom number (map (shifted_notice by) notices)
  numbered-map number [] all = all
  numbered-map number (n ∷ ns) all = (all.0, numbered-map (number + 1) ns all.1)

  acceptance-back : (a : Acceptance) → IsAcceptance a → IsAcceptance (shifted_acceptance by a)
  acceptance-back (acceptance.Accepted txn until) is = let small : until < 2 ^ 64 = is.1 in (is.0, omega arith)
  acceptance-back (acceptance.Renewed txn until) is = let small : until < 2 ^ 64 = is.1 in (is.0, omega arith)
  acceptance-back (acceptance.Cancelled txn at) is = let small : at < 2 ^ 64 = is.1 in (is.0, omega arith)

  reply-back : (reply : Option KeptReply) → IsReply reply → IsReply (option_map (shifted_reply by) reply)
  reply-back None is = is
  reply-back (Some reply) is = (is.0, is.1, acceptance-back reply.acceptance is.2)

  pub process-sound : (plant : List Actuator) (now : ℕ) (p : Process) → IsProcess plant now p → IsProcess plant (now - by) (shifted_process by p)
  process-sound plant now p is =
      let as_many : length (map (shifted_notice by) p.kept) ≡ length p.kept = length-map p.kept (shifted_notice by) in
      record {
        name = is.name;
        count = is.count;
        few = rw as_many is.few;
        sent = rw as_many is.sent;
        numbers = rw as_many (numbered-map (p.count + 1 - length p.kept) p.kept is.numbers);
        past = each-mapped (λ n. n.at ≤ now - by) (shifted_notice by) p.kept (each-map (λ n. n.at ≤ now) (λ n. n.at - by ≤ now - by) (λ n early. omega (arith, early)) p.kept is.past);
        known = each-mapped (λ n. IsKnown (length plant) n.what) (shifted_notice by) p.kept is.known;
        words = each-mapped IsNotice (shifted_notice by) p.kept is.words;
        reply = reply-back p.reply is.reply;
      }

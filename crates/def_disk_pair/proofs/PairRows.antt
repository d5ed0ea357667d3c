-- Small journals, whole, cut, and in pairs, computed from the definitions alone.
use Rattle.std.proofs.Common.{◌≡◌, inl, inr, ℕ, ◌+◌, ◌^◌, ◌<◌, ◌≤◌, pos, true, List, [], ◌∷◌, ◌++◌, length, take, drop, Some, None, refl, sym, ap, ◌∙◌, append_assoc, arith, rules, length-append}
use Rattle.std.specs.Prelude.{codes, replicate, unwrap_or}
use Rattle.std.specs.Int.{w32, to_be_bytes, from_be_bytes}
use Rattle.std.proofs.lemmas.List.{take_at}
use Rattle.std.proofs.lemmas.Nat.{from_be_bytes-to_be_bytes_4}
use Rattle.def_bytes.specs.Fields.{number_text}
use Rattle.boss_model.specs.declared.command.Policy.TheVariants.{Abort}
use Rattle.boss_model.specs.declared.event.Act.TheVariants as act
use Rattle.boss_model.specs.declared.event.Event.{Event}
use Rattle.boss_model.specs.Limits.{last_number, longest_record}
use Rattle.boss_model.specs.Run.{replay_all}
use Rattle.boss_model.specs.Sound.{IsLease, IsPart, IsTransaction, IsProcess, IsSoundPersistent}
use Rattle.boss_model.specs.State.{Persistent, first_persistent}
use Rattle.boss_model.proofs.Building.{building}
use Rattle.def_bytes.specs.Batches.{batch_text}
use Rattle.def_bytes.specs.States.{state}
use Rattle.def_bytes.proofs.Hex.{hex}
use Rattle.def_bytes.proofs.StateRows.{write, one_lease}
use Rattle.def_log.specs.declared.kind.DiskKind.TheVariants.{Other}
use Rattle.def_log.specs.Kinds.{kind_of}
use Rattle.def_log.specs.Log.{framed, spelled}
use Rattle.def_disk_pair.specs.Fronts.{IsPlainFront, kept_front, IsStateFront}
use Rattle.def_seal.specs.Seals.{seed_of}
use Rattle.def_disk_pair.specs.Contents.{record_of, IsNext, IsCourse}
use Rattle.def_disk_pair.specs.Damage.{LeadsNowhere}
use Rattle.def_disk_pair.specs.Pairs.{IsNew, OpensCleanly, DamagedAt}
use Rattle.def_disk_pair.proofs.Disks.{shut_holds, second_written, first_written}
use Rattle.def_disk_pair.proofs.OfKinds.{state_front}
use Rattle.def_disk_pair.proofs.OfRecords.{sealed_batch_short}

-- some digest: the bytes 1 to 32
abbrev digest : List ℕ
digest = hex (codes "0102030405060708 090a0b0c0d0e0f10 1112131415161718 191a1b1c1d1e1f20")

abbrev attach : List Event
attach = record { moment = 0; act = act.Enrol (codes "a") } ∷ []

abbrev submit : List Event
submit = record { moment = 1000; act = act.Submit 0 Abort (write ∷ []) 0 } ∷ []

-- ---- the journal of one attach and one submit: 94 bytes

abbrev header : List ℕ
header = hex (codes "42 4f53534a524e4c 02") ++ digest

abbrev journal : List ℕ
journal = header
    ++ hex (codes "01 0000000b 01 0000000000000000 01 61")
    ++ hex (codes "01 0000001f 02 00000000000003e8 0000 00 01 00000000 000000000000afc8 08 0000ea60 00")
    ++ hex (codes "00")

as_long : length journal ≡ 94
as_long = refl

spelled_so : header ++ (spelled (batch_text attach ∷ batch_text submit ∷ []) ++ 0 ∷ []) ≡ journal
unfolding framed number_text
spelled_so = refl

front : IsPlainFront digest 2 first_persistent 0 header
front = record { first = 66; written = λ no. omega (arith, no); known = (omega arith, omega arith); is = refl; first_state = refl; none_before = refl }

course : IsCourse building digest 2 header first_persistent 0 (attach ∷ submit ∷ []) one_lease
course = record {
  is_front = inl front;
  each = search rules;
  of_version = λ first. absurd (omega (arith, first));
  leads = refl;
}

-- ---- whole: it opens to the state after two events
opens : OpensCleanly building digest one_lease 2 journal []
opens = shut_holds building digest header 2 0 first_persistent (attach ∷ submit ∷ []) one_lease course journal [] 0 (λ no. omega (arith, no)) (inl refl) (sym spelled_so)

-- ---- while a third record is opened, its gate half written: still that state
abbrev tick : List Event
tick = record { moment = 61000; act = act.Tick } ∷ []

abbrev expired : Persistent
expired = unwrap_or (replay_all building one_lease tick) one_lease

third : IsNext building 2 one_lease tick expired
third = record { batch = record { some_event = omega arith; few = omega arith; fitting = search rules }; of_version = λ first. absurd (omega (arith, first)); leads = refl }

half_opened : OpensCleanly building digest one_lease 2
    (header ++ (spelled (batch_text attach ∷ batch_text submit ∷ []) ++ 129 ∷ (framed (batch_text tick) ++ 0 ∷ 7 ∷ []))) []
unfolding framed number_text
half_opened = shut_holds building digest header 2 0 first_persistent (attach ∷ submit ∷ []) one_lease course _ _ 129 (λ no. omega (arith, no)) (inr (tick, expired, 7 ∷ [], third, refl)) refl

-- ---- cut short

attached : replay_all building first_persistent attach ≡ Some (record first_persistent { processes = record { name = codes "a"; count = 0; kept = []; reply = None } ∷ [] })
attached = refl

-- no record with a next gate where there are too few bytes for its length
too_short : (tail r : List ℕ) (size gate : ℕ) (more : List ℕ) → length r ≤ longest_record → size < 2 ^ 32 → take 4 tail ≡ to_be_bytes w32 size →
    length tail ≤ size + 4 → tail ≡ framed r ++ gate ∷ more → ⊥
unfolding framed
too_short tail r size gate more small few sized long is =
    let apart : tail ≡ to_be_bytes w32 (length r) ++ (r ++ gate ∷ more) = is ∙ append_assoc (to_be_bytes w32 (length r)) r (gate ∷ more) in
    let sizes : to_be_bytes w32 size ≡ to_be_bytes w32 (length r) =
    sym sized ∙ ap (take 4) apart ∙ take_at (to_be_bytes w32 (length r)) (r ++ gate ∷ more) 4 refl in
    let same : size ≡ length r = sym (from_be_bytes-to_be_bytes_4 size few) ∙ ap (from_be_bytes w32) sizes ∙ from_be_bytes-to_be_bytes_4 (length r) (omega (arith, small)) in
    let whole : length tail ≡ length (to_be_bytes w32 (length r)) + length (r ++ gate ∷ more) = ap length apart ∙ length-append (to_be_bytes w32 (length r)) (r ++ gate ∷ more) in
    omega (arith, same, whole, long, length-append r (gate ∷ more))

nothing_follows : (version : ℕ) (from : Persistent) (tail : List ℕ) (size : ℕ) → size < 2 ^ 32 → take 4 tail ≡ to_be_bytes w32 size → length tail ≤ size + 4 →
    (front : List ℕ) (place : ℕ) → LeadsNowhere building version front place from tail
nothing_follows version from tail size few sized long front place events after gate more next is =
    too_short tail (record_of version front place events) size gate more (sealed_batch_short version place (seed_of front) events next.batch) few sized long is

-- the last gate is missing: the second record is damaged, at 57
without_last_gate : DamagedAt building digest 57 (take 93 journal) []
unfolding framed number_text
without_last_gate = record {
  version = 2;
  front = header;
  from = first_persistent;
  before = 0;
  batches = attach ∷ [];
  to = _;
  course = record { is_front = inl front; each = search rules; of_version = λ first. absurd (omega (arith, first)); leads = attached };
  tail = drop 58 (take 93 journal);
  is = refl;
  broken = nothing_follows 2 _ (drop 58 (take 93 journal)) 31 (omega arith) refl (omega arith) header 57;
  place_is = refl;
}

-- only the first record is there, without a gate behind it: it is damaged, at 41
without_second_gate : DamagedAt building digest 41 (take 57 journal) []
unfolding framed number_text
without_second_gate = record {
  version = 2;
  front = header;
  from = first_persistent;
  before = 0;
  batches = [];
  to = first_persistent;
  course = record { is_front = inl front; each = tt; of_version = λ first. tt; leads = refl };
  tail = drop 42 (take 57 journal);
  is = refl;
  broken = nothing_follows 2 _ (drop 42 (take 57 journal)) 11 (omega arith) refl (omega arith) header 41;
  place_is = refl;
}

-- nothing behind the first gate, which is open
only_a_gate : DamagedAt building digest 41 (take 42 journal) []
only_a_gate = record {
  version = 2;
  front = header;
  from = first_persistent;
  before = 0;
  batches = [];
  to = first_persistent;
  course = record { is_front = inl front; each = tt; of_version = λ first. tt; leads = refl };
  tail = [];
  is = refl;
  broken = λ events after gate more next is. no_frame (record_of 2 header 41 events) gate more is;
  place_is = refl;
}
  where
    no_frame : (r : List ℕ) (gate : ℕ) (more : List ℕ) → [] ≡ framed r ++ gate ∷ more → ⊥
    no_frame r gate more is = let long : 0 ≡ length (framed r) + length (gate ∷ more) = ap length is ∙ length-append (framed r) (gate ∷ more) in omega (arith, long)

-- 41 bytes are no journal of this program
without_a_gate : kind_of (take 41 journal) ≡ Other
without_a_gate = refl

-- ---- nothing yet

empty : OpensCleanly building digest first_persistent 0 [] []
empty = (inl (omega arith), refl, refl)

-- a journal may have been zeros up to its first gate when a stop came as it was made, and no further
zeros : OpensCleanly building digest first_persistent 0 (replicate 42 0) []
zeros = (inr (replicate 41 0, refl, omega arith), refl, refl)

more_zeros : (d : Persistent) (count : ℕ) → OpensCleanly building digest d count (replicate 43 0) [] → ⊥
more_zeros d count (new, state, none) = by new
  where
    by : IsNew (replicate 43 0) → ⊥
    by (inl short) = omega (arith, short)
    by (inr (rest, is, few)) = omega (arith, few)

-- ---- two kept states

nothing_yet : IsSoundPersistent building first_persistent
nothing_yet = record {
  now = omega arith;
  first = omega arith;
  next = omega arith;
  lease_slots = tt;
  pending_slots = tt;
  slots = tt;
  leases = tt;
  pending = tt;
  numbers = tt;
  txns = tt;
  open_parts = tt;
  ended_parts = tt;
  done = tt;
  few_done = omega arith;
  done_once = tt;
  done_known = tt;
  few_processes = omega arith;
  names = tt;
  processes = tt;
}

a_lease : IsLease building 1000 (record { txn = 1; owner = 0; point = 0; priority = 8; value = pos 45000; until = 61000; revert = []; policy = Abort })
a_lease = record { fitting = refl; level = refl; reverting = refl; live = omega arith; soon = omega arith }

a_part : IsPart building 1000 1 one_lease.leases (record { point = 0; priority = 8; end = None })
a_part = record { known = omega arith; priority = omega arith; open_part = refl; past = tt; why = tt }

a_transaction : IsTransaction building one_lease (record { txn = 1; owner = 0; policy = Abort; parts = record { point = 0; priority = 8; end = None } ∷ [] })
a_transaction = record {
  numbered = omega arith;
  given = omega arith;
  owner = omega arith;
  some_part = omega arith;
  few_parts = omega arith;
  points = (refl, tt);
  parts = (a_part, tt);
  owned = (λ same. refl, tt);
  policies = (λ same. refl, tt);
}

a_process : IsProcess building 1000 (record { name = codes "a"; count = 0; kept = []; reply = None })
a_process = record {
  name = refl;
  count = omega arith;
  few = omega arith;
  sent = omega arith;
  numbers = tt;
  past = tt;
  known = tt;
  words = tt;
  reply = tt;
}

sound : IsSoundPersistent building one_lease
sound = record {
  now = omega arith;
  first = omega arith;
  next = omega arith;
  lease_slots = (tt, tt);
  pending_slots = tt;
  slots = (tt, tt);
  leases = (a_lease, tt);
  pending = tt;
  numbers = (tt, tt);
  txns = (a_transaction, tt);
  open_parts = (refl, tt);
  ended_parts = tt;
  done = (refl, tt);
  few_done = omega arith;
  done_once = tt;
  done_known = tt;
  few_processes = omega arith;
  names = (refl, tt);
  processes = (a_process, tt);
}

-- a disk of version 2 with a kept state of this generation
abbrev kept : ℕ → ℕ → Persistent → List ℕ
kept generation before d = kept_front 66 2 digest generation before ((state 2).text d)

kept_state_front : (generation before : ℕ) (d : Persistent) → generation < 2 ^ 64 → before ≤ last_number → (state 2).fits d ≡ true →
    IsSoundPersistent building d → IsStateFront building digest 2 generation d before (kept generation before d)
kept_state_front generation before d counted few fits are = record {
  first = 66;
  written = λ no. omega (arith, no);
  known = (omega arith, omega arith);
  is = refl;
  counted = counted;
  few = few;
  fits = fits;
  sound = are;
}

-- the second disk follows the first: it is in force, whatever the first one has
follows : OpensCleanly building digest one_lease 2 (kept 3 0 first_persistent ++ 0 ∷ []) (kept 4 2 one_lease ++ 0 ∷ [])
follows = second_written building digest (kept 4 2 one_lease) (kept 3 0 first_persistent ++ 0 ∷ []) 2 4 2 one_lease refl
    (inr (3, state_front building digest refl 2 3 first_persistent 0 (kept 3 0 first_persistent) 0 [] (kept_state_front 3 0 first_persistent (omega arith) (omega arith) refl nothing_yet), omega arith, refl))
    (kept_state_front 4 2 one_lease (omega arith) (omega arith) refl sound)

-- generation 0 follows the last one
goes_round : OpensCleanly building digest one_lease 2 (kept 0 2 one_lease ++ 0 ∷ []) (kept 18446744073709551615 0 first_persistent ++ 0 ∷ [])
goes_round = first_written building digest (kept 0 2 one_lease) (kept 18446744073709551615 0 first_persistent ++ 0 ∷ []) 2 0 2 one_lease refl 18446744073709551615
    (state_front building digest refl 2 18446744073709551615 first_persistent 0 (kept 18446744073709551615 0 first_persistent) 0 [] (kept_state_front 18446744073709551615 0 first_persistent (omega arith) (omega arith) refl nothing_yet))
    (omega arith) refl (kept_state_front 0 2 one_lease (omega arith) (omega arith) refl sound)

-- a journal of the first disk gives way to a kept state of the second
gives_way : OpensCleanly building digest one_lease 2 journal (kept 1 2 one_lease ++ 0 ∷ [])
gives_way = second_written building digest (kept 1 2 one_lease) journal 2 1 2 one_lease refl (inl refl) (kept_state_front 1 2 one_lease (omega arith) (omega arith) refl sound)

-- the header of a kept state, byte for byte
kept_bytes : take 65 (kept 1 2 one_lease) ≡ hex (codes "42 4f5353534e4150 02") ++ digest ++ hex (codes "0000000000000001 0000000000000002 0000000000000060")
unfolding number_text
kept_bytes = refl

-- What a follower makes of lines, computed from the definitions alone.
use Rattle.std.proofs.Common.{◌≡◌, ◌≢◌, ℕ, zero, suc, nat_lt, true, List, [], ◌∷◌, ◌++◌, Some, None, inl, inr, refl, sym, ap, ◌∙◌, arith, append-nil}
use Rattle.std.specs.Fmt.{digits}
use Rattle.std.specs.Prelude.{codes, slice_index_or, Option, take}
use Rattle.std.specs.List.{list_all}
use Rattle.std.proofs.lemmas.Bool.{ltb-true, and_parts}
use Rattle.hex.specs.Hex.{encode_with}
use Rattle.boss_model.specs.declared.event.Event.{Event}
use Rattle.boss_model.specs.Acts.{replay}
use Rattle.boss_model.specs.Sound.{IsSoundPersistent}
use Rattle.boss_model.specs.State.{Persistent, first_persistent}
use Rattle.boss_model.proofs.Building.{building}
use Rattle.def_bytes.specs.Events.{event}
use Rattle.def_bytes.specs.Exact.{IsBytes}
use Rattle.def_bytes.specs.Fields.{number_text, number_at}
use Rattle.def_bytes.specs.States.{state}
use Rattle.def_bytes.proofs.Exact.{one-spelling}
use Rattle.def_bytes.proofs.OfEvents.{event_spelled}
use Rattle.def_bytes.proofs.StateRows.{one_lease}
use Rattle.def_feed.specs.Items.{StateLine, PartLine, EventLine, item_text, IsItem, Reads}
use Rattle.def_feed.specs.Followers.{Passing, Taking, between, IsEvent, Through, TooLong, BadLine, Late, Follows}
use Rattle.def_feed.proofs.FeedRows.{enrolled, submitted, ticked, first_line, second_line, third_line, state_line_2, state_part, zeros}

-- ---- bytes, and lines of none

bytes_if : (bytes : List ℕ) → list_all (λ b. nat_lt b 256) bytes ≡ true → IsBytes bytes
bytes_if [] all i = omega arith
bytes_if (b ∷ bytes) all zero = ltb-true b 256 (and_parts (nat_lt b 256) (list_all (λ b. nat_lt b 256) bytes) all).0
bytes_if (b ∷ bytes) all (suc i) = bytes_if bytes (and_parts (nat_lt b 256) (list_all (λ b. nat_lt b 256) bytes) all).1 i

-- a text that begins as an event's line does, but has no blank behind the word
no_event_line : (line : List ℕ) → slice_index_or line 0 0 ≡ 101 → slice_index_or line 5 0 ≢ 32 → Reads line None
no_event_line line first sixth (StateLine number size) is spelled = let e : slice_index_or line 0 0 ≡ 115 = ap (λ xs. slice_index_or xs 0 0) spelled in absurd (omega arith)
no_event_line line first sixth (PartLine bytes) is spelled = let e : slice_index_or line 0 0 ≡ 112 = ap (λ xs. slice_index_or xs 0 0) spelled in absurd (omega arith)
no_event_line line first sixth (EventLine number bytes) is spelled = absurd (sixth (ap (λ xs. slice_index_or xs 5 0) spelled))

-- bytes that no event is spelled by
no_event : (bytes : List ℕ) → event.at bytes ≡ None → (e : Event) → event.fits e ≡ true → bytes ≡ event.text e → ⊥
no_event bytes none e fits spelled =
    let read : event.at bytes ≡ Some (e, []) = ap event.at spelled ∙ ap event.at (sym (append-nil (event.text e))) ∙ event_spelled.exact.again e [] fits in
    let no : ◌≡◌ {A = Option (Event × List ℕ)} None (Some (e, [])) = sym none ∙ read in cc

-- an event that does nothing
no_effect : (e : Event) (from : Persistent) → event.fits e ≡ true → replay building e from ≡ None → (d : Persistent) → IsEvent building from (event.text e) d → ⊥
no_effect e from fits none d is =
    let same : is.made ≡ e = (one-spelling event event_spelled.exact is.made e [] [] is.fits fits (ap (λ t. t ++ []) (sym is.spelled))).0 in
    let no : ◌≡◌ {A = Option Persistent} None (Some d) = sym none ∙ ap (λ x. replay building x from) (sym same) ∙ is.leads in cc

-- ---- the feed of a journal with two events

abbrev first_bytes : List ℕ
first_bytes = event.text enrolled

abbrev second_bytes : List ℕ
second_bytes = event.text submitted

first_is : IsItem (EventLine 1 first_bytes)
unfolding number_text
first_is = (omega arith, (bytes_if first_bytes refl, omega arith))

second_is : IsItem (EventLine 2 second_bytes)
unfolding number_text
second_is = (omega arith, (bytes_if second_bytes refl, omega arith))

abbrev after_one : Persistent
after_one = record first_persistent { processes = record { name = codes "a"; count = 0; kept = []; reply = None } ∷ [] }

both_events : Follows building (between first_persistent 0) 1 (first_line ∷ second_line ∷ []) (Through (between one_lease 2))
unfolding digits encode_with number_text
both_events = (
  Some (EventLine 1 first_bytes),
  (first_is, refl),
  inl (
    after_one,
    record { made = enrolled; fits = refl; spelled = refl; leads = refl },
    (
      Some (EventLine 2 second_bytes),
      (second_is, refl),
      inl (one_lease, record { made = submitted; fits = refl; spelled = refl; leads = refl }, refl),
    ),
  ),
)

-- the same once more: both are known
once_more : Follows building (between one_lease 2) 1 (first_line ∷ second_line ∷ []) (Through (between one_lease 2))
unfolding digits encode_with number_text
once_more = (Some (EventLine 1 first_bytes), (first_is, refl), (Some (EventLine 2 second_bytes), (second_is, refl), refl))

-- the second event without the first
a_gap : Follows building (between first_persistent 0) 1 (second_line ∷ []) (Late 0 2 (between first_persistent 0))
unfolding digits encode_with number_text
a_gap = (Some (EventLine 2 second_bytes), (second_is, refl), refl)

-- a byte that is no event
no_such_event : Follows building (between first_persistent 0) 1 (codes "event 1 00" ∷ []) (BadLine 1 (between first_persistent 0))
unfolding digits encode_with number_at
no_such_event = (
  Some (EventLine 1 (0 ∷ [])),
  ((omega arith, (bytes_if (0 ∷ []) refl, omega arith)), refl),
  inr (λ d is. no_event (0 ∷ []) refl is.made is.fits is.spelled, refl),
)

-- it is not judged where the event is known
no_matter : Follows building (between one_lease 2) 1 (codes "event 1 00" ∷ []) (Through (between one_lease 2))
unfolding digits encode_with
no_matter = (Some (EventLine 1 (0 ∷ [])), ((omega arith, (bytes_if (0 ∷ []) refl, omega arith)), refl), refl)

-- an event that changes nothing: its number is next, but the name is known
not_effective : Follows building (between after_one 1) 1 (codes "event 2 0100000000000000000161" ∷ []) (BadLine 1 (between after_one 1))
unfolding digits encode_with number_text
not_effective = (
  Some (EventLine 2 first_bytes),
  ((omega arith, (bytes_if first_bytes refl, omega arith)), refl),
  inr (no_effect enrolled after_one refl refl, refl),
)

-- ---- lines that are none, blank lines, and one that is too long

another_word : Follows building (between first_persistent 0) 7 (codes "events 2" ∷ []) (BadLine 7 (between first_persistent 0))
another_word = (None, no_event_line (codes "events 2") refl (λ is. absurd (omega arith)), refl)

blank_lines : Follows building (between first_persistent 0) 1 ([] ∷ (32 ∷ 9 ∷ 13 ∷ []) ∷ second_line ∷ []) (Late 0 2 (between first_persistent 0))
unfolding digits encode_with number_text
blank_lines = (Some (EventLine 2 second_bytes), (second_is, refl), refl)

too_long : Follows building (between first_persistent 0) 1 (zeros 65536 ∷ []) (TooLong (between first_persistent 0))
too_long = refl

-- ---- a state

abbrev state_bytes : List ℕ
state_bytes = (state 2).text one_lease

state_is : IsItem (StateLine 2 96)
state_is = (omega arith, omega arith)

part_is : IsItem (PartLine state_bytes)
unfolding number_text
part_is = (bytes_if state_bytes refl, omega arith)

-- where fewer events are known it is taken with its last part
taken : IsSoundPersistent building one_lease → Follows building (between first_persistent 0) 1 (state_line_2 ∷ state_part ∷ []) (Through (between one_lease 2))
unfolding digits encode_with number_text
taken sound = (
  Some (StateLine 2 96),
  (state_is, refl),
  (
    Some (PartLine state_bytes),
    (part_is, refl),
    inl (one_lease, record { fits = refl; spelled = refl; sound = sound }, refl),
  ),
)

-- and not before it
half_taken : Follows building (between first_persistent 0) 1 (state_line_2 ∷ []) (Through (record { lasting = first_persistent; count = 0; place = Taking 2 96 [] }))
unfolding digits
half_taken = (Some (StateLine 2 96), (state_is, refl), refl)

-- where as many are known it is passed over
passed : Follows building (between one_lease 2) 1 (state_line_2 ∷ state_part ∷ []) (Through (between one_lease 2))
unfolding digits encode_with number_text
passed = (Some (StateLine 2 96), (state_is, refl), (Some (PartLine state_bytes), (part_is, refl), refl))

-- a part with a byte less than is due, and with one more
abbrev short_bytes : List ℕ
short_bytes = take 95 state_bytes

short_is : IsItem (PartLine short_bytes)
unfolding number_text
short_is = (bytes_if short_bytes refl, omega arith)

long_is : IsItem (PartLine (0 ∷ state_bytes))
unfolding number_text
long_is = (bytes_if (0 ∷ state_bytes) refl, omega arith)

a_short_part : Follows building (between first_persistent 0) 1 (state_line_2 ∷ item_text (PartLine short_bytes) ∷ [])
    (BadLine 2 (record { lasting = first_persistent; count = 0; place = Taking 2 96 [] }))
unfolding digits encode_with number_text
a_short_part = (Some (StateLine 2 96), (state_is, refl), (Some (PartLine short_bytes), (short_is, refl), refl))

a_long_part : Follows building (between first_persistent 0) 1 (state_line_2 ∷ item_text (PartLine (0 ∷ state_bytes)) ∷ [])
    (BadLine 2 (record { lasting = first_persistent; count = 0; place = Taking 2 96 [] }))
unfolding digits encode_with number_text
a_long_part = (Some (StateLine 2 96), (state_is, refl), (Some (PartLine (0 ∷ state_bytes)), (long_is, refl), refl))

-- so it is for a state that is passed over
a_short_part_passed : Follows building (between one_lease 2) 1 (state_line_2 ∷ item_text (PartLine short_bytes) ∷ [])
    (BadLine 2 (record { lasting = one_lease; count = 2; place = Passing 96 }))
unfolding digits encode_with number_text
a_short_part_passed = (Some (StateLine 2 96), (state_is, refl), (Some (PartLine short_bytes), (short_is, refl), refl))

-- ---- lines out of place

a_part_alone : Follows building (between one_lease 2) 1 (state_part ∷ []) (BadLine 1 (between one_lease 2))
unfolding encode_with number_text
a_part_alone = (Some (PartLine state_bytes), (part_is, refl), refl)

an_event_inside : Follows building (between one_lease 2) 1 (state_line_2 ∷ third_line ∷ []) (BadLine 2 (record { lasting = one_lease; count = 2; place = Passing 96 }))
unfolding digits encode_with number_text
an_event_inside = (Some (StateLine 2 96), (state_is, refl), (Some (EventLine 3 (event.text ticked)), ((omega arith, (bytes_if (event.text ticked) refl, omega arith)), refl), refl))

-- a state that no number counts, and one that is too large
beyond_numbers : Follows building (between one_lease 2) 1 (codes "state 4611686018427387905 96" ∷ []) (BadLine 1 (between one_lease 2))
unfolding digits
beyond_numbers = (Some (StateLine 4611686018427387905 96), ((omega arith, omega arith), refl), refl)

beyond_size : Follows building (between one_lease 2) 1 (codes "state 2 134217729" ∷ []) (BadLine 1 (between one_lease 2))
unfolding digits
beyond_size = (Some (StateLine 2 134217729), ((omega arith, omega arith), refl), refl)

-- a state without bytes is passed over with its own line
no_bytes_passed : Follows building (between one_lease 2) 1 (codes "state 2 0" ∷ []) (Through (between one_lease 2))
unfolding digits
no_bytes_passed = (Some (StateLine 2 0), ((omega arith, omega arith), refl), refl)

-- Bytes that are an event or a state, to the last of them.
use Rattle.std.proofs.Common.{◌≡◌, ◌≢◌, ℕ, List, [], ◌++◌, length, take, Option, Some, None, true, sym, ap, ◌∙◌, append-nil, arith}
use Rattle.std.proofs.lemmas.List.{take_all}
use Rattle.boss_model.specs.declared.event.Event.{Event}
use Rattle.boss_model.specs.State.{Persistent}
use Rattle.def_bytes.specs.Events.{event}
use Rattle.def_bytes.specs.States.{state}
use Rattle.def_bytes.proofs.Exact.{one-spelling}
use Rattle.def_bytes.proofs.OfEvents.{event_spelled}
use Rattle.def_bytes.proofs.OfStates.{state_spelled}

-- what a reader found of the front of bytes is all of them
pub whole-event : (bytes : List ℕ) (e : Event) (size : ℕ) → size ≡ length bytes → take size bytes ≡ event.text e → bytes ≡ event.text e
whole-event bytes e size all is = sym (ap (λ n. take n bytes) all ∙ take_all (length bytes) bytes (omega arith)) ∙ is

-- bytes that are an event are read as it, to their end
pub read-whole : (bytes : List ℕ) (e : Event) (read : Option (Event × ℕ)) →
    ((rest : List ℕ) → bytes ≡ event.text e ++ rest → read ≡ Some (e, length (event.text e))) → bytes ≡ event.text e → read ≡ Some (e, length bytes)
read-whole bytes e read only is = only [] (is ∙ sym (append-nil (event.text e))) ∙ ap (λ (b : List ℕ). Some (e, length b)) (sym is)

-- bytes are of one event, and of one state
pub one-made : (e other : Event) (bytes : List ℕ) → event.fits e ≡ true → event.fits other ≡ true → bytes ≡ event.text e → bytes ≡ event.text other → e ≡ other
one-made e other bytes fits also is same = (one-spelling event event_spelled.exact e other [] [] fits also (ap (λ t. t ++ []) (sym is ∙ same))).0

pub one-kept : (d other : Persistent) (bytes : List ℕ) → (state 2).fits d ≡ true → (state 2).fits other ≡ true → bytes ≡ (state 2).text d → bytes ≡ (state 2).text other → d ≡ other
one-kept d other bytes fits also is same = (one-spelling (state 2) (state_spelled 2).exact d other [] [] fits also (ap (λ t. t ++ []) (sym is ∙ same))).0

size_in : Option (Event × ℕ) → ℕ
size_in None = 0
size_in (Some read) = read.1

-- what was read is not all of the bytes, or nothing: then they are no event
pub no-other-size : (bytes : List ℕ) (read : Option (Event × ℕ)) (made e : Event) (size : ℕ) → read ≡ Some (made, size) → size ≢ length bytes →
    ((rest : List ℕ) → bytes ≡ event.text e ++ rest → read ≡ Some (e, length (event.text e))) → bytes ≡ event.text e → ⊥
unfolding size_in
no-other-size bytes read made e size found other only is =
    other (ap size_in (sym found ∙ read-whole bytes e read only is))

pub no-event : (bytes : List ℕ) (read : Option (Event × ℕ)) (e : Event) → read ≡ None → ((rest : List ℕ) → bytes ≡ event.text e ++ rest → read ≡ Some (e, length (event.text e))) →
    bytes ≡ event.text e → ⊥
no-event bytes read e none only is = let both : ◌≡◌ {A = Option (Event × ℕ)} None (Some (e, length bytes)) = sym none ∙ read-whole bytes e read only is in absurd cc

-- Source: ASHRAE 135, clauses 20.1.4 to 20.1.9 (the PDUs of answers), 18 (errors, rejects and aborts), 6.2 (the network layer), annex J.2.
-- How what was asked fares, by the datagrams that were heard.
use Rattle.std.specs.Prelude.{◌≡◌, ℕ, ◌+◌, ◌/◌, nat_eq, Bool, true, false, ◌&&◌, if◌then◌else◌, List, [], ◌∷◌, ◌++◌, length, take, drop, bytes_eq, slice_get, unwrap_or, Option, Some, None}
use Rattle.std.specs.Option.{option_and_then}
use Rattle.std.specs.Int.{to_be_bytes, w16}
use Rattle.boss_bacnet.specs.declared.asked.Asked.{Asked}
use Rattle.boss_model.specs.declared.places.Object.{Object}
use Rattle.boss_model.specs.declared.places.Station.{Station}
use Rattle.boss_bacnet.specs.declared.asked.What.{What}
use Rattle.boss_bacnet.specs.declared.asked.What.TheVariants.{Write, Check}
use Rattle.boss_bacnet.specs.declared.fate.Fate.{Fate}
use Rattle.boss_bacnet.specs.declared.fate.Fate.TheVariants as fate
use Rattle.boss_bacnet.specs.Frames.{from_whom, service, simple_ack, read_head, read_ack}

-- a byte of a datagram; 256, which is none, where it has no byte there
abbrev pub byte : List ℕ → ℕ → ℕ
byte bytes at = unwrap_or (slice_get bytes at) 256

-- ---- the message of a datagram

-- the control of the network layer of an answer: it tells its sender exactly where that is behind a router; its three last bits are
-- its priority and that it expects an answer
abbrev pub control_group : Option Station → ℕ
control_group None = 0
control_group (Some remote) = 1

-- BACnet/IP to one address, of its own length, and a message from this sender
abbrev pub is_from : Option Station → List ℕ → Bool
is_from remote bytes = bytes_eq (take 4 bytes) (129 ∷ 10 ∷ to_be_bytes w16 (length bytes)) && (nat_eq (byte bytes 4) 1
    && (nat_eq (byte bytes 5 / 8) (control_group remote) && bytes_eq (take (length (from_whom remote)) (drop 6 bytes)) (from_whom remote)))

abbrev pub message_in : Option Station → List ℕ → Option (List ℕ)
message_in remote bytes = if is_from remote bytes then Some (drop (length (from_whom remote)) (drop 6 bytes)) else None

-- ---- what a message says of what was asked

-- the class and the code of an error, where each is one byte, and 256 where they are not told so
abbrev pub told_at : ℕ → List ℕ → ℕ
told_at at message = if nat_eq (byte message at) 145 then byte message (at + 1) else 256

-- an error of this service, a reject, or an abort by whichever side
abbrev pub refusal_of : ℕ → What → List ℕ → Option Fate
refusal_of id what message =
    if bytes_eq (take 3 message) (80 ∷ id ∷ service what ∷ []) then Some (fate.Error (told_at 3 message) (told_at 5 message)) else
    (if bytes_eq (take 2 message) (96 ∷ id ∷ []) then Some (fate.Reject (byte message 2)) else
    (if bytes_eq (take 2 message) (112 ∷ id ∷ []) then Some (fate.Abort (byte message 2)) else
    (if bytes_eq (take 2 message) (113 ∷ id ∷ []) then Some (fate.Abort (byte message 2)) else None)))

-- what else a write or a check is answered
abbrev pub judged_message : ℕ → Object → What → List ℕ → Option Fate
judged_message id object (Write value level) message =
    if bytes_eq message (simple_ack id) then Some fate.Taken else refusal_of id (Write value level) message
judged_message id object (Check value) message =
    if bytes_eq message (read_ack id object value) then Some fate.Has else
    (if bytes_eq (take 10 message) (read_head id object) then Some fate.HasOther else refusal_of id (Check value) message)

-- none where the datagram is no answer to what was asked: it is passed over
abbrev pub judged : ℕ → Asked → List ℕ → Option Fate
judged id asked bytes = option_and_then (judged_message id asked.object asked.what) (message_in asked.remote bytes)

-- ---- what came of some datagrams

abbrev pub AllPassed : ℕ → Asked → List (List ℕ) → Type 0
AllPassed id asked [] = Unit {0}
AllPassed id asked (bytes ∷ more) = (judged id asked bytes ≡ None) × AllPassed id asked more

-- what a datagram may say
abbrev pub is_answer : Fate → Bool
is_answer fate.Taken = true
is_answer fate.Has = true
is_answer fate.HasOther = true
is_answer (fate.Error class code) = true
is_answer (fate.Reject reason) = true
is_answer (fate.Abort reason) = true
is_answer fate.None = false
is_answer fate.Silent = false
is_answer fate.LinkFault = false
is_answer fate.NoPlace = false

-- the last of them is the first that is an answer, and says this
pub record IsAnswered (id : ℕ) (asked : Asked) (heard : List (List ℕ)) (end : Fate) : Type 0 where
  pub before : List (List ℕ)
  pub last : List ℕ
  pub heard_is : heard ≡ before ++ last ∷ []
  pub passed : AllPassed id asked before
  pub judged_is : judged id asked last ≡ Some end

abbrev pub FaredBy : Bool → ℕ → Asked → List (List ℕ) → Fate → Type 0
FaredBy true id asked heard end = IsAnswered id asked heard end
FaredBy false id asked heard end = AllPassed id asked heard

-- how it fared: by an answer, or without one
abbrev pub Fared : ℕ → Asked → List (List ℕ) → Fate → Type 0
Fared id asked heard end = FaredBy (is_answer end) id asked heard end

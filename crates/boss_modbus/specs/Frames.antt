-- Source: MODBUS Messaging on TCP/IP 1.0b, section 3.1.3; MODBUS Application Protocol 1.1b3, sections 6.1, 6.3, 6.5, 6.6, 6.11, 6.12 and 7.
-- Frames of Modbus over TCP that write or ask for what a unit has, and those that answer them.
use Rattle.std.specs.Prelude.{ℕ, Bool, true, false, ◌+◌, ◌*◌, if◌then◌else◌, List, [], ◌∷◌, ◌++◌, length, bytes_eq}
use Rattle.std.specs.Int.{to_be_bytes, w16}
use Rattle.boss_numbers.specs.declared.registers.Words.{Words}
use Rattle.boss_numbers.specs.declared.registers.Words.TheVariants.{One, Two}
use Rattle.boss_modbus.specs.declared.request.Asked.{Asked}
use Rattle.boss_modbus.specs.declared.request.Request.{Request}
use Rattle.boss_modbus.specs.declared.request.Request.TheVariants.{WriteCoil, WriteRegister, WriteCoils, WriteRegisters, CheckCoil, CheckRegisters}

-- each register with its high byte first
abbrev pub words_bytes : Words → List ℕ
words_bytes (One word) = to_be_bytes w16 word
words_bytes (Two first second) = to_be_bytes w16 first ++ to_be_bytes w16 second

abbrev pub count : Words → ℕ
count (One word) = 1
count (Two first second) = 2

-- the number of the function
abbrev pub function_code : Request → ℕ
function_code (WriteCoil address on) = 5
function_code (WriteRegister address word) = 6
function_code (WriteCoils address on) = 15
function_code (WriteRegisters address words) = 16
function_code (CheckCoil address on) = 1
function_code (CheckRegisters address words) = 3

-- it is asked what it has
abbrev pub is_check : Request → Bool
is_check (WriteCoil address on) = false
is_check (WriteRegister address word) = false
is_check (WriteCoils address on) = false
is_check (WriteRegisters address words) = false
is_check (CheckCoil address on) = true
is_check (CheckRegisters address words) = true

-- behind the unit and the function: what is asked. Of several it has how many there are, and how many bytes they have
abbrev pub asked_bytes : Request → List ℕ
asked_bytes (WriteCoil address on) = to_be_bytes w16 address ++ (if on then 255 else 0) ∷ 0 ∷ []
asked_bytes (WriteRegister address word) = to_be_bytes w16 address ++ to_be_bytes w16 word
asked_bytes (WriteCoils address on) = to_be_bytes w16 address ++ 0 ∷ 1 ∷ 1 ∷ (if on then 1 else 0) ∷ []
asked_bytes (WriteRegisters address words) = to_be_bytes w16 address ++ 0 ∷ count words ∷ (2 * count words) ∷ words_bytes words
asked_bytes (CheckCoil address on) = to_be_bytes w16 address ++ 0 ∷ 1 ∷ []
asked_bytes (CheckRegisters address words) = to_be_bytes w16 address ++ 0 ∷ count words ∷ []

-- and what is answered where it was written: of one the same, of several how many there are; and where it has this value: how many bytes, and
-- these
abbrev pub answered_bytes : Request → List ℕ
answered_bytes (WriteCoil address on) = to_be_bytes w16 address ++ (if on then 255 else 0) ∷ 0 ∷ []
answered_bytes (WriteRegister address word) = to_be_bytes w16 address ++ to_be_bytes w16 word
answered_bytes (WriteCoils address on) = to_be_bytes w16 address ++ 0 ∷ 1 ∷ []
answered_bytes (WriteRegisters address words) = to_be_bytes w16 address ++ 0 ∷ count words ∷ []
answered_bytes (CheckCoil address on) = 1 ∷ (if on then 1 else 0) ∷ []
answered_bytes (CheckRegisters address words) = (2 * count words) ∷ words_bytes words

-- what a frame begins with: the number of the transaction, the protocol, which is 0, and how many bytes follow
abbrev pub header : ℕ → ℕ → List ℕ
header number size = to_be_bytes w16 number ++ 0 ∷ 0 ∷ 0 ∷ size ∷ []

-- the frame that asks
abbrev pub frame : ℕ → Asked → List ℕ
frame number asked = header number (2 + length (asked_bytes asked.request)) ++ asked.unit ∷ function_code asked.request ∷ asked_bytes asked.request

-- how many bytes of the answer follow its header
abbrev pub answer_size : Request → ℕ
answer_size request = 2 + length (answered_bytes request)

-- the frame that answers where it was written, or where the unit has the value
abbrev pub answer : ℕ → Asked → List ℕ
answer number asked = header number (answer_size asked.request) ++ asked.unit ∷ function_code asked.request ∷ answered_bytes asked.request

-- the frame that refuses
abbrev pub exception : ℕ → Asked → ℕ → List ℕ
exception number asked code = header number 3 ++ asked.unit ∷ (function_code asked.request + 128) ∷ code ∷ []

-- how many bytes a response has, by its first six: as the header of an answer of this size or of a refusal says, or no more where they are
-- neither
abbrev pub response_length : ℕ → ℕ → List ℕ → ℕ
response_length number size first =
    if bytes_eq first (header number size) then 6 + size else (if bytes_eq first (header number 3) then 9 else 6)

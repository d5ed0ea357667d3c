-- Source: MODBUS Application Protocol 1.1b3, sections 6.1, 6.3, 6.5, 6.6, 6.11, 6.12 (the answer) and 7 (the exception); how ends are told
-- apart own.
-- How what was asked fares, by the bytes that were received after it.
use Rattle.std.specs.Prelude.{◌≡◌, ◌≢◌, ℕ, ◌+◌, ◌<◌, ◌≤◌, nat_eq, Bool, true, false, ◌&&◌, if◌then◌else◌, List, [], length, take, bytes_eq, slice_get, unwrap_or, Result, Ok, Err}
use Rattle.boss_outside.specs.Counts.{Rose}
use Rattle.boss_outside.specs.declared.source.Got.{Got}
use Rattle.boss_outside.specs.declared.source.Got.TheVariants as got
use Rattle.boss_modbus.specs.declared.request.Asked.{Asked}
use Rattle.boss_modbus.specs.declared.fate.Fate.{Fate}
use Rattle.boss_modbus.specs.declared.fate.Fate.TheVariants.{None, Taken, Has, HasOther, Exception, Wrong, Ended, LinkFault, NoPlace}
use Rattle.boss_modbus.specs.declared.response.Filled.{Filled}
use Rattle.boss_modbus.specs.declared.response.Filled.TheVariants.{Whole, Finished, Failed}
use Rattle.boss_modbus.specs.Frames.{answer, answer_size, exception, is_check, response_length}

-- how many bytes a response to this has, by the first six of it
abbrev pub length_of : ℕ → Asked → List ℕ → ℕ
length_of number asked response = response_length number (answer_size asked.request) (take 6 response)

-- an answer to a check that has as many bytes as the one with the value, and is the same up to the value, which follows nine bytes
abbrev pub is_other : ℕ → Asked → List ℕ → Bool
is_other number asked response =
    is_check asked.request
    && (nat_eq (length response) (length (answer number asked)) && bytes_eq (take 9 response) (take 9 (answer number asked)))

-- what each end says of the bytes that were received, and of those that are left. No two ends fit the same bytes, but for Ended and LinkFault, which the count of the link parts.
abbrev pub Fared : ℕ → Asked → List ℕ → List ℕ → Fate → Type 0
Fared number asked response left Taken = (response ≡ answer number asked) × (is_check asked.request ≡ false)
Fared number asked response left Has = (response ≡ answer number asked) × (is_check asked.request ≡ true)
Fared number asked response left HasOther = (response ≢ answer number asked) × (is_other number asked response ≡ true)
Fared number asked response left (Exception code) = response ≡ exception number asked code
Fared number asked response left Wrong =
    (length response ≡ length_of number asked response)
    × (response ≢ answer number asked)
    × (is_other number asked response ≡ false)
    × ((code : ℕ) → response ≢ exception number asked code)
Fared number asked response left Ended = (length response < length_of number asked response) × (left ≡ [])
Fared number asked response left LinkFault = length response < length_of number asked response
Fared number asked response left None = ⊥
Fared number asked response left NoPlace = ⊥

-- a response that is not the answer, with what stands last in one of nine bytes
abbrev pub refused : ℕ → Asked → List ℕ → ℕ → Fate
refused number asked response code =
    if bytes_eq response (exception number asked code) then Exception code else (if is_other number asked response then HasOther else Wrong)

-- a response that came whole
abbrev pub judged : ℕ → Asked → List ℕ → Fate
judged number asked response =
    if bytes_eq response (answer number asked) then (if is_check asked.request then Has else Taken) else refused number asked response (unwrap_or (slice_get response 8) 0)

-- how far a response came: whole, or its source came to an end or failed before
abbrev pub Came : ℕ → ℕ → List ℕ → Filled → Type 0
Came number size response Whole = length response ≡ response_length number size (take 6 response)
Came number size response Finished = length response < response_length number size (take 6 response)
Came number size response Failed = length response < response_length number size (take 6 response)

-- how many of the bytes that are wanted are there
abbrev pub Fills : ℕ → ℕ → Filled → Type 0
Fills wanted count Whole = count ≡ wanted
Fills wanted count Finished = count < wanted
Fills wanted count Failed = count < wanted

-- a receive adds its bytes, one at least, or none
abbrev pub Grows : ℕ → ℕ → Got → Type 0
Grows before now (got.Bytes count) = (1 ≤ count) × (now ≡ before + count)
Grows before now got.Finish = now ≡ before
Grows before now got.Failed = now ≡ before

-- the count of a link rose exactly where it failed
abbrev pub FillCause : ℕ → ℕ → Filled → Type 0
FillCause before now Whole = now ≡ before
FillCause before now Finished = now ≡ before
FillCause before now Failed = Rose before now

-- the count of a link rose exactly where it came to a fault of the link
pub record FateCause (before now : ℕ) (end : Fate) : Type 0 where
  pub failed : end ≡ LinkFault → Rose before now
  pub fine : end ≢ LinkFault → now ≡ before

-- whether the connection is kept for what is asked next
abbrev pub goes_on : Fate → Bool
goes_on Taken = true
goes_on Has = true
goes_on HasOther = true
goes_on (Exception _) = true
goes_on Wrong = false
goes_on Ended = false
goes_on LinkFault = false
goes_on None = false
goes_on NoPlace = false

-- the device acknowledged a write
abbrev pub is_taken : Fate → Bool
is_taken Taken = true
is_taken other = false

-- a write is answered Ok exactly where the device answered that it was written
abbrev pub Answers : {T E : Type 0} → Fate → Result T E → Type 0
Answers end (Ok _) = end ≡ Taken
Answers end (Err _) = end ≢ Taken

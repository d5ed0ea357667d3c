use Rattle.std.proofs.Common.{◌≡◌, ℕ, ◌+◌, ◌≤◌, ◌<◌, Bool, true, false, cond, List, length, take, sym, ap, ◌∙◌, refl, arith, subst}
use Rattle.std.specs.Str.{bytes_eq}
use Rattle.std.specs.Prelude.{slice_get, unwrap_or}
use Rattle.std.proofs.lemmas.Bool.{false≢true}
use Rattle.std.proofs.lemmas.Slice.Eq.{bytes_eq-Decides}
use Rattle.boss_modbus.specs.declared.request.Asked.{Asked}
use Rattle.boss_modbus.specs.declared.fate.Fate.TheVariants.{Taken, Has, HasOther, Exception, Wrong, LinkFault}
use Rattle.boss_modbus.specs.declared.response.Filled.{Filled}
use Rattle.boss_modbus.specs.declared.response.Filled.TheVariants.{Whole, Finished, Failed}
use Rattle.boss_modbus.specs.Fates.{Fared, Came, Fills, FillCause, is_other, length_of, refused, judged}
use Rattle.boss_modbus.specs.Frames.{header, answer, answer_size, exception, is_check, response_length}

-- a response has six bytes at least
pub six-at-least : (number size : ℕ) (first : List ℕ) → 6 ≤ response_length number size first
six-at-least number size first = go (bytes_eq first (header number size)) (bytes_eq first (header number 3))
  where
    go : (a b : Bool) → 6 ≤ cond a (6 + size) (cond b 9 6)
    go true b = omega arith
    go false true = omega arith
    go false false = omega arith

-- fewer than six bytes are no whole response
pub too_soon : (number size : ℕ) (response : List ℕ) → length response < 6 → length response < response_length number size (take 6 response)
too_soon number size response short = omega (arith, six-at-least number size (take 6 response))

pub too_short : (number : ℕ) (asked : Asked) (response : List ℕ) → length response < 6 → length response < length_of number asked response
too_short number asked response short = too_soon number (answer_size asked.request) response short

-- what came after the first six bytes
pub came_on : (number size wanted : ℕ) (first response : List ℕ) (end : Filled) → length first ≡ 6 → wanted ≡ response_length number size first
    → take (length first) response ≡ first → Fills wanted (length response) end → Came number size response end
came_on number size wanted first response Whole six is front fills =
    fills ∙ is ∙ ap (response_length number size) (sym (subst (λ n. take n response ≡ first) six front))
came_on number size wanted first response Finished six is front fills =
    subst (λ n. length response < n) (is ∙ ap (response_length number size) (sym (subst (λ n. take n response ≡ first) six front))) fills
came_on number size wanted first response Failed six is front fills =
    subst (λ n. length response < n) (is ∙ ap (response_length number size) (sym (subst (λ n. take n response ≡ first) six front))) fills

-- a cause stays where the count stood before
pub caused_on : (old mid new : ℕ) (end : Filled) → mid ≡ old → FillCause mid new end → FillCause old new end
caused_on old mid new end same cause = subst (λ n. FillCause n new end) same cause

differ : (xs ys : List ℕ) → bytes_eq xs ys ≡ false → xs ≡ ys → ⊥
differ xs ys e same = false≢true (sym e ∙ (bytes_eq-Decides xs ys).1 same)

-- the code of an exception is its last byte
code-is : (number : ℕ) (asked : Asked) (response : List ℕ) (code : ℕ) → response ≡ exception number asked code → unwrap_or (slice_get response 8) 0 ≡ code
code-is number asked response code e = ap (λ xs. unwrap_or (slice_get xs 8) 0) e

-- how a whole response fares that is neither that answer nor a refusal
other-fares : (number : ℕ) (asked : Asked) (response left : List ℕ) (b : Bool) → is_other number asked response ≡ b
    → length response ≡ length_of number asked response → (response ≡ answer number asked → ⊥) → ((code : ℕ) → response ≡ exception number asked code → ⊥)
    → Fared number asked response left (cond b HasOther Wrong)
other-fares number asked response left true e whole other refusal = (other, e)
other-fares number asked response left false e whole other refusal = (whole, other, e, refusal)

-- one that is not that answer
refused-fares : (number : ℕ) (asked : Asked) (response left : List ℕ) (b : Bool)
    → bytes_eq response (exception number asked (unwrap_or (slice_get response 8) 0)) ≡ b
    → length response ≡ length_of number asked response → (response ≡ answer number asked → ⊥)
    → Fared number asked response left (cond b (Exception (unwrap_or (slice_get response 8) 0)) (cond (is_other number asked response) HasOther Wrong))
refused-fares number asked response left true e whole other = (bytes_eq-Decides response _).0 e
refused-fares number asked response left false e whole other =
    other-fares number asked response left _ refl whole other
    (λ code is. differ response (exception number asked (unwrap_or (slice_get response 8) 0)) e
    (is ∙ ap (exception number asked) (sym (code-is number asked response code is))))

answered-fares : (number : ℕ) (asked : Asked) (response left : List ℕ) (b : Bool) → is_check asked.request ≡ b → response ≡ answer number asked
    → Fared number asked response left (cond b Has Taken)
answered-fares number asked response left true e is = (is, e)
answered-fares number asked response left false e is = (is, e)

judged-fares-by : (number : ℕ) (asked : Asked) (response left : List ℕ) (b : Bool) → bytes_eq response (answer number asked) ≡ b
    → length response ≡ length_of number asked response
    → Fared number asked response left (cond b (cond (is_check asked.request) Has Taken) (refused number asked response (unwrap_or (slice_get response 8) 0)))
judged-fares-by number asked response left true e whole = answered-fares number asked response left _ refl ((bytes_eq-Decides response _).0 e)
judged-fares-by number asked response left false e whole =
    refused-fares number asked response left _ refl whole (differ response (answer number asked) e)

-- a whole response fares as it is judged
pub judged-fares : (number : ℕ) (asked : Asked) (response left : List ℕ) → length response ≡ length_of number asked response
    → Fared number asked response left (judged number asked response)
judged-fares number asked response left whole = judged-fares-by number asked response left _ refl whole

pub judged-no-fault : (number : ℕ) (asked : Asked) (response : List ℕ) → judged number asked response ≡ LinkFault → ⊥
judged-no-fault number asked response =
    go (bytes_eq response (answer number asked)) (is_check asked.request)
    (bytes_eq response (exception number asked (unwrap_or (slice_get response 8) 0))) (is_other number asked response)
  where
    go : (a check b other : Bool)
        → cond a (cond check Has Taken) (cond b (Exception (unwrap_or (slice_get response 8) 0)) (cond other HasOther Wrong)) ≡ LinkFault → ⊥
    go true true b other e = cc
    go true false b other e = cc
    go false check true other e = cc
    go false check false true e = cc
    go false check false false e = cc

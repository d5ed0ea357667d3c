-- What is within its range has a spelling: numbers, lists, names, reversions.
use Rattle.std.proofs.Common.{◌≡◌, ℕ, suc, ◌-◌, ◌^◌, ◌<◌, ◌≤◌, nat_lt, nat_le, ℤ, pos, negsuc, Bool, true, false, cond, List, [], ◌∷◌, length, Option, Some, None, refl, ap, ◌∙◌, arith}
use Rattle.std.specs.Int.{w16, w32, w64}
use Rattle.std.specs.List.{AllByRecursion, list_all}
use Rattle.std.specs.Option.{option_map_or}
use Rattle.std.proofs.lemmas.Bool.{lt-ltb, le-leb}
use Rattle.std.proofs.lemmas.Bool.Decides.{nat_tests}
use Rattle.def_bytes.specs.Fields.{Field, number, byte, made_of, counted}
use Rattle.boss_model.specs.declared.command.Policy.{Policy}
use Rattle.boss_model.specs.declared.command.Policy.TheVariants.{Abort, Keep}
use Rattle.boss_model.specs.declared.command.Step.{Step}
use Rattle.boss_model.specs.Limits.{longest_name, longest_hold, most_steps}
use Rattle.boss_model.specs.Names.{is_name, is_name_byte}
use Rattle.boss_model.specs.Sound.{IsWord}
use Rattle.law_time.proofs.Orders.{each-map}
use Rattle.law_spelling.specs.Ranges.{IsOwner, IsPoint, IsSigned, IsBetween, IsStep, AreSteps}
use Rattle.def_bytes.specs.Parts.{signed64, natural, name, policy, step, steps}
use Rattle.def_bytes.proofs.Spelling.{left_true, right_true, both_true}

-- ---- numbers

pub word-fits : (n : ℕ) → IsWord n → (number w64).fits n ≡ true
word-fits n is = lt-ltb _ _ is

pub owner-fits : (n : ℕ) → IsOwner n → (number w16).fits n ≡ true
owner-fits n is = lt-ltb _ _ is

pub point-fits : (n : ℕ) → IsPoint n → (number w32).fits n ≡ true
point-fits n is = lt-ltb _ _ is

pub byte-fits : (n : ℕ) → n < 256 → byte.fits n ≡ true
byte-fits n is = lt-ltb _ _ is

pub signed-fits : (z : ℤ) → IsSigned z → signed64.fits z ≡ true
signed-fits (pos n) is =
    ap (λ b. option_map_or (number w64).fits (cond b (Some n) None) false) (lt-ltb n (2 ^ 63) is) ∙ lt-ltb n (2 ^ 64) (omega arith)
signed-fits (negsuc n) is =
    ap (λ b. option_map_or (number w64).fits (cond b (Some (2 ^ 64 - suc n)) None) false) (lt-ltb n (2 ^ 63) is) ∙ lt-ltb (2 ^ 64 - suc n) (2 ^ 64) (omega arith)

-- a whole number between two others, where the field has all numbers up to the greater
pub between-fits : (f : Field ℕ) (low high : ℕ) → ((n : ℕ) → n ≤ high → f.fits n ≡ true) → (z : ℤ) → IsBetween low high z → (natural f).fits z ≡ true
between-fits f low high small (pos n) is = small n is.1
between-fits f low high small (negsuc n) is = absurd is

pub up-to-a-byte : (high : ℕ) → high < 256 → (n : ℕ) → n ≤ high → byte.fits n ≡ true
up-to-a-byte high room n is = lt-ltb _ _ (omega arith)

pub up-to-four-bytes : (high : ℕ) → high < 2 ^ 32 → (n : ℕ) → n ≤ high → (number w32).fits n ≡ true
up-to-four-bytes high room n is = lt-ltb _ _ (omega arith)

-- ---- parts and lists

pub made-fits : {X Y : Type 0} (parts : X → Option Y) (made : Y → X) (f : Field Y) (x : X) (y : Y) → parts x ≡ Some y → f.fits y ≡ true → (made_of parts made f).fits x ≡ true
made-fits parts made f x y is fits = ap (λ o. option_map_or f.fits o false) is ∙ fits

all-pass : {X : Type 0} (test : X → Bool) (xs : List X) → AllByRecursion (λ x. test x ≡ true) xs → list_all test xs ≡ true
all-pass test [] all = refl
all-pass test (x ∷ xs) all = both_true _ _ all.0 (all-pass test xs all.1)

pub list-fits : {X : Type 0} (count : Field ℕ) (limit : ℕ) (f : Field X) (xs : List X) → length xs ≤ limit → count.fits (length xs) ≡ true →
    AllByRecursion (λ x. f.fits x ≡ true) xs → (counted count limit f).fits xs ≡ true
list-fits count limit f xs few number all = both_true _ _ (le-leb _ _ few) (both_true _ _ number (all-pass f.fits xs all))

-- ---- names, policies, reversions

name-bytes : (bytes : List ℕ) → list_all is_name_byte bytes ≡ true → list_all byte.fits bytes ≡ true
name-bytes [] all = refl
name-bytes (b ∷ bytes) all =
    let first : is_name_byte b ≡ true = left_true _ _ all in
    both_true _ _ (one b first) (name-bytes bytes (right_true (is_name_byte b) _ all))
  where
    one : (b : ℕ) → is_name_byte b ≡ true → nat_lt b 256 ≡ true
    one b is = grind (arith, nat_tests)

pub name-fits : (bytes : List ℕ) → is_name bytes ≡ true → name.fits bytes ≡ true
name-fits bytes is =
    let few : nat_le (length bytes) longest_name ≡ true = grind arith in
    let short : nat_lt (length bytes) 256 ≡ true = grind (arith, nat_tests) in
    let all : list_all is_name_byte bytes ≡ true = grind arith in
    both_true _ _ (both_true _ _ few (both_true _ _ short (name-bytes bytes all))) is

pub policy-fits : (p : Policy) → policy.fits p ≡ true
policy-fits Abort = refl
policy-fits Keep = refl

step-fits : (s : Step) → IsStep s → step.fits s ≡ true
step-fits s is = both_true _ _ (signed-fits s.value is.value)
    (between-fits (number w32) 1 longest_hold (up-to-four-bytes longest_hold (omega arith)) s.hold is.hold)

pub steps-fit : (ss : List Step) → AreSteps ss → steps.fits ss ≡ true
steps-fit ss are =
    let few : length ss ≤ most_steps = are.few in
    list-fits byte most_steps step ss few (byte-fits _ (omega arith)) (each-map IsStep (λ s. step.fits s ≡ true) step-fits ss are.each)

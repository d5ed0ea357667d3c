-- An event that has a spelling and stays within bounds is within its ranges; and one that is effective stays within bounds.
use Rattle.std.proofs.Common.{◌≡◌, ℕ, suc, ◌-◌, ◌^◌, ◌<◌, ◌≤◌, ◌==◌, nat_lt, nat_le, ℤ, pos, negsuc, Bool, true, false, not, cond, ◌&&◌, List, [], ◌∷◌, length, Option, Some, None, refl, sym, ◌∙◌, arith}
use Rattle.std.specs.Prelude.{is_none}
use Rattle.std.specs.Int.{w16, w32, w64}
use Rattle.std.specs.List.{AllByRecursion, list_all}
use Rattle.std.specs.Option.{option_map_or}
use Rattle.std.specs.Ordering.{int_eq}
use Rattle.std.proofs.lemmas.Bool.{cond_both, ltb-true, leb-true}
use Rattle.std.proofs.lemmas.Bool.Decides.{nat_tests}
use Rattle.def_bytes.specs.Fields.{Field, number, byte, counted}
use Rattle.boss_model.specs.declared.command.Setting.{Setting}
use Rattle.boss_model.specs.declared.command.Step.{Step}
use Rattle.boss_model.specs.declared.event.Act.{Act}
use Rattle.boss_model.specs.declared.event.Act.TheVariants as act
use Rattle.boss_model.specs.declared.event.Event.{Event}
use Rattle.boss_model.specs.declared.state.Actuator.{Actuator}
use Rattle.boss_model.specs.Acts.{is_known_process, is_known_point, replay}
use Rattle.boss_model.specs.Limits.{longest_hold, longest_lease, most_steps, most_writes, last_moment, last_number}
use Rattle.boss_model.specs.Sound.{IsSoundPersistent}
use Rattle.boss_model.specs.State.{Persistent}
use Rattle.boss_model.specs.Submit.{is_within, is_length, is_step, submit_refused}
use Rattle.boss_model.specs.Time.{moment_of}
use Rattle.law_soundness.proofs.NotRefused.{IsWrite, submit-not-refused}
use Rattle.law_spelling.specs.Ranges.{IsOwner, IsPoint, IsSigned, IsBetween, IsStep, AreSteps, IsWritten, IsAct, IsSpelled}
use Rattle.def_bytes.specs.Parts.{signed64, natural, within, moment, name, policy, step, steps}
use Rattle.def_bytes.specs.Events.{setting, writes, points, submission, renewal, is_number, owned, numbered, by_number, act_tag, act_fits, event}
use Rattle.def_bytes.proofs.Spelling.{left_true, right_true, both_true}
use Rattle.law_effects.specs.Changes.{is_new}
use Rattle.law_effects.specs.Early.{early}
use Rattle.law_effects.proofs.Early.{replay-refused}
use Rattle.boss_bounds.specs.Bounds.{is_held, is_bounded, is_modest}

-- ---- numbers

some-passes : {Y : Type 0} (b : Bool) (y : Y) (f : Y → Bool) → option_map_or f (cond b (Some y) None) false ≡ true → b ≡ true
some-passes true y f is = refl
some-passes false y f is = absurd cc

signed : (z : ℤ) → signed64.fits z ≡ true → IsSigned z
signed (pos n) fits = ltb-true n (2 ^ 63) (some-passes (nat_lt n (2 ^ 63)) n (number w64).fits fits)
signed (negsuc n) fits = ltb-true n (2 ^ 63) (some-passes (nat_lt n (2 ^ 63)) (2 ^ 64 - suc n) (number w64).fits fits)

between : (low high : ℕ) (z : ℤ) → is_within (pos low) (pos high) z ≡ true → IsBetween low high z
between low high (pos n) inside = (grind (arith, nat_tests), grind (arith, nat_tests))
between low high (negsuc n) inside = cc

-- ---- lists

all-both : {X : Type 0} (test other : X → Bool) (P : X → Type 0) → ((x : X) → test x ≡ true → other x ≡ true → P x) → (xs : List X) →
    list_all test xs ≡ true → list_all other xs ≡ true → AllByRecursion P xs
all-both test other P gives [] all more = tt
all-both test other P gives (x ∷ xs) all more = (
  gives x (left_true (test x) (list_all test xs) all) (left_true (other x) (list_all other xs) more),
  all-both test other P gives xs (right_true (test x) (list_all test xs) all) (right_true (other x) (list_all other xs) more),
)

all-of : {X : Type 0} (test : X → Bool) (P : X → Type 0) → ((x : X) → P x → test x ≡ true) → (xs : List X) → AllByRecursion P xs → list_all test xs ≡ true
all-of test P gives [] all = refl
all-of test P gives (x ∷ xs) all = both_true (test x) (list_all test xs) (gives x all.0) (all-of test P gives xs all.1)

all-wider : {X : Type 0} (test other : X → Bool) → ((x : X) → test x ≡ true → other x ≡ true) → (xs : List X) → list_all test xs ≡ true → list_all other xs ≡ true
all-wider test other gives [] all = refl
all-wider test other gives (x ∷ xs) all =
    both_true (other x) (list_all other xs) (gives x (left_true (test x) (list_all test xs) all)) (all-wider test other gives xs (right_true (test x) (list_all test xs) all))

module _ {X : Type 0} (count : Field ℕ) (limit : ℕ) (f : Field X) (xs : List X) (fits : (counted count limit f).fits xs ≡ true) where
  few-items : length xs ≤ limit
  few-items = leb-true (length xs) limit (left_true (nat_le (length xs) limit) (count.fits (length xs) && list_all f.fits xs) fits)

  count-fits : count.fits (length xs) ≡ true
  count-fits = left_true (count.fits (length xs)) (list_all f.fits xs) (right_true (nat_le (length xs) limit) (count.fits (length xs) && list_all f.fits xs) fits)

  items-fit : list_all f.fits xs ≡ true
  items-fit = right_true (count.fits (length xs)) (list_all f.fits xs) (right_true (nat_le (length xs) limit) (count.fits (length xs) && list_all f.fits xs) fits)

-- ---- what a submit and a renewal have

a-step : (s : Step) → step.fits s ≡ true → is_held s ≡ true → IsStep s
a-step s fits held = record {
  value = signed s.value (left_true (signed64.fits s.value) ((natural (number w32)).fits s.hold) fits);
  hold = between 1 longest_hold s.hold held;
}

some-steps : (ss : List Step) → steps.fits ss ≡ true → list_all is_held ss ≡ true → AreSteps ss
some-steps ss fits held = record {
  few = few-items byte most_steps step ss fits;
  each = all-both step.fits is_held IsStep a-step ss (items-fit byte most_steps step ss fits) held;
}

a-write : (w : Setting) → setting.fits w ≡ true → is_bounded w ≡ true → IsWritten w
a-write w fits bounded =
    let point = left_true ((number w32).fits w.point) _ fits in
    let behind_point = right_true ((number w32).fits w.point) _ fits in
    let value = left_true (signed64.fits w.value) _ behind_point in
    let behind_value = right_true (signed64.fits w.value) _ behind_point in
    let behind_priority = right_true ((natural byte).fits w.priority) _ behind_value in
    let revert = right_true ((natural (number w32)).fits w.lease) (steps.fits w.revert) behind_priority in
    let level = is_within (pos 1) (pos 16) w.priority in
    let numbers = left_true (level && is_length w.lease) (list_all is_held w.revert) bounded in
    record {
      point = ltb-true w.point (2 ^ 32) point;
      value = signed w.value value;
      priority = between 1 16 w.priority (left_true level (is_length w.lease) numbers);
      lease = between 1 longest_lease w.lease (right_true level (is_length w.lease) numbers);
      revert = some-steps w.revert revert (right_true (level && is_length w.lease) (list_all is_held w.revert) bounded);
    }

-- ---- acts, with a number or without

record IsNumbered {X : Type 0} (f : Field X) (owner seq : ℕ) (x : X) : Type 0 where
  owner_is : IsOwner owner
  small : seq < last_number
  rest : f.fits x ≡ true

numbered-is : {X : Type 0} (f : Field X) (owner seq : ℕ) (x : X) → by_number seq ((owned f).fits (owner, x)) ((numbered f).fits (owner, (seq, x))) ≡ true →
    IsNumbered f owner seq x
numbered-is f owner seq x = cond_both (seq == 0) ((owned f).fits (owner, x)) ((numbered f).fits (owner, (seq, x))) (λ b. b ≡ true → IsNumbered f owner seq x)
    (λ none fits. let no_number : seq ≡ 0 = grind (arith, nat_tests) in record {
      owner_is = ltb-true owner (2 ^ 16) (left_true ((number w16).fits owner) (f.fits x) fits);
      small = omega (arith, no_number);
      rest = right_true ((number w16).fits owner) (f.fits x) fits;
    })
    (λ some fits.
    let own = (number w64).fits seq && is_number seq in
    let behind = right_true ((number w16).fits owner) (own && f.fits x) fits in
    let told = right_true ((number w64).fits seq) (is_number seq) (left_true own (f.fits x) behind) in
    record {
      owner_is = ltb-true owner (2 ^ 16) (left_true ((number w16).fits owner) (own && f.fits x) fits);
      small = ltb-true seq last_number (right_true (nat_le 1 seq) (nat_lt seq last_number) told);
      rest = right_true own (f.fits x) behind;
    })

act-spelled : (a : Act) → act_fits a ≡ true → is_modest a ≡ true → IsAct a
act-spelled (act.Enrol bytes) fits modest = right_true _ _ fits
act-spelled (act.Submit owner p ws seq) fits modest =
    let all = numbered-is submission owner seq (p, ws) fits in
    let many = right_true (policy.fits p) (writes.fits ws) all.rest in
    let counts = count-fits (within 1 most_writes) most_writes setting ws many in (
      all.owner_is,
      leb-true 1 (length ws) (right_true (byte.fits (length ws) && nat_le (length ws) most_writes) (nat_le 1 (length ws)) counts),
      few-items (within 1 most_writes) most_writes setting ws many,
      all-both setting.fits is_bounded IsWritten a-write ws (items-fit (within 1 most_writes) most_writes setting ws many) modest,
      all.small,
    )
act-spelled (act.Renew owner txn asked named seq) fits modest =
    let all = numbered-is renewal owner seq (txn, (asked, named)) fits in
    let behind = right_true ((number w64).fits txn) ((natural (number w32)).fits asked && points.fits named) all.rest in
    let known = right_true ((natural (number w32)).fits asked) (points.fits named) behind in (
      all.owner_is,
      ltb-true txn (2 ^ 64) (left_true ((number w64).fits txn) ((natural (number w32)).fits asked && points.fits named) all.rest),
      between 1 longest_lease asked modest,
      few-items byte most_writes (number w32) named known,
      all-both (number w32).fits (number w32).fits IsPoint (λ n is also. ltb-true n (2 ^ 32) is) named
          (items-fit byte most_writes (number w32) named known) (items-fit byte most_writes (number w32) named known),
      all.small,
    )
act-spelled (act.Cancel owner txn seq) fits modest =
    let all = numbered-is (number w64) owner seq txn fits in (all.owner_is, ltb-true txn (2 ^ 64) all.rest, all.small)
act-spelled (act.Gone owner) fits modest = ltb-true owner (2 ^ 16) fits
act-spelled act.Tick fits modest = tt
act-spelled (act.Fault point) fits modest = ltb-true point (2 ^ 32) fits

pub event-spelled : (e : Event) → event.fits e ≡ true → is_modest e.act ≡ true → IsSpelled e
event-spelled e fits modest =
    let both = right_true (nat_lt (act_tag e.act) 256) (moment.fits e.moment && act_fits e.act) fits in
    let at = left_true (moment.fits e.moment) (act_fits e.act) both in
    record {
      moment = leb-true e.moment last_moment (right_true ((number w64).fits e.moment) (nat_le e.moment last_moment) at);
      act = act-spelled e.act (right_true (moment.fits e.moment) (act_fits e.act) both) modest;
    }

-- ---- effective events

none-is : {X : Type 0} (found : Option X) → is_none found ≡ true → found ≡ None
none-is None is = refl
none-is (Some x) is = absurd cc

bounded : (plant : List Actuator) (w : Setting) → IsWrite plant w → is_bounded w ≡ true
bounded plant w is =
    let level : is_within (pos 1) (pos 16) w.priority ≡ true = left_true (is_within (pos 1) (pos 16) w.priority) (not (int_eq w.priority (pos 6))) is.level in
    let steps_are : list_all (is_step plant w.point) w.revert ≡ true =
    right_true (nat_le (length w.revert) most_steps) (list_all (is_step plant w.point) w.revert) is.reverting in
    both_true _ _ (both_true _ _ level is.lasting)
    (all-wider (is_step plant w.point) is_held (λ s good. left_true (is_held s) _ good) w.revert steps_are)

early-modest : (plant : List Actuator) (n : ℕ) (a : Act) (d : Persistent) → early plant n a d ≡ true → is_modest a ≡ true
early-modest plant n (act.Enrol bytes) d is = refl
early-modest plant n (act.Submit owner p ws seq) d is =
    let known = right_true (list_all (λ write. is_known_point plant write.point) ws) _ is in
    let fresh = right_true (is_known_process d owner) _ known in
    let fine = right_true (is_new owner seq d) (is_none (submit_refused plant ws d)) fresh in
    all-of is_bounded (IsWrite plant) (bounded plant) ws (submit-not-refused plant ws d (none-is (submit_refused plant ws d) fine)).allowed
early-modest plant n (act.Renew owner txn asked named seq) d is =
    let known = right_true (list_all (is_known_point plant) named) _ is in
    let fresh = right_true (is_known_process d owner) _ known in
    let fine = right_true (is_new owner seq d) _ fresh in
    left_true (is_length asked) _ fine
early-modest plant n (act.Cancel owner txn seq) d is = refl
early-modest plant n (act.Gone owner) d is = refl
early-modest plant n act.Tick d is = refl
early-modest plant n (act.Fault point) d is = refl

pub effective-modest : (plant : List Actuator) (e : Event) (d to : Persistent) → IsSoundPersistent plant d → replay plant e d ≡ Some to → is_modest e.act ≡ true
effective-modest plant e d to sound is = by (early plant (moment_of d e.moment) e.act d) refl
  where
    by : (b : Bool) → early plant (moment_of d e.moment) e.act d ≡ b → is_modest e.act ≡ true
    by true early_is = early-modest plant (moment_of d e.moment) e.act d early_is
    by false early_is = absurd (let clash : ◌≡◌ {A = Option Persistent} None (Some to) = sym (replay-refused plant e d sound early_is) ∙ is in cc)

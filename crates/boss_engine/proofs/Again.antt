-- An event that is done again: what it is asked before time passes, and what its act then rests on and leaves.
use Rattle.std.proofs.Common.{◌≡◌, ℕ, ◌<◌, ◌≤◌, ◌==◌, max, ℤ, List, [], length, Bool, true, false, not, ◌&&◌, ◌||◌, cond, Option, Some, None, is_some, is_none, refl, ap, sym, ◌∙◌, subst, arith}
use Rattle.std.specs.Prelude.{unwrap_or}
use Rattle.std.proofs.lemmas.Bool.Decides.{nat_tests}
use Rattle.std.specs.List.{list_all}
use Rattle.boss_model.specs.declared.answer.Refusal.{Refusal}
use Rattle.boss_model.specs.declared.command.Policy.{Policy}
use Rattle.boss_model.specs.declared.command.Setting.{Setting}
use Rattle.boss_model.specs.declared.event.Act.{Act}
use Rattle.boss_model.specs.declared.event.Act.TheVariants as act
use Rattle.boss_model.specs.declared.event.Event.{Event}
use Rattle.boss_model.specs.declared.kept.Acceptance.{Acceptance}
use Rattle.boss_model.specs.declared.kept.Acceptance.TheVariants as acceptance
use Rattle.boss_model.specs.declared.notice.Cause.TheVariants as cause
use Rattle.boss_model.specs.declared.state.Actuator.{Actuator}
use Rattle.boss_model.specs.Acts.{act_on, by_number, enrol_if, if_did, is_known_point, is_known_process, replay}
use Rattle.boss_model.specs.Ends.{cancel_refused, end_leases, is_of}
use Rattle.boss_model.specs.Limits.{last_moment, most_processes}
use Rattle.boss_model.specs.Outcomes.{did, unless}
use Rattle.boss_model.specs.Processes.{enrol_unless, enrolled, is_full}
use Rattle.boss_model.specs.Renew.{renew, renew_refused, renewed}
use Rattle.boss_model.specs.Submit.{first_until, granted, submit, submit_refused, submitted}
use Rattle.boss_model.specs.Replies.{answer_of, is_repeat, once}
use Rattle.boss_model.specs.Sound.{IsSoundPersistent}
use Rattle.boss_model.specs.State.{Persistent}
use Rattle.boss_model.specs.Time.{due, tick_to}
use Rattle.law_soundness.proofs.EndSound.{IsAt, at-tick}
use Rattle.law_spelling.specs.Ranges.{IsSpelled}
use Rattle.law_effects.specs.Changes.{is_new, makes}
use Rattle.law_effects.specs.Early.{early}
use Rattle.law_effects.proofs.Early.{act-early, number-some, replay-refused}
use Rattle.law_effects.proofs.Redone.{replay-done, replay-same, replay-sound}
use Rattle.law_time.proofs.TickSound.{tick-sound}
use Rattle.boss_engine.specs.Again.{IsReadyAgain}
use Rattle.boss_engine.specs.Ready.{MustBeThere}
use Rattle.boss_persistent.specs.Replying.{decided, renewed_until, with_reply}
use Rattle.boss_engine.specs.declared.ready.Ready.{Ready}
use Rattle.boss_engine.specs.declared.ready.Ready.TheVariants as ready
use Rattle.boss_persistent.proofs.Flagged.{undecided-new}
use Rattle.boss_persistent.proofs.Names.{told-named}
use Rattle.boss_persistent.proofs.Replied.{once-did}

-- ---- an event, by its moment n

module _ (plant : List Actuator) (event : Event) (d : Persistent) (sound : IsSoundPersistent plant d) (spelled : IsSpelled event) (n : ℕ) (at : n ≡ max d.now event.moment) where
  pub again-none : early plant n event.act d ≡ false → replay plant event d ≡ None
  again-none no_early = replay-refused plant event d sound (ap (λ k. early plant k event.act d) (sym at) ∙ no_early)

  pub again-moment : (d.now ≤ n) × (n ≤ last_moment)
  again-moment = let now : d.now ≤ last_moment = sound.now in let moment : event.moment ≤ last_moment = spelled.moment in (omega arith, omega arith)

  module _ (ticked : Persistent) (is-ticked : ticked ≡ tick_to n d) where
    pub again-sound : IsSoundPersistent plant ticked
    again-sound = subst (IsSoundPersistent plant) (sym is-ticked) (tick-sound plant d n sound again-moment.0 again-moment.1)

    pub again-at : IsAt n ticked
    again-at = subst (IsAt n) (sym is-ticked) (at-tick d n again-moment.0)

    pub again-allowed : early plant n event.act d ≡ true → is_some (act_on plant n event.act ticked) ≡ true
    again-allowed is = ap (λ t. is_some (act_on plant n event.act t)) is-ticked ∙ act-early plant n d sound event.act ∙ is

    module _ (after : Persistent) (made : act_on plant n event.act ticked ≡ Some after) where
      abbrev flag : Bool
      flag = makes n event.act ticked || not (ticked.now == d.now)

      at-once : (k : ℕ) (t : Persistent) → k ≡ n → t ≡ ticked → act_on plant k event.act t ≡ Some after
      at-once k t is same = (λ i. act_on plant (is i) event.act (same i)) ∙ made

      made-there : act_on plant (max d.now event.moment) event.act (tick_to (max d.now event.moment) d) ≡ Some after
      made-there = at-once _ _ (sym at) (ap (λ k. tick_to k d) (sym at) ∙ sym is-ticked)

      flag-there : flag ≡ (makes (max d.now event.moment) event.act (tick_to (max d.now event.moment) d) || not ((tick_to (max d.now event.moment) d).now == d.now))
      flag-there = ap (λ t. makes n event.act t || not (t.now == d.now)) is-ticked ∙ ap (λ k. makes k event.act (tick_to k d) || not ((tick_to k d).now == d.now)) at

      is-done : replay plant event d ≡ cond flag (Some after) None
      is-done = replay-done plant event d sound spelled.moment after made-there ∙ ap (λ b. cond b (Some after) None) (sym flag-there)

      is-same : flag ≡ false → after ≡ d
      is-same still = replay-same plant event d sound spelled.moment after made-there (sym flag-there ∙ still)

      pub again-effective : flag ≡ is_some (replay plant event d)
      again-effective = by flag ∙ ap is_some (sym is-done)
        where
          by : (b : Bool) → b ≡ is_some (cond b (Some after) None)
          by true = refl
          by false = refl

      pub again-after : after ≡ unwrap_or (replay plant event d) d
      again-after = by flag refl ∙ ap (λ done. unwrap_or done d) (sym is-done)
        where
          by : (b : Bool) → flag ≡ b → after ≡ unwrap_or (cond flag (Some after) None) d
          by true is = ap (λ b. unwrap_or (cond b (Some after) None) d) (sym is)
          by false is = is-same is ∙ ap (λ b. unwrap_or (cond b (Some after) None) d) (sym is)

      pub again-still : IsSoundPersistent plant after
      again-still = by flag refl
        where
          by : (b : Bool) → flag ≡ b → IsSoundPersistent plant after
          by true is = replay-sound plant event d sound spelled.moment after spelled.act (is-done ∙ ap (λ b. cond b (Some after) None) is)
          by false is = subst (IsSoundPersistent plant) (sym (is-same is)) sound

-- what was made ready is what is used once time has passed
pub readied-again : (n : ℕ) (done : Act) (given : Ready) (d : Persistent) → IsReadyAgain n done given d → IsReadyAgain n done given (tick_to n d)
readied-again n (act.Enrol name) (ready.Process ring) d was = (told-named d.processes (due n d) name ∙ was.0, was.1)
readied-again n (act.Enrol name) ready.Nothing d was = subst MustBeThere (sym (told-named d.processes (due n d) name)) was
readied-again n (act.Enrol name) (ready.Refused why) d was = was
readied-again n (act.Enrol name) (ready.Decided answer) d was = was
readied-again n (act.Enrol name) (ready.Submit transaction leases) d was = was
readied-again n (act.Enrol name) (ready.List notices) d was = was
readied-again n (act.Submit owner policy writes seq) ready.Nothing d was = was
readied-again n (act.Submit owner policy writes seq) (ready.Process ring) d was = was
readied-again n (act.Submit owner policy writes seq) (ready.Refused why) d was = was
readied-again n (act.Submit owner policy writes seq) (ready.Decided answer) d was = was
readied-again n (act.Submit owner policy writes seq) (ready.Submit transaction leases) d was = was
readied-again n (act.Submit owner policy writes seq) (ready.List notices) d was = was
readied-again n (act.Renew owner txn asked points seq) given d was = was
readied-again n (act.Cancel owner txn seq) given d was = was
readied-again n (act.Gone owner) given d was = was
readied-again n act.Tick given d was = was
readied-again n (act.Fault point) given d was = was

-- ---- an act that is not refused

pub passes-if : (test : Bool) (made : Option Persistent) → is_some (cond test made None) ≡ true → test ≡ true
passes-if true made some = refl
passes-if false made some = cc

pub if-passes : (test : Bool) (made : Option Persistent) → is_some (cond test made None) ≡ true → cond test made None ≡ made
if-passes true made some = refl
if-passes false made some = cc

pub both-true : (a b : Bool) → (a && b) ≡ true → (a ≡ true) × (b ≡ true)
both-true true true is = (refl, refl)
both-true true false is = cc
both-true false b is = cc

pub none-of : {X : Type 0} (found : Option X) → is_none found ≡ true → found ≡ None
none-of None is = refl
none-of (Some x) is = cc

-- a request is not refused, is not decided by the reply that is kept, and is its process's
pub record IsMadeBy (owner seq : ℕ) (d : Persistent) (why : Option Refusal) (given : Acceptance) (changed : Persistent) : Type 0 where
  pub passed : why ≡ None
  pub undecided : decided d.processes owner seq ≡ None
  pub made : by_number owner seq d (unless why (answer_of given) changed) ≡ Some (with_reply owner seq given changed)

pub made-by : (owner seq : ℕ) (d : Persistent) (why : Option Refusal) (given : Acceptance) (changed : Persistent) →
    is_some (by_number owner seq d (unless why (answer_of given) changed)) ≡ true → IsMadeBy owner seq d why given changed
made-by owner seq d why given changed some = record { passed = passed; undecided = undecided; made = by (is_repeat owner seq d) some }
  where
    parts : (is_known_process d owner ≡ true) × ((is_new owner seq d && is_none why) ≡ true)
    parts = both-true (is_known_process d owner) (is_new owner seq d && is_none why) (sym (number-some owner seq d why (answer_of given) changed) ∙ some)

    fresh : (is_new owner seq d ≡ true) × (is_none why ≡ true)
    fresh = both-true (is_new owner seq d) (is_none why) parts.1

    passed : why ≡ None
    passed = none-of why fresh.1

    undecided : decided d.processes owner seq ≡ None
    undecided = none-of (decided d.processes owner seq) (undecided-new owner seq d ∙ fresh.0)

    outcome : once owner seq d (unless why (answer_of given) changed) ≡ did (answer_of given) (with_reply owner seq given changed)
    outcome = ap (λ w. once owner seq d (unless w (answer_of given) changed)) passed ∙ once-did owner seq d given changed undecided

    by : (again : Bool) → is_some (cond again None (cond (is_known_process d owner) (if_did (once owner seq d (unless why (answer_of given) changed))) None)) ≡ true →
        cond again None (cond (is_known_process d owner) (if_did (once owner seq d (unless why (answer_of given) changed))) None) ≡ Some (with_reply owner seq given changed)
    by true is = cc
    by false is = ap (λ k. cond k (if_did (once owner seq d (unless why (answer_of given) changed))) None) parts.0 ∙ ap if_did outcome

-- a name is enrolled where it is known, or there is room
pub enrolled-room : (found : Option ℕ) (name : List ℕ) (n : ℕ) (d : Persistent) → is_some (enrol_if found name n d) ≡ true → found ≡ None → length d.processes < most_processes
enrolled-room (Some process) name n d some is = cc
enrolled-room None name n d some is = by (is_full d.processes) refl some
  where
    by : (full : Bool) → is_full d.processes ≡ full → is_some (cond full None (Some (enrolled name n d))) ≡ true → length d.processes < most_processes
    by true room is = cc
    by false room is = grind (arith, nat_tests)

pub enrolled-is : (found : Option ℕ) (name : List ℕ) (n : ℕ) (d : Persistent) → is_some (enrol_if found name n d) ≡ true → enrol_if found name n d ≡ Some (enrol_unless found name n d)
enrolled-is (Some process) name n d some = refl
enrolled-is None name n d some = by (is_full d.processes) some
  where
    by : (full : Bool) → is_some (cond full None (Some (enrolled name n d))) ≡ true → cond full None (Some (enrolled name n d)) ≡ Some (enrolled name n d)
    by true is = cc
    by false is = refl

-- ---- submits, renewals and cancels

some-if : (test : Bool) (made : Option Persistent) → is_some (cond test made None) ≡ true → is_some made ≡ true
some-if true made some = some
some-if false made some = cc

module _ (plant : List Actuator) (n : ℕ) (d : Persistent) where
  pub submit-passed : (owner : ℕ) (policy : Policy) (writes : List Setting) (seq : ℕ) → is_some (act_on plant n (act.Submit owner policy writes seq) d) ≡ true → submit_refused plant writes d ≡ None
  submit-passed owner policy writes seq some =
      (made-by owner seq d (submit_refused plant writes d) (acceptance.Accepted d.next (first_until (granted owner policy d.next n writes))) (submitted owner policy writes n d)
      (some-if (list_all (λ write. is_known_point plant write.point) writes) (by_number owner seq d (submit plant owner policy writes n d)) some)).passed

  pub renew-made : (owner txn : ℕ) (asked : ℤ) (points : List ℕ) (seq : ℕ) → is_some (act_on plant n (act.Renew owner txn asked points seq) d) ≡ true →
      (renew_refused owner txn asked points n d ≡ None)
      × (act_on plant n (act.Renew owner txn asked points seq) d ≡ Some (with_reply owner seq (acceptance.Renewed txn (renewed_until txn asked points n d)) (renewed txn asked points n d)))
  renew-made owner txn asked points seq some =
      let made = made-by owner seq d (renew_refused owner txn asked points n d) (acceptance.Renewed txn (renewed_until txn asked points n d)) (renewed txn asked points n d)
      (some-if (list_all (is_known_point plant) points) (by_number owner seq d (renew owner txn asked points n d)) some) in
      (made.passed, if-passes (list_all (is_known_point plant) points) (by_number owner seq d (renew owner txn asked points n d)) some ∙ made.made)

  pub cancel-made : (owner txn seq : ℕ) → is_some (act_on plant n (act.Cancel owner txn seq) d) ≡ true →
      act_on plant n (act.Cancel owner txn seq) d ≡ Some (with_reply owner seq (acceptance.Cancelled txn n) (end_leases (is_of txn) cause.Cancelled n [] d))
  cancel-made owner txn seq some =
      (made-by owner seq d (cancel_refused owner txn d) (acceptance.Cancelled txn n) (end_leases (is_of txn) cause.Cancelled n [] d) some).made

-- The effect of a step, by what time changed and by what the command changed.
use Rattle.std.proofs.Common.{◌≡◌, ℕ, ◌<◌, ◌≤◌, ◌==◌, max, nat_lt, nat_le, List, [], length, Bool, true, false, not, ◌||◌, cond, refl, ap, sym, ◌∙◌, subst, arith}
use Rattle.std.specs.List.{filter, AllByRecursion}
use Rattle.std.proofs.lemmas.Bool.Decides.{nat_tests}
use Rattle.boss_model.specs.declared.command.Command.{Command}
use Rattle.boss_model.specs.declared.event.Effect.TheVariants as effect
use Rattle.boss_model.specs.declared.state.Actuator.{Actuator}
use Rattle.boss_model.specs.Effects.{concerned, effect_of, step_effect}
use Rattle.boss_model.specs.Happenings.{rank, coming}
use Rattle.boss_model.specs.Limits.{last_moment}
use Rattle.boss_model.specs.Machine.{pass_time, act, step}
use Rattle.boss_model.specs.Reversions.{courses}
use Rattle.boss_model.specs.Same.{same_persistent}
use Rattle.boss_model.specs.Sound.{IsAllowed, IsSoundPersistent, IsSound}
use Rattle.boss_model.specs.State.{Persistent, State}
use Rattle.boss_model.specs.Time.{due, moment_of, tick_to}
use Rattle.law_machine.proofs.Replay.{tick-again, act-acts}
use Rattle.law_machine.proofs.SameDecides.{persistent-equal, persistent-self}
use Rattle.law_soundness.proofs.ActSound.{tick-length}
use Rattle.law_soundness.proofs.EndSound.{at-tick}
use Rattle.law_time.proofs.Coming.{all_of}
use Rattle.law_time.proofs.Filters.{filter-none}
use Rattle.law_time.proofs.NothingDue.{nothing-due}
use Rattle.law_time.proofs.Orders.{each-in_order, each-passed}
use Rattle.law_time.proofs.TickSound.{tick-sound}
use Rattle.law_effects.specs.Changes.{changes}
use Rattle.law_effects.proofs.Changed.{act-told}
use Rattle.law_effects.proofs.Parts.{differs}

-- nothing is due at `now` itself
none-now : (d : Persistent) → due d.now d ≡ []
none-now d = filter-none (λ h. nat_le h.at d.now) (coming d.now (courses d.pending d.leases) d.txns)
    (each-in_order (λ h. nat_le h.at d.now ≡ false) rank (filter (λ h. nat_lt d.now h.at) (all_of (courses d.pending d.leases) d.txns))
    (each-passed (λ h. nat_le h.at d.now ≡ false) (λ h. nat_lt d.now h.at) (λ h later. grind (arith, nat_tests)) (all_of (courses d.pending d.leases) d.txns)))

-- a tick that leaves `now` changes nothing
pub quiet-tick : (plant : List Actuator) (d : Persistent) (n : ℕ) → IsSoundPersistent plant d → d.now ≤ n → n ≤ last_moment → (tick_to n d).now ≡ d.now → tick_to n d ≡ d
quiet-tick plant d n sound within small same =
    sym (tick-again plant d n sound within small) ∙ ap (λ k. tick_to k d) same ∙ nothing-due plant d d.now sound (omega arith) (none-now d)

pub early-tick : (plant : List Actuator) (d : Persistent) (n : ℕ) → IsSoundPersistent plant d → d.now ≡ n → tick_to n d ≡ d
early-tick plant d n sound same = ap (λ k. tick_to k d) (sym same) ∙ nothing-due plant d d.now sound (omega arith) (none-now d)

-- What two flags say of the parts before, after time has passed, and after what was then done: whether it did anything, and
-- whether time moved `now`. What is done moves `now` to n, so it never brings back what was before.
pub both-told : (before ticked changed : Persistent) (n : ℕ) (does : Bool) → same_persistent ticked changed ≡ not does → (does ≡ true → changed.now ≡ n) →
    (before.now ≡ n → ticked ≡ before) → (ticked.now ≡ before.now → ticked ≡ before) → same_persistent before changed ≡ not (does || not (ticked.now == before.now))
both-told before ticked changed n true told moment early quiet = differs before changed (λ same.
    let now : before.now ≡ n = ap (λ x. x.now) same ∙ moment refl in
    let equal : ticked ≡ changed = early now ∙ same in
    sym (persistent-self ticked) ∙ ap (same_persistent ticked) equal ∙ told)
both-told before ticked changed n false told moment early quiet = ap (same_persistent before) (sym (persistent-equal ticked changed told)) ∙ by (ticked.now == before.now) refl
  where
    by : (still : Bool) → (ticked.now == before.now) ≡ still → same_persistent before ticked ≡ not (not still)
    by true is = let now : ticked.now ≡ before.now = grind (arith, nat_tests) in ap (same_persistent before) (quiet now) ∙ persistent-self before
    by false is = differs before ticked (λ same.
        let now : before.now ≡ ticked.now = ap (λ x. x.now) same in
        let still : (ticked.now == before.now) ≡ true = grind (arith, nat_tests) in sym still ∙ is)

-- the effect that they tell
flags : (before ticked changed : Persistent) (n owner : ℕ) (does moved : Bool) → same_persistent ticked changed ≡ not does → same_persistent before changed ≡ not (does || moved) →
    (does ≡ true → changed.now ≡ n) → effect_of before ticked changed owner ≡ cond does (effect.Whole n owner) (cond moved (effect.Tick ticked.now) effect.Unchanged)
flags before ticked changed n owner does moved told both moment =
    (λ i. cond (both i) effect.Unchanged (cond (told i) (effect.Tick changed.now) (effect.Whole changed.now owner))) ∙ by does moved refl
  where
    by : (d m : Bool) → does ≡ d →
        cond (not (d || m)) effect.Unchanged (cond (not d) (effect.Tick changed.now) (effect.Whole changed.now owner)) ≡ cond d (effect.Whole n owner) (cond m (effect.Tick ticked.now) effect.Unchanged)
    by true m is = ap (λ k. effect.Whole k owner) (moment is)
    by false true is = ap (λ x. effect.Tick x.now) (sym (persistent-equal ticked changed (told ∙ ap not is)))
    by false false is = refl

pub step-flags : (plant : List Actuator) (s : State) (session : ℕ) (c : Command) (m : ℕ) → IsSound plant s → IsAllowed plant c → m ≤ last_moment →
    step_effect plant session c m s
    ≡ cond (changes plant session (moment_of s.persistent m) c (pass_time plant (moment_of s.persistent m) s))
    (effect.Whole (moment_of s.persistent m) (concerned c session (record s { persistent = tick_to (moment_of s.persistent m) s.persistent })))
    (cond (not ((pass_time plant (moment_of s.persistent m) s).persistent.now == s.persistent.now)) (effect.Tick (pass_time plant (moment_of s.persistent m) s).persistent.now) effect.Unchanged)
unfolding step step_effect
step-flags plant s session c m sound allowed small =
    let n = max s.persistent.now m in
    let now : s.persistent.now ≤ last_moment = sound.persistent.now in
    let early : n ≤ last_moment = omega arith in
    let within : s.persistent.now ≤ n = omega arith in
    let ticked = tick_to n s.persistent in
    let passed = pass_time plant n s in
    let attached : AllByRecursion (λ a. a.process < length ticked.processes) s.attached =
    subst (λ k. AllByRecursion (λ a. a.process < k) s.attached) (sym (tick-length s.persistent n)) sound.attached in
    let changed = (act plant session n c passed).state.persistent in
    let told : same_persistent ticked changed ≡ not (changes plant session n c passed) =
    act-told plant n session passed (tick-sound plant s.persistent n sound.persistent within early) (at-tick s.persistent n within) early attached c in
    let moment : changes plant session n c passed ≡ true → changed.now ≡ n = λ does. (act-acts plant n session passed attached c allowed (told ∙ ap not does)).0 in
    flags s.persistent ticked changed n (concerned c session (record s { persistent = ticked })) (changes plant session n c passed) (not (ticked.now == s.persistent.now)) told
    (both-told s.persistent ticked changed n (changes plant session n c passed) told moment (early-tick plant s.persistent n sound.persistent)
    (quiet-tick plant s.persistent n sound.persistent within early)) moment

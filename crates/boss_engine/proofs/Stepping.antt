-- The parts of a step, one after another, are the machine's step.
use Rattle.std.proofs.Common.{◌≡◌, ℕ, ◌≤◌, ◌<◌, ◌==◌, ◌^◌, ℤ, max, length, List, [], true, false, not, cond, Option, Some, None, is_some, IfSome, refl, ap, sym, subst, ◌∙◌, arith}
use Rattle.std.specs.Option.{option_map_or}
use Rattle.std.specs.List.{AllByRecursion}
use Rattle.std.proofs.lemmas.Bool.{cond_both}
use Rattle.boss_model.specs.declared.answer.Answer.{Answer}
use Rattle.boss_model.specs.declared.command.Command.{Command}
use Rattle.boss_model.specs.declared.event.Effect.{Effect}
use Rattle.boss_model.specs.declared.event.Effect.TheVariants as effect
use Rattle.boss_model.specs.Effects.{concerned, step_effect}
use Rattle.boss_model.specs.Catalogue.{default_of}
use Rattle.boss_model.specs.Devices.{proxy_of}
use Rattle.boss_model.specs.Same.{same_persistent}
use Rattle.boss_model.specs.Target.{in_force, playing, target, target_at, value_of}
use Rattle.boss_model.specs.Time.{tick_to}
use Rattle.law_effects.specs.Changes.{changes}
use Rattle.law_effects.proofs.Concerned.{concerned-passed}
use Rattle.law_effects.proofs.Flags.{step-flags}
use Rattle.boss_model.specs.declared.state.Actuator.{Actuator}
use Rattle.boss_model.specs.Machine.{act, pass_time, step}
use Rattle.boss_model.specs.Settle.{settle}
use Rattle.boss_model.specs.Sound.{IsAllowed, IsSound}
use Rattle.boss_model.specs.State.{State}
use Rattle.law_machine.proofs.Replay.{act-acts}
use Rattle.law_machine.proofs.SameDecides.{persistent-equal}
use Rattle.law_machine.proofs.Targets.{target-ticked}
use Rattle.boss_marks.specs.Marks.{Marks}
use Rattle.law_soundness.proofs.EndSound.{IsAt, at-tick}
use Rattle.law_soundness.proofs.StepSound.{passed-sound, step-sound}
use Rattle.law_due.specs.Playing.{IsPlayable}
use Rattle.boss_persistent.proofs.Current.{all-current, commanded-acted}
use Rattle.boss_persistent.proofs.Playable.{all-playable}
use Rattle.boss_holdings.specs.Held.{is_touched}
use Rattle.boss_persistent.specs.Lasting.{persistent_of}
use Rattle.boss_engine.specs.declared.done.Deed.{Deed}
use Rattle.boss_engine.specs.declared.machine.Machine.{Machine}
use Rattle.boss_engine.specs.Deeds.{is_answered_apart, IsBegun, IsDone}
use Rattle.boss_engine.specs.Inside.{HasPlaces, state_of}
use Rattle.boss_engine.specs.Replies.{IsTellable, is_told_apart, told}
use Rattle.boss_engine.proofs.Waiting.{length-settled}

-- a step begins in the state that the points are open in
pub begins : (plant : List Actuator) (c : Command) (moment before n : ℕ) (opened from : State) → opened ≡ from → IsAllowed plant c → moment ≤ 2 ^ 60 → IsSound plant from →
    before ≡ opened.persistent.now → n ≡ max before moment → IsBegun plant c moment before n opened
begins plant c moment before n opened from is allowed small sound first at = record {
  allowed = allowed;
  small = small;
  sound = subst (IsSound plant) (sym is) sound;
  first = first;
  at = at ∙ ap (λ k. max k moment) first;
}

-- the process that was concerned is told where something was changed
one-owner : (n : ℕ) (rest : Effect) (given : Option ℕ) (other : ℕ) → IfSome given (λ owner. owner ≡ other) →
    option_map_or (effect.Whole n) given rest ≡ cond (is_some given) (effect.Whole n other) rest
one-owner n rest (Some owner) other is = ap (effect.Whole n) is
one-owner n rest None other is = refl

module _ (plant : List Actuator) (session : ℕ) (c : Command) (m n : ℕ) (s : State) (at : n ≡ max s.persistent.now m)
    (allowed : IsAllowed plant c) (small : m ≤ 2 ^ 60) (sound : IsSound plant s) (p : State) (passed : p ≡ pass_time plant n s) where
  bounded : (s.persistent.now ≤ n) × (n ≤ 2 ^ 60)
  bounded = let now : s.persistent.now ≤ 2 ^ 60 = sound.persistent.now in (omega arith, omega arith)

  pub passed-at : IsAt n p.persistent
  passed-at = subst (λ t. IsAt n t.persistent) (sym passed) (at-tick s.persistent n bounded.0)

  pub passed-moment : (p.persistent.now ≤ n) × (n ≤ 2 ^ 60)
  passed-moment = (passed-at.reached, bounded.1)

  pub passed-well : IsSound plant p
  passed-well = subst (IsSound plant) (sym passed) (passed-sound plant n s bounded.0 bounded.1 sound)

  pub answered : (given : Answer) → given ≡ (act plant session n c p).answer → given ≡ (step plant session c m s).answer
  unfolding step
  answered given is = is ∙ ap (λ t. (act plant session n c t).answer) passed ∙ ap (λ k. (act plant session k c (pass_time plant k s)).answer) at

  pub stepped : (a : State) → a ≡ (act plant session n c p).state → settle plant a ≡ (step plant session c m s).state
  unfolding step
  stepped a is = ap (settle plant) (is ∙ ap (λ t. (act plant session n c t).state) passed) ∙ ap (λ k. settle plant (act plant session k c (pass_time plant k s)).state) at

  pub settled-well : (a : State) → a ≡ (act plant session n c p).state → IsSound plant (settle plant a)
  settled-well a is = subst (IsSound plant) (sym (stepped a is)) (step-sound plant session c m s allowed small sound)

  pub acted-playable : (a : State) → a ≡ (act plant session n c p).state → AllByRecursion IsPlayable a.persistent.pending
  acted-playable a is = all-playable plant a.persistent (settled-well a is).persistent

  pub acted-number : (a : State) → a ≡ (act plant session n c p).state → (marks : Marks) → a.proxies ≡ marks.proxies → length marks.proxies ≡ length plant
  acted-number a is marks same =
      sym (ap length same) ∙ sym (length-settled plant a.persistent (record { drivers = []; proxies = a.proxies; wants = a.wants })) ∙ (settled-well a is).proxies

  -- nothing is due between the passed moment and the command's, so the targets before it are those of either
  same-targets : (k : ℕ) → target_at plant (act plant session n c p).state.persistent.now p.persistent k ≡ target plant p.persistent k
  same-targets k =
      let a = (act plant session n c p).state in
      let ticked : target_at plant n p.persistent k ≡ target plant p.persistent k =
      subst (λ t. target_at plant n t.persistent k ≡ target plant t.persistent k) (sym passed) (target-ticked plant s.persistent n k sound.persistent bounded.0 bounded.1) in
      cond_both (same_persistent p.persistent a.persistent) true false (λ _. target_at plant a.persistent.now p.persistent k ≡ target plant p.persistent k)
      (λ same. ap (λ d. target_at plant d.now p.persistent k) (sym (persistent-equal p.persistent a.persistent same)))
      (λ differs. ap (λ m. target_at plant m p.persistent k) (act-acts plant n session p passed-well.attached c allowed differs).0 ∙ ticked)

  -- a point that is to have what it was to have before the command was last told what it is to have
  pub acted-current : (a : State) → a ≡ (act plant session n c p).state → (k : ℕ) → k < length plant →
      ((default : ℤ) (moment : ℕ) → value_of default moment (in_force a.persistent.leases k) (playing a.persistent.pending k) ≡ value_of default moment (in_force p.persistent.leases k) (playing p.persistent.pending k)) →
      (proxy_of a.proxies k).commanded ≡ target plant a.persistent k
  acted-current a is k within shows =
      ap (λ (t : State). (proxy_of t.proxies k).commanded) is ∙ commanded-acted p plant session n c k ∙ all-current plant p passed-well k within
      ∙ sym (same-targets k) ∙ ap (λ (t : State). target_at plant t.persistent.now p.persistent k) (sym is) ∙ sym (shows (default_of plant k) a.persistent.now)

  -- the process that the command concerned where it changed something, and the moments before and after tell the effect
  pub told-by : (given : Option ℕ) (before end : ℕ) → is_some given ≡ changes plant session n c p → IfSome given (λ owner. owner ≡ concerned c session p) → before ≡ s.persistent.now → end ≡ p.persistent.now →
      option_map_or (effect.Whole n) given (cond (not (end == before)) (effect.Tick end) effect.Unchanged) ≡ step_effect plant session c m s
  told-by given before end is-changed is-owner is-before is-end =
      let k = max s.persistent.now m in
      let flag : is_some given ≡ changes plant session k c (pass_time plant k s) =
      is-changed ∙ ap (changes plant session n c) passed ∙ ap (λ x. changes plant session x c (pass_time plant x s)) at in
      let whose : concerned c session p ≡ concerned c session (record s { persistent = tick_to k s.persistent }) =
      ap (concerned c session) passed ∙ ap (λ x. concerned c session (pass_time plant x s)) at ∙ concerned-passed plant session k s c in
      let reached : end ≡ (tick_to k s.persistent).now = is-end ∙ ap (λ t. t.persistent.now) passed ∙ ap (λ x. (tick_to x s.persistent).now) at in
      one-owner n _ given (concerned c session p) is-owner
      ∙ (λ i. cond (flag i) (effect.Whole (at i) (whose i)) (cond (not (reached i == is-before i)) (effect.Tick (reached i)) effect.Unchanged))
      ∙ sym (step-flags plant s session c m sound allowed small)

  -- a command that acted once time had passed was carried out
  pub carried-out : (m : Machine) (deed : Deed) → told (persistent_of m.lasting) deed.done.reply ≡ (act plant session n c p).answer → IsTellable plant (persistent_of m.lasting) deed.done.reply →
      (is_answered_apart c ≡ false → is_told_apart deed.done.reply ≡ false) → is_some deed.done.concerned ≡ changes plant session n c p → IfSome deed.done.concerned (λ owner. owner ≡ concerned c session p) → deed.passed ≡ p.persistent.now → state_of m ≡ (act plant session n c p).state → HasPlaces plant m →
      ((k : ℕ) → is_touched m.lasting.holdings k ≡ false → (default : ℤ) (moment : ℕ) →
      value_of default moment (in_force (persistent_of m.lasting).leases k) (playing (persistent_of m.lasting).pending k) ≡ value_of default moment (in_force p.persistent.leases k) (playing p.persistent.pending k)) →
      IsDone plant session c n s m deed
  carried-out m deed is-answer tellable apart is-changed is-owner is-passed is-state places shows = record {
    answer = is-answer ∙ ap (λ t. (act plant session n c t).answer) passed;
    tellable = tellable;
    apart = apart;
    changed = is-changed ∙ ap (changes plant session n c) passed;
    owner = subst (λ t. IfSome deed.done.concerned (λ owner. owner ≡ concerned c session t)) passed is-owner;
    passed = is-passed ∙ ap (λ (t : State). t.persistent.now) passed;
    state = is-state ∙ ap (λ t. (act plant session n c t).state) passed;
    places = places;
    current = λ k within left. acted-current (state_of m) is-state k within (shows k left);
  }

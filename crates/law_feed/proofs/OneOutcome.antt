-- A follower makes one thing of lines.
use Rattle.std.proofs.Common.{◌≡◌, inl, inr, ℕ, ◌+◌, nat_le, Bool, true, false, List, [], ◌∷◌, ◌++◌, length, Option, Some, None, sym, ap, ◌∙◌, subst}
use Rattle.std.specs.Prelude.{MatchBool}
use Rattle.boss_model.specs.declared.state.Actuator.{Actuator}
use Rattle.boss_model.specs.Acts.{replay}
use Rattle.boss_model.specs.Limits.{longest_line}
use Rattle.boss_model.specs.Lines.{is_blank}
use Rattle.boss_model.specs.State.{Persistent}
use Rattle.def_bytes.specs.Events.{event}
use Rattle.def_bytes.specs.States.{state}
use Rattle.def_bytes.proofs.Exact.{one-spelling}
use Rattle.def_bytes.proofs.OfEvents.{event_spelled}
use Rattle.def_bytes.proofs.OfStates.{state_spelled}
use Rattle.def_feed.specs.Items.{Item}
use Rattle.def_feed.specs.Followers.{Follower, between, Step, On, Fault, Gap, Next, Whole, step_of, IsEvent, IsState, Outcome, BadLine, TooLong, IfAny, OnStep, OnRead, Follows}
use Rattle.law_feed.proofs.OneItem.{one-item}

-- ---- what bytes lead to

some-is : (d e : Persistent) → Some d ≡ Some e → d ≡ e
some-is d e is = cc

one-event : (plant : List Actuator) (from : Persistent) (bytes : List ℕ) (d e : Persistent) → IsEvent plant from bytes d → IsEvent plant from bytes e → d ≡ e
one-event plant from bytes d e is also =
    let same = (one-spelling event event_spelled.exact is.made also.made [] [] is.fits also.fits (ap (λ t. t ++ []) (sym is.spelled ∙ also.spelled))).0 in
    some-is d e (sym is.leads ∙ ap (λ made. replay plant made from) same ∙ also.leads)

one-state : (plant : List Actuator) (bytes : List ℕ) (d e : Persistent) → IsState plant bytes d → IsState plant bytes e → d ≡ e
one-state plant bytes d e is also =
    (one-spelling (state 2) (state_spelled 2).exact d e [] [] is.fits also.fits (ap (λ t. t ++ []) (sym is.spelled ∙ also.spelled))).0

-- ---- steps

both-tests : {X : Type 0} (test : Bool) (P Q R S : Type 0) → (P → R → X) → (Q → S → X) → MatchBool test P Q → MatchBool test R S → X
both-tests true P Q R S this that a b = this a b
both-tests false P Q R S this that a b = that a b

both-any : {X : Type 0} (Is Said Also : Persistent → Type 0) (P Q : Type 0) → ((d e : Persistent) → Is d → Is e → d ≡ e) → ((d : Persistent) → Said d → Also d → X) → (P → Q → X) →
    IfAny Is Said P → IfAny Is Also Q → X
both-any Is Said Also P Q one some none (inl a) (inl b) = some b.0 (subst Said (one a.0 b.0 a.1 b.1) a.2) b.2
both-any Is Said Also P Q one some none (inl a) (inr b) = absurd (b.0 a.0 a.1)
both-any Is Said Also P Q one some none (inr a) (inl b) = absurd (a.0 b.0 b.1)
both-any Is Said Also P Q one some none (inr a) (inr b) = none a.1 b.1

module _ (plant : List Actuator) (f : Follower) (number : ℕ) (Rest Others : Follower → Type 0) (one other : Outcome) (next : (g : Follower) → Rest g → Others g → one ≡ other) where
  same-step : (step : Step) → OnStep plant f number Rest one step → OnStep plant f number Others other step → one ≡ other
  same-step (On g) a b = next g a b
  same-step Fault a b = a ∙ sym b
  same-step (Gap have found) a b = a ∙ sym b
  same-step (Next bytes) a b = both-any (IsEvent plant f.lasting bytes) (λ d. Rest (between d (f.count + 1))) (λ d. Others (between d (f.count + 1)))
      (one ≡ BadLine number f) (other ≡ BadLine number f) (one-event plant f.lasting bytes) (λ d. next (between d (f.count + 1))) (λ x y. x ∙ sym y) a b
  same-step (Whole many bytes) a b = both-any (IsState plant bytes) (λ d. Rest (between d many)) (λ d. Others (between d many))
      (one ≡ BadLine number f) (other ≡ BadLine number f) (one-state plant bytes) (λ d. next (between d many)) (λ x y. x ∙ sym y) a b

  same-read : (read : Option Item) → OnRead plant f number Rest one read → OnRead plant f number Others other read → one ≡ other
  same-read None a b = a ∙ sym b
  same-read (Some item) a b = same-step (step_of f item) a b

-- ---- lines

pub one-outcome : (plant : List Actuator) (lines : List (List ℕ)) (f : Follower) (number : ℕ) (one other : Outcome) → Follows plant f number lines one → Follows plant f number lines other →
    one ≡ other
one-outcome plant [] f number one other a b = a ∙ sym b
one-outcome plant (line ∷ lines) f number one other a b =
    both-tests (nat_le (length line) longest_line) _ (one ≡ TooLong f) _ (other ≡ TooLong f)
    (both-tests (is_blank line) (Follows plant f (number + 1) lines one) _ (Follows plant f (number + 1) lines other) _ (one-outcome plant lines f (number + 1) one other)
    (λ x y. same-read plant f number (λ next. Follows plant next (number + 1) lines one) (λ next. Follows plant next (number + 1) lines other) one other
    (λ g. one-outcome plant lines g (number + 1) one other) y.0
    (subst (OnRead plant f number (λ next. Follows plant next (number + 1) lines one) one) (one-item line x.0 y.0 x.1 y.1) x.2) y.2))
    (λ x y. x ∙ sym y) a b

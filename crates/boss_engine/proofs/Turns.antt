-- Settling point by point: each point's turn is that of a round over all of them, and points that have their targets need none.
use Rattle.std.proofs.Common.{◌≡◌, ℕ, ◌+◌, ◌-◌, ◌<◌, ◌≤◌, Bool, true, false, not, cond, List, length, refl, ap, sym, ◌∙◌, subst, arith}
use Rattle.std.specs.Ordering.{int_eq}
use Rattle.std.proofs.lemmas.Bool.Decides.{Decides-int_eq}
use Rattle.boss_model.specs.declared.state.Actuator.{Actuator}
use Rattle.boss_model.specs.Devices.{proxy_of}
use Rattle.boss_model.specs.Settle.{is_moved, recommanded}
use Rattle.boss_model.specs.State.{Persistent}
use Rattle.boss_model.specs.Target.{target}
use Rattle.boss_marks.specs.Marks.{Marks, settled}
use Rattle.boss_marks.proofs.Rounds.{turned, turned_below, turned_below-all, turned_below-more, turned_below-skips}
use Rattle.boss_engine.specs.Settling.{settled_by}

cond-not : {X : Type 0} (b : Bool) (x y : X) → cond b x y ≡ cond (not b) y x
cond-not true x y = refl
cond-not false x y = refl

module _ (plant : List Actuator) (d : Persistent) where
  -- a point that is settled has its turn
  settled-turned : (point : ℕ) (marks : Marks) → settled point (target plant d point) marks ≡ turned (is_moved plant d) (recommanded plant d) point marks
  settled-turned point marks = cond-not (int_eq (target plant d point) (proxy_of marks.proxies point).commanded) _ _

  module _ (marks : Marks) (from : ℕ) where
    -- points that have their targets are passed over
    passed : (point : ℕ) → from ≤ point → point ≤ length marks.proxies →
        ((k : ℕ) → from ≤ k → k < point → (proxy_of marks.proxies k).commanded ≡ target plant d k) →
        turned_below (is_moved plant d) (recommanded plant d) point marks ≡ turned_below (is_moved plant d) (recommanded plant d) from marks
    passed point low within same =
        let reach : from + (point - from) ≡ point = omega arith in
        subst (λ k. turned_below (is_moved plant d) (recommanded plant d) k marks ≡ turned_below (is_moved plant d) (recommanded plant d) from marks) reach
        (turned_below-skips (is_moved plant d) (recommanded plant d) from (point - from) marks (omega arith)
        (λ k above below. let equal : int_eq (target plant d k) (proxy_of marks.proxies k).commanded ≡ true = (Decides-int_eq (target plant d k) (proxy_of marks.proxies k).commanded).1 (sym (same k above (omega arith))) in
        ap not equal))

    pub settled-next : (point : ℕ) → from ≤ point → point < length marks.proxies →
        ((k : ℕ) → from ≤ k → k < point → (proxy_of marks.proxies k).commanded ≡ target plant d k) →
        settled point (target plant d point) (turned_below (is_moved plant d) (recommanded plant d) from marks)
        ≡ turned_below (is_moved plant d) (recommanded plant d) (point + 1) marks
    settled-next point low within same =
        settled-turned point (turned_below (is_moved plant d) (recommanded plant d) from marks)
        ∙ ap (turned (is_moved plant d) (recommanded plant d) point) (sym (passed point low (omega arith) same))
        ∙ turned_below-more (is_moved plant d) (recommanded plant d) point marks within

    pub settled-rest : from ≤ length marks.proxies → ((k : ℕ) → from ≤ k → k < length marks.proxies → (proxy_of marks.proxies k).commanded ≡ target plant d k) →
        turned_below (is_moved plant d) (recommanded plant d) from marks ≡ settled_by plant d marks
    settled-rest low same = sym (passed (length marks.proxies) low (omega arith) same) ∙ turned_below-all (is_moved plant d) (recommanded plant d) marks

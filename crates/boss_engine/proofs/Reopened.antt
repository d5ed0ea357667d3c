-- Marks of which each point was started are those that a persistent part opens to.
use Rattle.std.proofs.Common.{◌≡◌, ℕ, zero, suc, ◌+◌, ◌<◌, ◌≤◌, ◌==◌, Bool, true, false, not, List, [], ◌∷◌, ◌++◌, length, map, take, drop, refl, ap, ◌∙◌, append-nil, arith}
use Rattle.std.specs.List.{filter, enumerate_from, range_with_len, AllByRecursion}
use Rattle.std.proofs.lemmas.Bool.Decides.{nat_tests}
use Rattle.boss_model.specs.declared.state.Actuator.{Actuator}
use Rattle.boss_model.specs.Lists.{member}
use Rattle.boss_model.specs.Settle.{changed_if, fresh, opened, places, wanted_anew}
use Rattle.boss_model.specs.declared.state.Proxy.{Proxy}
use Rattle.boss_model.specs.State.{Persistent}
use Rattle.boss_model.specs.Target.{target}
use Rattle.boss_marks.specs.Marks.{Marks}
use Rattle.boss_marks.proofs.Rounds.{turned_below}
use Rattle.law_time.proofs.Filters.{filter-none}
use Rattle.law_time.proofs.Orders.{each-map}
use Rattle.boss_engine.specs.Settling.{opened_by}

-- each point is started
abbrev pub any : ℕ × Proxy → Bool
any place = true

abbrev pub anew : List Actuator → Persistent → ℕ × Proxy → Proxy
anew plant d place = fresh (target plant d place.0)

taken-all : {X : Type 0} (xs : List X) → take (length xs) xs ≡ xs
taken-all [] = refl
taken-all (x ∷ xs) = ap (λ ys. x ∷ ys) (taken-all xs)

dropped-all : {X : Type 0} (xs : List X) → drop (length xs) xs ≡ []
dropped-all [] = refl
dropped-all (x ∷ xs) = dropped-all xs

fresh-from : (plant : List Actuator) (d : Persistent) (place : ℕ) (proxies : List Proxy) →
    map (anew plant d) (enumerate_from place proxies) ≡ map (λ point. fresh (target plant d point)) (range_with_len place (length proxies))
fresh-from plant d place [] = refl
fresh-from plant d place (p ∷ ps) = ap (λ rest. fresh (target plant d place) ∷ rest) (fresh-from plant d (place + 1) ps)

all-places : (place : ℕ) (proxies : List Proxy) → map (λ (p : ℕ × Proxy). p.0) (filter any (enumerate_from place proxies)) ≡ range_with_len place (length proxies)
all-places place [] = refl
all-places place (p ∷ ps) = ap (λ rest. place ∷ rest) (all-places (place + 1) ps)

within-here : (from count point : ℕ) (same : Bool) → (from == point) ≡ same → (from < point → member point (range_with_len (from + 1) count) ≡ true) → from ≤ point →
    member point (range_with_len from (suc count)) ≡ true
within-here from count point true is later above = grind (arith, nat_tests)
within-here from count point false is later above =
    let rest : member point (range_with_len (from + 1) count) ≡ true = later (let other : from < point = grind (arith, nat_tests) in other) in grind (arith, nat_tests)

within-range : (from count point : ℕ) → from ≤ point → point < from + count → member point (range_with_len from count) ≡ true
within-range from zero point above below = absurd (omega arith)
within-range from (suc count) point above below =
    within-here from count point (from == point) refl (λ later. within-range (from + 1) count point (omega arith) (omega arith)) above

module _ (plant : List Actuator) (d : Persistent) (marks : Marks) (many : length marks.proxies ≡ length plant) (known : AllByRecursion (λ want. want < length marks.proxies) marks.wants) where
  proxies-anew : changed_if any (anew plant d) (take (length marks.proxies) marks.proxies) ++ drop (length marks.proxies) marks.proxies ≡ (opened plant d).proxies
  proxies-anew = (λ i. changed_if any (anew plant d) (taken-all marks.proxies i) ++ dropped-all marks.proxies i) ∙ append-nil (changed_if any (anew plant d) marks.proxies)
      ∙ fresh-from plant d 0 marks.proxies ∙ ap (λ k. map (λ point. fresh (target plant d point)) (range_with_len 0 k)) many

  wants-anew : wanted_anew (places any (take (length marks.proxies) marks.proxies)) marks.wants ≡ (opened plant d).wants
  wants-anew =
      let all : places any (take (length marks.proxies) marks.proxies) ≡ range_with_len 0 (length marks.proxies) = ap (places any) (taken-all marks.proxies) ∙ all-places 0 marks.proxies in
      let none : filter (λ want. not (member want (range_with_len 0 (length marks.proxies)))) marks.wants ≡ [] =
      filter-none (λ want. not (member want (range_with_len 0 (length marks.proxies)))) marks.wants
      (each-map (λ (want : ℕ). want < length marks.proxies) (λ (want : ℕ). not (member want (range_with_len 0 (length marks.proxies))) ≡ false)
      (λ want below. ap not (within-range 0 (length marks.proxies) want (omega arith) (omega (arith, below)))) marks.wants known) in
      ap (λ points. wanted_anew points marks.wants) all ∙ ap (λ rest. rest ++ range_with_len 0 (length marks.proxies)) none ∙ ap (range_with_len 0) many

  pub all-started : turned_below any (anew plant d) (length marks.proxies) marks ≡ opened_by plant d marks
  all-started = λ i. record marks { proxies = proxies-anew i; wants = wants-anew i }

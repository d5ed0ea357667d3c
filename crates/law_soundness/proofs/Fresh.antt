-- What a point is commanded once it has settled, and at the opening.
use Rattle.std.proofs.Common.{◌≡◌, ℕ, zero, suc, ◌+◌, ◌<◌, ℤ, List, length, map, refl, ap, sym, ◌∙◌, arith}
use Rattle.std.specs.List.{range_with_len}
use Rattle.std.proofs.lemmas.Bool.{cond_both}
use Rattle.std.proofs.lemmas.Bool.Decides.{nat_tests, Decides-int_eq}
use Rattle.boss_model.specs.declared.state.Actuator.{Actuator}
use Rattle.boss_model.specs.declared.state.Proxy.{Proxy}
use Rattle.boss_model.specs.Devices.{proxy_of}
use Rattle.boss_model.specs.Settle.{fresh, is_moved, recommanded, settle}
use Rattle.boss_model.specs.State.{State}
use Rattle.boss_model.specs.Target.{target}
use Rattle.law_time.proofs.Places.{proxy_of-changed}

pub commanded-settled : (plant : List Actuator) (point : ℕ) (s : State) → point < length s.proxies →
    (proxy_of (settle plant s).proxies point).commanded ≡ target plant s.persistent point
commanded-settled plant point s known =
    let p = proxy_of s.proxies point in
    ap (λ q. q.commanded) (proxy_of-changed (is_moved plant s.persistent) (recommanded plant s.persistent) point s.proxies known)
    ∙ cond_both (is_moved plant s.persistent (point, p)) (recommanded plant s.persistent (point, p)) p (λ q. q.commanded ≡ target plant s.persistent point)
    (λ _. refl) (λ still. sym ((Decides-int_eq (target plant s.persistent point) p.commanded).0 (grind (arith, nat_tests))))

pub fresh-at : (f : ℕ → ℤ) (place k count : ℕ) → k < count → proxy_of (map (λ point. fresh (f point)) (range_with_len place count)) k ≡ fresh (f (place + k))
fresh-at f place k zero within = absurd (omega arith)
fresh-at f place zero (suc count) within = ap (λ n. fresh (f n)) (omega arith)
fresh-at f place (suc k) (suc count) within = fresh-at f (place + 1) k count (omega arith) ∙ ap (λ n. fresh (f n)) (omega arith)

pub length-range : (f : ℕ → Proxy) (place count : ℕ) → length (map f (range_with_len place count)) ≡ count
length-range f place zero = refl
length-range f place (suc count) = ap suc (length-range f (place + 1) count)

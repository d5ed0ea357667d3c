-- No failed device is to be tried again before the moment that is kept.
use Rattle.std.proofs.Common.{◌≡◌, ℕ, zero, suc, ◌<◌, ◌≤◌, ℤ, List, [], ◌∷◌, length, map, set, get_or, pos, false, sym, subst, arith}
use Rattle.std.specs.List.{AllByRecursion}
use Rattle.std.proofs.lemmas.Bool.Decides.{nat_tests}
use Rattle.std.proofs.lemmas.Option.{unwrap_or-slice_get}
use Rattle.boss_model.specs.declared.state.Proxy.{Proxy}
use Rattle.boss_model.specs.Devices.{proxy_of}
use Rattle.boss_model.specs.Settle.{fresh, is_retried}
use Rattle.boss_marks.specs.Marks.{IsEarly}

pub early-set : (next : ℕ) (proxies : List Proxy) (place : ℕ) (proxy : Proxy) → IsEarly next proxy → AllByRecursion (IsEarly next) proxies →
    AllByRecursion (IsEarly next) (set proxies place proxy)
early-set next [] place proxy here all = all
early-set next (p ∷ ps) zero proxy here all = (here, all.1)
early-set next (p ∷ ps) (suc place) proxy here all = (all.0, early-set next ps place proxy here all.1)

-- an earlier moment does as well
pub early-sooner : (next sooner : ℕ) (proxies : List Proxy) → sooner ≤ next → AllByRecursion (IsEarly next) proxies → AllByRecursion (IsEarly sooner) proxies
early-sooner next sooner [] less all = tt
early-sooner next sooner (p ∷ ps) less all = ((λ failed. let early = all.0 failed in omega arith), early-sooner next sooner ps less all.1)

early-at : (next : ℕ) (proxies : List Proxy) (k : ℕ) (blank : Proxy) → AllByRecursion (IsEarly next) proxies → k < length proxies → IsEarly next (get_or proxies k blank)
early-at next [] k blank all within = absurd (omega arith)
early-at next (p ∷ ps) zero blank all within = all.0
early-at next (p ∷ ps) (suc k) blank all within = early-at next ps k blank all.1 (omega arith)

-- before it none is due
pub none-retried : (n next : ℕ) (proxies : List Proxy) → n < next → AllByRecursion (IsEarly next) proxies →
    (k : ℕ) → k < length proxies → is_retried n (k, proxy_of proxies k) ≡ false
none-retried n next proxies before all k within =
    let blank = fresh (pos 0) in
    subst (λ proxy. is_retried n (k, proxy) ≡ false) (sym (unwrap_or-slice_get proxies k blank)) (not-due (get_or proxies k blank) (early-at next proxies k blank all within))
  where
    not-due : (proxy : Proxy) → IsEarly next proxy → is_retried n (k, proxy) ≡ false
    not-due proxy early = grind (arith, nat_tests)

-- what was told nothing yet has not failed
pub early-fresh : {X : Type 0} (next : ℕ) (value : X → ℤ) (points : List X) → AllByRecursion (IsEarly next) (map (λ point. fresh (value point)) points)
early-fresh next value [] = tt
early-fresh next value (point ∷ points) = ((λ failed. cc), early-fresh next value points)

-- Points and their proxies, by place.
use Rattle.std.proofs.Common.{◌≡◌, ℕ, zero, suc, ◌+◌, ◌<◌, ◌≤◌, ◌==◌, List, [], ◌∷◌, length, map, set, Bool, true, false, not, ◌||◌, if◌then◌else◌, refl, ap, sym, ◌∙◌, subst, arith, zero-add}
use Rattle.std.specs.List.{filter, enumerate_from, AllByRecursion}
use Rattle.std.proofs.lemmas.Bool.{cond_both}
use Rattle.std.proofs.lemmas.Bool.Decides.{nat_tests}
use Rattle.boss_model.specs.declared.state.Proxy.{Proxy}
use Rattle.boss_model.specs.Devices.{proxy_of}
use Rattle.boss_model.specs.Lists.{member}
use Rattle.boss_model.specs.Settle.{places, changed_if, wanted_anew}
use Rattle.boss_model.specs.Sound.{Distinct}
use Rattle.boss_model.proofs.Members.{member-append, member-filter, Distinct-filter, Distinct-append, length-le_from_Distinct}

-- ---- numbers in a list

pub member-above : (n : ℕ) (xs : List ℕ) → AllByRecursion (λ x. n < x) xs → member n xs ≡ false
member-above n [] above = refl
member-above n (x ∷ xs) above = grind (arith, nat_tests, above.0, member-above n xs above.1)

-- points that are wanted anew, and those that were wanted
pub member-wanted_anew : (n : ℕ) (points wants : List ℕ) → member n (wanted_anew points wants) ≡ (member n wants || member n points)
member-wanted_anew n points wants =
    grind (arith, nat_tests, member-append n (filter (λ want. not (member want points)) wants) points, member-filter n (λ want. not (member want points)) wants)

pub Distinct-wanted_anew : (points wants : List ℕ) → Distinct points → Distinct wants → Distinct (wanted_anew points wants)
Distinct-wanted_anew points wants once p = Distinct-append (filter (λ want. not (member want points)) wants) points
    (Distinct-filter (λ want. not (member want points)) wants p) once (apart wants)
  where
    apart : (ws : List ℕ) → AllByRecursion (λ x. member x points ≡ false) (filter (λ want. not (member want points)) ws)
    apart [] = tt
    apart (w ∷ ws) = cond_both (not (member w points)) (w ∷ filter (λ want. not (member want points)) ws) (filter (λ want. not (member want points)) ws)
        (AllByRecursion (λ x. member x points ≡ false)) (λ out. (grind (arith, nat_tests), apart ws)) (λ _. apart ws)

-- ---- proxies that are changed where a test passes

module _ (test : ℕ × Proxy → Bool) (change : ℕ × Proxy → Proxy) where
  abbrev pub change_at : ℕ × Proxy → Proxy
  change_at place = if test place then change place else place.1

  length-changed_from : (place : ℕ) (ps : List Proxy) → length (map change_at (enumerate_from place ps)) ≡ length ps
  length-changed_from place [] = refl
  length-changed_from place (p ∷ ps) = ap suc (length-changed_from (place + 1) ps)

  pub length-changed : (ps : List Proxy) → length (changed_if test change ps) ≡ length ps
  length-changed ps = length-changed_from 0 ps

  proxy_of-changed_from : (place k : ℕ) (ps : List Proxy) → k < length ps → proxy_of (map change_at (enumerate_from place ps)) k ≡ change_at (place + k, proxy_of ps k)
  proxy_of-changed_from place k [] within = absurd (omega arith)
  proxy_of-changed_from place zero (p ∷ ps) within = ap (λ n. change_at (n, p)) (omega arith)
  proxy_of-changed_from place (suc k) (p ∷ ps) within =
      proxy_of-changed_from (place + 1) k ps (omega arith) ∙ ap (λ n. change_at (n, proxy_of ps k)) (omega arith)

  pub proxy_of-changed : (k : ℕ) (ps : List Proxy) → k < length ps → proxy_of (changed_if test change ps) k ≡ change_at (k, proxy_of ps k)
  proxy_of-changed k ps within = proxy_of-changed_from 0 k ps within ∙ ap (λ n. change_at (n, proxy_of ps k)) (zero-add k)

module _ (test : ℕ × Proxy → Bool) where
  above-places : (least place : ℕ) (ps : List Proxy) → least < place → AllByRecursion (λ x. least < x) (map (λ (e : ℕ × Proxy). e.0) (filter test (enumerate_from place ps)))
  above-places least place [] above = tt
  above-places least place (p ∷ ps) above =
      let rest = above-places least (place + 1) ps (omega arith) in
      cond_both (test (place, p)) ((place, p) ∷ filter test (enumerate_from (place + 1) ps)) (filter test (enumerate_from (place + 1) ps))
      (λ es. AllByRecursion (λ x. least < x) (map (λ (e : ℕ × Proxy). e.0) es)) (λ _. (above, rest)) (λ _. rest)

  Distinct-places_from : (place : ℕ) (ps : List Proxy) → Distinct (map (λ (e : ℕ × Proxy). e.0) (filter test (enumerate_from place ps)))
  Distinct-places_from place [] = tt
  Distinct-places_from place (p ∷ ps) =
      let rest = Distinct-places_from (place + 1) ps in
      cond_both (test (place, p)) ((place, p) ∷ filter test (enumerate_from (place + 1) ps)) (filter test (enumerate_from (place + 1) ps))
      (λ es. Distinct (map (λ (e : ℕ × Proxy). e.0) es))
      (λ _. (member-above place (map (λ (e : ℕ × Proxy). e.0) (filter test (enumerate_from (place + 1) ps))) (above-places place (place + 1) ps (omega arith)), rest)) (λ _. rest)

  pub Distinct-places : (ps : List Proxy) → Distinct (places test ps)
  Distinct-places ps = Distinct-places_from 0 ps

  member-places_from : (place k : ℕ) (ps : List Proxy) → k < length ps → member (place + k) (map (λ (e : ℕ × Proxy). e.0) (filter test (enumerate_from place ps))) ≡ test (place + k, proxy_of ps k)
  member-places_from place k [] within = absurd (omega arith)
  member-places_from place zero (p ∷ ps) within =
      let here : place + 0 ≡ place = omega arith in
      let away : member place (map (λ (e : ℕ × Proxy). e.0) (filter test (enumerate_from (place + 1) ps))) ≡ false =
      member-above place (map (λ (e : ℕ × Proxy). e.0) (filter test (enumerate_from (place + 1) ps))) (above-places place (place + 1) ps (omega arith)) in
      rw here (cond_both (test (place, p)) ((place, p) ∷ filter test (enumerate_from (place + 1) ps)) (filter test (enumerate_from (place + 1) ps))
      (λ es. test (place, p) ≡ test (place, p) → member place (map (λ (e : ℕ × Proxy). e.0) es) ≡ test (place, p)) (λ yes _. grind (arith, nat_tests)) (λ no _. grind (arith, nat_tests)) refl)
  member-places_from place (suc k) (p ∷ ps) within =
      let next : place + suc k ≡ place + 1 + k = omega arith in
      let rest : member (place + 1 + k) (map (λ (e : ℕ × Proxy). e.0) (filter test (enumerate_from (place + 1) ps))) ≡ test (place + 1 + k, proxy_of ps k) =
      member-places_from (place + 1) k ps (omega arith) in
      subst (λ n. member n (map (λ (e : ℕ × Proxy). e.0) (filter test ((place, p) ∷ enumerate_from (place + 1) ps))) ≡ test (n, proxy_of ps k)) (sym next)
      (cond_both (test (place, p)) ((place, p) ∷ filter test (enumerate_from (place + 1) ps)) (filter test (enumerate_from (place + 1) ps))
      (λ es. member (place + 1 + k) (map (λ (e : ℕ × Proxy). e.0) es) ≡ test (place + 1 + k, proxy_of ps k)) (λ _. grind (arith, nat_tests)) (λ _. rest))

  pub member-places : (k : ℕ) (ps : List Proxy) → k < length ps → member k (places test ps) ≡ test (k, proxy_of ps k)
  member-places k ps within = subst (λ n. member n (places test ps) ≡ test (n, proxy_of ps k)) (zero-add k) (member-places_from 0 k ps within)

  below-places_from : (place end : ℕ) (ps : List Proxy) → place + length ps ≤ end → AllByRecursion (λ x. x < end) (map (λ (e : ℕ × Proxy). e.0) (filter test (enumerate_from place ps)))
  below-places_from place end [] within = tt
  below-places_from place end (p ∷ ps) within =
      let rest = below-places_from (place + 1) end ps (omega arith) in
      cond_both (test (place, p)) ((place, p) ∷ filter test (enumerate_from (place + 1) ps)) (filter test (enumerate_from (place + 1) ps))
      (λ es. AllByRecursion (λ x. x < end) (map (λ (e : ℕ × Proxy). e.0) es)) (λ _. (omega arith, rest)) (λ _. rest)

  pub below-places : (ps : List Proxy) → AllByRecursion (λ x. x < length ps) (places test ps)
  below-places ps = below-places_from 0 (length ps) ps (omega arith)

-- what holds of each member of a list holds of all
pub each-member : (P : ℕ → Type 0) (xs : List ℕ) → ((n : ℕ) → member n xs ≡ true → P n) → AllByRecursion P xs
each-member P [] go = tt
each-member P (x ∷ xs) go = (go x (grind (arith, nat_tests)), each-member P xs (λ n there. go n (grind (arith, nat_tests))))

pub member-each : (P : ℕ → Type 0) (n : ℕ) (xs : List ℕ) → AllByRecursion P xs → member n xs ≡ true → P n
member-each P n [] all there = cc
member-each P n (x ∷ xs) all there = cond_both (x == n) true false (λ b. (x == n) ≡ b → P n)
    (λ is _. let same : x ≡ n = grind (arith, nat_tests) in subst P same all.0)
    (λ other _. member-each P n xs all.1 (grind (arith, nat_tests))) (grind arith)

-- ---- one proxy is changed

pub proxy_of-set : (ps : List Proxy) (point : ℕ) (proxy : Proxy) → point < length ps → proxy_of (set ps point proxy) point ≡ proxy
proxy_of-set [] point proxy within = absurd (omega arith)
proxy_of-set (p ∷ ps) zero proxy within = refl
proxy_of-set (p ∷ ps) (suc point) proxy within = proxy_of-set ps point proxy (omega arith)

pub proxy_of-other : (ps : List Proxy) (point other : ℕ) (proxy : Proxy) → (other == point) ≡ false → proxy_of (set ps point proxy) other ≡ proxy_of ps other
proxy_of-other [] point other proxy apart = refl
proxy_of-other (p ∷ ps) zero zero proxy apart = cc
proxy_of-other (p ∷ ps) zero (suc other) proxy apart = refl
proxy_of-other (p ∷ ps) (suc point) zero proxy apart = refl
proxy_of-other (p ∷ ps) (suc point) (suc other) proxy apart = proxy_of-other ps point other proxy (grind (arith, nat_tests))

-- numbers below n that are all different are at most n
pub at-most : (n : ℕ) (xs : List ℕ) → Distinct xs → AllByRecursion (λ x. x < n) xs → length xs ≤ n
at-most n xs once below = length-le_from_Distinct xs n once (λ x there. member-each (λ y. y < n) x xs below there)

-- Two workers never share a lane: each lane's work is that of one worker.
use Rattle.std.proofs.Common.{◌≡◌, ◌⊎◌, inl, inr, ℕ, suc, ◌+◌, ◌-◌, ◌*◌, ◌%◌, ◌<◌, ◌≤◌, ◌==◌, true, false, List, [], ◌∷◌, ◌++◌, refl, ap, sym, ◌∙◌, arith, append_assoc}
use Rattle.std.proofs.lemmas.Bool.{cond-true, cond-false}
use Rattle.std.proofs.lemmas.Bool.Decides.{nat_tests}
use Rattle.std.proofs.lemmas.List.{append-nil}
use Rattle.std.proofs.lemmas.List.Elements.{filter-append}
use Rattle.std.proofs.lemmas.Nat.{mod-mul-add}
use Rattle.boss_outside_server.specs.Hosts.{Served}
use Rattle.def_lanes.specs.Lanes.{Lane, of_session, of_driver, of_time, of_nobody, is_lane}
use Rattle.def_lanes.specs.Works.{Course, Work, visit, beat, drive, clock_cuts, course_of, lane_of_work, moments_in, owner, works_of, AreOf, IsBefore, AreBefore, IsAbsent, AreApart, AreStrange, served_by, served_in}
use Rattle.def_lanes.proofs.Lists.{each-append, each-map, each-turned}

-- ---- lanes are told apart

pub is_lane-self : (lane : Lane) → is_lane lane lane ≡ true
is_lane-self (of_session s) = grind (arith, nat_tests)
is_lane-self (of_driver d) = grind (arith, nat_tests)
is_lane-self of_time = refl
is_lane-self of_nobody = refl

pub same-lane : (lane other : Lane) → is_lane lane other ≡ true → lane ≡ other
same-lane (of_session s) (of_session t) is = let same : s ≡ t = grind (arith, nat_tests) in ap of_session same
same-lane (of_session s) (of_driver e) is = absurd cc
same-lane (of_session s) of_time is = absurd cc
same-lane (of_session s) of_nobody is = absurd cc
same-lane (of_driver d) (of_session t) is = absurd cc
same-lane (of_driver d) (of_driver e) is = let same : d ≡ e = grind (arith, nat_tests) in ap of_driver same
same-lane (of_driver d) of_time is = absurd cc
same-lane (of_driver d) of_nobody is = absurd cc
same-lane of_time (of_session t) is = absurd cc
same-lane of_time (of_driver e) is = absurd cc
same-lane of_time of_time is = refl
same-lane of_time of_nobody is = absurd cc
same-lane of_nobody (of_session t) is = absurd cc
same-lane of_nobody (of_driver e) is = absurd cc
same-lane of_nobody of_time is = absurd cc
same-lane of_nobody of_nobody is = refl

-- ---- owners

pub same-owner : (workers : ℕ) (x y : Work) → lane_of_work x ≡ lane_of_work y → owner workers x ≡ owner workers y
same-owner workers (visit served course) (visit other ended) is = let same : served.session ≡ other.session = cc in ap (λ s. (s - 1) % workers) same
same-owner workers (visit served course) (beat waited ended) is = absurd cc
same-owner workers (visit served course) (drive driver calls waited ended) is = absurd cc
same-owner workers (beat waited course) (visit other ended) is = absurd cc
same-owner workers (beat waited course) (beat others ended) is = refl
same-owner workers (beat waited course) (drive driver calls others ended) is = absurd cc
same-owner workers (drive driver calls waited course) (visit other ended) is = absurd cc
same-owner workers (drive driver calls waited course) (beat others ended) is = absurd cc
same-owner workers (drive driver calls waited course) (drive next made others ended) is = let same : driver ≡ next = cc in ap (λ d. workers + 1 + d) same

-- the sessions of a worker for connections: the first one, and then each one behind as many others as there are such workers
pub owner-session : (workers number turn : ℕ) (served : Served) (course : Course) → number < workers → served.session ≡ 1 + number + workers * turn →
    owner workers (visit served course) ≡ number
owner-session workers number turn served course less is =
    let place : served.session - 1 ≡ turn * workers + number = grind (arith) in
    ap (λ s. s % workers) place ∙ mod-mul-add turn workers number less

pub absent-append : (lane : Lane) (xs ys : List Work) → IsAbsent lane xs → IsAbsent lane ys → IsAbsent lane (xs ++ ys)
absent-append lane xs ys first then = each-append (λ work. ¬ (lane_of_work work ≡ lane)) xs ys first then

pub strange-turned : (xs ys : List Work) → AreStrange xs ys → AreStrange ys xs
strange-turned xs ys strange = each-turned (λ x y. ¬ (lane_of_work y ≡ lane_of_work x)) (λ y x. ¬ (lane_of_work x ≡ lane_of_work y)) (λ x y other same. other (sym same)) xs ys strange

pub strange-owners : (workers first middle end : ℕ) (xs ys : List Work) → AreOf workers first middle xs → AreOf workers middle end ys → AreStrange xs ys
strange-owners workers first middle end xs ys of_first of_then =
    each-map (λ x. (first ≤ owner workers x) × (owner workers x < middle)) (λ x. IsAbsent (lane_of_work x) ys)
    (λ x within. each-map (λ y. (middle ≤ owner workers y) × (owner workers y < end)) (λ y. ¬ (lane_of_work y ≡ lane_of_work x))
    (λ y above same. omega (arith, same-owner workers y x same, within.1, above.0)) ys of_then) xs of_first

pub apart-append : (xs ys : List Work) → AreApart xs → AreApart ys → AreStrange xs ys → AreApart (xs ++ ys)
apart-append [] ys first then strange = then
apart-append (x ∷ xs) ys first then strange = (absent-append (lane_of_work x) xs ys first.0 strange.0, apart-append xs ys first.1 then strange.1)

pub of-wider : (workers first end low high : ℕ) → low ≤ first → end ≤ high → (works : List Work) → AreOf workers first end works → AreOf workers low high works
of-wider workers first end low high below above works of_them =
    each-map (λ x. (first ≤ owner workers x) × (owner workers x < end)) (λ x. (low ≤ owner workers x) × (owner workers x < high))
    (λ x within. (omega (arith, within.0), omega (arith, within.1))) works of_them

pub of-append : (workers first end : ℕ) (xs ys : List Work) → AreOf workers first end xs → AreOf workers first end ys → AreOf workers first end (xs ++ ys)
of-append workers first end xs ys = each-append (λ x. (first ≤ owner workers x) × (owner workers x < end)) xs ys

pub served_in-append : (xs ys : List Work) → served_in (xs ++ ys) ≡ served_in xs ++ served_in ys
served_in-append [] ys = refl
served_in-append (x ∷ xs) ys = ap (λ rest. served_by x ++ rest) (served_in-append xs ys) ∙ sym (append_assoc (served_by x) (served_in xs) (served_in ys))

pub moments_in-append : (xs ys : List Work) → moments_in (xs ++ ys) ≡ moments_in xs ++ moments_in ys
moments_in-append [] ys = refl
moments_in-append (x ∷ xs) ys = ap (λ rest. (course_of x).moments ++ rest) (moments_in-append xs ys) ∙ sym (append_assoc (course_of x).moments (moments_in xs) (moments_in ys))

pub clock_cuts-append : (xs ys : List Work) → clock_cuts (xs ++ ys) ≡ clock_cuts xs + clock_cuts ys
clock_cuts-append [] ys = omega arith
clock_cuts-append (x ∷ xs) ys = let rest = clock_cuts-append xs ys in omega arith

-- ---- sessions that rise

not-next : (next : ℕ) (work : Work) → IsBefore next work → ¬ (lane_of_work work ≡ of_session next)
not-next next (visit served course) before is = let same : served.session ≡ next = cc in omega arith
not-next next (beat waited course) before is = before
not-next next (drive driver calls waited course) before is = before

pub before-absent : (next : ℕ) (works : List Work) → AreBefore next works → IsAbsent (of_session next) works
before-absent next works before = each-map (IsBefore next) (λ work. ¬ (lane_of_work work ≡ of_session next)) (not-next next) works before

before-later : (next later : ℕ) → next < later → (work : Work) → IsBefore next work → IsBefore later work
before-later next later less (visit served course) before = omega arith
before-later next later less (beat waited course) before = before
before-later next later less (drive driver calls waited course) before = before

pub before-more : (next later : ℕ) (works : List Work) (served : Served) (course : Course) → AreBefore next works → served.session ≡ next → next < later →
    AreBefore later (works ++ visit served course ∷ [])
before-more next later works served course before is less =
    each-append (IsBefore later) works (visit served course ∷ []) (each-map (IsBefore next) (IsBefore later) (before-later next later less) works before) (omega arith, tt)

-- ---- the works of one worker

-- others did none of them
pub works-none : (workers number first end : ℕ) (works : List Work) → AreOf workers first end works → (number < first) ⊎ (end ≤ number) → works_of workers number works ≡ []
works-none workers number first end [] are other = refl
works-none workers number first end (work ∷ works) are other =
    cond-false (owner workers work == number) (work ∷ works_of workers number works) (works_of workers number works) (differ other) ∙ works-none workers number first end works are.1 other
  where
    differ : (number < first) ⊎ (end ≤ number) → (owner workers work == number) ≡ false
    differ (inl less) = let low = are.0.0 in grind (arith, nat_tests)
    differ (inr more) = let high = are.0.1 in grind (arith, nat_tests)

-- it did all of its own
pub works-own : (workers number : ℕ) (works : List Work) → AreOf workers number (suc number) works → works_of workers number works ≡ works
works-own workers number [] are = refl
works-own workers number (work ∷ works) are =
    let low = are.0.0 in
    let high = are.0.1 in
    let own : (owner workers work == number) ≡ true = grind (arith, nat_tests) in
    cond-true (owner workers work == number) (work ∷ works_of workers number works) (works_of workers number works) own
    ∙ ap (λ rest. work ∷ rest) (works-own workers number works are.1)

works-both : (workers number : ℕ) (works others : List Work) → works_of workers number (works ++ others) ≡ works_of workers number works ++ works_of workers number others
works-both workers number works others = filter-append (λ work. owner workers work == number) works others

-- behind those of the workers with the numbers below n come those of the n-th
pub works-first : (workers number n : ℕ) (works others : List Work) → AreOf workers n (suc n) others → number < n →
    works_of workers number (works ++ others) ≡ works_of workers number works
works-first workers number n works others of_next less =
    works-both workers number works others ∙ ap (λ rest. works_of workers number works ++ rest) (works-none workers number n (suc n) others of_next (inl less))
    ∙ append-nil (works_of workers number works)

pub works-last : (workers n : ℕ) (works others : List Work) → AreOf workers 0 n works → AreOf workers n (suc n) others → works_of workers n (works ++ others) ≡ others
works-last workers n works others of_first of_next =
    works-both workers n works others ∙ ap (λ front. front ++ works_of workers n others) (works-none workers n 0 n works of_first (inr (omega arith)))
    ∙ works-own workers n others of_next

-- and of those behind nobody has any
pub works-behind : (workers number n : ℕ) (works others : List Work) → AreOf workers 0 n works → AreOf workers n (suc n) others → n < number →
    works_of workers number (works ++ others) ≡ []
works-behind workers number n works others of_first of_next more =
    works-both workers number works others ∙ ap (λ front. front ++ works_of workers number others) (works-none workers number 0 n works of_first (inr (omega arith)))
    ∙ works-none workers number n (suc n) others of_next (inr (omega arith))

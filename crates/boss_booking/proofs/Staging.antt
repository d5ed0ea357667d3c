-- The records as they are kept, one telling after another, against records of which none is ever dropped.
use Rattle.std.proofs.Common.{◌≡◌, ℕ, zero, suc, ◌+◌, ◌-◌, ◌==◌, List, [], ◌∷◌, ◌++◌, length, take, drop, Bool, true, false, not, ◌&&◌, ◌||◌, cond, map, Some, refl, ap, sym, ◌∙◌, subst, ⊎_elim, arith, length-append}
use Rattle.std.specs.List.{filter, fold, AllByRecursion}
use Rattle.std.proofs.lemmas.Bool.{cases_Bool, cond_both}
use Rattle.std.proofs.lemmas.Bool.Decides.{nat_tests}
use Rattle.std.proofs.lemmas.List.{take-append-le}
use Rattle.boss_model.specs.Happenings.{Happening, is_done, finish, tell}
use Rattle.boss_model.specs.Lists.{member, keep_last}
use Rattle.boss_model.specs.Sound.{Distinct}
use Rattle.boss_model.specs.State.{Process}
use Rattle.boss_model.proofs.Members.{Distinct-snoc, member-append, member-drop, Distinct-drop}
use Rattle.boss_stages.specs.Stages.{Tracked, Stages, number, kept_as, is_over, changed, finished, without, dropped}
use Rattle.law_time.proofs.Filters.{filter-filter, filter-same, filter-map, each-mapped}
use Rattle.law_time.proofs.Orders.{each-map, each-both}
use Rattle.boss_booking.specs.Books.{Telling, Books, after_what, is_end, all_done, booked}
use Rattle.boss_booking.proofs.Tellings.{turn, played, number-played, numbers-played, played-other, ends, awaits, all_played, over_in, AreFitting, over-fitting, after-end, after-other}

-- ---- numbers in the front and in the rest of a list

pub member-take : (n m : ℕ) (xs : List ℕ) → member n xs ≡ false → member n (take m xs) ≡ false
member-take n zero xs away = refl
member-take n (suc m) [] away = refl
member-take n (suc m) (x ∷ xs) away = grind (arith, nat_tests, member-take n m xs)

-- of numbers that stand once, those in the rest are those that are not in the front
pub member-rest : (n m : ℕ) (xs : List ℕ) → Distinct xs → member n (drop m xs) ≡ (member n xs && not (member n (take m xs)))
member-rest n zero xs once = grind arith
member-rest n (suc m) [] once = refl
member-rest n (suc m) (x ∷ xs) once = ⊎_elim
    (λ is.
    let same : x ≡ n = grind (arith, nat_tests) in
    let away : member n xs ≡ false = subst (λ k. member k xs ≡ false) same once.0 in
    let out : member n (drop m xs) ≡ false = member-drop n m xs away in grind (arith, nat_tests))
    (λ other. grind (arith, nat_tests, member-rest n m xs once.1))
    (cases_Bool (x == n))

-- ---- records by their numbers

none-numbered : (n : ℕ) (ks : List Tracked) → member n (map number ks) ≡ false → AllByRecursion (λ k. (number k == n) ≡ false) ks
none-numbered n [] away = tt
none-numbered n (k ∷ ks) away = (grind (arith), none-numbered n ks (grind (arith)))

-- the record of this number is the only one
pub own-over : (txn : ℕ) (ks : List Tracked) → Distinct (map number ks) → AllByRecursion (λ k. (number k == txn) ≡ true → is_over (Some k) ≡ over_in txn ks) ks
own-over txn [] once = tt
own-over txn (k ∷ ks) once =
    let P = λ (x : Tracked). (number x == txn) ≡ true → is_over (Some x) ≡ over_in txn (k ∷ ks) in
    ⊎_elim
    (λ is.
    let same : number k ≡ txn = grind (arith, nat_tests) in
    let here : over_in txn (k ∷ ks) ≡ is_over (Some k) = ap (λ b. is_over (cond b (Some k) (kept_as txn ks))) is in
    ((λ _. sym here), each-map (λ x. (number x == number k) ≡ false) P (λ x apart its. absurd (grind (arith, nat_tests))) ks (none-numbered (number k) ks once.0)))
    (λ other.
    let there : over_in txn (k ∷ ks) ≡ over_in txn ks = ap (λ b. is_over (cond b (Some k) (kept_as txn ks))) other in
    ((λ its. absurd (cc)), each-map (λ x. (number x == txn) ≡ true → is_over (Some x) ≡ over_in txn ks) P (λ x is its. is its ∙ sym there) ks (own-over txn ks once.1)))
    (cases_Bool (number k == txn))

-- what holds where there is a record of this number
numbered : (C : Type 0) (txn : ℕ) (ks : List Tracked) → AllByRecursion (λ k. (number k == txn) ≡ true → C) ks → over_in txn ks ≡ true → C
numbered C txn [] all over = absurd (cc)
numbered C txn (k ∷ ks) all over = ⊎_elim all.0
    (λ other. numbered C txn ks all.1 (sym (ap (λ b. is_over (cond b (Some k) (kept_as txn ks))) other) ∙ over))
    (cases_Bool (number k == txn))

-- a test that the record of this number passes
pub kept_as-filter : (txn : ℕ) (test : Tracked → Bool) (ks : List Tracked) → AllByRecursion (λ k. (number k == txn) ≡ true → test k ≡ true) ks → kept_as txn (filter test ks) ≡ kept_as txn ks
kept_as-filter txn test [] all = refl
kept_as-filter txn test (k ∷ ks) all =
    let rest : kept_as txn (filter test ks) ≡ kept_as txn ks = kept_as-filter txn test ks all.1 in
    cond_both (test k) (k ∷ filter test ks) (filter test ks) (λ xs. kept_as txn xs ≡ kept_as txn (k ∷ ks))
    (λ _. ap (λ r. cond (number k == txn) (Some k) r) rest)
    (λ out. rest ∙ sym (ap (λ b. cond b (Some k) (kept_as txn ks)) (⊎_elim (λ is. absurd (let pass : test k ≡ true = all.0 is in cc)) (λ other. other) (cases_Bool (number k == txn)))))

-- ---- which records are kept

-- something of it is left, or it is one of the last that became done
abbrev pub stays : List ℕ → Tracked → Bool
stays done kept = not (is_over (Some kept)) || member (number kept) done

pub record IsStaged (s : Stages) (ks : List Tracked) : Type 0 where
  pub kept : s.kept ≡ filter (stays s.done) ks
  pub over : AllByRecursion (λ k. member (number k) s.done ≡ true → is_over (Some k) ≡ true) ks
  pub once : Distinct s.done
  pub numbers : Distinct (map number ks)

-- ---- an end

module _ (s : Stages) (ks : List Tracked) (e : Telling) (staged : IsStaged s ks) (end : is_end e.happening.told ≡ true) (fit : over_in e.happening.txn ks ≡ false) where
  abbrev txn : ℕ
  txn = e.happening.txn

  abbrev ks2 : List Tracked
  ks2 = map (played e) ks

  -- the records before the one that makes room is dropped
  abbrev s1 : Stages
  s1 = record s { kept = changed txn (turn e.happening.told e.happening.at e.reverts) s.kept }

  abbrev passes : Tracked → Bool
  passes k = (number k == txn) || stays s.done k

  numbers2 : Distinct (map number ks2)
  numbers2 = subst Distinct (sym (numbers-played e ks)) staged.numbers

  -- the one whose part ends is not over before, and so not done
  not_done : AllByRecursion (λ k. (number k == txn) ≡ true → member txn s.done ≡ false) ks2
  not_done = each-mapped (λ k. (number k == txn) ≡ true → member txn s.done ≡ false) (played e) ks
      (each-map (λ k. ((number k == txn) ≡ true → is_over (Some k) ≡ over_in txn ks) × (member (number k) s.done ≡ true → is_over (Some k) ≡ true))
      (λ k. (number (played e k) == txn) ≡ true → member txn s.done ≡ false)
      (λ k both its.
      let own : (number k == txn) ≡ true = ap (λ n. n == txn) (sym (number-played e k)) ∙ its in
      let same : number k ≡ txn = grind (arith, nat_tests) in
      let out : is_over (Some k) ≡ false = both.0 own ∙ fit in
      let none : member (number k) s.done ≡ false = ⊎_elim (λ there. absurd (let over : is_over (Some k) ≡ true = both.1 there in cc)) (λ away. away) (cases_Bool (member (number k) s.done)) in
      subst (λ n. member n s.done ≡ false) same none)
      ks (each-both (λ k. (number k == txn) ≡ true → is_over (Some k) ≡ over_in txn ks) (λ k. member (number k) s.done ≡ true → is_over (Some k) ≡ true) ks (own-over txn ks staged.numbers) staged.over))

  others : AllByRecursion (λ k. (number k == txn) ≡ false → member (number k) s.done ≡ true → is_over (Some k) ≡ true) ks2
  others = each-mapped (λ k. (number k == txn) ≡ false → member (number k) s.done ≡ true → is_over (Some k) ≡ true) (played e) ks
      (each-map (λ k. member (number k) s.done ≡ true → is_over (Some k) ≡ true)
      (λ k. (number (played e k) == txn) ≡ false → member (number (played e k)) s.done ≡ true → is_over (Some (played e k)) ≡ true)
      (λ k over apart.
      let away : (number k == txn) ≡ false = ap (λ n. n == txn) (sym (number-played e k)) ∙ apart in
      let same : played e k ≡ k = ap (λ b. cond b (turn e.happening.told e.happening.at e.reverts k) k) away in
      subst (λ x. member (number x) s.done ≡ true → is_over (Some x) ≡ true) (sym same) over)
      ks staged.over)

  own2 : AllByRecursion (λ k. (number k == txn) ≡ true → is_over (Some k) ≡ over_in txn ks2) ks2
  own2 = own-over txn ks2 numbers2

  kept1 : s1.kept ≡ filter passes ks2
  kept1 = ap (map (played e)) staged.kept
      ∙ ap (map (played e)) (filter-same (stays s.done) (λ k. passes (played e k)) ks
      (each-map (λ k. (number k == txn) ≡ true → is_over (Some k) ≡ over_in txn ks) (λ k. stays s.done k ≡ passes (played e k))
      (λ k own. ⊎_elim
      (λ its.
      let out : is_over (Some k) ≡ false = own its ∙ fit in
      let still : (number (played e k) == txn) ≡ true = ap (λ n. n == txn) (number-played e k) ∙ its in
      ap (λ b. not b || member (number k) s.done) out ∙ sym (ap (λ b. b || stays s.done (played e k)) still))
      (λ away.
      let same : played e k ≡ k = ap (λ b. cond b (turn e.happening.told e.happening.at e.reverts k) k) away in
      sym (ap passes same ∙ ap (λ b. b || stays s.done k) away))
      (cases_Bool (number k == txn))) ks (own-over txn ks staged.numbers)))
      ∙ sym (filter-map passes (played e) ks)

  over1 : is_over (kept_as txn s1.kept) ≡ over_in txn ks2
  over1 = ap (λ xs. is_over (kept_as txn xs)) kept1
      ∙ ap is_over (kept_as-filter txn passes ks2 (each-map (λ k. (number k == txn) ≡ true → is_over (Some k) ≡ over_in txn ks2) (λ k. (number k == txn) ≡ true → passes k ≡ true)
      (λ k _ its. ap (λ b. b || stays s.done k) its) ks2 own2))

  abbrev IsAfter : Stages → Type 0
  IsAfter after = IsStaged after ks2 × (after.done ≡ cond (over_in txn ks2) (keep_last 1024 (s.done ++ txn ∷ [])) s.done) × (is_over (kept_as txn after.kept) ≡ over_in txn ks2)

  -- it is not over
  still : over_in txn ks2 ≡ false → IsAfter s1
  still more = (
    record {
      kept = kept1 ∙ filter-same passes (stays s.done) ks2
          (each-map (λ k. (number k == txn) ≡ true → is_over (Some k) ≡ over_in txn ks2) (λ k. passes k ≡ stays s.done k)
          (λ k own. ⊎_elim (λ its. let out : is_over (Some k) ≡ false = own its ∙ more in grind (arith)) (λ away. ap (λ b. b || stays s.done k) away) (cases_Bool (number k == txn))) ks2 own2);
      over = each-map (λ k. ((number k == txn) ≡ true → member txn s.done ≡ false) × ((number k == txn) ≡ false → member (number k) s.done ≡ true → is_over (Some k) ≡ true))
          (λ k. member (number k) s.done ≡ true → is_over (Some k) ≡ true)
          (λ k both there. ⊎_elim
          (λ its.
          let same : number k ≡ txn = grind (arith, nat_tests) in
          let away : member (number k) s.done ≡ false = ap (λ n. member n s.done) same ∙ both.0 its in absurd (cc))
          (λ apart. both.1 apart there) (cases_Bool (number k == txn)))
          ks2 (each-both (λ k. (number k == txn) ≡ true → member txn s.done ≡ false) (λ k. (number k == txn) ≡ false → member (number k) s.done ≡ true → is_over (Some k) ≡ true) ks2 not_done others);
      once = staged.once;
      numbers = numbers2;
    },
    sym (ap (λ b. cond b (keep_last 1024 (s.done ++ txn ∷ [])) s.done) more),
    over1,
  )

  abbrev all : List ℕ
  all = s.done ++ txn ∷ []

  abbrev more : ℕ
  more = length all - 1024

  -- it is over
  ended : over_in txn ks2 ≡ true → IsAfter (finished txn s1)
  ended over =
      let new : member txn s.done ≡ false = numbered (member txn s.done ≡ false) txn ks2 not_done over in
      let once : Distinct all = Distinct-snoc s.done txn staged.once new in
      let long : length all ≡ length s.done + 1 = length-append s.done (txn ∷ []) in
      let out : member txn (take more all) ≡ false = ap (member txn) (take-append-le more s.done (txn ∷ []) (omega arith)) ∙ member-take txn more s.done new in
      let E = λ (k : Tracked). ((number k == txn) ≡ true → is_over (Some k) ≡ over_in txn ks2) in
      let O = λ (k : Tracked). ((number k == txn) ≡ false → member (number k) s.done ≡ true → is_over (Some k) ≡ true) in
      let kept2 : (finished txn s1).kept ≡ filter (stays (drop more all)) ks2 =
      ap (without (dropped all)) kept1
      ∙ filter-filter (λ k. not (member (number k) (take more all))) passes (λ k. passes k && not (member (number k) (take more all))) (λ k. refl) ks2
      ∙ filter-same (λ k. passes k && not (member (number k) (take more all))) (stays (drop more all)) ks2
      (each-map (λ k. E k × O k) (λ k. (passes k && not (member (number k) (take more all))) ≡ stays (drop more all) k) (λ k both. stays-ended k both.0 both.1 over once new) ks2 (each-both E O ks2 own2 others)) in (
        record {
          kept = kept2;
          over = each-map (λ k. E k × O k) (λ k. member (number k) (drop more all) ≡ true → is_over (Some k) ≡ true)
              (λ k both there. ⊎_elim (λ its. both.0 its ∙ over)
              (λ apart. both.1 apart (⊎_elim (λ is. is) (λ away.
              let none : member (number k) all ≡ false = grind (arith, nat_tests, member-append (number k) s.done (txn ∷ [])) in
              let gone : member (number k) (drop more all) ≡ false = member-drop (number k) more all none in absurd (cc)) (cases_Bool (member (number k) s.done)))) (cases_Bool (number k == txn)))
              ks2 (each-both E O ks2 own2 others);
          once = Distinct-drop more all once;
          numbers = numbers2;
        },
        sym (ap (λ b. cond b (keep_last 1024 (s.done ++ txn ∷ [])) s.done) over),
        ap (λ xs. is_over (kept_as txn xs)) kept2
            ∙ ap is_over (kept_as-filter txn (stays (drop more all)) ks2 (each-map E (λ k. (number k == txn) ≡ true → stays (drop more all) k ≡ true)
            (λ k _ its.
            let same : number k ≡ txn = grind (arith, nat_tests) in
            let there : member txn (drop more all) ≡ true = member-rest txn more all once ∙ grind (arith, nat_tests, member-append txn s.done (txn ∷ [])) in
            let here : member (number k) (drop more all) ≡ true = ap (λ n. member n (drop more all)) same ∙ there in grind (arith)) ks2 own2)),
      )
    where
      stays-ended : (k : Tracked) → ((number k == txn) ≡ true → is_over (Some k) ≡ over_in txn ks2) →
          ((number k == txn) ≡ false → member (number k) s.done ≡ true → is_over (Some k) ≡ true) → over_in txn ks2 ≡ true → Distinct all → member txn s.done ≡ false →
          (passes k && not (member (number k) (take more all))) ≡ stays (drop more all) k
      stays-ended k own other over once new =
          let rest : member (number k) (drop more all) ≡ (member (number k) all && not (member (number k) (take more all))) = member-rest (number k) more all once in
          let either : member (number k) all ≡ (member (number k) s.done || ((txn == number k) || false)) = member-append (number k) s.done (txn ∷ []) in
          ⊎_elim
          (λ its. let done : is_over (Some k) ≡ true = own its ∙ over in grind (arith, nat_tests))
          (λ apart. ⊎_elim
          (λ there. let done : is_over (Some k) ≡ true = other apart there in grind (arith, nat_tests))
          (λ away.
          let none : member (number k) all ≡ false = grind (arith, nat_tests) in
          let front : member (number k) (take more all) ≡ false = member-take (number k) more all none in grind (arith, nat_tests))
          (cases_Bool (member (number k) s.done)))
          (cases_Bool (number k == txn))

  pub staged-end : IsAfter (after_what txn e.happening.at e.reverts e.happening.told s)
  staged-end = subst IsAfter (sym (after-end e.happening.told txn e.happening.at e.reverts s end))
      (cond_both (is_over (kept_as txn s1.kept)) (finished txn s1) s1 IsAfter (λ over. ended (sym over1 ∙ over)) (λ not_over. still (sym over1 ∙ not_over)))

-- ---- one telling after another

-- what is told, with each transaction's being done behind the last end of its parts
abbrev pub weave : (ℕ → Bool) → List Telling → List Happening
weave over [] = []
weave over (e ∷ es) = e.happening ∷ cond (is_end e.happening.told && (not (awaits e.happening.txn es) && over e.happening.txn)) (all_done e.happening ∷ weave over es) (weave over es)

-- what the books come to
pub record IsBooked (books : Books) (first_done : List ℕ) (first : List Process) (told : List Happening) (ks : List Tracked) : Type 0 where
  pub staged : IsStaged books.stages ks
  pub done : books.stages.done ≡ fold finish first_done told
  pub processes : books.processes ≡ fold tell first told

pub nothing-ends : (e : Telling) (ks : List Tracked) → is_end e.happening.told ≡ false → map (played e) ks ≡ ks
nothing-ends e [] other = refl
nothing-ends e (k ∷ ks) other =
    let out : ends (number k) e ≡ false = ap (λ b. b && (e.happening.txn == number k)) other in
    λ i. played-other e k out i ∷ nothing-ends e ks other i

finish-other : (done : List ℕ) (h : Happening) → is_done h.told ≡ false → finish done h ≡ done
finish-other done h other = ap (λ b. cond b (keep_last 1024 (done ++ h.txn ∷ [])) done) other

module _ (over : ℕ → Bool) (e : Telling) (es : List Telling) (s : Stages) (ps : List Process) (silent : is_done e.happening.told ≡ false) where
  abbrev h : Happening
  h = e.happening

  abbrev next : Stages
  next = after_what h.txn h.at e.reverts h.told s

  abbrev test : Bool
  test = is_end h.told && (not (awaits h.txn es) && over h.txn)

  abbrev last : Bool
  last = is_end h.told && is_over (kept_as h.txn next.kept)

  abbrev step : Books
  step = booked (record { stages = s; processes = ps }) e

  with-done : (ks : List Tracked) → IsBooked (fold booked step es) next.done step.processes (weave over es) ks → test ≡ true → last ≡ true → next.done ≡ keep_last 1024 (s.done ++ h.txn ∷ []) →
      IsBooked (fold booked step es) s.done ps (weave over (e ∷ es)) ks
  with-done ks rest passed said done =
      let w : weave over (e ∷ es) ≡ h ∷ all_done h ∷ weave over es = ap (λ b. h ∷ cond b (all_done h ∷ weave over es) (weave over es)) passed in
      record {
        staged = rest.staged;
        done = rest.done ∙ ap (λ x. fold finish x (weave over es)) (done ∙ ap (λ x. keep_last 1024 (x ++ h.txn ∷ [])) (sym (finish-other s.done h silent))) ∙ ap (fold finish s.done) (sym w);
        processes = rest.processes ∙ ap (λ b. fold tell (cond b (tell (tell ps h) (all_done h)) (tell ps h)) (weave over es)) said ∙ ap (fold tell ps) (sym w);
      }

  without-done : (ks : List Tracked) → IsBooked (fold booked step es) next.done step.processes (weave over es) ks → test ≡ false → last ≡ false → next.done ≡ s.done →
      IsBooked (fold booked step es) s.done ps (weave over (e ∷ es)) ks
  without-done ks rest no_more said done =
      let w : weave over (e ∷ es) ≡ h ∷ weave over es = ap (λ b. h ∷ cond b (all_done h ∷ weave over es) (weave over es)) no_more in
      record {
        staged = rest.staged;
        done = rest.done ∙ ap (λ x. fold finish x (weave over es)) (done ∙ sym (finish-other s.done h silent)) ∙ ap (fold finish s.done) (sym w);
        processes = rest.processes ∙ ap (λ b. fold tell (cond b (tell (tell ps h) (all_done h)) (tell ps h)) (weave over es)) said ∙ ap (fold tell ps) (sym w);
      }

  -- the telling ends a part
  by-end : (ks ks3 : List Tracked) → is_end h.told ≡ true → IsBooked (fold booked step es) next.done step.processes (weave over es) ks3 →
      over_in h.txn ks ≡ (not (awaits h.txn es) && over h.txn) →
      next.done ≡ cond (over_in h.txn ks) (keep_last 1024 (s.done ++ h.txn ∷ [])) s.done → is_over (kept_as h.txn next.kept) ≡ over_in h.txn ks →
      IsBooked (fold booked step es) s.done ps (weave over (e ∷ es)) ks3
  by-end ks ks3 end rest at done said = ⊎_elim
      (λ is. with-done ks3 rest (grind (arith)) (grind (arith)) (done ∙ ap (λ b. cond b (keep_last 1024 (s.done ++ h.txn ∷ [])) s.done) is))
      (λ other. without-done ks3 rest (grind (arith)) (grind (arith)) (done ∙ ap (λ b. cond b (keep_last 1024 (s.done ++ h.txn ∷ [])) s.done) other))
      (cases_Bool (over_in h.txn ks))

pub books-fold : (over : ℕ → Bool) (ks : List Tracked) (es : List Telling) (s : Stages) (ps : List Process) → IsStaged s ks → AreFitting ks es →
    AllByRecursion (λ e. is_done e.happening.told ≡ false) es → ((txn : ℕ) → over txn ≡ over_in txn (all_played es ks)) →
    IsBooked (fold booked (record { stages = s; processes = ps }) es) s.done ps (weave over es) (all_played es ks)
books-fold over ks [] s ps staged fit none same = record { staged = staged; done = refl; processes = refl }
books-fold over ks (e ∷ es) s ps staged fit none same = ⊎_elim
    (λ end.
    let after = staged-end s ks e staged end (fit.0 end) in
    by-end over e es s ps none.0 (map (played e) ks) (all_played es (map (played e) ks)) end
    (books-fold over (map (played e) ks) es (next over e es s ps none.0) (step over e es s ps none.0).processes after.0 fit.1 none.1 same)
    (over-fitting e.happening.txn (map (played e) ks) es fit.1 ∙ ap (λ b. not (awaits e.happening.txn es) && b) (sym (same e.happening.txn)))
    after.1 after.2)
    (λ other.
    let still : next over e es s ps none.0 ≡ s = after-other e.happening.told e.happening.txn e.happening.at e.reverts s other in
    let unplayed : map (played e) ks ≡ ks = nothing-ends e ks other in
    without-done over e es s ps none.0 (all_played es (map (played e) ks))
    (books-fold over (map (played e) ks) es (next over e es s ps none.0) (step over e es s ps none.0).processes
    (subst (IsStaged (next over e es s ps none.0)) (sym unplayed) (subst (λ x. IsStaged x ks) (sym still) staged)) fit.1 none.1 same)
    (ap (λ b. b && (not (awaits e.happening.txn es) && over e.happening.txn)) other) (ap (λ b. b && is_over (kept_as e.happening.txn (next over e es s ps none.0).kept)) other) (ap (λ x. x.done) still))
    (cases_Bool (is_end e.happening.told))

-- Where what is told fits the records, each lease that ends is live before, and each reversion is pending.
use Rattle.std.proofs.Common.{◌≡◌, ℕ, ◌==◌, List, [], ◌∷◌, true, false, not, ◌||◌, cond, map, Option, Some, None, is_none, refl, ap, sym, ◌∙◌, subst, ⊎_elim, arith}
use Rattle.std.specs.Prelude.{option_and_then}
use Rattle.std.specs.Option.{option_map_or}
use Rattle.std.specs.List.{filter, list_any, AllByRecursion}
use Rattle.std.proofs.lemmas.Bool.{cases_Bool}
use Rattle.std.proofs.lemmas.Bool.Decides.{nat_tests}
use Rattle.boss_model.specs.declared.notice.What.{What}
use Rattle.boss_model.specs.declared.notice.What.TheVariants as what
use Rattle.boss_model.specs.Lists.{member}
use Rattle.boss_model.specs.Records.{End, Part, Transaction}
use Rattle.boss_model.specs.Sound.{Distinct}
use Rattle.boss_model.specs.State.{Process}
use Rattle.boss_stages.specs.declared.part.PartEnd.TheVariants.{Live}
use Rattle.boss_stages.specs.Stages.{Tracked, Stages, number, kept_as, is_over, end_as, part_end, part_on}
use Rattle.law_time.proofs.Filters.{each-mapped}
use Rattle.law_time.proofs.Orders.{each-map}
use Rattle.boss_booking.specs.Books.{Telling, after_what, is_end, booked}
use Rattle.boss_booking.specs.Gathered.{CanTell, CanBook}
use Rattle.law_due.proofs.Keys.{PointsOnce, found-any, found-has}
use Rattle.boss_booking.proofs.Points.{none-over, point_in, is_on, may, Fits, FitsAll, live_on, pends_on, is_live_on, with_end_of, end_by_one, fits-next, fits-over, parts-played}
use Rattle.boss_booking.proofs.Staging.{IsStaged, stays, staged-end, kept_as-filter, nothing-ends}
use Rattle.boss_booking.proofs.Tellings.{played, numbers-played, after-other}

-- ---- one part

none-there : (point : ℕ) (parts : List Part) → member point (map (λ part. part.point) parts) ≡ false → list_any (is_live_on point) parts ≡ false
none-there point [] away = refl
none-there point (part ∷ parts) away = grind (arith, none-there point parts)

live-end : (end : Option End) → is_none end ≡ true → end_as end ≡ Live
live-end None is = refl
live-end (Some end) is = absurd (cc)

live-part : (point : ℕ) (parts : List Part) → Distinct (map (λ part. part.point) parts) → list_any (is_live_on point) parts ≡ true → part_end (part_on point parts) ≡ Live
live-part point [] once live = absurd (cc)
live-part point (part ∷ parts) once live = ⊎_elim
    (λ is.
    let same : part.point ≡ point = grind (arith, nat_tests) in
    let none : list_any (is_live_on point) parts ≡ false = none-there point parts (subst (λ k. member k (map (λ p. p.point) parts) ≡ false) same once.0) in
    let here : is_none part.end ≡ true = grind (arith) in
    ap (λ b. part_end (cond b (Some part) (part_on point parts))) is ∙ live-end part.end here)
    (λ other.
    let rest : list_any (is_live_on point) parts ≡ true = grind (arith) in
    ap (λ b. part_end (cond b (Some part) (part_on point parts))) other ∙ live-part point parts once.1 rest)
    (cases_Bool (part.point == point))

-- ---- one record

any-number : (txn : ℕ) (ks : List Tracked) → list_any (λ k. number k == txn) ks ≡ member txn (map number ks)
any-number txn [] = refl
any-number txn (k ∷ ks) = ap (λ b. (number k == txn) || b) (any-number txn ks)

-- it is found by its number
pub record IsFound (P : Tracked → Type 0) (txn : ℕ) (ks : List Tracked) : Type 0 where
  pub one : Tracked
  pub found : kept_as txn ks ≡ Some one
  pub own : (number one == txn) ≡ true
  pub has : P one

find-number : (P : Tracked → Type 0) (txn : ℕ) (ks : List Tracked) → AllByRecursion P ks → member txn (map number ks) ≡ true → IsFound P txn ks
find-number P txn ks all there = go (kept_as txn ks) refl
  where
    go : (found : Option Tracked) → kept_as txn ks ≡ found → IsFound P txn ks
    go None is =
        let none : list_any (λ k. number k == txn) ks ≡ false = found-any (λ k. number k == txn) ks is in
        let some : list_any (λ k. number k == txn) ks ≡ true = any-number txn ks ∙ there in
        absurd (cc)
    go (Some k) is = let has = found-has (λ x. number x == txn) P ks k all is in record { one = k; found = is; own = has.1; has = has.0 }

abbrev pub IsReady : List Telling → Tracked → Type 0
IsReady es k = FitsAll k es × PointsOnce k.transaction

points-with : (f : Part → Option End) (parts : List Part) → map (λ part. part.point) (map (with_end_of f) parts) ≡ map (λ part. part.point) parts
points-with f [] = refl
points-with f (part ∷ parts) = ap (λ ps. part.point ∷ ps) (points-with f parts)

ready-next : (e : Telling) (es : List Telling) (k : Tracked) → IsReady (e ∷ es) k → IsReady es (played e k)
ready-next e es k ready = (
  fits-next e es k ready.0,
  subst (λ (t : Transaction). PointsOnce t) (sym (parts-played e k)) (subst Distinct (sym (points-with (end_by_one (number k) e) k.transaction.parts)) ready.1),
)

may-tell : (told : Option What) (txn : ℕ) (s : Stages) (k : Tracked) → kept_as txn s.kept ≡ Some k → PointsOnce k.transaction →
    (is_end told ≡ true → may told (live_on (point_in told) k) (pends_on (point_in told) k) ≡ true) → CanTell txn told s
may-tell None txn s k found once fits = tt
may-tell (Some (what.Fault point)) txn s k found once fits = tt
may-tell (Some (what.Ended point why)) txn s k found once fits =
    ap (λ f. part_end (option_and_then (λ (x : Tracked). part_on point x.transaction.parts) f)) found ∙ live-part point k.transaction.parts once (fits refl)
may-tell (Some (what.Reverted point)) txn s k found once fits = ap (λ f. option_map_or (λ (x : Tracked). list_any (λ other. other == point) x.reverting) f false) found ∙ fits refl
may-tell (Some (what.Cut point by)) txn s k found once fits = ap (λ f. option_map_or (λ (x : Tracked). list_any (λ other. other == point) x.reverting) f false) found ∙ fits refl
may-tell (Some what.Done) txn s k found once fits = tt

quiet-tell : (told : Option What) (txn : ℕ) (s : Stages) → is_end told ≡ false → CanTell txn told s
quiet-tell None txn s quiet = tt
quiet-tell (Some (what.Fault point)) txn s quiet = tt
quiet-tell (Some (what.Ended point why)) txn s quiet = absurd (cc)
quiet-tell (Some (what.Reverted point)) txn s quiet = absurd (cc)
quiet-tell (Some (what.Cut point by)) txn s quiet = absurd (cc)
quiet-tell (Some what.Done) txn s quiet = tt

-- ---- one telling after another

pub can-book : (es : List Telling) (s : Stages) (ps : List Process) (ks : List Tracked) → IsStaged s ks → AllByRecursion (IsReady es) ks →
    AllByRecursion (λ e. is_end e.happening.told ≡ true → member e.happening.txn (map number ks) ≡ true) es → CanBook (record { stages = s; processes = ps }) es
can-book [] s ps ks staged ready known = tt
can-book (e ∷ es) s ps ks staged ready known = ⊎_elim
    (λ end.
    let txn = e.happening.txn in
    let told = e.happening.told in
    let not_over : AllByRecursion (λ k. (number k == txn) ≡ true → is_over (Some k) ≡ false) ks =
    each-map (IsReady (e ∷ es)) (λ k. (number k == txn) ≡ true → is_over (Some k) ≡ false) (λ k r own. fits-over e es k r.0 end own) ks ready in
    let one = find-number (IsReady (e ∷ es)) txn ks ready (known.0 end) in
    let found : kept_as txn s.kept ≡ Some one.one = ap (kept_as txn) staged.kept
    ∙ kept_as-filter txn (stays s.done) ks (each-map (λ k. (number k == txn) ≡ true → is_over (Some k) ≡ false) (λ k. (number k == txn) ≡ true → stays s.done k ≡ true)
    (λ k fresh own. ap (λ b. not b || member (number k) s.done) (fresh own)) ks not_over) ∙ one.found in
    let here : CanTell txn told s = may-tell told txn s one.one found one.has.1 (λ _. first_fits one.one one.own end one.has.0) in
    let after = staged-end s ks e staged end (none-over txn ks not_over) in
    (here, can-book es (after_what txn e.happening.at e.reverts told s) (booked (record { stages = s; processes = ps }) e).processes (map (played e) ks) after.0 (next_ready ready) (next_known known.1)))
    (λ other.
    let still : after_what e.happening.txn e.happening.at e.reverts e.happening.told s ≡ s = after-other e.happening.told e.happening.txn e.happening.at e.reverts s other in
    let unplayed : map (played e) ks ≡ ks = nothing-ends e ks other in (
      quiet-tell e.happening.told e.happening.txn s other,
      can-book es (after_what e.happening.txn e.happening.at e.reverts e.happening.told s) (booked (record { stages = s; processes = ps }) e).processes (map (played e) ks)
          (subst (IsStaged (after_what e.happening.txn e.happening.at e.reverts e.happening.told s)) (sym unplayed) (subst (λ x. IsStaged x ks) (sym still) staged)) (next_ready ready) (next_known known.1),
    ))
    (cases_Bool (is_end e.happening.told))
  where
    first_fits : (k : Tracked) → (number k == e.happening.txn) ≡ true → is_end e.happening.told ≡ true → FitsAll k (e ∷ es) →
        may e.happening.told (live_on (point_in e.happening.told) k) (pends_on (point_in e.happening.told) k) ≡ true
    first_fits k own end fits =
        let point = point_in e.happening.told in
        let on : is_on (number k) point e ≡ true = grind (arith, nat_tests) in
        (subst (λ b. Fits (live_on point k) (pends_on point k) (cond b (e ∷ filter (is_on (number k) point) es) (filter (is_on (number k) point) es))) on (fits point)).0

    next_ready : AllByRecursion (IsReady (e ∷ es)) ks → AllByRecursion (IsReady es) (map (played e) ks)
    next_ready all = each-mapped (IsReady es) (played e) ks (each-map (IsReady (e ∷ es)) (λ k. IsReady es (played e k)) (λ k r. ready-next e es k r) ks all)

    next_known : AllByRecursion (λ x. is_end x.happening.told ≡ true → member x.happening.txn (map number ks) ≡ true) es →
        AllByRecursion (λ x. is_end x.happening.told ≡ true → member x.happening.txn (map number (map (played e) ks)) ≡ true) es
    next_known all = subst (λ ns. AllByRecursion (λ x. is_end x.happening.told ≡ true → member x.happening.txn ns ≡ true) es) (sym (numbers-played e ks)) all

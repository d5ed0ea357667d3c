-- What tellings make of the single parts of a transaction: a part, and its reversion, is changed by those of its point alone.
use Rattle.std.proofs.Common.{◌≡◌, ℕ, ◌==◌, List, [], ◌∷◌, ◌++◌, length, Bool, true, false, not, ◌&&◌, ◌||◌, cond, map, Option, Some, None, refl, ap, sym, ◌∙◌, subst, ⊎_elim, arith}
use Rattle.std.specs.List.{filter, list_any, AllByRecursion}
use Rattle.std.proofs.lemmas.Bool.{cases_Bool, cond_both}
use Rattle.std.proofs.lemmas.Bool.Decides.{nat_tests}
use Rattle.boss_model.specs.declared.notice.What.{What}
use Rattle.boss_model.specs.declared.notice.What.TheVariants as what
use Rattle.boss_model.specs.Happenings.{point_of}
use Rattle.boss_model.specs.Lists.{member}
use Rattle.boss_model.specs.Records.{End, Part, Transaction}
use Rattle.boss_model.proofs.Members.{member-append, member-filter}
use Rattle.boss_stages.specs.Stages.{Tracked, number, kept_as, is_over, is_live, has_live, has_pending, ended_on}
use Rattle.law_time.proofs.Orders.{each-map}
use Rattle.law_time.proofs.Filters.{each-mapped}
use Rattle.law_time.proofs.TickSound.{map-same}
use Rattle.boss_booking.specs.Books.{Telling, is_end}
use Rattle.boss_booking.proofs.Tellings.{turn, played, number-played, ends, all_played, over_in, AreFitting}

-- ---- one part

abbrev pub point_in : Option What → ℕ
point_in None = 0
point_in (Some told) = point_of told

-- it ends the transaction's lease, or its reversion, on the point
abbrev pub is_on : ℕ → ℕ → Telling → Bool
is_on txn point e = ends txn e && (point_in e.happening.told == point)

-- the end of the lease after it
abbrev pub end_by : Option What → ℕ → Option End → Option End
end_by None at end = end
end_by (Some (what.Fault point)) at end = end
end_by (Some (what.Ended point why)) at end = Some (record { cause = why; at = at })
end_by (Some (what.Reverted point)) at end = end
end_by (Some (what.Cut point by)) at end = end
end_by (Some what.Done) at end = end

-- whether the lease is live after it
abbrev pub live_by : Option What → Bool → Bool
live_by None live = live
live_by (Some (what.Fault point)) live = live
live_by (Some (what.Ended point why)) live = false
live_by (Some (what.Reverted point)) live = live
live_by (Some (what.Cut point by)) live = live
live_by (Some what.Done) live = live

-- whether a reversion is pending after it
abbrev pub pends_by : Option What → Bool → Bool → Bool
pends_by None reverts pends = pends
pends_by (Some (what.Fault point)) reverts pends = pends
pends_by (Some (what.Ended point why)) reverts pends = pends || reverts
pends_by (Some (what.Reverted point)) reverts pends = false
pends_by (Some (what.Cut point by)) reverts pends = false
pends_by (Some what.Done) reverts pends = pends

-- a live lease ends, and a pending reversion
abbrev pub may : Option What → Bool → Bool → Bool
may None live pends = true
may (Some (what.Fault point)) live pends = true
may (Some (what.Ended point why)) live pends = live
may (Some (what.Reverted point)) live pends = pends
may (Some (what.Cut point by)) live pends = pends
may (Some what.Done) live pends = true

abbrev pub end_last : List Telling → Option End → Option End
end_last [] end = end
end_last (e ∷ es) end = end_last es (end_by e.happening.told e.happening.at end)

abbrev pub pends_last : List Telling → Bool → Bool
pends_last [] pends = pends
pends_last (e ∷ es) pends = pends_last es (pends_by e.happening.told e.reverts pends)

abbrev pub Fits : Bool → Bool → List Telling → Type 0
Fits live pends [] = Unit {0}
Fits live pends (e ∷ es) = (may e.happening.told live pends ≡ true) × Fits (live_by e.happening.told live) (pends_by e.happening.told e.reverts pends) es

-- ---- the parts of a transaction

abbrev pub is_live_on : ℕ → Part → Bool
is_live_on point part = (part.point == point) && is_live part

abbrev pub live_on : ℕ → Tracked → Bool
live_on point kept = list_any (is_live_on point) kept.transaction.parts

abbrev pub pends_on : ℕ → Tracked → Bool
pends_on point kept = member point kept.reverting

abbrev pub FitsAll : Tracked → List Telling → Type 0
FitsAll kept es = (point : ℕ) → Fits (live_on point kept) (pends_on point kept) (filter (is_on (number kept) point) es)

live-ended-own : (point : ℕ) (end : End) (parts : List Part) → list_any (is_live_on point) (map (ended_on point end) parts) ≡ false
live-ended-own point end [] = refl
live-ended-own point end (part ∷ parts) = ⊎_elim
    (λ own. let here : is_live_on point (ended_on point end part) ≡ false = ap (λ b. is_live_on point (cond b (record part { end = Some end }) part)) own ∙ grind (arith) in
    grind (arith, live-ended-own point end parts))
    (λ other. let here : is_live_on point (ended_on point end part) ≡ false = ap (λ b. is_live_on point (cond b (record part { end = Some end }) part)) other ∙ ap (λ b. b && is_live part) other in
    grind (arith, live-ended-own point end parts))
    (cases_Bool (part.point == point))

live-ended-other : (point other : ℕ) (end : End) (parts : List Part) → (other == point) ≡ false → list_any (is_live_on point) (map (ended_on other end) parts) ≡ list_any (is_live_on point) parts
live-ended-other point other end [] apart = refl
live-ended-other point other end (part ∷ parts) apart = ⊎_elim
    (λ own.
    let away : (part.point == point) ≡ false = grind (arith, nat_tests) in
    let here : is_live_on point (ended_on other end part) ≡ is_live_on point part =
    ap (λ b. is_live_on point (cond b (record part { end = Some end }) part)) own ∙ ap (λ b. b && false) away ∙ sym (ap (λ b. b && is_live part) away) in
    λ i. here i || live-ended-other point other end parts apart i)
    (λ away. let here : is_live_on point (ended_on other end part) ≡ is_live_on point part = ap (λ b. is_live_on point (cond b (record part { end = Some end }) part)) away in
    λ i. here i || live-ended-other point other end parts apart i)
    (cases_Bool (part.point == other))

live-turn : (told : Option What) (at : ℕ) (reverts : Bool) (kept : Tracked) (point : ℕ) →
    live_on point (turn told at reverts kept) ≡ cond (is_end told && (point_in told == point)) (live_by told (live_on point kept)) (live_on point kept)
live-turn None at reverts kept point = refl
live-turn (Some (what.Fault p)) at reverts kept point = refl
live-turn (Some (what.Ended p why)) at reverts kept point = ⊎_elim
    (λ own.
    let same : p ≡ point = grind (arith, nat_tests) in
    ap (λ q. list_any (is_live_on point) (map (ended_on q (record { cause = why; at = at })) kept.transaction.parts)) same ∙ live-ended-own point (record { cause = why; at = at }) kept.transaction.parts
    ∙ sym (ap (λ b. cond b false (live_on point kept)) own))
    (λ other. live-ended-other point p (record { cause = why; at = at }) kept.transaction.parts other ∙ sym (ap (λ b. cond b false (live_on point kept)) other))
    (cases_Bool (p == point))
live-turn (Some (what.Reverted p)) at reverts kept point = sym (cond_both (p == point) (live_on point kept) (live_on point kept) (λ b. b ≡ live_on point kept) (λ _. refl) (λ _. refl))
live-turn (Some (what.Cut p by)) at reverts kept point = sym (cond_both (p == point) (live_on point kept) (live_on point kept) (λ b. b ≡ live_on point kept) (λ _. refl) (λ _. refl))
live-turn (Some what.Done) at reverts kept point = refl

pends-ended : (p point : ℕ) (reverts : Bool) (points : List ℕ) →
    member point (cond reverts (points ++ p ∷ []) points) ≡ cond (p == point) (member point points || reverts) (member point points)
pends-ended p point true points = member-append point points (p ∷ []) ∙ grind (arith, nat_tests)
pends-ended p point false points = grind (arith, nat_tests)

pends-without : (p point : ℕ) (points : List ℕ) → member point (filter (λ other. not (other == p)) points) ≡ cond (p == point) false (member point points)
pends-without p point points = member-filter point (λ other. not (other == p)) points ∙ grind (arith, nat_tests)

pends-turn : (told : Option What) (at : ℕ) (reverts : Bool) (kept : Tracked) (point : ℕ) →
    pends_on point (turn told at reverts kept) ≡ cond (is_end told && (point_in told == point)) (pends_by told reverts (pends_on point kept)) (pends_on point kept)
pends-turn None at reverts kept point = refl
pends-turn (Some (what.Fault p)) at reverts kept point = refl
pends-turn (Some (what.Ended p why)) at reverts kept point = pends-ended p point reverts kept.reverting
pends-turn (Some (what.Reverted p)) at reverts kept point = pends-without p point kept.reverting
pends-turn (Some (what.Cut p by)) at reverts kept point = pends-without p point kept.reverting
pends-turn (Some what.Done) at reverts kept point = refl

pub live-played : (e : Telling) (kept : Tracked) (point : ℕ) →
    live_on point (played e kept) ≡ cond (is_on (number kept) point e) (live_by e.happening.told (live_on point kept)) (live_on point kept)
live-played e kept point = ⊎_elim
    (λ own.
    let same : (e.happening.txn == number kept) ≡ true = grind (arith, nat_tests) in
    ap (λ b. live_on point (cond b (turn e.happening.told e.happening.at e.reverts kept) kept)) own ∙ live-turn e.happening.told e.happening.at e.reverts kept point
    ∙ ap (λ b. cond b (live_by e.happening.told (live_on point kept)) (live_on point kept)) (let t : (is_end e.happening.told && (point_in e.happening.told == point)) ≡ is_on (number kept) point e = grind (arith) in t))
    (λ other.
    let apart : (e.happening.txn == number kept) ≡ false = grind (arith, nat_tests) in
    let out : is_on (number kept) point e ≡ false = grind (arith) in
    ap (λ b. live_on point (cond b (turn e.happening.told e.happening.at e.reverts kept) kept)) other ∙ sym (ap (λ b. cond b (live_by e.happening.told (live_on point kept)) (live_on point kept)) out))
    (cases_Bool (number kept == e.happening.txn))

pub pends-played : (e : Telling) (kept : Tracked) (point : ℕ) →
    pends_on point (played e kept) ≡ cond (is_on (number kept) point e) (pends_by e.happening.told e.reverts (pends_on point kept)) (pends_on point kept)
pends-played e kept point = ⊎_elim
    (λ own.
    let same : (e.happening.txn == number kept) ≡ true = grind (arith, nat_tests) in
    ap (λ b. pends_on point (cond b (turn e.happening.told e.happening.at e.reverts kept) kept)) own ∙ pends-turn e.happening.told e.happening.at e.reverts kept point
    ∙ ap (λ b. cond b (pends_by e.happening.told e.reverts (pends_on point kept)) (pends_on point kept)) (let t : (is_end e.happening.told && (point_in e.happening.told == point)) ≡ is_on (number kept) point e = grind (arith) in t))
    (λ other.
    let apart : (e.happening.txn == number kept) ≡ false = grind (arith, nat_tests) in
    let out : is_on (number kept) point e ≡ false = grind (arith) in
    ap (λ b. pends_on point (cond b (turn e.happening.told e.happening.at e.reverts kept) kept)) other ∙ sym (ap (λ b. cond b (pends_by e.happening.told e.reverts (pends_on point kept)) (pends_on point kept)) out))
    (cases_Bool (number kept == e.happening.txn))

-- ---- where all parts fit, the transaction is not over before one of them ends

pub fits-next : (e : Telling) (es : List Telling) (kept : Tracked) → FitsAll kept (e ∷ es) → FitsAll (played e kept) es
fits-next e es kept fits point =
    let F = λ (n : ℕ) (live pends : Bool). Fits live pends (filter (is_on n point) es) in
    let there : F (number kept) (live_on point (played e kept)) (pends_on point (played e kept)) = ⊎_elim
    (λ own.
    let here : Fits (live_on point kept) (pends_on point kept) (e ∷ filter (is_on (number kept) point) es) =
    subst (λ b. Fits (live_on point kept) (pends_on point kept) (cond b (e ∷ filter (is_on (number kept) point) es) (filter (is_on (number kept) point) es))) own (fits point) in
    let l : live_on point (played e kept) ≡ live_by e.happening.told (live_on point kept) =
    live-played e kept point ∙ ap (λ b. cond b (live_by e.happening.told (live_on point kept)) (live_on point kept)) own in
    let p : pends_on point (played e kept) ≡ pends_by e.happening.told e.reverts (pends_on point kept) =
    pends-played e kept point ∙ ap (λ b. cond b (pends_by e.happening.told e.reverts (pends_on point kept)) (pends_on point kept)) own in
    subst (λ x. F (number kept) x (pends_on point (played e kept))) (sym l) (subst (λ y. F (number kept) (live_by e.happening.told (live_on point kept)) y) (sym p) here.1))
    (λ other.
    let here : Fits (live_on point kept) (pends_on point kept) (filter (is_on (number kept) point) es) =
    subst (λ b. Fits (live_on point kept) (pends_on point kept) (cond b (e ∷ filter (is_on (number kept) point) es) (filter (is_on (number kept) point) es))) other (fits point) in
    let l : live_on point (played e kept) ≡ live_on point kept =
    live-played e kept point ∙ ap (λ b. cond b (live_by e.happening.told (live_on point kept)) (live_on point kept)) other in
    let p : pends_on point (played e kept) ≡ pends_on point kept =
    pends-played e kept point ∙ ap (λ b. cond b (pends_by e.happening.told e.reverts (pends_on point kept)) (pends_on point kept)) other in
    subst (λ x. F (number kept) x (pends_on point (played e kept))) (sym l) (subst (λ y. F (number kept) (live_on point kept) y) (sym p) here))
    (cases_Bool (is_on (number kept) point e)) in
    subst (λ n. F n (live_on point (played e kept)) (pends_on point (played e kept))) (sym (number-played e kept)) there

any-live : (point : ℕ) (parts : List Part) → list_any (is_live_on point) parts ≡ true → list_any is_live parts ≡ true
any-live point [] there = there
any-live point (part ∷ parts) there = grind (arith, any-live point parts)

any-pending : (point : ℕ) (kept : Tracked) (points : List ℕ) → kept.reverting ≡ points → member point points ≡ true → has_pending kept ≡ true
any-pending point kept [] is there = absurd (cc)
any-pending point kept (p ∷ ps) is there = let long : length kept.reverting ≡ length (p ∷ ps) = ap length is in grind (arith, nat_tests)

may-over : (told : Option What) (kept : Tracked) (point : ℕ) → is_end told ≡ true → may told (live_on point kept) (pends_on point kept) ≡ true → is_over (Some kept) ≡ false
may-over None kept point end is = absurd (cc)
may-over (Some (what.Fault p)) kept point end is = absurd (cc)
may-over (Some (what.Ended p why)) kept point end is = let some : has_live kept ≡ true = any-live point kept.transaction.parts is in grind (arith)
may-over (Some (what.Reverted p)) kept point end is = let some : has_pending kept ≡ true = any-pending point kept kept.reverting refl is in grind (arith)
may-over (Some (what.Cut p by)) kept point end is = let some : has_pending kept ≡ true = any-pending point kept kept.reverting refl is in grind (arith)
may-over (Some what.Done) kept point end is = absurd (cc)

pub fits-over : (e : Telling) (es : List Telling) (kept : Tracked) → FitsAll kept (e ∷ es) → is_end e.happening.told ≡ true → (number kept == e.happening.txn) ≡ true → is_over (Some kept) ≡ false
fits-over e es kept fits end own =
    let point = point_in e.happening.told in
    let on : is_on (number kept) point e ≡ true = grind (arith, nat_tests) in
    let here : Fits (live_on point kept) (pends_on point kept) (e ∷ filter (is_on (number kept) point) es) =
    subst (λ b. Fits (live_on point kept) (pends_on point kept) (cond b (e ∷ filter (is_on (number kept) point) es) (filter (is_on (number kept) point) es))) on (fits point) in
    may-over e.happening.told kept point end here.0

pub none-over : (txn : ℕ) (ks : List Tracked) → AllByRecursion (λ k. (number k == txn) ≡ true → is_over (Some k) ≡ false) ks → over_in txn ks ≡ false
none-over txn [] all = refl
none-over txn (k ∷ ks) all = ⊎_elim
    (λ own. ap (λ b. is_over (cond b (Some k) (kept_as txn ks))) own ∙ all.0 own)
    (λ other. ap (λ b. is_over (cond b (Some k) (kept_as txn ks))) other ∙ none-over txn ks all.1)
    (cases_Bool (number k == txn))

pub fitting : (es : List Telling) (ks : List Tracked) → AllByRecursion (λ k. FitsAll k es) ks → AreFitting ks es
fitting [] ks fits = tt
fitting (e ∷ es) ks fits = (
  (λ end. none-over e.happening.txn ks (each-map (λ k. FitsAll k (e ∷ es)) (λ k. (number k == e.happening.txn) ≡ true → is_over (Some k) ≡ false) (λ k fit own. fits-over e es k fit end own) ks fits)),
  fitting es (map (played e) ks) (each-mapped (λ k. FitsAll k es) (played e) ks (each-map (λ k. FitsAll k (e ∷ es)) (λ k. FitsAll (played e k) es) (λ k fit. fits-next e es k fit) ks fits)),
)

-- ---- what becomes of a record

abbrev pub played_all : List Telling → Tracked → Tracked
played_all [] kept = kept
played_all (e ∷ es) kept = played_all es (played e kept)

pub map-map : {X Y Z : Type 0} (g : Y → Z) (f : X → Y) (xs : List X) → map g (map f xs) ≡ map (λ x. g (f x)) xs
map-map g f [] = refl
map-map g f (x ∷ xs) = ap (λ ys. g (f x) ∷ ys) (map-map g f xs)

pub map-alike : {X Y : Type 0} (f g : X → Y) (xs : List X) → AllByRecursion (λ x. f x ≡ g x) xs → map f xs ≡ map g xs
map-alike f g [] same = refl
map-alike f g (x ∷ xs) same = λ i. same.0 i ∷ map-alike f g xs same.1 i

pub all_played-each : (es : List Telling) (ks : List Tracked) → all_played es ks ≡ map (played_all es) ks
all_played-each [] ks = sym (map-same ks)
all_played-each (e ∷ es) ks = all_played-each es (map (played e) ks) ∙ map-map (played_all es) (played e) ks

-- a part with another end
abbrev pub with_end_of : (Part → Option End) → Part → Part
with_end_of f part = record part { end = f part }

-- the end of a part after one telling, and after several
abbrev end_after_one : Bool → ℕ → Option What → ℕ → Part → Option End
end_after_one own point told at part = cond (own && (point == part.point)) (end_by told at part.end) part.end

abbrev pub part_last : ℕ → List Telling → Part → Part
part_last txn es = with_end_of (λ part. end_last (filter (is_on txn part.point) es) part.end)

ended-by : (p : ℕ) (end : End) (parts : List Part) → map (ended_on p end) parts ≡ map (with_end_of (λ part. cond (p == part.point) (Some end) part.end)) parts
ended-by p end [] = refl
ended-by p end (part ∷ parts) =
    let here : ended_on p end part ≡ record part { end = cond (p == part.point) (Some end) part.end } = ⊎_elim
    (λ own. let turned : (p == part.point) ≡ true = grind (arith, nat_tests) in
    ap (λ b. cond b (record part { end = Some end }) part) own ∙ sym (ap (λ b. record part { end = cond b (Some end) part.end }) turned))
    (λ other. let turned : (p == part.point) ≡ false = grind (arith, nat_tests) in
    ap (λ b. cond b (record part { end = Some end }) part) other ∙ sym (ap (λ b. record part { end = cond b (Some end) part.end }) turned))
    (cases_Bool (part.point == p)) in
    λ i. here i ∷ ended-by p end parts i

parts-alike : (f g : Part → Option End) (parts : List Part) → ((part : Part) → f part ≡ g part) → map (with_end_of f) parts ≡ map (with_end_of g) parts
parts-alike f g [] same = refl
parts-alike f g (part ∷ parts) same = λ i. record part { end = same part i } ∷ parts-alike f g parts same i

parts-same : (f : Part → Option End) (parts : List Part) → ((part : Part) → f part ≡ part.end) → map (with_end_of f) parts ≡ parts
parts-same f parts same = parts-alike f (λ part. part.end) parts same ∙ map-same parts

parts-twice : (f g h : Part → Option End) (parts : List Part) → ((part : Part) → g (with_end_of f part) ≡ h part) → map (with_end_of g) (map (with_end_of f) parts) ≡ map (with_end_of h) parts
parts-twice f g h [] same = refl
parts-twice f g h (part ∷ parts) same = λ i. record part { end = same part i } ∷ parts-twice f g h parts same i

cond-same : {X : Type 0} (b : Bool) (x : X) → cond b x x ≡ x
cond-same true x = refl
cond-same false x = refl

parts-turn : (told : Option What) (at : ℕ) (reverts : Bool) (kept : Tracked) →
    (turn told at reverts kept).transaction ≡ record kept.transaction { parts = map (with_end_of (end_after_one (is_end told) (point_in told) told at)) kept.transaction.parts }
parts-turn None at reverts kept = λ i. record kept.transaction { parts = sym (parts-same (end_after_one false 0 None at) kept.transaction.parts (λ part. refl)) i }
parts-turn (Some (what.Fault p)) at reverts kept = λ i. record kept.transaction { parts = sym (parts-same (end_after_one false p (Some (what.Fault p)) at) kept.transaction.parts (λ part. refl)) i }
parts-turn (Some (what.Ended p why)) at reverts kept = λ i. record kept.transaction { parts = ended-by p (record { cause = why; at = at }) kept.transaction.parts i }
parts-turn (Some (what.Reverted p)) at reverts kept = λ i. record kept.transaction { parts = sym (parts-same (end_after_one true p (Some (what.Reverted p)) at) kept.transaction.parts (λ part. cond-same (p == part.point) part.end)) i }
parts-turn (Some (what.Cut p by)) at reverts kept = λ i. record kept.transaction { parts = sym (parts-same (end_after_one true p (Some (what.Cut p by)) at) kept.transaction.parts (λ part. cond-same (p == part.point) part.end)) i }
parts-turn (Some what.Done) at reverts kept = λ i. record kept.transaction { parts = sym (parts-same (end_after_one false 0 (Some what.Done) at) kept.transaction.parts (λ part. refl)) i }

-- the end of a part of the transaction after one telling
abbrev pub end_by_one : ℕ → Telling → Part → Option End
end_by_one txn e part = cond (is_on txn part.point e) (end_by e.happening.told e.happening.at part.end) part.end

pub parts-played : (e : Telling) (kept : Tracked) → (played e kept).transaction ≡ record kept.transaction { parts = map (with_end_of (end_by_one (number kept) e)) kept.transaction.parts }
parts-played e kept =
    let told = e.happening.told in let at = e.happening.at in
    ⊎_elim
    (λ own.
    let same : (e.happening.txn == number kept) ≡ true = grind (arith, nat_tests) in
    let alike : (part : Part) → end_after_one (is_end told) (point_in told) told at part ≡ end_by_one (number kept) e part =
    λ part. ap (λ b. cond b (end_by told at part.end) part.end) (let t : (is_end told && (point_in told == part.point)) ≡ is_on (number kept) part.point e = grind (arith) in t) in
    ap (λ b. (cond b (turn told at e.reverts kept) kept).transaction) own ∙ parts-turn told at e.reverts kept
    ∙ (λ i. record kept.transaction { parts = parts-alike (end_after_one (is_end told) (point_in told) told at) (end_by_one (number kept) e) kept.transaction.parts alike i }))
    (λ other.
    let apart : (e.happening.txn == number kept) ≡ false = grind (arith, nat_tests) in
    let none : (part : Part) → end_by_one (number kept) e part ≡ part.end =
    λ part. ap (λ b. cond b (end_by told at part.end) part.end) (let t : is_on (number kept) part.point e ≡ false = grind (arith) in t) in
    ap (λ b. (cond b (turn told at e.reverts kept) kept).transaction) other
    ∙ (λ i. record kept.transaction { parts = sym (parts-same (end_by_one (number kept) e) kept.transaction.parts none) i }))
    (cases_Bool (number kept == e.happening.txn))

-- the record of a transaction after all tellings: the parts have ended as those of their points say
pub transaction-played : (es : List Telling) (kept : Tracked) → (played_all es kept).transaction ≡ record kept.transaction { parts = map (part_last (number kept) es) kept.transaction.parts }
transaction-played [] kept = λ i. record kept.transaction { parts = sym (map-same kept.transaction.parts) i }
transaction-played (e ∷ es) kept =
    let next : Transaction = record kept.transaction { parts = map (with_end_of (end_by_one (number kept) e)) kept.transaction.parts } in
    transaction-played es (played e kept)
    ∙ ap (λ (t : Transaction). record t { parts = map (part_last t.txn es) t.parts }) (parts-played e kept)
    ∙ (λ i. record kept.transaction {
      parts = parts-twice (end_by_one (number kept) e) (λ part. end_last (filter (is_on (number kept) part.point) es) part.end)
          (λ part. end_last (filter (is_on (number kept) part.point) (e ∷ es)) part.end) kept.transaction.parts (λ part. one part) i;
    })
  where
    one : (part : Part) → end_last (filter (is_on (number kept) part.point) es) (end_by_one (number kept) e part) ≡ end_last (filter (is_on (number kept) part.point) (e ∷ es)) part.end
    one part = ⊎_elim
        (λ on. ap (λ b. end_last (filter (is_on (number kept) part.point) es) (cond b (end_by e.happening.told e.happening.at part.end) part.end)) on
        ∙ sym (ap (λ b. end_last (cond b (e ∷ filter (is_on (number kept) part.point) es) (filter (is_on (number kept) part.point) es)) part.end) on))
        (λ off. ap (λ b. end_last (filter (is_on (number kept) part.point) es) (cond b (end_by e.happening.told e.happening.at part.end) part.end)) off
        ∙ sym (ap (λ b. end_last (cond b (e ∷ filter (is_on (number kept) part.point) es) (filter (is_on (number kept) part.point) es)) part.end) off))
        (cases_Bool (is_on (number kept) part.point e))

-- and the points on which a reversion is pending
pub pends-all : (es : List Telling) (kept : Tracked) (point : ℕ) → pends_on point (played_all es kept) ≡ pends_last (filter (is_on (number kept) point) es) (pends_on point kept)
pends-all [] kept point = refl
pends-all (e ∷ es) kept point =
    let rest = filter (is_on (number kept) point) es in
    pends-all es (played e kept) point
    ∙ ap (λ n. pends_last (filter (is_on n point) es) (pends_on point (played e kept))) (number-played e kept)
    ∙ ap (pends_last rest) (pends-played e kept point)
    ∙ ⊎_elim
    (λ on. ap (λ b. pends_last rest (cond b (pends_by e.happening.told e.reverts (pends_on point kept)) (pends_on point kept))) on
    ∙ sym (ap (λ b. pends_last (cond b (e ∷ rest) rest) (pends_on point kept)) on))
    (λ off. ap (λ b. pends_last rest (cond b (pends_by e.happening.told e.reverts (pends_on point kept)) (pends_on point kept))) off
    ∙ sym (ap (λ b. pends_last (cond b (e ∷ rest) rest) (pends_on point kept)) off))
    (cases_Bool (is_on (number kept) point e))

pub number-all : (es : List Telling) (kept : Tracked) → number (played_all es kept) ≡ number kept
number-all [] kept = refl
number-all (e ∷ es) kept = number-all es (played e kept) ∙ number-played e kept

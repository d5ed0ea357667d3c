-- Tellings one after another, and what they make of the records of transactions where none is ever dropped.
use Rattle.std.proofs.Common.{◌≡◌, ℕ, ◌==◌, List, [], ◌∷◌, Bool, true, false, not, ◌&&◌, ◌||◌, cond, map, Option, Some, None, refl, ap, sym, ◌∙◌, ⊎_elim, arith}
use Rattle.std.specs.List.{list_any}
use Rattle.std.proofs.lemmas.Bool.{cases_Bool}
use Rattle.std.proofs.lemmas.Bool.Decides.{nat_tests}
use Rattle.boss_model.specs.declared.notice.What.{What}
use Rattle.boss_model.specs.declared.notice.What.TheVariants as what
use Rattle.boss_stages.specs.Stages.{Tracked, Stages, number, kept_as, is_over, with_end, without_reversion, changed, finished_if_over}
use Rattle.boss_booking.specs.Books.{Telling, after_what, is_end}

-- what a telling makes of its transaction
abbrev pub turn : Option What → ℕ → Bool → Tracked → Tracked
turn None at reverts kept = kept
turn (Some (what.Fault point)) at reverts kept = kept
turn (Some (what.Ended point why)) at reverts kept = with_end point why at reverts kept
turn (Some (what.Reverted point)) at reverts kept = without_reversion point kept
turn (Some (what.Cut point by)) at reverts kept = without_reversion point kept
turn (Some what.Done) at reverts kept = kept

abbrev pub played : Telling → Tracked → Tracked
played e kept = cond (number kept == e.happening.txn) (turn e.happening.told e.happening.at e.reverts kept) kept

pub number-turn : (told : Option What) (at : ℕ) (reverts : Bool) (kept : Tracked) → number (turn told at reverts kept) ≡ number kept
number-turn None at reverts kept = refl
number-turn (Some (what.Fault point)) at reverts kept = refl
number-turn (Some (what.Ended point why)) at reverts kept = refl
number-turn (Some (what.Reverted point)) at reverts kept = refl
number-turn (Some (what.Cut point by)) at reverts kept = refl
number-turn (Some what.Done) at reverts kept = refl

pub turn-other : (told : Option What) (at : ℕ) (reverts : Bool) (kept : Tracked) → is_end told ≡ false → turn told at reverts kept ≡ kept
turn-other None at reverts kept other = refl
turn-other (Some (what.Fault point)) at reverts kept other = refl
turn-other (Some (what.Ended point why)) at reverts kept other = cc
turn-other (Some (what.Reverted point)) at reverts kept other = cc
turn-other (Some (what.Cut point by)) at reverts kept other = cc
turn-other (Some what.Done) at reverts kept other = refl

pub after-end : (told : Option What) (txn at : ℕ) (reverts : Bool) (stages : Stages) → is_end told ≡ true →
    after_what txn at reverts told stages ≡ finished_if_over txn (record stages { kept = changed txn (turn told at reverts) stages.kept })
after-end None txn at reverts stages end = cc
after-end (Some (what.Fault point)) txn at reverts stages end = cc
after-end (Some (what.Ended point why)) txn at reverts stages end = refl
after-end (Some (what.Reverted point)) txn at reverts stages end = refl
after-end (Some (what.Cut point by)) txn at reverts stages end = refl
after-end (Some what.Done) txn at reverts stages end = cc

pub after-other : (told : Option What) (txn at : ℕ) (reverts : Bool) (stages : Stages) → is_end told ≡ false → after_what txn at reverts told stages ≡ stages
after-other None txn at reverts stages other = refl
after-other (Some (what.Fault point)) txn at reverts stages other = refl
after-other (Some (what.Ended point why)) txn at reverts stages other = cc
after-other (Some (what.Reverted point)) txn at reverts stages other = cc
after-other (Some (what.Cut point by)) txn at reverts stages other = cc
after-other (Some what.Done) txn at reverts stages other = refl

pub number-played : (e : Telling) (kept : Tracked) → number (played e kept) ≡ number kept
number-played e kept = ⊎_elim
    (λ own. ap (λ b. number (cond b (turn e.happening.told e.happening.at e.reverts kept) kept)) own ∙ number-turn e.happening.told e.happening.at e.reverts kept)
    (λ other. ap (λ b. number (cond b (turn e.happening.told e.happening.at e.reverts kept) kept)) other)
    (cases_Bool (number kept == e.happening.txn))

pub numbers-played : (e : Telling) (ks : List Tracked) → map number (map (played e) ks) ≡ map number ks
numbers-played e [] = refl
numbers-played e (k ∷ ks) = λ i. number-played e k i ∷ numbers-played e ks i

-- it ends a part of the transaction
abbrev pub ends : ℕ → Telling → Bool
ends txn e = is_end e.happening.told && (e.happening.txn == txn)

-- another transaction, or one of which nothing ends, stays as it is
pub played-other : (e : Telling) (kept : Tracked) → ends (number kept) e ≡ false → played e kept ≡ kept
played-other e kept other = ⊎_elim
    (λ own.
    let same : is_end e.happening.told ≡ false = grind (arith, nat_tests) in
    ap (λ b. cond b (turn e.happening.told e.happening.at e.reverts kept) kept) own ∙ turn-other e.happening.told e.happening.at e.reverts kept same)
    (λ away. ap (λ b. cond b (turn e.happening.told e.happening.at e.reverts kept) kept) away)
    (cases_Bool (number kept == e.happening.txn))

-- some part of the transaction is still to end
abbrev pub awaits : ℕ → List Telling → Bool
awaits txn es = list_any (ends txn) es

abbrev pub all_played : List Telling → List Tracked → List Tracked
all_played [] ks = ks
all_played (e ∷ es) ks = all_played es (map (played e) ks)

abbrev pub over_in : ℕ → List Tracked → Bool
over_in txn ks = is_over (kept_as txn ks)

-- whose part ends is not over before
abbrev pub AreFitting : List Tracked → List Telling → Type 0
AreFitting ks [] = Unit {0}
AreFitting ks (e ∷ es) = (is_end e.happening.told ≡ true → over_in e.happening.txn ks ≡ false) × AreFitting (map (played e) ks) es

pub kept_as-other : (txn : ℕ) (e : Telling) (ks : List Tracked) → ends txn e ≡ false → kept_as txn (map (played e) ks) ≡ kept_as txn ks
kept_as-other txn e [] other = refl
kept_as-other txn e (k ∷ ks) other =
    let rest : kept_as txn (map (played e) ks) ≡ kept_as txn ks = kept_as-other txn e ks other in
    ⊎_elim
    (λ own.
    let number_own : number (played e k) ≡ number k = number-played e k in
    let at : number k ≡ txn = grind (arith, nat_tests) in
    let same : played e k ≡ k = played-other e k (ap (λ t. ends t e) at ∙ other) in
    λ i. cond (number (same i) == txn) (Some (same i)) (rest i))
    (λ away.
    let away_too : (number (played e k) == txn) ≡ false = ap (λ n. n == txn) (number-played e k) ∙ away in
    ap (λ b. cond b (Some (played e k)) (kept_as txn (map (played e) ks))) away_too ∙ rest ∙ sym (ap (λ b. cond b (Some k) (kept_as txn ks)) away))
    (cases_Bool (number k == txn))

-- a transaction is over where nothing of it is to come, if it is over at the end
pub over-fitting : (txn : ℕ) (ks : List Tracked) (es : List Telling) → AreFitting ks es → over_in txn ks ≡ (not (awaits txn es) && over_in txn (all_played es ks))
over-fitting txn ks [] fit = refl
over-fitting txn ks (e ∷ es) fit =
    let rest : over_in txn (map (played e) ks) ≡ (not (awaits txn es) && over_in txn (all_played es (map (played e) ks))) = over-fitting txn (map (played e) ks) es fit.1 in
    ⊎_elim
    (λ end.
    let is : is_end e.happening.told ≡ true = grind (arith, nat_tests) in
    let own : e.happening.txn ≡ txn = grind (arith, nat_tests) in
    let not_yet : over_in txn ks ≡ false = ap (λ t. over_in t ks) (sym own) ∙ fit.0 is in
    let more : awaits txn (e ∷ es) ≡ true = ap (λ b. b || awaits txn es) end in
    not_yet ∙ sym (ap (λ b. not b && over_in txn (all_played es (map (played e) ks))) more))
    (λ other.
    let same : awaits txn (e ∷ es) ≡ awaits txn es = ap (λ b. b || awaits txn es) other in
    ap is_over (sym (kept_as-other txn e ks other)) ∙ rest ∙ sym (ap (λ b. not b && over_in txn (all_played es (map (played e) ks))) same))
    (cases_Bool (ends txn e))

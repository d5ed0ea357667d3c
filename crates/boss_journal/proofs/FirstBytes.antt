-- What the first 43 bytes tell of all.
use Rattle.std.proofs.Common.{◌≡◌, ◌≢◌, ℕ, ◌+◌, ◌-◌, ◌<◌, ◌≤◌, min, ⊎_elim, List, [], ◌∷◌, ◌++◌, length, take, drop, get_or, refl, sym, ap, subst, ◌∙◌, append-nil, length-append, length-take, length-drop, arith}
use Rattle.std.specs.Prelude.{codes, Bool, true, false, IsTrue, ◌==◌}
use Rattle.std.proofs.lemmas.List.{take_all, take-take, take-append-drop, get_or-take, drop-take, drop-drop, drop_more}
use Rattle.boss_journal.specs.declared.refusal.OpenRefusal.{OpenRefusal}
use Rattle.boss_journal.specs.declared.refusal.OpenRefusal.TheVariants.{NotAJournal, Version, Catalogue, DiskFault}
use Rattle.boss_journal.specs.Fronts.{journal_front, fresh_rest, IsFresh, IsBegun, IsNew}
use Rattle.def_log.specs.Versions.{IsKnown}
use Rattle.boss_journal.specs.Opens.{IsMarked, HasNoFront, Refuses, IsFound}

-- fewer than 43 are all
pub all_here : (first bytes : List ℕ) → first ≡ take 43 bytes → length first < 43 → bytes ≡ first
all_here first bytes is few =
    let size : length first ≡ min 43 (length bytes) = ap length is ∙ length-take 43 bytes in
    sym (is ∙ take_all 43 bytes (omega arith))

pub length-fresh : (v : ℕ) (digest bytes : List ℕ) → IsFresh v digest bytes → length digest ≡ 32 → length bytes ≡ 42
length-fresh v digest bytes fresh size =
    let all : length bytes ≡ length (fresh.first ∷ fresh_rest v digest) = ap length fresh.is in
    let end : length (digest ++ 0 ∷ []) ≡ length digest + 1 = length-append digest (0 ∷ []) in
    omega arith

pub another_length : (v : ℕ) (digest first bytes : List ℕ) → first ≡ take 43 bytes → length first ≢ 42 → length digest ≡ 32 → IsFresh v digest bytes → ⊥
another_length v digest first bytes is other size fresh =
    let all = length-fresh v digest bytes fresh size in
    let many : length first ≡ min 43 (length bytes) = ap length is ∙ length-take 43 bytes in
    other (omega arith)

-- from the second byte on
rest_of : (first : List ℕ) → take (length first - 1) (drop 1 first) ≡ drop 1 first
rest_of first = take_all (length first - 1) (drop 1 first) (omega (arith, length-drop 1 first))

pub another_rest : (v : ℕ) (digest first bytes : List ℕ) → first ≡ take 43 bytes → length first ≡ 42
    → (take (length first - 1) (drop 1 first) ≡ fresh_rest (get_or first 8 0) digest → ⊥) → IsFresh v digest bytes → ⊥
another_rest v digest first bytes is size other fresh =
    let all : first ≡ fresh.first ∷ fresh_rest v digest = sym (all_here first bytes is (omega arith)) ∙ fresh.is in
    let version : get_or first 8 0 ≡ v = ap (λ l. get_or l 8 0) all in
    other (rest_of first ∙ ap (drop 1) all ∙ ap (λ n. fresh_rest n digest) (sym version))

some_first : (l : List ℕ) → 1 ≤ length l → l ≡ get_or l 0 0 ∷ drop 1 l
some_first [] many = absurd (omega arith)
some_first (x ∷ l) many = refl

pub is_fresh : (digest first bytes : List ℕ) → first ≡ take 43 bytes → length first ≡ 42 → IsKnown (get_or first 8 0)
    → take (length first - 1) (drop 1 first) ≡ fresh_rest (get_or first 8 0) digest → IsFresh (get_or first 8 0) digest bytes
is_fresh digest first bytes is size known rest = record {
  known = known;
  first = get_or first 0 0;
  is = all_here first bytes is (omega arith) ∙ some_first first (omega arith) ∙ ap (λ l. get_or first 0 0 ∷ l) (sym (rest_of first) ∙ rest);
}

pub is_begun : (first bytes : List ℕ) → first ≡ take 43 bytes → 1 ≤ length first → length first ≤ 42 → get_or first 0 0 ≡ 0 → IsBegun bytes
is_begun first bytes is some short zero =
    let all = all_here first bytes is (omega arith) in
    record {
      rest = drop 1 first;
      is = all ∙ some_first first some ∙ ap (λ b. b ∷ drop 1 first) zero;
      short = subst (λ (l : List ℕ). length l ≤ 42) (sym all) short;
    }

-- what stands at each part of the front
pub mark_of : (first bytes : List ℕ) → first ≡ take 43 bytes → take 8 first ≡ take 8 bytes
mark_of first bytes is = ap (take 8) is ∙ take-take 8 43 bytes (omega arith)

pub version_of : (first bytes : List ℕ) → first ≡ take 43 bytes → get_or first 8 0 ≡ get_or bytes 8 0
version_of first bytes is = ap (λ l. get_or l 8 0) is ∙ get_or-take 43 bytes 8 0 (omega arith)

pub digest_of : (first bytes : List ℕ) → first ≡ take 43 bytes → take 32 (drop 9 first) ≡ take 32 (drop 9 bytes)
digest_of first bytes is = ap (λ l. take 32 (drop 9 l)) is ∙ ap (take 32) (drop-take 9 34 bytes) ∙ take-take 32 34 (drop 9 bytes) (omega arith)

-- they bear the mark where all do
pub is_marked : (first bytes : List ℕ) → first ≡ take 43 bytes → (42 ≤ length first) × (take 8 first ≡ codes "BOSSJRNL") → IsMarked bytes
is_marked first bytes is marked =
    let many = marked.0 in
    (omega (arith, ap length is, length-take 43 bytes), sym (mark_of first bytes is) ∙ marked.1)

pub not_marked : (first bytes : List ℕ) → first ≡ take 43 bytes → IsMarked bytes → (42 ≤ length first) × (take 8 first ≡ codes "BOSSJRNL")
not_marked first bytes is marked =
    let many = marked.0 in
    let size : length first ≡ min 43 (length bytes) = ap length is ∙ length-take 43 bytes in
    (omega arith, mark_of first bytes is ∙ marked.1)

-- the parts make the front
pub front_parts : (bytes digest : List ℕ) (version : ℕ) → IsMarked bytes → get_or bytes 8 0 ≡ version
    → take 32 (drop 9 bytes) ≡ digest → (gate : ℕ) × (tail : List ℕ) × (bytes ≡ journal_front version digest ++ gate ∷ tail)
front_parts bytes digest version marked eighth middle =
    let many = marked.0 in
    let end : drop 32 (drop 9 bytes) ≡ get_or bytes 41 0 ∷ drop 42 bytes = drop-drop 32 9 bytes ∙ drop_more bytes 41 0 (omega arith) in (
      get_or bytes 41 0,
      drop 42 bytes,
      sym (take-append-drop 8 bytes) ∙ ap (λ l. l ++ drop 8 bytes) marked.1
          ∙ ap (λ l. codes "BOSSJRNL" ++ l) (drop_more bytes 8 0 (omega arith)
          ∙ ap (λ b. b ∷ drop 9 bytes) eighth
          ∙ ap (λ l. version ∷ l) (sym (take-append-drop 32 (drop 9 bytes)) ∙ ap (λ l. l ++ drop 32 (drop 9 bytes)) middle ∙ ap (λ l. digest ++ l) end)),
    )

-- bytes whose first are none of those of a new journal
pub not_new : (digest first bytes : List ℕ) → first ≡ take 43 bytes → 1 ≤ length first → length first ≢ 1
    → ((length first ≤ 42) × (get_or first 0 0 ≡ 0) → ⊥) → ((v : ℕ) → IsFresh v digest bytes → ⊥) → IsNew digest bytes → ⊥
not_new digest first bytes is some other begun fresh new =
    let many : length first ≡ min 43 (length bytes) = ap length is ∙ length-take 43 bytes in
    ⊎_elim
    (λ short. other (omega arith))
    (λ longer.
    ⊎_elim
    (λ (b : IsBegun bytes).
    let few : length bytes ≤ 42 = b.short in
    let all : first ≡ 0 ∷ b.rest = sym (all_here first bytes is (omega arith)) ∙ b.is in
    begun (omega arith, ap (λ l. get_or l 0 0) all))
    (λ found. fresh found.0 found.1) longer)
    new

pub found_at : (digest bytes : List ℕ) (version : ℕ) → (IsNew digest bytes → ⊥) → IsKnown version → length digest ≡ 32
    → (gate : ℕ) (tail : List ℕ) → bytes ≡ journal_front version digest ++ gate ∷ tail → IsFound digest version 41 bytes
found_at digest bytes version new known size gate tail is = record {
  not_new = new;
  known = known;
  at = record { gate = gate; tail = tail; is = is; here = sym (ap length (append-nil (journal_front version digest)) ∙ omega arith); each = tt };
}

pub refused : (digest bytes : List ℕ) (refusal : OpenRefusal) → (IsNew digest bytes → ⊥) → HasNoFront digest bytes refusal → Refuses digest bytes refusal
refused digest bytes NotAJournal new none = (new, none)
refused digest bytes (Version found) new none = (new, none)
refused digest bytes (Catalogue kept found) new none = (new, none)
refused digest bytes DiskFault new none = tt

-- a test that holds where this does, and did not hold
pub denied : {P : Type 0} (test : Bool) → (P → IsTrue test) → test ≡ false → P → ⊥
denied {P} test gives failed here = let bad : false ≡ true = subst IsTrue failed (gives here) in cc

pub some_bytes : (l : List ℕ) (test : Bool) → test ≡ (length l == 0) → test ≡ false → 1 ≤ length l
some_bytes [] test is failed = let passed : test ≡ true = is in cc
some_bytes (x ∷ l) test is failed = omega arith

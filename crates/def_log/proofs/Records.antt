-- The records of a log are unique, and so is where they are damaged.
use Rattle.std.proofs.Common.{◌≡◌, ℕ, ◌≤◌, List, [], ◌∷◌, ◌++◌, length, take, drop, refl, sym, ap, ◌∙◌, append_assoc, arith}
use Rattle.std.specs.Int.{w32, from_be_bytes, to_be_bytes}
use Rattle.std.proofs.lemmas.List.{take_at, drop_at, append_cancel_left}
use Rattle.std.proofs.lemmas.Nat.{from_be_bytes-to_be_bytes_4}
use Rattle.boss_model.specs.Limits.{longest_record}
use Rattle.def_log.specs.Log.{framed, spelled, AreRecords, IsLog, IsDamaged}

-- what stands behind a length is the record, and what follows it
pub framed-one : (r s a b : List ℕ) → length r ≤ longest_record → length s ≤ longest_record → framed r ++ a ≡ framed s ++ b → (r ≡ s) × (a ≡ b)
unfolding framed
framed-one r s a b short few is =
    let same : to_be_bytes w32 (length r) ++ (r ++ a) ≡ to_be_bytes w32 (length s) ++ (s ++ b) =
    sym (append_assoc (to_be_bytes w32 (length r)) r a) ∙ is ∙ append_assoc (to_be_bytes w32 (length s)) s b in
    let fronts : to_be_bytes w32 (length r) ≡ to_be_bytes w32 (length s) =
    sym (take_at (to_be_bytes w32 (length r)) (r ++ a) 4 refl) ∙ ap (take 4) same ∙ take_at (to_be_bytes w32 (length s)) (s ++ b) 4 refl in
    let rests : r ++ a ≡ s ++ b =
    sym (drop_at (to_be_bytes w32 (length r)) (r ++ a) 4 refl) ∙ ap (drop 4) same ∙ drop_at (to_be_bytes w32 (length s)) (s ++ b) 4 refl in
    let long : length r ≡ length s =
    sym (from_be_bytes-to_be_bytes_4 (length r) (omega arith)) ∙ ap (from_be_bytes w32) fronts ∙ from_be_bytes-to_be_bytes_4 (length s) (omega arith) in
    let first : r ≡ s = sym (take_at r a (length r) refl) ∙ ap (take (length r)) rests ∙ take_at s b (length r) (sym long) in
    let second : a ≡ b = sym (drop_at r a (length r) refl) ∙ ap (drop (length r)) rests ∙ drop_at s b (length r) (sym long) in
    (first, second)

pub head-same : (x y : ℕ) (xs ys : List ℕ) → x ∷ xs ≡ y ∷ ys → x ≡ y
head-same x y xs ys is = cc

tail-same : (x y : ℕ) (xs ys : List ℕ) → x ∷ xs ≡ y ∷ ys → xs ≡ ys
tail-same x y xs ys is = cc

-- what stands behind the gates of two records, with what follows
pub record Behind (r s rest other : List ℕ) : Type 0 where
  pub same : r ≡ s
  pub after : rest ≡ other

pub behind : (r s rs ss a b : List ℕ) → length r ≤ longest_record → length s ≤ longest_record →
    (1 ∷ (framed r ++ rs)) ++ a ≡ (1 ∷ (framed s ++ ss)) ++ b → Behind r s (rs ++ a) (ss ++ b)
behind r s rs ss a b short few is =
    let bodies : framed r ++ (rs ++ a) ≡ framed s ++ (ss ++ b) =
    sym (append_assoc (framed r) rs a) ∙ tail-same 1 1 ((framed r ++ rs) ++ a) ((framed s ++ ss) ++ b) is ∙ append_assoc (framed s) ss b in
    let both = framed-one r s (rs ++ a) (ss ++ b) short few bodies in
    record { same = both.0; after = both.1 }

-- behind a record there is a gate
some-gate : (rs : List (List ℕ)) (g : ℕ) (t : List ℕ) → (gate : ℕ) × (more : List ℕ) × (spelled rs ++ g ∷ t ≡ gate ∷ more)
some-gate [] g t = (g, t, refl)
some-gate (r ∷ rs) g t = (1, (framed r ++ spelled rs) ++ g ∷ t, refl)

pub record-behind : (r : List ℕ) (rs : List (List ℕ)) (g : ℕ) (t u : List ℕ) → 1 ∷ u ≡ spelled (r ∷ rs) ++ g ∷ t →
    (gate : ℕ) × (more : List ℕ) × (u ≡ framed r ++ gate ∷ more)
record-behind r rs g t u is =
    let gate = some-gate rs g t in
    (gate.0, gate.1, tail-same 1 1 u ((framed r ++ spelled rs) ++ g ∷ t) is ∙ append_assoc (framed r) (spelled rs) (g ∷ t) ∙ ap (λ x. framed r ++ x) gate.2)

one-log : (rs ss : List (List ℕ)) (g h : ℕ) (t u : List ℕ) → (g ≡ 1 → ⊥) → (h ≡ 1 → ⊥) → AreRecords rs → AreRecords ss →
    spelled rs ++ g ∷ t ≡ spelled ss ++ h ∷ u → rs ≡ ss
one-log [] [] g h t u shut other each every is = refl
one-log [] (s ∷ ss) g h t u shut other each every is = absurd (shut (head-same g 1 t ((framed s ++ spelled ss) ++ h ∷ u) is))
one-log (r ∷ rs) [] g h t u shut other each every is = absurd (other (head-same h 1 u ((framed r ++ spelled rs) ++ g ∷ t) (sym is)))
one-log (r ∷ rs) (s ∷ ss) g h t u shut other each every is =
    let b = behind r s (spelled rs) (spelled ss) (g ∷ t) (h ∷ u) each.0 every.0 is in
    ap (λ x. x ∷ rs) b.same ∙ ap (λ xs. s ∷ xs) (one-log rs ss g h t u shut other each.1 every.1 b.after)

abbrev IsBroken : List ℕ → Type 0
IsBroken tail = (r : List ℕ) (gate : ℕ) (more : List ℕ) → length r ≤ longest_record → tail ≡ framed r ++ gate ∷ more → ⊥

one-damage : (rs ss : List (List ℕ)) (t u : List ℕ) → IsBroken t → IsBroken u → AreRecords rs → AreRecords ss →
    spelled rs ++ 1 ∷ t ≡ spelled ss ++ 1 ∷ u → rs ≡ ss
one-damage [] [] t u broken other each every is = refl
one-damage [] (s ∷ ss) t u broken other each every is =
    let found = record-behind s ss 1 u t is in absurd (broken s found.0 found.1 every.0 found.2)
one-damage (r ∷ rs) [] t u broken other each every is =
    let found = record-behind r rs 1 t u (sym is) in absurd (other r found.0 found.1 each.0 found.2)
one-damage (r ∷ rs) (s ∷ ss) t u broken other each every is =
    let b = behind r s (spelled rs) (spelled ss) (1 ∷ t) (1 ∷ u) each.0 every.0 is in
    ap (λ x. x ∷ rs) b.same ∙ ap (λ xs. s ∷ xs) (one-damage rs ss t u broken other each.1 every.1 b.after)

never-both : (rs ss : List (List ℕ)) (g : ℕ) (t u : List ℕ) → (g ≡ 1 → ⊥) → IsBroken u → AreRecords rs → AreRecords ss →
    spelled rs ++ g ∷ t ≡ spelled ss ++ 1 ∷ u → ⊥
never-both [] [] g t u shut broken each every is = shut (head-same g 1 t u is)
never-both [] (s ∷ ss) g t u shut broken each every is = shut (head-same g 1 t ((framed s ++ spelled ss) ++ 1 ∷ u) is)
never-both (r ∷ rs) [] g t u shut broken each every is =
    let found = record-behind r rs g t u (sym is) in broken r found.0 found.1 each.0 found.2
never-both (r ∷ rs) (s ∷ ss) g t u shut broken each every is =
    let b = behind r s (spelled rs) (spelled ss) (g ∷ t) (1 ∷ u) each.0 every.0 is in never-both rs ss g t u shut broken each.1 every.1 b.after

pub records-of-log : (front bytes : List ℕ) (rs ss : List (List ℕ)) → IsLog front rs bytes → IsLog front ss bytes → rs ≡ ss
records-of-log front bytes rs ss one other = one-log rs ss one.gate other.gate one.tail other.tail one.shut other.shut one.each other.each
    (append_cancel_left front _ _ (sym one.is ∙ other.is))

pub records-before-damage : (front bytes : List ℕ) (rs ss : List (List ℕ)) → IsDamaged front rs bytes → IsDamaged front ss bytes → rs ≡ ss
records-before-damage front bytes rs ss one other = one-damage rs ss one.tail other.tail one.broken other.broken one.each other.each
    (append_cancel_left front _ _ (sym one.is ∙ other.is))

pub log-or-damaged : (front bytes : List ℕ) (rs ss : List (List ℕ)) → IsLog front rs bytes → IsDamaged front ss bytes → ⊥
log-or-damaged front bytes rs ss log damage = never-both rs ss log.gate log.tail damage.tail log.shut damage.broken log.each damage.each
    (append_cancel_left front _ _ (sym log.is ∙ damage.is))

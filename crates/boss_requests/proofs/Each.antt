-- Each item of a list, read one after another.
use Rattle.std.proofs.Common.{◌≡◌, ℕ, ◌+◌, List, [], ◌∷◌, ◌++◌, Option, Some, None, refl, sym, ap, ◌∙◌, subst}
use Rattle.boss_model.specs.declared.answer.Refusal.{Refusal}
use Rattle.def_wire.specs.Requests.{Parsed, asks, wrong, each_from, ◌>>=◌}
use Rattle.boss_requests.specs.declared.refusal.ReadRefusal.{ReadRefusal}
use Rattle.boss_requests.specs.declared.refusal.ReadRefusal.TheVariants.{Refused}
use Rattle.boss_requests.specs.Given.{IsTold, fault_of, told_or}

-- what was read before, and then the rest
abbrev pub onto : {B : Type 0} → List B → Parsed (List B) → Parsed (List B)
onto ys (asks zs) = asks (ys ++ zs)
onto ys (wrong why) = wrong why

-- ---- items that are read, and then taken on one by one

module _ {D B C : Type 0} (read : ℕ → D → Parsed B) (take_on : ℕ → B → Parsed C) where
  abbrev both : ℕ → D → Parsed C
  both place d = read place d >>= take_on place

  -- where each can be read
  both-passes : (place : ℕ) (ds : List D) (bs : List B) → each_from read place ds ≡ asks bs → each_from both place ds ≡ each_from take_on place bs
  both-passes place [] bs is = let none : bs ≡ [] = cc in rw none refl
  both-passes place (d ∷ ds) bs is = one (read place d) refl (each_from read (place + 1) ds) refl (both-passes (place + 1) ds)
    where
      Later : Type 0
      Later = (bs : List B) → each_from read (place + 1) ds ≡ asks bs → each_from both (place + 1) ds ≡ each_from take_on (place + 1) bs

      one : (first : Parsed B) → read place d ≡ first → (others : Parsed (List B)) → each_from read (place + 1) ds ≡ others → Later → each_from both place (d ∷ ds) ≡ each_from take_on place bs
      one (wrong why) e others r later = let none : each_from read place (d ∷ ds) ≡ wrong why = rw e refl in absurd (cc)
      one (asks b) e (wrong why) r later = let none : each_from read place (d ∷ ds) ≡ wrong why = rw (e, r) refl in absurd (cc)
      one (asks b) e (asks others) r later =
          let all : each_from read place (d ∷ ds) ≡ asks (b ∷ others) = rw (e, r) refl in
          let same : bs ≡ b ∷ others = cc in
          rw (same, e, later others r) refl

  -- what was taken on of each, which can be read then
  read-each : (place : ℕ) (ds : List D) (cs : List C) → each_from both place ds ≡ asks cs → fault_of (each_from read place ds) ≡ None
  read-each place [] cs is = refl
  read-each place (d ∷ ds) cs is = from (read place d) refl (read-each (place + 1) ds)
    where
      taken : (b : B) → read place d ≡ asks b → (one : Parsed C) → take_on place b ≡ one → (others : Parsed (List C)) → each_from both (place + 1) ds ≡ others
          → (rest : Parsed (List B)) → each_from read (place + 1) ds ≡ rest → ((cs : List C) → each_from both (place + 1) ds ≡ asks cs → fault_of (each_from read (place + 1) ds) ≡ None)
          → fault_of (each_from read place (d ∷ ds)) ≡ None
      taken b e (wrong why) t others o rest r more = let none : each_from both place (d ∷ ds) ≡ wrong why = rw (e, t) refl in absurd (cc)
      taken b e (asks c) t (wrong why) o rest r more = let none : each_from both place (d ∷ ds) ≡ wrong why = rw (e, t, o) refl in absurd (cc)
      taken b e (asks c) t (asks others) o (asks rest) r more = rw (e, r) refl
      taken b e (asks c) t (asks others) o (wrong why) r more = let some : fault_of (each_from read (place + 1) ds) ≡ Some why = ap fault_of r in let none = more others o in absurd (cc)

      from : (one : Parsed B) → read place d ≡ one → ((cs : List C) → each_from both (place + 1) ds ≡ asks cs → fault_of (each_from read (place + 1) ds) ≡ None)
          → fault_of (each_from read place (d ∷ ds)) ≡ None
      from (wrong why) e more = let none : each_from both place (d ∷ ds) ≡ wrong why = rw e refl in absurd (cc)
      from (asks b) e more = taken b e (take_on place b) refl (each_from both (place + 1) ds) refl (each_from read (place + 1) ds) refl more

  -- reading all, and then taking on all, asks what doing both one by one asks
  pub both-asks : (place : ℕ) (ds : List D) (cs : List C) → each_from both place ds ≡ asks cs → (each_from read place ds >>= each_from take_on place) ≡ asks cs
  both-asks place ds cs is = from (each_from read place ds) refl
    where
      from : (all : Parsed (List B)) → each_from read place ds ≡ all → (each_from read place ds >>= each_from take_on place) ≡ asks cs
      from (asks bs) e = rw e (sym (both-passes place ds bs e) ∙ is)
      from (wrong why) e = let some : fault_of (each_from read place ds) ≡ Some why = ap fault_of e in let none = read-each place ds cs is in absurd (cc)

  -- and tells the first that can't be read, or else what was found first
  pub both-told : (place : ℕ) (ds : List D) (first : ReadRefusal) → IsTold first (each_from both place ds)
      → IsTold (told_or (fault_of (each_from read place ds)) first) (each_from read place ds >>= each_from take_on place)
  both-told place ds first told = from (each_from read place ds) refl
    where
      from : (all : Parsed (List B)) → each_from read place ds ≡ all → IsTold (told_or (fault_of (each_from read place ds)) first) (each_from read place ds >>= each_from take_on place)
      from (asks bs) e = rw e (subst (IsTold first) (both-passes place ds bs e) told)
      from (wrong why) e = rw e refl

-- ---- the first that can't be read

module _ {D B : Type 0} (read : ℕ → D → Parsed B) where
  pub each-failed : (place : ℕ) (d : D) (ds : List D) (why : Refusal) → fault_of (read place d) ≡ Some why → fault_of (each_from read place (d ∷ ds)) ≡ Some why
  each-failed place d ds why some = from (read place d) refl some
    where
      from : (one : Parsed B) → read place d ≡ one → fault_of (read place d) ≡ Some why → fault_of (each_from read place (d ∷ ds)) ≡ Some why
      from (asks b) e some = let none : fault_of (read place d) ≡ None = ap fault_of e in absurd (cc)
      from (wrong other) e some = rw e (sym (ap fault_of e) ∙ some)

-- What happens is told apart by its rank, wherever each transaction has one owner and leases end for one cause.
use Rattle.std.proofs.Common.{◌≡◌, ℕ, ◌≤◌, Option, Some, None, refl, ap, sym, ◌∙◌, arith}
use Rattle.boss_model.specs.declared.notice.Cause.{Cause}
use Rattle.boss_model.specs.declared.notice.What.{What}
use Rattle.boss_model.specs.declared.notice.What.TheVariants as what
use Rattle.boss_model.specs.Happenings.{Happening, rank, rank_of, sort_number}

-- ---- what is told

-- an end is told with this cause, and a cut with this transaction
abbrev pub IsTold : Cause → ℕ → Option What → Type 0
IsTold why by None = Unit {0}
IsTold why by (Some (what.Fault point)) = Unit {0}
IsTold why by (Some (what.Ended point told)) = told ≡ why
IsTold why by (Some (what.Reverted point)) = Unit {0}
IsTold why by (Some (what.Cut point told)) = told ≡ by
IsTold why by (Some what.Done) = Unit {0}

numbered : (told : What) → 1 ≤ sort_number told
numbered (what.Fault point) = omega arith
numbered (what.Ended point why) = omega arith
numbered (what.Reverted point) = omega arith
numbered (what.Cut point by) = omega arith
numbered what.Done = omega arith

same-what : (why : Cause) (by : ℕ) (t u : What) → IsTold why by (Some t) → IsTold why by (Some u) → rank_of (Some t) ≡ rank_of (Some u) → t ≡ u
same-what why by (what.Fault a) (what.Fault b) p q same = cc
same-what why by (what.Ended a c) (what.Ended b e) p q same = cc
same-what why by (what.Reverted a) (what.Reverted b) p q same = cc
same-what why by (what.Cut a c) (what.Cut b e) p q same = cc
same-what why by what.Done what.Done p q same = refl
same-what why by t u p q same = cc

same-told : (why : Cause) (by : ℕ) (t u : Option What) → IsTold why by t → IsTold why by u → rank_of t ≡ rank_of u → t ≡ u
same-told why by None None p q same = refl
same-told why by None (Some u) p q same = let number : 0 ≡ sort_number u = cc in absurd (omega (arith, numbered u))
same-told why by (Some t) None p q same = let number : sort_number t ≡ 0 = cc in absurd (omega (arith, numbered t))
same-told why by (Some t) (Some u) p q same = ap Some (same-what why by t u p q same)

module _ (owners : ℕ → ℕ) (why : Cause) (by : ℕ) where
  -- it happens to a transaction of this owner, and is told so
  abbrev pub IsToldOf : Happening → Type 0
  IsToldOf h = (h.owner ≡ owners h.txn) × IsTold why by h.told

  pub told-apart : (x y : Happening) → IsToldOf x → IsToldOf y → rank x ≡ rank y → x ≡ y
  told-apart x y p q same =
      let at : x.at ≡ y.at = cc in
      let txn : x.txn ≡ y.txn = cc in
      let owner : x.owner ≡ y.owner = p.0 ∙ ap owners txn ∙ sym q.0 in
      let behind : rank_of x.told ≡ rank_of y.told = cc in
      let told : x.told ≡ y.told = same-told why by x.told y.told p.1 q.1 behind in
      λ i. record { at = at i; txn = txn i; owner = owner i; told = told i }

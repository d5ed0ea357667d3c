-- What a member more makes of the list of members.
use Rattle.std.proofs.Common.{◌≡◌, ℕ, suc, zero, ◌-◌, ◌<◌, true, false, List, [], ◌∷◌, ◌++◌, Option, Some, None, option_map, refl, sym, ◌∙◌, ap, subst, append_assoc, arith}
use Rattle.boss_places.specs.Words.{first_of, is_member, members_from}

behind_all : (members : List (List ℕ)) (first : List ℕ) (found : Option (List (List ℕ))) →
    option_map (λ more. members ++ more) (option_map (λ more. first ∷ more) found) ≡ option_map (λ more. (members ++ first ∷ []) ++ more) found
behind_all members first None = refl
behind_all members first (Some more) = ap Some (sym (append_assoc members (first ∷ []) more))

module _ (whole : Option (List (List ℕ))) (members : List (List ℕ)) (rest : List ℕ) where
  -- one that is none
  pub no_member : (left : ℕ) → whole ≡ option_map (λ more. members ++ more) (members_from left rest) → 0 < left →
      is_member (first_of rest).0 ≡ false → whole ≡ None
  no_member zero is some not = absurd (omega (arith, some))
  no_member (suc left) is some not = is ∙ (rw not)

  -- the last one
  pub last_member : (left : ℕ) → whole ≡ option_map (λ more. members ++ more) (members_from left rest) → 0 < left →
      is_member (first_of rest).0 ≡ true → (first_of rest).1 ≡ None → whole ≡ Some (members ++ (first_of rest).0 ∷ [])
  last_member zero is some member none = absurd (omega (arith, some))
  last_member (suc left) is some member none = is ∙ (rw (member, none))

  -- one of several
  pub one_member : (left : ℕ) (behind : List ℕ) → whole ≡ option_map (λ more. members ++ more) (members_from left rest) → 0 < left →
      is_member (first_of rest).0 ≡ true → (first_of rest).1 ≡ Some behind →
      whole ≡ option_map (λ more. (members ++ (first_of rest).0 ∷ []) ++ more) (members_from (left - 1) behind)
  one_member zero behind is some member more = absurd (omega (arith, some))
  one_member (suc left) behind is some member more =
      let same : left ≡ suc left - 1 = omega arith in
      is ∙ (rw (member, more) (behind_all members (first_of rest).0 (members_from left behind)))
      ∙ ap (λ n. option_map (λ more. (members ++ (first_of rest).0 ∷ []) ++ more) (members_from n behind)) same

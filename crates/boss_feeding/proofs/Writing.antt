-- What was told so far of what is to be told.
use Rattle.std.proofs.Common.{◌≡◌, ℕ, List, [], ◌++◌, refl, sym, ap, ◌∙◌, append_assoc, append-nil}
use Rattle.std.specs.Prelude.{Result, Ok, Err}
use Rattle.boss_outside.specs.Streams.{TakesFront, Writes}

-- of all of it this much is left
pub record SoFar (old now all left : List ℕ) : Type 0 where
  pub told : List ℕ
  pub taken : now ≡ old ++ told
  pub parts : all ≡ told ++ left

pub none_yet : (old all : List ℕ) → SoFar old old all all
none_yet old all = record { told = []; taken = sym (append-nil old); parts = refl }

pub some_more : (old now new all some left : List ℕ) → SoFar old now all (some ++ left) → new ≡ now ++ some → SoFar old new all left
some_more old now new all some left so is = record {
  told = so.told ++ some;
  taken = is ∙ ap (λ t. t ++ some) so.taken ∙ append_assoc old so.told some;
  parts = so.parts ∙ sym (append_assoc so.told some left);
}

pub all_told : (old now all : List ℕ) → SoFar old now all [] → now ≡ old ++ all
all_told old now all so = so.taken ∙ ap (λ t. old ++ t) (sym (append-nil so.told) ∙ sym so.parts)

-- what was told of the next part is told of all
pub front_told : (old now new all some left : List ℕ) → SoFar old now all (some ++ left) → TakesFront now new some → TakesFront old new all
front_told old now new all some left so (front, back, is, new_is) = (
  so.told ++ front,
  back ++ left,
  so.parts ∙ ap (λ t. so.told ++ t) (ap (λ t. t ++ left) is ∙ append_assoc front back left) ∙ sym (append_assoc so.told front (back ++ left)),
  new_is ∙ ap (λ t. t ++ front) so.taken ∙ append_assoc old so.told front,
)

-- of all that is left
pub left_told : (old now new all left : List ℕ) → SoFar old now all left → TakesFront now new left → TakesFront old new all
left_told old now new all left so (front, back, is, new_is) = (
  so.told ++ front,
  back,
  so.parts ∙ ap (λ t. so.told ++ t) is ∙ sym (append_assoc so.told front back),
  new_is ∙ ap (λ t. t ++ front) so.taken ∙ append_assoc old so.told front,
)

pub nothing_told : (old all : List ℕ) → TakesFront old old all
nothing_told old all = ([], all, refl, sym (append-nil old))

pub no_lines : (old all : List ℕ) → all ≡ [] → old ≡ old ++ all
no_lines old all none = sym (append-nil old) ∙ ap (λ t. old ++ t) (sym none)

-- ---- two parts

pub then_told : {T E : Type 0} (old mid new one other : List ℕ) (result : Result T E) → mid ≡ old ++ one → Writes mid new other result → Writes old new (one ++ other) result
then_told old mid new one other (Ok x) is told = told ∙ ap (λ t. t ++ other) is ∙ append_assoc old one other
then_told old mid new one other (Err e) is (front, back, parts, new_is) = (
  one ++ front,
  back,
  ap (λ t. one ++ t) parts ∙ sym (append_assoc one front back),
  new_is ∙ ap (λ t. t ++ front) is ∙ append_assoc old one front,
)

pub part_told : (old new one other : List ℕ) → TakesFront old new one → TakesFront old new (one ++ other)
part_told old new one other (front, back, parts, new_is) = (front, back ++ other, ap (λ t. t ++ other) parts ∙ append_assoc front back other, new_is)

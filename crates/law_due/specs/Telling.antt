-- Source: own.
use Rattle.std.specs.Prelude.{◌≡◌, ℕ, List, Option, Some, None}
use Rattle.std.specs.List.{AllByRecursion}
use Rattle.boss_model.specs.declared.notice.What.{What}
use Rattle.boss_model.specs.declared.notice.What.TheVariants as what

-- items of one rank are one and the same
abbrev pub AreApart : {X : Type 0} → (X → List ℕ) → List X → Type 0
AreApart rank xs = AllByRecursion (λ one. AllByRecursion (λ other. rank one ≡ rank other → one ≡ other) xs) xs

-- what its owner is told, where the owner is told anything
abbrev pub what_told : Option What → What
what_told None = what.Done
what_told (Some told) = told

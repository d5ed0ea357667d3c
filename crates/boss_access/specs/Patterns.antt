-- Source: own.
-- Which names a pattern is for, and how a text spells it.
use Rattle.std.specs.Prelude.{ℕ, ◌-◌, nat_eq, nat_le, Bool, true, ◌&&◌, if◌then◌else◌, List, [], ◌∷◌, length, take, drop, codes, Option, Some, None}
use Rattle.std.specs.List.{starts_with}
use Rattle.std.specs.Str.{bytes_eq}
use Rattle.boss_model.specs.Names.{is_name}
use Rattle.boss_access.specs.declared.pattern.Pattern.{Pattern}
use Rattle.boss_access.specs.declared.pattern.Pattern.TheVariants.{Named, Beginning, Any}
use Rattle.boss_access.specs.Limits.{longest_beginning}

-- a name alone, the names that begin so, or every name
abbrev pub matches : Pattern → List ℕ → Bool
matches (Named own) name = bytes_eq own name
matches (Beginning start) name = starts_with nat_eq name start
matches Any name = true

-- ---- texts

abbrev pub named : List ℕ → Option Pattern
named text = if is_name text then Some (Named text) else None

-- what stands before the star: nothing, or up to 63 characters of names
abbrev pub beginning : List ℕ → Option Pattern
beginning [] = Some Any
beginning (c ∷ cs) = if nat_le (length (c ∷ cs)) longest_beginning && is_name (c ∷ cs) then Some (Beginning (c ∷ cs)) else None

abbrev pub ends_in_star : List ℕ → Bool
ends_in_star text = bytes_eq (drop (length text - 1) text) (codes "*")

abbrev pub pattern_of : List ℕ → Option Pattern
pattern_of text = if ends_in_star text then beginning (take (length text - 1) text) else named text

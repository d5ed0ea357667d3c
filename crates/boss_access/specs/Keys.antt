-- Source: TOML 1.0.0 (the form of the file); its keys own; levels: ASHRAE 135, clause 19.2.
-- What the keys of a rule spell. A table with a key that is not named here spells none.
use Rattle.std.specs.Prelude.{ℕ, nat_le, ℤ, pos, negsuc, Bool, true, false, ◌&&◌, if◌then◌else◌, List, [], ◌∷◌, codes, Option, Some, None}
use Rattle.std.specs.List.{list_any}
use Rattle.std.specs.Option.{option_map_or}
use Rattle.std.specs.Str.{bytes_eq}
use Rattle.toml.specs.Data.{Data, Members, no_members, member, get, as_integer, as_bool, as_table}
use Rattle.boss_model.specs.Limits.{levels}
use Rattle.boss_points.specs.Keys.{◌>>=◌, text_at}
use Rattle.boss_access.specs.declared.pattern.Pattern.{Pattern}
use Rattle.boss_access.specs.declared.rule.Rule.{Rule}
use Rattle.boss_access.specs.Patterns.{pattern_of}

abbrev pub pattern_at : List ℕ → Data → Option Pattern
pattern_at key rule = text_at key rule >>= pattern_of

abbrev pub level_of : ℤ → Option ℕ
level_of (pos n) = if nat_le 1 n && nat_le n levels then Some n else None
level_of (negsuc _) = None

abbrev pub level_in : Data → Option ℕ
level_in d = as_integer d >>= level_of

-- where the key is missing, every level is allowed
abbrev pub highest_of : Data → Option ℕ
highest_of rule = option_map_or level_in (get (codes "highest") rule) (Some 1)

-- where the key is missing, the rule allows
abbrev pub allow_of : Data → Option Bool
allow_of rule = option_map_or as_bool (get (codes "allow") rule) (Some true)

-- each key of these members is one of those
abbrev pub all_among : List (List ℕ) → Members → Bool
all_among keys no_members = true
all_among keys (member key value more) = list_any (bytes_eq key) keys && all_among keys more

-- this is a table, and it has no key but these
abbrev pub has_only : List (List ℕ) → Data → Bool
has_only keys d = option_map_or (all_among keys) (as_table d) false

abbrev pub rule_keys : List (List ℕ)
rule_keys = codes "process" ∷ codes "point" ∷ codes "highest" ∷ codes "allow" ∷ []

-- the rule that the four keys of a table spell
abbrev pub rule_in : Data → Option Rule
rule_in d = do
  process ← pattern_at (codes "process") d
  point ← pattern_at (codes "point") d
  highest ← highest_of d
  allow ← allow_of d
  Some (record { process = process; point = point; highest = highest; allow = allow })

-- the rule that a table spells, where it has no fifth key
abbrev pub rule_of : Data → Option Rule
rule_of d = if has_only rule_keys d then rule_in d else None

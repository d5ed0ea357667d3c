-- Worked rows, computed from the definitions: two rules for a damper and a lamp, what they deny, and files that are refused.
use Rattle.std.proofs.Common.{◌≡◌, ℕ, ℤ, pos, List, [], ◌∷◌, true, false, codes, Option, Some, None, Ok, Err, refl}
use Rattle.std.specs.Fmt.{digits}
use Rattle.toml.specs.Data.{Data, string, integer, boolean, array, table, Items, no_items, item, no_members, member}
use Rattle.boss_model.specs.Catalogue.{Point}
use Rattle.boss_model.specs.declared.command.Setting.{Setting}
use Rattle.boss_model.specs.declared.point.Kind.{Kind}
use Rattle.boss_model.specs.declared.point.Kind.TheVariants.{Analog, Binary}
use Rattle.boss_access.specs.declared.pattern.Pattern.TheVariants.{Named, Beginning, Any}
use Rattle.boss_access.specs.declared.refusal.RulesRefusal.TheVariants.{Missing, TooMany, BadRule}
use Rattle.boss_access.specs.declared.rule.Rule.{Rule}
use Rattle.boss_access.specs.Decisions.{admits, first_denied}
use Rattle.boss_access.specs.Lines.{refusal_line}
use Rattle.boss_access.specs.Patterns.{matches, pattern_of}
use Rattle.boss_access.specs.Reading.{rules_in}

abbrev point_of_field : List ℕ → Kind → Point
point_of_field name kind = record { name = name; actuator = record { kind = kind; default = pos 0; driver = 0 }; min_on = pos 0; min_off = pos 0 }

abbrev two_points : List Point
two_points = point_of_field (codes "ahu1.damper") (Analog (pos 0) (pos 100000)) ∷ point_of_field (codes "lamp") Binary ∷ []

abbrev write : ℕ → ℤ → Setting
write point priority = record { point = point; value = pos 1; priority = priority; lease = pos 1000; revert = [] }

-- ---- tables, whose keys ascend

abbrev file_of : Items → Data
file_of tables = table (member (codes "rule") (array tables) no_members)

-- a on the air handler, from this level down
abbrev air_from : ℤ → Data
air_from highest =
    table (member (codes "highest") (integer highest) (member (codes "point") (string (codes "ahu1.*"))
    (member (codes "process") (string (codes "a")) no_members)))

-- everybody on everything, with this under one more key
abbrev all_with : List ℕ → Data → Data
all_with key value =
    table (member key value (member (codes "point") (string (codes "*")) (member (codes "process") (string (codes "*")) no_members)))

abbrev none : Data
none = all_with (codes "allow") (boolean false)

abbrev air : Rule
air = record { process = Named (codes "a"); point = Beginning (codes "ahu1."); highest = 8; allow = true }

abbrev nobody : Rule
nobody = record { process = Any; point = Any; highest = 1; allow = false }

-- ---- files

pub two-rules : rules_in (file_of (item (air_from (pos 8)) (item none no_items))) ≡ Ok (air ∷ nobody ∷ [])
two-rules = refl

pub no-rules : rules_in (file_of no_items) ≡ Ok []
no-rules = refl

pub missing-rule : rules_in (table no_members) ≡ Err Missing
missing-rule = refl

pub rule-no_array : rules_in (table (member (codes "rule") (air_from (pos 8)) no_members)) ≡ Err Missing
rule-no_array = refl

pub highest-past : rules_in (file_of (item none (item (air_from (pos 17)) no_items))) ≡ Err (BadRule 2)
highest-past = refl

pub highest-none : rules_in (file_of (item (air_from (pos 0)) no_items)) ≡ Err (BadRule 1)
highest-none = refl

-- the first bad rule is told
pub two-bad : rules_in (file_of (item (air_from (pos 0)) (item (table no_members) no_items))) ≡ Err (BadRule 1)
two-bad = refl

pub allow-text : rules_in (file_of (item (all_with (codes "allow") (string (codes "no"))) no_items)) ≡ Err (BadRule 1)
allow-text = refl

-- a fourth key that nothing reads, as of who spells the fourth so
pub key-unknown : rules_in (file_of (item none (item (all_with (codes "denied") (boolean true)) no_items))) ≡ Err (BadRule 2)
key-unknown = refl

-- the top of the file may have others
pub title-there : rules_in (table (member (codes "rule") (array (item none no_items)) (member (codes "title") (string []) no_members))) ≡ Ok (nobody ∷ [])
title-there = refl

-- ---- decisions

-- what a is told of its writes
abbrev told : List Rule → List Setting → Option (ℕ × ℕ)
told rules writes = first_denied rules two_points (codes "a") writes

pub allowed-from_8 : told (air ∷ nobody ∷ []) (write 0 (pos 8) ∷ []) ≡ None
allowed-from_8 = refl

pub denied-above_8 : told (air ∷ nobody ∷ []) (write 0 (pos 7) ∷ []) ≡ Some (0, 1)
denied-above_8 = refl

pub denied-lamp : told (air ∷ nobody ∷ []) (write 1 (pos 8) ∷ []) ≡ Some (0, 2)
denied-lamp = refl

pub denied-other : first_denied (air ∷ nobody ∷ []) two_points (codes "ab") (write 0 (pos 8) ∷ []) ≡ Some (0, 2)
denied-other = refl

-- no rule is for the lamp
pub denied-by_none : told (air ∷ []) (write 1 (pos 8) ∷ []) ≡ Some (0, 0)
denied-by_none = refl

-- the least write that is denied
pub denied-second : told (air ∷ nobody ∷ []) (write 0 (pos 8) ∷ write 0 (pos 7) ∷ write 1 (pos 8) ∷ []) ≡ Some (1, 1)
denied-second = refl

-- levels outside 1 to 16 are judged as numbers
pub level-0 : told (air ∷ []) (write 0 (pos 0) ∷ []) ≡ Some (0, 1)
level-0 = refl

pub level-17 : told (air ∷ []) (write 0 (pos 17) ∷ []) ≡ None
level-17 = refl

-- ---- attaches

-- also a rule that allows nothing, and not the first alone
pub admits-any : (admits (air ∷ nobody ∷ []) (codes "a") ≡ true) × (admits (air ∷ nobody ∷ []) (codes "b") ≡ true)
admits-any = (refl, refl)

pub admits-named : (admits (air ∷ []) (codes "a") ≡ true) × (admits (air ∷ []) (codes "ab") ≡ false)
admits-named = (refl, refl)

pub admits-none : admits [] (codes "a") ≡ false
admits-none = refl

-- ---- patterns

pub star-alone : pattern_of (codes "*") ≡ Some Any
star-alone = refl

pub star-behind : pattern_of (codes "night-*") ≡ Some (Beginning (codes "night-"))
star-behind = refl

pub star-in_front : pattern_of (codes "*.fan") ≡ None
star-in_front = refl

pub two-stars : pattern_of (codes "air.**") ≡ None
two-stars = refl

pub no-text : pattern_of [] ≡ None
no-text = refl

pub beginning-itself : matches (Beginning (codes "air.")) (codes "air.") ≡ true
beginning-itself = refl

pub beginning-shorter : matches (Beginning (codes "air.")) (codes "air") ≡ false
beginning-shorter = refl

pub name-longer : matches (Named (codes "air")) (codes "air.fan") ≡ false
name-longer = refl

-- ---- lines

pub line-missing : refusal_line Missing ≡ codes "rules missing\n"
line-missing = refl

pub line-bad_rule : refusal_line (BadRule 2) ≡ codes "rules bad-rule 2\n"
unfolding digits
line-bad_rule = refl

pub line-too_many : refusal_line (TooMany 257) ≡ codes "rules too-many 257\n"
unfolding digits
line-too_many = refl

-- Source: TOML 1.0.0 (the form of the file); its keys own; the tests and their order own.
-- The rules that a file spells, or why it is refused: five tests in their order, and in the last the least place.
use Rattle.std.specs.Prelude.{◌≡◌, ℕ, ◌+◌, nat_lt, Bool, if◌then◌else◌, List, [], ◌∷◌, ◌++◌, length, codes, Result, Ok, Err}
use Rattle.std.specs.Option.{option_map_or, ok_or}
use Rattle.toml.specs.Data.{Data}
use Rattle.boss_model.specs.Limits.{longest_file}
use Rattle.boss_points.specs.Keys.{array_at}
use Rattle.boss_points.specs.Reading.{table_of}
use Rattle.boss_access.specs.declared.refusal.RulesRefusal.{RulesRefusal}
use Rattle.boss_access.specs.declared.refusal.RulesRefusal.TheVariants.{TooLong, NotToml, Missing, TooMany, BadRule, NoMemory}
use Rattle.boss_access.specs.declared.rule.Rule.{Rule}
use Rattle.boss_access.specs.Limits.{most_rules}
use Rattle.boss_access.specs.Keys.{rule_of}

-- one test after another, until one refuses
infixl 10 ◌>>=◌
abbrev pub ◌>>=◌ : {A B : Type 0} → Result A RulesRefusal → (A → Result B RulesRefusal) → Result B RulesRefusal
(Ok x) >>= rest = rest x
(Err refusal) >>= rest = Err refusal

abbrev pub refuse_if : Bool → RulesRefusal → Result (Unit {0}) RulesRefusal
refuse_if test refusal = if test then Err refusal else Ok tt

abbrev pub at_most : ℕ → List Data → Result (Unit {0}) RulesRefusal
at_most most tables = refuse_if (nat_lt most (length tables)) (TooMany (length tables))

-- the rules of the tables, of which the first has this place, after the earlier ones; or the first that is refused
abbrev pub rules_from : ℕ → List Rule → List Data → Result (List Rule) RulesRefusal
rules_from place earlier [] = Ok earlier
rules_from place earlier (d ∷ ds) = option_map_or (λ rule. rules_from (place + 1) (earlier ++ rule ∷ []) ds) (rule_of d) (Err (BadRule place))

-- tests 3 to 5, and the rules of a table; their places count from 1
abbrev pub rules_in : Data → Result (List Rule) RulesRefusal
rules_in file = do
  tables ← ok_or (array_at (codes "rule") file) Missing  -- 3
  _ ← at_most most_rules tables  -- 4
  rules_from 1 [] tables  -- 5

-- all five tests, and the rules that the bytes spell
unfoldable pub rules_of : List ℕ → Result (List Rule) RulesRefusal
rules_of bytes = do
  _ ← refuse_if (nat_lt longest_file (length bytes)) (TooLong (length bytes))  -- 1
  file ← ok_or (table_of bytes) NotToml  -- 2
  rules_in file

-- the refusal is the one that reading gives. Out of memory says nothing.
abbrev pub Refused : {A : Type 0} → RulesRefusal → Result A RulesRefusal → Type 0
Refused NoMemory read = Unit {0}
Refused refusal read = read ≡ Err refusal

-- what was answered, seen by view, is what reading gives
abbrev pub Gives : {A B : Type 0} → (A → B) → Result A RulesRefusal → Result B RulesRefusal → Type 0
Gives view (Ok x) read = read ≡ Ok (view x)
Gives view (Err refusal) read = Refused refusal read

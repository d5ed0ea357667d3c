-- Source: own.
-- The line that says why a file of access rules is refused.
use Rattle.std.specs.Prelude.{ℕ, List, [], ◌∷◌, ◌++◌, codes, decimal}
use Rattle.boss_access.specs.declared.refusal.RulesRefusal.{RulesRefusal}
use Rattle.boss_access.specs.declared.refusal.RulesRefusal.TheVariants.{TooLong, NotToml, Missing, TooMany, BadRule, NoMemory}

abbrev pub refusal_text : RulesRefusal → List ℕ
refusal_text (TooLong length) = codes "too-long " ++ decimal length
refusal_text NotToml = codes "not-toml"
refusal_text Missing = codes "missing"
refusal_text (TooMany count) = codes "too-many " ++ decimal count
refusal_text (BadRule place) = codes "bad-rule " ++ decimal place
refusal_text NoMemory = []

abbrev pub refusal_line : RulesRefusal → List ℕ
refusal_line refusal = codes "rules " ++ refusal_text refusal ++ 10 ∷ []

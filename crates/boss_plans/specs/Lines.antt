-- Source: own.
-- The line that says why a plan is refused.
use Rattle.std.specs.Prelude.{ℕ, List, [], ◌∷◌, ◌++◌, codes, decimal, slice_get}
use Rattle.std.specs.Option.{option_map_or}
use Rattle.boss_model.specs.Catalogue.{Catalogue}
use Rattle.boss_plans.specs.declared.refusal.PlanRefusal.{PlanRefusal}
use Rattle.boss_plans.specs.declared.refusal.PlanRefusal.TheVariants.{TooLong, NotToml, Missing, BadDriver, BadPlace, NoPlace, NoMemory}
use Rattle.boss_plans.specs.declared.refusal.PlanKey.{PlanKey}
use Rattle.boss_plans.specs.declared.refusal.PlanKey.TheVariants.{Driver, Place}

abbrev pub key_text : PlanKey → List ℕ
key_text Driver = codes "driver"
key_text Place = codes "place"

-- the name of a point; nothing where the catalogue has no such point
abbrev pub name_at : Catalogue → ℕ → List ℕ
name_at catalogue id = option_map_or (λ point. point.name) (slice_get catalogue.points id) []

-- what is said of a plan's refusal
abbrev pub refusal_text : Catalogue → PlanRefusal → List ℕ
refusal_text catalogue (TooLong length) = codes "too-long " ++ decimal length
refusal_text catalogue NotToml = codes "not-toml"
refusal_text catalogue (Missing key) = codes "missing " ++ key_text key
refusal_text catalogue (BadDriver place) = codes "bad-driver " ++ decimal place
refusal_text catalogue (BadPlace place) = codes "bad-place " ++ decimal place
refusal_text catalogue (NoPlace point) = codes "no-place " ++ name_at catalogue point
refusal_text catalogue NoMemory = []

abbrev pub refusal_line : Catalogue → PlanRefusal → List ℕ
refusal_line catalogue refusal = codes "plan " ++ refusal_text catalogue refusal ++ 10 ∷ []

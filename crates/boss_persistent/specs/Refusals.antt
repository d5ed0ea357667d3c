-- Source: own.
use Rattle.std.specs.Prelude.{ℕ, not, List, [], ◌∷◌, map, position, Option}
use Rattle.std.specs.Option.{option_map}
use Rattle.boss_model.specs.declared.answer.Refusal.{Refusal}
use Rattle.boss_model.specs.declared.answer.Refusal.TheVariants as refusal
use Rattle.boss_model.specs.Lists.{first_some}
use Rattle.boss_model.specs.Records.{Part}
use Rattle.boss_model.specs.Renew.{ended_at, named_parts, wrote}

-- why a renewal of a transaction with these parts, of those on the points, is refused at moment n
abbrev pub parts_refused : List Part → List ℕ → ℕ → Option Refusal
parts_refused parts points n = first_some (
    option_map refusal.NotInTxn (position (λ point. not (wrote parts point)) points) ∷
    option_map (ended_at n) (first_some (map (λ part. part.end) (named_parts points parts))) ∷ [])

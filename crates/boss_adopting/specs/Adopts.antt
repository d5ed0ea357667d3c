-- Source: own.
-- What an adoption answers of a state.
use Rattle.std.specs.Prelude.{◌≡◌, ℕ, List, Option, Some, None, Result, Ok, Err, slice_get}
use Rattle.std.specs.Option.{option_map, option_and_then}
use Rattle.boss_model.specs.declared.kept.Kept.{Kept}
use Rattle.boss_model.specs.Catalogue.{Catalogue, actuators}
use Rattle.boss_model.specs.Seen.{seen}
use Rattle.boss_model.specs.State.{Persistent}
use Rattle.boss_adopting.specs.declared.refusal.AdoptRefusal.{AdoptRefusal}
use Rattle.boss_adopting.specs.declared.refusal.AdoptRefusal.TheVariants as refusal
use Rattle.law_adoption.specs.Adopted.{adopted}
use Rattle.law_adoption.specs.MayMove.{in_use, unfit}
use Rattle.law_adoption.specs.Renumber.{renumbered}

-- the name of a point, if there is one
abbrev pub name_at : Catalogue → Option ℕ → Option (List ℕ)
name_at catalogue point = option_map (λ p. p.name) (option_and_then (slice_get catalogue.points) point)

-- The adopted state, where no removed point is in use and all values fit. A refusal tells the least point for which that is
-- not so; want of memory says nothing.
abbrev pub Adopts : Catalogue → Catalogue → Persistent → Result Kept AdoptRefusal → Type 0
Adopts old new d (Ok kept) =
    (in_use (renumbered old new) d ≡ None) × (unfit (actuators new) (renumbered old new) d ≡ None) × (seen kept ≡ adopted (renumbered old new) d)
Adopts old new d (Err (refusal.InUse name)) = name_at old (in_use (renumbered old new) d) ≡ Some name
Adopts old new d (Err (refusal.Unfit name)) =
    (in_use (renumbered old new) d ≡ None) × (name_at old (unfit (actuators new) (renumbered old new) d) ≡ Some name)
Adopts old new d (Err refusal.NoMemory) = Unit {0}

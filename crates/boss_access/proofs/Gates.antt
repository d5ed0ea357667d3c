-- Where a gate denies nothing of a list of writes, each of them is allowed by the first rule that is for it.
use Rattle.std.proofs.Common.{◌≡◌, ℕ, ◌+◌, List, [], ◌∷◌, Option, Some, None, refl}
use Rattle.std.specs.List.{AllByRecursion}
use Rattle.std.specs.Option.{option_map_or}
use Rattle.boss_model.specs.Catalogue.{Point}
use Rattle.boss_model.specs.declared.command.Setting.{Setting}
use Rattle.boss_access.specs.declared.rule.Rule.{Rule}
use Rattle.boss_access.specs.Decisions.{denied_write, denied_among, first_denied}

passed : (denied : Option ℕ) (index : ℕ) (more : Option (ℕ × ℕ)) → option_map_or (λ rule. Some (index, rule)) denied more ≡ None → (denied ≡ None) × (more ≡ None)
passed None index more none = (refl, none)
passed (Some rule) index more none = absurd (cc)

allowed_among : (all : List Rule) (points : List Point) (process : List ℕ) (index : ℕ) (writes : List Setting) → denied_among index all points process writes ≡ None
    → AllByRecursion (λ write. denied_write all points process write ≡ None) writes
allowed_among all points process index [] none = tt
allowed_among all points process index (write ∷ writes) none =
    let (here, more) = passed (denied_write all points process write) index (denied_among (index + 1) all points process writes) none in
    (here, allowed_among all points process (index + 1) writes more)

pub allowed-each : (all : List Rule) (points : List Point) (process : List ℕ) (writes : List Setting) → first_denied all points process writes ≡ None
    → AllByRecursion (λ write. denied_write all points process write ≡ None) writes
allowed-each all points process writes none = allowed_among all points process 0 writes none

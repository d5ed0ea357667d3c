-- Source: own (first rule that is for a write decides).
-- What the rules deny. A write of a process is decided by the first rule that is for it, and a name is admitted by any rule for it.
use Rattle.std.specs.Prelude.{ℕ, ◌+◌, ℤ, pos, int_le, Bool, ◌&&◌, if◌then◌else◌, List, [], ◌∷◌, slice_get, Option, Some, None}
use Rattle.std.specs.List.{list_any}
use Rattle.std.specs.Option.{option_map_or}
use Rattle.boss_model.specs.Catalogue.{Point}
use Rattle.boss_model.specs.declared.command.Setting.{Setting}
use Rattle.boss_access.specs.declared.rule.Rule.{Rule}
use Rattle.boss_access.specs.Patterns.{matches}

-- the rule is for the writes of this process to this point
abbrev pub is_for : Rule → List ℕ → List ℕ → Bool
is_for rule process point = matches rule.process process && matches rule.point point

-- it allows a write at this level, judged as a number
abbrev pub allows : Rule → ℤ → Bool
allows rule priority = rule.allow && int_le (pos rule.highest) priority

-- what decides a write: the first rule that is for it, of those from this number on. Told is the rule that denies it, and nothing
-- where it is allowed; rule 0 denies what no rule is for
abbrev pub denied_from : ℕ → List Rule → List ℕ → List ℕ → ℤ → Option ℕ
denied_from number [] process point priority = Some 0
denied_from number (rule ∷ rules) process point priority =
    if is_for rule process point then (if allows rule priority then None else Some number) else denied_from (number + 1) rules process point priority

abbrev pub denied_by : List Rule → List ℕ → List ℕ → ℤ → Option ℕ
denied_by rules process point priority = denied_from 1 rules process point priority

-- the name of a point; nothing where there is none
abbrev pub name_at : List Point → ℕ → List ℕ
name_at points id = option_map_or (λ point. point.name) (slice_get points id) []

-- the rule that denies a write of a process
abbrev pub denied_write : List Rule → List Point → List ℕ → Setting → Option ℕ
denied_write rules points process write = denied_by rules process (name_at points write.point) write.priority

-- the first denied write, of those from this place on, and its rule
abbrev pub denied_among : ℕ → List Rule → List Point → List ℕ → List Setting → Option (ℕ × ℕ)
denied_among index rules points process [] = None
denied_among index rules points process (write ∷ writes) =
    option_map_or (λ rule. Some (index, rule)) (denied_write rules points process write) (denied_among (index + 1) rules points process writes)

-- the gate of these rules: of a process's name and its writes, the first denied one, from 0, and its rule, from 1 or 0 for none
abbrev pub first_denied : List Rule → List Point → List ℕ → List Setting → Option (ℕ × ℕ)
first_denied rules points process writes = denied_among 0 rules points process writes

-- a process of this name may attach: some rule is for the name, whatever it allows
abbrev pub admits : List Rule → List ℕ → Bool
admits rules name = list_any (λ rule. matches rule.process name) rules

-- Source: own; the default: ASHRAE 135, clause 19.2 (Relinquish_Default).
-- What an adoption leaves of a target.
use Rattle.std.specs.Prelude.{◌≡◌, ℤ}
use Rattle.boss_model.specs.declared.answer.Basis.{Basis}
use Rattle.boss_model.specs.declared.answer.Basis.TheVariants as basis

-- The target before and after. What rests on a lease or a reversion stays; where nothing holds the point it has the new
-- catalogue's default.
abbrev pub TargetKept : ℤ → Basis → ℤ → ℤ → Type 0
TargetKept default (basis.Lease priority txn) before after = after ≡ before
TargetKept default (basis.Pending priority txn) before after = after ≡ before
TargetKept default basis.Default before after = after ≡ default

-- A question leaves what is held.
use Rattle.std.proofs.Common.{◌≡◌, ℕ, List, [], ◌∷◌, Option, refl, ap}
use Rattle.boss_model.specs.declared.answer.Answer.{Answer}
use Rattle.boss_model.specs.declared.command.Command.TheVariants as command
use Rattle.def_history.specs.declared.outcome.Outcome.{Outcome}
use Rattle.def_history.specs.declared.outcome.Outcome.TheVariants.{Done, Stopped, DiskFault, NoMemory, Denied}
use Rattle.boss_shared.specs.Gates.{all_held_by, held_after, Holding}

asked-holds : (session : ℕ) (name : Option (List ℕ)) (from max : ℕ) (given : Answer) (held : List Holding) →
    all_held_by session (command.Notices name from max) given held ≡ held
asked-holds session name from max given [] = refl
asked-holds session name from max given (one ∷ others) = ap (λ rest. one ∷ rest) (asked-holds session name from max given others)

pub notices_hold : (session : ℕ) (name : Option (List ℕ)) (from max : ℕ) (outcome : Outcome) (held : List Holding) →
    held_after session (command.Notices name from max) outcome held ≡ held
notices_hold session name from max (Done given) held = asked-holds session name from max given held
notices_hold session name from max Stopped held = refl
notices_hold session name from max DiskFault held = refl
notices_hold session name from max NoMemory held = refl
notices_hold session name from max (Denied index rule) held = refl

-- The process that a command concerns.
use Rattle.std.proofs.Common.{◌≡◌, ℕ, List, refl}
use Rattle.boss_model.specs.declared.state.Actuator.{Actuator}
use Rattle.boss_model.specs.declared.command.Command.{Command}
use Rattle.boss_model.specs.declared.command.Command.TheVariants as command
use Rattle.boss_model.specs.Effects.{concerned}
use Rattle.boss_model.specs.Machine.{pass_time}
use Rattle.boss_model.specs.State.{State}
use Rattle.boss_model.specs.Time.{tick_to}

-- a command concerns the same process whatever the devices were told
pub concerned-passed : (plant : List Actuator) (session n : ℕ) (s : State) (c : Command) →
    concerned c session (pass_time plant n s) ≡ concerned c session (record s { persistent = tick_to n s.persistent })
concerned-passed plant session n s (command.Attach name) = refl
concerned-passed plant session n s (command.Submit writes policy seq) = refl
concerned-passed plant session n s (command.Renew txn asked points seq) = refl
concerned-passed plant session n s (command.Cancel txn seq) = refl
concerned-passed plant session n s command.Gone = refl
concerned-passed plant session n s command.Tick = refl
concerned-passed plant session n s (command.Next driver) = refl
concerned-passed plant session n s (command.Report point version ok) = refl
concerned-passed plant session n s (command.Doubt point differs) = refl
concerned-passed plant session n s (command.Read point) = refl
concerned-passed plant session n s (command.Array point) = refl
concerned-passed plant session n s (command.Status txn) = refl
concerned-passed plant session n s (command.Notices name from most) = refl
concerned-passed plant session n s (command.Points from most) = refl
concerned-passed plant session n s command.Version = refl

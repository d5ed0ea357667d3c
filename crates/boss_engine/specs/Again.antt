-- Source: own.
-- What was made ready for an event is what its act will use at moment n.
use Rattle.std.specs.Prelude.{◌≡◌, ℕ, List, []}
use Rattle.boss_model.specs.declared.command.Policy.{Policy}
use Rattle.boss_model.specs.declared.command.Setting.{Setting}
use Rattle.boss_model.specs.declared.event.Act.{Act}
use Rattle.boss_model.specs.declared.event.Act.TheVariants as act
use Rattle.boss_model.specs.declared.kept.Acceptance.TheVariants as acceptance
use Rattle.boss_model.specs.State.{Persistent}
use Rattle.boss_model.specs.Submit.{begun, first_until, granted, submitted}
use Rattle.boss_engine.specs.declared.ready.Ready.{Ready}
use Rattle.boss_engine.specs.declared.ready.Ready.TheVariants as ready
use Rattle.boss_engine.specs.Ready.{CanTakeOn}
use Rattle.boss_persistent.specs.Replying.{with_reply}

-- the record and the leases of a new transaction
abbrev pub IsReadyToBegin : ℕ → Policy → List Setting → ℕ → Ready → Persistent → Type 0
IsReadyToBegin owner policy writes n (ready.Submit transaction leases) d =
    (transaction.transaction ≡ begun owner policy d.next writes) × (transaction.reverting ≡ []) × (leases.items ≡ granted owner policy d.next n writes)
IsReadyToBegin owner policy writes n given d = ⊥

abbrev pub IsReadyAgain : ℕ → Act → Ready → Persistent → Type 0
IsReadyAgain n (act.Enrol name) given d = CanTakeOn name given d
IsReadyAgain n (act.Submit owner policy writes seq) given d = IsReadyToBegin owner policy writes n given d
IsReadyAgain n other given d = Unit {0}

-- the acts that may take memory: those that take on what outlasts them
abbrev pub TakesOn : Act → Type 0
TakesOn (act.Enrol name) = Unit {0}
TakesOn (act.Submit owner policy writes seq) = Unit {0}
TakesOn other = ⊥

-- what a submit that is not refused leaves, its answer kept where it has a number
abbrev pub begun_with : ℕ → Policy → List Setting → ℕ → ℕ → Persistent → Persistent
begun_with owner policy writes seq n d =
    with_reply owner seq (acceptance.Accepted d.next (first_until (granted owner policy d.next n writes))) (submitted owner policy writes n d)

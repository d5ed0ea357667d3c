-- What is ready for an attach, and is no refusal.
use Rattle.std.proofs.Common.{◌≡◌, ℕ, List, None, refl}
use Rattle.boss_model.specs.Processes.{attach_refused}
use Rattle.boss_model.specs.State.{State}
use Rattle.boss_engine.specs.declared.ready.Ready.{Ready}
use Rattle.boss_engine.specs.declared.ready.Ready.TheVariants as ready
use Rattle.boss_engine.specs.Ready.{IsReadyToAttach}

pub ready-attach : (session : ℕ) (name : List ℕ) (given : Ready) (s : State) → IsReadyToAttach session name given s → ((why : _) → given ≡ ready.Refused why → ⊥) →
    attach_refused session name s.attached s.persistent ≡ None
ready-attach session name (ready.Refused why) s is passed = absurd (passed why refl)
ready-attach session name (ready.Process ring) s is passed = is.0
ready-attach session name ready.Nothing s is passed = is.0
ready-attach session name (ready.Submit transaction leases) s is passed = absurd is
ready-attach session name (ready.Decided answer) s is passed = absurd is
ready-attach session name (ready.List notices) s is passed = absurd is

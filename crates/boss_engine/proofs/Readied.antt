-- What was made ready for a command before time passes is what it uses after.
use Rattle.std.proofs.Common.{◌≡◌, ℕ, List, Option, Some, None, sym, subst, ◌∙◌}
use Rattle.boss_model.specs.declared.command.Command.{Command}
use Rattle.boss_model.specs.declared.command.Command.TheVariants as command
use Rattle.boss_model.specs.declared.command.Policy.{Policy}
use Rattle.boss_model.specs.declared.command.Setting.{Setting}
use Rattle.boss_model.specs.declared.state.Actuator.{Actuator}
use Rattle.boss_model.specs.Machine.{pass_time}
use Rattle.boss_model.specs.Processes.{attach_refused, process_of}
use Rattle.boss_model.specs.State.{State}
use Rattle.boss_model.specs.Submit.{submit_refused}
use Rattle.boss_model.specs.Time.{due}
use Rattle.boss_engine.specs.declared.ready.Ready.{Ready}
use Rattle.boss_engine.specs.declared.ready.Ready.TheVariants as ready
use Rattle.boss_engine.specs.Again.{IsReadyToBegin}
use Rattle.boss_persistent.specs.Replying.{decided}
use Rattle.boss_engine.specs.Ready.{CanTakeOn, IsReadyFor, IsReadyToAttach, IsReadyToSubmit, MustBeThere}
use Rattle.boss_persistent.proofs.Names.{attach-refused-ticked, told-named}
use Rattle.boss_persistent.proofs.Replied.{decided-told}

readied-attach : (plant : List Actuator) (session n : ℕ) (name : List ℕ) (s : State) (given : Ready) →
    IsReadyToAttach session name given s → IsReadyToAttach session name given (pass_time plant n s)
readied-attach plant session n name s (ready.Refused why) was = attach-refused-ticked session name s.attached n s.persistent ∙ was
readied-attach plant session n name s (ready.Process ring) was =
    (attach-refused-ticked session name s.attached n s.persistent ∙ was.0, told-named s.persistent.processes (due n s.persistent) name ∙ was.1, was.2)
readied-attach plant session n name s ready.Nothing was =
    (attach-refused-ticked session name s.attached n s.persistent ∙ was.0, subst MustBeThere (sym (told-named s.persistent.processes (due n s.persistent) name)) was.1)
readied-attach plant session n name s (ready.Submit transaction leases) was = was
readied-attach plant session n name s (ready.Decided answer) was = was
readied-attach plant session n name s (ready.List notices) was = was

readied-submit : (plant : List Actuator) (owner : Option ℕ) (writes : List Setting) (policy : Policy) (seq n : ℕ) (given : Ready) (s : State) →
    IsReadyToSubmit plant owner writes policy seq n given s → IsReadyToSubmit plant owner writes policy seq n given (pass_time plant n s)
readied-submit plant None writes policy seq n (ready.Refused why) s was = was
readied-submit plant None writes policy seq n (ready.Decided answer) s was = was
readied-submit plant None writes policy seq n (ready.Process ring) s was = was
readied-submit plant None writes policy seq n ready.Nothing s was = was
readied-submit plant None writes policy seq n (ready.Submit transaction leases) s was = was
readied-submit plant None writes policy seq n (ready.List notices) s was = was
readied-submit plant (Some owner) writes policy seq n (ready.Refused why) s was = (decided-told s.persistent.processes (due n s.persistent) owner seq ∙ was.0, was.1)
readied-submit plant (Some owner) writes policy seq n (ready.Decided answer) s was = decided-told s.persistent.processes (due n s.persistent) owner seq ∙ was
readied-submit plant (Some owner) writes policy seq n (ready.Process ring) s was = was
readied-submit plant (Some owner) writes policy seq n ready.Nothing s was = was
readied-submit plant (Some owner) writes policy seq n (ready.Submit transaction leases) s was =
    (decided-told s.persistent.processes (due n s.persistent) owner seq ∙ was.0, was.1, was.2, was.3, was.4)
readied-submit plant (Some owner) writes policy seq n (ready.List notices) s was = was

pub readied : (plant : List Actuator) (session : ℕ) (c : Command) (n : ℕ) (given : Ready) (s : State) →
    IsReadyFor plant session c n given s → IsReadyFor plant session c n given (pass_time plant n s)
readied plant session (command.Attach name) n given s was = readied-attach plant session n name s given was
readied plant session (command.Submit writes policy seq) n given s was = readied-submit plant (process_of s.attached session) writes policy seq n given s was
readied plant session (command.Renew txn length points seq) n given s was = was
readied plant session (command.Cancel txn seq) n given s was = was
readied plant session command.Gone n given s was = was
readied plant session command.Tick n given s was = was
readied plant session (command.Next driver) n given s was = was
readied plant session (command.Report point version ok) n given s was = was
readied plant session (command.Doubt point differs) n given s was = was
readied plant session (command.Read point) n given s was = was
readied plant session (command.Array point) n given s was = was
readied plant session (command.Status txn) n given s was = was
readied plant session (command.Notices name from most) n given s was = was
readied plant session (command.Points from most) n given s was = was
readied plant session command.Version n given s was = was

-- what was made ready for a name is ready to attach a session that is not refused
pub entrant-attach : (session : ℕ) (name : List ℕ) (s : State) (given : Ready) → attach_refused session name s.attached s.persistent ≡ None →
    CanTakeOn name given s.persistent → IsReadyToAttach session name given s
entrant-attach session name s (ready.Process ring) passed was = (passed, was.0, was.1)
entrant-attach session name s ready.Nothing passed was = (passed, was)
entrant-attach session name s (ready.Refused why) passed was = absurd was
entrant-attach session name s (ready.Decided answer) passed was = absurd was
entrant-attach session name s (ready.Submit transaction leases) passed was = absurd was
entrant-attach session name s (ready.List notices) passed was = absurd was

-- what was made ready for the writes of a process is ready for its submit that is not refused
begun-submit : (plant : List Actuator) (owner : ℕ) (writes : List Setting) (policy : Policy) (seq n : ℕ) (given : Ready) (s : State) → decided s.persistent.processes owner seq ≡ None →
    submit_refused plant writes s.persistent ≡ None → IsReadyToBegin owner policy writes n given s.persistent → IsReadyToSubmit plant (Some owner) writes policy seq n given s
begun-submit plant owner writes policy seq n (ready.Submit transaction leases) s undecided passed was = (undecided, passed, was.0, was.1, was.2)
begun-submit plant owner writes policy seq n ready.Nothing s undecided passed was = absurd was
begun-submit plant owner writes policy seq n (ready.Process ring) s undecided passed was = absurd was
begun-submit plant owner writes policy seq n (ready.Refused why) s undecided passed was = absurd was
begun-submit plant owner writes policy seq n (ready.Decided answer) s undecided passed was = absurd was
begun-submit plant owner writes policy seq n (ready.List notices) s undecided passed was = absurd was

pub held-submit : (plant : List Actuator) (held : Option ℕ) (owner : ℕ) (writes : List Setting) (policy : Policy) (seq n : ℕ) (given : Ready) (s : State) → held ≡ Some owner →
    decided s.persistent.processes owner seq ≡ None → submit_refused plant writes s.persistent ≡ None → IsReadyToBegin owner policy writes n given s.persistent →
    IsReadyToSubmit plant held writes policy seq n given s
held-submit plant held owner writes policy seq n given s is undecided passed was =
    subst (λ (h : Option ℕ). IsReadyToSubmit plant h writes policy seq n given s) (sym is) (begun-submit plant owner writes policy seq n given s undecided passed was)

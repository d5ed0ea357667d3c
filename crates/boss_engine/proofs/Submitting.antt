-- A submit that is made ready is not refused, and leaves what the model says.
use Rattle.std.proofs.Common.{◌≡◌, ℕ, ◌≤◌, List, length, Vec, Global, Option, Some, None, is_none, false, refl, ap, sym, ◌∙◌}
use Rattle.boss_model.specs.declared.answer.Answer.{Answer}
use Rattle.boss_model.specs.declared.answer.Answer.TheVariants as answer
use Rattle.boss_model.specs.declared.answer.Refusal.{Refusal}
use Rattle.boss_model.specs.declared.command.Command.TheVariants as command
use Rattle.boss_model.specs.declared.command.Policy.{Policy}
use Rattle.boss_model.specs.declared.command.Setting.{Setting}
use Rattle.boss_model.specs.declared.kept.Acceptance.TheVariants as acceptance
use Rattle.boss_model.specs.declared.state.Actuator.{Actuator}
use Rattle.boss_model.specs.declared.state.Lease.{Lease}
use Rattle.boss_model.specs.Machine.{act, after, answered}
use Rattle.boss_model.specs.Processes.{process_of}
use Rattle.boss_stages.specs.Stages.{Tracked}
use Rattle.boss_model.specs.State.{Persistent, State}
use Rattle.boss_model.specs.Submit.{first_until, granted, submit, submit_refused, submitted}
use Rattle.boss_persistent.specs.Lasting.{IsSubmit}
use Rattle.boss_engine.specs.Ready.{IsReadyToSubmit}
use Rattle.boss_engine.specs.declared.ready.Ready.TheVariants as ready
use Rattle.boss_persistent.specs.declared.replies.Decision.{Decision}
use Rattle.boss_persistent.specs.Replying.{decided, decision_answer, with_reply}
use Rattle.law_effects.specs.Changes.{if_held, is_made}
use Rattle.boss_persistent.proofs.Flagged.{made-decided, made-new}
use Rattle.boss_persistent.proofs.Replied.{once-decided, once-did, once-refused}

-- the session holds a process, the writes are not refused, and the record and the leases are theirs
pub record IsBegun (plant : List Actuator) (held : Option ℕ) (writes : List Setting) (policy : Policy) (seq n : ℕ) (transaction : Tracked) (leases : List Lease) (d : Persistent) : Type 0 where
  pub owner : ℕ
  pub own : held ≡ Some owner
  pub undecided : decided d.processes owner seq ≡ None
  pub passed : submit_refused plant writes d ≡ None
  pub is : IsSubmit n transaction leases d owner policy writes

pub ready-submit : (plant : List Actuator) (held : Option ℕ) (writes : List Setting) (policy : Policy) (seq n : ℕ) (transaction : Tracked) (leases : Vec Lease Global) (s : State) →
    1 ≤ length writes → IsReadyToSubmit plant held writes policy seq n (ready.Submit transaction leases) s → IsBegun plant held writes policy seq n transaction leases.items s.persistent
ready-submit plant None writes policy seq n transaction leases s some is = absurd is
ready-submit plant (Some owner) writes policy seq n transaction leases s some is = record {
  owner = owner;
  own = refl;
  undecided = is.0;
  passed = is.1;
  is = record { some_write = some; recorded = is.2; settled = is.3; leased = is.4 };
}

module _ (plant : List Actuator) (session owner seq n : ℕ) (writes : List Setting) (policy : Policy) (s : State) (held : process_of s.attached session ≡ Some owner) where
  abbrev until : ℕ
  until = first_until (granted owner policy s.persistent.next n writes)

  pub submit-leaves : decided s.persistent.processes owner seq ≡ None → submit_refused plant writes s.persistent ≡ None →
      act plant session n (command.Submit writes policy seq) s
      ≡ record {
        answer = answer.Accepted s.persistent.next until;
        state = record s { persistent = with_reply owner seq (acceptance.Accepted s.persistent.next until) (submitted owner policy writes n s.persistent) };
      }
  submit-leaves undecided passed =
      rw (held, passed) (ap (after s) (once-did owner seq s.persistent (acceptance.Accepted s.persistent.next until) (submitted owner policy writes n s.persistent) undecided))

  -- a submit that a kept reply decides, and one that is refused
  pub submit-decided : (given : Answer) → decided s.persistent.processes owner seq ≡ Some given →
      act plant session n (command.Submit writes policy seq) s ≡ answered given s
  submit-decided given is = rw held (once-decided owner seq s (submit plant owner policy writes n s.persistent) given is)

  pub submit-refused : (why : Refusal) → decided s.persistent.processes owner seq ≡ None → submit_refused plant writes s.persistent ≡ Some why →
      act plant session n (command.Submit writes policy seq) s ≡ answered (answer.Refused why) s
  submit-refused why undecided is = rw (held, is) (ap (after s) (once-refused owner seq s.persistent why undecided))

-- ---- the same of what was made ready

module _ (plant : List Actuator) (session seq n : ℕ) (writes : List Setting) (policy : Policy) (s : State) where
  decided-held : (held : Option ℕ) (given : Decision) → process_of s.attached session ≡ held → IsReadyToSubmit plant held writes policy seq n (ready.Decided given) s →
      act plant session n (command.Submit writes policy seq) s ≡ answered (decision_answer given) s
  decided-held None given is made = absurd made
  decided-held (Some owner) given is made = submit-decided plant session owner seq n writes policy s is (decision_answer given) made

  pub decided-leaves : (given : Decision) → IsReadyToSubmit plant (process_of s.attached session) writes policy seq n (ready.Decided given) s →
      act plant session n (command.Submit writes policy seq) s ≡ answered (decision_answer given) s
  decided-leaves given made = decided-held (process_of s.attached session) given refl made

  refused-held : (held : Option ℕ) (why : Refusal) → process_of s.attached session ≡ held → IsReadyToSubmit plant held writes policy seq n (ready.Refused why) s →
      act plant session n (command.Submit writes policy seq) s ≡ answered (answer.Refused why) s
  refused-held None why is made = rw is (ap (λ w. answered (answer.Refused w) s) (sym made))
  refused-held (Some owner) why is made = submit-refused plant session owner seq n writes policy s is why made.0 made.1

  pub refused-leaves : (why : Refusal) → IsReadyToSubmit plant (process_of s.attached session) writes policy seq n (ready.Refused why) s →
      act plant session n (command.Submit writes policy seq) s ≡ answered (answer.Refused why) s
  refused-leaves why made = refused-held (process_of s.attached session) why refl made

-- ---- what a reply decides, and what is refused, changes nothing

pub decided-unchanged : (plant : List Actuator) (held : Option ℕ) (writes : List Setting) (policy : Policy) (seq n : ℕ) (given : Decision) (s : State) →
    IsReadyToSubmit plant held writes policy seq n (ready.Decided given) s → false ≡ if_held held (λ owner. is_made owner seq s.persistent (submit_refused plant writes s.persistent))
decided-unchanged plant None writes policy seq n given s is = absurd is
decided-unchanged plant (Some owner) writes policy seq n given s is = sym (made-decided owner seq s.persistent (decision_answer given) (submit_refused plant writes s.persistent) is)

pub refused-unchanged : (plant : List Actuator) (held : Option ℕ) (writes : List Setting) (policy : Policy) (seq n : ℕ) (why : Refusal) (s : State) →
    IsReadyToSubmit plant held writes policy seq n (ready.Refused why) s → false ≡ if_held held (λ owner. is_made owner seq s.persistent (submit_refused plant writes s.persistent))
refused-unchanged plant None writes policy seq n why s is = refl
refused-unchanged plant (Some owner) writes policy seq n why s is =
    sym (made-new owner seq s.persistent (submit_refused plant writes s.persistent) is.0 ∙ ap is_none is.1)

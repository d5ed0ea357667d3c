use Rattle.std.proofs.Common.{ℕ, ◌<◌, ◌≤◌, length, subst, sym, ap, ◌∙◌}
use Rattle.std.specs.Prelude.{is_some, unwrap_or}
use Rattle.std.specs.List.{AllByRecursion}
use Rattle.boss_model.specs.declared.state.Lease.{Lease}
use Rattle.boss_model.specs.declared.kept.Acceptance.TheVariants as acceptance
use Rattle.boss_model.specs.Processes.{process_of}
use Rattle.boss_model.specs.Submit.{first_until, submitted}
use Rattle.boss_engine.specs.declared.done.Done.{Done}
use Rattle.boss_engine.specs.declared.ready.Ready.{Ready}
use Rattle.boss_engine.specs.Replies.{told}
use Rattle.boss_holdings.specs.Held.{AreApart}
use Rattle.boss_engine.specs.Inside.{state_of}
use Rattle.boss_persistent.specs.Lasting.{persistent_of}
use Rattle.boss_engine.specs.Ready.{IsReadyToSubmit}
use Rattle.boss_persistent.specs.Replying.{with_reply}
use Rattle.boss_persistent.proofs.Granted.{granted-apart, granted-slots}
use Rattle.boss_engine.proofs.Submitting.{IsBegun, decided-leaves, decided-unchanged, ready-submit, refused-leaves, refused-unchanged, submit-leaves}
use Rattle.boss_engine.proofs.machine.Machine.submit.Goals as goal

pub begin-until-requires-clause-slots : goal.begin-until-requires-clause-slots
begin-until-requires-clause-slots c =
    let ready = c.requires.ready in
    let s = state_of c.args.self.now in
    let begun : IsBegun ready.0 (process_of s.attached ready.2) ready.3 ready.4 c.args.seq c.args.n c.in-Submit.transaction c.in-Submit.leases.items s.persistent =
    ready-submit ready.0 (process_of s.attached ready.2) ready.3 ready.4 c.args.seq c.args.n c.in-Submit.transaction c.in-Submit.leases s ready.5
    (subst (λ (given : Ready). IsReadyToSubmit ready.0 (process_of s.attached ready.2) ready.3 ready.4 c.args.seq c.args.n given s) c.in-Submit.is ready.6) in
    let d = persistent_of c.args.self.now.lasting in
    subst (λ (points : ℕ). AllByRecursion (λ (lease : Lease). (lease.point < points) × (1 ≤ lease.priority) × (lease.priority ≤ 16)) c.in-Submit.leases.items) ready.1.places.points
    (subst (AllByRecursion (λ (lease : Lease). (lease.point < length ready.0) × (1 ≤ lease.priority) × (lease.priority ≤ 16))) (sym begun.is.leased)
    (granted-slots ready.0 begun.owner ready.4 d.next c.args.n ready.3 d begun.passed))

pub begin-until-requires-clause-apart : goal.begin-until-requires-clause-apart
begin-until-requires-clause-apart c =
    let ready = c.requires.ready in
    let s = state_of c.args.self.now in
    let begun : IsBegun ready.0 (process_of s.attached ready.2) ready.3 ready.4 c.args.seq c.args.n c.in-Submit.transaction c.in-Submit.leases.items s.persistent =
    ready-submit ready.0 (process_of s.attached ready.2) ready.3 ready.4 c.args.seq c.args.n c.in-Submit.transaction c.in-Submit.leases s ready.5
    (subst (λ (given : Ready). IsReadyToSubmit ready.0 (process_of s.attached ready.2) ready.3 ready.4 c.args.seq c.args.n given s) c.in-Submit.is ready.6) in
    let d = persistent_of c.args.self.now.lasting in
    subst AreApart (sym begun.is.leased) (granted-apart ready.0 begun.owner ready.4 d.next c.args.n ready.3 d begun.passed)

pub returns-in-Submit-clause-state : goal.returns-in-Submit-clause-state
returns-in-Submit-clause-state c = λ plant session writes policy some is.
    let s = state_of c.args.self.now in
    let n = c.args.n in
    let seq = c.args.seq in
    let held = process_of s.attached session in
    let begun = ready-submit plant held writes policy seq n c.in-Submit.transaction c.in-Submit.leases s some
    (subst (λ (given : Ready). IsReadyToSubmit plant held writes policy seq n given s) c.in-Submit.is is) in
    let after = c.begin-until.ensures.after begun.owner policy writes begun.is
    ∙ ap (λ leases. with_reply begun.owner seq (acceptance.Accepted s.persistent.next (first_until leases)) (submitted begun.owner policy writes n s.persistent)) begun.is.leased in
    (λ i. record {
      persistent = after i;
      attached = (c.begin-until.ensures.others.1 i).items;
      proxies = (c.begin-until.ensures.others.0 i).proxies;
      wants = (c.begin-until.ensures.others.0 i).wants;
    })
    ∙ sym (ap (λ r. r.state) (submit-leaves plant session begun.owner seq n writes policy s begun.own begun.undecided begun.passed))

pub returns-in-Decided-clause-answer : goal.returns-in-Decided-clause-answer
returns-in-Decided-clause-answer c = λ plant session writes policy some is.
    let s = state_of c.args.self.now in
    ap (λ (d : Done). told s.persistent d.reply) c.unchanged.ensures ∙ sym (ap (λ r. r.answer) (decided-leaves plant session c.args.seq c.args.n writes policy s c.in-Decided.decision
    (subst (λ (given : Ready). IsReadyToSubmit plant (process_of s.attached session) writes policy c.args.seq c.args.n given s) c.in-Decided.is is)))

pub returns-in-Decided-clause-state : goal.returns-in-Decided-clause-state
returns-in-Decided-clause-state c = λ plant session writes policy some is.
    let s = state_of c.args.self.now in
    sym (ap (λ r. r.state) (decided-leaves plant session c.args.seq c.args.n writes policy s c.in-Decided.decision
    (subst (λ (given : Ready). IsReadyToSubmit plant (process_of s.attached session) writes policy c.args.seq c.args.n given s) c.in-Decided.is is)))

pub returns-in-Refused-clause-answer : goal.returns-in-Refused-clause-answer
returns-in-Refused-clause-answer c = λ plant session writes policy some is.
    let s = state_of c.args.self.now in
    ap (λ (d : Done). told s.persistent d.reply) c.refused.ensures ∙ sym (ap (λ r. r.answer) (refused-leaves plant session c.args.seq c.args.n writes policy s c.in-Refused.why
    (subst (λ (given : Ready). IsReadyToSubmit plant (process_of s.attached session) writes policy c.args.seq c.args.n given s) c.in-Refused.is is)))

pub returns-in-Refused-clause-state : goal.returns-in-Refused-clause-state
returns-in-Refused-clause-state c = λ plant session writes policy some is.
    let s = state_of c.args.self.now in
    sym (ap (λ r. r.state) (refused-leaves plant session c.args.seq c.args.n writes policy s c.in-Refused.why
    (subst (λ (given : Ready). IsReadyToSubmit plant (process_of s.attached session) writes policy c.args.seq c.args.n given s) c.in-Refused.is is)))

pub returns-in-Decided-clause-changed : goal.returns-in-Decided-clause-changed
returns-in-Decided-clause-changed c = λ plant session writes policy some is.
    let s = state_of c.args.self.now in
    ap (λ d. is_some d.concerned) c.unchanged.ensures ∙ decided-unchanged plant (process_of s.attached session) writes policy c.args.seq c.args.n c.in-Decided.decision s
    (subst (λ (given : Ready). IsReadyToSubmit plant (process_of s.attached session) writes policy c.args.seq c.args.n given s) c.in-Decided.is is)

pub returns-in-Refused-clause-changed : goal.returns-in-Refused-clause-changed
returns-in-Refused-clause-changed c = λ plant session writes policy some is.
    let s = state_of c.args.self.now in
    ap (λ d. is_some d.concerned) c.refused.ensures ∙ refused-unchanged plant (process_of s.attached session) writes policy c.args.seq c.args.n c.in-Refused.why s
    (subst (λ (given : Ready). IsReadyToSubmit plant (process_of s.attached session) writes policy c.args.seq c.args.n given s) c.in-Refused.is is)

pub returns-in-Submit-clause-owner : goal.returns-in-Submit-clause-owner
returns-in-Submit-clause-owner c = λ plant session writes policy some is.
    let s = state_of c.args.self.now in
    let begun = ready-submit plant (process_of s.attached session) writes policy c.args.seq c.args.n c.in-Submit.transaction c.in-Submit.leases s some
    (subst (λ (given : Ready). IsReadyToSubmit plant (process_of s.attached session) writes policy c.args.seq c.args.n given s) c.in-Submit.is is) in
    c.owner-owner.ensures ∙ ap (λ t. t.owner) begun.is.recorded ∙ sym (ap (λ h. unwrap_or h 0) begun.own)

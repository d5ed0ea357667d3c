use Rattle.std.proofs.Common.{◌≡◌, ◌<◌, ◌≤◌, length, ◌&&◌, is_none, vec_capacity, subst, sym, ap, ◌∙◌, arith}
use Rattle.boss_model.specs.declared.answer.Answer.TheVariants as answer
use Rattle.boss_model.specs.Processes.{attached_too, next_notice, number_of, process_named}
use Rattle.boss_holdings.specs.Held.{shown}
use Rattle.boss_engine.specs.declared.machine.Machine.{Machine}
use Rattle.boss_engine.specs.Inside.{state_of}
use Rattle.boss_persistent.specs.Lasting.{IsKept}
use Rattle.boss_persistent.proofs.Attaching.{few-attached}
use Rattle.boss_engine.proofs.Attaching.{ready-attach}
use Rattle.boss_engine.proofs.Concerned.{concerned-changed, concerned-owner}
use Rattle.boss_engine.proofs.Doing.{attach-leaves, next-enrolled}
use Rattle.boss_engine.proofs.Keeping.{keeps-places, kept-aside}
use Rattle.boss_engine.proofs.machine.Machine.attach.Goals as goal

pub attach-requires : goal.attach-requires
attach-requires c =
    let m = c.args.self.now in
    let s = state_of m in
    let passed = ready-attach c.args.session c.args.name.now c.args.ready s c.requires.ready c.in_default.not-Refused in
    let few : length m.attached.items < 256 = few-attached c.requires.can_run.0 c.args.session c.args.name.now s c.requires.can_run.1.sound passed in
    let same : c.process_for-entrant.new.self.attached ≡ m.attached = ap (λ m. m.attached) c.process_for-entrant.ensures.others in
    let room : 256 ≤ vec_capacity m.attached = c.requires.can_run.1.places.attached in
    rw same (omega (arith, m.attached.ok.0))

pub returns-clause-answer : goal.returns-clause-answer
returns-clause-answer c = λ any.
    let s = state_of c.args.self.now in
    let passed = ready-attach c.args.session c.args.name.now c.args.ready s c.requires.ready c.in_default.not-Refused in
    let number = number_of s.persistent.processes (process_named s.persistent.processes c.args.name.now) in
    let next : c.next_notice.result ≡ next_notice s.persistent.processes number =
    c.next_notice.ensures ∙ (λ i. next_notice (c.process_for-entrant.ensures.after i).processes (c.process_for-entrant.ensures.process i)) ∙ next-enrolled c.args.name.now c.args.n s.persistent in
    (λ i. answer.Attached (c.copied.ensures i) (next i)) ∙ sym (ap (λ r. r.answer) (attach-leaves any c.args.session c.args.n c.args.name.now s passed))

pub returns-clause-state : goal.returns-clause-state
returns-clause-state c = λ any.
    let s = state_of c.args.self.now in
    let passed = ready-attach c.args.session c.args.name.now c.args.ready s c.requires.ready c.in_default.not-Refused in
    let items : c.attach.new.attached.items ≡ attached_too c.args.session (number_of s.persistent.processes (process_named s.persistent.processes c.args.name.now)) s.attached =
    c.attach.ensures.items ∙ (λ i. attached_too c.args.session (c.process_for-entrant.ensures.process i) (c.process_for-entrant.ensures.others i).attached.items) in
    (λ i. record {
      persistent = c.process_for-entrant.ensures.after i;
      attached = items i;
      proxies = (c.process_for-entrant.ensures.others i).marks.proxies;
      wants = (c.process_for-entrant.ensures.others i).marks.wants;
    })
    ∙ sym (ap (λ r. r.state) (attach-leaves any c.args.session c.args.n c.args.name.now s passed))

pub returns-clause-places : goal.returns-clause-places
returns-clause-places c = λ plant places.
    let m = c.args.self.now in
    let others = c.process_for-entrant.ensures.others in
    let drivers = ap (λ (m : Machine). m.marks.drivers) others in
    let attached = c.attach.ensures.room ∙ ap (λ (m : Machine). vec_capacity m.attached) others in
    let told = ap (λ (m : Machine). vec_capacity m.told) others in
    let points = ap (λ (m : Machine). m.lasting.holdings.points) others in
    keeps-places plant m _ places drivers attached points (subst (λ (after : Machine). IsKept after.lasting) (sym others) (kept-aside m.lasting _ _ places.rows)) told

pub returns-clause-changed : goal.returns-clause-changed
returns-clause-changed c = λ any.
    let s = state_of c.args.self.now in
    let passed = ready-attach c.args.session c.args.name.now c.args.ready s c.requires.ready c.in_default.not-Refused in
    concerned-changed _ _ _ c.then_some.ensures ∙ c.process_for-entrant.ensures.is_new ∙ sym (ap (λ why. is_none why && is_none (process_named s.persistent.processes c.args.name.now)) passed)

pub returns-clause-untouched : goal.returns-clause-untouched
returns-clause-untouched c = λ default point moment left. ap (λ (m : Machine). shown default moment m.lasting.holdings point) c.process_for-entrant.ensures.others

pub returns-clause-owner : goal.returns-clause-owner
returns-clause-owner c = concerned-owner _ _ _ _ c.then_some.ensures c.process_for-entrant.ensures.process

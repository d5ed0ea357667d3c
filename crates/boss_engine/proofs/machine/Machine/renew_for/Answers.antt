use Rattle.std.proofs.Common.{◌≡◌, ℕ, ◌+◌, List, filter, map, unsigned_abs, w64, refl, sym, ap, ◌∙◌}
use Rattle.std.proofs.lemmas.Int.{to_z-of_z}
use Rattle.boss_model.specs.declared.answer.Answer.TheVariants as answer
use Rattle.boss_model.specs.declared.kept.Acceptance.TheVariants as acceptance
use Rattle.boss_model.specs.declared.state.Lease.{Lease}
use Rattle.boss_model.specs.Renew.{is_meant, extended_if, renewed}
use Rattle.boss_model.specs.State.{Persistent}
use Rattle.boss_model.specs.Submit.{first_until}
use Rattle.boss_holdings.specs.Held.{Held, is_touched, shown}
use Rattle.boss_persistent.specs.Lasting.{persistent_of}
use Rattle.boss_persistent.specs.Replying.{accepted, renewed_until, with_reply}
use Rattle.boss_persistent.proofs.Concluded.{renewed-plain}
use Rattle.boss_engine.proofs.Concerned.{concerned-owner}
use Rattle.boss_engine.proofs.machine.Machine.renew_for.Goals as goal

abbrev longer : goal.After-then_some → List Lease
longer c = map (extended_if (is_meant c.args.txn c.args.points.now) (c.args.n + unsigned_abs c.args.duration)) (persistent_of c.args.self.now.lasting).leases

later : (c : goal.After-then_some) → persistent_of c.extend-extended.new.self ≡ record (persistent_of c.args.self.now.lasting) { leases = longer c }
later c =
    let d = persistent_of c.args.self.now.lasting in
    c.extend-extended.ensures.after
    ∙ ap {A = ℕ} (λ k. record d { leases = map (extended_if (is_meant c.args.txn c.args.points.now) (c.args.n + k)) d.leases }) (c.unsigned_abs.ensures.value ∙ ap unsigned_abs (to_z-of_z w64 c.args.duration c.ranges.duration))

plain : (c : goal.After-then_some) →
    renewed c.args.txn c.args.duration c.args.points.now c.args.n (persistent_of c.args.self.now.lasting) ≡ record (persistent_of c.args.self.now.lasting) { now = c.args.n; leases = longer c }
plain c = renewed-plain c.requires.can_act.0 c.args.txn c.args.duration c.args.points.now c.args.n (persistent_of c.args.self.now.lasting) c.requires.can_act.1.sound

first : (c : goal.After-then_some) → c.extend-extended.result.first_until ≡ renewed_until c.args.txn c.args.duration c.args.points.now c.args.n (persistent_of c.args.self.now.lasting)
first c =
    let ends = λ (e : Persistent). first_until (filter (is_meant c.args.txn c.args.points.now) e.leases) in
    c.extend-extended.ensures.first ∙ ap ends (later c) ∙ sym (ap ends (plain c))

pub returns-clause-answer : goal.returns-clause-answer
returns-clause-answer c = ap (answer.Renewed c.args.txn) (first c)

pub returns-clause-after : goal.returns-clause-after
returns-clause-after c =
    let d = persistent_of c.args.self.now.lasting in
    let n = c.args.n in
    let ext = c.extend-extended.new.self in
    let kept = λ (u : ℕ) (e : Persistent). accepted c.args.owner c.args.seq (acceptance.Renewed c.args.txn u) e.processes in
    let made : ℕ → Persistent → Persistent = λ u e. record e { now = n; processes = kept u e } in
    (λ i. record (persistent_of ext) {
      now = (c.reach.ensures i).now;
      leases = (c.reach.ensures i).leases;
      pending = (c.reach.ensures i).pending;
      processes = c.accept.ensures.kept i;
    })
    ∙ ap (made c.extend-extended.result.first_until) (later c)
    ∙ ap (λ (u : ℕ). made u (record d { leases = longer c })) (first c)
    ∙ sym (ap (with_reply c.args.owner c.args.seq (acceptance.Renewed c.args.txn (renewed_until c.args.txn c.args.duration c.args.points.now n d))) (plain c))

pub returns-clause-untouched : goal.returns-clause-untouched
returns-clause-untouched c = λ default point moment left.
    ap (λ (h : Held). shown default moment h point) c.reach.ensures
    ∙ c.extend-extended.ensures.untouched default point moment (sym (ap (λ (h : Held). is_touched h point) c.reach.ensures) ∙ left)

pub returns-clause-owner : goal.returns-clause-owner
returns-clause-owner c = concerned-owner _ _ _ _ c.then_some.ensures refl

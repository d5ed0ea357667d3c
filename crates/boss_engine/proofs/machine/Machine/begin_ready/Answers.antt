use Rattle.std.proofs.Common.{ℕ, ◌<◌, ◌≤◌, length, subst, sym, ap, ◌∙◌}
use Rattle.std.specs.List.{AllByRecursion}
use Rattle.boss_model.specs.declared.kept.Acceptance.TheVariants as acceptance
use Rattle.boss_model.specs.declared.state.Lease.{Lease}
use Rattle.boss_model.specs.Submit.{first_until, submitted}
use Rattle.boss_holdings.specs.Held.{AreApart}
use Rattle.boss_engine.specs.declared.ready.Ready.{Ready}
use Rattle.boss_engine.specs.Again.{IsReadyToBegin}
use Rattle.boss_persistent.specs.Lasting.{IsSubmit, persistent_of}
use Rattle.boss_persistent.specs.Replying.{with_reply}
use Rattle.boss_persistent.proofs.Granted.{granted-apart, granted-slots}
use Rattle.boss_engine.proofs.machine.Machine.begin_ready.Goals as goal

pub begin-requires-clause-slots : goal.begin-requires-clause-slots
begin-requires-clause-slots c =
    let b = c.requires.begun in
    let d = persistent_of c.args.self.now.lasting in
    let made = subst (λ (given : Ready). IsReadyToBegin b.1 b.2 b.3 c.args.n given d) c.in-Submit.is b.7 in
    subst (λ (points : ℕ). AllByRecursion (λ (lease : Lease). (lease.point < points) × (1 ≤ lease.priority) × (lease.priority ≤ 16)) c.in-Submit.leases.items) b.4.places.points
    (subst (AllByRecursion (λ (lease : Lease). (lease.point < length b.0) × (1 ≤ lease.priority) × (lease.priority ≤ 16))) (sym made.2)
    (granted-slots b.0 b.1 b.2 d.next c.args.n b.3 d b.6))

pub begin-requires-clause-apart : goal.begin-requires-clause-apart
begin-requires-clause-apart c =
    let b = c.requires.begun in
    let d = persistent_of c.args.self.now.lasting in
    let made = subst (λ (given : Ready). IsReadyToBegin b.1 b.2 b.3 c.args.n given d) c.in-Submit.is b.7 in
    subst AreApart (sym made.2) (granted-apart b.0 b.1 b.2 d.next c.args.n b.3 d b.6)

pub returns-clause-after : goal.returns-clause-after
returns-clause-after c = λ owner policy writes some ready.
    let d = persistent_of c.args.self.now.lasting in
    let made = subst (λ (given : Ready). IsReadyToBegin owner policy writes c.args.n given d) c.in-Submit.is ready in
    let is : IsSubmit c.args.n c.in-Submit.transaction c.in-Submit.leases.items d owner policy writes =
    record { some_write = some; recorded = made.0; settled = made.1; leased = made.2 } in
    c.begin.ensures.after owner policy writes is
    ∙ ap (λ leases. with_reply owner c.args.seq (acceptance.Accepted d.next (first_until leases)) (submitted owner policy writes c.args.n d)) made.2

use Rattle.std.proofs.Common.{[], refl, ap, ◌∙◌}
use Rattle.boss_model.specs.declared.kept.Acceptance.TheVariants as acceptance
use Rattle.boss_persistent.specs.Lasting.{persistent_of}
use Rattle.boss_persistent.specs.Replying.{with_reply}
use Rattle.boss_booking.specs.Passed.{nothing}
use Rattle.boss_engine.proofs.Keeping.{keeps-places, kept-aside}
use Rattle.boss_engine.proofs.machine.Machine.cancel_for.Goals as goal

pub end_leases-requires-clause-first : goal.end_leases-requires-clause-first
end_leases-requires-clause-first c = ([], c.clear.ensures.items, nothing)

pub returns-clause-places : goal.returns-clause-places
returns-clause-places c = λ plant places.
    let after = c.end_leases.new.self in
    keeps-places plant c.args.self.now _ places refl refl c.end_leases.ensures.points (kept-aside after after.holdings.now c.accept.new.self c.end_leases.ensures.kept)
    (c.end_leases.ensures.told ∙ c.clear.ensures.capacity)

pub returns-clause-after : goal.returns-clause-after
returns-clause-after c =
    (λ i. record (persistent_of c.end_leases.new.self) { processes = c.accept.ensures.kept i })
    ∙ ap (with_reply c.args.owner c.args.seq (acceptance.Cancelled c.args.txn c.args.n)) (c.end_leases.ensures.after [] c.clear.ensures.items)

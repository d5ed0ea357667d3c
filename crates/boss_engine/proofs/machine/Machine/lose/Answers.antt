use Rattle.std.proofs.Common.{◌≡◌, ◌<◌, [], length, filter, refl, sym, ◌∙◌, arith}
use Rattle.boss_model.specs.Ends.{is_owned_by}
use Rattle.boss_persistent.specs.Lasting.{persistent_of}
use Rattle.boss_booking.specs.Passed.{nothing}
use Rattle.boss_engine.proofs.Doing.{lost-none, lost-some}
use Rattle.boss_engine.proofs.Keeping.{keeps-places}
use Rattle.boss_engine.proofs.machine.Machine.lose.Goals as goal

pub end_leases-requires-clause-first : goal.end_leases-requires-clause-first
end_leases-requires-clause-first c = ([], c.clear.ensures.items, nothing)

pub returns-then-ended-eq0-clause-after : goal.returns-then-ended-eq0-clause-after
returns-then-ended-eq0-clause-after c =
    let d = persistent_of c.args.self.now.lasting in
    let counted : c.owned-ended.result ≡ length (filter (is_owned_by c.args.owner) d.leases) = c.owned-ended.ensures in
    sym (lost-none c.args.owner c.args.n d (omega arith))

pub returns-clause-after : goal.returns-clause-after
returns-clause-after c =
    let d = persistent_of c.args.self.now.lasting in
    let counted : c.owned-ended.result ≡ length (filter (is_owned_by c.args.owner) d.leases) = c.owned-ended.ensures in
    let some : 0 < length (filter (is_owned_by c.args.owner) d.leases) = omega (arith, c.if-ended-eq0.false) in
    c.end_leases.ensures.after [] c.clear.ensures.items ∙ sym (lost-some c.args.owner c.args.n d some)

pub returns-clause-places : goal.returns-clause-places
returns-clause-places c = λ plant places.
    keeps-places plant c.args.self.now _ places refl refl c.end_leases.ensures.points c.end_leases.ensures.kept (c.end_leases.ensures.told ∙ c.clear.ensures.capacity)

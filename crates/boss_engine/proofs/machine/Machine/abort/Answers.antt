use Rattle.std.proofs.Common.{◌≡◌, [], ◌∷◌, ◌++◌, map, refl, subst, sym, ap, ◌∙◌}
use Rattle.boss_model.specs.declared.notice.Cause.TheVariants as cause
use Rattle.boss_model.specs.Ends.{end_leases, is_of}
use Rattle.boss_model.specs.Happenings.{Happening}
use Rattle.boss_booking.specs.Gathered.{plain}
use Rattle.boss_persistent.specs.Lasting.{persistent_of}
use Rattle.boss_booking.specs.Passed.{IsFirstTold, faulted}
use Rattle.boss_engine.proofs.Keeping.{keeps-places}
use Rattle.boss_engine.proofs.machine.Machine.abort.Goals as goal

pub end_leases-requires-clause-first : goal.end_leases-requires-clause-first
end_leases-requires-clause-first c =
    let told : c.push_reserved.new.self.items ≡ map plain (c.args.happened ∷ []) = c.push_reserved.ensures.items ∙ ap (λ items. items ++ plain c.args.happened ∷ []) c.clear.ensures.items in
    let d = persistent_of c.args.self.now.lasting in (
      c.args.happened ∷ [],
      told,
      subst (λ (happened : Happening). IsFirstTold cause.Fault c.args.n d (happened ∷ [])) (sym c.requires.fault.3) (faulted c.requires.fault.0 c.requires.fault.1 c.requires.fault.2),
    )

pub returns-clause-after : goal.returns-clause-after
returns-clause-after c =
    let told : c.push_reserved.new.self.items ≡ map plain (c.args.happened ∷ []) = c.push_reserved.ensures.items ∙ ap (λ items. items ++ plain c.args.happened ∷ []) c.clear.ensures.items in
    let d = persistent_of c.args.self.now.lasting in
    let txn : c.happened.inside.txn ≡ c.args.happened.txn = ap (λ h. h.txn) c.happened.view_is in
    c.end_leases.ensures.after (c.args.happened ∷ []) told ∙ ap (λ t. end_leases (is_of t) cause.Fault c.args.n (c.args.happened ∷ []) d) txn

pub returns-clause-places : goal.returns-clause-places
returns-clause-places c = λ plant places.
    keeps-places plant c.args.self.now _ places refl refl c.end_leases.ensures.points c.end_leases.ensures.kept (c.end_leases.ensures.told ∙ c.push_reserved.ensures.capacity ∙ c.clear.ensures.capacity)

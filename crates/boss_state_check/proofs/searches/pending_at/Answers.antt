use Rattle.std.proofs.Common.{◌≡◌, ◌==◌, ◌&&◌, ◌≤◌, true, false, Some, length, refl, sym, ◌∙◌, ap, rules, arith}
use Rattle.std.specs.Prelude.{slice_get}
use Rattle.std.proofs.lemmas.Bool.Decides.{nat_tests}
use Rattle.std.proofs.lemmas.Option.{slice_get_read, slice_get_past}
use Rattle.boss_model.specs.declared.state.Pending.{Pending}
use Rattle.boss_state_check.proofs.Ranked.{pending-found, kept, kept-some, kept-not}
use Rattle.boss_state_check.proofs.searches.pending_at.Goals as goal
use Rattle.boss_state_check.proofs.searches.pending_at.Goals.{in_default-via-in-Some+else-eq, in_default-via-in_default}

pub returns-in-Some : goal.returns-in-Some
returns-in-Some c =
    let test = (λ (reversion : Pending). (reversion.point == c.args.slot.0) && (reversion.priority == c.args.slot.1)) in
    let looked = c.in-Some.ensures.lookup in
    let there : slice_get c.args.pending.now c.reversion_place.result ≡ Some c.in-Some.reversion.now =
    slice_get_read c.args.pending.now (length c.args.pending.now) c.reversion_place.result c.in-Some.reversion.now refl looked.3.0 looked.1 in
    let passes : test c.in-Some.reversion.now ≡ true = search rules in
    sym (pending-found c.args.pending.now c.args.slot.0 c.args.slot.1 c.reversion_place.result c.requires c.reversion_place.ensures ∙ kept-some test _ c.in-Some.reversion.now there passes)

pub returns-in_default : goal.returns-in_default
returns-in_default c =
    let test = (λ (reversion : Pending). (reversion.point == c.args.slot.0) && (reversion.priority == c.args.slot.1)) in
    let found = pending-found c.args.pending.now c.args.slot.0 c.args.slot.1 c.reversion_place.result c.requires c.reversion_place.ensures in
    elim c.in_default.branch [
      | in_default-via-in-Some+else-eq w ↦
          (let looked = w.in-Some.ensures.lookup in
          let there : slice_get c.args.pending.now c.reversion_place.result ≡ Some w.in-Some.reversion.now =
          slice_get_read c.args.pending.now (length c.args.pending.now) c.reversion_place.result w.in-Some.reversion.now refl looked.3.0 looked.1 in
          let fails : test w.in-Some.reversion.now ≡ false = search rules in
          sym (found ∙ kept-not test _ w.in-Some.reversion.now there fails))
      | in_default-via-in_default w ↦
          (let past : length c.args.pending.now ≤ c.reversion_place.result = grind (arith, nat_tests, w.in_default.ensures.lookup.0) in
          sym (found ∙ ap (kept test) (slice_get_past c.args.pending.now c.reversion_place.result past)))
    ]

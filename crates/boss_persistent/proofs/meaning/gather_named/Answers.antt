use Rattle.std.proofs.Common.{◌++◌, [], ◌∷◌, ap, sym, ◌∙◌, arith}
use Rattle.std.specs.List.{filter_map}
use Rattle.std.proofs.lemmas.List.{append_assoc}
use Rattle.boss_model.specs.Renew.{part_on}
use Rattle.boss_persistent.specs.Meant.{open_places}
use Rattle.boss_persistent.proofs.OpenPlaces.{named-more}
use Rattle.boss_persistent.proofs.meaning.gather_named.Goals as goal

pub loop-point-preserved : goal.loop-point-preserved
loop-point-preserved c =
    let parts = c.args.transaction.now.transaction.parts in
    let one = open_places (filter_map (part_on parts) (c.point-item.result ∷ [])) in
    record {
      slots = c.gather_on.ensures.slots ∙ ap (λ slots. slots ++ one) c.loop-point.invariant.slots
          ∙ append_assoc c.args.slots.now.items _ one
          ∙ ap (λ more. c.args.slots.now.items ++ more) (sym (named-more parts c.args.points.now c.loop-point.point-index c.point-item.result c.loop-point-test.true c.point-item.is));
      len = omega (arith, c.gather_on.ensures.len, c.loop-point.invariant.len);
      room = c.gather_on.ensures.capacity ∙ c.loop-point.invariant.room;
    }

use Rattle.std.proofs.Common.{◌≡◌, ◌∙◌, sym, rules, ap, arith, map, refl}
use Rattle.boss_marks.specs.Marks.{opened}
use Rattle.boss_engine.proofs.Opening.{device_of, drivers-opened}
use Rattle.boss_engine.proofs.machine.Machine.put_back.Goals as goal

pub put_back-requires-clause-sound : goal.put_back-requires-clause-sound
put_back-requires-clause-sound c = (c.args.plant.now, refl, c.requires.sound)

pub returns-clause-ready : goal.returns-clause-ready
returns-clause-ready c =
    let marks : c.in_ok-new.field-0 ≡ opened (map device_of c.args.plant.now) = search rules in
    record {
      small = omega (arith, c.requires.few);
      drivers = ap (λ m. m.drivers) marks ∙ drivers-opened c.args.plant.now;
      points = sym c.in_ok-put_back.ensures.points;
      rows = c.in_ok-put_back.ensures.kept;
      attached = search rules;
      told = omega (arith, c.in_ok-with_capacity-2.ensures.capacity);
    }

use Rattle.std.proofs.Common.{◌≡◌, ◌∙◌, sym, rules, ap, ap₂, arith, map}
use Rattle.boss_marks.specs.Marks.{opened}
use Rattle.boss_engine.specs.Waiting.{state_of}
use Rattle.boss_engine.proofs.Opening.{device_of, drivers-opened, state-opened}
use Rattle.boss_engine.proofs.machine.Machine.first.Goals as goal

pub returns-clause-state : goal.returns-clause-state
returns-clause-state c =
    let marks : c.in_ok-new.field-0 ≡ opened (map device_of c.args.plant.now) = search rules in
    ap₂ (λ d attached. state_of d attached c.in_ok-new.field-0) c.in_ok-first.ensures.first c.in_ok-with_capacity.ensures.items
    ∙ state-opened c.args.plant.now c.in_ok-new.field-0 marks

pub returns-clause-ready : goal.returns-clause-ready
returns-clause-ready c =
    let marks : c.in_ok-new.field-0 ≡ opened (map device_of c.args.plant.now) = search rules in
    record {
      small = omega (arith, c.requires);
      drivers = ap (λ m. m.drivers) marks ∙ drivers-opened c.args.plant.now;
      points = sym c.in_ok-first.ensures.points;
      rows = c.in_ok-first.ensures.kept;
      attached = search rules;
      told = omega (arith, c.in_ok-with_capacity-2.ensures.capacity);
    }

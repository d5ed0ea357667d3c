use Rattle.std.proofs.Common.{◌∙◌, refl}
use Rattle.boss_holdings.proofs.Passed.{passing-begins}
use Rattle.boss_holdings.proofs.passing.pass_to.Goals as goal

pub loop-slot-init : goal.loop-slot-init
loop-slot-init c = record {
  passable = c.requires.passable;
  passing = passing-begins c.args.n c.args.now c.args.tables.now c.args.told.now.items c.args.touched.now c.requires.passable.kept c.requires.passable.timed;
  room = refl;
}

pub loop-slot-preserved : goal.loop-slot-preserved
loop-slot-preserved c = record {
  passable = c.take_up-last.ensures.passable;
  passing = c.take_up-last.ensures.passing c.args.now c.args.tables.now c.args.told.now.items c.args.touched.now c.loop-slot.invariant.passing;
  room = c.take_up-last.ensures.room ∙ c.loop-slot.invariant.room;
}

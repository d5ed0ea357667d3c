use Rattle.std.proofs.Common.{List, ◌∙◌, subst, arith}
use Rattle.boss_model.specs.declared.state.Actuator.{Actuator}
use Rattle.boss_opening.specs.Reading.{ReadsOn}
use Rattle.boss_opening.proofs.ReadOn.{read_further, reads_further}
use Rattle.boss_opening.proofs.reading.read_all.Goals as goal

pub loop-more-preserved : goal.loop-more-preserved
loop-more-preserved g c =
    let so = c.loop-more.invariant in
    let read = rw c.in-Ok-Some.field-0-is at c.in-Ok-Some.ensures.reads in
    let moves = rw c.in-Ok-Some.field-0-is at c.in-Ok-Some.ensures.moves in
    record {
      read = reads_further c.args.pair.now c.loop-more.pair c.read_next.new.pair c.args.engine.now.plant c.args.engine.now.state.persistent c.loop-more.engine.state.persistent
          c.read_next.new.engine.state.persistent c.loop-more.events c.in-Ok-Some.more so.read
          (subst (λ (plant : List Actuator). ReadsOn c.loop-more.pair c.read_next.new.pair plant c.loop-more.engine.state.persistent c.in-Ok-Some.more c.read_next.new.engine.state.persistent) so.same read);
      all_else = read_further c.args.pair.now c.loop-more.pair c.read_next.new.pair so.all_else c.read_next.ensures.same;
      far = let before = so.far in omega (arith, moves, before);
      same = c.read_next.ensures.plant ∙ so.same;
      sound = c.read_next.ensures.sound;
      room = c.read_next.ensures.room ∙ so.room;
      going = c.in-Ok-Some.ensures.going ∙ so.going;
      faults = c.in-Ok-Some.ensures.fine ∙ so.faults;
    }

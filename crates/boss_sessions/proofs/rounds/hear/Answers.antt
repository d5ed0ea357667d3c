use Rattle.std.proofs.Common.{option_copied, ap, ◌∙◌, subst}
use Rattle.boss_sessions.specs.Gathered.{Gathered}
use Rattle.boss_sessions.specs.Places.{footing_of, place_of, SourceCause}
use Rattle.boss_sessions.specs.Speaking.{manner_of}
use Rattle.boss_sessions.proofs.ReadLemmas.{reads-shown}
use Rattle.boss_sessions.proofs.rounds.hear.Goals as goal

pub returns : goal.returns
returns g c = record {
  gathered = subst (λ left. Gathered (manner_of c.args.catalogue.now (option_copied c.args.keys)) g.S.Source.tells g.C.Clock.tells (footing_of c.args.hearing.now) (footing_of c.gather.new.hearing) c.args.commands.now.items
      c.gather.new.commands.items (g.C.Clock.given c.args.clock.now) (g.C.Clock.given c.gather.new.clock) (place_of c.args.hearing.now left)
      (place_of c.gather.new.hearing (g.S.Source.left c.gather.new.source)) c.gather.result) c.show.ensures.left c.gather.ensures.gathered;
  end = c.gather.ensures.end;
  may = c.gather.ensures.may;
  few = c.gather.ensures.few;
  goes_on = c.gather.ensures.goes_on;
  held = λ told. c.gather.ensures.held told ∙ c.show.ensures.held;
  reads = λ told tells.
      reads-shown (place_of c.args.hearing.now (g.S.Source.left c.show.new.self)) (place_of c.args.hearing.now (g.S.Source.left c.args.source.now)) _ _ _ _ _
      (ap (place_of c.args.hearing.now) c.show.ensures.left) c.show.ensures.reads (c.show.ensures.told tells) (c.gather.ensures.reads told);
  read = subst (λ faults. SourceCause faults (g.S.Source.faults c.gather.new.source) c.gather.result) c.show.ensures.faults c.gather.ensures.read;
  clocked = c.gather.ensures.clocked;
}

use Rattle.boss_drive.specs.Looks.{doubted}
use Rattle.boss_drive.proofs.looking.doubt.Goals as goal

pub returns-clause-looked : goal.returns-clause-looked
returns-clause-looked g c = record {
  looked = doubted c.args.point c.args.differs c.in-Ok.field-0;
  fits = c.requires.of_driver;
  entries_are = c.in-Ok.ensures.done;
}

use Rattle.boss_model.specs.Catalogue.{actuators}
use Rattle.boss_requests.proofs.commands.ask_in.Goals as goal

pub returns-in-Notices-clause-allowed : goal.returns-in-Notices-clause-allowed
returns-in-Notices-clause-allowed g c = c.notices_in.ensures.allowed (actuators c.args.catalogue.now)

use Rattle.boss_jobs.proofs.LoadLemmas.{front_told}
use Rattle.boss_jobs.proofs.load_job.do_load.Goals as goal

pub returns-in-Err-WriteFault : goal.returns-in-Err-WriteFault
returns-in-Err-WriteFault g c =
    front_told g.K.Sink (Unit {0}) c.args.count c.args.seed c.args.sink.now c.run_load.new.sink c.in-Err-WriteFault.field-0 c.in-Err-WriteFault.field-0-is c.in-Err-WriteFault.ensures

use Rattle.std.proofs.Common.{◌≡◌, ◌⊎◌, sym, subst}
use Rattle.boss_jobs.proofs.StatusLemmas.{completes}
use Rattle.boss_scripts.specs.Outside.{outside}
use Rattle.boss_jobs.proofs.script.script_run.Goals as goal

pub returns : goal.returns
returns g c = record {
  end = c.run.result;
  told = c.status_of.ensures;
  ended = c.run.ensures.ended;
  broke = c.run.ensures.broke;
  read_fault = c.run.ensures.read;
  write_fault = c.run.ensures.write;
  complete = λ left fine fine' short few.
      subst (λ status. (status ≡ 0) ⊎ (status ≡ 8)) (sym c.status_of.ensures)
      (completes c.args.catalogue.now
      (outside g.S.Source g.K.Sink g.A.Actuators c.args.source.now c.args.sink.now c.args.devices.now.items)
      (outside g.S.Source g.K.Sink g.A.Actuators c.run.new.source c.run.new.sink c.run.new.devices.items) c.run.result
      (c.run.ensures.ended left) c.run.ensures.read c.run.ensures.write fine fine' short few);
}

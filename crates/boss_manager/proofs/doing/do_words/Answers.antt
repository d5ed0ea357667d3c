use Rattle.std.proofs.Common.{refl, vec_len}
use Rattle.boss_jobs.specs.Jobs.{world}
use Rattle.boss_manager.proofs.Asked.{nothing-done}
use Rattle.boss_manager.proofs.doing.do_words.Goals as goal
use Rattle.boss_words.specs.Words.{job_of, texts}

-- ---- no memory for the words: nothing was done

pub returns-in-Err-NoMemory-clause-does : goal.returns-in-Err-NoMemory-clause-does
returns-in-Err-NoMemory-clause-does g c =
    nothing-done g.F.Files g.S.Source g.K.Sink g.A.Actuators (vec_len c.args.devices.now)
    (world c.args.files.now c.args.source.now c.args.sink.now c.args.devices.now.items) _ (λ Holds eight. eight) (λ server. refl)
    (job_of (texts c.args.words.now.items))

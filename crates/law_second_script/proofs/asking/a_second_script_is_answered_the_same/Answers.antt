use Rattle.std.proofs.Common.{refl}
use Rattle.boss_model.specs.Settle.{opened}
use Rattle.def_history.specs.History.{run}
use Rattle.def_history.proofs.Sound.{legal-sound}
use Rattle.law_second_script.proofs.Answered.{same-answers}
use Rattle.law_second_script.proofs.asking.a_second_script_is_answered_the_same.Goals as goal

pub returns : goal.returns
returns c plant s made on second sound legal goes_on opens only asks_only is =
    let left = run plant made s in
    same-answers plant left (opened plant left.persistent) on second (legal-sound plant made s sound legal).persistent refl goes_on opens only asks_only is

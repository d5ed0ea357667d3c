use Rattle.def_history.proofs.Numbers.{pair-once, lives-once, cut_off-once}
use Rattle.def_history.proofs.once.each_number_is_made_once.Goals as goal

pub returns-clause-history : goal.returns-clause-history
returns-clause-history c plant first between then s owner seq session other command e m n accepted given sound legal under again =
    pair-once plant first between then s owner seq session other command e m n accepted given sound legal under again

pub returns-clause-lives : goal.returns-clause-lives
returns-clause-lives c plant lives sound are = lives-once plant lives sound are

pub returns-clause-cut_off : goal.returns-clause-cut_off
returns-clause-cut_off c plant life lives first told commands others passed behind before then owner seq session command m accepted sound are is among under gave opens =
    cut_off-once plant life lives first told commands others passed behind before then owner seq session command m accepted sound are is among under gave opens

use Rattle.def_connection.proofs.BatchLemmas.{deeds-answered}
use Rattle.def_connection.proofs.batches.answers_of_a_desk_are_replies.Goals as goal

pub returns : goal.returns
returns c session calls answers = deeds-answered session calls answers

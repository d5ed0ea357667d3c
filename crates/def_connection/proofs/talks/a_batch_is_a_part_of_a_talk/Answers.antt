use Rattle.def_connection.proofs.TalkLemmas.{goes-batch, stops-batch}
use Rattle.def_connection.proofs.talks.a_batch_is_a_part_of_a_talk.Goals as goal

pub returns-clause-whole : goal.returns-clause-whole
returns-clause-whole g c speech session at lines calls replies old new asked all going grew told calm gave attached last judged name = goes-batch speech session g.K.Sink.tells g.C.Clock.tells at lines calls replies old new asked all going grew told calm gave attached last judged name

pub returns-clause-cut : goal.returns-clause-cut
returns-clause-cut g c speech session at lines behind calls replies stop old new asked few ends stopped kept unheld is silent grew told gave attached last judged =
    stops-batch speech session g.K.Sink.tells g.C.Clock.tells at lines behind calls replies stop old new asked few ends stopped kept unheld is silent grew told gave attached last judged

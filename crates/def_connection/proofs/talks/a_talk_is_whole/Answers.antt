use Rattle.def_connection.proofs.TalkLemmas.{talked-of}
use Rattle.def_connection.proofs.talks.a_talk_is_whole.Goals as goal

pub returns : goal.returns
returns g c speech session heard stop broken old new own parting stops fresh first anonymous parts unattached is = talked-of speech session g.K.Sink.tells g.C.Clock.tells heard stop broken old new own parting stops fresh first anonymous parts unattached is

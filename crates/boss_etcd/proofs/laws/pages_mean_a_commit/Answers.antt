use Rattle.boss_etcd.proofs.Pages.{length_is, pages_are}
use Rattle.boss_etcd.proofs.laws.pages_mean_a_commit.Goals as goal

pub returns-clause-pages : goal.returns-clause-pages
returns-clause-pages c = pages_are

pub returns-clause-length : goal.returns-clause-length
returns-clause-length c = length_is

use Rattle.law_settled.proofs.Spoken.{all-apart}
use Rattle.law_settled.proofs.settled.no_connection_serves_a_device.Goals as goal

pub returns : goal.returns
returns g c catalogue gates keys log works heard agreed = all-apart catalogue gates keys _ _ _ log heard works agreed

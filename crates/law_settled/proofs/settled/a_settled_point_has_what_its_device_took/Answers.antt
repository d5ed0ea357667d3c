use Rattle.std.proofs.Common.{None, refl}
use Rattle.law_settled.specs.Settled.{taking_target}
use Rattle.law_settled.proofs.Agreeing.{last-taken}
use Rattle.law_settled.proofs.OfWorks.{works-opened, worker-opened, works-sound}
use Rattle.law_settled.proofs.settled.a_settled_point_has_what_its_device_took.Goals as goal

pub returns-clause-served : goal.returns-clause-served
returns-clause-served g c catalogue gates keys d log works point heard known legal agreed settled =
    works-opened catalogue gates keys _ _ _ point log d works heard known legal agreed settled

pub returns-clause-worker : goal.returns-clause-worker
returns-clause-worker g c catalogue d log calls pauses course point known legal apart is settled =
    worker-opened catalogue point log d calls _ pauses course known legal apart is settled

pub returns-clause-goes_on : goal.returns-clause-goes_on
returns-clause-goes_on g c catalogue gates keys s log works point heard known sound legal agreed settled =
    works-sound catalogue gates keys _ _ _ point log s works heard known sound legal agreed settled

pub returns-clause-taken : goal.returns-clause-taken
returns-clause-taken g c plant s calls point is = last-taken point calls None None (taking_target plant s point) refl (λ none. absurd cc) is

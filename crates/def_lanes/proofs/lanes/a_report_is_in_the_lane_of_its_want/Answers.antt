use Rattle.std.proofs.Common.{ap}
use Rattle.def_lanes.specs.Lanes.{of_driver}
use Rattle.def_lanes.proofs.Wants.{want-driver, legal-want-driver}
use Rattle.def_lanes.proofs.lanes.a_report_is_in_the_lane_of_its_want.Goals as goal

pub returns-clause-asked : goal.returns-clause-asked
returns-clause-asked c plant s driver moment point version later value ok told asked = ap of_driver (want-driver plant s driver moment point version value asked)

pub returns-clause-done : goal.returns-clause-done
returns-clause-done c plant s before behind driver moment point version later value ok told legal =
    ap of_driver (legal-want-driver plant s before behind driver moment point version value legal)

use Rattle.def_lanes.proofs.DeviceLemmas.{calls-one}
use Rattle.def_lanes.proofs.devices.one_work_has_all_calls.Goals as goal

pub returns : goal.returns
returns c driver calls waited course before behind apart = calls-one driver calls waited course before behind apart

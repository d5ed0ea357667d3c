use Rattle.def_lanes.proofs.DeviceLemmas.{taken-more, devices-next}
use Rattle.def_lanes.proofs.devices.devices_come_back.Goals as goal

pub returns-clause-taken : goal.returns-clause-taken
returns-clause-taken g c device was devices out next taken same = taken-more device was devices out next taken same

pub returns-clause-next : goal.returns-clause-next
returns-clause-next g c workers works others was now old new back of_first of_next last =
    devices-next g.A.Actuators.calls (λ device. g.A.Actuators.tells × g.A.Actuators.whole device) workers works others was now old new back of_first of_next
    (λ told. last told.0 told.1)

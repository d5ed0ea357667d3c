use Rattle.law_settled.proofs.OfDevices.{device-last, kept-last}
use Rattle.law_settled.proofs.settled.a_device_has_the_target_of_a_settled_point.Goals as goal

pub returns-clause-account : goal.returns-clause-account
returns-clause-account g c catalogue gates keys workers n shares d log seen served served' given given' hosted hosted' ticked ticked' waits waits' was others devices flags unrun point
    heard known legal account settled =
    device-last g.A.Actuators.calls (λ device. g.A.Actuators.tells × g.A.Actuators.whole device) catalogue gates keys _ _ _ _ _ workers n shares log seen served served' given given'
    hosted hosted' ticked ticked' waits waits' was others devices flags unrun account point d heard known legal settled

pub returns-clause-kept : goal.returns-clause-kept
returns-clause-kept g c catalogue gates keys workers n shares d start end served served' given given' hosted hosted' ticked ticked' waits waits' was others devices flags unrun point
    heard known same begins ran running settled =
    kept-last g.K.Keeper g.A.Actuators.calls (λ device. g.A.Actuators.tells × g.A.Actuators.whole device) catalogue gates keys _ _ _ _ _ workers n shares start end served served' given given'
    hosted hosted' ticked ticked' waits waits' was others devices flags unrun ran point d heard known same begins running settled

use Rattle.def_guards.proofs.Spaced.{keeps_times}
use Rattle.def_guards.proofs.spacing.a_guarded_point_keeps_its_value.Goals as goal

pub returns : goal.returns
returns c point watch turns last known fresh are fits = keeps_times point watch turns last known fresh are fits

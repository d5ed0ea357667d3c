use Rattle.def_guards.proofs.Earlier.{given_before}
use Rattle.def_guards.proofs.given.a_want_is_given_before_it_is_tried.Goals as goal

pub returns : goal.returns
returns c watch before turn left empty are is = given_before watch before turn left empty are is

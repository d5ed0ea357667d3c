-- Only a line of the form that may asks to watch.
use Rattle.std.proofs.Common.{subst}
use Rattle.def_wire.specs.declared.form.Form.{Form}
use Rattle.def_wire.specs.declared.form.Op.{Op}
use Rattle.def_wire.specs.declared.request.Ask.{Ask}
use Rattle.def_wire.specs.declared.request.Ask.TheVariants.{Command, Watch}
use Rattle.boss_requests.specs.Given.{IsAskOf, IsOfForm, IsOpOf}

pub of_form : (form : Form) (by : Op) (asked : Ask) → IsOpOf form by → IsAskOf by asked → IsOfForm form asked
of_form form by (Command command) fits of_op = tt
of_form form by (Watch name from) fits of_op = subst (IsOpOf form) of_op fits

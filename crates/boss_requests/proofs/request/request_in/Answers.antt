use Rattle.std.proofs.Common.{rules}
use Rattle.boss_requests.specs.Given.{IsOpOf}
use Rattle.boss_requests.proofs.Forms.{of_form}
use Rattle.boss_requests.proofs.request.request_in.Goals as goal

pub returns-clause-watch : goal.returns-clause-watch
returns-clause-watch g c = let fits : IsOpOf c.args.form c.in_ok-op.op = search rules in of_form c.args.form c.in_ok-op.op c.in_ok-ask.ask fits c.in_ok-ask.ensures.op

use Rattle.std.proofs.Common.{map}
use Rattle.def_wire.specs.Requests.{point_at, text_at}
use Rattle.boss_requests.proofs.Each.{both-asks, both-told}
use Rattle.boss_requests.proofs.points.points_named.Goals as goal

pub returns-in-Ok-clause-points : goal.returns-in-Ok-clause-points
returns-in-Ok-clause-points g c =
    both-asks text_at (point_at c.args.catalogue.now) 0 (map g.V.JsonValue.meaning c.args.values.now) c.in-Ok.points c.in-Ok.ensures.points

pub returns-in-Err-clause-points : goal.returns-in-Err-clause-points
returns-in-Err-clause-points g c =
    rw c.why_no_points.ensures
    (both-told text_at (point_at c.args.catalogue.now) 0 (map g.V.JsonValue.meaning c.args.values.now) c.in-Err.why c.in-Err.ensures.points)

use Rattle.std.proofs.Common.{◌<◌, length, ◌∙◌, arith}
use Rattle.std.proofs.lemmas.Bool.Decides.{nat_tests}
use Rattle.boss_persistent.specs.Lasting.{persistent_of}
use Rattle.boss_persistent.proofs.Asked.{meant-open}
use Rattle.boss_persistent.proofs.early.are_meant_open.Goals as goal

pub returns : goal.returns
returns c =
    let some : 0 < length c.args.points.now = grind (arith, nat_tests) in
    c.are_open_on.ensures ∙ meant-open c.args.n (persistent_of c.args.lasting.now).leases c.args.parts.now c.args.points.now some

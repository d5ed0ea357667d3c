use Rattle.std.proofs.Common.{◌-◌, pos, arith}
use Rattle.std.proofs.lemmas.Bool.Decides.{nat_tests}
use Rattle.law_time.proofs.Courses.{end-later}
use Rattle.boss_reversion.proofs.Playing.{over-more}
use Rattle.boss_reversion.proofs.reversions.outlasts.Goals as goal

pub returns-then-moment-reversion : goal.returns-then-moment-reversion
returns-then-moment-reversion c =
    let later = end-later c.args.reversion.now in
    let early = c.if-moment-reversion.true in grind (arith, nat_tests)

pub returns-then-played-length : goal.returns-then-played-length
returns-then-played-length c =
    let steps = c.slice-step-items.result.now in
    let i = c.loop-step.step-index in
    let more = over-more (c.args.moment - c.loop-step.played) steps i (record { value = pos 0; hold = pos 0 }) c.loop-step-test.true in
    let held = c.hold-length.ensures in
    let rest = c.loop-step.invariant.rest in
    let shorter = c.if-played-length.true in
    grind (arith, nat_tests)

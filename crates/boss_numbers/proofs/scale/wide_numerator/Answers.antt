use Rattle.std.proofs.Common.{rules, ◌≡◌, pos, ◌^◌, ◌≤◌, w64, FitsSigned, arith}
use Rattle.std.proofs.lemmas.Int.{to_z-of_z}
use Rattle.boss_numbers.proofs.Held.{abs-most, computed-fits, computed}
use Rattle.boss_numbers.proofs.scale.wide_numerator.Goals as goal

pub overflow_add-result : goal.overflow_add-result
overflow_add-result c =
    let scale = c.args.scale in
    let value-fits : FitsSigned w64 c.args.value = c.ranges.value in
    let offset-fits : FitsSigned w64 scale.offset = search rules in
    let per-fits : FitsSigned w64 scale.per = search rules in
    let value : c.from.result ≡ c.args.value = search (rules, to_z-of_z) in
    let times : c.from-2.result ≡ pos scale.times = c.from-2.ensures in
    let offset : c.from-3.result ≡ scale.offset = search (rules, to_z-of_z) in
    let per : c.from-4.result ≡ scale.per = search (rules, to_z-of_z) in
    let few : scale.times ≤ 2 ^ 16 = omega arith in
    rw (value, times, offset, per) (computed-fits c.args.value (pos scale.times) scale.offset scale.per (abs-most c.args.value value-fits) few
    (abs-most scale.offset offset-fits) (abs-most scale.per per-fits))

pub returns : goal.returns
returns c =
    let scale = c.args.scale in
    let value-fits : FitsSigned w64 c.args.value = c.ranges.value in
    let offset-fits : FitsSigned w64 scale.offset = search rules in
    let per-fits : FitsSigned w64 scale.per = search rules in
    let value : c.from.result ≡ c.args.value = search (rules, to_z-of_z) in
    let times : c.from-2.result ≡ pos scale.times = c.from-2.ensures in
    let offset : c.from-3.result ≡ scale.offset = search (rules, to_z-of_z) in
    let per : c.from-4.result ≡ scale.per = search (rules, to_z-of_z) in
    let few : scale.times ≤ 2 ^ 16 = omega arith in
    rw (value, times, offset, per) (computed c.args.value (pos scale.times) scale.offset scale.per (abs-most c.args.value value-fits) few
    (abs-most scale.offset offset-fits) (abs-most scale.per per-fits))

use Rattle.std.proofs.Common.{◌+◌, sym, subst, arith}
use lib.Count.{count_trailing_zeros}
use Rattle.boss_json.specs.Compact.{CompactBetween}
use Rattle.boss_json.proofs.Stops.{plain_to_stop, plain_through, plain_on}
use Rattle.boss_json.proofs.compact.plain_end.Goals as goal

pub returns-then-stops-ne0-clause-plain : goal.returns-then-stops-ne0-clause-plain
returns-then-stops-ne0-clause-plain c =
    let d = c.args.text.now in
    let end = c.loop-end.end in
    let stops = c.stops-stops in
    let next = plain_to_stop d end 8 (omega arith) (omega arith) (omega (arith, stops.ensures)) in
    plain_on d c.args.start end _ c.loop-end.invariant.plain (subst (λ m. CompactBetween d end (end + count_trailing_zeros 64 m)) (sym stops.ensures) next)

pub loop-end-preserved : goal.loop-end-preserved
loop-end-preserved c =
    let d = c.args.text.now in
    let end = c.loop-end.end in
    record {
      after = omega arith;
      within = omega arith;
      plain = plain_on d c.args.start end _ c.loop-end.invariant.plain (plain_through d end 8 (omega arith) (omega (arith, c.stops-stops.ensures)));
    }

use Rattle.std.proofs.Common.{arith}
use Rattle.boss_json.proofs.Stops.{mask-ends_plain}
use Rattle.boss_json.proofs.compact.stops.Goals as goal

pub returns : goal.returns
returns c = mask-ends_plain c.args.bytes 8 c.fits-bytes.0 (omega arith)

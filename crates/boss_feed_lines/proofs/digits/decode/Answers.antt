use Rattle.std.proofs.Common.{[], length}
use Rattle.boss_feed_lines.proofs.Hexes.{not-read, told-by}
use Rattle.boss_feed_lines.proofs.digits.decode.Goals as goal

pub returns-in-Ok : goal.returns-in-Ok
returns-in-Ok c =
    let out = c.decode_to_slice.new.out in
    told-by c.args.text.now out (length c.args.bytes.now) c.decode_to_slice.result c.is_written.result c.requires.some c.decode_to_slice.auto.out c.is_written.ensures.bytes c.requires.half
    c.decode_to_slice.ensures.value c.is_written.ensures.is

pub returns-in-Err : goal.returns-in-Err
returns-in-Err c =
    not-read c.args.text.now [] c.decode_to_slice.new.out (length c.args.bytes.now) c.decode_to_slice.result c.in-Err.field-0 c.requires.half c.decode_to_slice.ensures.value c.in-Err.is

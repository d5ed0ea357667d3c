use Rattle.std.proofs.Common.{arith, refl, length, ◌+◌, ◌-◌}
use Rattle.boss_journal.proofs.Frames.{framed_pieces}
use Rattle.boss_journal.proofs.frame.frame.Goals as goal

pub returns : goal.returns
returns c =
    framed_pieces c.copy_from_slice.new.self c.copy_from_slice-2.new.self c.args.bytes.now c.args.into.now (length c.args.bytes.now) (4 + length c.args.bytes.now - 4) (cc) refl c.copy_from_slice-2.ensures.after (omega arith) c.requires.room

use Rattle.boss_records.proofs.Texts.{name_text}
use Rattle.boss_records.proofs.written_parts.put_name.Goals as goal

pub returns-clause-bytes : goal.returns-clause-bytes
returns-clause-bytes g c = name_text (g.R.Room.bytes c.args.into.now) (g.R.Room.bytes c.put_u8.new.into) (g.R.Room.bytes c.put_all.new.self)
    c.bytes-bytes.result.now c.args.written.now c.bytes-bytes.ensures.value c.put_u8.ensures.bytes c.put_all.ensures.bytes

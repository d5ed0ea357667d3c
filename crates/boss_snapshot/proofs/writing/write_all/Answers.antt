use Rattle.boss_snapshot.proofs.Writings.{all_text}
use Rattle.boss_snapshot.proofs.writing.write_all.Goals as goal

pub returns-clause-text : goal.returns-clause-text
returns-clause-text g c told =
    all_text _ _ _ _ _ _ _ _ _ _ _ _ _ _ _ c.put_opening.ensures.text c.put_u64.ensures.bytes c.put_u64-2.ensures.bytes (c.in_ok-spill_kept.ensures.text told)
    (c.in_ok-make_room.ensures.text told) c.put_u64-3.ensures.bytes c.put.ensures.bytes (c.in_ok-spill.ensures.text told) (c.requires.alone told)

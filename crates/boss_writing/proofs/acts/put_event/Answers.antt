use Rattle.std.proofs.Common.{nat_lt}
use Rattle.def_bytes.specs.Events.{act_fits, act_tag}
use Rattle.def_bytes.specs.Parts.{moment}
use Rattle.def_bytes.proofs.Spelling.{right_true}
use Rattle.boss_writing.proofs.acts.put_event.Goals as goal

pub write_act-requires-clause-fits : goal.write_act-requires-clause-fits
write_act-requires-clause-fits g c =
    let e = c.args.event.now in
    right_true (moment.fits e.moment) (act_fits e.act) (right_true (nat_lt (act_tag e.act) 256) _ c.requires.fits)

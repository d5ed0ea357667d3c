use Rattle.std.proofs.Common.{◌≡◌, Some, ap, nat_lt}
use Rattle.boss_model.specs.declared.event.Event.{Event}
use Rattle.boss_model.specs.Effects.{act_of, event_of}
use Rattle.def_bytes.specs.Events.{act_fits, act_tag}
use Rattle.def_bytes.specs.Parts.{moment}
use Rattle.def_bytes.proofs.Spelling.{right_true}
use Rattle.boss_writing.proofs.writing.write_event.Goals as goal

pub write_whole-requires-clause-fits : goal.write_whole-requires-clause-fits
write_whole-requires-clause-fits c =
    let e : Event = record { moment = c.in-Whole.moment; act = act_of c.args.command.now c.in-Whole.owner } in
    let is : event_of c.args.command.now c.args.effect.now ≡ Some e = ap (event_of c.args.command.now) c.in-Whole.is in
    right_true (moment.fits e.moment) (act_fits e.act) (right_true (nat_lt (act_tag e.act) 256) _ (c.requires.fits e is))

use Rattle.std.proofs.Common.{map}
use Rattle.def_wire.specs.Requests.{setting_at, write_at}
use Rattle.boss_requests.proofs.Each.{both-asks, both-told}
use Rattle.boss_requests.proofs.writes.settings_in.Goals as goal

pub returns-in-Ok-clause-settings : goal.returns-in-Ok-clause-settings
returns-in-Ok-clause-settings g c =
    both-asks write_at (setting_at c.args.catalogue.now) 0 (map g.V.JsonValue.meaning c.args.values.now) c.in-Ok.settings c.in-Ok.ensures.settings

pub returns-in-Err-clause-settings : goal.returns-in-Err-clause-settings
returns-in-Err-clause-settings g c =
    rw c.why_no_settings.ensures
    (both-told write_at (setting_at c.args.catalogue.now) 0 (map g.V.JsonValue.meaning c.args.values.now) c.in-Err.why c.in-Err.ensures.settings)

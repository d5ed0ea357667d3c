use Rattle.std.proofs.Common.{rules}
use Rattle.std.specs.Str.{bytes_eq}
use Rattle.boss_points.proofs.Places.{list_any-map}
use Rattle.boss_points.proofs.tables.is_added.Goals as goal

pub returns-clause-new : goal.returns-clause-new
returns-clause-new c = rw (← list_any-map (λ key. key.items) (bytes_eq c.args.name.now) c.args.names.now.keys) (search rules)

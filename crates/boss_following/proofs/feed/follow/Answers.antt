use Rattle.std.proofs.Common.{sym, subst}
use Rattle.boss_following.specs.declared.stop.FollowEnd.TheVariants as end
use Rattle.boss_following.proofs.Owned.{no-memory, own-followed, stopped-before}
use Rattle.boss_model.specs.Plants.{IsPlant}
use Rattle.boss_following.proofs.feed.follow.Goals as goal

pub returns-then-stopped-clause-follows : goal.returns-then-stopped-clause-follows
returns-then-stopped-clause-follows g c tells = stopped-before c.args.durable.now (g.S.Source.left c.args.source.now)

pub returns-then-stopped-clause-own : goal.returns-then-stopped-clause-own
returns-then-stopped-clause-own g c tells history told own =
    own-followed c.args.durable.now c.args.durable.now (g.S.Source.left c.args.source.now) (g.S.Source.left c.args.source.now) end.Stopped history told
    (subst IsPlant (sym c.requires) c.count.ensures.plant) (returns-then-stopped-clause-follows g c tells) own

pub returns-in_default-clause-follows : goal.returns-in_default-clause-follows
returns-in_default-clause-follows g c tells = no-memory c.args.durable.now (g.S.Source.left c.args.source.now)

pub returns-in_default-clause-own : goal.returns-in_default-clause-own
returns-in_default-clause-own g c tells history told own =
    own-followed c.args.durable.now c.args.durable.now (g.S.Source.left c.args.source.now) (g.S.Source.left c.args.source.now) end.NoMemory history told
    (subst IsPlant (sym c.requires) c.count.ensures.plant) (returns-in_default-clause-follows g c tells) own

pub returns-in_default-new-clause-follows : goal.returns-in_default-new-clause-follows
returns-in_default-new-clause-follows g c tells = no-memory c.args.durable.now (g.S.Source.left c.args.source.now)

pub returns-in_default-new-clause-own : goal.returns-in_default-new-clause-own
returns-in_default-new-clause-own g c tells history told own =
    own-followed c.args.durable.now c.args.durable.now (g.S.Source.left c.args.source.now) (g.S.Source.left c.args.source.now) end.NoMemory history told
    (subst IsPlant (sym c.requires) c.count.ensures.plant) (returns-in_default-new-clause-follows g c tells) own

pub returns-clause-own : goal.returns-clause-own
returns-clause-own g c tells history told own =
    own-followed c.args.durable.now c.follow_lines.new.durable (g.S.Source.left c.args.source.now) (g.S.Source.left c.follow_lines.new.source) c.follow_lines.result history told
    (subst IsPlant (sym c.requires) c.count.ensures.plant) (c.follow_lines.ensures.follows tells) own

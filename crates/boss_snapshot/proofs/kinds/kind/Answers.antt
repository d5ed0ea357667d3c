use Rattle.std.proofs.Common.{ap, ◌∙◌, take}
use Rattle.boss_snapshot.specs.Firsts.{kind_by}
use Rattle.boss_snapshot.proofs.OfKind.{kind_of_all}
use Rattle.boss_snapshot.proofs.kinds.kind.Goals as goal

pub returns-clause-kind : goal.returns-clause-kind
returns-clause-kind g c told =
    c.kind_by_first.ensures
    ∙ ap (kind_by c.in_ok-end.end) (c.in_ok-count.ensures.given told ∙ ap (take 73) (c.length.ensures.bytes told))
    ∙ ap (λ n. kind_by n (take 73 (g.D.Disk.reads c.args.disk.now))) (c.in_ok-end.ensures.size told)
    ∙ kind_of_all (g.D.Disk.reads c.args.disk.now)

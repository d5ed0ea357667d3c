use Rattle.std.proofs.Common.{rules, not, nat_eq, ap, ◌∙◌}
use Rattle.std.proofs.lemmas.Fn.{filter_same}
use Rattle.boss_looks.specs.Looks.{without}
use Rattle.boss_looks.proofs.queue.Queue.forget.Goals as goal

pub returns : goal.returns
returns c =
    filter_same _ (λ kept. not (nat_eq kept.point c.args.point)) _ (λ x b f r. search rules) _ _ c.retain.ensures.filtered
    ∙ ap (without c.args.point) c.self.view_is

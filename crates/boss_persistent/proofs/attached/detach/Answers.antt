use Rattle.std.proofs.Common.{rules, ◌==◌, not}
use Rattle.std.proofs.lemmas.Fn.{filter_same}
use Rattle.boss_persistent.proofs.attached.detach.Goals as goal

pub returns-clause-items : goal.returns-clause-items
returns-clause-items c = filter_same _ (λ attachment. not (attachment.session == c.args.session)) _ (λ x b f r. search rules) _ _ c.retain.ensures.filtered

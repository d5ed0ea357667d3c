use Rattle.std.proofs.Common.{◌⊎◌, ℕ, ◌+◌, ◌≤◌, [], take, sym, ◌∙◌, subst}
use Rattle.def_history.specs.Made.{made_by_all}
use Rattle.boss_durable.specs.Begun.{WantNone}
use Rattle.boss_durable.specs.Words.{Does, RunsThrough, log}
use Rattle.boss_durable.proofs.Doing.{begun_does, begun_runs}
use Rattle.boss_durable.proofs.ManyDone.{all_idle, all_idle_runs, all_unbegun, all_unbegun_runs, stays_within}
use Rattle.boss_durable.proofs.durable.Durable.apply_all.Goals as goal

pub returns-then-stopped-clause-kept : goal.returns-then-stopped-clause-kept
returns-then-stopped-clause-kept g c = all_idle c.args.self.now c.args.session c.args.commands.now _ (sym c.stopped.ensures ∙ c.if-stopped.true) c.clear.ensures.items

pub returns-then-stopped-clause-images : goal.returns-then-stopped-clause-images
returns-then-stopped-clause-images g c = all_idle_runs c.args.self.now c.args.session c.args.commands.now _ c.clear.ensures.items

pub returns-in-Ok-clause-images : goal.returns-in-Ok-clause-images
returns-in-Ok-clause-images g c =
    begun_runs c.args.self.now c.begin_all.new.self c.take_all.new.self
    (made_by_all [] c.args.session c.args.commands.now c.take_all.new.answers.items c.take_all.result.rest) c.in-Ok.ensures.engine c.in-Ok.ensures.keeps c.in-Ok.ensures.passes
    (subst (λ calls. RunsThrough c.begin_all.new.self c.take_all.new.self (made_by_all [] c.args.session calls c.take_all.new.answers.items c.take_all.result.rest)) c.slice-calls.ensures c.take_all.ensures.images)

pub returns-in-Ok-clause-kept : goal.returns-in-Ok-clause-kept
returns-in-Ok-clause-kept g c =
    begun_does c.args.self.now c.begin_all.new.self c.take_all.new.self _ (sym c.stopped.ensures ∙ c.if-stopped.false) c.in-Ok.ensures.fine
    c.in-Ok.ensures.engine c.in-Ok.ensures.cause.1 c.in-Ok.ensures.keeps
    (subst (λ calls. Does c.begin_all.new.self c.take_all.new.self (made_by_all [] c.args.session calls c.take_all.new.answers.items c.take_all.result.rest)) c.slice-calls.ensures c.take_all.ensures.kept)
    (returns-in-Ok-clause-images g c)

pub returns-in-Err-clause-kept : goal.returns-in-Err-clause-kept
returns-in-Err-clause-kept g c =
    all_unbegun c.args.self.now c.begin_all.new.self c.args.session c.args.commands.now _ c.clear.ensures.items (sym c.stopped.ensures ∙ c.if-stopped.false)
    c.in-Err.ensures.stops c.in-Err.ensures.engine c.in-Err.ensures.cause c.requires.may c.in-Err.ensures.passes

pub returns-in-Err-clause-images : goal.returns-in-Err-clause-images
returns-in-Err-clause-images g c =
    all_unbegun_runs c.args.self.now c.begin_all.new.self c.args.session c.args.commands.now _ c.clear.ensures.items c.in-Err.ensures.passes

pub returns-in-Ok-clause-log : goal.returns-in-Ok-clause-log
returns-in-Ok-clause-log g c =
    let s = c.args.self.now.engine.state in
    subst (λ calls. (log c.take_all.new.self ≤ c.take_all.new.self.log_limit) ⊎ WantNone s (take c.take_all.result.done calls)) c.slice-calls.ensures
    (stays_within s c.slice-calls.result.now c.take_all.result.done c.in-Ok.many (log c.begin_all.new.self) (log c.take_all.new.self) c.take_all.new.self.log_limit
    c.take_all.result.rest c.take_all.ensures.together c.take_all.ensures.log c.take_all.ensures.many
    (subst (λ (limit : ℕ). (log c.begin_all.new.self + 65536 ≤ limit) ⊎ WantNone s (take c.in-Ok.many c.slice-calls.result.now)) (sym c.take_all.ensures.limit) c.in-Ok.ensures.room))

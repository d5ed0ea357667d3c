use Rattle.std.proofs.Common.{◌≡◌, [], ◌∷◌, ◌++◌, sym, ap, ◌∙◌, subst, arith}
use Rattle.std.specs.List.{AllByRecursion}
use Rattle.boss_model.specs.declared.command.Command.TheVariants.{Array}
use Rattle.def_history.specs.History.{MayCall}
use Rattle.trial_keeper.proofs.Keepers.{on_ok}
use Rattle.trial_shared.proofs.trials.batch.Goals as goal

pub returns-clause-may : goal.returns-clause-may
returns-clause-may g c plant some =
    let first : c.try_push.new.self ≡ c.new-commands.result ++ (c.attach-attach.result, 1000) ∷ [] = on_ok _ _ c.expect.ensures c.try_push.ensures.ok in
    let second : c.try_push-2.new.self ≡ c.try_push.new.self ++ (c.submit-submit.result, 1000) ∷ [] = on_ok _ _ c.expect-2.ensures c.try_push-2.ensures.ok in
    let third : c.try_push-3.new.self ≡ c.try_push-2.new.self ++ (Array 0, 1001) ∷ [] = on_ok _ _ c.expect-3.ensures c.try_push-3.ensures.ok in
    let one : c.try_push.new.self ≡ (c.attach-attach.result, 1000) ∷ [] = first ∙ ap (λ es. es ++ (c.attach-attach.result, 1000) ∷ []) c.new-commands.ensures in
    let two : c.try_push-2.new.self ≡ (c.attach-attach.result, 1000) ∷ (c.submit-submit.result, 1000) ∷ [] = second ∙ ap (λ es. es ++ (c.submit-submit.result, 1000) ∷ []) one in
    let all = third ∙ ap (λ es. es ++ (Array 0, 1001) ∷ []) two in
    subst (AllByRecursion (MayCall plant)) (sym all)
    ((c.attach-attach.ensures plant some, omega arith), ((c.submit-submit.ensures plant some, omega arith), ((some, omega arith), tt)))

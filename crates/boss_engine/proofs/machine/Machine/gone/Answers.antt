use Rattle.std.proofs.Common.{◌≡◌, nat_lt, Some, sym, ap, ◌∙◌}
use Rattle.std.specs.Prelude.{unwrap_or}
use Rattle.std.specs.List.{list_any}
use Rattle.boss_model.specs.Ends.{is_owned_by}
use Rattle.boss_model.specs.Processes.{process_of}
use Rattle.law_effects.specs.Changes.{if_held}
use Rattle.boss_persistent.specs.Lasting.{persistent_of}
use Rattle.boss_persistent.proofs.Counted.{any-counted}
use Rattle.boss_engine.proofs.Concerned.{concerned-changed, concerned-owner}
use Rattle.boss_engine.proofs.machine.Machine.gone.Goals as goal

pub returns-clause-changed : goal.returns-clause-changed
returns-clause-changed c = λ any.
    let m = c.args.self.now in
    let d = persistent_of m.lasting in
    let owner = c.in-Some.owner in
    let held : process_of m.attached.items c.args.session ≡ Some owner = sym (c.in-Some.ensures ∙ ap (λ attached. process_of attached c.args.session) c.deref.ensures.value) in
    concerned-changed _ _ _ c.then_some.ensures ∙ ap (λ count. nat_lt 0 count) c.lose-ended.ensures.ended ∙ sym (any-counted (is_owned_by owner) d.leases)
    ∙ sym (ap (λ h. if_held h (λ process. list_any (is_owned_by process) d.leases)) held)

pub returns-clause-owner : goal.returns-clause-owner
returns-clause-owner c = concerned-owner _ _ _ _ c.then_some.ensures (ap (λ h. unwrap_or h 0) (c.in-Some.ensures ∙ ap (λ attached. process_of attached c.args.session) c.deref.ensures.value))

use Rattle.std.proofs.Common.{◌≡◌, FitsSigned, w64, Some, None, sym, ap, ◌∙◌}
use Rattle.std.proofs.lemmas.Int.{to_z-of_z}
use Rattle.std.proofs.lemmas.Option.{IfSome_then}
use Rattle.std.specs.Prelude.{unwrap_or}
use Rattle.std.specs.Option.{option_map}
use Rattle.boss_model.specs.Processes.{process_of}
use Rattle.boss_model.specs.Renew.{renew_refused}
use Rattle.boss_engine.specs.Inside.{state_of}
use Rattle.boss_persistent.specs.Lasting.{persistent_of}
use Rattle.boss_persistent.specs.Replying.{decided, decision_answer}
use Rattle.boss_engine.proofs.Doing.{renew-leaves}
use Rattle.boss_engine.proofs.machine.Machine.renew.Goals as goal

pub returns-clause-state : goal.returns-clause-state
returns-clause-state c = λ any.
    let m = c.args.self.now in
    let owner = c.in-Some.owner in
    let fits : FitsSigned w64 c.args.duration = c.ranges.duration in
    let held : process_of m.attached.items c.args.session ≡ Some owner = sym (c.in-Some.ensures ∙ ap (λ attached. process_of attached c.args.session) c.deref.ensures.value) in
    let undecided : decided m.lasting.processes owner c.args.seq ≡ None = sym (ap (option_map decision_answer) (sym c.in_default-decision.is) ∙ c.decision.ensures) in
    let allowed : renew_refused owner c.args.txn c.args.duration c.args.points.now c.args.n (persistent_of m.lasting) ≡ None =
    sym (sym c.in_default-renew_refused.is ∙ (c.renew_refused.ensures ∙ ap (λ z. renew_refused owner c.args.txn z c.args.points.now c.args.n (persistent_of m.lasting)) (to_z-of_z w64 c.args.duration c.ranges.duration))) in
    let after = simp to_z-of_z at c.renew_for.ensures.after in
    (λ i. record {
      persistent = after i;
      attached = (c.renew_for.ensures.others.1 i).items;
      proxies = (c.renew_for.ensures.others.0 i).proxies;
      wants = (c.renew_for.ensures.others.0 i).wants;
    })
    ∙ sym (ap (λ r. r.state) (renew-leaves any c.args.session owner c.args.txn c.args.duration c.args.points.now c.args.seq c.args.n (state_of m) held undecided allowed))

pub returns-clause-owner : goal.returns-clause-owner
returns-clause-owner c = IfSome_then c.renew_for.result.concerned c.renew_for.ensures.owner
    (λ process is. is ∙ ap (λ h. unwrap_or h 0) (c.in-Some.ensures ∙ ap (λ attached. process_of attached c.args.session) c.deref.ensures.value))

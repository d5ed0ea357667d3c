use Rattle.std.proofs.Common.{◌≡◌, Some, None, sym, ap, ◌∙◌}
use Rattle.boss_model.specs.Ends.{cancel_refused}
use Rattle.std.specs.Prelude.{unwrap_or}
use Rattle.std.specs.Option.{option_map}
use Rattle.boss_model.specs.Processes.{process_of}
use Rattle.boss_engine.specs.Inside.{state_of}
use Rattle.boss_persistent.specs.Lasting.{persistent_of}
use Rattle.boss_persistent.specs.Replying.{decided, decision_answer}
use Rattle.boss_persistent.proofs.Cancelling.{cancel-leaves}
use Rattle.boss_engine.proofs.machine.Machine.cancel.Goals as goal

pub returns-clause-state : goal.returns-clause-state
returns-clause-state c = λ any.
    let m = c.args.self.now in
    let owner = c.in-Some.owner in
    let held : process_of m.attached.items c.args.session ≡ Some owner = sym (c.in-Some.ensures ∙ ap (λ attached. process_of attached c.args.session) c.deref.ensures.value) in
    let undecided : decided m.lasting.processes owner c.args.seq ≡ None = sym (ap (option_map decision_answer) (sym c.in_default-decision.is) ∙ c.decision.ensures) in
    let passed : cancel_refused owner c.args.txn (persistent_of m.lasting) ≡ None = sym (sym c.in_default-cancel_refused.is ∙ c.cancel_refused.ensures) in
    (λ i. record {
      persistent = c.cancel_for.ensures.after i;
      attached = (c.cancel_for.ensures.others.1 i).items;
      proxies = (c.cancel_for.ensures.others.0 i).proxies;
      wants = (c.cancel_for.ensures.others.0 i).wants;
    })
    ∙ sym (ap (λ r. r.state) (cancel-leaves any c.args.session owner c.args.txn c.args.seq c.args.n (state_of m) held undecided passed))

pub returns-clause-owner : goal.returns-clause-owner
returns-clause-owner c = ap (λ h. unwrap_or h 0) (c.in-Some.ensures ∙ ap (λ attached. process_of attached c.args.session) c.deref.ensures.value)

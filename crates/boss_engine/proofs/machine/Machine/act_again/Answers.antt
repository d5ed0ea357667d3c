use Rattle.std.proofs.Common.{◌≡◌, FitsSigned, w64, rules, nat_lt, true, is_some, Some, vec_capacity, subst, sym, ap, ◌∙◌}
use Rattle.std.proofs.lemmas.Int.{to_z-of_z}
use Rattle.boss_model.specs.declared.event.Act.{Act}
use Rattle.boss_model.specs.Acts.{act_on}
use Rattle.boss_model.specs.Ends.{is_owned_by}
use Rattle.boss_model.specs.Renew.{renew_refused}
use Rattle.law_spelling.specs.Ranges.{IsAct}
use Rattle.boss_engine.specs.declared.machine.Machine.{Machine}
use Rattle.boss_engine.specs.Again.{IsReadyAgain}
use Rattle.boss_persistent.specs.Lasting.{IsKept, persistent_of}
use Rattle.boss_engine.proofs.Again.{cancel-made, renew-made, submit-passed}
use Rattle.boss_persistent.proofs.Counted.{any-counted}
use Rattle.boss_engine.proofs.Keeping.{keeps-places, kept-aside}
use Rattle.boss_engine.proofs.machine.Machine.act_again.Goals as goal

pub begin_ready-requires-clause-begun : goal.begin_ready-requires-clause-begun
begin_ready-requires-clause-begun c =
    let a = c.requires.allowed in
    let d = persistent_of c.args.self.now.lasting in
    let fits = subst IsAct c.in-Submit.is c.requires.act in (
      a.0,
      c.in-Submit.owner,
      c.in-Submit.policy,
      c.in-Submit.writes,
      a.1,
      fits.1,
      submit-passed a.0 c.args.n d c.in-Submit.owner c.in-Submit.policy c.in-Submit.writes c.in-Submit.seq (subst (λ (done : Act). is_some (act_on a.0 c.args.n done d) ≡ true) c.in-Submit.is a.2),
      subst (λ (done : Act). IsReadyAgain c.args.n done c.args.ready d) c.in-Submit.is c.requires.ready,
    )

pub renew_for-requires-clause-passed : goal.renew_for-requires-clause-passed
renew_for-requires-clause-passed c =
    let a = c.requires.allowed in
    let d = persistent_of c.args.self.now.lasting in
    let fits : FitsSigned w64 c.in-Renew.length = search rules in
    let made = renew-made a.0 c.args.n d c.in-Renew.owner c.in-Renew.txn c.in-Renew.length c.in-Renew.points c.in-Renew.seq (subst (λ (done : Act). is_some (act_on a.0 c.args.n done d) ≡ true) c.in-Renew.is a.2) in
    simp to_z-of_z (ap (λ points. renew_refused c.in-Renew.owner c.in-Renew.txn c.in-Renew.length points c.args.n d) c.slice.ensures ∙ made.0)

pub returns-in-Renew-clause-after : goal.returns-in-Renew-clause-after
returns-in-Renew-clause-after c = λ plant can some.
    let d = persistent_of c.args.self.now.lasting in
    let fits : FitsSigned w64 c.in-Renew.length = search rules in
    let made = renew-made plant c.args.n d c.in-Renew.owner c.in-Renew.txn c.in-Renew.length c.in-Renew.points c.in-Renew.seq (subst (λ (done : Act). is_some (act_on plant c.args.n done d) ≡ true) c.in-Renew.is some) in
    rw c.in-Renew.is (made.1 ∙ ap Some (sym (rw c.slice.ensures at (simp to_z-of_z at c.renew_for.ensures.after))))

pub returns-in-Cancel-clause-after : goal.returns-in-Cancel-clause-after
returns-in-Cancel-clause-after c = λ plant can some.
    let d = persistent_of c.args.self.now.lasting in
    rw c.in-Cancel.is (cancel-made plant c.args.n d c.in-Cancel.owner c.in-Cancel.txn c.in-Cancel.seq (subst (λ (done : Act). is_some (act_on plant c.args.n done d) ≡ true) c.in-Cancel.is some) ∙ ap Some (sym c.cancel_for.ensures.after))

pub returns-in-Gone-clause-changed : goal.returns-in-Gone-clause-changed
returns-in-Gone-clause-changed c =
    rw c.in-Gone.is (ap (λ count. nat_lt 0 count) c.lose.ensures.ended ∙ sym (any-counted (is_owned_by c.in-Gone.owner) (persistent_of c.args.self.now.lasting).leases))

pub returns-in-Enrol-clause-places : goal.returns-in-Enrol-clause-places
returns-in-Enrol-clause-places c = λ plant places.
    let m = c.args.self.now in
    let others = c.process_for.ensures.others in
    keeps-places plant m _ places (ap (λ (m : Machine). m.marks.drivers) others) (ap (λ (m : Machine). vec_capacity m.attached) others)
    (ap (λ (m : Machine). m.lasting.holdings.points) others) (subst (λ (after : Machine). IsKept after.lasting) (sym others) (kept-aside m.lasting _ _ places.rows))
    (ap (λ (m : Machine). vec_capacity m.told) others)

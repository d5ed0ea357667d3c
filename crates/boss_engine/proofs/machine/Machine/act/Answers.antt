use Rattle.std.proofs.Common.{refl, FitsSigned, w64, rules}
use Rattle.std.proofs.lemmas.Int.{to_z-of_z}
use Rattle.boss_engine.proofs.machine.Machine.act.Goals as goal

pub returns-in-Renew-clause-answer : goal.returns-in-Renew-clause-answer
returns-in-Renew-clause-answer c =
    let fits : FitsSigned w64 c.in-Renew.length = search rules in
    rw (c.in-Renew.is, ← c.slice.ensures) (simp to_z-of_z at (c.renew.ensures.answer c.args.plant.now))

pub returns-in-Renew-clause-state : goal.returns-in-Renew-clause-state
returns-in-Renew-clause-state c =
    let fits : FitsSigned w64 c.in-Renew.length = search rules in
    rw (c.in-Renew.is, ← c.slice.ensures) (simp to_z-of_z at (c.renew.ensures.state c.args.plant.now))

pub returns-in-Cancel-clause-answer : goal.returns-in-Cancel-clause-answer
returns-in-Cancel-clause-answer c = rw c.in-Cancel.is (c.cancel.ensures.answer c.args.plant.now)

pub returns-in-Cancel-clause-state : goal.returns-in-Cancel-clause-state
returns-in-Cancel-clause-state c = rw c.in-Cancel.is (c.cancel.ensures.state c.args.plant.now)

pub returns-in-Gone-clause-answer : goal.returns-in-Gone-clause-answer
returns-in-Gone-clause-answer c = rw c.in-Gone.is (c.gone.ensures.answer c.args.plant.now)

pub returns-in-Gone-clause-state : goal.returns-in-Gone-clause-state
returns-in-Gone-clause-state c = rw c.in-Gone.is (c.gone.ensures.state c.args.plant.now)

pub returns-in-Next-clause-answer : goal.returns-in-Next-clause-answer
returns-in-Next-clause-answer c = rw c.in-Next.is (c.next.ensures.answer c.args.plant.now c.args.session c.args.n c.requires.can_run.places)

pub returns-in-Next-clause-state : goal.returns-in-Next-clause-state
returns-in-Next-clause-state c = rw c.in-Next.is (c.next.ensures.state c.args.plant.now c.args.session c.args.n c.requires.can_run.places)

pub returns-in-Report-clause-answer : goal.returns-in-Report-clause-answer
returns-in-Report-clause-answer c = rw c.in-Report.is (c.report.ensures.answer c.args.plant.now c.args.session c.requires.can_run.places)

pub returns-in-Report-clause-state : goal.returns-in-Report-clause-state
returns-in-Report-clause-state c = rw c.in-Report.is (c.report.ensures.state c.args.plant.now c.args.session c.requires.can_run.places)

pub returns-in-Doubt-clause-answer : goal.returns-in-Doubt-clause-answer
returns-in-Doubt-clause-answer c = rw c.in-Doubt.is (c.doubt.ensures.answer c.args.plant.now c.args.session c.args.n)

pub returns-in-Doubt-clause-state : goal.returns-in-Doubt-clause-state
returns-in-Doubt-clause-state c = rw c.in-Doubt.is (c.doubt.ensures.state c.args.plant.now c.args.session c.args.n)

pub returns-in-Read-clause-answer : goal.returns-in-Read-clause-answer
returns-in-Read-clause-answer c = rw c.in-Read.is (c.read.ensures.answer c.args.session c.args.n)

pub returns-in-Array-clause-answer : goal.returns-in-Array-clause-answer
returns-in-Array-clause-answer c = rw c.in-Array.is refl

pub returns-in-Cancel-clause-changed : goal.returns-in-Cancel-clause-changed
returns-in-Cancel-clause-changed c = rw c.in-Cancel.is (c.cancel.ensures.changed c.args.plant.now)

pub returns-in-Gone-clause-changed : goal.returns-in-Gone-clause-changed
returns-in-Gone-clause-changed c = rw c.in-Gone.is (c.gone.ensures.changed c.args.plant.now)

pub returns-in-Renew-clause-changed : goal.returns-in-Renew-clause-changed
returns-in-Renew-clause-changed c =
    let fits : FitsSigned w64 c.in-Renew.length = search rules in
    rw (c.in-Renew.is, ← c.slice.ensures) (simp to_z-of_z at (c.renew.ensures.changed c.args.plant.now))

pub returns-in-Report-clause-changed : goal.returns-in-Report-clause-changed
returns-in-Report-clause-changed c = rw c.in-Report.is (c.report.ensures.changed c.args.plant.now c.args.session c.requires.can_run.places)

pub returns-in-Renew-clause-tellable : goal.returns-in-Renew-clause-tellable
returns-in-Renew-clause-tellable c = c.renew.ensures.tellable c.args.plant.now

pub returns-in-Cancel-clause-tellable : goal.returns-in-Cancel-clause-tellable
returns-in-Cancel-clause-tellable c = c.cancel.ensures.tellable c.args.plant.now

pub returns-in-Gone-clause-tellable : goal.returns-in-Gone-clause-tellable
returns-in-Gone-clause-tellable c = c.gone.ensures.tellable c.args.plant.now

pub returns-in-Next-clause-tellable : goal.returns-in-Next-clause-tellable
returns-in-Next-clause-tellable c = c.next.ensures.tellable c.args.plant.now

pub returns-in-Report-clause-tellable : goal.returns-in-Report-clause-tellable
returns-in-Report-clause-tellable c = c.report.ensures.tellable c.args.plant.now

pub returns-in-Doubt-clause-tellable : goal.returns-in-Doubt-clause-tellable
returns-in-Doubt-clause-tellable c = c.doubt.ensures.tellable c.args.plant.now

pub returns-in-Read-clause-tellable : goal.returns-in-Read-clause-tellable
returns-in-Read-clause-tellable c = c.read.ensures.tellable c.args.plant.now

pub returns-in-Renew-clause-owner : goal.returns-in-Renew-clause-owner
returns-in-Renew-clause-owner c = rw c.in-Renew.is c.renew.ensures.owner

pub returns-in-Cancel-clause-owner : goal.returns-in-Cancel-clause-owner
returns-in-Cancel-clause-owner c = rw c.in-Cancel.is c.cancel.ensures.owner

pub returns-in-Gone-clause-owner : goal.returns-in-Gone-clause-owner
returns-in-Gone-clause-owner c = rw c.in-Gone.is c.gone.ensures.owner

pub returns-in-Report-clause-owner : goal.returns-in-Report-clause-owner
returns-in-Report-clause-owner c = rw c.in-Report.is (c.report.ensures.owner c.args.session)

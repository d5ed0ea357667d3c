use Rattle.std.proofs.Common.{Some, None, sym, ap, ◌∙◌}
use Rattle.boss_persistent.specs.Lasting.{persistent_of}
use Rattle.boss_engine.proofs.Waiting.{next-is}
use Rattle.boss_engine.proofs.machine.Machine.next.Goals as goal

pub returns-in-Some-clause-answer : goal.returns-in-Some-clause-answer
returns-in-Some-clause-answer c = λ plant session n places.
    let m = c.args.self.now in
    let is = next-is plant (persistent_of m.lasting) m.attached.items m.marks (sym places.drivers) c.args.driver (Some c.in-Some.want) c.next.new.self (sym c.in-Some.is ∙ c.next.ensures.want) c.next.ensures.after in
    sym (ap (λ r. r.answer) is)

pub returns-in-Some-clause-state : goal.returns-in-Some-clause-state
returns-in-Some-clause-state c = λ plant session n places.
    let m = c.args.self.now in
    let is = next-is plant (persistent_of m.lasting) m.attached.items m.marks (sym places.drivers) c.args.driver c.next.result c.next.new.self c.next.ensures.want c.next.ensures.after in
    sym (ap (λ r. r.state) is)

pub returns-in-None-clause-answer : goal.returns-in-None-clause-answer
returns-in-None-clause-answer c = λ plant session n places.
    let m = c.args.self.now in
    let is = next-is plant (persistent_of m.lasting) m.attached.items m.marks (sym places.drivers) c.args.driver None c.next.new.self (sym c.in-None.is ∙ c.next.ensures.want) c.next.ensures.after in
    sym (ap (λ r. r.answer) is)

pub returns-in-None-clause-state : goal.returns-in-None-clause-state
returns-in-None-clause-state c = λ plant session n places.
    let m = c.args.self.now in
    let is = next-is plant (persistent_of m.lasting) m.attached.items m.marks (sym places.drivers) c.args.driver c.next.result c.next.new.self c.next.ensures.want c.next.ensures.after in
    sym (ap (λ r. r.state) is)

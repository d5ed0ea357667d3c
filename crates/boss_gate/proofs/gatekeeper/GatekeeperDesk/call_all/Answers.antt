use Rattle.std.proofs.Common.{◌≡◌, ℕ, List, [], ◌∷◌, length, None, Some, refl, sym, ap, ◌∙◌, subst, arith, length-append}
use Rattle.std.specs.List.{AllByRecursion}
use Rattle.boss_gate.specs.Gates.{gate_of}
use Rattle.boss_model.specs.declared.answer.Answer.{Answer}
use Rattle.boss_model.specs.declared.command.Command.{Command}
use Rattle.boss_model.specs.Tellable.{IsTellable}
use Rattle.boss_shared.specs.Gates.{all_held_by, denial_of, denied_to, AllowedAll, Holding}
use Rattle.boss_gate.specs.Whole.{goes_whole}
use Rattle.boss_gate.proofs.OneByOne.{all_more, allowed_more, allowed_none, batch_ends, judged_all, judged_at, rest_fits, so_far_more, so_far_none, undone_holds, IsNext, SoFar}
use Rattle.boss_gate.proofs.WholeBatches.{whole_allowed, whole_judged}
use Rattle.boss_gate.proofs.gatekeeper.GatekeeperDesk.call_all.Goals as goal

pub loop-asked-init : goal.loop-asked-init
loop-asked-init g c =
    let nil = c.clear.ensures.items in record {
      own = c.requires.own.0;
      parts = refl;
      so_far = so_far_none _ _ _ _ _ _ _ nil (g.met.G.Desk.owned c.args.self.now.inner c.args.pass.now.inner c.requires.own.0).legal;
      whole = λ less. absurd (omega arith);
      allowed = allowed_none (gate_of c.args.self.now.rules c.args.self.now.catalogue.now.points ∷ g.G.Desk.denies c.args.self.now.inner) c.args.session c.args.commands.now _
          (c.args.pass.now.held ∷ g.G.Desk.held c.args.pass.now.inner) (c.args.pass.now.held ∷ g.G.Desk.held c.args.pass.now.inner) nil refl;
      told = λ catalogue is. subst (AllByRecursion (IsTellable catalogue)) (sym nil) tt;
      many = ap length nil;
      number = refl;
      room = c.clear.ensures.capacity;
    }

pub returns-then-goes_whole-clause-allowed : goal.returns-then-goes_whole-clause-allowed
returns-then-goes_whole-clause-allowed g c =
    let gate = gate_of c.args.self.now.rules c.args.self.now.catalogue.now.points in
    let whole = ap (goes_whole gate c.args.pass.now.held c.args.session) (sym c.slice-calls.ensures) ∙ sym c.goes_whole.ensures ∙ c.if-goes_whole.true in
    whole_allowed gate c.args.pass.now.held (g.G.Desk.denies c.args.self.now.inner) c.args.session c.args.commands.now _ _ _ whole c.call_all.ensures.allowed

pub returns-then-goes_whole-clause-gate : goal.returns-then-goes_whole-clause-gate
returns-then-goes_whole-clause-gate g c =
    let gate = gate_of c.args.self.now.rules c.args.self.now.catalogue.now.points in
    let whole = ap (goes_whole gate c.args.pass.now.held c.args.session) (sym c.slice-calls.ensures) ∙ sym c.goes_whole.ensures ∙ c.if-goes_whole.true in
    whole_judged gate c.args.pass.now.held (g.G.Desk.denies c.args.self.now.inner) c.args.session c.args.commands.now c.call_all.result.done c.call_all.result.rest _ whole c.call_all.ensures.gate

pub returns-clause-gate : goal.returns-clause-gate
returns-clause-gate g c =
    let many = ap length c.slice-calls.ensures in
    let number : c.loop-asked.done ≡ c.loop-asked.asked-index = c.loop-asked.invariant.number in
    judged_all (gate_of c.args.self.now.rules c.args.self.now.catalogue.now.points ∷ g.G.Desk.denies c.args.self.now.inner) c.args.session
    (c.loop-asked.pass.held ∷ g.G.Desk.held c.loop-asked.pass.inner) c.args.commands.now c.loop-asked.done None (omega arith)

pub returns-in_default-clause-batch : goal.returns-in_default-clause-batch
returns-in_default-clause-batch g c =
    batch_ends _ _ _ _ _ _ _ _ _ _ _ c.loop-asked.invariant.so_far c.asked-item.result.0 c.asked-item.result.1 c.call.result
    (λ given is. c.in_default.not-Done given is) c.call.ensures.turn c.call.ensures.failed

pub returns-in_default-clause-allowed : goal.returns-in_default-clause-allowed
returns-in_default-clause-allowed g c =
    let gates = gate_of c.args.self.now.rules c.args.self.now.catalogue.now.points ∷ g.G.Desk.denies c.args.self.now.inner in
    let first : List Holding = c.args.pass.now.held ∷ g.G.Desk.held c.args.pass.now.inner in
    let same = c.call.ensures.held ∙ undone_holds c.args.session c.asked-item.result.0 c.call.result _ (λ given is. c.in_default.not-Done given is) in
    subst (λ (held : List Holding). AllowedAll gates c.args.session c.args.commands.now c.loop-asked.answers.items first held) (sym same) c.loop-asked.invariant.allowed

pub returns-in_default-clause-gate : goal.returns-in_default-clause-gate
returns-in_default-clause-gate g c =
    let gates = gate_of c.args.self.now.rules c.args.self.now.catalogue.now.points ∷ g.G.Desk.denies c.args.self.now.inner in
    let held : List Holding = c.call.new.pass.held ∷ g.G.Desk.held c.call.new.pass.inner in
    let same = c.call.ensures.held ∙ undone_holds c.args.session c.asked-item.result.0 c.call.result _ (λ given is. c.in_default.not-Done given is) in
    let here = subst (λ (calls : List (Command × ℕ)). IsNext calls c.loop-asked.asked-index c.asked-item.result) c.slice-calls.ensures
    (record { within = c.loop-asked-test.true; here = c.asked-item.is }) in
    let next = subst (λ (n : ℕ). IsNext c.args.commands.now n c.asked-item.result) (sym c.loop-asked.invariant.number) here in
    judged_at gates c.args.session held c.args.commands.now c.loop-asked.done c.asked-item.result (Some c.call.result) next
    (subst (λ (hs : List Holding). denial_of c.call.result ≡ denied_to gates hs c.args.session c.asked-item.result.0) (sym same) c.call.ensures.gate)

pub returns-in_default-clause-rest : goal.returns-in_default-clause-rest
returns-in_default-clause-rest g c =
    let here = subst (λ (calls : List (Command × ℕ)). IsNext calls c.loop-asked.asked-index c.asked-item.result) c.slice-calls.ensures
    (record { within = c.loop-asked-test.true; here = c.asked-item.is }) in
    let next = subst (λ (n : ℕ). IsNext c.args.commands.now n c.asked-item.result) (sym c.loop-asked.invariant.number) here in
    rest_fits c.args.commands.now c.loop-asked.done c.asked-item.result c.call.result next (λ given is. c.in_default.not-Done given is) c.call.ensures.memory

pub loop-asked-preserved : goal.loop-asked-preserved
loop-asked-preserved g c =
    let so = c.loop-asked.invariant in
    let did = c.in-Done.ensures in
    let given = c.in-Done.answer in
    let asked = c.asked-item.result in
    let answers = c.loop-asked.answers.items in
    let gates = gate_of c.args.self.now.rules c.args.self.now.catalogue.now.points ∷ g.G.Desk.denies c.args.self.now.inner in
    let first : List Holding = c.args.pass.now.held ∷ g.G.Desk.held c.args.pass.now.inner in
    let before : List Holding = c.loop-asked.pass.held ∷ g.G.Desk.held c.loop-asked.pass.inner in
    let put = c.push_reserved.ensures.items in
    let here = subst (λ (calls : List (Command × ℕ)). IsNext calls c.loop-asked.asked-index asked) c.slice-calls.ensures
    (record { within = c.loop-asked-test.true; here = c.asked-item.is }) in
    let next = subst (λ (n : ℕ). IsNext c.args.commands.now n asked) (sym so.many) here in
    let many : length answers ≡ c.loop-asked.asked-index = so.many in
    let number : c.loop-asked.done ≡ c.loop-asked.asked-index = so.number in
    let longer = length-append answers (given ∷ []) in
    let sized = ap length put in
    record {
      own = did.own.0;
      parts = did.parts ∙ so.parts;
      so_far = subst (SoFar (g.G.Desk.plant c.args.self.now.inner) (g.G.Desk.opening c.args.self.now.inner) (g.G.Desk.seen c.args.pass.now.inner) (g.G.Desk.mine c.args.pass.now.inner)
          c.args.session c.args.commands.now (g.G.Desk.seen c.call.new.pass.inner) (g.G.Desk.mine c.call.new.pass.inner)) (sym put)
          (so_far_more _ _ _ _ _ _ _ _ _ _ _ so.so_far asked given next did.turn did.failed);
      whole = λ _. did.failed;
      allowed = subst (λ (held : List Holding). AllowedAll gates c.args.session c.args.commands.now c.push_reserved.new.self.items first held) (sym did.held)
          (subst (λ (given : List Answer). AllowedAll gates c.args.session c.args.commands.now given first (all_held_by c.args.session asked.0 c.in-Done.answer before)) (sym put)
          (allowed_more gates c.args.session c.args.commands.now answers first before asked given next so.allowed (sym did.gate)));
      told = λ catalogue is. subst (AllByRecursion (IsTellable catalogue)) (sym put) (all_more (IsTellable catalogue) answers given (so.told catalogue is) (did.told catalogue is));
      many = omega arith;
      number = omega arith;
      room = c.push_reserved.ensures.capacity ∙ so.room;
    }

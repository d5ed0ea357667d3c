use Rattle.std.proofs.Common.{◌≡◌, ◌<◌, false, ◌∷◌, length, vec_capacity}
use Rattle.std.specs.List.{AllByRecursion}
use Rattle.boss_gate.specs.Gates.{gate_of}
use Rattle.boss_model.specs.Catalogue.{actuators, Catalogue}
use Rattle.boss_model.specs.Tellable.{IsTellable}
use Rattle.boss_shared.specs.Gates.{AllowedAll}
use Rattle.boss_gate.proofs.OneByOne.{SoFar}
use Rattle.boss_gate.proofs.gatekeeper.GatekeeperDesk.call_all.Given as goal
use Rattle.def_history.specs.History.{is_broken}

-- as many answers as commands that were done, each judged at its place
abbrev pub invariant-loop-asked : goal.invariant-loop-asked
invariant-loop-asked g l = record {
  own : g.G.Desk.owns l.self.inner l.pass.inner;
  parts : g.G.Desk.parts l.pass.inner ≡ g.G.Desk.parts l.fn.pass.inner;
  so_far : SoFar (g.G.Desk.plant l.self.inner) (g.G.Desk.opening l.self.inner) (g.G.Desk.seen l.fn.pass.inner) (g.G.Desk.mine l.fn.pass.inner)
      l.session l.commands (g.G.Desk.seen l.pass.inner) (g.G.Desk.mine l.pass.inner) l.answers.items;
  -- at the first command the pass may have seen the mark
  whole : 0 < l.asked-index → is_broken (g.G.Desk.seen l.pass.inner) ≡ false;
  allowed : AllowedAll (gate_of l.self.rules l.self.catalogue.now.points ∷ g.G.Desk.denies l.self.inner) l.session l.commands l.answers.items
      (l.fn.pass.held ∷ g.G.Desk.held l.fn.pass.inner) (l.pass.held ∷ g.G.Desk.held l.pass.inner);
  told : (catalogue : Catalogue) → actuators catalogue ≡ g.G.Desk.plant l.self.inner → AllByRecursion (IsTellable catalogue) l.answers.items;
  many : length l.answers.items ≡ l.asked-index;
  number : l.done ≡ l.asked-index;
  room : vec_capacity l.answers ≡ vec_capacity l.fn.answers;
}

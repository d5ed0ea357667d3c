use Rattle.std.proofs.Common.{◌≡◌, ℕ, ◌-◌, ◌≤◌, List, ◌++◌, length, take}
use Rattle.boss_modbus.proofs.response.fill.Given as goal

abbrev pub invariant-loop-count : goal.invariant-loop-count
invariant-loop-count g l = record {
  counted : l.count ≡ length l.response.items;
  within : l.count ≤ l.wanted;
  received : g.L.Link.tells → (before : List ℕ) → g.L.Link.received l.initial.link ≡ before ++ l.initial.response.items
      → g.L.Link.received l.link ≡ before ++ l.response.items;
  front : take (length l.initial.response.items) l.response.items ≡ l.initial.response.items;
  sent : g.L.Link.tells → g.L.Link.sent l.link ≡ g.L.Link.sent l.initial.link;
  hosts : g.L.Link.tells → g.L.Link.hosts l.link ≡ g.L.Link.hosts l.initial.link;
  faults : g.L.Link.faults l.link ≡ g.L.Link.faults l.initial.link;
}

abbrev pub decreases-loop-count : goal.decreases-loop-count
decreases-loop-count g l = l.wanted - l.count

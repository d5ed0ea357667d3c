use Rattle.std.proofs.Common.{◌≡◌, ◌-◌, length}
use Rattle.boss_http.specs.Hearing.{Holds}
use Rattle.boss_http.proofs.hearing.hear_head.Given as goal

abbrev pub invariant-loop-link : goal.invariant-loop-link
invariant-loop-link g l = record {
  received : Holds g.L.Link l.initial.link l.link l.initial.bytes.items l.bytes.items;
  sent : g.L.Link.tells → g.L.Link.sent l.link ≡ g.L.Link.sent l.initial.link;
  hosts : g.L.Link.tells → g.L.Link.hosts l.link ≡ g.L.Link.hosts l.initial.link;
}

abbrev pub decreases-loop-link : goal.decreases-loop-link
decreases-loop-link g l = 16384 - length l.bytes.items

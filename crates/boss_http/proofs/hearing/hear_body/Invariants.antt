use Rattle.std.proofs.Common.{◌≡◌, ◌+◌, ◌*◌, ◌-◌, ◌≤◌, length, take, drop}
use Rattle.boss_http.specs.Hearing.{Holds}
use Rattle.boss_http.specs.Turns.{Follows}
use Rattle.boss_http.proofs.hearing.hear_body.Given as goal

abbrev pub invariant-loop-bytes : goal.invariant-loop-bytes
invariant-loop-bytes g l = record {
  received : Holds g.L.Link l.initial.link l.link l.initial.bytes.items l.bytes.items;
  kept : take (length l.initial.bytes.items) l.bytes.items ≡ l.initial.bytes.items;
  sent : g.L.Link.tells → g.L.Link.sent l.link ≡ g.L.Link.sent l.initial.link;
  hosts : g.L.Link.tells → g.L.Link.hosts l.link ≡ g.L.Link.hosts l.initial.link;
  within : l.at ≤ length l.bytes.items;
  begun : l.initial.start ≤ length l.bytes.items;
  follows : Follows l.initial.decoder (drop l.initial.start l.bytes.items) l.decoder (drop l.at l.bytes.items) l.content.items;
}

abbrev pub decreases-loop-bytes : goal.decreases-loop-bytes
decreases-loop-bytes g l = 2 * (2097152 - length l.bytes.items) + (length l.bytes.items - l.at)

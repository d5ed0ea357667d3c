use Rattle.std.proofs.Common.{ap, arith, List, ℕ}
use Rattle.boss_model.specs.State.{Persistent}
use Rattle.boss_model.specs.Seen.{seen}
use Rattle.boss_snapshot.proofs.Whole.{spelled_so, same_state, no_state, no_bytes, some_bytes}
use Rattle.boss_snapshot.proofs.state.read_kept.Goals as goal

pub returns-then-is_empty-clause-found : goal.returns-then-is_empty-clause-found
returns-then-is_empty-clause-found c =
    spelled_so c.args.version c.args.bytes.now c.in-Ok.rest.now (seen c.in-Ok.kept) (λ i. omega (arith, c.type_inv.bytes i)) c.in-Ok.ensures
    (no_bytes c.in-Ok.rest.now _ c.is_empty.ensures c.if-is_empty.true)

pub returns-then-is_empty-clause-only : goal.returns-then-is_empty-clause-only
returns-then-is_empty-clause-only c d spells =
    ap (λ (p : Persistent × List ℕ). p.0) (same_state c.args.version c.args.bytes.now c.in-Ok.rest.now (seen c.in-Ok.kept) d c.in-Ok.ensures spells)

pub returns-else-is_empty-clause-only : goal.returns-else-is_empty-clause-only
returns-else-is_empty-clause-only c d spells =
    some_bytes c.in-Ok.rest.now _ c.is_empty.ensures c.if-is_empty.false
    (ap (λ (p : Persistent × List ℕ). p.1) (same_state c.args.version c.args.bytes.now c.in-Ok.rest.now (seen c.in-Ok.kept) d c.in-Ok.ensures spells))

pub returns-in-Err-NoSpelling-clause-only : goal.returns-in-Err-NoSpelling-clause-only
returns-in-Err-NoSpelling-clause-only c d spells =
    no_state c.args.version c.args.bytes.now d (rw c.in-Err-NoSpelling.field-0-is at c.in-Err-NoSpelling.ensures) spells

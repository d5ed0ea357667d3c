use Rattle.std.proofs.Common.{arith}
use Rattle.boss_records.proofs.Whole.{no_longer, spelled_so, read_again, nothing_else}
use Rattle.boss_records.proofs.reading.read_event.Goals as goal

pub overflow_sub-result : goal.overflow_sub-result
overflow_sub-result c = no_longer c.args.bytes.now c.in-Ok.rest.now c.in-Ok.event (λ i. omega (arith, c.type_inv.bytes i)) c.in-Ok.ensures

pub returns-in-Ok-clause-found : goal.returns-in-Ok-clause-found
returns-in-Ok-clause-found c = spelled_so c.args.bytes.now c.in-Ok.rest.now c.in-Ok.event (λ i. omega (arith, c.type_inv.bytes i)) c.in-Ok.ensures

pub returns-in-Ok-clause-only : goal.returns-in-Ok-clause-only
returns-in-Ok-clause-only c e rest fits is =
    read_again c.args.bytes.now c.in-Ok.rest.now c.in-Ok.event (λ i. omega (arith, c.type_inv.bytes i)) c.in-Ok.ensures e rest fits is

pub returns-in-Err-NoSpelling-clause-only : goal.returns-in-Err-NoSpelling-clause-only
returns-in-Err-NoSpelling-clause-only c e rest fits is = absurd (nothing_else c.args.bytes.now (rw c.in-Err-NoSpelling.field-0-is at c.in-Err-NoSpelling.ensures) e rest fits is)

use Rattle.def_bytes.proofs.Exact.{wide16, wide32, wide64, number-exact, byte-exact, both-exact, only-exact, made-exact, counted-exact, tagged-exact}
use Rattle.std.specs.Int.{w16, w32, w64}
use Rattle.def_bytes.proofs.field_laws.fields_are_exact.Goals as goal

pub returns-clause-numbers : goal.returns-clause-numbers
returns-clause-numbers g c = (number-exact w16 wide16, number-exact w32 wide32, number-exact w64 wide64, byte-exact)

pub returns-clause-both : goal.returns-clause-both
returns-clause-both g c f h first second = both-exact f h first second

pub returns-clause-only : goal.returns-clause-only
returns-clause-only g c test f exact = only-exact test f exact

pub returns-clause-made : goal.returns-clause-made
returns-clause-made g c parts made f undoes exact = made-exact parts made f undoes exact

pub returns-clause-counted : goal.returns-clause-counted
returns-clause-counted g c count limit f first exact = counted-exact f count limit first exact

pub returns-clause-tagged : goal.returns-clause-tagged
returns-clause-tagged g c v kinds = tagged-exact v kinds

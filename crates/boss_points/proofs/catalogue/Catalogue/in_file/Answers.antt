use Rattle.std.proofs.Common.{arith}
use Rattle.boss_points.proofs.catalogue.Catalogue.in_file.Goals as goal

pub invariant_of-result : goal.invariant_of-result
invariant_of-result c = record {
  few_drivers = omega (arith, c.in_ok-at_most.ensures.few, c.in_ok-drivers-2.ensures.few);
  few_points = omega (arith, c.in_ok-at_most-2.ensures.few, c.in_ok-names.ensures.few);
  named = c.in_ok-names.ensures.names;
  apart = c.in_ok-names.ensures.apart;
  whole = rw c.deref.ensures.value at c.in_ok-names.ensures.whole;
  digested = rw (c.deref-2.ensures.value, c.deref-3.ensures.value) at c.digest_of-digest.ensures;
}

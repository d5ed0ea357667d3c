use Rattle.std.proofs.Common.{◌≡◌, ◌≤◌, ℕ, nat_le, true, List, length, inl, inr, arith}
use Rattle.std.proofs.lemmas.Bool.{le-leb}
use Rattle.std.proofs.lemmas.Bool.Decides.{nat_tests}
use Rattle.def_disk_pair.specs.Pairs.{IsNew}
use Rattle.boss_disk_pair.proofs.Findings.{idle_new}
use Rattle.boss_pair_find.proofs.finding.is_new.Goals as goal

few : (bytes : List ℕ) → IsNew bytes → length bytes ≤ 42
few bytes (inl short) = omega (arith, short)
few bytes (inr zero) = zero.2

at_most : (n : ℕ) → nat_le n 42 ≡ true → n ≤ 42
at_most n is = grind (arith, nat_tests, is)

pub returns-clause-new : goal.returns-clause-new
returns-clause-new g c told =
    let bytes = g.D.Disk.reads c.args.disk.now in
    let size = c.in_ok-length.ensures.size told in (
      λ is. let small = at_most _ is in idle_new bytes (c.requires told) (omega (arith, size, small)),
      λ new. let small = few bytes new in le-leb _ _ (omega (arith, size, small)),
    )

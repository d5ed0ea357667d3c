use Rattle.std.proofs.Common.{arith, rules}
use Rattle.boss_disk.proofs.Kept.{kept_after_whole}
use Rattle.boss_disk.proofs.memory.MemoryDiskDisk.write_whole.Goals as goal

pub invariant_of-self-2 : goal.invariant_of-self-2
invariant_of-self-2 c =
    kept_after_whole _ _ _ c.args.bytes.now c.args.at _ _ _ _ c.overwrite.result c.self.invariant c.if-is_err-2.ensures.value c.overwrite.ensures.done
    (omega (arith, c.in-Some.ensures, c.if-end-gt-MOST.false)) (Prim.search rules) (Prim.search rules)

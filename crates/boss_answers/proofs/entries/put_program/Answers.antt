use Rattle.std.proofs.Common.{arith}
use Rattle.boss_model.specs.Limits.{program_version}
use Rattle.boss_answers.proofs.Puts.{puts, puts_both, puts_within}
use Rattle.boss_answers.proofs.entries.put_program.Goals as goal

pub returns : goal.returns
returns c =
    let version = puts {text = program_version} (rw c.as_bytes.ensures.value at c.extend-2.ensures) in
    let journal = rw c.from.ensures at c.write_number.ensures in
    puts_within (puts_both (puts_both (puts c.extend.ensures) version) journal) (omega arith)

use Rattle.boss_json.proofs.Lines.{value_in-refused}
use Rattle.boss_json.proofs.reader.ValueReader.read.Goals as goal

pub returns-in-Err : goal.returns-in-Err
returns-in-Err c = value_in-refused c.args.line.now (λ utf8. absurd (c.in-Err.ensures utf8))

use Rattle.std.proofs.Common.{◌≡◌, ◌++◌, ap, ◌∙◌, codes}
use Rattle.boss_load.specs.Day.{heading, submit_text, write_text}
use Rattle.boss_load.proofs.Ranges.{four}
use Rattle.boss_load.proofs.script.put_submit.Goals as goal

pub returns : goal.returns
unfolding submit_text
returns c =
    four c.args.script.now.items (heading c.args.number 1) (codes ",\"op\":\"submit\",\"writes\":[") (write_text c.args.seed c.args.number) (codes "]}\n")
    c.in_ok-put_heading.ensures c.in_ok-put.ensures c.in_ok-put_write.ensures c.in_ok-put-2.ensures

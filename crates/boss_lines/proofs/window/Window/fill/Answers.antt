use Rattle.std.proofs.Common.{rules, ◌+◌, take, drop, ◌∙◌, ap, arith}
use Rattle.std.proofs.lemmas.List.{with_items_is, length-drop}
use Rattle.boss_outside.specs.Streams.{count_of}
use Rattle.boss_lines.proofs.WindowLemmas.{held-read, Adds-read, append-read}
use Rattle.boss_lines.proofs.window.Window.fill.Goals as goal

pub returns : goal.returns
returns g c =
    let inside = c.self.inside in
    let moved = c.make_room-self-inside in
    let read = c.read_behind-got in
    let into = drop (moved.result + inside.count) read.new.bytes in
    let held = held-read c.args.self.now c.as_mut_slice-bytes.result.now moved.new.bytes read.new.bytes _
    inside.start moved.result inside.count c.count.result (count_of read.result)
    (ap (λ bytes. take inside.count (drop inside.start bytes)) c.as_mut_slice-bytes.ensures.value ∙ c.self.view_is)
    moved.ensures.kept read.ensures.before (with_items_is inside.bytes read.new.bytes (omega arith)) c.count.ensures in
    record {
      adds = Adds-read read.result _ _ _ into read.ensures.count (omega (arith, length-drop (moved.result + inside.count) read.new.bytes)) held;
      bytes = λ t. append-read read.result _ _ into _ _ (read.ensures.bytes t) held;
      finish = search rules;
      stays = search rules;
      noted = search rules;
      shown = search rules;
      cause = search rules;
    }

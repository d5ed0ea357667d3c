use Rattle.std.proofs.Common.{◌≡◌, ◌+◌, ◌-◌, length, take, drop, sym, ◌∙◌, ap, arith}
use Rattle.std.proofs.lemmas.List.{length-take}
use Rattle.boss_lines.proofs.WindowLemmas.{take-drop-add}
use Rattle.boss_lines.proofs.window.Window.consume.Goals as goal

pub returns : goal.returns
returns c =
    let inside = c.self.inside in
    let rest = inside.count - c.args.count in
    let all : inside.count ≡ c.args.count + rest = omega (arith, c.requires, ap length c.self.view_is, length-take inside.count (drop inside.start inside.bytes.items)) in
    take-drop-add inside.bytes.items inside.start c.args.count rest
    ∙ ap (drop c.args.count) (ap (λ n. take n (drop inside.start inside.bytes.items)) (sym all) ∙ c.self.view_is)

use Rattle.boss_lines.proofs.AtHand.{behind-is, leb-near, none-behind}
use Rattle.boss_lines.proofs.window.Window.ends_line_behind.Goals as goal

pub returns-in-Some : goal.returns-in-Some
returns-in-Some c =
    leb-near _ _ c.in-Some.place (behind-is c.bytes.result.now c.args.self.now c.args.count c.bytes.ensures) c.in-Some.ensures.found.0 c.in-Some.ensures.found.1 c.in-Some.ensures.found.2

pub returns-in-None : goal.returns-in-None
returns-in-None c = none-behind _ _ (behind-is c.bytes.result.now c.args.self.now c.args.count c.bytes.ensures) c.in-None.ensures.none

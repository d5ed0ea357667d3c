use Rattle.std.proofs.Common.{true, false, refl, sym, ◌∙◌, arith}
use Rattle.boss_json.specs.Trees.{tree_json}
use Rattle.boss_json.proofs.Members.{last_of}
use Rattle.boss_json.proofs.member.bytes_under.Goals as goal

pub returns-then-is_key : goal.returns-then-is_key
returns-then-is_key c =
    sym (c.loop-left.invariant.0 ∙ last_of tree_json c.args.key.now c.args.members.now c.loop-left.left _ _ true c.loop-left-test.true c.loop-left.invariant.1 refl (sym c.is_key.ensures ∙ c.if-is_key.true))

pub loop-left-preserved : goal.loop-left-preserved
loop-left-preserved c =
    (c.loop-left.invariant.0 ∙ last_of tree_json c.args.key.now c.args.members.now c.loop-left.left _ _ false c.loop-left-test.true c.loop-left.invariant.1 refl (sym c.is_key.ensures ∙ c.if-is_key.false), omega arith)

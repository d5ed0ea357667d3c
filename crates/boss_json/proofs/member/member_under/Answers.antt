use Rattle.std.proofs.Common.{◌≡◌, bytes_eq, true, false, sym, ap₂, ◌∙◌, arith}
use Rattle.json.specs.Value.{value_view}
use Rattle.boss_json.proofs.Members.{last_of}
use Rattle.boss_json.proofs.member.member_under.Goals as goal

pub returns-then-is_key : goal.returns-then-is_key
returns-then-is_key c =
    let same : bytes_eq c.index-member.result.now.0.now c.args.key.now ≡ true = ap₂ bytes_eq (sym c.as_bytes.ensures.value) (sym c.as_bytes-in-loop-left.ensures.value) ∙ sym c.is_key.ensures ∙ c.if-is_key.true in
    sym (c.loop-left.invariant.0 ∙ last_of value_view c.args.key.now c.args.members.now.items c.loop-left.left _ c.index-member.result.now true c.loop-left-test.true c.loop-left.invariant.1 c.index-member.ensures same)

pub loop-left-preserved : goal.loop-left-preserved
loop-left-preserved c =
    let other : bytes_eq c.index-member.result.now.0.now c.args.key.now ≡ false = ap₂ bytes_eq (sym c.as_bytes.ensures.value) (sym c.as_bytes-in-loop-left.ensures.value) ∙ sym c.is_key.ensures ∙ c.if-is_key.false in
    (c.loop-left.invariant.0 ∙ last_of value_view c.args.key.now c.args.members.now.items c.loop-left.left _ c.index-member.result.now false c.loop-left-test.true c.loop-left.invariant.1 c.index-member.ensures other, omega arith)

use Rattle.std.proofs.Common.{string_bytes, rules}
use Rattle.boss_etcd.proofs.Texts.{on_ok, head_range_chain}
use Rattle.boss_etcd.proofs.range.put_head_range.Goals as goal

pub returns : goal.returns
returns c =
    on_ok c.push-2.result
    (λ last.
    head_range_chain (string_bytes c.args.text.now) (string_bytes c.push.new.text) (string_bytes c.put_encoded.new.text) (string_bytes c.push-2.new.text)
    c.args.name.now c.in_ok-push.ensures (Prim.search rules) last)
    c.push-2.ensures

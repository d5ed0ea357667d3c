use Rattle.std.proofs.Common.{string_bytes, rules}
use Rattle.boss_etcd.proofs.Texts.{on_ok, keys_chain}
use Rattle.boss_etcd.proofs.range.put_keys.Goals as goal

pub returns : goal.returns
returns c =
    on_ok c.put_encoded-2.result
    (λ last.
    keys_chain (string_bytes c.args.text.now) (string_bytes c.push.new.text) (string_bytes c.put_encoded.new.text) (string_bytes c.push-2.new.text)
    (string_bytes c.put_encoded-2.new.text) c.args.name.now c.args.page c.in_ok-push.ensures (Prim.search rules) c.in_ok-push-2.ensures (Prim.search rules))
    c.put_encoded-2.ensures

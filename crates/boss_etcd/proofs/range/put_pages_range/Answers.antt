use Rattle.std.proofs.Common.{string_bytes}
use Rattle.boss_etcd.proofs.Texts.{on_ok, pages_range_chain}
use Rattle.boss_etcd.proofs.range.put_pages_range.Goals as goal

pub returns : goal.returns
returns c =
    on_ok c.push-3.result
    (λ last.
    pages_range_chain (string_bytes c.args.text.now) (string_bytes c.put_keys.new.text) (string_bytes c.push.new.text) (string_bytes c.push-2.new.text)
    (string_bytes c.push-3.new.text) c.args.name.now c.args.revision.now c.args.page c.in_ok-put_keys.ensures c.in_ok-push.ensures c.in_ok-push-2.ensures last)
    c.push-3.ensures

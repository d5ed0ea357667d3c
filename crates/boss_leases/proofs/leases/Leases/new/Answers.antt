use Rattle.std.proofs.Common.{◌≡◌, None, replicate, rules}
use Rattle.boss_leases.proofs.Kept.{seen-none}
use Rattle.boss_leases.proofs.leases.Leases.new.Goals as goal

pub returns : goal.returns
returns c =
    let items : c.in_ok-vec.field-0.items ≡ replicate c.args.capacity None = c.in_ok-vec.ensures.items_if_clones_equal (λ y same. search rules) in
    rw items (seen-none c.in_ok-with_capacity.field-0 c.args.capacity)

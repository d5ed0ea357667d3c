use Rattle.std.proofs.Common.{◌≡◌, ◌<◌, length, ap, ◌∙◌, arith}
use Rattle.boss_persistent.specs.Processes.{processes_of}
use Rattle.boss_persistent.proofs.Side.{length-processes_of, told-there}
use Rattle.boss_persistent.proofs.processes.Processes.tell.Goals as goal

pub post-requires : goal.post-requires
post-requires c =
    let all : length c.args.self.now ≡ length c.self.inside.entries.items = rw (← c.self.view_is) (length-processes_of c.self.inside.entries.items c.self.inside.rings c.self.invariant.0) in
    let owner : c.happening.inside.owner ≡ c.args.happening.now.owner = ap (λ h. h.owner) c.happening.view_is in
    omega arith

pub returns : goal.returns
returns c =
    let all : length c.args.self.now ≡ length c.self.inside.entries.items = rw (← c.self.view_is) (length-processes_of c.self.inside.entries.items c.self.inside.rings c.self.invariant.0) in
    let owner : c.happening.inside.owner ≡ c.args.happening.now.owner = ap (λ h. h.owner) c.happening.view_is in
    let inside : c.happening.inside.owner < length c.self.inside.entries.items = omega arith in
    rw (← c.self.view_is, ← c.happening.view_is)
    (ap (processes_of c.self.inside.entries.items) c.post.ensures
    ∙ told-there c.self.inside.entries.items c.self.inside.rings c.happening.inside.owner c.happening.inside.at c.happening.inside.txn c.happening.inside.what c.self.invariant.0 inside)

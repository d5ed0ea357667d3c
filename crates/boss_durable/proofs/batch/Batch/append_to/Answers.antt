use Rattle.std.proofs.Common.{◌≡◌, ℕ, ◌+◌, length, sym, ap, ◌∙◌, subst, arith}
use Rattle.def_history.specs.History.{events}
use Rattle.boss_model.specs.State.{Persistent}
use Rattle.boss_snapshot.proofs.Whole as whole
use Rattle.boss_disk_pair.specs.Rests.{rests, passes}
use Rattle.boss_disk_pair.proofs.Words.{rests_passes}
use Rattle.boss_durable.proofs.Takings.{taken_nothing}
use Rattle.boss_durable.proofs.batch.Batch.append_to.Goals as goal

pub returns-then-is_empty-clause-rests : goal.returns-then-is_empty-clause-rests
returns-then-is_empty-clause-rests g c plant made start now count at taken few =
    let none = sym c.bytes.ensures ∙ whole.no_bytes c.bytes.result.now _ c.is_empty.ensures c.if-is_empty.true in
    let nothing = taken_nothing plant made start now c.args.self.now taken none in
    let more : length (events plant made start) ≡ 0 = ap length nothing.0 in
    let same : count ≡ count + length (events plant made start) = omega (arith, more) in
    subst (λ (q : Persistent × ℕ). rests c.args.disks.now plant q.0 q.1) (λ i. (nothing.1 i, same i)) at

pub returns-then-is_empty-clause-passes : goal.returns-then-is_empty-clause-passes
returns-then-is_empty-clause-passes g c plant made start now count at taken few =
    let none = sym c.bytes.ensures ∙ whole.no_bytes c.bytes.result.now _ c.is_empty.ensures c.if-is_empty.true in
    let nothing = taken_nothing plant made start now c.args.self.now taken none in
    subst (λ (d : Persistent). passes c.args.disks.now c.args.disks.now plant start.persistent d) nothing.1 (rests_passes c.args.disks.now plant start.persistent count at)

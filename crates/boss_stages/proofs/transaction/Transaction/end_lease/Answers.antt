use Rattle.std.proofs.Common.{◌≡◌, ◌+◌, [], ◌∷◌, length, map, length-append, ap, ◌∙◌, arith}
use Rattle.smallvec.specs.SmallVec.{with_items}
use Rattle.smallvec.proofs.SmallVecLemmas.{items-with_items}
use Rattle.std.proofs.lemmas.List.{length-map}
use Rattle.boss_stages.specs.Stages.{ended_on}
use Rattle.boss_stages.proofs.Parts.{live-ended_live}
use Rattle.boss_stages.proofs.transaction.Transaction.end_lease.Goals as goal
use Rattle.boss_stages.proofs.transaction.Transaction.end_lease.Goals.{then-reverts, else-reverts}

pub push_reserved-requires : goal.push_reserved-requires
push_reserved-requires c =
    let held = c.deref_mut-record.ensures.value in
    let live = rw (← c.self.view_is, ← held) at c.requires in
    let fits = rw (← held) at c.self.invariant in
    let fewer = live-ended_live c.args.point (record { cause = c.args.cause; at = c.args.at }) c.deref_mut-record.result.now.parts.items live in
    omega (arith, fewer, fits)

pub invariant_of-self : goal.invariant_of-self
invariant_of-self c =
    let ended = ended_on c.args.point (record { cause = c.args.cause; at = c.args.at }) in
    let held = c.deref_mut-record.ensures.value in
    let old = c.deref_mut-record.result.now in
    let live = rw (← c.self.view_is, ← held) at c.requires in
    let fits = rw (← held) at c.self.invariant in
    let fewer = live-ended_live c.args.point (record { cause = c.args.cause; at = c.args.at }) old.parts.items live in
    let parts : (with_items old.parts c.end_parts.new.parts).items ≡ map ended old.parts.items =
    items-with_items old.parts c.end_parts.new.parts (ap length c.end_parts.ensures ∙ (length-map c.deref_mut.result.now ended ∙ ap length c.deref_mut.ensures.value))
    ∙ (c.end_parts.ensures ∙ ap (map ended) c.deref_mut.ensures.value) in
    elim c.if-reverts.branch [
      | then-reverts w ↦
          let more : length w.push_reserved.new.self.items ≡ length old.reverting.items + 1 =
          ap length w.push_reserved.ensures.items ∙ length-append old.reverting.items (c.point.inside.0 ∷ []) in
          rw (w.self-inside-is, parts) (omega (arith, fewer, more, fits, w.push_reserved.ensures.capacity))
      | else-reverts w ↦ rw (w.self-inside-is, parts) (omega (arith, fewer, fits))
    ]

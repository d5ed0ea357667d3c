use Rattle.std.proofs.Common.{refl, sym, ◌∙◌, arith}
use Rattle.boss_persistent.specs.Lasting.{persistent_of}
use Rattle.law_records.proofs.Own.{live-count, own}
use Rattle.law_records.proofs.Reverting.{pending-by-points}
use Rattle.boss_persistent.proofs.queries.status_of.Goals as goal

pub name-requires : goal.name-requires
name-requires c =
    let t = c.args.transaction.now.transaction in
    omega (arith, c.owner.ensures, (own c.requires.sound.0 (persistent_of c.args.lasting.now) c.requires.sound.2 t.txn t c.requires.found).owner)

pub returns : goal.returns
returns c =
    let t = c.args.transaction.now.transaction in
    let d = persistent_of c.args.lasting.now in
    let live = c.live_parts-live.ensures ∙ sym (live-count c.requires.sound.0 d c.requires.sound.2 t.txn t c.requires.found) in
    let pending = c.pending_parts-pending.ensures
    ∙ sym (pending-by-points c.requires.sound.0 d c.requires.sound.2 t.txn t c.requires.found c.args.transaction.now.reverting c.requires.reverting) in
    rw (c.stage_of.ensures, c.name.ensures, live, pending, c.owner.ensures, c.number.ensures) refl

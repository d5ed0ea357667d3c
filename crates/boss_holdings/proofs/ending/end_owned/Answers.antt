use Rattle.std.proofs.Common.{◌∙◌, arith}
use Rattle.boss_slots.proofs.Kept.{lease-key, within-of}
use Rattle.boss_holdings.proofs.ending.end_owned.Goals as goal

pub loop-key-preserved : goal.loop-key-preserved
loop-key-preserved c = record {
  orderly = c.end_if_owned.ensures.orderly c.args.tables.now c.args.told.now.items c.args.touched.now c.loop-key.invariant.orderly;
  gone = λ key lease less is. c.end_if_owned.ensures.gone key lease (omega arith) is c.loop-key.invariant.gone;
  keys = c.end_if_owned.ensures.keys ∙ c.loop-key.invariant.keys;
  room = c.end_if_owned.ensures.room ∙ c.loop-key.invariant.room;
}

pub returns-clause-gone : goal.returns-clause-gone
returns-clause-gone c p q lease is =
    let at = lease-key c.loop-key.tables p q lease is in
    let within = within-of c.loop-key.tables.leases at.0 lease at.2 in
    let keys = c.loop-key.invariant.keys in
    let all-keys = c.keys-key-end.ensures in
    let end = c.loop-key-test.false in
    c.loop-key.invariant.gone at.0 lease (omega arith) at.2

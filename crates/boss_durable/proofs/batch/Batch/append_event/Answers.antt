use Rattle.std.proofs.Common.{[], ◌∷◌, refl, ap, ◌∙◌, arith}
use Rattle.boss_durable.specs.declared.batch.Batch.{Batch}
use Rattle.boss_durable.proofs.Alone.{alone_leads, alone_long, alone_short, alone_text}
use Rattle.boss_durable.proofs.batch.Batch.append_event.Goals as goal

pub append-requires-clause-some : goal.append-requires-clause-some
append-requires-clause-some g c =
    alone_long c.args.event.now _ c.requires.fits
    (alone_text c.put_event.new.into.bytes _ c.args.event.now (ap (λ b. b.bytes.bytes) c.clear.ensures) c.put_event.ensures.bytes)

pub append-requires-clause-within : goal.append-requires-clause-within
append-requires-clause-within g c =
    omega (
      arith,
      alone_short c.args.event.now _ c.requires.fits
          (alone_text c.put_event.new.into.bytes _ c.args.event.now (ap (λ b. b.bytes.bytes) c.clear.ensures) c.put_event.ensures.bytes),
    )

pub append-requires-clause-room : goal.append-requires-clause-room
append-requires-clause-room g c =
    let short = alone_short c.args.event.now _ c.requires.fits
    (alone_text c.put_event.new.into.bytes _ c.args.event.now (ap (λ b. b.bytes.bytes) c.clear.ensures) c.put_event.ensures.bytes) in
    omega (arith, short, c.put_event.ensures.capacity, ap (λ (b : Batch). b.bytes.capacity) c.clear.ensures, c.requires.room)

pub returns-in-Done-clause-rests : goal.returns-in-Done-clause-rests
returns-in-Done-clause-rests g c plant d to count at leads =
    let text = alone_text c.put_event.new.into.bytes _ c.args.event.now (ap (λ b. b.bytes.bytes) c.clear.ensures) c.put_event.ensures.bytes in
    c.append.ensures.rests plant d count at (c.args.event.now ∷ []) to text refl
    (alone_leads plant _ c.args.event.now d to c.requires.version c.requires.fits leads) c.in-Done.is

pub returns-in-Done-clause-passes : goal.returns-in-Done-clause-passes
returns-in-Done-clause-passes g c plant d to count at leads =
    let text = alone_text c.put_event.new.into.bytes _ c.args.event.now (ap (λ b. b.bytes.bytes) c.clear.ensures) c.put_event.ensures.bytes in
    c.append.ensures.passes plant d count at (c.args.event.now ∷ []) to text
    (alone_leads plant _ c.args.event.now d to c.requires.version c.requires.fits leads)

pub returns-in-Done-clause-log : goal.returns-in-Done-clause-log
returns-in-Done-clause-log g c =
    omega (
      arith,
      c.append.ensures.log c.in-Done.is,
      c.append.ensures.first,
      alone_short c.args.event.now _ c.requires.fits
          (alone_text c.put_event.new.into.bytes _ c.args.event.now (ap (λ b. b.bytes.bytes) c.clear.ensures) c.put_event.ensures.bytes),
    )

pub returns-in-DiskFault-clause-passes : goal.returns-in-DiskFault-clause-passes
returns-in-DiskFault-clause-passes g c plant d to count at leads =
    let text = alone_text c.put_event.new.into.bytes _ c.args.event.now (ap (λ b. b.bytes.bytes) c.clear.ensures) c.put_event.ensures.bytes in
    c.append.ensures.passes plant d count at (c.args.event.now ∷ []) to text
    (alone_leads plant _ c.args.event.now d to c.requires.version c.requires.fits leads)

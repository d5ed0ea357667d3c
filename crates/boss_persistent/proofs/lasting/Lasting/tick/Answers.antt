use Rattle.std.proofs.Common.{◌≡◌, ◌≤◌, refl, ap, ◌∙◌, arith}
use Rattle.boss_model.specs.Order.{in_order}
use Rattle.boss_model.specs.Time.{tick_to}
use Rattle.boss_booking.specs.Bookable.{ComesTo}
use Rattle.boss_booking.specs.Books.{Books}
use Rattle.boss_booking.specs.Gathered.{booked_all, due_tellings, told_rank}
use Rattle.boss_booking.proofs.DueBooked.{due-comes}
use Rattle.law_due.proofs.DueLemmas.{last-due}
use Rattle.law_grants.proofs.Together.{put_together, room-booked, stands-for, together}
use Rattle.boss_persistent.specs.Lasting.{persistent_of}
use Rattle.boss_persistent.proofs.Moved.{comes-moved}
use Rattle.boss_persistent.proofs.Playable.{all-endable, all-playable, all-started}
use Rattle.boss_persistent.proofs.lasting.Lasting.tick.Goals as goal
use Rattle.boss_persistent.proofs.lasting.Lasting.tick.Goals.{After-tick, After-book_all}

pub tick-requires-clause-leases : goal.tick-requires-clause-leases
tick-requires-clause-leases c = all-endable c.requires.sound.0 (persistent_of c.args.self.now) c.requires.sound.2

pub tick-requires-clause-pending : goal.tick-requires-clause-pending
tick-requires-clause-pending c = all-playable c.requires.sound.0 (persistent_of c.args.self.now) c.requires.sound.2

pub tick-requires-clause-started : goal.tick-requires-clause-started
tick-requires-clause-started c =
    let d = persistent_of c.args.self.now in
    let same : d.now ≤ d.now = omega arith in
    all-started c.requires.sound.0 d d.now same c.requires.sound.2

-- what was gathered comes to the whole tick
comes : (c : After-tick) → ComesTo (tick_to c.args.n (persistent_of c.args.self.now)) c.args.self.now.stages c.args.self.now.processes c.tick.new.told.items
comes c =
    let d = persistent_of c.args.self.now in
    comes-moved (tick_to c.args.n d) c.args.self.now.stages d.processes (due_tellings c.args.n d) c.tick.new.told.items
    (due-comes c.requires.sound.0 d c.args.self.now.stages c.args.n c.requires.sound.2 c.requires.kept.stands c.requires.moment.0 c.requires.moment.1) c.tick.ensures.told

pub book_all-requires : goal.book_all-requires
book_all-requires c = (comes (goal.at.book_all-requires c).After-tick).bookable

abbrev books : After-book_all → Books
books c = record { stages = c.book_all.new.stages; processes = c.book_all.new.processes }

-- what there is then
after : (c : After-book_all) →
    ComesTo (tick_to c.args.n (persistent_of c.args.self.now)) c.args.self.now.stages c.args.self.now.processes c.tick.new.told.items →
    put_together c.tick.new.self.now c.args.self.now.next_txn c.tick.new.self.leases c.tick.new.self.pending (books c) ≡ tick_to c.args.n (persistent_of c.args.self.now)
after c is =
    let d = persistent_of c.args.self.now in
    together c.tick.new.self.now d.next c.tick.new.self.leases c.tick.new.self.pending (books c)
    (booked_all c.args.self.now.stages d.processes c.tick.new.told.items) (tick_to c.args.n d) c.book_all.ensures.books is.books
    (c.tick.ensures.now ∙ last-due c.requires.sound.0 d c.args.n c.requires.sound.2 c.requires.moment.0) refl c.tick.ensures.leases c.tick.ensures.pending

pub returns-clause-after : goal.returns-clause-after
returns-clause-after c =
    let at = goal.at.returns-clause-after c in
    after at.After-book_all (comes at.After-tick)

pub returns-clause-kept : goal.returns-clause-kept
returns-clause-kept c =
    let at = goal.at.returns-clause-kept c in
    let d = persistent_of c.args.self.now in
    let is = comes at.After-tick in
    record {
      stands = stands-for (books at.After-book_all) (booked_all c.args.self.now.stages d.processes c.tick.new.told.items) (tick_to c.args.n d)
          (put_together c.tick.new.self.now d.next c.tick.new.self.leases c.tick.new.self.pending (books at.After-book_all))
          c.book_all.ensures.books is.books (after at.After-book_all is);
      slots = c.requires.kept.slots;
      records = omega (
        arith,
        c.requires.kept.records,
        c.tick.ensures.points,
        ap (λ b. b.stages.room) c.book_all.ensures.books
            ∙ room-booked (in_order told_rank c.tick.new.told.items) (record { stages = c.args.self.now.stages; processes = c.args.self.now.processes }),
      );
    }

pub returns-clause-stages : goal.returns-clause-stages
returns-clause-stages c = ap (λ b. b.stages.room) c.book_all.ensures.books
    ∙ room-booked (in_order told_rank c.tick.new.told.items) (record { stages = c.args.self.now.stages; processes = c.args.self.now.processes })

use Rattle.std.proofs.Common.{◌≡◌, ◌++◌, map, ap, sym, ◌∙◌, subst, arith}
use Rattle.std.specs.List.Sorted.{IsPermutation}
use Rattle.boss_model.specs.Ends.{end_leases}
use Rattle.boss_booking.specs.Bookable.{ComesTo}
use Rattle.boss_booking.specs.Books.{Books}
use Rattle.boss_model.specs.Order.{in_order}
use Rattle.boss_booking.specs.Gathered.{booked_all, end_tellings, plain, told_rank}
use Rattle.boss_booking.proofs.EndsBooked.{ends-come}
use Rattle.law_grants.proofs.Together.{put_together, room-booked, same-first, stands-for, together}
use Rattle.boss_persistent.specs.Lasting.{persistent_of}
use Rattle.boss_persistent.specs.Meant.{is_meant}
use Rattle.boss_persistent.proofs.Moved.{comes-moved}
use Rattle.boss_persistent.proofs.lasting.Lasting.end_leases.Goals as goal
use Rattle.boss_persistent.proofs.lasting.Lasting.end_leases.Goals.{After-end_held, After-book_all}

-- what was gathered comes to the end of all these leases
comes : (c : After-end_held) → ComesTo (end_leases (is_meant c.args.which.now) c.args.cause.now c.args.n c.requires.first.0 (persistent_of c.args.self.now))
    c.end_held.new.self.stages c.end_held.new.self.processes c.end_held.new.told.items
comes c =
    let d = persistent_of c.args.self.now in
    let which = is_meant c.args.which.now in
    let why = c.args.cause.now in
    let n = c.args.n in
    let first = c.requires.first in
    let told = c.end_held.new.told.items in
    let after = end_leases which why n first.0 d in
    subst (λ stages. ComesTo after stages c.end_held.new.self.processes told) (sym c.end_held.ensures.stages)
    (subst (λ processes. ComesTo after c.args.self.now.stages processes told) (sym c.end_held.ensures.processes)
    (comes-moved after c.args.self.now.stages d.processes (map plain first.0 ++ end_tellings which why n d.leases) told
    (ends-come c.requires.sound.0 d c.args.self.now.stages which why n first.0 c.requires.sound.2 c.requires.kept.stands c.requires.passed c.requires.moment c.requires.cause first.2)
    (subst (λ before. IsPermutation (before ++ end_tellings which why n d.leases) told) first.1 c.end_held.ensures.told)))

pub book_all-requires : goal.book_all-requires
book_all-requires c = (comes (goal.at.book_all-requires c).After-end_held).bookable

abbrev books : After-book_all → Books
books c = record { stages = c.book_all.new.stages; processes = c.book_all.new.processes }

-- what there is then
after : (c : After-book_all) → ComesTo (end_leases (is_meant c.args.which.now) c.args.cause.now c.args.n c.requires.first.0 (persistent_of c.args.self.now))
    c.end_held.new.self.stages c.end_held.new.self.processes c.end_held.new.told.items →
    put_together c.end_held.new.self.holdings.now c.end_held.new.self.next_txn c.end_held.new.self.holdings.leases c.end_held.new.self.holdings.pending (books c)
    ≡ end_leases (is_meant c.args.which.now) c.args.cause.now c.args.n c.requires.first.0 (persistent_of c.args.self.now)
after c is =
    let d = persistent_of c.args.self.now in
    together c.end_held.new.self.holdings.now c.end_held.new.self.next_txn c.end_held.new.self.holdings.leases c.end_held.new.self.holdings.pending (books c)
    (booked_all c.end_held.new.self.stages c.end_held.new.self.processes c.end_held.new.told.items)
    (end_leases (is_meant c.args.which.now) c.args.cause.now c.args.n c.requires.first.0 d) c.book_all.ensures.books is.books
    c.end_held.ensures.now c.end_held.ensures.next c.end_held.ensures.leases c.end_held.ensures.pending

pub returns-clause-after : goal.returns-clause-after
returns-clause-after c first given =
    let at = goal.at.returns-clause-after c in
    after at.After-book_all (comes at.After-end_held)
    ∙ ap (λ hs. end_leases (is_meant c.args.which.now) c.args.cause.now c.args.n hs (persistent_of c.args.self.now)) (same-first c.requires.first.0 first (sym c.requires.first.1 ∙ given))

pub returns-clause-kept : goal.returns-clause-kept
returns-clause-kept c =
    let at = goal.at.returns-clause-kept c in
    let d = persistent_of c.args.self.now in
    let is = comes at.After-end_held in
    record {
      stands = stands-for (books at.After-book_all) (booked_all c.end_held.new.self.stages c.end_held.new.self.processes c.end_held.new.told.items)
          (end_leases (is_meant c.args.which.now) c.args.cause.now c.args.n c.requires.first.0 d)
          (put_together c.end_held.new.self.holdings.now c.end_held.new.self.next_txn c.end_held.new.self.holdings.leases c.end_held.new.self.holdings.pending (books at.After-book_all))
          c.book_all.ensures.books is.books (after at.After-book_all is);
      slots = omega (arith, c.requires.kept.slots, c.end_held.ensures.slots);
      records = omega (
        arith,
        c.requires.kept.records,
        c.end_held.ensures.points,
        ap (λ b. b.stages.room) c.book_all.ensures.books
            ∙ room-booked (in_order told_rank c.end_held.new.told.items) (record { stages = c.end_held.new.self.stages; processes = c.end_held.new.self.processes }),
        ap (λ s. s.room) c.end_held.ensures.stages,
      );
    }

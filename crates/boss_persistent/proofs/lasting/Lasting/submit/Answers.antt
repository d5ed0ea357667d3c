use Rattle.std.proofs.Common.{◌≡◌, ℕ, ◌<◌, ◌+◌, ◌++◌, List, map, not, refl, ap, sym, ◌∙◌, subst, arith}
use Rattle.std.specs.List.{AllByRecursion, filter}
use Rattle.std.specs.List.Sorted.{IsPermutation}
use Rattle.std.proofs.lemmas.List.Elements.{All-from_recursion}
use Rattle.boss_model.specs.declared.command.Policy.{Policy}
use Rattle.boss_model.specs.declared.command.Setting.{Setting}
use Rattle.boss_model.specs.declared.state.Lease.{Lease}
use Rattle.boss_model.specs.declared.state.Pending.{Pending}
use Rattle.boss_model.specs.Order.{in_order}
use Rattle.boss_model.specs.State.{lease_slot}
use Rattle.boss_model.specs.Submit.{cut, granted, is_taken, submitted, superseded}
use Rattle.law_time.proofs.Filters.{each-unmapped}
use Rattle.boss_stages.specs.Stages.{Tracked, number}
use Rattle.boss_booking.specs.Bookable.{ComesTo}
use Rattle.boss_booking.specs.Books.{Books, Telling}
use Rattle.boss_booking.specs.Gathered.{booked_all, plain, with_begun, told_rank}
use Rattle.law_grants.proofs.SubmitBooked.{slots-come}
use Rattle.law_grants.proofs.Together.{put_together, room-booked, stands-for, together}
use Rattle.law_due.proofs.Owners.{txns-given}
use Rattle.boss_persistent.specs.Lasting.{IsSubmit, persistent_of}
use Rattle.boss_persistent.proofs.Moved.{comes-moved}
use Rattle.boss_persistent.proofs.lasting.Lasting.submit.Goals as goal
use Rattle.boss_persistent.proofs.lasting.Lasting.submit.Goals.{After-take, After-book_all}

-- what is told of what the leases take, in the order in which it is found
abbrev replaced : List Lease → List Lease → List Pending → ℕ → ℕ → List Telling
replaced new leases pending by n = map plain (
    map (superseded by n) (filter (λ lease. is_taken new lease.point lease.priority) leases)
    ++ map (cut by n) (filter (λ reversion. is_taken new reversion.point reversion.priority) pending))

pub add-requires-clause-newest : goal.add-requires-clause-newest
add-requires-clause-newest c =
    let s = c.requires.submit in
    let d = persistent_of c.args.self.now in
    let at : number c.args.transaction ≡ d.next = ap (λ t. t.txn) s.3.recorded in
    All-from_recursion (λ (kept : Tracked). number kept < number c.args.transaction) c.args.self.now.stages.kept
    (subst (λ next. AllByRecursion (λ (kept : Tracked). number kept < next) c.args.self.now.stages.kept) (sym at)
    (each-unmapped (λ t. t.txn < d.next) (λ (kept : Tracked). kept.transaction) c.args.self.now.stages.kept (txns-given c.requires.sound.0 d c.requires.sound.2)))

-- what is left of the leases, with the new ones, and of the reversions
abbrev slots : List Lease → List Lease → List Lease
slots new leases = in_order lease_slot (filter (λ lease. not (is_taken new lease.point lease.priority)) leases ++ new)

abbrev uncut : List Lease → List Pending → List Pending
uncut new pending = filter (λ reversion. not (is_taken new reversion.point reversion.priority)) pending

-- what was gathered comes to the whole submit of these writes
comes : (c : After-take) (owner : ℕ) (policy : Policy) (writes : List Setting) → IsSubmit c.args.n c.args.transaction c.args.new.items (persistent_of c.args.self.now) owner policy writes →
    ComesTo (submitted owner policy writes c.args.n (persistent_of c.args.self.now)) c.add.new.self c.args.self.now.processes c.take.new.told.items
comes c owner policy writes is =
    let d = persistent_of c.args.self.now in
    let after = submitted owner policy writes c.args.n d in
    let told = c.take.new.told.items in
    subst (λ stages. ComesTo after stages d.processes told) (sym c.add.ensures)
    (comes-moved after (with_begun c.args.transaction c.args.self.now.stages) d.processes (replaced (granted owner policy d.next c.args.n writes) d.leases d.pending d.next c.args.n) told
    (slots-come c.requires.sound.0 d c.args.self.now.stages owner policy writes c.args.n c.requires.sound.2 c.requires.kept.stands is.some_write
    c.args.transaction is.recorded is.settled)
    (subst (λ new. IsPermutation (replaced new d.leases d.pending d.next c.args.n) told) is.leased c.take.ensures.told))

pub book_all-requires : goal.book_all-requires
book_all-requires c =
    let s = c.requires.submit in
    (comes (goal.at.book_all-requires c).After-take s.0 s.1 s.2 s.3).bookable

abbrev books : After-book_all → Books
books c = record { stages = c.book_all.new.stages; processes = c.book_all.new.processes }

-- what there is then
after : (c : After-book_all) (owner : ℕ) (policy : Policy) (writes : List Setting) → IsSubmit c.args.n c.args.transaction c.args.new.items (persistent_of c.args.self.now) owner policy writes →
    ComesTo (submitted owner policy writes c.args.n (persistent_of c.args.self.now)) c.add.new.self c.args.self.now.processes c.take.new.told.items →
    put_together c.take.new.self.now (c.args.self.now.next_txn + 1) c.take.new.self.leases c.take.new.self.pending (books c) ≡ submitted owner policy writes c.args.n (persistent_of c.args.self.now)
after c owner policy writes is come =
    let d = persistent_of c.args.self.now in
    together c.take.new.self.now (d.next + 1) c.take.new.self.leases c.take.new.self.pending (books c) (booked_all c.add.new.self d.processes c.take.new.told.items)
    (submitted owner policy writes c.args.n d) c.book_all.ensures.books come.books c.take.ensures.now refl
    (c.take.ensures.leases ∙ ap (λ new. slots new d.leases) is.leased)
    (c.take.ensures.pending ∙ ap (λ new. uncut new d.pending) is.leased)

pub returns-clause-after : goal.returns-clause-after
returns-clause-after c owner policy writes is =
    let at = goal.at.returns-clause-after c in
    after at.After-book_all owner policy writes is (comes at.After-take owner policy writes is)

pub returns-clause-kept : goal.returns-clause-kept
returns-clause-kept c =
    let at = goal.at.returns-clause-kept c in
    let d = persistent_of c.args.self.now in
    let s = c.requires.submit in
    let is = comes at.After-take s.0 s.1 s.2 s.3 in
    record {
      stands = stands-for (books at.After-book_all) (booked_all c.add.new.self d.processes c.take.new.told.items) (submitted s.0 s.1 s.2 c.args.n d)
          (put_together c.take.new.self.now (d.next + 1) c.take.new.self.leases c.take.new.self.pending (books at.After-book_all))
          c.book_all.ensures.books is.books (after at.After-book_all s.0 s.1 s.2 s.3 is);
      slots = c.requires.kept.slots;
      records = omega (
        arith,
        c.requires.kept.records,
        c.take.ensures.points,
        ap (λ b. b.stages.room) c.book_all.ensures.books
            ∙ room-booked (in_order told_rank c.take.new.told.items) (record { stages = c.add.new.self; processes = d.processes }),
        ap (λ s. s.room) c.add.ensures,
      );
    }

use Rattle.std.proofs.Common.{◌≡◌, ◌++◌, ◌≤◌, [], map, ap, sym, ◌∙◌, subst}
use Rattle.std.specs.List.{AllByRecursion}
use Rattle.std.specs.List.Sorted.{IsPermutation}
use Rattle.boss_model.specs.Ends.{is_of, shortened_if}
use Rattle.boss_model.specs.Renew.{transaction_of}
use Rattle.boss_model.specs.Reversions.{courses}
use Rattle.boss_model.specs.Time.{live, under_way}
use Rattle.boss_booking.specs.Gathered.{end_tellings}
use Rattle.law_due.specs.Playing.{IsEndable}
use Rattle.boss_holdings.specs.Held.{in_slots, shown}
use Rattle.boss_persistent.specs.declared.lasting.Lasting.{Lasting}
use Rattle.boss_persistent.specs.Lasting.{persistent_of}
use Rattle.boss_persistent.specs.Meant.{is_meant, meant_places}
use Rattle.boss_persistent.proofs.Shortened.{shortened-alike, told-alike}
use Rattle.boss_persistent.proofs.MeantLeases.{own, places-within}
use Rattle.boss_persistent.proofs.Playable.{all-endable, all-started}
use Rattle.boss_persistent.proofs.lasting.Lasting.end_held.Goals as goal
use Rattle.boss_persistent.proofs.lasting.Lasting.end_held.Goals.{After-end_at}

pub end_at-requires-clause-slots : goal.end_at-requires-clause-slots
end_at-requires-clause-slots c =
    places-within c.requires.sound.0 (persistent_of c.args.self.now) c.requires.sound.2 c.in-OfTransaction.txn [] c.fill_slots.new.self.holdings.points
    (c.requires.sound.1 ∙ sym (ap (λ (l : Lasting). l.holdings.points) c.fill_slots.ensures.others)) c.deref.result.now (c.deref.ensures.value ∙ c.fill_slots.ensures.slots)

pub end_at-requires-clause-leases : goal.end_at-requires-clause-leases
end_at-requires-clause-leases c = subst (λ (l : Lasting). AllByRecursion IsEndable l.holdings.leases) (sym c.fill_slots.ensures.others)
    (all-endable c.requires.sound.0 (persistent_of c.args.self.now) c.requires.sound.2)

pub end_at-requires-clause-started : goal.end_at-requires-clause-started
end_at-requires-clause-started c = subst (λ (l : Lasting). AllByRecursion (λ reversion. reversion.start ≤ c.args.n) l.holdings.pending) (sym c.fill_slots.ensures.others)
    (all-started c.requires.sound.0 (persistent_of c.args.self.now) c.args.n c.requires.passed.reached c.requires.sound.2)

pub end_owned-requires-clause-leases : goal.end_owned-requires-clause-leases
end_owned-requires-clause-leases c = all-endable c.requires.sound.0 (persistent_of c.args.self.now) c.requires.sound.2

pub end_owned-requires-clause-started : goal.end_owned-requires-clause-started
end_owned-requires-clause-started c = all-started c.requires.sound.0 (persistent_of c.args.self.now) c.args.n c.requires.passed.reached c.requires.sound.2

-- the leases in the slots of the transaction's open parts are its own
shortened-own : (c : After-end_at) → map (shortened_if (in_slots c.deref.result.now) c.args.n) c.fill_slots.new.self.holdings.leases
    ≡ map (shortened_if (is_meant c.args.which.now) c.args.n) c.args.self.now.holdings.leases
shortened-own c =
    let d = persistent_of c.args.self.now in
    let txn = c.in-OfTransaction.txn in
    let there : c.deref.result.now ≡ meant_places [] (transaction_of d.txns txn) = c.deref.ensures.value ∙ c.fill_slots.ensures.slots in
    (λ i. map (shortened_if (in_slots (there i)) c.args.n) (c.fill_slots.ensures.others i).holdings.leases)
    ∙ (sym (shortened-alike (is_of txn) (in_slots (meant_places [] (transaction_of d.txns txn))) c.args.n d.leases (own c.requires.sound.0 d c.requires.sound.2 txn))
    ∙ ap (λ which. map (shortened_if (is_meant which) c.args.n) d.leases) (sym c.in-OfTransaction.is))

pub returns-in-OfTransaction-clause-leases : goal.returns-in-OfTransaction-clause-leases
returns-in-OfTransaction-clause-leases c =
    c.end_at.ensures.leases ∙ ap (live c.args.n) (shortened-own (goal.at.returns-in-OfTransaction-clause-leases c).After-end_at)

pub returns-in-OfTransaction-clause-pending : goal.returns-in-OfTransaction-clause-pending
returns-in-OfTransaction-clause-pending c =
    let short = shortened-own (goal.at.returns-in-OfTransaction-clause-pending c).After-end_at in
    c.end_at.ensures.pending ∙ (λ i. under_way c.args.n (courses (c.fill_slots.ensures.others i).holdings.pending (short i)))

pub returns-in-OfTransaction-clause-told : goal.returns-in-OfTransaction-clause-told
returns-in-OfTransaction-clause-told c =
    let d = persistent_of c.args.self.now in
    let txn = c.in-OfTransaction.txn in
    let why = c.args.cause.now in
    let there : c.deref.result.now ≡ meant_places [] (transaction_of d.txns txn) = c.deref.ensures.value ∙ c.fill_slots.ensures.slots in
    let same : end_tellings (in_slots c.deref.result.now) why c.args.n c.fill_slots.new.self.holdings.leases ≡ end_tellings (is_meant c.args.which.now) why c.args.n d.leases =
    (λ i. end_tellings (in_slots (there i)) why c.args.n (c.fill_slots.ensures.others i).holdings.leases)
    ∙ (sym (told-alike (is_of txn) (in_slots (meant_places [] (transaction_of d.txns txn))) c.args.n d.leases (own c.requires.sound.0 d c.requires.sound.2 txn) why)
    ∙ ap (λ which. end_tellings (is_meant which) why c.args.n d.leases) (sym c.in-OfTransaction.is)) in
    subst (λ es. IsPermutation (c.args.told.now.items ++ es) c.end_at.new.told.items) same c.end_at.ensures.told

pub returns-in-OfTransaction-clause-untouched : goal.returns-in-OfTransaction-clause-untouched
returns-in-OfTransaction-clause-untouched c = λ default point moment left.
    c.end_at.ensures.untouched default point moment left ∙ ap (λ (l : Lasting). shown default moment l.holdings point) c.fill_slots.ensures.others

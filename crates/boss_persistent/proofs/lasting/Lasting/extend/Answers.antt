use Rattle.std.proofs.Common.{◌≡◌, ℕ, filter, map, ap, sym, ◌∙◌, arith}
use Rattle.std.specs.Option.{option_map_or}
use Rattle.boss_model.specs.Renew.{extended_if, is_meant, transaction_of}
use Rattle.boss_model.specs.Submit.{first_until}
use Rattle.boss_model.specs.Target.{in_force, playing, value_of}
use Rattle.boss_holdings.specs.Held.{in_slots}
use Rattle.law_records.specs.Slots.{soonest}
use Rattle.boss_persistent.specs.Lasting.{persistent_of}
use Rattle.boss_persistent.specs.Meant.{meant_places, some_shorter, untils_in}
use Rattle.boss_persistent.proofs.Current.{shown-longer}
use Rattle.boss_persistent.proofs.MeantLeases.{places-within, extended-alike, lengthens-alike, first-alike, kept-longer}
use Rattle.boss_persistent.proofs.lasting.Lasting.extend.Goals as goal
use Rattle.boss_persistent.proofs.lasting.Lasting.extend.Goals.{After-first_end}

pub extend_slots-longer-requires-clause-slots : goal.extend_slots-longer-requires-clause-slots
extend_slots-longer-requires-clause-slots c =
    places-within c.requires.sound.0 (persistent_of c.args.self.now) c.requires.sound.2 c.args.txn c.args.points.now c.fill_slots.new.self.holdings.points
    (c.requires.sound.1 ∙ sym (ap (λ l. l.holdings.points) c.fill_slots.ensures.others)) c.deref.result.now (c.deref.ensures.value ∙ c.fill_slots.ensures.slots)

pub first_end-requires : goal.first_end-requires
first_end-requires c = record {
  slots = places-within c.requires.sound.0 (persistent_of c.args.self.now) c.requires.sound.2 c.args.txn c.args.points.now c.extend_slots-longer.new.holdings.points
      (c.requires.sound.1 ∙ sym (c.extend_slots-longer.ensures.points ∙ ap (λ l. l.holdings.points) c.fill_slots.ensures.others)) c.deref-2.result.now (c.deref-2.ensures.value ∙ c.fill_slots.ensures.slots);
}

-- the leases that are meant are extended
leases : (c : After-first_end) → c.extend_slots-longer.new.holdings.leases ≡ map (extended_if (is_meant c.args.txn c.args.points.now) c.args.until) c.args.self.now.holdings.leases
leases c =
    let there : c.deref.result.now ≡ meant_places c.args.points.now (transaction_of (persistent_of c.args.self.now).txns c.args.txn) = c.deref.ensures.value ∙ c.fill_slots.ensures.slots in
    c.extend_slots-longer.ensures.leases
    ∙ ((λ i. map (extended_if (in_slots (there i)) c.args.until) (c.fill_slots.ensures.others i).holdings.leases)
    ∙ sym (extended-alike c.requires.sound.0 (persistent_of c.args.self.now) c.requires.sound.2 c.args.txn c.args.points.now c.args.until))

pub returns-clause-after : goal.returns-clause-after
returns-clause-after c =
    let longer = leases (goal.at.returns-clause-after c).After-first_end in
    let now = c.extend_slots-longer.ensures.now ∙ ap (λ l. l.holdings.now) c.fill_slots.ensures.others in
    let pending = c.extend_slots-longer.ensures.pending ∙ ap (λ l. l.holdings.pending) c.fill_slots.ensures.others in
    λ i. record (persistent_of (c.fill_slots.ensures.others i)) { now = now i; leases = longer i; pending = pending i }

pub returns-clause-longer : goal.returns-clause-longer
returns-clause-longer c =
    let there : c.deref.result.now ≡ meant_places c.args.points.now (transaction_of (persistent_of c.args.self.now).txns c.args.txn) = c.deref.ensures.value ∙ c.fill_slots.ensures.slots in
    c.extend_slots-longer.ensures.longer
    ∙ ((λ i. some_shorter (there i) c.args.until (c.fill_slots.ensures.others i).holdings.leases)
    ∙ sym (lengthens-alike c.requires.sound.0 (persistent_of c.args.self.now) c.requires.sound.2 c.args.txn c.args.points.now c.args.until))

pub returns-clause-first : goal.returns-clause-first
returns-clause-first c =
    let longer = leases (goal.at.returns-clause-first c).After-first_end in
    let there : c.deref-2.result.now ≡ meant_places c.args.points.now (transaction_of (persistent_of c.args.self.now).txns c.args.txn) = c.deref-2.ensures.value ∙ c.fill_slots.ensures.slots in
    c.first_end.ensures
    ∙ ((λ i. option_map_or (λ (until : ℕ). until) (soonest (untils_in (longer i) (there i))) 0)
    ∙ (sym (first-alike c.requires.sound.0 (persistent_of c.args.self.now) c.requires.sound.2 c.args.txn c.args.points.now c.args.until)
    ∙ ap (λ held. first_until (filter (is_meant c.args.txn c.args.points.now) held)) (sym longer)))

pub returns-clause-kept : goal.returns-clause-kept
returns-clause-kept c = kept-longer c.args.self.now _ (ap (λ l. l.stages) c.fill_slots.ensures.others)
    (c.extend_slots-longer.ensures.pending ∙ ap (λ l. l.holdings.pending) c.fill_slots.ensures.others)
    (c.extend_slots-longer.ensures.points ∙ ap (λ l. l.holdings.points) c.fill_slots.ensures.others)
    (omega (arith, c.requires.kept.slots, c.fill_slots.ensures.capacity)) c.requires.kept

pub returns-clause-untouched : goal.returns-clause-untouched
returns-clause-untouched c = λ default point moment left.
    let held = c.args.self.now.holdings in
    let longer = leases (goal.at.returns-clause-untouched c).After-first_end in
    let pending = c.extend_slots-longer.ensures.pending ∙ ap (λ l. l.holdings.pending) c.fill_slots.ensures.others in
    (λ i. value_of default moment (in_force (longer i) point) (playing (pending i) point))
    ∙ shown-longer (is_meant c.args.txn c.args.points.now) c.args.until default point moment held.leases (playing held.pending point)

use Rattle.std.proofs.Common.{◌≡◌, ◌+◌, nat_lt, ◌||◌, false, [], ◌∷◌, map, take, refl, ap, sym, ◌∙◌}
use Rattle.std.specs.Option.{option_map_or}
use Rattle.std.proofs.lemmas.List.{take_all}
use Rattle.boss_model.specs.declared.state.Lease.{Lease}
use Rattle.boss_model.specs.Renew.{extended_if}
use Rattle.law_effects.specs.Early.{slot_lease}
use Rattle.boss_holdings.specs.Held.{in_slots}
use Rattle.boss_persistent.specs.Meant.{some_shorter}
use Rattle.boss_persistent.proofs.Lengthening.{extended-more, longer-more, extended-none, shorter-none}
use Rattle.boss_persistent.proofs.renewing.extend_slots.Goals as goal
use Rattle.boss_persistent.proofs.renewing.extend_slots.Goals.{then-extend, else-extend}

pub loop-slot-init : goal.loop-slot-init
loop-slot-init c = record {
  leases = extended-none c.args.until c.args.holdings.now.leases;
  pending = refl;
  now = refl;
  points = refl;
  touched = refl;
  longer = shorter-none c.args.until c.args.holdings.now.leases;
}

pub loop-slot-preserved : goal.loop-slot-preserved
loop-slot-preserved c =
    let slots = c.args.slots.now in
    let i = c.loop-slot.slot-index in
    let slot = c.slot-item.result in
    let leases = c.args.holdings.now.leases in
    let until = c.args.until in
    let before = c.loop-slot.invariant in
    let got : c.extend.result ≡ option_map_or (λ (lease : Lease). nat_lt lease.until until) (slot_lease (map (extended_if (in_slots (take i slots)) until) leases) slot.point slot.priority) false =
    c.extend.ensures.longer ∙ ap (λ held. option_map_or (λ (lease : Lease). nat_lt lease.until until) (slot_lease held slot.point slot.priority) false) before.leases in
    let longer : (c.extend.result || c.loop-slot.longer) ≡ some_shorter (take (i + 1) slots) until leases =
    (λ j. got j || before.longer j) ∙ longer-more slots i slot c.loop-slot-test.true c.slot-item.is until leases c.requires.in_order in
    record {
      leases = c.extend.ensures.leases ∙ ap (map (extended_if (in_slots (slot ∷ [])) until)) before.leases
          ∙ extended-more slots i slot c.loop-slot-test.true c.slot-item.is until leases;
      pending = c.extend.ensures.pending ∙ before.pending;
      now = c.extend.ensures.now ∙ before.now;
      points = c.extend.ensures.points ∙ before.points;
      touched = c.extend.ensures.touched ∙ before.touched;
      longer = elim c.if-extend.branch [
        | then-extend w ↦ w.longer-is ∙ (w.if-extend.true ∙ (ap (λ b. b || c.loop-slot.longer) (sym w.if-extend.true) ∙ longer))
        | else-extend w ↦ w.longer-is ∙ (ap (λ b. b || c.loop-slot.longer) (sym w.if-extend.false) ∙ longer)
      ];
    }

pub returns-clause-leases : goal.returns-clause-leases
returns-clause-leases c =
    c.loop-slot.invariant.leases
    ∙ ap (λ slots. map (extended_if (in_slots slots) c.args.until) c.args.holdings.now.leases) (take_all c.loop-slot.slot-index c.args.slots.now c.loop-slot-test.false)

pub returns-clause-longer : goal.returns-clause-longer
returns-clause-longer c =
    c.loop-slot.invariant.longer
    ∙ ap (λ slots. some_shorter slots c.args.until c.args.holdings.now.leases) (take_all c.loop-slot.slot-index c.args.slots.now c.loop-slot-test.false)

use Rattle.std.proofs.Common.{◌≡◌, ◌≢◌, ℕ, ◌≤◌, ◌<◌, ◌+◌, FitsSigned, w64, rules, false, length, set, refl, ap, sym, ◌∙◌, inl, inr, arith}
use Rattle.std.proofs.lemmas.Bool.{cases_lt, true≢false}
use Rattle.std.proofs.lemmas.Int.{to_z-of_z}
use Rattle.std.proofs.lemmas.List.{get_or-set_other}
use Rattle.boss_model.specs.Catalogue.{default_of}
use Rattle.boss_model.specs.Settle.{is_moved, recommanded}
use Rattle.boss_model.specs.Target.{target}
use Rattle.boss_holdings.specs.Held.{Held, is_touched, shown}
use Rattle.boss_marks.specs.Marks.{settled}
use Rattle.boss_marks.proofs.Rounds.{turned_below-none}
use Rattle.boss_persistent.specs.declared.lasting.Lasting.{Lasting}
use Rattle.boss_slots.proofs.Cleared.{cleared-below}
use Rattle.boss_persistent.specs.Lasting.{persistent_of}
use Rattle.boss_engine.proofs.Turns.{settled-next, settled-rest}
use Rattle.boss_engine.proofs.settling.settle_touched.Goals as goal

pub loop-point-init : goal.loop-point-init
loop-point-init c =
    let plant = c.args.plant.now in
    let d = persistent_of c.args.lasting.now in
    record {
      from = 0;
      turned = sym (turned_below-none (is_moved plant d) (recommanded plant d) c.args.marks.now);
      others = refl;
      within = omega arith;
      settled = λ k less. absurd (omega arith);
      later = λ k low. refl;
    }

pub loop-point-preserved : goal.loop-point-preserved
loop-point-preserved c =
    let plant = c.args.plant.now in
    let first = c.args.lasting.now in
    let d = persistent_of first in
    let marks = c.args.marks.now in
    let before = c.loop-point in
    let inv = before.invariant in
    let point = c.in-Some.point in
    let next = c.in-Some.ensures.first in
    let flags = before.lasting.holdings.touched in
    let same = c.in-Some.ensures.untouched in
    let held : c.take_touched.new.self ≡ record first.holdings { touched = set flags point false } = same ∙ ap (λ (l : Lasting). record l.holdings { touched = set flags point false }) inv.others in
    let fits : FitsSigned w64 c.target_of.result = search rules in
    let told : c.target_of.result ≡ target plant d point = c.target_of.ensures ∙ ap (λ (h : Held). shown (default_of plant point) h.now h point) held in
    let points : before.lasting.holdings.points ≡ length plant = ap (λ (l : Lasting). l.holdings.points) inv.others ∙ sym c.requires.points in
    let known : point < length plant = omega (arith, points, c.in-Some.ensures.within) in
    let own : point < length marks.proxies = omega (arith, known, c.requires.number) in
    let later : inv.from ≤ point = elim (cases_lt point inv.from) [ inl low ↦ absurd (true≢false (sym next.is ∙ inv.settled point low)) | inr high ↦ high ] in
    let reads : (k : ℕ) → is_touched c.take_touched.new.self k ≡ is_touched (record before.lasting.holdings { touched = set flags point false }) k = λ k. ap (λ (h : Held). is_touched h k) same in
    record {
      from = point + 1;
      turned = (simp to_z-of_z at c.settle.ensures.after)
          ∙ (ap (λ value. settled point value before.marks) told
          ∙ (ap (settled point (target plant d point)) inv.turned
          ∙ settled-next plant d marks inv.from point later own (λ k low high. c.requires.current k (omega (arith, known, high)) (sym (inv.later k low) ∙ next.first k high))));
      others = (λ i. record (inv.others i) { holdings = held i })
          ∙ (λ i. record first { holdings = record first.holdings { touched = (sym held i).touched } });
      within = omega (arith, known);
      settled = λ k less. reads k ∙ cleared-below flags point next k less;
      later = λ k low.
          let other : k ≢ point = λ is. omega (arith, is, low) in
          let past : inv.from ≤ k = omega (arith, low, later) in
          reads k ∙ (get_or-set_other flags point k false false other ∙ inv.later k past);
    }

pub returns-clause-marks : goal.returns-clause-marks
returns-clause-marks c =
    let plant = c.args.plant.now in
    let d = persistent_of c.args.lasting.now in
    let marks = c.args.marks.now in
    let inv = c.loop-point.invariant in
    inv.turned ∙ settled-rest plant d marks inv.from (omega (arith, inv.within, c.requires.number))
    (λ k low high. c.requires.current k (omega (arith, high, c.requires.number)) (sym (inv.later k low) ∙ c.in_default.ensures.none k))

use Rattle.std.proofs.Common.{◌≡◌, [], length, option_copied, refl, ap, sym, ◌∙◌, subst, arith}
use Rattle.std.specs.List.{AllByRecursion}
use Rattle.std.proofs.lemmas.Bool.{eqb-true}
use Rattle.std.proofs.lemmas.Grind.{common_steps}
use Rattle.boss_model.specs.Catalogue.{actuators}
use Rattle.def_history.specs.History.{MayCall}
use Rattle.boss_sessions.specs.Places.{SourceCause}
use Rattle.boss_sessions.specs.Requests.{ClockCause}
use Rattle.boss_sessions.specs.Speaking.{manner_of}
use Rattle.boss_sessions.proofs.GatheredLemmas.{gathered-silent, gathered-then, on-then}
use Rattle.boss_outside.proofs.Noting.{notes-nothing}
use Rattle.boss_sessions.proofs.PlaceLemmas.{advances-nothing}
use Rattle.boss_sessions.proofs.ReadLemmas.{is-empty, reads-gathered}
use Rattle.boss_sessions.proofs.gathering.gather.Goals.{then-is_empty, else-is_empty}
use Rattle.boss_sessions.proofs.gathering.gather.Goals as goal

pub loop-commands-init : goal.loop-commands-init
loop-commands-init g c = record {
  ready = c.requires.ready;
  gathered = gathered-silent (manner_of c.args.catalogue.now (option_copied c.args.keys)) g.S.Source.tells g.C.Clock.tells _ _ _ _ _ _ _ _ [] _ refl (λ told. refl) refl
      (advances-nothing g.S.Source.tells _ _ refl (λ told. refl) (λ is. is) c.requires.ready.over) (refl, refl);
  may = subst (AllByRecursion (MayCall (actuators c.args.catalogue.now))) (sym c.requires.none) tt;
  few = grind (arith, common_steps, c.requires.none);
  fewer = omega arith;
  some = λ some. absurd (omega (arith, some, ap length c.requires.none));
  held = λ told. refl;
  reads = λ told. notes-nothing _ (g.S.Source.reads c.args.source.now);
  shown = refl;
  read = refl;
  clocked = refl;
}

pub loop-commands-preserved : goal.loop-commands-preserved
loop-commands-preserved g c =
    let inv = c.loop-commands.invariant in
    let unread : ¬ (c.loop-commands.commands.items ≡ []) → g.S.Source.reads c.take_line.new.source ≡ g.S.Source.reads c.loop-commands.source = λ some.
    ap g.S.Source.reads (c.take_line.ensures.at_hand (elim c.if-is_empty.branch [
      | then-is_empty w ↦
          let none = eqb-true _ 0 (sym c.is_empty.ensures ∙ w.if-is_empty.true) in
          let empty : length c.loop-commands.commands.items ≡ 0 = grind (arith, common_steps, none) in absurd (some (is-empty _ empty))
      | else-is_empty w ↦ sym w.whole.ensures ∙ sym w.value-is ∙ c.if-whole.true
    ])) in
    record {
      ready = c.in-Requests.ensures.end;
      gathered = gathered-then (manner_of c.args.catalogue.now (option_copied c.args.keys)) g.S.Source.tells g.C.Clock.tells _ _ _ _ _ _ _ _ _ _ _ _ _ inv.gathered c.in-Requests.ensures.gathered;
      may = c.take_line.ensures.may;
      few = let one = c.take_line.ensures.one in let low = c.loop-commands-test.true in grind (arith, common_steps);
      fewer = omega (arith, c.in-Requests.ensures.goes_on, inv.fewer);
      some = λ some. omega (arith, c.in-Requests.ensures.goes_on, inv.fewer);
      held = λ told. c.in-Requests.ensures.held told ∙ inv.held told;
      reads = λ told.
          reads-gathered (manner_of c.args.catalogue.now (option_copied c.args.keys)) g.S.Source.tells g.C.Clock.tells _ _ _ _ _ _ _ _ c.requires.none inv.gathered c.requires.ready told _ _ inv.shown
          (g.S.Source.reads c.args.source.now) (g.S.Source.reads c.loop-commands.source) (g.S.Source.reads c.take_line.new.source)
          (λ some. unread some) (inv.reads told) (c.take_line.ensures.reads told);
      shown = c.take_line.ensures.shown ∙ inv.shown;
      read = c.in-Requests.ensures.read ∙ inv.read;
      clocked = c.in-Requests.ensures.clocked ∙ inv.clocked;
    }

pub returns-in_default : goal.returns-in_default
returns-in_default g c =
    let inv = c.loop-commands.invariant in
    let unread : ¬ (c.loop-commands.commands.items ≡ []) → g.S.Source.reads c.take_line.new.source ≡ g.S.Source.reads c.loop-commands.source = λ some.
    ap g.S.Source.reads (c.take_line.ensures.at_hand (elim c.if-is_empty.branch [
      | then-is_empty w ↦
          let none = eqb-true _ 0 (sym c.is_empty.ensures ∙ w.if-is_empty.true) in
          let empty : length c.loop-commands.commands.items ≡ 0 = grind (arith, common_steps, none) in absurd (some (is-empty _ empty))
      | else-is_empty w ↦ sym w.whole.ensures ∙ sym w.value-is ∙ c.if-whole.true
    ])) in
    record {
      gathered = gathered-then (manner_of c.args.catalogue.now (option_copied c.args.keys)) g.S.Source.tells g.C.Clock.tells _ _ _ _ _ _ _ _ _ _ _ _ c.take_line.result inv.gathered c.take_line.ensures.gathered;
      end = c.take_line.ensures.end;
      may = c.take_line.ensures.may;
      few = let one = c.take_line.ensures.one in let low = c.loop-commands-test.true in grind (arith, common_steps);
      goes_on = on-then c.args.hearing.now.lines c.loop-commands.hearing.lines c.take_line.new.hearing.lines c.take_line.result inv.fewer c.take_line.ensures.goes_on;
      held = λ told. c.take_line.ensures.held told ∙ inv.held told;
      reads = λ told.
          reads-gathered (manner_of c.args.catalogue.now (option_copied c.args.keys)) g.S.Source.tells g.C.Clock.tells _ _ _ _ _ _ _ _ c.requires.none inv.gathered c.requires.ready told _ _ inv.shown
          (g.S.Source.reads c.args.source.now) (g.S.Source.reads c.loop-commands.source) (g.S.Source.reads c.take_line.new.source)
          (λ some. unread some) (inv.reads told) (c.take_line.ensures.reads told);
      shown = c.take_line.ensures.shown ∙ inv.shown;
      read = subst (λ n. SourceCause n (g.S.Source.faults c.take_line.new.source) c.take_line.result) inv.read c.take_line.ensures.read;
      clocked = subst (λ n. ClockCause n (g.C.Clock.faults c.take_line.new.clock) c.take_line.result) inv.clocked c.take_line.ensures.clocked;
    }

use Rattle.std.proofs.Common.{◌++◌, length, ap, ◌∙◌, arith, length-append}
use Rattle.boss_lines.proofs.AtHand.{NoLineEnd-more, not-far, not-none}
use Rattle.boss_lines.proofs.ReadLemmas.{reads-then}
use Rattle.boss_lines.proofs.window.Window.find_line_end.Goals as goal

pub returns-else-place-le-LONGEST_LINE-clause-at_hand : goal.returns-else-place-le-LONGEST_LINE-clause-at_hand
returns-else-place-le-LONGEST_LINE-clause-at_hand g c at_hand =
    absurd (not-far c.bytes-held.result.now c.args.self.now c.in-Some.place at_hand (c.bytes-held.ensures ∙ (c.loop-place.invariant.unread at_hand).0)
    c.in-Some.ensures.found.0 c.if-place-le-LONGEST_LINE.false)

pub returns-then-sought-gt-LONGEST_LINE-clause-at_hand : goal.returns-then-sought-gt-LONGEST_LINE-clause-at_hand
returns-then-sought-gt-LONGEST_LINE-clause-at_hand g c at_hand =
    absurd (not-none c.bytes-held.result.now c.args.self.now at_hand (c.bytes-held.ensures ∙ (c.loop-place.invariant.unread at_hand).0) c.in_default.ensures.none)

pub returns-in-Finish-clause-at_hand : goal.returns-in-Finish-clause-at_hand
returns-in-Finish-clause-at_hand g c at_hand =
    absurd (not-none c.bytes-held.result.now c.args.self.now at_hand (c.bytes-held.ensures ∙ (c.loop-place.invariant.unread at_hand).0) c.in_default.ensures.none)

pub returns-in-Failed-clause-at_hand : goal.returns-in-Failed-clause-at_hand
returns-in-Failed-clause-at_hand g c at_hand =
    absurd (not-none c.bytes-held.result.now c.args.self.now at_hand (c.bytes-held.ensures ∙ (c.loop-place.invariant.unread at_hand).0) c.in_default.ensures.none)

pub loop-place-preserved : goal.loop-place-preserved
loop-place-preserved g c = record {
  within = omega (arith, ap length c.in-Bytes.ensures.adds.1, length-append c.loop-place.self c.in-Bytes.ensures.adds.0, ap length c.bytes-held.ensures);
  passed = NoLineEnd-more c.bytes-held.result.now c.loop-place.self c.in-Bytes.ensures.adds.0 c.fill.new.self c.bytes-held.ensures c.in-Bytes.ensures.adds.1 c.in_default.ensures.none;
  bytes = λ tells. c.in-Bytes.ensures.bytes tells ∙ c.loop-place.invariant.bytes tells;
  stays = λ tells. c.in-Bytes.ensures.stays tells ∙ c.loop-place.invariant.stays tells;
  reads = λ tells.
      reads-then _ c.bytes-held.result.now (g.S.Source.left c.loop-place.source) _ (g.S.Source.told c.loop-place.source) _ _ _
      (ap (λ held. held ++ g.S.Source.left c.loop-place.source) c.bytes-held.ensures ∙ c.loop-place.invariant.bytes tells) c.in_default.ensures.none c.loop-place.invariant.shown
      (c.loop-place.invariant.reads tells) (c.in-Bytes.ensures.noted tells);
  shown = c.in-Bytes.ensures.shown ∙ c.loop-place.invariant.shown;
  unread = λ at_hand. absurd (not-none c.bytes-held.result.now c.args.self.now at_hand (c.bytes-held.ensures ∙ (c.loop-place.invariant.unread at_hand).0) c.in_default.ensures.none);
  faults = c.in-Bytes.ensures.cause ∙ c.loop-place.invariant.faults;
}

pub returns-in-Finish-clause-reads : goal.returns-in-Finish-clause-reads
returns-in-Finish-clause-reads g c tells =
    reads-then _ c.bytes-held.result.now (g.S.Source.left c.loop-place.source) _ (g.S.Source.told c.loop-place.source) _ _ _
    (ap (λ held. held ++ g.S.Source.left c.loop-place.source) c.bytes-held.ensures ∙ c.loop-place.invariant.bytes tells) c.in_default.ensures.none c.loop-place.invariant.shown
    (c.loop-place.invariant.reads tells) (c.in-Finish.ensures.noted tells)

pub returns-in-Failed-clause-reads : goal.returns-in-Failed-clause-reads
returns-in-Failed-clause-reads g c tells =
    reads-then _ c.bytes-held.result.now (g.S.Source.left c.loop-place.source) _ (g.S.Source.told c.loop-place.source) _ _ _
    (ap (λ held. held ++ g.S.Source.left c.loop-place.source) c.bytes-held.ensures ∙ c.loop-place.invariant.bytes tells) c.in_default.ensures.none c.loop-place.invariant.shown
    (c.loop-place.invariant.reads tells) (c.in-Failed.ensures.noted tells)

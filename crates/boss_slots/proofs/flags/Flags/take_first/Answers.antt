use Rattle.std.proofs.Common.{ℕ, ◌==◌, ◌<◌, false, length, ap, refl, ◌∙◌, arith}
use Rattle.std.proofs.lemmas.List.{get_or_read}
use Rattle.boss_slots.proofs.Flagged.{filled-stays, first-filled, first-flag, flags-cleared, flags-written, no-flag, none-filled, some-word}
use Rattle.boss_slots.proofs.Words.{some-within}
use Rattle.boss_slots.proofs.flags.Flags.take_first.Goals as goal
use Rattle.boss_slots.proofs.flags.Flags.take_first.Goals.{then-index-eq0, else-index-eq0}

pub returns-in_err-word-clause-none : goal.returns-in_err-word-clause-none
returns-in_err-word-clause-none c =
    rw (c.from_residual.ensures, ← c.self.view_is)
    (λ point. no-flag c.self.inside.count c.self.inside.words.items point
    (none-filled c.self.inside.words.items c.self.inside.filled.items c.self.invariant.known (rw c.deref.ensures.value at c.in_err-word.ensures.none) point))

pub invariant_of-self-else-index-eq0 : goal.invariant_of-self-else-index-eq0
invariant_of-self-else-index-eq0 c =
    let words = c.self.inside.words.items in
    let filled = c.self.inside.filled.items in
    let word = c.in_ok-word.word in
    let new = c.take_bit-place.new.words.items in
    let here = c.take_bit-place.ensures in
    let at = rw c.deref.ensures.value at c.in_ok-word.ensures.some in
    let first = first-filled words filled word _ c.self.invariant.known at here.first in
    let within : word < length new = omega (arith, some-within words word (some-word words filled word c.self.invariant.known at.is), here.length) in
    let read = get_or_read new _ _ within c.index.ensures 0 in
    flags-cleared c.self.inside.count words _ filled _ c.take_bit-place.result c.self.invariant (c.self.invariant.within _ first.is) here.length here.bits refl
    (filled-stays words _ filled word c.self.invariant.known (λ zero. c.if-index-eq0.false (read ∙ zero)) here.less here.words)

pub returns-clause-first : goal.returns-clause-first
returns-clause-first c =
    let bit = first-filled c.self.inside.words.items c.self.inside.filled.items c.in_ok-word.word _ c.self.invariant.known (rw c.deref.ensures.value at c.in_ok-word.ensures.some) c.take_bit-place.ensures.first in
    rw (← c.self.view_is) (first-flag c.self.inside.count c.self.inside.words.items _ c.self.invariant.within bit)

pub returns-clause-cleared : goal.returns-clause-cleared
returns-clause-cleared c =
    let written = flags-written c.self.inside.count c.self.inside.words.items _ c.take_bit-place.result false (ap (λ (bit : ℕ). bit == 1) c.take_bit-place.ensures.here) c.take_bit-place.ensures.bits in
    rw (← c.self.view_is) (elim c.if-index-eq0.branch [ then-index-eq0 w ↦ w.self-is ∙ written | else-index-eq0 w ↦ w.self-is ∙ written ])

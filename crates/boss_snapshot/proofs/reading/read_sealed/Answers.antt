use Rattle.std.proofs.Common.{◌∙◌, sym, take}
use Rattle.boss_model.specs.Seen.{seen}
use Rattle.boss_snapshot.specs.Spells.{SpellsState, SpellsSealed}
use Rattle.boss_snapshot.proofs.KeptStates.{unsealed_text, none_read}
use Rattle.boss_snapshot.proofs.reading.read_sealed.Goals as goal

pub returns-in-Some-clause-only : goal.returns-in-Some-clause-only
returns-in-Some-clause-only c =
    let head = c.args.head.now in
    let bytes = take c.in-Some.size c.args.bytes.now in
    none_read c.read_kept-in-Some.result seen (λ d. SpellsSealed head.version head.seed d c.args.bytes.now) (λ d. SpellsState head.version d bytes)
    (λ d spells. unsealed_text head.version head.seed d c.args.bytes.now bytes (sym c.has_sums.ensures ∙ c.if-not-has_sums.false) c.in-Some.ensures.right.1 spells)
    c.read_kept-in-Some.ensures.only

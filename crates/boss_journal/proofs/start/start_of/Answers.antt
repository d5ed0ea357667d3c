use Rattle.boss_journal.specs.Fronts.{IsNew}
use Rattle.boss_journal.proofs.FirstBytes.{is_begun, not_new, found_at, refused, denied, some_bytes}
use Rattle.boss_journal.proofs.start.start_of.Goals as goal

pub returns-then-is_begun-clause-start : goal.returns-then-is_begun-clause-start
returns-then-is_begun-clause-start c bytes is =
    let begun = c.is_begun.ensures.0 c.if-is_begun.true in
    (is_begun c.args.first.now bytes is (some_bytes c.args.first.now _ c.is_empty.ensures c.if-is_empty.false) begun.0 begun.1, c.in_default.ensures bytes is)

pub returns-in-Ok-clause-start : goal.returns-in-Ok-clause-start
returns-in-Ok-clause-start c bytes is =
    let front = c.in-Ok.ensures.front bytes is in
    let new : IsNew c.args.digest.now bytes → ⊥ = not_new c.args.digest.now c.args.first.now bytes is (some_bytes c.args.first.now _ c.is_empty.ensures c.if-is_empty.false) c.if-first-eq1.false
    (λ begun. denied c.is_begun.result c.is_begun.ensures.1 c.if-is_begun.false begun) (c.in_default.ensures bytes is) in
    found_at c.args.digest.now bytes c.in-Ok.version new front.0 c.told-digest front.1.0 front.1.1 front.1.2

pub returns-in-Err-clause-start : goal.returns-in-Err-clause-start
returns-in-Err-clause-start c bytes is =
    let new : IsNew c.args.digest.now bytes → ⊥ = not_new c.args.digest.now c.args.first.now bytes is (some_bytes c.args.first.now _ c.is_empty.ensures c.if-is_empty.false) c.if-first-eq1.false
    (λ begun. denied c.is_begun.result c.is_begun.ensures.1 c.if-is_begun.false begun) (c.in_default.ensures bytes is) in
    refused c.args.digest.now bytes c.in-Err.refusal new (c.in-Err.ensures.front bytes is)

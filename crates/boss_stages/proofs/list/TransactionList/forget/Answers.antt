use Rattle.std.proofs.Common.{◌≡◌, [], ◌∷◌, false, true, set, length, refl, sym, ◌∙◌, ap, arith}
use Rattle.std.proofs.lemmas.List.{length-set}
use Rattle.boss_stages.specs.declared.entry.Entry.TheVariants.{Forgotten}
use Rattle.boss_stages.specs.Entries.{is_kept, all_kept}
use Rattle.boss_stages.specs.Stages.{without}
use Rattle.boss_stages.proofs.Order.{without-none, without_read, own, rising_set, all_kept-filter, Rising-filter, length-filter, fewer-forgotten, forgotten-still}
use Rattle.boss_stages.proofs.list.TransactionList.forget.Goals as goal

pub returns-in_default : goal.returns-in_default
returns-in_default c = rw (← c.self.view_is, without-none c.args.txn c.self.inside.entries.items (sym c.place_of.ensures.place ∙ c.in_default.is)) refl

pub returns-then-not-is_kept : goal.returns-then-not-is_kept
returns-then-not-is_kept c =
    let entries = c.self.inside.entries.items in
    let found = sym c.place_of.ensures.place ∙ c.in-Some.is in
    let entry = c.index.result.now in
    let gone : is_kept entry ≡ false = sym c.is_kept.ensures ∙ c.if-not-is_kept.true in
    let still = forgotten-still c.args.txn entries c.in-Some.place entry (ap is_kept (sym c.index.ensures) ∙ gone) in
    let same : without (c.args.txn ∷ []) (all_kept entries) ≡ all_kept entries = sym (without_read c.args.txn entries c.in-Some.place c.self.invariant.0 found entry c.index.ensures) ∙ still in
    rw (← c.self.view_is, same) refl

pub invariant_of-self : goal.invariant_of-self
invariant_of-self c =
    let entries = c.self.inside.entries.items in
    let found = sym c.place_of.ensures.place ∙ c.in-Some.is in
    let entry = c.index.result.now in
    let new = set entries c.in-Some.place (Forgotten c.args.txn) in
    let number = sym (own c.args.txn entries c.in-Some.place c.self.invariant.0 found entry c.index.ensures) in
    let rising = rising_set c.args.txn entries c.in-Some.place c.self.invariant.0 found entry c.index.ensures (Forgotten c.args.txn) number in
    rw c.close_up-taken.ensures.items (Rising-filter new rising, omega (arith, length-filter new, ap length (all_kept-filter new)), omega arith)

pub returns-then-self-eq-FORGOTTEN_LEFT : goal.returns-then-self-eq-FORGOTTEN_LEFT
returns-then-self-eq-FORGOTTEN_LEFT c =
    let entries = c.self.inside.entries.items in
    let found = sym c.place_of.ensures.place ∙ c.in-Some.is in
    let left = without_read c.args.txn entries c.in-Some.place c.self.invariant.0 found c.index.result.now c.index.ensures in
    rw (← c.self.view_is, c.close_up-taken.ensures.items, c.close_up-taken.ensures.room, all_kept-filter (set entries c.in-Some.place (Forgotten c.args.txn)), left) refl

pub invariant_of-self-else-self-eq-FORGOTTEN_LEFT : goal.invariant_of-self-else-self-eq-FORGOTTEN_LEFT
invariant_of-self-else-self-eq-FORGOTTEN_LEFT c =
    let entries = c.self.inside.entries.items in
    let found = sym c.place_of.ensures.place ∙ c.in-Some.is in
    let entry = c.index.result.now in
    let number = sym (own c.args.txn entries c.in-Some.place c.self.invariant.0 found entry c.index.ensures) in
    let stood : is_kept entry ≡ true = sym c.is_kept.ensures ∙ c.if-not-is_kept.false in
    let fewer = fewer-forgotten c.args.txn entries c.in-Some.place entry (c.in-Some.ensures.within) (ap is_kept (sym c.index.ensures) ∙ stood) in (
      rising_set c.args.txn entries c.in-Some.place c.self.invariant.0 found entry c.index.ensures (Forgotten c.args.txn) number,
      omega (arith, fewer, length-set entries c.in-Some.place (Forgotten c.args.txn), c.self.invariant.1),
      omega (arith, c.self.invariant.2, c.if-self-eq-FORGOTTEN_LEFT.false),
    )

pub returns : goal.returns
returns c =
    let entries = c.self.inside.entries.items in
    let found = sym c.place_of.ensures.place ∙ c.in-Some.is in
    let left = without_read c.args.txn entries c.in-Some.place c.self.invariant.0 found c.index.result.now c.index.ensures in
    c.drop_passed-2.ensures ∙ (c.drop_passed.ensures ∙ rw (← c.self.view_is, left) refl)

use Rattle.std.proofs.Common.{◌≡◌, ℕ, ◌==◌, [], ◌∷◌, List, Bool, true, false, Option, None, Some, cond, refl, sym, ◌∙◌, ap, arith, w64}
use Rattle.std.proofs.lemmas.Grind.{common_steps}
use Rattle.std.proofs.lemmas.Int.{to_z-of_z}
use Rattle.boss_model.specs.declared.answer.Refusal.{Refusal}
use Rattle.boss_model.specs.declared.answer.Refusal.TheVariants as refusal
use Rattle.boss_model.specs.Lists.{first_some}
use Rattle.boss_model.specs.Records.{Transaction}
use Rattle.boss_model.specs.Submit.{is_length}
use Rattle.boss_persistent.specs.Refusals.{parts_refused}
use Rattle.boss_persistent.proofs.Recorded.{of-nobody, of-another, of-owner}
use Rattle.boss_persistent.proofs.refusals.renew_refused.Goals as goal

alone : (why : Option Refusal) → first_some (why ∷ []) ≡ why
alone None = refl
alone (Some why) = refl

-- the length fits: only what is said of the transaction is left
left_to : (fits : Bool) (bad why own : Option Refusal) → fits ≡ true → own ≡ why → why ≡ first_some (cond fits None bad ∷ own ∷ [])
left_to fits bad why own is_fit is_own = sym (ap (λ b. first_some (cond b None bad ∷ own ∷ [])) is_fit ∙ alone own ∙ is_own)

abbrev refused : List ℕ → ℕ → Transaction → Option Refusal
refused points n transaction = parts_refused transaction.parts points n

pub returns-in_default : goal.returns-in_default
returns-in_default c =
    let fits : is_length c.args.duration ≡ true = ap is_length (sym (to_z-of_z w64 c.args.duration c.ranges.duration)) ∙ (sym c.is_length.ensures ∙ c.if-not-is_length.false) in
    left_to (is_length c.args.duration) (Some (refusal.BadLease 0)) _ _ fits
    (of-nobody c.args.owner (refused c.args.points.now c.args.n) c.args.lasting.now.stages.kept c.args.txn (sym c.in_default.ensures))

pub returns-then-ne : goal.returns-then-ne
returns-then-ne c =
    let k = c.in-Some.transaction.now in
    let fits : is_length c.args.duration ≡ true = ap is_length (sym (to_z-of_z w64 c.args.duration c.ranges.duration)) ∙ (sym c.is_length.ensures ∙ c.if-not-is_length.false) in
    let other : (k.transaction.owner == c.args.owner) ≡ false = rw (← c.owner.ensures) (grind (arith, common_steps)) in
    left_to (is_length c.args.duration) (Some (refusal.BadLease 0)) _ _ fits
    (of-another c.args.owner (refused c.args.points.now c.args.n) c.args.lasting.now.stages.kept c.args.txn k (sym c.in-Some.ensures) other)

pub returns : goal.returns
returns c =
    let k = c.in-Some.transaction.now in
    let fits : is_length c.args.duration ≡ true = ap is_length (sym (to_z-of_z w64 c.args.duration c.ranges.duration)) ∙ (sym c.is_length.ensures ∙ c.if-not-is_length.false) in
    let own : (k.transaction.owner == c.args.owner) ≡ true = rw (← c.owner.ensures) (grind (arith, common_steps)) in
    c.parts_refused.ensures ∙ (ap (λ parts. parts_refused parts c.args.points.now c.args.n) c.parts.ensures
    ∙ left_to (is_length c.args.duration) (Some (refusal.BadLease 0)) _ _ fits
    (of-owner c.args.owner (refused c.args.points.now c.args.n) c.args.lasting.now.stages.kept c.args.txn k (sym c.in-Some.ensures) own))

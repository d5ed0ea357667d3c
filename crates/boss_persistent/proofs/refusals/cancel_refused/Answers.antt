use Rattle.std.proofs.Common.{◌≡◌, ℕ, ◌==◌, List, map, true, false, Option, Some, None, if◌then◌else◌, cond, sym, ◌∙◌, ap, arith}
use Rattle.std.specs.Prelude.{filter_map}
use Rattle.std.specs.List.{list_any}
use Rattle.std.proofs.lemmas.Grind.{common_steps}
use Rattle.boss_model.specs.declared.answer.Refusal.{Refusal}
use Rattle.boss_model.specs.declared.answer.Refusal.TheVariants as refusal
use Rattle.boss_model.specs.Ends.{is_of, last_part_end}
use Rattle.boss_model.specs.Lists.{latest}
use Rattle.boss_model.specs.Records.{Part, Transaction}
use Rattle.boss_model.specs.State.{Persistent}
use Rattle.boss_persistent.specs.Lasting.{persistent_of}
use Rattle.law_records.proofs.Own.{open-any}
use Rattle.boss_persistent.proofs.Recorded.{is-found, of-nobody, of-another, of-owner}
use Rattle.boss_persistent.proofs.refusals.cancel_refused.Goals as goal

-- why a process's own transaction can't be cancelled
abbrev refused : ℕ → Persistent → Transaction → Option Refusal
refused txn d transaction = if list_any (is_of txn) d.leases then None else Some (refusal.Over (last_part_end transaction))

pub returns-in_default : goal.returns-in_default
returns-in_default c =
    sym (of-nobody c.args.owner (refused c.args.txn (persistent_of c.args.lasting.now)) c.args.lasting.now.stages.kept c.args.txn (sym c.in_default.ensures))

pub returns-then-ne : goal.returns-then-ne
returns-then-ne c =
    let k = c.in-Some.transaction.now in
    let other : (k.transaction.owner == c.args.owner) ≡ false = rw (← c.owner.ensures) (grind (arith, common_steps)) in
    sym (of-another c.args.owner (refused c.args.txn (persistent_of c.args.lasting.now)) c.args.lasting.now.stages.kept c.args.txn k (sym c.in-Some.ensures) other)

pub returns-then-has_live : goal.returns-then-has_live
returns-then-has_live c =
    let k = c.in-Some.transaction.now in
    let own : (k.transaction.owner == c.args.owner) ≡ true = rw (← c.owner.ensures) (grind (arith, common_steps)) in
    let leased : list_any (is_of c.args.txn) (persistent_of c.args.lasting.now).leases ≡ true = open-any c.requires.sound.0 (persistent_of c.args.lasting.now) c.requires.sound.2 c.args.txn k.transaction
    (is-found c.args.lasting.now.stages.kept c.args.txn k (sym c.in-Some.ensures)) ∙ sym c.has_live.ensures ∙ c.if-has_live.true in
    sym (of-owner c.args.owner (refused c.args.txn (persistent_of c.args.lasting.now)) c.args.lasting.now.stages.kept c.args.txn k (sym c.in-Some.ensures) own
    ∙ ap (λ b. cond b None (Some (refusal.Over (last_part_end k.transaction)))) leased)

pub returns : goal.returns
returns c =
    let k = c.in-Some.transaction.now in
    let own : (k.transaction.owner == c.args.owner) ≡ true = rw (← c.owner.ensures) (grind (arith, common_steps)) in
    let over : list_any (is_of c.args.txn) (persistent_of c.args.lasting.now).leases ≡ false = open-any c.requires.sound.0 (persistent_of c.args.lasting.now) c.requires.sound.2 c.args.txn k.transaction
    (is-found c.args.lasting.now.stages.kept c.args.txn k (sym c.in-Some.ensures)) ∙ sym c.has_live.ensures ∙ c.if-has_live.false in
    let last : c.last_part_end.result ≡ last_part_end k.transaction =
    c.last_part_end.ensures ∙ ap (λ (parts : List Part). latest (map (λ end. end.at) (filter_map (λ part. part.end) parts))) c.parts.ensures in
    ap (λ at. Some (refusal.Over at)) last
    ∙ sym (of-owner c.args.owner (refused c.args.txn (persistent_of c.args.lasting.now)) c.args.lasting.now.stages.kept c.args.txn k (sym c.in-Some.ensures) own
    ∙ ap (λ b. cond b None (Some (refusal.Over (last_part_end k.transaction)))) over)

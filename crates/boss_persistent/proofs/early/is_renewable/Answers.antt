use Rattle.std.proofs.Common.{◌≡◌, ◌==◌, ◌&&◌, List, true, false, sym, subst, ◌∙◌, ap, arith}
use Rattle.std.specs.List.{list_all, AllByRecursion}
use Rattle.std.proofs.lemmas.Grind.{common_steps}
use Rattle.boss_model.specs.Records.{Part}
use Rattle.boss_model.specs.Renew.{named_parts, wrote}
use Rattle.law_effects.specs.Early.{is_renewable, open_still}
use Rattle.boss_persistent.specs.Asking.{HasSlot}
use Rattle.boss_persistent.specs.Lasting.{persistent_of}
use Rattle.boss_persistent.proofs.Asked.{owned-none, owned-some, parts-placed}
use Rattle.boss_persistent.proofs.Recorded.{is-found}
use Rattle.boss_persistent.proofs.early.is_renewable.Goals as goal

pub are_meant_open-requires : goal.are_meant_open-requires
are_meant_open-requires c =
    let k = c.in-Some.transaction.now in
    let d = persistent_of c.args.lasting.now in
    let sound = c.requires in
    subst (λ (parts : List Part). AllByRecursion (HasSlot c.args.lasting.now.holdings.points) parts) (sym c.parts.ensures)
    (subst (λ points. AllByRecursion (HasSlot points) k.transaction.parts) sound.1
    (parts-placed sound.0 d c.args.txn k.transaction sound.2 (is-found c.args.lasting.now.stages.kept c.args.txn k (sym c.in-Some.ensures))))

pub returns-in_default : goal.returns-in_default
returns-in_default c = owned-none c.args.owner (is_renewable c.args.n (persistent_of c.args.lasting.now).leases c.args.points.now) c.args.lasting.now.stages.kept c.args.txn (sym c.in_default.ensures)

pub returns-then-ne : goal.returns-then-ne
returns-then-ne c =
    let k = c.in-Some.transaction.now in
    let other : (k.transaction.owner == c.args.owner) ≡ false = rw (← c.owner.ensures) (grind (arith, common_steps)) in
    sym (ap (λ own. own && is_renewable c.args.n (persistent_of c.args.lasting.now).leases c.args.points.now k.transaction) other) ∙ owned-some c.args.owner (is_renewable c.args.n (persistent_of c.args.lasting.now).leases c.args.points.now) c.args.lasting.now.stages.kept c.args.txn k (sym c.in-Some.ensures)

pub returns : goal.returns
returns c =
    let k = c.in-Some.transaction.now in
    let own : (k.transaction.owner == c.args.owner) ≡ true = rw (← c.owner.ensures) (grind (arith, common_steps)) in
    c.are_meant_open.ensures ∙ ap (λ (parts : List Part). list_all (wrote parts) c.args.points.now && list_all (open_still c.args.n (persistent_of c.args.lasting.now).leases) (named_parts c.args.points.now parts)) c.parts.ensures
    ∙ sym (ap (λ own. own && is_renewable c.args.n (persistent_of c.args.lasting.now).leases c.args.points.now k.transaction) own) ∙ owned-some c.args.owner (is_renewable c.args.n (persistent_of c.args.lasting.now).leases c.args.points.now) c.args.lasting.now.stages.kept c.args.txn k (sym c.in-Some.ensures)

use Rattle.std.proofs.Common.{◌≡◌, ◌∙◌, [], None, get_or, ap, sym}
use Rattle.boss_array.specs.Array.{first_pending}
use Rattle.boss_slots.proofs.Looked.{playing-first, key-none, key-some}
use Rattle.boss_slots.proofs.looking.playing_on.Goals as goal

pub returns-in-Some : goal.returns-in-Some
returns-in-Some c =
    let array = get_or c.deref.result.now c.args.point [] in
    let is : get_or c.args.tables.now.arrays.items c.args.point [] ≡ array = ap (λ xs. get_or xs c.args.point []) (sym c.deref.ensures.value) in
    let first = playing-first c.args.tables.now c.requires.kept c.args.point array is c.top_pending.ensures.size c.requires.point in
    (c.pending_of.ensures ∙ ap (λ xs. get_or xs c.in-Some.key None) c.deref-in-Some.ensures.value) ∙ sym (key-some c.args.tables.now.pending.items (first_pending 1 array) c.in-Some.key (sym c.in-Some.ensures.found)) ∙ sym first

pub returns-in-None : goal.returns-in-None
returns-in-None c =
    let array = get_or c.deref.result.now c.args.point [] in
    let is : get_or c.args.tables.now.arrays.items c.args.point [] ≡ array = ap (λ xs. get_or xs c.args.point []) (sym c.deref.ensures.value) in
    let first = playing-first c.args.tables.now c.requires.kept c.args.point array is c.top_pending.ensures.size c.requires.point in
    sym (first ∙ key-none c.args.tables.now.pending.items (first_pending 1 array) (sym c.in-None.ensures.found))

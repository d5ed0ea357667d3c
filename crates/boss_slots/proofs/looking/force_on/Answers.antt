use Rattle.std.proofs.Common.{◌≡◌, ◌∙◌, [], get_or, ap, sym}
use Rattle.boss_array.specs.Array.{first_lease}
use Rattle.boss_slots.proofs.Looked.{force-first, force-there, key-none, key-some}
use Rattle.boss_slots.proofs.looking.force_on.Goals as goal

pub at-requires : goal.at-requires
at-requires c =
    let array = get_or c.deref.result.now c.args.point [] in
    let is : get_or c.args.tables.now.arrays.items c.args.point [] ≡ array = ap (λ xs. get_or xs c.args.point []) (sym c.deref.ensures.value) in
    force-there c.args.tables.now c.requires.kept c.args.point array is c.in-Some.key (sym c.in-Some.ensures.found)

pub returns-in-Some : goal.returns-in-Some
returns-in-Some c =
    let array = get_or c.deref.result.now c.args.point [] in
    let is : get_or c.args.tables.now.arrays.items c.args.point [] ≡ array = ap (λ xs. get_or xs c.args.point []) (sym c.deref.ensures.value) in
    let first = force-first c.args.tables.now c.requires.kept c.args.point array is c.top_lease.ensures.size c.requires.point in
    sym c.at.ensures ∙ sym (key-some c.args.tables.now.leases (first_lease 1 array) c.in-Some.key (sym c.in-Some.ensures.found)) ∙ sym first

pub returns-in-None : goal.returns-in-None
returns-in-None c =
    let array = get_or c.deref.result.now c.args.point [] in
    let is : get_or c.args.tables.now.arrays.items c.args.point [] ≡ array = ap (λ xs. get_or xs c.args.point []) (sym c.deref.ensures.value) in
    let first = force-first c.args.tables.now c.requires.kept c.args.point array is c.top_lease.ensures.size c.requires.point in
    sym (first ∙ key-none c.args.tables.now.leases (first_lease 1 array) (sym c.in-None.ensures.found))

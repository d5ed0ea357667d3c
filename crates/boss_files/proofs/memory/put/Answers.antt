use Rattle.std.proofs.Common.{◌≡◌, ◌∙◌, sym, None, true, false}
use Rattle.boss_files.specs.Shelf.{bytes_under}
use Rattle.boss_files.proofs.Shelves.{put_here, put_elsewhere, none_under}
use Rattle.boss_files.proofs.memory.put.Goals as goal

pub unreachable-requires : goal.unreachable-requires
unreachable-requires c =
    let none : bytes_under c.args.files.now c.args.name.now ≡ None = none_under c.args.files.now c.args.name.now (sym c.place_of-place.ensures ∙ c.in_default.is) in
    let wrong : false ≡ true = rw none at c.requires in cc

pub returns-clause-here : goal.returns-clause-here
returns-clause-here c =
    put_here c.args.files.now c.args.name.now c.args.bytes c.in-Some.place c.index-files-place.result (sym c.place_of-place.ensures ∙ c.in-Some.is)

pub returns-clause-others : goal.returns-clause-others
returns-clause-others c file differ =
    put_elsewhere c.args.files.now c.args.name.now c.args.bytes file c.in-Some.place c.index-files-place.result
    (sym c.place_of-place.ensures ∙ c.in-Some.is) differ

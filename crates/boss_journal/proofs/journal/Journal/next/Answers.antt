use Rattle.std.proofs.Common.{rules, ◌≡◌, ◌∙◌, ◌+◌, [], ◌∷◌, ◌++◌, ap, take, drop, sym, subst}
use Rattle.boss_journal.specs.Places.{IsAt}
use Rattle.boss_journal.proofs.Passed.{passed}
use Rattle.boss_journal.proofs.journal.Journal.next.Goals as goal

pub returns-in-Ok-clause-tells : goal.returns-in-Ok-clause-tells
returns-in-Ok-clause-tells g c told front records at =
    let place = c.args.self.now.place in
    let found = rw c.in-Ok-Whole.field-0-is at (c.in-Ok-Whole.ensures.heading told) in
    let emptied : c.clear.new.self.bytes ≡ [] = search rules in
    let given : c.read_bytes.new.into.bytes ≡ take c.in-Ok-Whole.size (drop (c.args.self.now.place + 5) (g.D.Disk.reads c.args.self.now.disk)) =
    c.in-Ok.ensures.given told
    ∙ ap (λ l. l ++ take c.in-Ok-Whole.size (drop (c.args.self.now.place + 5) (g.D.Disk.reads c.read_heading.new.disk))) emptied
    ∙ ap (λ l. take c.in-Ok-Whole.size (drop (c.args.self.now.place + 5) l)) (c.read_heading.ensures.reads told) in
    subst (λ n. IsAt front (records ++ c.read_bytes.new.into.bytes ∷ []) (c.args.self.now.place + n + 5) (g.D.Disk.reads c.args.self.now.disk)) (sym c.from.ensures)
    (passed front records place c.in-Ok-Whole.size _ found.0 _ at found.1 found.2 found.3 given)

use Rattle.std.proofs.Common.{◌≡◌, ◌∙◌, ◌++◌, IsTrue, ap, sym, subst}
use Rattle.boss_disk.specs.Record.{state_of}
use Rattle.boss_files.specs.Files.{windows}
use Rattle.boss_files.specs.Shelf.{Shelf, past_under}
use Rattle.boss_files.proofs.Shelves.{kept_elsewhere, kept_gains}
use Rattle.boss_files.proofs.memory.MemoryFilesFiles.close.Goals.{then-faults-gt0, else-faults-gt0}
use Rattle.boss_files.proofs.memory.MemoryFilesFiles.close.Goals as goal

pub returns-clause-gains : goal.returns-clause-gains
returns-clause-gains c =
    let was : Shelf = c.args.self.now in
    let mid : Shelf = c.if-faults-gt0.self in
    let name = c.args.name.now in
    let same : mid.stores ≡ was.stores = elim c.if-faults-gt0.branch [
      | then-faults-gt0 w ↦ ap (λ (s : Shelf). s.stores) w.self-is ∙ ap (λ (s : Shelf). s.stores) c.self.view_is
      | else-faults-gt0 w ↦ ap (λ (s : Shelf). s.stores) w.self-is
    ] in
    let level : mid.whole ≡ was.whole = elim c.if-faults-gt0.branch [
      | then-faults-gt0 w ↦ ap (λ (s : Shelf). s.whole) w.self-is ∙ ap (λ (s : Shelf). s.whole) c.self.view_is
      | else-faults-gt0 w ↦ ap (λ (s : Shelf). s.whole) w.self-is
    ] in
    subst
    (λ (s : Shelf). IsTrue s.whole → IsTrue was.whole × (past_under s.stores name ≡ past_under was.stores name ++ windows (state_of c.args.store).story))
    (sym c.self-2.view_is) (kept_gains was mid c.keep-bytes.new.self name c.args.store same level c.keep-bytes.ensures.kept)

pub returns-clause-past : goal.returns-clause-past
returns-clause-past c file differ =
    let was : Shelf = c.args.self.now in
    let mid : Shelf = c.if-faults-gt0.self in
    let same : mid.stores ≡ was.stores = elim c.if-faults-gt0.branch [
      | then-faults-gt0 w ↦ ap (λ (s : Shelf). s.stores) w.self-is ∙ ap (λ (s : Shelf). s.stores) c.self.view_is
      | else-faults-gt0 w ↦ ap (λ (s : Shelf). s.stores) w.self-is
    ] in
    ap (λ (s : Shelf). past_under s.stores file) c.self-2.view_is
    ∙ kept_elsewhere was mid c.keep-bytes.new.self c.args.name.now c.args.store same c.keep-bytes.ensures.kept file differ

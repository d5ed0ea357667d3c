-- The reads that are made for a line.
use Rattle.std.proofs.Common.{◌≡◌, ℕ, ◌++◌, List, Option, length, refl, sym}
use Rattle.boss_outside.specs.declared.source.ReadAt.{ReadAt}
use Rattle.boss_outside.specs.Notes.{Notes, NotesEach}
use Rattle.boss_outside.proofs.Noting.{notes-one, notes-then}
use Rattle.boss_lines.specs.Lines.{IsReadFor}
use Rattle.boss_lines.specs.Window.{NoLineEnd}
use Rattle.boss_lines.proofs.TakenLemmas.{open-lines}

-- one read more was made, while the bytes that are held had no line end
pub reads-then : (bytes held left : List ℕ) (first told : ℕ) (a b c : Option (List ReadAt)) → held ++ left ≡ bytes → NoLineEnd (length held) held → told ≡ first →
    NotesEach (IsReadFor bytes first) a b → Notes b c (record { left = length left; told = told }) → NotesEach (IsReadFor bytes first) a c
reads-then bytes held left first told a b c split none same before noted =
    notes-then (IsReadFor bytes first) a b c before
    (notes-one (IsReadFor bytes first) b c (record { left = length left; told = told })
    (record { come = held; rest = left; split = sym split; left = refl; waiting = open-lines held none; shown = same }) noted)

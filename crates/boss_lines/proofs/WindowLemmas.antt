use Rattle.std.proofs.Common.{◌≡◌, ℕ, ◌+◌, List, [], ◌++◌, length, take, drop, refl, sym, ◌∙◌, ap, append_assoc, append-nil, arith}
use Rattle.std.proofs.Math.Seq.{take-add}
use Rattle.std.proofs.lemmas.List.{drop-take, drop-drop, length-take-le}
use Rattle.boss_outside.specs.declared.source.Got.{Got}
use Rattle.boss_outside.specs.declared.source.Got.TheVariants.{Bytes, Finish, Failed}
use Rattle.boss_outside.specs.Streams.{count_of, FitsRoom, Reads}
use Rattle.boss_lines.specs.Window.{Adds}

-- the bytes that are held once the first of them are let go
pub take-drop-add : (bytes : List ℕ) (start count rest : ℕ)
    → take rest (drop (start + count) bytes) ≡ drop count (take (count + rest) (drop start bytes))
take-drop-add bytes start count rest = sym (drop-take count rest (drop start bytes) ∙ ap (take rest) (drop-drop count start bytes))

-- the bytes that are held once more were read behind them
pub take-add-drop : (old new : List ℕ) (start count more : ℕ) → take (start + count) new ≡ take (start + count) old
    → take (count + more) (drop start new) ≡ take count (drop start old) ++ take more (drop (start + count) new)
take-add-drop old new start count more before =
    let held : take count (drop start new) ≡ take count (drop start old) = sym (drop-take start count new) ∙ ap (drop start) before ∙ drop-take start count old in
    take-add count more (drop start new)
    ∙ ap (λ (xs : List ℕ). xs ++ take more (drop count (drop start new))) held
    ∙ ap (λ (xs : List ℕ). take count (drop start old) ++ take more xs) (drop-drop count start new)

-- the bytes that are held after they were moved and more were read behind them
pub held-read : (held bytes moved read items : List ℕ) (start place count given more : ℕ)
    → take count (drop start bytes) ≡ held
    → take count (drop place moved) ≡ take count (drop start bytes)
    → take (place + count) read ≡ take (place + count) moved
    → items ≡ read → given ≡ more
    → take (count + given) (drop place items) ≡ held ++ take more (drop (place + count) read)
held-read held bytes moved read items start place count given more is kept before all same =
    rw (all, same, take-add-drop moved read place count more before, kept, is) refl

-- what a read puts behind the bytes that are held
pub Adds-read : (got : Got) (room : ℕ) (held new into : List ℕ) → FitsRoom room got → length into ≡ room → new ≡ held ++ take (count_of got) into → Adds held new got
Adds-read (Bytes count) room held new into fits size is = (take count into, is, length-take-le count into (omega (arith, fits.1)), fits.0)
Adds-read Finish room held new into fits size is = is ∙ append-nil held
Adds-read Failed room held new into fits size is = is ∙ append-nil held

-- the bytes that are held and those that are left are those of before the read
pub append-read : (got : Got) (held new into left rest : List ℕ) → Reads left rest into got → new ≡ held ++ take (count_of got) into → new ++ rest ≡ held ++ left
append-read (Bytes count) held new into left rest reads is = rw (is, append_assoc, reads) refl
append-read Finish held new into left rest reads is = rw (reads.0, reads.1) (ap (λ (xs : List ℕ). xs ++ []) (is ∙ append-nil held))
append-read Failed held new into left rest reads is = rw (is, reads, append-nil) refl

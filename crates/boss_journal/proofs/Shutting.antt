-- What shutting the last gate leaves: any byte at the gate, and all else as it was.
use Rattle.std.proofs.Common.{◌≡◌, ◌≢◌, ℕ, ◌<◌, List, [], ◌∷◌, ◌++◌, length, take, drop, refl, sym, ap, subst, ◌∙◌, arith}
use Rattle.std.specs.Prelude.{Result}
use Rattle.std.proofs.lemmas.List.{drop_at}
use Rattle.boss_disk.specs.Images.{length-overwritten}
use Rattle.boss_disk.specs.Runs.{Leaves, Since, WritesThrough}
use Rattle.boss_disk.specs.Story.{Story}
use Rattle.boss_disk.specs.Window.{Window, settled, overwritten}
use Rattle.boss_disk.proofs.Runs.{stands, write_leaves}
use Rattle.boss_disk.proofs.Torn.{synced_image, write_over, overwritten_parts}
use Rattle.def_log.specs.Log.{spelled}
use Rattle.boss_journal.specs.Places.{IsAtEnd, IsAtRest}
use Rattle.boss_journal.specs.Reads.{Repairs}
use Rattle.boss_journal.proofs.Appends.{at_gate, from_gate}
use Rattle.boss_journal.proofs.Frames.{lone}

-- the byte at the place is the gate
pub gate_read : (front : List ℕ) (rs : List (List ℕ)) (place : ℕ) (reads : List ℕ) (byte : ℕ) → (last : IsAtEnd front rs place reads)
    → take 1 (drop place reads) ≡ byte ∷ [] → byte ≡ last.log.gate
gate_read front rs place reads byte last is =
    let there : drop place reads ≡ last.log.gate ∷ last.log.tail =
    ap (drop place) (at_gate front rs (last.log.gate ∷ last.log.tail) reads last.log.is)
    ∙ drop_at (front ++ spelled rs) (last.log.gate ∷ last.log.tail) place (sym last.here) in
    let one : byte ∷ [] ≡ last.log.gate ∷ [] = sym is ∙ ap (take 1) there in
    cc

-- nothing was written
pub still_leaves : (front : List ℕ) (rs : List (List ℕ)) (place : ℕ) (reads : List ℕ) (window : Window) → (last : IsAtEnd front rs place reads)
    → window ≡ settled reads → Leaves (Repairs front rs last.log.gate last.log.tail) window
still_leaves front rs place reads window last synced =
    λ bytes image. record { now = last.log.gate; is = synced_image window reads bytes synced image ∙ last.log.is; idle = λ zero. zero }

pub still_rests : (front : List ℕ) (rs : List (List ℕ)) (place : ℕ) (reads : List ℕ) (window : Window) → (last : IsAtEnd front rs place reads)
    → window ≡ settled reads → last.log.gate ≡ 0 → IsAtRest front rs place reads window
still_rests front rs place reads window last synced zero = record {
  tail = last.log.tail;
  is = last.log.is ∙ ap (λ g. front ++ (spelled rs ++ g ∷ last.log.tail)) zero;
  here = last.here;
  each = last.log.each;
  synced = synced;
}

-- 0 was written at the gate, and synced
pub shutting : {T E : Type 0} (front : List ℕ) (rs : List (List ℕ)) (place : ℕ) (reads : List ℕ) (old new : Story) (result : Result T E)
    → (last : IsAtEnd front rs place reads) → old.window ≡ settled reads → last.log.gate ≢ 0
    → WritesThrough place (0 ∷ []) reads old new result → Since (Repairs front rs last.log.gate last.log.tail) old new
shutting front rs place reads old new result last synced other run =
    let parts : reads ≡ (front ++ spelled rs) ++ ((last.log.gate ∷ []) ++ last.log.tail) = at_gate front rs (last.log.gate ∷ last.log.tail) reads last.log.is in
    write_leaves (Repairs front rs last.log.gate last.log.tail) place (0 ∷ []) reads old new result run
    (λ image torn.
    let found = write_over (front ++ spelled rs) (last.log.gate ∷ []) last.log.tail reads place 1 old.window image synced parts last.here refl torn in
    let one = lone found.0 found.2 in
    record {
      now = one.0;
      is = from_gate front rs (one.0 ∷ last.log.tail) image (found.1 ∙ ap (λ l. (front ++ spelled rs) ++ (l ++ last.log.tail)) one.1);
      idle = λ zero. absurd (other zero);
    })
    (record {
      now = 0;
      is =
          from_gate front rs (0 ∷ last.log.tail) (overwritten place (0 ∷ []) reads)
          (overwritten_parts (front ++ spelled rs) (last.log.gate ∷ []) last.log.tail reads (0 ∷ []) place parts last.here refl);
      idle = λ zero. refl;
    })

pub shut_rests : (front : List ℕ) (rs : List (List ℕ)) (place : ℕ) (reads now : List ℕ) (new : Window) → (last : IsAtEnd front rs place reads)
    → now ≡ overwritten place (0 ∷ []) reads → new ≡ settled (overwritten place (0 ∷ []) reads) → IsAtRest front rs place now new
shut_rests front rs place reads now new last over synced =
    let parts : reads ≡ (front ++ spelled rs) ++ ((last.log.gate ∷ []) ++ last.log.tail) = at_gate front rs (last.log.gate ∷ last.log.tail) reads last.log.is in
    record {
      tail = last.log.tail;
      is =
          over
          ∙ from_gate front rs (0 ∷ last.log.tail) (overwritten place (0 ∷ []) reads)
          (overwritten_parts (front ++ spelled rs) (last.log.gate ∷ []) last.log.tail reads (0 ∷ []) place parts last.here refl);
      here = last.here;
      each = last.log.each;
      synced = synced ∙ ap settled (sym over);
    }

pub still_inside : (place : ℕ) (reads now : List ℕ) → place < length reads → now ≡ overwritten place (0 ∷ []) reads → place < length now
still_inside place reads now inside over =
    let size : length now ≡ length (overwritten place (0 ∷ []) reads) = ap length over in
    omega (arith, length-overwritten place (0 ∷ []) reads)

-- a call that leaves the story leaves its images
pub stays_so : (P : List ℕ → Type 0) (old new : Story) → new ≡ old → Leaves P old.window → Since P old new
stays_so P old new same here = subst (Since P old) (sym same) (stands old here)

-- the same behind a call that left the disk as it was
pub shutting_behind : {T E : Type 0} (front : List ℕ) (rs : List (List ℕ)) (place : ℕ) (reads held : List ℕ) (old mid new : Story) (result : Result T E)
    → (last : IsAtEnd front rs place reads) → old.window ≡ settled reads → last.log.gate ≢ 0 → held ≡ reads → mid ≡ old
    → WritesThrough place (0 ∷ []) held mid new result → Since (Repairs front rs last.log.gate last.log.tail) old new
shutting_behind front rs place reads held old mid new result last synced other same still run =
    shutting front rs place reads old new result last synced other
    (subst (λ m. WritesThrough place (0 ∷ []) reads m new result) still
    (subst (λ h. WritesThrough place (0 ∷ []) h mid new result) same run))

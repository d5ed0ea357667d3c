-- What reading a record leads to.
use Rattle.std.proofs.Common.{◌≡◌, ℕ, ◌+◌, ◌<◌, ◌≤◌, List, [], ◌∷◌, ◌++◌, length, take, drop, refl, sym, ap, ◌∙◌, ◌-◌, append_assoc, append-nil, length-append, length-drop, arith}
use Rattle.std.specs.Int.{w32, to_be_bytes}
use Rattle.std.proofs.lemmas.List.{drop_at, drop-drop, take-append-drop, length-take-le}
use Rattle.std.proofs.Math.Seq.{take-add}
use Rattle.boss_model.specs.Limits.{longest_record}
use Rattle.def_log.specs.Log.{framed, spelled}
use Rattle.boss_journal.specs.Places.{IsAt}
use Rattle.boss_journal.proofs.Appends.{at_gate, next_gate, records_more}
use Rattle.boss_journal.proofs.Frames.{spelled_more}

-- what is read on from a place
pub one_piece_more : (bytes held : List ℕ) (at done size : ℕ) → bytes ++ take done (drop at held) ++ take size (drop (at + done) held)
    ≡ bytes ++ take (done + size) (drop at held)
one_piece_more bytes held at done size =
    append_assoc bytes (take done (drop at held)) (take size (drop (at + done) held))
    ∙ ap (λ l. bytes ++ l)
    (ap (λ l. take done (drop at held) ++ take size l) (sym (drop-drop done at held)) ∙ sym (take-add done size (drop at held)))

-- what stands at the place of a journal
pub drop_place : (front : List ℕ) (rs : List (List ℕ)) (place : ℕ) (reads : List ℕ) → (at : IsAt front rs place reads) → drop place reads ≡ at.gate ∷ at.tail
drop_place front rs place reads at =
    ap (drop place) (at_gate front rs (at.gate ∷ at.tail) reads at.is)
    ∙ drop_at (front ++ spelled rs) (at.gate ∷ at.tail) place (sym at.here)

-- at least one more
pub some_more : (l : List ℕ) → 0 < length l → (x : ℕ) × (more : List ℕ) × (l ≡ x ∷ more)
some_more [] many = absurd (omega arith)
some_more (x ∷ l) many = (x, l, refl)

-- a record and a gate stand behind an open gate
pub passed : (front : List ℕ) (rs : List (List ℕ)) (place size : ℕ) (reads more bytes : List ℕ) → IsAt front rs place reads
    → drop place reads ≡ 1 ∷ (to_be_bytes w32 size ++ more) → size < length more → size ≤ longest_record
    → bytes ≡ take size (drop (place + 5) reads) → IsAt front (rs ++ bytes ∷ []) (place + size + 5) reads
unfolding framed
passed front rs place size reads more bytes at parts inside short read =
    let behind : drop (place + 5) reads ≡ more =
    sym (drop-drop 5 place reads) ∙ ap (drop 5) parts ∙ drop_at (to_be_bytes w32 size) more 4 refl in
    let all : bytes ≡ take size more = read ∙ ap (take size) behind in
    let count : length bytes ≡ size = ap length all ∙ length-take-le size more (omega arith) in
    let left : length (drop size more) ≡ length more - size = length-drop size more in
    let gate = some_more (drop size more) (omega arith) in
    let split : more ≡ bytes ++ gate.0 ∷ gate.1 =
    sym (take-append-drop size more) ∙ ap (λ l. l ++ drop size more) (sym all) ∙ ap (λ l. bytes ++ l) gate.2 in
    let here : at.gate ∷ at.tail ≡ 1 ∷ (framed bytes ++ gate.0 ∷ gate.1) =
    sym (drop_place front rs place reads at) ∙ parts
    ∙ ap (λ l. 1 ∷ (to_be_bytes w32 size ++ l)) split
    ∙ ap (λ n. 1 ∷ (to_be_bytes w32 n ++ (bytes ++ gate.0 ∷ gate.1))) (sym count)
    ∙ ap (λ l. 1 ∷ l) (sym (append_assoc (to_be_bytes w32 (length bytes)) bytes (gate.0 ∷ gate.1))) in
    record {
      gate = gate.0;
      tail = gate.1;
      is =
          at.is ∙ ap (λ l. front ++ (spelled rs ++ l)) here
          ∙ ap (λ l. front ++ l) (sym (spelled_more rs bytes (gate.0 ∷ gate.1)));
      here = ap (λ n. place + n + 5) (sym count) ∙ next_gate front rs bytes place at.here;
      each = records_more rs bytes at.each (omega arith);
    }

-- the first gate stands behind the front
pub at_first : (front rest : List ℕ) (place first : ℕ) (reads held : List ℕ) → reads ≡ front ++ rest → place ≡ length front → place < length reads
    → first ≡ place → held ≡ reads → IsAt front [] first held
at_first front rest place first reads held is here inside same kept =
    let size : length reads ≡ length front + length rest = ap length is ∙ length-append front rest in
    let gate = some_more rest (omega arith) in
    record {
      gate = gate.0;
      tail = gate.1;
      is = kept ∙ is ∙ ap (λ l. front ++ l) gate.2;
      here = same ∙ here ∙ ap length (sym (append-nil front));
      each = tt;
    }

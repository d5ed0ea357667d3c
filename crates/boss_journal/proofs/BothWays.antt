-- A gate and what is behind it, written at once or one after the other.
use Rattle.std.proofs.Common.{◌≡◌, ℕ, ◌+◌, ◌<◌, List, [], ◌∷◌, ◌++◌, length, take, drop, refl, sym, ap, ◌∙◌, append_assoc, length-append, length-drop, take-append-drop, arith}
use Rattle.std.proofs.lemmas.List.{length-take-le}
use Rattle.boss_disk.specs.Window.{overwritten}
use Rattle.boss_disk.proofs.Torn.{overwritten_behind, overwritten_parts}
use Rattle.boss_journal.proofs.Passed.{some_more}

pub same_bytes : (gate : ℕ) (behind held : List ℕ) (place : ℕ) → place < length held
    → overwritten place (gate ∷ behind) held ≡ overwritten place (gate ∷ []) (overwritten (place + 1) behind held)
same_bytes gate behind held place inside =
    let front : List ℕ = take place held in
    let size : length (take place held) ≡ place = length-take-le place held (omega arith) in
    let found = some_more (drop place held) (omega (arith, length-drop place held)) in
    let is : held ≡ take place held ++ (found.0 ∷ found.1) = sym (take-append-drop place held) ∙ ap (λ l. take place held ++ l) found.2 in
    let parts : held ≡ (take place held ++ found.0 ∷ []) ++ found.1 = is ∙ sym (append_assoc (take place held) (found.0 ∷ []) found.1) in
    let next : place + 1 ≡ length (take place held ++ found.0 ∷ []) = omega (arith, length-append (take place held) (found.0 ∷ [])) in
    let rest : List ℕ = behind ++ drop (length behind) found.1 in
    let mid : overwritten (place + 1) behind held ≡ take place held ++ ((found.0 ∷ []) ++ (behind ++ drop (length behind) found.1)) =
    overwritten_behind (take place held ++ found.0 ∷ []) found.1 held behind (place + 1) parts next
    ∙ append_assoc (take place held) (found.0 ∷ []) (behind ++ drop (length behind) found.1) in
    overwritten_behind (take place held) (found.0 ∷ found.1) held (gate ∷ behind) place is (sym size)
    ∙ sym (overwritten_parts (take place held) (found.0 ∷ []) (behind ++ drop (length behind) found.1) (overwritten (place + 1) behind held) (gate ∷ []) place mid (sym size) refl)

-- What files hold behind a call for a store, and behind one that gives it back.
use Rattle.std.proofs.Common.{◌≡◌, ◌≢◌, ℕ, true, false, List, [], Option, Some, Result, Ok, Err, unwrap_or, bytes_eq, sym, ◌∙◌, ap, refl, ⊎_elim}
use Rattle.std.proofs.lemmas.Bool.{cases_Bool}
use Rattle.std.proofs.lemmas.Slice.Eq.{bytes_eq-Decides}
use Rattle.boss_files.specs.declared.files.FileFault.{FileFault}
use Rattle.boss_files.specs.Files.{opened}

-- something that holds of one name and of all others holds of each
pub of-each : (P : List ℕ → Type 0) (name : List ℕ) → P name → ((file : List ℕ) → file ≢ name → P file) → (file : List ℕ) → P file
of-each P name here other file = ⊎_elim
    (λ is. let same : file ≡ name = (bytes_eq-Decides file name).0 is in rw same here)
    (λ no. other file (λ same. let is : bytes_eq file name ≡ true = (bytes_eq-Decides file name).1 same in let clash : true ≡ false = sym is ∙ no in absurd cc))
    (cases_Bool (bytes_eq file name))

opened-same : {T : Type 0} (held : Option (List ℕ)) (result : Result T FileFault) → unwrap_or (opened held result) [] ≡ unwrap_or held []
opened-same held (Ok _) = refl
opened-same held (Err _) = refl

-- a call for a store keeps the bytes of every file
pub kept-opened : {T : Type 0} (old new : List ℕ → Option (List ℕ)) (name : List ℕ) (result : Result T FileFault) → new name ≡ opened (old name) result →
    ((file : List ℕ) → file ≢ name → new file ≡ old file) → (file : List ℕ) → unwrap_or (new file) [] ≡ unwrap_or (old file) []
kept-opened old new name result there stays = of-each (λ file. unwrap_or (new file) [] ≡ unwrap_or (old file) []) name
    (ap (λ h. unwrap_or h []) there ∙ opened-same (old name) result) (λ file other. ap (λ h. unwrap_or h []) (stays file other))

-- so does giving back a store as it was
pub kept-closed : (old new : List ℕ → Option (List ℕ)) (name bytes : List ℕ) → new name ≡ Some bytes → bytes ≡ unwrap_or (old name) [] →
    ((file : List ℕ) → file ≢ name → new file ≡ old file) → (file : List ℕ) → unwrap_or (new file) [] ≡ unwrap_or (old file) []
kept-closed old new name bytes there same stays = of-each (λ file. unwrap_or (new file) [] ≡ unwrap_or (old file) []) name
    (ap (λ h. unwrap_or h []) there ∙ same) (λ file other. ap (λ h. unwrap_or h []) (stays file other))

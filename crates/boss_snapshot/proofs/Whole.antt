-- What is read of all bytes is spelled so, and the other way round.
use Rattle.std.proofs.Common.{◌≡◌, ℕ, ◌==◌, Bool, true, false, List, [], ◌∷◌, ◌++◌, length, Option, Some, None, refl, sym, ap, ◌∙◌, append-nil, arith}
use Rattle.std.proofs.lemmas.Bool.Decides.{nat_tests}
use Rattle.def_bytes.specs.Exact.{IsBytes, Took}
use Rattle.boss_model.specs.State.{Persistent}
use Rattle.def_bytes.specs.States.{state}
use Rattle.def_bytes.proofs.OfStates.{state_spelled}
use Rattle.def_bytes.proofs.Spelling.{some-is}
use Rattle.boss_snapshot.specs.Spells.{SpellsState}

pub spelled_so : (version : ℕ) (bytes rest : List ℕ) (d : Persistent) → IsBytes bytes → (state version).at bytes ≡ Some (d, rest) → rest ≡ []
    → SpellsState version d bytes
spelled_so version bytes rest d are is none =
    let took : Took (state version) bytes d rest = (state_spelled version).exact.takes bytes d rest are is in
    record { fits = took.fits; is = took.spelled ∙ ap (λ l. (state version).text d ++ l) none ∙ append-nil ((state version).text d) }

pub read_again : (version : ℕ) (bytes : List ℕ) (e : Persistent) → SpellsState version e bytes → (state version).at bytes ≡ Some (e, [])
read_again version bytes e spells =
    ap (state version).at (spells.is ∙ sym (append-nil ((state version).text e))) ∙ (state_spelled version).exact.again e [] spells.fits

pub same_state : (version : ℕ) (bytes rest : List ℕ) (d e : Persistent) → (state version).at bytes ≡ Some (d, rest) → SpellsState version e bytes
    → ◌≡◌ {A = Persistent × List ℕ} (d, rest) (e, [])
same_state version bytes rest d e is spells = some-is _ _ (sym is ∙ read_again version bytes e spells)

pub no_state : (version : ℕ) (bytes : List ℕ) (e : Persistent) → (state version).at bytes ≡ None → SpellsState version e bytes → ⊥
no_state version bytes e none spells =
    let no : ◌≡◌ {A = Option (Persistent × List ℕ)} None (Some (e, [])) = sym none ∙ read_again version bytes e spells in cc

-- the test for no bytes
none_left : (l : List ℕ) → length l ≡ 0 → l ≡ []
none_left [] none = refl
none_left (x ∷ l) none = absurd (omega (arith, none))

pub no_bytes : (l : List ℕ) (test : Bool) → test ≡ (length l == 0) → test ≡ true → l ≡ []
no_bytes l test is passed = none_left l (grind (arith, nat_tests))

pub some_bytes : (l : List ℕ) (test : Bool) → test ≡ (length l == 0) → test ≡ false → l ≡ [] → ⊥
some_bytes l test is failed none = let size : length l ≡ 0 = ap length none in absurd (grind (arith, nat_tests))

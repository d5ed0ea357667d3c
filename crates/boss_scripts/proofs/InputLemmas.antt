-- Lines that are too long, among others.
use Rattle.std.proofs.Common.{◌≡◌, ℕ, ◌≤◌, Bool, true, false, ◌||◌, List, [], ◌∷◌, ◌++◌, length, refl, ap, ◌∙◌}
use Rattle.std.specs.List.{list_any}
use Rattle.boss_model.specs.Limits.{longest_line}
use Rattle.def_wire.specs.Script.{is_too_long}
use Rattle.boss_lines.specs.Given.{BreaksOff}
use Rattle.boss_scripts.specs.Ends.{has_too_long}
use Rattle.boss_scripts.proofs.LineLemmas.{is-long, not-long}

any-append : (test : List ℕ → Bool) (xs ys : List (List ℕ)) → list_any test (xs ++ ys) ≡ list_any test xs || list_any test ys
any-append test [] ys = refl
any-append test (x ∷ xs) ys = or-case (test x) (list_any test (xs ++ ys)) (list_any test xs) (list_any test ys) (any-append test xs ys)
  where
    or-case : (b p q r : Bool) → p ≡ q || r → b || p ≡ (b || q) || r
    or-case true p q r e = refl
    or-case false p q r e = e

pub none-long : (given : List (List ℕ)) (line : List ℕ) → has_too_long given ≡ false → length line ≤ longest_line → has_too_long (given ++ line ∷ []) ≡ false
none-long given line none short =
    any-append is_too_long given (line ∷ []) ∙ ap (λ b. b || (is_too_long line || false)) none ∙ ap (λ b. b || false) (not-long line short)

pub some-long : (all given : List (List ℕ)) → BreaksOff all given → has_too_long all ≡ true
some-long all given breaks =
    ap has_too_long breaks.2 ∙ any-append is_too_long given (breaks.0 ∷ breaks.1)
    ∙ ap (λ b. list_any is_too_long given || (b || list_any is_too_long breaks.1)) (is-long breaks.0 breaks.3) ∙ or-true (list_any is_too_long given)
  where
    or-true : (b : Bool) → b || true ≡ true
    or-true true = refl
    or-true false = refl

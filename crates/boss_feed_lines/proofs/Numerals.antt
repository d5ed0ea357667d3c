-- What texts of numbers tell.
use Rattle.std.proofs.Common.{◌≡◌, ℕ, List, ◌++◌, ◌∷◌, Some, None, Result, Ok, Err, sym, ap, ◌∙◌, subst}
use Rattle.std.specs.Fmt.{decimal}
use Rattle.std.specs.Str.{IsUtf8}
use Rattle.std.specs.Str.Parse.{ParsesUnsigned}
use Rattle.std.proofs.lemmas.Fmt.{IsAscii-decimal, parse-decimal}
use Rattle.std.proofs.lemmas.Str.{IsUtf8-from_ascii}
use Rattle.boss_feed_lines.specs.Told.{NoBlank, TellsNumber, TellsNumbers}
use Rattle.boss_feed_lines.proofs.Blanks.{number-no-blank, same-cut}

pub not-text : (text : List ℕ) → ¬ IsUtf8 text → TellsNumber text None
not-text text never = λ n small is. never (subst IsUtf8 (sym is) (IsUtf8-from_ascii (decimal n) (IsAscii-decimal n small)))

pub not-parsed : {E : Type 0} (text : List ℕ) (read : Result ℕ E) (e : E) → ParsesUnsigned 64 10 text read → read ≡ Err e → TellsNumber text None
not-parsed {E = E} text read e parses is = λ n small same.
    let clash : ◌≡◌ {A = Result ℕ E} (Err e) (Ok n) = sym is ∙ parse-decimal 64 n text read small small same parses in absurd cc

ok-is : {E : Type 0} (m n : ℕ) → ◌≡◌ {A = Result ℕ E} (Ok m) (Ok n) → m ≡ n
ok-is m n is = cc

pub not-written : {E : Type 0} (text : List ℕ) (read : Result ℕ E) (m : ℕ) → ParsesUnsigned 64 10 text read → read ≡ Ok m → (decimal m ≡ text → ⊥) → TellsNumber text None
not-written text read m parses is other = λ n small same.
    other (ap decimal (ok-is m n (sym is ∙ parse-decimal 64 n text read small small same parses)) ∙ sym same)

-- ---- two numbers

pub no-blank-none : (text : List ℕ) → ((word rest : List ℕ) → NoBlank word → text ≡ word ++ 32 ∷ rest → ⊥) → TellsNumbers text None
no-blank-none text never = λ m n small also is. never (decimal m) (decimal n) (number-no-blank m small) is

pub first-none : (text word rest : List ℕ) → NoBlank word → text ≡ word ++ 32 ∷ rest → TellsNumber word None → TellsNumbers text None
first-none text word rest none is never = λ m n small also same.
    never m small (same-cut word (decimal m) rest (decimal n) none (number-no-blank m small) (sym is ∙ same)).0

pub second-none : (text word rest : List ℕ) → NoBlank word → text ≡ word ++ 32 ∷ rest → TellsNumber rest None → TellsNumbers text None
second-none text word rest none is never = λ m n small also same.
    never n also (same-cut word (decimal m) rest (decimal n) none (number-no-blank m small) (sym is ∙ same)).1

pub both-told : (text word rest : List ℕ) (m n : ℕ) → text ≡ word ++ 32 ∷ rest → TellsNumber word (Some m) → TellsNumber rest (Some n) → TellsNumbers text (Some (m, n))
both-told text word rest m n is first second = (first.0, second.0, is ∙ (λ i. first.1 i ++ 32 ∷ second.1 i))

-- A text is ASCII if what is behind some of its bytes is, and those are.
use Rattle.std.proofs.Common.{◌≡◌, ℕ, ◌<◌, ◌^◌, Bool, true, false, cond, List, [], ◌∷◌, ◌++◌, sym, subst, arith}
use Rattle.std.proofs.lemmas.Str.{IsAscii-append}
use Rattle.std.proofs.lemmas.Str.Ascii.{IsAscii-cons}
use Rattle.std.proofs.lemmas.Fmt.{IsAscii-decimal}
use Rattle.std.specs.Fmt.{decimal}
use Rattle.std.specs.Str.{IsAscii}

pub ascii_byte : (byte : ℕ) (old new : List ℕ) → byte < 128 → old ≡ byte ∷ new → IsAscii new → IsAscii old
ascii_byte byte old new small is rest = subst IsAscii (sym is) (IsAscii-cons byte new small rest)

pub ascii_comma : (is_first : Bool) (old new : List ℕ) → old ≡ cond is_first [] (44 ∷ []) ++ new → IsAscii new → IsAscii old
ascii_comma true old new is rest = subst IsAscii (sym is) rest
ascii_comma false old new is rest = ascii_byte 44 old new (omega arith) is rest

pub ascii_number : (number : ℕ) (old new : List ℕ) → number < 2 ^ 64 → old ≡ decimal number ++ new → IsAscii new → IsAscii old
ascii_number number old new fits is rest = subst IsAscii (sym is) (IsAscii-append (decimal number) new (IsAscii-decimal number fits) rest)

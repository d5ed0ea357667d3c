-- What texts of bytes tell.
use Rattle.std.proofs.Common.{◌≡◌, ℕ, ◌≤◌, ◌*◌, ◌/◌, List, length, Bool, true, false, Result, Ok, Err, refl, sym, ap, ◌∙◌, subst, arith}
use Rattle.std.specs.Prelude.{MatchResult}
use Rattle.hex.specs.Hex.{decode_sized, encode_lower, lower_digits}
use Rattle.hex.specs.declared.error.FromHexError.{FromHexError}
use Rattle.hex.proofs.HexLemmas.{decode_sized-encode_lower, length-encode_with}
use Rattle.def_bytes.specs.Exact.{IsBytes}
use Rattle.def_feed.specs.Items.{AreSome}
use Rattle.boss_feed_lines.specs.Told.{TellsBytes}

twice : (bytes : List ℕ) → length (encode_lower bytes) ≡ 2 * length bytes
twice bytes = length-encode_with lower_digits bytes

-- digits of bytes are read as these
again : (text bytes : List ℕ) (count : ℕ) → IsBytes bytes → text ≡ encode_lower bytes → length bytes ≡ count → decode_sized text count ≡ Ok bytes
again text bytes count are is many = ap (λ t. decode_sized t count) is ∙ decode_sized-encode_lower bytes count many are

-- what a decoder answers in room for so many bytes
abbrev pub Decodes : List ℕ → ℕ → Result Unit FromHexError → List ℕ → Type 0
Decodes text count answer out = MatchResult (decode_sized text count) (λ bytes. (answer ≡ Ok tt) × (out ≡ bytes)) (λ e. answer ≡ Err e)

-- the digits of some bytes are read as these
reads-again : (text some out : List ℕ) (count : ℕ) (answer : Result Unit FromHexError) → count ≡ length text / 2 → AreSome some → text ≡ encode_lower some →
    Decodes text count answer out → (answer ≡ Ok tt) × (out ≡ some)
reads-again text some out count answer half are is told =
    let many : length some ≡ count = omega (arith, half, twice some, ap length is) in
    subst (λ d. MatchResult d (λ bytes. (answer ≡ Ok tt) × (out ≡ bytes)) (λ e. answer ≡ Err e)) (again text some count are.0 is many) told

pub not-read : (text bytes out : List ℕ) (count : ℕ) (answer : Result Unit FromHexError) (e : FromHexError) → count ≡ length text / 2 → Decodes text count answer out →
    answer ≡ Err e → TellsBytes text bytes false
not-read text bytes out count answer e half told is = λ some are same.
    let clash : ◌≡◌ {A = Result Unit FromHexError} (Err e) (Ok tt) = sym is ∙ (reads-again text some out count answer half are same told).0 in absurd cc

-- bytes that were read, and whose digits are compared with the text
pub told-by : (text out : List ℕ) (count : ℕ) (answer : Result Unit FromHexError) (is_written : Bool) → 1 ≤ count → length out ≡ count → IsBytes out → count ≡ length text / 2 →
    Decodes text count answer out → (is_written ≡ true → encode_lower out ≡ text) × (encode_lower out ≡ text → is_written ≡ true) → TellsBytes text out is_written
told-by text out count answer true some many are half told written = ((are, omega (arith, some, many)), sym (written.0 refl))
told-by text out count answer false some many are half told written = λ other also same.
    let read : out ≡ other = (reads-again text other out count answer half also same told).1 in
    let clash : false ≡ true = written.1 (ap encode_lower read ∙ sym same) in
    absurd cc

-- a text of less than two digits
pub too-short : (text bytes : List ℕ) → length text / 2 ≡ 0 → TellsBytes text bytes false
too-short text bytes none = λ some are same. absurd (omega (arith, are.1, twice some, ap length same))

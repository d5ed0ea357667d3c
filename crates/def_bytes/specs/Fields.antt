-- Source: own.
-- Values as bytes, field behind field.
use Rattle.std.specs.Prelude.{ℕ, zero, suc, ◌+◌, ◌*◌, ◌^◌, nat_lt, nat_le, Bool, false, ◌&&◌, if◌then◌else◌, List, [], ◌∷◌, ◌++◌, length, take, drop, flat_map, Option, Some, None}
use Rattle.std.specs.List.{list_all}
use Rattle.std.specs.Option.{option_and_then, option_map_or}
use Rattle.std.specs.Int.{Width, byte_len, to_be_bytes, from_be_bytes}

-- A field: which values have a spelling, what it is, and the most bytes that it has; and the value that bytes begin with, if
-- they begin with one, and what is behind it.
pub record Field (X : Type 0) : Type 0 where
  pub fits : X → Bool
  pub text : X → List ℕ
  pub most : ℕ
  pub at : List ℕ → Option (X × List ℕ)

-- what was read, taken on by what follows
infixl 10 ◌>>=◌
abbrev pub ◌>>=◌ : {A B : Type 0} → Option A → (A → Option B) → Option B
found >>= rest = option_and_then rest found

-- ---- numbers, the highest byte first

unfoldable pub number_text : Width → ℕ → List ℕ
number_text w n = to_be_bytes w n

unfoldable pub number_at : Width → List ℕ → Option (ℕ × List ℕ)
number_at w bytes = if nat_le (byte_len w) (length bytes)
    then Some (from_be_bytes w (take (byte_len w) bytes), drop (byte_len w) bytes) else None

abbrev pub number : Width → Field ℕ
number w = record { fits = λ n. nat_lt n (2 ^ (8 * byte_len w)); text = number_text w; most = byte_len w; at = number_at w }

-- a single byte
abbrev pub byte_at : List ℕ → Option (ℕ × List ℕ)
byte_at [] = None
byte_at (b ∷ bytes) = Some (b, bytes)

abbrev pub byte : Field ℕ
byte = record { fits = λ n. nat_lt n 256; text = λ n. n ∷ []; most = 1; at = byte_at }

-- ---- fields made of fields

-- two fields, one behind the other
abbrev pub second_at : {X Y : Type 0} → Field Y → X × List ℕ → Option ((X × Y) × List ℕ)
second_at g x = g.at x.1 >>= λ y. Some ((x.0, y.0), y.1)

abbrev pub both : {X Y : Type 0} → Field X → Field Y → Field (X × Y)
both f g = record {
  fits = λ x. f.fits x.0 && g.fits x.1;
  text = λ x. f.text x.0 ++ g.text x.1;
  most = f.most + g.most;
  at = λ bytes. f.at bytes >>= second_at g;
}

-- only the values that pass a test
abbrev pub if_passes : {X : Type 0} → (X → Bool) → X × List ℕ → Option (X × List ℕ)
if_passes test x = if test x.0 then Some x else None

abbrev pub only : {X : Type 0} → (X → Bool) → Field X → Field X
only test f = record f { fits = λ x. f.fits x && test x; at = λ bytes. f.at bytes >>= if_passes test }

-- A value that is spelled by its parts: `parts` takes it apart, where it can be, and `made` puts it together.
abbrev pub made_of : {X Y : Type 0} → (X → Option Y) → (Y → X) → Field Y → Field X
made_of parts made f = record {
  fits = λ x. option_map_or f.fits (parts x) false;
  text = λ x. option_map_or f.text (parts x) [];
  most = f.most;
  at = λ bytes. f.at bytes >>= λ y. Some (made y.0, y.1);
}

-- ---- lists: the number of items, and then each

abbrev pub next_items : {X : Type 0} → X → List X × List ℕ → Option (List X × List ℕ)
next_items x found = Some (x ∷ found.0, found.1)

abbrev pub items_at : {X : Type 0} → Field X → ℕ → List ℕ → Option (List X × List ℕ)
items_at f zero bytes = Some ([], bytes)
items_at f (suc count) bytes = f.at bytes >>= λ x. items_at f count x.1 >>= next_items x.0

abbrev pub counted : {X : Type 0} → Field ℕ → ℕ → Field X → Field (List X)
counted count limit f = record {
  fits = λ xs. nat_le (length xs) limit && (count.fits (length xs) && list_all f.fits xs);
  text = λ xs. count.text (length xs) ++ flat_map f.text xs;
  most = count.most + limit * f.most;
  at = λ bytes. count.at bytes >>= λ n. if nat_le n.0 limit then items_at f n.0 n.1 else None;
}

-- ---- values of several kinds: a tag, and what stands behind it for that kind

pub record Variants (X : Type 0) : Type 0 where
  pub tag : X → ℕ
  pub fits : X → Bool
  pub text : X → List ℕ
  pub most : ℕ
  pub at : ℕ → List ℕ → Option (X × List ℕ)

abbrev pub tagged : {X : Type 0} → Variants X → Field X
tagged v = record {
  fits = λ x. nat_lt (v.tag x) 256 && v.fits x;
  text = λ x. v.tag x ∷ v.text x;
  most = 1 + v.most;
  at = λ bytes. byte_at bytes >>= λ b. v.at b.0 b.1;
}

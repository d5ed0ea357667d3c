-- Source: own; how long a digest is: FIPS 180-4 (SHA-256).
-- The limits of keys. `src/limits.rt` has the same numbers for the program.
use Rattle.std.specs.Prelude.{ℕ}

-- entries of a file: a key is held against them, one after another, until one has its digest
abbrev pub most_entries : ℕ
most_entries = 512

-- workers that may be kept for whoever shows a key: all that a server may have
abbrev pub most_reserve : ℕ
most_reserve = 1024

-- characters of a digest, in hexadecimal
abbrev pub digest_length : ℕ
digest_length = 64

-- characters of a key: whoever thinks of a key is to think of none
abbrev pub shortest_key : ℕ
shortest_key = 32

abbrev pub longest_key : ℕ
longest_key = 128

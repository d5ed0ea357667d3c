-- Source: own.
-- Bytes in base64, and what the value of a head tells.
use Rattle.std.specs.Prelude.{◌≡◌, ℕ, ◌+◌, ◌<◌, List, length, take, drop, codes, decimal}
use Rattle.base64.specs.Engines.{standard}
use Rattle.base64.specs.GeneralPurpose.{encode_of}

-- the text that stands for bytes
unfoldable pub base64_of : List ℕ → List ℕ
base64_of bytes = encode_of standard bytes

-- how many bytes there are: the last word of a value that begins so
pub record Tells (value : List ℕ) (size : ℕ) : Type 0 where
  pub place : ℕ
  pub front : take 7 value ≡ codes "bossd1 "
  pub inside : place < length value
  pub last : drop (place + 1) value ≡ decimal size

-- and by a value in base64
pub record TellsIn (text : List ℕ) (size : ℕ) : Type 0 where
  pub value : List ℕ
  pub is : text ≡ base64_of value
  pub tells : Tells value size

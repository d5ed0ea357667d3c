-- Source: own.
-- The line that says why a file of keys is refused.
use Rattle.std.specs.Prelude.{ℕ, List, [], ◌∷◌, ◌++◌, codes, decimal}
use Rattle.boss_keys.specs.declared.refusal.KeysRefusal.{KeysRefusal}
use Rattle.boss_keys.specs.declared.refusal.KeysRefusal.TheVariants.{TooLong, NotToml, Missing, TooMany, BadKey, BadReserve, NoMemory}

abbrev pub refusal_text : KeysRefusal → List ℕ
refusal_text (TooLong length) = codes "too-long " ++ decimal length
refusal_text NotToml = codes "not-toml"
refusal_text Missing = codes "missing"
refusal_text (TooMany count) = codes "too-many " ++ decimal count
refusal_text (BadKey place) = codes "bad-key " ++ decimal place
refusal_text BadReserve = codes "bad-reserve"
refusal_text NoMemory = []

abbrev pub refusal_line : KeysRefusal → List ℕ
refusal_line refusal = codes "keys " ++ refusal_text refusal ++ 10 ∷ []

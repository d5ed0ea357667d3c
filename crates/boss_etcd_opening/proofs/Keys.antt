-- Texts that are the ones that were wanted, and an engine that takes what it writes alone.
use Rattle.std.proofs.Common.{◌≡◌, ℕ, true, List, Option, Some, ◌∙◌, ap, refl}
use Rattle.std.proofs.lemmas.Slice.Eq.{bytes_eq-Decides}
use Rattle.std.specs.Str.{bytes_eq}
use Rattle.base64.specs.Engines.{standard}
use Rattle.base64.specs.GeneralPurpose.{IsStrict}

pub standard_is_strict : IsStrict standard
standard_is_strict = (refl, refl)

pub is_wanted : (found : Option (List ℕ)) (text wanted : List ℕ) → found ≡ Some text → bytes_eq text wanted ≡ true → found ≡ Some wanted
is_wanted found text wanted is same = is ∙ ap Some ((bytes_eq-Decides text wanted).0 same)

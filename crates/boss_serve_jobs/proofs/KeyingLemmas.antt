-- A file of keys past the limit.
use Rattle.std.proofs.Common.{◌≡◌, ◌<◌, ℕ, List, length, true, nat_lt, Err, refl, arith}
use Rattle.std.proofs.lemmas.Bool.Decides.{nat_tests}
use Rattle.boss_keys.specs.declared.refusal.KeysRefusal.TheVariants.{TooLong}
use Rattle.boss_keys.specs.Reading.{keys_of}

-- it is refused for its length
pub too-long : (file : List ℕ) → 1048576 < length file → keys_of file ≡ Err (TooLong (length file))
unfolding keys_of
too-long file long =
    let past : nat_lt 1048576 (length file) ≡ true = grind (arith, nat_tests) in
    rw past refl

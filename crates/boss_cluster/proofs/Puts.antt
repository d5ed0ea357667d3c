use Rattle.std.proofs.Common.{◌≡◌, ℕ, ◌+◌, ◌≤◌, List, ◌++◌, length, take, length-append, arith}
use Rattle.std.proofs.lemmas.List.{length-take-le, take_at}
use Rattle.boss_disk.specs.Window.{overwritten}

-- what is left of written bytes where nothing behind them stays
pub put_last : (at : ℕ) (bytes old : List ℕ) → at ≤ length old → take (at + length bytes) (overwritten at bytes old) ≡ take at old ++ bytes
put_last at bytes old inside =
    let whole : length (take at old) ≡ at = length-take-le at old inside in
    take_at (take at old ++ bytes) _ (at + length bytes) (omega (arith, length-append (take at old) bytes))

-- What a value tells that passed its tests.
use Rattle.std.proofs.Common.{◌≡◌, ℕ, ◌+◌, ◌-◌, ◌<◌, ◌≤◌, true, List, length, take, drop, codes, decimal, bytes_eq, sym, ◌∙◌, arith}
use Rattle.std.proofs.lemmas.List.{length-drop, take_all}
use Rattle.std.proofs.lemmas.Slice.Eq.{bytes_eq-Decides}
use Rattle.boss_etcd_opening.specs.Values.{Tells}

pub tells : (value : List ℕ) (size place : ℕ) → bytes_eq (codes "bossd1 ") (take 7 value) ≡ true → place < length value →
    bytes_eq (decimal size) (take (length value - (place + 1)) (drop (place + 1) value)) ≡ true → Tells value size
tells value size place front inside last =
    let behind : List ℕ = drop (place + 1) value in
    let whole : length behind ≤ length value - (place + 1) = omega (arith, length-drop (place + 1) value) in
    record {
      place = place;
      front = sym ((bytes_eq-Decides (codes "bossd1 ") (take 7 value)).0 front);
      inside = inside;
      last =
          sym
          ((bytes_eq-Decides (decimal size) (take (length value - (place + 1)) behind)).0 last
          ∙ take_all (length value - (place + 1)) behind whole);
    }

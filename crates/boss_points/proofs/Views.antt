-- The values of an array, and the data that they are seen as.
use Rattle.std.proofs.Common.{◌≡◌, Bool, false, List, [], ◌∷◌, length, map, position, None, refl, sym, ap, ◌∙◌}
use Rattle.std.proofs.lemmas.List.{length-map}
use Rattle.std.specs.List.{AllByRecursion}
use Rattle.toml.specs.Data.{Data}
use Rattle.toml.specs.View.{view, items_of, items_view}
use Rattle.toml.specs.declared.value.Value.{Value}
use Rattle.boss_points.specs.Keys.{list_of}
use Rattle.boss_points.specs.Seen.{views}
use Rattle.boss_points.proofs.Places.{position-map, fails_everywhere}

list_of-items_of : (ds : List Data) → list_of (items_of ds) ≡ ds
list_of-items_of [] = refl
list_of-items_of (d ∷ ds) = ap (λ more. d ∷ more) (list_of-items_of ds)

pub list_of_views : (values : List Value) → list_of (items_view values) ≡ views values
list_of_views values = list_of-items_of (map view values)

pub length_views : (values : List Value) → length (views values) ≡ length values
length_views values = length-map values view

pub position_in_views : (test : Data → Bool) (values : List Value) → position test (views values) ≡ position (λ value. test (view value)) values
position_in_views test values = sym (position-map view test values)

pub fails_in_views : (test : Data → Bool) (values : List Value) → position (λ value. test (view value)) values ≡ None → AllByRecursion (λ d. test d ≡ false) (views values)
fails_in_views test values none = fails_everywhere test (views values) (position_in_views test values ∙ none)

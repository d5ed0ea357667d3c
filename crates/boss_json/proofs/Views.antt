-- The items of an array, and the text or the number that a tree is, seen in its data.
use Rattle.std.proofs.Common.{◌≡◌, List, [], ◌∷◌, map, Option, Some, None, refl, ap}
use Rattle.std.specs.Option.{option_and_then}
use Rattle.json.specs.Json as json
use Rattle.json.specs.Find as tree
use Rattle.json.specs.Value.{items_of}
use Rattle.serde_json.specs.Data.{Num}
use Rattle.serde_json.specs.Find.{as_i64, as_str}
use Rattle.serde_json.specs.Read.{number_of}
use Rattle.def_wire.specs.Keys.{list_of, whole}
use Rattle.boss_json.specs.Trees.{number_data, data_of, items_data}

-- of any type whose values are seen as trees
pub list_of_trees : {V : Type 0} (seen : V → json.Json) (values : List V) → list_of (items_data (items_of (map seen values))) ≡ map (λ value. data_of (seen value)) values
list_of_trees seen [] = refl
list_of_trees seen (value ∷ values) = ap (λ more. data_of (seen value) ∷ more) (list_of_trees seen values)

as_str_number : (n : Option Num) → as_str (number_data n) ≡ None
as_str_number None = refl
as_str_number (Some n) = refl

pub as_str_data : (j : json.Json) → as_str (data_of j) ≡ tree.as_str j
as_str_data json.null = refl
as_str_data (json.boolean b) = refl
as_str_data (json.number s) = as_str_number (number_of s)
as_str_data (json.string s) = refl
as_str_data (json.array js) = refl
as_str_data (json.object ms) = refl

whole_number : (n : Option Num) → whole (number_data n) ≡ option_and_then as_i64 n
whole_number None = refl
whole_number (Some n) = refl

pub whole_data : (j : json.Json) → whole (data_of j) ≡ option_and_then (λ s. option_and_then as_i64 (number_of s)) (tree.as_number j)
whole_data json.null = refl
whole_data (json.boolean b) = refl
whole_data (json.number s) = whole_number (number_of s)
whole_data (json.string s) = refl
whole_data (json.array js) = refl
whole_data (json.object ms) = refl

-- Source: RFC 8259 (JSON), as the libraries json and serde_json read it.
-- What a tree of `json` stands for: the data that serde_json reads of the same text, where each number is in range. (One that is
-- too large for a float is null here; a line that has one is no value.)
use Rattle.std.specs.Prelude.{ℕ, Bool, true, ◌&&◌, List, map, Option, Some, None, is_some, decimal}
use Rattle.std.specs.Borrow.{Bor}
use Rattle.json.specs.Json as json
use Rattle.json.specs.Value.{items_of, members_of, value_view}
use Rattle.json.specs.declared.value.Value.{Value}
use Rattle.boss_json.specs.declared.tree.Tree.{Tree, fold-Tree}
use Rattle.boss_json.specs.declared.tree.Tree.TheOpen.{Tree-F}
use Rattle.serde_json.specs.Data.{Num, Data, null, boolean, number, string, array, object, Items, no_items, item, Members, no_members, put}
use Rattle.serde_json.specs.Read.{number_of}

abbrev pub number_data : Option Num → Data
number_data None = null
number_data (Some n) = number n

-- of equal keys the last stays
abbrev mutual
  pub data_of : json.Json → Data
  data_of json.null = null
  data_of (json.boolean b) = boolean b
  data_of (json.number s) = number_data (number_of s)
  data_of (json.string s) = string s
  data_of (json.array js) = array (items_data js)
  data_of (json.object ms) = object (members_data ms no_members)

  pub items_data : json.Items → Items
  items_data json.no_items = no_items
  items_data (json.item j js) = item (data_of j) (items_data js)

  -- the members, put to those that are there
  pub members_data : json.Members → Members → Members
  members_data json.no_members there = there
  members_data (json.member k j ms) there = members_data ms (put k (data_of j) there)

-- each number is in range
abbrev mutual
  pub in_range : json.Json → Bool
  in_range json.null = true
  in_range (json.boolean b) = true
  in_range (json.number s) = is_some (number_of s)
  in_range (json.string s) = true
  in_range (json.array js) = items_in_range js
  in_range (json.object ms) = members_in_range ms

  pub items_in_range : json.Items → Bool
  items_in_range json.no_items = true
  items_in_range (json.item j js) = in_range j && items_in_range js

  pub members_in_range : json.Members → Bool
  members_in_range json.no_members = true
  members_in_range (json.member k j ms) = in_range j && members_in_range ms

abbrev pub view : {A : Type 0} → Value A → Data
view value = data_of (value_view value)

-- ---- a tree of this crate

-- one level, with each tree inside already seen as its value
abbrev pub tree_step : Tree-F json.Json → json.Json
tree_step (Tree-F.Text text) = json.string text.now
tree_step (Tree-F.Whole n) = json.number (decimal n)
tree_step (Tree-F.List items) = json.array (items_of items.now)
tree_step (Tree-F.Object members) = json.object (members_of members.now)

abbrev pub tree_json : Tree → json.Json
tree_json = fold-Tree json.Json tree_step

abbrev pub trees_in : List Tree → json.Items
trees_in trees = items_of (map tree_json trees)

abbrev pub trees_under : List (Bor (List ℕ) × Tree) → json.Members
trees_under members = members_of (map (λ m. (m.0, tree_json m.1)) members)

abbrev pub tree_data : Tree → Data
tree_data tree = data_of (tree_json tree)

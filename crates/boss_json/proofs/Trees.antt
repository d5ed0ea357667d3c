-- What a tree of this crate stands for, variant by variant.
use Rattle.std.proofs.Common.{◌≡◌, ℕ, List, rules, Bor}
use Rattle.std.specs.Prelude.{decimal}
use Rattle.json.specs.Json.{number, string, array, object}
use Rattle.boss_json.specs.declared.tree.Tree as tree
use Rattle.boss_json.specs.declared.tree.Tree.{Tree, the_lemmas}
use Rattle.boss_json.specs.Trees.{tree_json, trees_in, trees_under}

pub tree_json-Text : (text : Bor (List ℕ)) → tree_json (tree.Text text) ≡ string text.now
tree_json-Text text = search (rules, the_lemmas)

pub tree_json-Whole : (n : ℕ) → tree_json (tree.Whole n) ≡ number (decimal n)
tree_json-Whole n = search (rules, the_lemmas)

pub tree_json-List : (items : Bor (List Tree)) → tree_json (tree.List items) ≡ array (trees_in items.now)
tree_json-List items = search (rules, the_lemmas)

pub tree_json-Object : (members : Bor (List (Bor (List ℕ) × Tree))) → tree_json (tree.Object members) ≡ object (trees_under members.now)
tree_json-Object members = search (rules, the_lemmas)

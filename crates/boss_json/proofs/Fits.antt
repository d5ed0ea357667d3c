-- What is read compactly of an array or an object fits as far as it was read, and a whole text that fits is read as its value.
use Rattle.std.proofs.Common.{◌≡◌, ℕ, ◌-◌, ◌<◌, ◌≤◌, true, false, List, [], ◌∷◌, ◌++◌, length, Some, None, refl, sym, ap, ◌∙◌, subst, arith, append-nil}
use Rattle.std.proofs.lemmas.Bool.{and_from, and_parts}
use Rattle.std.specs.Borrow.{Bor}
use Rattle.json.specs.Json as json
use Rattle.json.specs.Json.{Json, number, string, array, object, Items, no_items, item, Members, no_members, member}
use Rattle.json.specs.Lex.{tokens}
use Rattle.json.specs.Print.{print_from}
use Rattle.json.specs.Tree.{json_tokens}
use Rattle.json.specs.Word.{after_number}
use Rattle.json.proofs.Printed.Tokens.{tokens-print}
use Rattle.json.proofs.Printed.Trees.{value-json_tokens, ArePrintable-json_tokens}
use Rattle.serde_json.specs.Read.{read}
use Rattle.boss_json.specs.Compact.{text_of, IsFit}
use Rattle.boss_json.specs.declared.tree.Tree.{Tree}
use Rattle.boss_json.specs.Trees.{data_of, tree_json, trees_in, trees_under}
use Rattle.boss_json.proofs.Datas.{read-value}

pub IsFit-no_items : (n : ℕ) (values : List Tree) → 0 < n → values ≡ [] → IsFit n (array (trees_in values))
IsFit-no_items n values some none = subst (λ vs. IsFit n (array (trees_in vs))) (sym none) (record { numbers = tt; fits = refl; nests = omega arith })

pub IsFit-no_members : (n : ℕ) (members : List (Bor (List ℕ) × Tree)) → 0 < n → members ≡ [] → IsFit n (object (trees_under members))
IsFit-no_members n members some none = subst (λ ms. IsFit n (object (trees_under ms))) (sym none) (record { numbers = tt; fits = refl; nests = omega arith })

with_item : (n : ℕ) (j : Json) (js : Items) → IsFit (n - 1) j → IsFit n (array js) → IsFit n (array (item j js))
with_item n j js one more = record { numbers = (one.numbers, more.numbers); fits = and_from _ _ one.fits more.fits; nests = omega (arith, one.nests, more.nests) }

with_member : (n : ℕ) (k : List ℕ) (j : Json) (ms : Members) → IsFit (n - 1) j → IsFit n (object ms) → IsFit n (object (member k j ms))
with_member n k j ms one more = record { numbers = (one.numbers, more.numbers); fits = and_from _ _ one.fits more.fits; nests = omega (arith, one.nests, more.nests) }

first_item : (n : ℕ) (j : Json) (js : Items) → IsFit n (array (item j js)) → IsFit (n - 1) j
first_item n j js fit = record { numbers = fit.numbers.0; fits = (and_parts _ _ fit.fits).0; nests = omega (arith, fit.nests) }

later_items : (n : ℕ) (j : Json) (js : Items) → IsFit n (array (item j js)) → IsFit n (array js)
later_items n j js fit = record { numbers = fit.numbers.1; fits = (and_parts _ _ fit.fits).1; nests = omega (arith, fit.nests) }

first_member : (n : ℕ) (k : List ℕ) (j : Json) (ms : Members) → IsFit n (object (member k j ms)) → IsFit (n - 1) j
first_member n k j ms fit = record { numbers = fit.numbers.0; fits = (and_parts _ _ fit.fits).0; nests = omega (arith, fit.nests) }

later_members : (n : ℕ) (k : List ℕ) (j : Json) (ms : Members) → IsFit n (object (member k j ms)) → IsFit n (object ms)
later_members n k j ms fit = record { numbers = fit.numbers.1; fits = (and_parts _ _ fit.fits).1; nests = omega (arith, fit.nests) }

pub IsFit-one_more_item : (n : ℕ) (values : List Tree) (value : Tree) → IsFit n (array (trees_in values)) → IsFit (n - 1) (tree_json value)
    → IsFit n (array (trees_in (values ++ value ∷ [])))
IsFit-one_more_item n [] value so_far fit = with_item n (tree_json value) no_items fit so_far
IsFit-one_more_item n (v ∷ values) value so_far fit =
    with_item n (tree_json v) _ (first_item n (tree_json v) _ so_far) (IsFit-one_more_item n values value (later_items n (tree_json v) _ so_far) fit)

pub IsFit-one_more_member : (n : ℕ) (members : List (Bor (List ℕ) × Tree)) (m : Bor (List ℕ) × Tree) → IsFit n (object (trees_under members)) → IsFit (n - 1) (tree_json m.1)
    → IsFit n (object (trees_under (members ++ m ∷ [])))
IsFit-one_more_member n [] m so_far fit = with_member n m.0.now (tree_json m.1) no_members fit so_far
IsFit-one_more_member n (l ∷ members) m so_far fit =
    with_member n l.0.now (tree_json l.1) _ (first_member n l.0.now (tree_json l.1) _ so_far) (IsFit-one_more_member n members m (later_members n l.0.now (tree_json l.1) _ so_far) fit)

-- a value takes some text
pub some_text : (n : ℕ) (j : Json) → IsFit n j → 0 < length (text_of j)
unfolding print_from after_number
some_text n json.null fit = omega arith
some_text n (json.boolean true) fit = omega arith
some_text n (json.boolean false) fit = omega arith
some_text n (number []) fit = let never : None ≡ Some [] = fit.numbers in cc
some_text n (number (d ∷ ds)) fit = omega arith
some_text n (string s) fit = omega arith
some_text n (array js) fit = omega arith
some_text n (object ms) fit = omega arith

-- what is printed is read back
pub read-text_of : (text : List ℕ) (n : ℕ) (j : Json) → n ≤ 127 → IsFit n j → text ≡ text_of j → read text ≡ Some (data_of j)
read-text_of text n j few fit is =
    let printed : tokens text ≡ json_tokens j ++ [] = ap tokens is ∙ tokens-print (json_tokens j) (ArePrintable-json_tokens j fit.numbers) ∙ sym (append-nil (json_tokens j)) in
    read-value text j (ap (json.value 127) printed ∙ value-json_tokens j 127 [] (omega (arith, fit.nests))) fit.fits

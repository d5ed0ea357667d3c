-- The text of an array or an object is its parts one after another, with a comma before each but the first.
use Rattle.std.proofs.Common.{◌≡◌, ℕ, suc, Bool, true, false, cond, ◌<◌, ◌==◌, List, [], ◌∷◌, ◌++◌, length, fold, refl, sym, ap, ◌∙◌, arith, append_assoc, append-nil, length-append}
use Rattle.std.proofs.lemmas.Bool.{ne_eqb}
use Rattle.std.proofs.lemmas.List.Sums.{fold-append}
use Rattle.std.proofs.lemmas.Grind.{flat_map-append}
use Rattle.std.specs.List.{flat_map}
use Rattle.std.specs.Borrow.{Bor}
use Rattle.json.specs.Token.{Token, key, end_array, end_object}
use Rattle.json.specs.Json.{Json, null, boolean, number, string, array, object, Items, no_items, item, Members, no_members, member}
use Rattle.json.specs.Print.{escape, quoted, token_text, begins, ends, separator, print_from, print}
use Rattle.json.specs.Tree.{json_tokens, items_tokens, members_tokens}
use Rattle.json.proofs.Printed.Tokens.{print_from_push, print_from-append}
use Rattle.boss_json.specs.Compact.{text_of}
use Rattle.boss_json.specs.declared.tree.Tree.{Tree}
use Rattle.boss_json.specs.Trees.{tree_json, trees_in, trees_under}

abbrev ends_after : Bool → List Token → Bool
ends_after c ts = fold (λ _ t. ends t) c ts

-- what these tokens print as is set off by a comma from a value before it, and ends a value
record IsPart (ts : List Token) : Type 0 where
  comma : (c : Bool) → print_from c ts ≡ cond c (44 ∷ []) [] ++ print ts
  ends : (c : Bool) → ends_after c ts ≡ true

comma_before : (t : Token) (ts : List Token) → begins t ≡ true → (c : Bool) → print_from c (t ∷ ts) ≡ cond c (44 ∷ []) [] ++ print (t ∷ ts)
unfolding print_from
comma_before t ts is true = ap (λ b. cond b (44 ∷ []) [] ++ (token_text t ++ print_from (ends t) ts)) is
comma_before t ts is false = refl

items_end : (js : Items) (c : Bool) → ends_after c (items_tokens js) ≡ true
items_end no_items c = refl
items_end (item j js) c = fold-append (λ _ t. ends t) c (json_tokens j) (items_tokens js) ∙ items_end js _

members_end : (ms : Members) (c : Bool) → ends_after c (members_tokens ms) ≡ true
members_end no_members c = refl
members_end (member k j ms) c = fold-append (λ _ t. ends t) false (json_tokens j) (members_tokens ms) ∙ members_end ms _

value_ends : (j : Json) (c : Bool) → ends_after c (json_tokens j) ≡ true
value_ends null c = refl
value_ends (boolean b) c = refl
value_ends (number s) c = refl
value_ends (string s) c = refl
value_ends (array js) c = items_end js false
value_ends (object ms) c = members_end ms false

IsPart-value : (j : Json) → IsPart (json_tokens j)
IsPart-value null = record { comma = comma_before _ _ refl; ends = value_ends null }
IsPart-value (boolean b) = record { comma = comma_before _ _ refl; ends = value_ends (boolean b) }
IsPart-value (number s) = record { comma = comma_before _ _ refl; ends = value_ends (number s) }
IsPart-value (string s) = record { comma = comma_before _ _ refl; ends = value_ends (string s) }
IsPart-value (array js) = record { comma = comma_before _ _ refl; ends = value_ends (array js) }
IsPart-value (object ms) = record { comma = comma_before _ _ refl; ends = value_ends (object ms) }

IsPart-member : (k : List ℕ) (j : Json) → IsPart (key k ∷ json_tokens j)
IsPart-member k j = record { comma = comma_before (key k) (json_tokens j) refl; ends = λ c. value_ends j false }

pub text_of-string : (s : List ℕ) → text_of (string s) ≡ quoted s
unfolding print_from
text_of-string s = append-nil (quoted s)

pub text_of-number : (s : List ℕ) → text_of (number s) ≡ s
unfolding print_from
text_of-number s = append-nil s

-- ---- parts in a row

module _ {X : Type 0} (part : X → List Token) (is : (x : X) → IsPart (part x)) where
  end_after_more : (xs : List X) → ends_after true (flat_map part xs) ≡ true
  end_after_more [] = refl
  end_after_more (x ∷ xs) = fold-append (λ _ t. ends t) true (part x) (flat_map part xs) ∙ ap (λ c. ends_after c (flat_map part xs)) ((is x).ends true) ∙ end_after_more xs

  comma_after : (xs : List X) (is_first : Bool) → is_first ≡ (length xs == 0) → cond {A = List ℕ} (ends_after false (flat_map part xs)) (44 ∷ []) [] ≡ cond is_first [] (44 ∷ [])
  comma_after [] is_first e = rw e refl
  comma_after (x ∷ xs) is_first e =
      let more : ends_after false (flat_map part (x ∷ xs)) ≡ true = fold-append (λ _ t. ends t) false (part x) (flat_map part xs) ∙ ap (λ c. ends_after c (flat_map part xs)) ((is x).ends false) ∙ end_after_more xs in
      ap (λ c. cond {A = List ℕ} c (44 ∷ []) []) more ∙ sym (ap (λ c. cond {A = List ℕ} c [] (44 ∷ [])) (e ∙ ne_eqb (suc (length xs)) 0 (λ none. omega arith)))

  print_more : (xs : List X) (x : X) (is_first : Bool) → is_first ≡ (length xs == 0)
      → print (flat_map part (xs ++ x ∷ [])) ≡ print (flat_map part xs) ++ (cond is_first [] (44 ∷ []) ++ print (part x))
  print_more xs x is_first e =
      ap print (flat_map-append part xs (x ∷ []) ∙ ap (λ ts. flat_map part xs ++ ts) (append-nil (part x)))
      ∙ print_from-append false (flat_map part xs) (part x)
      ∙ ap (λ l. print (flat_map part xs) ++ l) ((is x).comma _ ∙ ap (λ l. l ++ print (part x)) (comma_after xs is_first e))

  -- one part more is read
  one_more : (xs : List X) (x : X) (is_first : Bool) (all old new : List ℕ) → is_first ≡ (length xs == 0)
      → all ≡ print (flat_map part xs) ++ old → old ≡ cond is_first [] (44 ∷ []) ++ (print (part x) ++ new) → all ≡ print (flat_map part (xs ++ x ∷ [])) ++ new
  one_more xs x is_first all old new e so_far next =
      let before = print (flat_map part xs) in
      let comma = cond is_first [] (44 ∷ []) in
      so_far ∙ ap (λ l. before ++ l) (next ∙ sym (append_assoc comma (print (part x)) new)) ∙ sym (append_assoc before (comma ++ print (part x)) new)
      ∙ ap (λ l. l ++ new) (sym (print_more xs x is_first e))

  no_comma : (c : Bool) (t : Token) → begins t ≡ false → separator c t ≡ []
  no_comma true t e = ap (λ b. cond {A = List ℕ} b (44 ∷ []) []) e
  no_comma false t e = refl

  print_close : (xs : List X) (t : Token) → begins t ≡ false → print (flat_map part xs ++ t ∷ []) ≡ print (flat_map part xs) ++ token_text t
  print_close xs t e = print_from_push false (flat_map part xs) t ∙ ap (λ l. print (flat_map part xs) ++ (l ++ token_text t)) (no_comma _ t e)

-- ---- items

abbrev item_tokens : Tree → List Token
item_tokens value = json_tokens (tree_json value)

-- what is printed of an array's items, without the brackets
abbrev pub items_text : List Tree → List ℕ
items_text values = print (flat_map item_tokens values)

items_tokens-are : (values : List Tree) → items_tokens (trees_in values) ≡ flat_map item_tokens values ++ end_array ∷ []
items_tokens-are [] = refl
items_tokens-are (value ∷ values) = ap (λ ts. item_tokens value ++ ts) (items_tokens-are values) ∙ sym (append_assoc (item_tokens value) _ _)

array_text : (values : List Tree) → text_of (array (trees_in values)) ≡ 91 ∷ (items_text values ++ 93 ∷ [])
unfolding print_from
array_text values = ap (λ ts. 91 ∷ print ts) (items_tokens-are values) ∙ ap (λ l. 91 ∷ l) (print_close item_tokens (λ v. IsPart-value (tree_json v)) values end_array refl)

pub no_items_yet : (values : List Tree) (rest : List ℕ) → values ≡ [] → rest ≡ items_text values ++ rest
unfolding print_from
no_items_yet values rest none = rw none refl

pub one_more_item : (values : List Tree) (value : Tree) (is_first : Bool) (all old begun new : List ℕ) → is_first ≡ (length values == 0)
    → all ≡ items_text values ++ old → old ≡ cond is_first [] (44 ∷ []) ++ begun → begun ≡ text_of (tree_json value) ++ new → all ≡ items_text (values ++ value ∷ []) ++ new
one_more_item values value is_first all old begun new e so_far comma read =
    one_more item_tokens (λ v. IsPart-value (tree_json v)) values value is_first all old new e so_far (comma ∙ ap (λ l. cond is_first [] (44 ∷ []) ++ l) read)

pub less_by_item : (is_first : Bool) (text old begun new : List ℕ) → 0 < length text → old ≡ cond is_first [] (44 ∷ []) ++ begun → begun ≡ text ++ new → length new < length old
less_by_item is_first text old begun new some comma read =
    omega (arith, ap length comma, ap length read, length-append (cond is_first [] (44 ∷ [])) begun, length-append text new)

pub whole_array : (values : List Tree) (all inside rest new : List ℕ) → all ≡ 91 ∷ inside → inside ≡ items_text values ++ rest → rest ≡ 93 ∷ new
    → all ≡ text_of (array (trees_in values)) ++ new
whole_array values all inside rest new opened read closed =
    opened ∙ ap (λ l. 91 ∷ l) (read ∙ ap (λ l. items_text values ++ l) closed ∙ sym (append_assoc (items_text values) (93 ∷ []) new)) ∙ ap (λ l. l ++ new) (sym (array_text values))

-- ---- members

abbrev member_tokens : Bor (List ℕ) × Tree → List Token
member_tokens m = key m.0.now ∷ json_tokens (tree_json m.1)

-- what is printed of an object's members, without the braces
abbrev pub members_text : List (Bor (List ℕ) × Tree) → List ℕ
members_text members = print (flat_map member_tokens members)

members_tokens-are : (members : List (Bor (List ℕ) × Tree)) → members_tokens (trees_under members) ≡ flat_map member_tokens members ++ end_object ∷ []
members_tokens-are [] = refl
members_tokens-are (m ∷ members) = ap (λ ts. member_tokens m ++ ts) (members_tokens-are members) ∙ sym (append_assoc (member_tokens m) _ _)

object_text : (members : List (Bor (List ℕ) × Tree)) → text_of (object (trees_under members)) ≡ 123 ∷ (members_text members ++ 125 ∷ [])
unfolding print_from
object_text members = ap (λ ts. 123 ∷ print ts) (members_tokens-are members) ∙ ap (λ l. 123 ∷ l) (print_close member_tokens (λ m. IsPart-member m.0.now (tree_json m.1)) members end_object refl)

member_text : (m : Bor (List ℕ) × Tree) (new : List ℕ) → print (member_tokens m) ++ new ≡ quoted m.0.now ++ (58 ∷ (text_of (tree_json m.1) ++ new))
unfolding print_from
member_text m new =
    append_assoc (quoted m.0.now ++ 58 ∷ []) (text_of (tree_json m.1)) new ∙ append_assoc (quoted m.0.now) (58 ∷ []) _

pub no_members_yet : (members : List (Bor (List ℕ) × Tree)) (rest : List ℕ) → members ≡ [] → rest ≡ members_text members ++ rest
unfolding print_from
no_members_yet members rest none = rw none refl

pub one_more_member : (members : List (Bor (List ℕ) × Tree)) (m : Bor (List ℕ) × Tree) (is_first : Bool) (all old begun named valued new : List ℕ) → is_first ≡ (length members == 0)
    → all ≡ members_text members ++ old → old ≡ cond is_first [] (44 ∷ []) ++ begun → begun ≡ quoted m.0.now ++ named → named ≡ 58 ∷ valued → valued ≡ text_of (tree_json m.1) ++ new
    → all ≡ members_text (members ++ m ∷ []) ++ new
one_more_member members m is_first all old begun named valued new e so_far comma name colon value =
    let here = name ∙ ap (λ l. quoted m.0.now ++ l) (colon ∙ ap (λ l. 58 ∷ l) value) ∙ sym (member_text m new) in
    one_more member_tokens (λ m. IsPart-member m.0.now (tree_json m.1)) members m is_first all old new e so_far (comma ∙ ap (λ l. cond is_first [] (44 ∷ []) ++ l) here)

pub less_by_member : (is_first : Bool) (k text old begun named valued new : List ℕ) → old ≡ cond is_first [] (44 ∷ []) ++ begun → begun ≡ quoted k ++ named → named ≡ 58 ∷ valued → valued ≡ text ++ new
    → length new < length old
less_by_member is_first k text old begun named valued new comma name colon value =
    omega (arith, ap length comma, ap length name, ap length colon, ap length value, length-append (cond is_first [] (44 ∷ [])) begun, length-append (escape k ++ 34 ∷ []) named, length-append text new)

pub whole_object : (members : List (Bor (List ℕ) × Tree)) (all inside rest new : List ℕ) → all ≡ 123 ∷ inside → inside ≡ members_text members ++ rest → rest ≡ 125 ∷ new
    → all ≡ text_of (object (trees_under members)) ++ new
whole_object members all inside rest new opened read closed =
    opened ∙ ap (λ l. 123 ∷ l) (read ∙ ap (λ l. members_text members ++ l) closed ∙ sym (append_assoc (members_text members) (125 ∷ []) new)) ∙ ap (λ l. l ++ new) (sym (object_text members))

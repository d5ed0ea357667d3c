-- What a tree stands for is what serde_json reads of it.
use Rattle.std.proofs.Common.{◌≡◌, ℕ, Bool, true, false, ◌&&◌, List, [], Option, Some, None, is_some, option_map, option_and_then, refl, ap, ◌∙◌}
use Rattle.json.specs.Json as json
use Rattle.json.specs.Lex.{tokens}
use Rattle.json.specs.Token.{Token}
use Rattle.serde_json.specs.Data.{Num, Data, number, array, object, item, Members, no_members, put}
use Rattle.serde_json.specs.Read.{number_of, of_json, of_items, of_members, read}
use Rattle.boss_json.specs.Trees.{number_data, data_of, items_data, members_data, in_range, items_in_range, members_in_range}

-- x, where the test holds
abbrev only : {A : Type 0} → Bool → A → Option A
only true x = Some x
only false x = None

only_map : {A B : Type 0} (f : A → B) (b : Bool) (x : A) → option_map f (only b x) ≡ only b (f x)
only_map f true x = refl
only_map f false x = refl

-- one and then the others
both : {A B C : Type 0} (f : A → B → C) (one : Option A) (others : Option B) (a b : Bool) (x : A) (y : B) → one ≡ only a x → others ≡ only b y
    → option_and_then (λ d. option_map (f d) others) one ≡ only (a && b) (f x y)
both f one others true true x y e r = rw (e, r) refl
both f one others true false x y e r = rw (e, r) refl
both f one others false b x y e r = rw e refl

after : {A B : Type 0} (g : A → Option B) (one : Option A) (a b : Bool) (x : A) (y : B) → one ≡ only a x → g x ≡ only b y → option_and_then g one ≡ only (a && b) y
after g one true b x y e r = rw e r
after g one false b x y e r = rw e refl

number_only : (n : Option Num) → option_map number n ≡ only (is_some n) (number_data n)
number_only None = refl
number_only (Some n) = refl

mutual
  pub of_json-data : (j : json.Json) → of_json j ≡ only (in_range j) (data_of j)
  of_json-data json.null = refl
  of_json-data (json.boolean b) = refl
  of_json-data (json.number s) = number_only (number_of s)
  of_json-data (json.string s) = refl
  of_json-data (json.array js) = ap (option_map array) (of_items-data js) ∙ only_map array (items_in_range js) (items_data js)
  of_json-data (json.object ms) = ap (option_map object) (of_members-data ms no_members) ∙ only_map object (members_in_range ms) (members_data ms no_members)

  of_items-data : (js : json.Items) → of_items js ≡ only (items_in_range js) (items_data js)
  of_items-data json.no_items = refl
  of_items-data (json.item j js) = both item (of_json j) (of_items js) (in_range j) (items_in_range js) (data_of j) (items_data js) (of_json-data j) (of_items-data js)

  of_members-data : (ms : json.Members) (there : Members) → of_members ms there ≡ only (members_in_range ms) (members_data ms there)
  of_members-data json.no_members there = refl
  of_members-data (json.member k j ms) there =
      after (λ d. of_members ms (put k d there)) (of_json j) (in_range j) (members_in_range ms) (data_of j) (members_data ms (put k (data_of j) there))
      (of_json-data j) (of_members-data ms (put k (data_of j) there))

-- ---- a text whose tokens were read

abbrev whole : Option (json.Json × List Token) → Option Data
whole found = option_and_then of_json (option_and_then (λ p. json.if_last p.0 p.1) found)

pub read-value : (text : List ℕ) (j : json.Json) → json.value 127 (tokens text) ≡ Some (j, []) → in_range j ≡ true → read text ≡ Some (data_of j)
read-value text j is fits = ap whole is ∙ of_json-data j ∙ ap (λ b. only b (data_of j)) fits

pub read-too_large : (text : List ℕ) (j : json.Json) → json.value 127 (tokens text) ≡ Some (j, []) → in_range j ≡ false → read text ≡ None
read-too_large text j is past = ap whole is ∙ of_json-data j ∙ ap (λ b. only b (data_of j)) past

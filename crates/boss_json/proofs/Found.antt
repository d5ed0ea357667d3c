-- What is found in a tree is what is found in its data: of equal keys the last counts in both.
use Rattle.std.proofs.Common.{◌≡◌, ℕ, Bool, true, false, cond, List, Option, Some, None, option_map, bytes_eq, Bor, true≢false, refl, sym, ap, ◌∙◌}
use Rattle.std.proofs.lemmas.Slice.Eq.{bytes_eq-Decides}
use Rattle.json.specs.Json as json
use Rattle.json.specs.Find as tree
use Rattle.serde_json.specs.Data.{Num, Members, no_members, put}
use Rattle.serde_json.specs.Find.{get, get_member}
use Rattle.serde_json.proofs.Views.{get_member-put, get_member-put_other}
use Rattle.boss_json.specs.Trees.{number_data, data_of, members_data}

-- the first of two that is there
abbrev or_else : {A : Type 0} → Option A → Option A → Option A
or_else None other = other
or_else (Some x) other = Some x

-- what was put last, or was there before
put_or : (q k : List ℕ) (j : json.Json) (there : Members) (same : Bool) → bytes_eq k q ≡ same
    → get_member q (put k (data_of j) there) ≡ or_else (option_map data_of (cond same (Some j) None)) (get_member q there)
put_or q k j there true is = let here : k ≡ q = (bytes_eq-Decides k q).0 is in rw (sym here) (get_member-put k (data_of j) there)
put_or q k j there false is =
    get_member-put_other q k (data_of j) there (λ (here : q ≡ k). true≢false (sym ((bytes_eq-Decides k q).1 (sym here)) ∙ is))

later : (found : Option json.Json) (q k : List ℕ) (j : json.Json) (there : Members)
    → or_else (option_map data_of found) (get_member q (put k (data_of j) there))
    ≡ or_else (option_map data_of (tree.later_or found (cond (bytes_eq k q) (Some j) None))) (get_member q there)
later None q k j there = put_or q k j there (bytes_eq k q) refl
later (Some i) q k j there = refl

get_member-data : (q : List ℕ) (ms : json.Members) (there : Members)
    → get_member q (members_data ms there) ≡ or_else (option_map data_of (tree.get_member q ms)) (get_member q there)
get_member-data q json.no_members there = refl
get_member-data q (json.member k j ms) there = get_member-data q ms (put k (data_of j) there) ∙ later (tree.get_member q ms) q k j there

or_none : {A : Type 0} (found : Option A) → or_else found None ≡ found
or_none None = refl
or_none (Some x) = refl

get_number : (q : List ℕ) (n : Option Num) → get q (number_data n) ≡ None
get_number q None = refl
get_number q (Some n) = refl

get-data : (q : List ℕ) (j : json.Json) → get q (data_of j) ≡ option_map data_of (tree.get q j)
get-data q json.null = refl
get-data q (json.boolean b) = refl
get-data q (json.number s) = get_number q _
get-data q (json.string s) = refl
get-data q (json.array js) = refl
get-data q (json.object ms) = get_member-data q ms no_members ∙ or_none _

of_ref : {V : Type 0} (seen : V → json.Json) (found : Option (Bor V)) → option_map (λ v. data_of (seen v.now)) found ≡ option_map data_of (option_map (λ v. seen v.now) found)
of_ref seen None = refl
of_ref seen (Some v) = refl

-- a value that was found under a key, of any type whose values are seen as trees
pub found-data : {V : Type 0} (seen : V → json.Json) (found : Option (Bor V)) (q : List ℕ) (value : json.Json) → option_map (λ v. seen v.now) found ≡ tree.get q value
    → option_map (λ v. data_of (seen v.now)) found ≡ get q (data_of value)
found-data seen found q value is = of_ref seen found ∙ ap (option_map data_of) is ∙ sym (get-data q value)

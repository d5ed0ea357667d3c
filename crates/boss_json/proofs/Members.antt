-- What stands under a key of an object's members, looked up from their end: of equal keys the last counts.
use Rattle.std.proofs.Common.{◌≡◌, ℕ, ◌+◌, ◌-◌, ◌<◌, ◌≤◌, Bool, true, false, cond, List, [], ◌∷◌, ◌++◌, map, take, length, get_or, Option, Some, None, bytes_eq, Bor, refl, sym, ap, ◌∙◌, arith}
use Rattle.std.proofs.lemmas.List.{take_more}
use Rattle.json.specs.Find.{later_or, get_member}
use Rattle.json.specs.Json.{Json, Members}
use Rattle.json.specs.Value.{members_of}

-- members, each of whose values is seen as its tree
abbrev pub seen : {V : Type 0} → (V → Json) → List (Bor (List ℕ) × V) → Members
seen view members = members_of (map (λ m. (m.0, view m.1)) members)

latest : (same : Bool) (j : Json) (first other : Option Json) → later_or (cond same (Some j) first) other ≡ cond same (Some j) (later_or first other)
latest true j first other = refl
latest false j first other = refl

push : {V : Type 0} (view : V → Json) (key : List ℕ) (ms : List (Bor (List ℕ) × V)) (m : Bor (List ℕ) × V)
    → get_member key (seen view (ms ++ m ∷ [])) ≡ cond (bytes_eq m.0.now key) (Some (view m.1)) (get_member key (seen view ms))
push view key [] m = refl
push view key (n ∷ ms) m = ap (λ o. later_or o (cond (bytes_eq n.0.now key) (Some (view n.1)) None)) (push view key ms m) ∙ latest (bytes_eq m.0.now key) (view m.1) _ _

-- among the first members the last one counts, and then those before it
pub last_of : {V : Type 0} (view : V → Json) (key : List ℕ) (members : List (Bor (List ℕ) × V)) (count : ℕ) (d last : Bor (List ℕ) × V) (same : Bool) → 0 < count → count ≤ length members
    → last ≡ get_or members (count - 1) d → bytes_eq last.0.now key ≡ same
    → get_member key (seen view (take count members)) ≡ cond same (Some (view last.1)) (get_member key (seen view (take (count - 1) members)))
last_of view key members count d last same some within there is =
    let next : count ≡ count - 1 + 1 = omega arith in
    let front : take count members ≡ take (count - 1) members ++ last ∷ [] = ap (λ k. take k members) next ∙ take_more members (count - 1) d (omega arith) ∙ ap (λ m. take (count - 1) members ++ m ∷ []) (sym there) in
    ap (λ ms. get_member key (seen view ms)) front ∙ push view key (take (count - 1) members) last ∙ ap (λ b. cond b (Some (view last.1)) (get_member key (seen view (take (count - 1) members)))) is

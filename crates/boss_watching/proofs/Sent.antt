-- How many notices a process was sent, as processes grow; and what an answer to one who asks for notices says of it.
use Rattle.std.proofs.Common.{◌≡◌, inl, inr, ℕ, suc, ◌+◌, ◌-◌, ◌≤◌, nat_lt, List, [], ◌∷◌, length, Bool, true, false, ◌&&◌, not, cond, Option, Some, None, refl, ap, ◌∙◌, subst, arith}
use Rattle.std.specs.Prelude.{nat_eq, nat_le}
use Rattle.std.specs.List.{slice_get, prefix_len}
use Rattle.std.specs.Option.{option_map_or}
use Rattle.std.specs.Cmp.Lexicographic.{pointwise}
use Rattle.std.proofs.lemmas.Bool.{cond_both, cases_Bool}
use Rattle.std.proofs.lemmas.Bool.Decides.{nat_tests}
use Rattle.boss_model.specs.declared.notice.Notice.{Notice}
use Rattle.boss_model.specs.Processes.{process_named}
use Rattle.boss_model.specs.Queries.{named, first_kept, start, numbered_from}
use Rattle.boss_model.specs.Sound.{NumberedFrom}
use Rattle.boss_model.specs.State.{Process, State}
use Rattle.boss_watching.specs.Notes.{sent}
use Rattle.boss_watching.proofs.Growing.{Grown}

-- ---- the process of a name

abbrev called : List ℕ → Process → Bool
called name p = pointwise nat_eq p.name name

abbrev found : List Process → List ℕ → Option Process
found ps name = named ps (process_named ps name)

found-here : (p : Process) (ps : List Process) (name : List ℕ) → called name p ≡ true → found (p ∷ ps) name ≡ Some p
found-here p ps name here = rw here (first p ps)
  where
    first : (p : Process) (ps : List Process) → named (p ∷ ps) (cond (nat_lt 0 (length (p ∷ ps))) (Some 0) None) ≡ Some p
    first p ps = let within : nat_lt 0 (length (p ∷ ps)) ≡ true = grind (arith, nat_tests) in rw within refl

found-from : (p : Process) (ps : List Process) (k : ℕ) (b : Bool) → nat_lt k (length ps) ≡ b →
    named (p ∷ ps) (cond (nat_lt (1 + k) (length (p ∷ ps))) (Some (1 + k)) None) ≡ named ps (cond (nat_lt k (length ps)) (Some k) None)
found-from p ps k true is = let more : nat_lt (1 + k) (length (p ∷ ps)) ≡ true = grind (arith, nat_tests) in
    let next : 1 + k ≡ suc k = omega arith in rw (more, is) (ap (slice_get (p ∷ ps)) next)
found-from p ps k false is = let more : nat_lt (1 + k) (length (p ∷ ps)) ≡ false = grind (arith, nat_tests) in rw (more, is) refl

found-there : (p : Process) (ps : List Process) (name : List ℕ) → called name p ≡ false → found (p ∷ ps) name ≡ found ps name
found-there p ps name there = let k = prefix_len (λ x. not (called name x)) ps in rw there (found-from p ps k (nat_lt k (length ps)) refl)

abbrev pub count_of : Option Process → ℕ
count_of p = option_map_or (λ process. process.count) p 0

count-grown : (ps qs : List Process) (name : List ℕ) → Grown ps qs → count_of (found ps name) ≤ count_of (found qs name)
count-grown [] qs name grown = omega arith
count-grown (p ∷ ps) [] name grown = absurd grown
count-grown (p ∷ ps) (q ∷ qs) name grown = elim (cases_Bool (called name p)) [
  | inl here ↦
      let same : called name q ≡ true = ap (λ n. pointwise nat_eq n name) grown.0 ∙ here in
      let more : p.count ≤ q.count = grown.1 in
      rw (found-here p ps name here, found-here q qs name same) more
  | inr there ↦
      let same : called name q ≡ false = ap (λ n. pointwise nat_eq n name) grown.0 ∙ there in
      rw (found-there p ps name there, found-there q qs name same) (count-grown ps qs name grown.2)
]

pub sent-grown : (name : List ℕ) (s s' : State) → Grown s.persistent.processes s'.persistent.processes → sent name s ≤ sent name s'
sent-grown name s s' grown = count-grown s.persistent.processes s'.persistent.processes name grown

-- ---- what is kept of its notices

few-from : (from most : ℕ) (ns : List Notice) → length (numbered_from from most ns) ≤ length ns
few-from from most [] = omega arith
few-from from most (n ∷ ns) =
    let rest = few-from from most ns in
    cond_both (nat_le from n.number && nat_lt n.number (from + most)) (n ∷ numbered_from from most ns) (numbered_from from most ns) (λ list. length list ≤ length (n ∷ ns))
    (λ _. omega (arith, rest)) (λ _. omega (arith, rest))

-- none is told from beyond the last
numbered-end : (from most k : ℕ) (ns : List Notice) → NumberedFrom k ns → k ≤ from → from ≤ k + length ns → length (numbered_from from most ns) + from ≤ k + length ns
numbered-end from most k [] numbers behind within = omega (arith, within)
numbered-end from most k (n ∷ ns) numbers behind within =
    let here : n.number ≡ k = numbers.0 in
    let few = few-from from most ns in
    cond_both (nat_le from n.number && nat_lt n.number (from + most)) (n ∷ numbered_from from most ns) (numbered_from from most ns)
    (λ list. length list + from ≤ k + length (n ∷ ns))
    (λ yes. let equal : from ≡ k = grind (arith, nat_tests) in omega (arith, few))
    (λ _. cond_both (nat_lt k from) true false (λ b. nat_lt k from ≡ b → length (numbered_from from most ns) + from ≤ k + length (n ∷ ns))
    (λ less _. let later : k + 1 ≤ from = grind (arith, nat_tests) in
    let rest = numbered-end from most (k + 1) ns numbers.1 later (omega (arith, within)) in omega (arith, rest))
    (λ same _. let equal : from ≤ k = grind (arith, nat_tests) in omega (arith, few)) (grind (arith)))

first-number : (k : ℕ) (p : Process) → NumberedFrom k p.kept → k + length p.kept ≡ p.count + 1 → k ≤ first_kept p
first-number k p numbers many = by p.kept refl
  where
    by : (ns : List Notice) → p.kept ≡ ns → k ≤ first_kept p
    by [] is = let none : first_kept p ≡ p.count + 1 = ap (λ ns. option_map_or (λ (notice : Notice). notice.number) (slice_get ns 0) (p.count + 1)) is in
        let empty : length p.kept ≡ 0 = ap length is in omega (arith, none, empty, many)
    by (n ∷ ns) is = let one : first_kept p ≡ n.number = ap (λ ns. option_map_or (λ (notice : Notice). notice.number) (slice_get ns 0) (p.count + 1)) is in
        let number : n.number ≡ k = (subst (NumberedFrom k) is numbers).0 in omega (arith, one, number)

-- where an answer starts
start-is : (p : Process) (from : ℕ) → start p from ≤ p.count + 1
start-is p from = omega arith

pub start-first : (p : Process) (from : ℕ) → 1 ≤ from → 1 ≤ start p from
start-first p from some = omega (arith, some)

pub start-on : (p : Process) (from : ℕ) → from ≤ p.count + 1 → from ≤ start p from
start-on p from within = omega (arith, within)

-- where it ends
pub end-within : (p : Process) (from most : ℕ) → NumberedFrom (p.count + 1 - length p.kept) p.kept → length p.kept ≤ p.count →
    start p from + length (numbered_from (start p from) most p.kept) ≤ p.count + 1
end-within p from most numbers few =
    let k : ℕ = p.count + 1 - length p.kept in
    let many : k + length p.kept ≡ p.count + 1 = omega (arith, few) in
    let first : k ≤ first_kept p = first-number k p numbers many in
    let most_start = start-is p from in
    let least : k ≤ start p from = omega (arith, first, many) in
    let end = numbered-end (start p from) most k p.kept numbers least (omega (arith, most_start, many)) in
    omega (arith, end, many)

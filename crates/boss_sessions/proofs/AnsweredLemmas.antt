-- Commands that are called until none is left.
use Rattle.std.proofs.Common.{◌≡◌, ℕ, zero, suc, ◌+◌, ◌-◌, ◌≤◌, List, [], ◌∷◌, ◌++◌, length, map, take, drop, slice_get, Some, Ok, Err, refl, ap, sym, ◌∙◌, subst, arith}
use Rattle.std.specs.List.{AllByRecursion}
use Rattle.std.proofs.lemmas.List.{length-drop, drop-drop}
use Rattle.boss_model.specs.declared.command.Command.{Command}
use Rattle.boss_model.specs.declared.state.Actuator.{Actuator}
use Rattle.boss_model.specs.Limits.{last_moment}
use Rattle.def_history.specs.History.{MayCall}
use Rattle.def_connection.specs.Speech.{Speech, last_or}
use Rattle.boss_sessions.specs.declared.halt.Halt.{Halt}
use Rattle.boss_sessions.specs.Turns.{Voice, Replied}
use Rattle.boss_sessions.proofs.TurnLemmas.{replied-nothing, replied-then}

pub all-drop : {X : Type 0} (P : X → Type 0) (xs : List X) (n : ℕ) → AllByRecursion P xs → AllByRecursion P (drop n xs)
all-drop P [] zero all = tt
all-drop P [] (suc n) all = tt
all-drop P (x ∷ xs) zero all = all
all-drop P (x ∷ xs) (suc n) all = all-drop P xs n all.1

module _ (speech : Speech) (session : ℕ) (tells : Type 0) where
  -- so many were replied to, and the others are held
  pub record Answered (calls held : List (Command × ℕ)) (old new : Voice) : Type 0 where
    pub count : ℕ
    pub low : count ≤ length calls
    pub held_is : held ≡ drop count calls
    pub replied : Replied speech session tells calls old new (Ok count)

  pub answered-nothing : (calls held : List (Command × ℕ)) (v : Voice) → held ≡ calls → Answered calls held v v
  answered-nothing calls held v is = record { count = 0; low = omega arith; held_is = is; replied = replied-nothing speech session tells calls v }

  pub answered-more : (calls held held' : List (Command × ℕ)) (a b c : Voice) (n : ℕ) → Answered calls held a b → Replied speech session tells held b c (Ok n) → n ≤ length held →
      held' ≡ drop n held → Answered calls held' a c
  answered-more calls held held' a b c n one other low is = record {
    count = one.count + n;
    low = omega (arith, one.low, low, ap length one.held_is, length-drop one.count calls);
    held_is = is ∙ ap (drop n) one.held_is ∙ drop-drop n one.count calls;
    replied = replied-then speech session tells calls a b c one.count (Ok n) one.low one.replied (subst (λ cs. Replied speech session tells cs b c (Ok n)) one.held_is other);
  }

  pub answered-halted : (calls held : List (Command × ℕ)) (a b c : Voice) (why : Halt) → Answered calls held a b → Replied speech session tells held b c (Err why) →
      Replied speech session tells calls a c (Err why)
  answered-halted calls held a b c why one other =
      replied-then speech session tells calls a b c one.count (Err why) one.low one.replied (subst (λ cs. Replied speech session tells cs b c (Err why)) one.held_is other)

  pub answered-all : (calls held : List (Command × ℕ)) (a b : Voice) → length held ≡ 0 → Answered calls held a b → Replied speech session tells calls a b (Ok (length calls))
  answered-all calls held a b none one =
      let all : one.count ≡ length calls = omega (arith, none, one.low, ap length one.held_is, length-drop one.count calls) in
      subst (λ n. Replied speech session tells calls a b (Ok n)) all one.replied

-- ---- the last moment

last-at : (calls : List (Command × ℕ)) (place : ℕ) (call : Command × ℕ) (moment : ℕ) → place + 1 ≡ length calls → slice_get calls place ≡ Some call →
    call.1 ≡ last_or moment (map (λ c. c.1) calls)
last-at [] place call moment all is = absurd (omega (arith, all))
last-at (first ∷ []) zero call moment all is = let same : first ≡ call = cc in ap (λ c. c.1) (sym same)
last-at (first ∷ []) (suc place) call moment all is = absurd (omega (arith, all))
last-at (first ∷ next ∷ calls) zero call moment all is = absurd (omega (arith, all))
last-at (first ∷ next ∷ calls) (suc place) call moment all is = last-at (next ∷ calls) place call first.1 (omega (arith, all)) is

pub last-some : (calls : List (Command × ℕ)) (call : Command × ℕ) (moment : ℕ) → slice_get calls (length calls - 1) ≡ Some call → call.1 ≡ last_or moment (map (λ c. c.1) calls)
last-some [] call moment is = cc
last-some (first ∷ calls) call moment is = last-at (first ∷ calls) (length (first ∷ calls) - 1) call moment (omega arith) is

pub last-soon : (plant : List Actuator) (calls : List (Command × ℕ)) (moment : ℕ) → AllByRecursion (MayCall plant) calls → moment ≤ last_moment → last_or moment (map (λ c. c.1) calls) ≤ last_moment
last-soon plant [] moment may soon = soon
last-soon plant (call ∷ calls) moment may soon = last-soon plant calls call.1 may.1 may.0.1

-- ---- lists

take-front : {X : Type 0} (xs ys : List X) (n : ℕ) → n ≡ length xs → take n (xs ++ ys) ≡ xs
take-front [] ys zero is = refl
take-front [] ys (suc n) is = absurd (omega (arith, is))
take-front (x ∷ xs) ys zero is = absurd (omega (arith, is))
take-front (x ∷ xs) ys (suc n) is = ap (λ rest. x ∷ rest) (take-front xs ys n (omega (arith, is)))

-- the first items are moved behind the others, and cut off
pub cut-front : {X : Type 0} (xs : List X) (n m : ℕ) → m ≡ length xs - n → take m (drop n xs ++ take n xs) ≡ drop n xs
cut-front xs n m is = take-front (drop n xs) (take n xs) m (is ∙ sym (length-drop n xs))

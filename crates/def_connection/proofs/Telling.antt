-- What a sink took of one text, and then of another.
use Rattle.std.proofs.Common.{◌≡◌, ℕ, List, [], ◌++◌, ap, sym, ◌∙◌, subst, append_assoc}
use Rattle.std.proofs.lemmas.List.{append-nil}
use Rattle.boss_outside.specs.Counts.{Rose}
use Rattle.def_connection.specs.Talks.{Told}

pub went-on : {X : Type 0} (a b c s t : List X) → b ≡ a ++ s → c ≡ b ++ t → c ≡ a ++ (s ++ t)
went-on a b c s t first then = then ∙ ap (λ front. front ++ t) first ∙ append_assoc a s t

pub told-whole : (old new : List ℕ) (before now : ℕ) (text : List ℕ) → new ≡ old ++ text → Told old new before now text
told-whole old new before now text is = record { front = (text, [], sym (append-nil text), is); whole = λ calm. is }

pub told-behind : (a b c : List ℕ) (f g h : ℕ) (s t : List ℕ) → b ≡ a ++ s → g ≡ f → Told b c g h t → Told a c f h (s ++ t)
told-behind a b c f g h s t first calm told = record {
  front = (s ++ told.front.0, told.front.1, ap (λ rest. s ++ rest) told.front.2 ∙ sym (append_assoc s told.front.0 told.front.1), went-on a b c s told.front.0 first told.front.3);
  whole = λ quiet. went-on a b c s t first (told.whole (λ rose. quiet (subst (λ n. Rose n h) calm rose)));
}

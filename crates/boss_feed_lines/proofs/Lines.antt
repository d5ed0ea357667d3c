-- Lines by their first word.
use Rattle.std.proofs.Common.{◌≡◌, ℕ, List, ◌∷◌, ◌++◌, drop, codes, Some, None, true, false, sym, ap, ◌∙◌, arith}
use Rattle.std.specs.Fmt.{decimal}
use Rattle.std.specs.Prelude.{slice_index_or}
use Rattle.hex.specs.Hex.{encode_lower}
use Rattle.def_feed.specs.Items.{StateLine, PartLine, EventLine, AreSome, IsItem, IsNumber, item_text, Reads}
use Rattle.boss_feed_lines.specs.Told.{NoBlank, TellsBytes, TellsNumber, TellsNumbers}
use Rattle.boss_feed_lines.proofs.Blanks.{number-no-blank, same-cut}

pub reads-state : (text : List ℕ) (m n : ℕ) → TellsNumbers text (Some (m, n)) → Reads (codes "state " ++ text) (Some (StateLine m n))
reads-state text m n told = ((told.0, told.1), ap (λ t. codes "state " ++ t) told.2)

pub no-state : (text : List ℕ) → TellsNumbers text None → Reads (codes "state " ++ text) None
no-state text never = λ item is same. elim item as (λ x. IsItem x → codes "state " ++ text ≡ item_text x → ⊥) [
  | StateLine m n ↦ λ are alike. never m n are.0 are.1 (ap (drop 6) alike)
  | PartLine b ↦ λ are alike. let e : ◌≡◌ {A = ℕ} 115 112 = ap (λ xs. slice_index_or xs 0 0) alike in absurd (omega arith)
  | EventLine m b ↦ λ are alike. let e : ◌≡◌ {A = ℕ} 115 101 = ap (λ xs. slice_index_or xs 0 0) alike in absurd (omega arith)
] is same

pub reads-part : (text bytes : List ℕ) → TellsBytes text bytes true → Reads (codes "part " ++ text) (Some (PartLine bytes))
reads-part text bytes told = (told.0, ap (λ t. codes "part " ++ t) told.1)

pub no-part : (text bytes : List ℕ) → TellsBytes text bytes false → Reads (codes "part " ++ text) None
no-part text bytes never = λ item is same. elim item as (λ x. IsItem x → codes "part " ++ text ≡ item_text x → ⊥) [
  | StateLine m n ↦ λ are alike. let e : ◌≡◌ {A = ℕ} 112 115 = ap (λ xs. slice_index_or xs 0 0) alike in absurd (omega arith)
  | PartLine b ↦ λ are alike. never b are (ap (drop 5) alike)
  | EventLine m b ↦ λ are alike. let e : ◌≡◌ {A = ℕ} 112 101 = ap (λ xs. slice_index_or xs 0 0) alike in absurd (omega arith)
] is same

-- an event of a number and of digits of bytes
TellsEvent : List ℕ → Type 0
TellsEvent text = (m : ℕ) (b : List ℕ) → IsNumber m → AreSome b → text ≡ decimal m ++ 32 ∷ encode_lower b → ⊥

no-event : (text : List ℕ) → TellsEvent text → Reads (codes "event " ++ text) None
unfolding TellsEvent
no-event text never = λ item is same. elim item as (λ x. IsItem x → codes "event " ++ text ≡ item_text x → ⊥) [
  | StateLine m n ↦ λ are alike. let e : ◌≡◌ {A = ℕ} 101 115 = ap (λ xs. slice_index_or xs 0 0) alike in absurd (omega arith)
  | PartLine b ↦ λ are alike. let e : ◌≡◌ {A = ℕ} 101 112 = ap (λ xs. slice_index_or xs 0 0) alike in absurd (omega arith)
  | EventLine m b ↦ λ are alike. never m b are.0 are.1 (ap (drop 6) alike)
] is same

pub reads-event : (text word rest bytes : List ℕ) (m : ℕ) → text ≡ word ++ 32 ∷ rest → TellsNumber word (Some m) → TellsBytes rest bytes true
    → Reads (codes "event " ++ text) (Some (EventLine m bytes))
reads-event text word rest bytes m is number told =
    ((number.0, told.0), ap (λ t. codes "event " ++ t) (is ∙ (λ i. number.1 i ++ 32 ∷ told.1 i)))

pub event-no-blank : (text : List ℕ) → ((word rest : List ℕ) → NoBlank word → text ≡ word ++ 32 ∷ rest → ⊥) → Reads (codes "event " ++ text) None
unfolding TellsEvent
event-no-blank text never = no-event text (λ m b small are is. never (decimal m) (encode_lower b) (number-no-blank m small) is)

pub event-no-number : (text word rest : List ℕ) → NoBlank word → text ≡ word ++ 32 ∷ rest → TellsNumber word None → Reads (codes "event " ++ text) None
unfolding TellsEvent
event-no-number text word rest none is never = no-event text (λ m b small are same.
    never m small (same-cut word (decimal m) rest (encode_lower b) none (number-no-blank m small) (sym is ∙ same)).0)

pub event-no-bytes : (text word rest bytes : List ℕ) → NoBlank word → text ≡ word ++ 32 ∷ rest → TellsBytes rest bytes false → Reads (codes "event " ++ text) None
unfolding TellsEvent
event-no-bytes text word rest bytes none is never = no-event text (λ m b small are same.
    never b are (same-cut word (decimal m) rest (encode_lower b) none (number-no-blank m small) (sym is ∙ same)).1)

-- no word of a feed begins the line
pub no-word : (line : List ℕ) → ((rest : List ℕ) → line ≡ codes "state " ++ rest → ⊥) → ((rest : List ℕ) → line ≡ codes "part " ++ rest → ⊥)
    → ((rest : List ℕ) → line ≡ codes "event " ++ rest → ⊥) → Reads line None
no-word line state part event = λ item is same. elim item as (λ x. line ≡ item_text x → ⊥) [
  | StateLine m n ↦ λ alike. state (decimal m ++ (codes " " ++ decimal n)) alike
  | PartLine b ↦ λ alike. part (encode_lower b) alike
  | EventLine m b ↦ λ alike. event (decimal m ++ (codes " " ++ encode_lower b)) alike
] same

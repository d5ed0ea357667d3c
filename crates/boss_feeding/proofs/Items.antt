-- The lines of items, and of the parts of a text.
use Rattle.std.proofs.Common.{◌≡◌, ⊎_elim, ℕ, zero, suc, ◌+◌, ◌-◌, ◌<◌, ◌≤◌, min, List, [], ◌∷◌, ◌++◌, length, take, drop, refl, sym, ap, ◌∙◌, append_assoc, arith, length-drop}
use Rattle.std.specs.Prelude.{map, if◌then◌else◌, nat_lt, Bool, true, false}
use Rattle.std.proofs.lemmas.List.{drop-drop, drop-take, drop_all, take-take, take_all}
use Rattle.std.proofs.lemmas.Bool.{cases_lt}
use Rattle.boss_feeding.specs.Lines.{line_text, lines_text}
use Rattle.boss_model.specs.declared.event.Event.{Event}
use Rattle.def_bytes.specs.Events.{event}
use Rattle.def_feed.specs.Feeds.{event_items, longest_part, pieces}
use Rattle.def_feed.specs.Items.{Item, EventLine, PartLine}

pub lines_join : (xs ys : List Item) → lines_text (xs ++ ys) ≡ lines_text xs ++ lines_text ys
lines_join [] ys = refl
lines_join (x ∷ xs) ys = ap (λ t. line_text x ++ t) (lines_join xs ys) ∙ sym (append_assoc (line_text x) (lines_text xs) (lines_text ys))

-- ---- events

abbrev one_more : Bool → Item → List Item → List Item
one_more above item items = if above then item ∷ items else items

one_more_join : (above : Bool) (item : Item) (xs ys zs : List Item) → xs ≡ ys ++ zs → one_more above item xs ≡ one_more above item ys ++ zs
one_more_join true item xs ys zs is = ap (λ items. item ∷ items) is
one_more_join false item xs ys zs is = is

-- events, and more events with the numbers behind theirs
pub events_join : (from number : ℕ) (xs ys : List Event) → event_items from number (xs ++ ys) ≡ event_items from number xs ++ event_items from (number + length xs) ys
events_join from number [] ys = let same : number ≡ number + 0 = omega arith in ap (λ n. event_items from n ys) same
events_join from number (e ∷ xs) ys =
    let on : (number + 1) + length xs ≡ number + length (e ∷ xs) = omega arith in
    one_more_join (nat_lt from number) (EventLine number (event.text e)) (event_items from (number + 1) (xs ++ ys)) (event_items from (number + 1) xs) (event_items from (number + length (e ∷ xs)) ys)
    (events_join from (number + 1) xs ys ∙ ap (λ n. event_items from (number + 1) xs ++ event_items from n ys) on)

pub lines_of_events : (from number : ℕ) (xs ys : List Event) →
    lines_text (event_items from number (xs ++ ys)) ≡ lines_text (event_items from number xs) ++ lines_text (event_items from (number + length xs) ys)
lines_of_events from number xs ys =
    ap lines_text (events_join from number xs ys) ∙ lines_join (event_items from number xs) (event_items from (number + length xs) ys)

-- ---- parts

-- more turns than bytes change nothing
same_pieces : (m n : ℕ) (bytes : List ℕ) → length bytes ≤ m → length bytes ≤ n → pieces m bytes ≡ pieces n bytes
same_pieces m n [] few less = refl
same_pieces zero n (b ∷ bytes) few less = absurd (omega (arith, few))
same_pieces (suc m) zero (b ∷ bytes) few less = absurd (omega (arith, less))
same_pieces (suc m) (suc n) (b ∷ bytes) few less =
    let left = length-drop longest_part (b ∷ bytes) in
    ap (λ ps. take longest_part (b ∷ bytes) ∷ ps) (same_pieces m n (drop longest_part (b ∷ bytes)) (omega (arith, left, few)) (omega (arith, left, less)))

abbrev pub parts_text : List ℕ → List ℕ
parts_text text = lines_text (map PartLine (pieces (length text) text))

pub one_part : (text : List ℕ) → 1 ≤ length text → parts_text text ≡ line_text (PartLine (take longest_part text)) ++ parts_text (drop longest_part text)
one_part [] some = absurd (omega (arith, some))
one_part (b ∷ text) some =
    let left = length-drop longest_part (b ∷ text) in
    ap (λ ps. line_text (PartLine (take longest_part (b ∷ text))) ++ lines_text (map PartLine ps))
    (same_pieces (length text) (length (drop longest_part (b ∷ text))) (drop longest_part (b ∷ text)) (omega (arith, left)) (omega arith))

-- ---- the bytes of a part

module _ (text bytes : List ℕ) (done count : ℕ) (is : take (length text) bytes ≡ text) (within : done < length text) (many : count ≡ min longest_part (length text - done)) where
  left_is : drop done text ≡ take (length text - done) (drop done bytes)
  left_is =
      let all : length text ≡ done + (length text - done) = omega (arith, within) in
      ap (drop done) (sym is) ∙ ap (λ n. drop done (take n bytes)) all ∙ drop-take done (length text - done) bytes

  long_left : length (drop done text) ≡ length text - done
  long_left = length-drop done text

  pub part_is : take longest_part (drop done text) ≡ take count (drop done bytes)
  part_is = ⊎_elim
      (λ short.
      let few : length (drop done text) ≤ longest_part = omega (arith, short, long_left) in
      let all : length text - done ≡ count = omega (arith, short, many) in
      take_all longest_part (drop done text) few ∙ left_is ∙ ap (λ n. take n (drop done bytes)) all)
      (λ long.
      let most : longest_part ≡ count = omega (arith, long, many) in
      ap (take longest_part) left_is ∙ take-take longest_part (length text - done) (drop done bytes) (omega (arith, long)) ∙ ap (λ n. take n (drop done bytes)) most)
      (cases_lt (length text - done) longest_part)

  pub rest_is : drop longest_part (drop done text) ≡ drop (done + count) text
  rest_is = ⊎_elim
      (λ short.
      drop_all longest_part (drop done text) (omega (arith, short, long_left)) ∙ sym (drop_all (done + count) text (omega (arith, short, many))))
      (λ long.
      let most : done + longest_part ≡ done + count = omega (arith, long, many) in
      drop-drop longest_part done text ∙ ap (λ n. drop n text) most)
      (cases_lt (length text - done) longest_part)

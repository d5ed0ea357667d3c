-- How far the bytes of a state were told.
use Rattle.std.proofs.Common.{◌≡◌, ℕ, ◌+◌, ◌-◌, ◌<◌, ◌≤◌, min, List, ◌++◌, length, take, drop, Result, ap, subst, ◌∙◌, arith, length-drop}
use Rattle.std.proofs.lemmas.List.{drop-drop, drop_all}
use Rattle.boss_feeding.specs.Held.{HasText}
use Rattle.boss_feeding.specs.Lines.{line_text, lines_text}
use Rattle.boss_feeding.proofs.Items.{one_part, part_is, parts_text, rest_is}
use Rattle.boss_feeding.proofs.Writing.{SoFar, all_told, front_told, part_told, some_more, then_told}
use Rattle.boss_outside.specs.Streams.{TakesFront, Writes}
use Rattle.def_feed.specs.Feeds.{longest_part, state_items}
use Rattle.def_feed.specs.Items.{PartLine, StateLine}

module _ (number place size : ℕ) (text bytes old : List ℕ) (has : HasText place size text bytes) where
  long : size ≡ length text
  long = has.size_is

  abbrev pub all_lines : List ℕ
  all_lines = parts_text text

  -- the line before the parts
  abbrev first_line : ℕ → List ℕ
  first_line n = line_text (StateLine number n)

  -- what was told behind the first line is told behind the line that the text wants
  pub state_told : {T E : Type 0} (mid new : List ℕ) (result : Result T E) → mid ≡ old ++ first_line size → Writes mid new all_lines result →
      Writes old new (lines_text (state_items number text)) result
  state_told mid new result told more = then_told old mid new (first_line (length text)) all_lines result (told ∙ ap (λ n. old ++ first_line n) long) more

  pub state_broken : (new : List ℕ) → TakesFront old new (first_line size) → TakesFront old new (lines_text (state_items number text))
  state_broken new front = part_told old new (first_line (length text)) all_lines (subst (λ n. TakesFront old new (first_line n)) long front)

  module _ (done count : ℕ) (within : done < size) (part : count ≡ min longest_part (size - done)) where
    abbrev part_line : List ℕ
    part_line = line_text (PartLine (take count (drop (place + done) bytes)))

    next_part : parts_text (drop done text) ≡ part_line ++ parts_text (drop (done + count) text)
    next_part =
        let inside : done < length text = omega (arith, within, long) in
        let least : count ≡ min longest_part (length text - done) = part ∙ ap (λ n. min longest_part (n - done)) long in
        let some : 1 ≤ length (drop done text) = omega (arith, inside, length-drop done text) in
        one_part (drop done text) some
        ∙ ap (λ t. line_text (PartLine t) ++ parts_text (drop longest_part (drop done text)))
        (part_is text (drop place bytes) done count has.is inside least ∙ ap (take count) (drop-drop done place bytes))
        ∙ ap (λ t. part_line ++ parts_text t) (rest_is text (drop place bytes) done count has.is inside least)

    pub part_step : (now new : List ℕ) → SoFar old now all_lines (parts_text (drop done text)) → new ≡ now ++ part_line → SoFar old new all_lines (parts_text (drop (done + count) text))
    part_step now new so told = some_more old now new all_lines part_line (parts_text (drop (done + count) text)) (subst (SoFar old now all_lines) next_part so) told

    pub part_broken : (now new : List ℕ) → SoFar old now all_lines (parts_text (drop done text)) → TakesFront now new part_line → TakesFront old new all_lines
    part_broken now new so front = front_told old now new all_lines part_line (parts_text (drop (done + count) text)) (subst (SoFar old now all_lines) next_part so) front

  pub text_told : (done : ℕ) (now : List ℕ) → size ≤ done → SoFar old now all_lines (parts_text (drop done text)) → now ≡ old ++ all_lines
  text_told done now end so =
      all_told old now all_lines (subst (λ t. SoFar old now all_lines (parts_text t)) (drop_all done text (omega (arith, end, long))) so)

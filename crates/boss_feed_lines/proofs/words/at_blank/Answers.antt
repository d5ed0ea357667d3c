use Rattle.std.proofs.Common.{◌+◌, ◌-◌, ◌<◌, ◌∷◌, ◌++◌, ◌≡◌, length, take, drop, slice_index, sym, ◌∙◌, ap, add-one, subst, eqb-true, eq-eqb, arith}
use Rattle.std.proofs.lemmas.List.{take_all, length-drop}
use Rattle.boss_feed_lines.proofs.Blanks.{blank-at, blank-within, no-blank-before, split-at}
use Rattle.boss_feed_lines.proofs.words.at_blank.Goals as goal

pub returns-in-Some : goal.returns-in-Some
returns-in-Some c =
    let text = c.args.text.now in
    let place = c.in-Some.place in
    let first = c.in-Some.ensures in
    let rest : take (length text - (place + 1)) (drop (place + 1) text) ≡ drop (place + 1) text =
    take_all (length text - (place + 1)) (drop (place + 1) text) (omega (arith, length-drop (place + 1) text)) in (
      no-blank-before place text (λ k low is. first.0.before k (omega arith) low (eq-eqb _ 32 is)),
      split-at place text first.0.high (eqb-true _ 32 first.1)
          ∙ ap (λ xs. take place text ++ 32 ∷ xs) (ap (λ n. drop n text) (sym (add-one place)) ∙ sym rest),
    )

pub returns-in-None : goal.returns-in-None
returns-in-None c word rest none is =
    c.in-None.ensures (length word) (omega arith) (subst (λ xs. length word < length xs) (sym is) (blank-within word rest))
    (eq-eqb _ 32 (ap (λ xs. slice_index xs (length word)) is ∙ blank-at word rest))

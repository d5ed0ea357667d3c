-- The parts of a state are followed: they are passed over, or the state is taken with the last of them.
use Rattle.std.proofs.Common.{◌≡◌, ℕ, zero, suc, ◌+◌, ◌-◌, ◌≤◌, max, min, nat_le, ◌==◌, List, [], ◌∷◌, ◌++◌, length, map, take, drop, inl, sym, ap, ◌∙◌, subst, arith, append_assoc, append-nil, length-append, length-take, length-drop}
use Rattle.std.proofs.lemmas.Bool.{cond-true, cond-false, le-leb, lt-leb, eq-eqb, ne_eqb}
use Rattle.std.proofs.lemmas.List.{take-append-drop}
use Rattle.boss_model.specs.declared.event.Event.{Event}
use Rattle.boss_model.specs.declared.state.Actuator.{Actuator}
use Rattle.boss_model.specs.State.{Persistent}
use Rattle.def_bytes.specs.Exact.{IsBytes}
use Rattle.def_feed.specs.Items.{Item, PartLine, item_text}
use Rattle.def_feed.specs.Feeds.{longest_part, pieces}
use Rattle.def_feed.specs.Followers.{Passing, Taking, Follower, between, Step, On, Whole, step_of, is_due, IsState, Outcome, Through, OnStep, Follows}
use Rattle.def_feed.specs.Histories.{IsAfter, whole_since}
use Rattle.law_bytes.proofs.Texts.{no-bytes, one-more}
use Rattle.law_feed.proofs.EventsFollowed.{Ends, at-rest, first-item, other-items}
use Rattle.law_feed.proofs.ItemSteps.{line-steps}

-- ---- bytes of a part

back-bytes : (xs ys : List ℕ) → IsBytes (xs ++ ys) → IsBytes ys
back-bytes [] ys are = are
back-bytes (x ∷ xs) ys are = back-bytes xs ys (λ i. are (suc i))

front-bytes : (xs ys : List ℕ) → IsBytes (xs ++ ys) → IsBytes xs
front-bytes [] ys are = no-bytes
front-bytes (x ∷ xs) ys are = one-more x xs (are zero) (front-bytes xs ys (λ i. are (suc i)))

-- ---- the parts of a state with this text, from one place to another

-- Behind the parts that were done the follower is at a place. A part that is due, and is not the last, leads to the next place;
-- the last one leads to the end.
pub record Parts (plant : List Actuator) (text : List ℕ) (at : List ℕ → Follower) (end : Follower) : Type 0 where
  pub on : (done piece rest : List ℕ) → text ≡ done ++ (piece ++ rest) → length piece ≡ min longest_part (length text - length done) → 1 ≤ length rest →
      step_of (at done) (PartLine piece) ≡ On (at (done ++ piece))
  pub last : (done piece : List ℕ) → text ≡ done ++ piece → length piece ≡ min longest_part (length text - length done) →
      (step : Step) × (step_of (at done) (PartLine piece) ≡ step) × ((number : ℕ) (lines : List (List ℕ)) (outcome : Outcome) → Follows plant end (number + 1) lines outcome →
      OnStep plant (at done) number (λ next. Follows plant next (number + 1) lines outcome) outcome step)

module _ (plant : List Actuator) (history : List Event) (text : List ℕ) (at : List ℕ → Follower) (end : Follower) (parts : Parts plant text at end) (are : IsBytes text)
    (start last many : ℕ) (more : List Item)
    (still : (done : List ℕ) → ((at done).count ≡ max start last) × IsAfter plant history (at done).count (at done).lasting)
    (behind : (read left : List Item) (number : ℕ) → read ++ left ≡ more → Ends plant history start end number read (whole_since many many 0 read)) where
  -- one part, behind which these bytes are due
  one-part : (turns : ℕ) (done piece rest : List ℕ) → text ≡ done ++ (piece ++ rest) → length piece ≡ min longest_part (length text - length done) → 1 ≤ length piece →
      (read left : List Item) (number : ℕ) → read ++ left ≡ map PartLine (pieces turns rest) ++ more →
      (1 ≤ length rest → Ends plant history start (at (done ++ piece)) (number + 1) read (whole_since last many (length rest) read)) →
      Ends plant history start (at done) number (PartLine piece ∷ read) (whole_since last many (length (piece ++ rest)) (PartLine piece ∷ read))
  one-part turns done piece [] is due some read left number items onward =
      let same : text ≡ done ++ piece = is ∙ ap (λ b. done ++ b) (append-nil piece) in
      let bytes : IsBytes piece = back-bytes done piece (subst IsBytes same are) in
      let ends = behind read left (number + 1) items in
      let step = parts.last done piece same due in
      let whole : whole_since last many (length (piece ++ [])) (PartLine piece ∷ read) ≡ whole_since many many 0 read =
      cond-true (nat_le (length (piece ++ [])) (length piece)) _ _ (le-leb _ _ (omega (arith, length-append piece []))) in
      subst (Ends plant history start (at done) number (PartLine piece ∷ read)) (sym whole) (record {
        after = ends.after;
        through = line-steps plant (at done) number (PartLine piece) (map item_text read) (Through ends.after) (bytes, some) (omega arith) step.0 step.1
            (step.2 number (map item_text read) (Through ends.after) ends.through);
        counted = ends.counted;
        is = ends.is;
      })
  one-part turns done piece (b ∷ rest) is due some read left number items onward =
      let bytes : IsBytes piece = front-bytes piece (b ∷ rest) (back-bytes done (piece ++ (b ∷ rest)) (subst IsBytes is are)) in
      let ends = onward (omega arith) in
      let sum : length (piece ++ (b ∷ rest)) ≡ length piece + length (b ∷ rest) = length-append piece (b ∷ rest) in
      let whole : whole_since last many (length (piece ++ (b ∷ rest))) (PartLine piece ∷ read) ≡ whole_since last many (length (b ∷ rest)) read =
      cond-false (nat_le (length (piece ++ (b ∷ rest))) (length piece)) _ _ (lt-leb _ _ (omega arith)) ∙ ap (λ due. whole_since last many due read) (omega arith) in
      subst (Ends plant history start (at done) number (PartLine piece ∷ read)) (sym whole) (record {
        after = ends.after;
        through = line-steps plant (at done) number (PartLine piece) (map item_text read) (Through ends.after) (bytes, some) (omega arith)
            (On (at (done ++ piece))) (parts.on done piece (b ∷ rest) is due (omega arith)) ends.through;
        counted = ends.counted;
        is = ends.is;
      })

  pub parts-followed : (turns : ℕ) (done todo : List ℕ) → text ≡ done ++ todo → length todo ≤ turns → 1 ≤ length todo → (read left : List Item) (number : ℕ) →
      read ++ left ≡ map PartLine (pieces turns todo) ++ more → Ends plant history start (at done) number read (whole_since last many (length todo) read)
  parts-followed turns done todo is enough some [] left number items = at-rest plant history start (at done) number last (still done).0 (still done).1
  parts-followed turns done [] is enough some (item ∷ read) left number items = absurd (omega arith)
  parts-followed zero done (b ∷ todo) is enough some (item ∷ read) left number items = absurd (omega arith)
  parts-followed (suc turns) done (b ∷ todo) is enough some (item ∷ read) left number items =
      let piece : List ℕ = take longest_part (b ∷ todo) in
      let rest : List ℕ = drop longest_part (b ∷ todo) in
      let cut : piece ++ rest ≡ b ∷ todo = take-append-drop longest_part (b ∷ todo) in
      let split : text ≡ done ++ (piece ++ rest) = is ∙ ap (λ x. done ++ x) (sym cut) in
      let all : length text ≡ length done + length (b ∷ todo) = ap length is ∙ length-append done (b ∷ todo) in
      let piece-size : length piece ≡ min longest_part (length (b ∷ todo)) = length-take longest_part (b ∷ todo) in
      let rest-size : length rest ≡ length (b ∷ todo) - longest_part = length-drop longest_part (b ∷ todo) in
      let those : read ++ left ≡ map PartLine (pieces turns rest) ++ more = other-items item (PartLine piece) _ _ items in
      let closer : text ≡ (done ++ piece) ++ rest = split ∙ sym (append_assoc done piece rest) in
      subst (λ x. Ends plant history start (at done) number (x ∷ read) (whole_since last many (length (b ∷ todo)) (x ∷ read))) (sym (first-item item (PartLine piece) _ _ items))
      (subst (λ x. Ends plant history start (at done) number (PartLine piece ∷ read) (whole_since last many (length x) (PartLine piece ∷ read))) cut
      (one-part turns done piece rest split (omega arith) (omega arith) read left number those
      (λ few. parts-followed turns (done ++ piece) rest closer (omega arith) few read left (number + 1) those)))

-- ---- the two ways

module _ (plant : List Actuator) (d : Persistent) (c : ℕ) (text : List ℕ) where
  -- what is left of it is passed over
  abbrev pub passing-at : List ℕ → Follower
  passing-at done = record { lasting = d; count = c; place = Passing (length text - length done) }

  pub passed-parts : Parts plant text passing-at (between d c)
  passed-parts = record {
    on = λ done piece rest is due some.
        let all : length text ≡ length done + (length piece + length rest) = ap length is ∙ length-append done (piece ++ rest) ∙ ap (λ k. length done + k) (length-append piece rest) in
        let left : length text - length done - length piece ≡ length text - length (done ++ piece) = omega (arith, length-append done piece) in
        cond-true (is_due (length text - length done) piece) _ _ (eq-eqb _ _ due)
        ∙ ap (λ place. On (record { lasting = d; count = c; place = place }))
        (cond-false ((length text - length done - length piece) == 0) _ _ (ne_eqb _ _ (λ none. absurd (omega arith))) ∙ ap Passing left);
    last = λ done piece is due. (
      On (between d c),
      (let all : length text ≡ length done + length piece = ap length is ∙ length-append done piece in
          cond-true (is_due (length text - length done) piece) _ _ (eq-eqb _ _ due)
          ∙ ap (λ place. On (record { lasting = d; count = c; place = place }))
          (cond-true ((length text - length done - length piece) == 0) _ _ (eq-eqb _ _ (omega arith)))),
      λ number lines outcome rest. rest,
    );
  }

  module _ (base : Persistent) (many : ℕ) (state : IsState plant text base) where
    -- it is taken, and so much of it has come
    abbrev pub taking-at : List ℕ → Follower
    taking-at done = record { lasting = d; count = c; place = Taking many (length text) done }

    pub taken-parts : Parts plant text taking-at (between base many)
    taken-parts = record {
      on = λ done piece rest is due some.
          let all : length text ≡ length done + (length piece + length rest) = ap length is ∙ length-append done (piece ++ rest) ∙ ap (λ k. length done + k) (length-append piece rest) in
          let have : length (done ++ piece) ≡ length done + length piece = length-append done piece in
          cond-true (is_due (length text - length done) piece) _ _ (eq-eqb _ _ due)
          ∙ cond-false (length (done ++ piece) == length text) _ _ (ne_eqb _ _ (λ same. absurd (omega arith)));
      last = λ done piece is due. (
        Whole many (done ++ piece),
        (cond-true (is_due (length text - length done) piece) _ _ (eq-eqb _ _ due)
            ∙ cond-true (length (done ++ piece) == length text) _ _ (eq-eqb _ _ (ap length (sym is)))),
        λ number lines outcome rest. inl (base, subst (λ bytes. IsState plant bytes base) is state, rest),
      );
    }

-- Lines that a reader gives one after another, and what it came to.
use Rattle.std.proofs.Common.{◌≡◌, ◌≢◌, inl, inr, ℕ, zero, suc, ◌≤◌, ◌==◌, Bool, true, false, cond, List, [], ◌∷◌, ◌++◌, length, take, refl, ap, sym, ◌∙◌, append-nil, append_assoc, Option, Some, None, arith}
use Rattle.std.specs.List.{onto_first}
use Rattle.std.specs.Prelude.{IfSome}
use Rattle.std.proofs.lemmas.Bool.{cond_both}
use Rattle.std.proofs.lemmas.Bool.Decides.{nat_tests}
use Rattle.std.proofs.lemmas.List.{length-append}
use Rattle.boss_model.specs.Lines.{lines, whole_lines, before_first}
use Rattle.boss_lines.specs.declared.reader.Next.{Next}
use Rattle.boss_lines.specs.declared.reader.Next.TheVariants.{Line, Finish, TooLong, ReadFault}
use Rattle.boss_lines.specs.Given.{BreaksOff, GivesLines}
use Rattle.boss_lines.specs.Lines.{Answers, BeginsTooLong, EndsLine, Leaves, StopsAt}
use Rattle.boss_lines.specs.Window.{NoLineEnd}
use Rattle.boss_lines.proofs.LinesLemmas.{BeginsTooLong-lines}

-- These lines were taken of the front of the bytes. While the source has not told its end, whatever stands behind that front
-- has the lines that follow.
pub record Taken (bytes : List ℕ) (given : List (List ℕ)) (rest : List ℕ) (stopped : Option Next) : Type 0 where
  pub front : List ℕ
  pub split : bytes ≡ front ++ rest
  pub all : lines bytes ≡ given ++ lines rest
  pub going : stopped ≡ None → (more : List ℕ) → (lines (front ++ more) ≡ given ++ lines more) × (whole_lines (front ++ more) ≡ given ++ whole_lines more)

-- no line was taken
pub taken-nothing : (bytes : List ℕ) (stopped : Option Next) → Taken bytes [] bytes stopped
taken-nothing bytes stopped = record { front = []; split = refl; all = refl; going = λ none more. (refl, refl) }

-- ---- a line that stands before its end

lines-some : (byte : ℕ) (bytes : List ℕ) → 1 ≤ length (lines (byte ∷ bytes))
lines-some byte bytes = cond_both (byte == 10) ([] ∷ lines bytes) (onto_first byte (lines bytes)) (λ all. 1 ≤ length all) (λ _. omega arith) (λ _. onto-some (lines bytes))
  where
    onto-some : (all : List (List ℕ)) → 1 ≤ length (onto_first byte all)
    onto-some [] = omega arith
    onto-some (line ∷ rest) = omega arith

some-line : (xs new : List ℕ) → 1 ≤ length (lines (xs ++ 10 ∷ new))
some-line [] new = omega arith
some-line (x ∷ xs) new = lines-some x (xs ++ 10 ∷ new)

-- the first line is the first whatever stands behind its end
first-line : (line new more : List ℕ) → lines (line ++ 10 ∷ new) ≡ line ∷ lines new →
    (lines (line ++ 10 ∷ more) ≡ line ∷ lines more) × (whole_lines (line ++ 10 ∷ more) ≡ line ∷ whole_lines more)
first-line [] new more is = (refl, refl)
first-line (b ∷ line) new more is = by (b == 10) (first-line line new more) is
  where
    rest : (all : List (List ℕ)) → 1 ≤ length all → onto_first b all ≡ (b ∷ line) ∷ lines new → all ≡ line ∷ lines new
    rest [] some same = absurd (omega (arith, some))
    rest (first ∷ others) some same =
        let first-is : first ≡ line = cc in
        let others-are : others ≡ lines new = cc in
        ap (λ l. l ∷ others) first-is ∙ ap (λ ls. line ∷ ls) others-are

    by : (ends : Bool) → (lines (line ++ 10 ∷ new) ≡ line ∷ lines new → (lines (line ++ 10 ∷ more) ≡ line ∷ lines more) × (whole_lines (line ++ 10 ∷ more) ≡ line ∷ whole_lines more)) →
        cond ends ([] ∷ lines (line ++ 10 ∷ new)) (onto_first b (lines (line ++ 10 ∷ new))) ≡ (b ∷ line) ∷ lines new →
        (cond ends ([] ∷ lines (line ++ 10 ∷ more)) (onto_first b (lines (line ++ 10 ∷ more))) ≡ (b ∷ line) ∷ lines more)
        × (cond ends ([] ∷ whole_lines (line ++ 10 ∷ more)) (before_first b (whole_lines (line ++ 10 ∷ more))) ≡ (b ∷ line) ∷ whole_lines more)
    by true behind same = absurd cc
    by false behind same =
        let both = behind (rest (lines (line ++ 10 ∷ new)) (some-line line new) same) in
        (ap (onto_first b) both.0, ap (before_first b) both.1)

-- ---- one line more

behind : (given more : List (List ℕ)) (line : List ℕ) → given ++ line ∷ more ≡ (given ++ line ∷ []) ++ more
behind given more line = sym (append_assoc given (line ∷ []) more)

-- a reader gave one line more
pub taken-line : (bytes old new line : List ℕ) (given : List (List ℕ)) (stopped stopped' : Option Next) → Taken bytes given old stopped → stopped ≡ None →
    lines old ≡ line ∷ lines new → EndsLine old new line stopped' → Taken bytes (given ++ line ∷ []) new stopped'
taken-line bytes old new line given stopped None taken none next ends = record {
  front = taken.front ++ (line ++ 10 ∷ []);
  split = taken.split
      ∙ ap (λ xs. taken.front ++ xs) (ends ∙ sym (append_assoc line (10 ∷ []) new))
      ∙ sym (append_assoc taken.front (line ++ 10 ∷ []) new);
  all = taken.all ∙ ap (λ ls. given ++ ls) next ∙ behind given (lines new) line;
  going = λ _ more.
      let both = first-line line new more (ap lines (sym ends) ∙ next) in
      let place : (taken.front ++ (line ++ 10 ∷ [])) ++ more ≡ taken.front ++ (line ++ 10 ∷ more) =
      append_assoc taken.front (line ++ 10 ∷ []) more ∙ ap (λ xs. taken.front ++ xs) (append_assoc line (10 ∷ []) more) in
      let before = taken.going none (line ++ 10 ∷ more) in (
        ap lines place ∙ before.0 ∙ ap (λ ls. given ++ ls) both.0 ∙ behind given (lines more) line,
        ap whole_lines place ∙ before.1 ∙ ap (λ ls. given ++ ls) both.1 ∙ behind given (whole_lines more) line,
      );
}
taken-line bytes old new line given stopped (Some answer) taken none next ends = record {
  front = taken.front ++ line;
  split = taken.split
      ∙ ap (λ xs. taken.front ++ xs) (ends.0 ∙ sym (append-nil line) ∙ ap (λ xs. line ++ xs) (sym ends.1))
      ∙ sym (append_assoc taken.front line new);
  all = taken.all ∙ ap (λ ls. given ++ ls) next ∙ behind given (lines new) line;
  going = λ is. absurd cc;
}

-- ---- what it came to

-- it gave a line, and now it comes to another answer than the end of the source: the source has not told its end
pub still-going : (P Q : Next → Type 0) (stopped : Option Next) (next : Next) → StopsAt Line stopped → IfSome stopped (λ answer. (next ≡ answer) × P answer × Q answer) → next ≢ Finish → stopped ≡ None
still-going P Q None next stops stays other = refl
still-going P Q (Some answer) next stops stays other = elim stops [ inl none ↦ absurd cc | inr over ↦ absurd (other (let is = stays.0 in cc)) ]

take-first : {A : Type 0} (first rest : List A) (count : ℕ) → length first ≡ count → first ≡ take count (first ++ rest)
take-first [] rest count is = let none : count ≡ 0 = omega (arith, is) in ap (λ n. take n rest) (sym none)
take-first (x ∷ first) rest zero is = absurd (omega (arith, is))
take-first (x ∷ first) rest (suc count) is = ap (λ xs. x ∷ xs) (take-first first rest count (omega (arith, is)))

end-of : {A : Type 0} (xs ys : List A) → xs ++ ys ≡ [] → ys ≡ []
end-of [] ys is = is
end-of (x ∷ xs) ys is = cc

-- bytes without a line end have no line that has its end
pub open-lines : (rest : List ℕ) → NoLineEnd (length rest) rest → whole_lines rest ≡ []
open-lines [] before = refl
open-lines (b ∷ rest) before =
    let here : b ≢ 10 = before 0 (omega arith) in
    let other : (b == 10) ≡ false = grind (arith, nat_tests) in
    rw other (ap (before_first b) (open-lines rest (λ k low. before (suc k) (omega (arith, low)))))

breaks-off : (all given rest : List (List ℕ)) → all ≡ given ++ rest → BeginsTooLong rest → BreaksOff all given
breaks-off all given rest is begins = (begins.0, begins.1, is ∙ ap (λ ls. given ++ ls) begins.2, begins.3)

-- the answer that comes behind the lines that were given
pub gives-lines : (limit : ℕ) (bytes old ahead left line : List ℕ) (given : List (List ℕ)) (stopped : Option Next) (answer : Next) → Taken bytes given old stopped →
    (answer ≢ Finish → stopped ≡ None) → Answers old (ahead ++ left) line answer → Leaves line ahead answer →
    (answer ≡ Line → (length given ≡ limit) × ((stopped' : Option Next) × EndsLine old (ahead ++ left) line stopped')) → GivesLines limit bytes left given answer
gives-lines limit bytes old ahead left line given stopped Line taken none answers leaves full =
    let end = full refl in
    let more = taken-line bytes old (ahead ++ left) line given stopped end.1.0 taken (none (λ is. cc)) answers.0 end.1.1 in
    let all : lines bytes ≡ given ++ line ∷ lines (ahead ++ left) = taken.all ∙ ap (λ ls. given ++ ls) answers.0 in
    record {
      read = more.front ++ ahead;
      split = more.split ∙ sym (append_assoc more.front ahead left);
      gives = (
        take-first given (line ∷ lines (ahead ++ left)) limit end.0 ∙ ap (take limit) (sym all),
        omega (arith, end.0, ap length all, length-append given (line ∷ lines (ahead ++ left))),
      );
    }
gives-lines limit bytes old ahead left line given stopped Finish taken none answers leaves full =
    let over : left ≡ [] = end-of ahead left answers.1 in
    record {
      read = bytes;
      split = sym (append-nil bytes) ∙ ap (λ xs. bytes ++ xs) (sym over);
      gives = (sym (taken.all ∙ ap (λ bs. given ++ lines bs) answers.0 ∙ append-nil given), over);
    }
gives-lines limit bytes old ahead left line given stopped TooLong taken none answers leaves full =
    record {
      read = taken.front ++ ahead;
      split = taken.split ∙ ap (λ xs. taken.front ++ xs) (sym answers.0) ∙ sym (append_assoc taken.front ahead left);
      gives = (
        breaks-off (lines bytes) given (lines old) taken.all answers.2,
        breaks-off (lines (taken.front ++ ahead)) given (lines ahead) (taken.going (none (λ is. cc)) ahead).0 (BeginsTooLong-lines ahead leaves.1),
      );
    }
gives-lines limit bytes old ahead left line given stopped ReadFault taken none answers leaves full =
    record {
      read = taken.front ++ ahead;
      split = taken.split ∙ ap (λ xs. taken.front ++ xs) (sym answers) ∙ sym (append_assoc taken.front ahead left);
      gives = sym ((taken.going (none (λ is. cc)) ahead).1 ∙ ap (λ ls. given ++ ls) (open-lines ahead leaves.1) ∙ append-nil given);
    }

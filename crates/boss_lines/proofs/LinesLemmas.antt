use Rattle.std.proofs.Common.{◌≡◌, ◌≢◌, ℕ, zero, suc, ◌+◌, ◌<◌, Bool, List, [], ◌∷◌, ◌++◌, length, take, drop, slice_index, Option, Some, None, inl, inr, if◌then◌else◌, refl, sym, ◌∙◌, ap, subst, append-nil, append_assoc, add-one, eq-eqb, arith}
use Rattle.std.specs.List.{onto_first}
use Rattle.std.proofs.lemmas.Bool.{ne_eqb}
use Rattle.std.proofs.lemmas.List.{get_or_append_left, length-append, take_all, drop_all}
use Rattle.boss_model.specs.Lines.{lines}
use Rattle.boss_model.specs.Limits.{longest_line}
use Rattle.boss_lines.specs.declared.reader.Next.{Next}
use Rattle.boss_lines.specs.declared.reader.Next.TheVariants.{Line, Finish, TooLong, ReadFault}
use Rattle.boss_lines.specs.Lines.{Answers, BeginsTooLong, EndsLine, Leaves, LeavesAhead, NextCause, StopsAt}
use Rattle.boss_lines.specs.Window.{NoLineEnd, IsTooLong, Shows}
use Rattle.boss_lines.specs.declared.window.Found.TheVariants.{LineEnd, SourceEnd}

-- a byte 10 ends the first line
lines-end : (b : ℕ) (bytes : List ℕ) → b ≡ 10 → lines (b ∷ bytes) ≡ [] ∷ lines bytes
lines-end b bytes is = ap (λ (t : Bool). if t then [] ∷ lines bytes else onto_first b (lines bytes)) (eq-eqb b 10 is)

-- any other byte begins it
lines-begin : (b : ℕ) (bytes : List ℕ) → b ≢ 10 → lines (b ∷ bytes) ≡ onto_first b (lines bytes)
lines-begin b bytes is_not = ap (λ (t : Bool). if t then [] ∷ lines bytes else onto_first b (lines bytes)) (ne_eqb b 10 is_not)

-- what holds of the places of a list holds of those behind its first byte
pub NoLineEnd-tail : (count b : ℕ) (bytes : List ℕ) → NoLineEnd (suc count) (b ∷ bytes) → NoLineEnd count bytes
NoLineEnd-tail count b bytes before k low is = before (suc k) (omega arith) is

-- the bytes up to the first line end are the first line
pub lines-append : (bytes more : List ℕ) (place : ℕ) → NoLineEnd place bytes → place < length bytes → slice_index bytes place ≡ 10
    → lines (bytes ++ more) ≡ take place bytes ∷ lines (drop (suc place) bytes ++ more)
lines-append [] more place before within is = absurd (omega arith)
lines-append (b ∷ bytes) more zero before within is = lines-end b (bytes ++ more) is
lines-append (b ∷ bytes) more (suc place) before within is =
    lines-begin b (bytes ++ more) (before 0 (omega arith))
    ∙ ap (onto_first b) (lines-append bytes more place (NoLineEnd-tail place b bytes before) (omega arith) is)

-- bytes without a line end are one line
pub lines-rest : (bytes : List ℕ) → NoLineEnd (length bytes) bytes → 0 < length bytes → lines bytes ≡ bytes ∷ []
lines-rest [] before some = absurd (omega arith)
lines-rest (b ∷ []) before some = lines-begin b [] (before 0 (omega arith))
lines-rest (b ∷ next ∷ bytes) before some =
    lines-begin b (next ∷ bytes) (before 0 (omega arith))
    ∙ ap (onto_first b) (lines-rest (next ∷ bytes) (NoLineEnd-tail (length (next ∷ bytes)) b (next ∷ bytes) before) (omega arith))

-- a first line of more than this many bytes
BeginsLonger : ℕ → List (List ℕ) → Type 0
BeginsLonger count all = (line : List ℕ) × (more : List (List ℕ)) × (all ≡ line ∷ more) × (count < length line)

BeginsLonger-onto_first : (b : ℕ) (all : List (List ℕ)) → BeginsLonger 0 (onto_first b all)
unfolding BeginsLonger
BeginsLonger-onto_first b [] = (b ∷ [], [], refl, omega arith)
BeginsLonger-onto_first b (line ∷ more) = (b ∷ line, more, refl, omega arith)

-- bytes that begin without a line end begin with a long line
BeginsLonger-lines : (bytes : List ℕ) (count : ℕ) → NoLineEnd (suc count) bytes → count < length bytes → BeginsLonger count (lines bytes)
unfolding BeginsLonger
BeginsLonger-lines [] count before within = absurd (omega arith)
BeginsLonger-lines (b ∷ bytes) zero before within =
    subst (BeginsLonger 0) (sym (lines-begin b bytes (before 0 (omega arith)))) (BeginsLonger-onto_first b (lines bytes))
BeginsLonger-lines (b ∷ bytes) (suc count) before within =
    let behind = BeginsLonger-lines bytes count (NoLineEnd-tail (suc count) b bytes before) (omega arith) in
    (b ∷ behind.0, behind.1, lines-begin b bytes (before 0 (omega arith)) ∙ ap (onto_first b) behind.2, omega (arith, behind.3))

-- more bytes behind leave too long what was too long
pub IsTooLong-append : (bytes more : List ℕ) → IsTooLong bytes → IsTooLong (bytes ++ more)
IsTooLong-append bytes more long =
    (omega (arith, long.0, length-append bytes more), λ k low is. long.1 k low (sym (get_or_append_left bytes more 0 k (omega (arith, long.0))) ∙ is))

-- what is too long begins with a line that is too long
pub BeginsTooLong-lines : (bytes : List ℕ) → IsTooLong bytes → BeginsTooLong (lines bytes)
unfolding BeginsLonger
BeginsTooLong-lines bytes long = BeginsLonger-lines bytes longest_line long.1 long.0

-- where the first line end stands among the bytes that are held, the bytes before it are the line
pub Answers-line : (held left old : List ℕ) (place : ℕ) → held ++ left ≡ old → Shows held (LineEnd place)
    → Answers old (drop (place + 1) held ++ left) (take place held) Line
Answers-line held left old place all shows = (
  ap lines (sym all) ∙ lines-append held left place shows.0 shows.1 shows.2
      ∙ ap (λ (n : ℕ). take place held ∷ lines (drop n held ++ left)) (sym (add-one place)),
  λ long. let whole = subst IsTooLong (sym all) long in
      whole.1 place (omega (arith, shows.3)) (get_or_append_left held left 0 place shows.1 ∙ shows.2),
)

-- where the source ended, and bytes without a line end are held, these are the line
pub Answers-rest : (held left old : List ℕ) → held ++ left ≡ old → left ≡ [] → Shows held SourceEnd → 0 < length held
    → Answers old (drop (length held) held ++ left) (take (length held) held) Line
Answers-rest held left old all none shows some =
    let whole : held ≡ old = sym (append-nil held) ∙ ap (λ (xs : List ℕ). held ++ xs) (sym none) ∙ all in
    let gone : drop (length held) held ++ left ≡ [] = rw (none, append-nil, drop_all (length held) held (omega arith)) refl in
    let line : held ∷ lines [] ≡ take (length held) held ∷ lines (drop (length held) held ++ left) = rw (gone, take_all (length held) held (omega arith)) refl in (
      ap lines (sym whole) ∙ lines-rest held shows.0 some ∙ line,
      λ long. absurd (omega (arith, long.0, shows.1, ap length whole)),
    )

-- where too many bytes without a line end are held, the line is too long
pub Answers-too_long : (held left old line : List ℕ) → held ++ left ≡ old → IsTooLong held → Answers old (held ++ left) line TooLong
Answers-too_long held left old line all long =
    let whole = subst IsTooLong all (IsTooLong-append held left long) in (all, whole, BeginsTooLong-lines old whole)

-- the bytes that are held, where a line ends at this place
held-line : (held : List ℕ) (place : ℕ) → place < length held → slice_index held place ≡ 10 → held ≡ take place held ++ 10 ∷ drop (suc place) held
held-line [] place within is = absurd (omega arith)
held-line (b ∷ held) zero within is = ap (λ (x : ℕ). x ∷ held) is
held-line (b ∷ held) (suc place) within is = ap (λ (xs : List ℕ). b ∷ xs) (held-line held place (omega arith) is)

-- the line stands before its end
pub EndsLine-line : (held left old : List ℕ) (place : ℕ) → held ++ left ≡ old → Shows held (LineEnd place)
    → EndsLine old (drop (place + 1) held ++ left) (take place held) None
EndsLine-line held left old place all shows =
    sym all
    ∙ ap (λ (xs : List ℕ). xs ++ left) (held-line held place shows.1 shows.2)
    ∙ append_assoc (take place held) (10 ∷ drop (suc place) held) left
    ∙ ap (λ (n : ℕ). take place held ++ 10 ∷ (drop n held ++ left)) (sym (add-one place))

-- where the source ended, the line is all
pub EndsLine-rest : (held left old : List ℕ) → held ++ left ≡ old → left ≡ []
    → EndsLine old (drop (length held) held ++ left) (take (length held) held) (Some Finish)
EndsLine-rest held left old all none = (
  sym all ∙ ap (λ (xs : List ℕ). held ++ xs) none ∙ append-nil held ∙ sym (take_all (length held) held (omega arith)),
  rw (none, append-nil, drop_all (length held) held (omega arith)) refl,
)

-- a reader that stopped gives the same answer again
pub Answers-again : (answer : Next) (ahead left : List ℕ) → LeavesAhead ahead answer → (Some answer ≡ Some Finish → left ≡ []) → Answers (ahead ++ left) (ahead ++ left) [] answer
Answers-again Line ahead left leaves over = absurd leaves
Answers-again Finish ahead left leaves over = let none : ahead ++ left ≡ [] = rw (leaves, over refl) refl in (none, none)
Answers-again TooLong ahead left leaves over =
    let all = IsTooLong-append ahead left leaves in (refl, all, BeginsTooLong-lines (ahead ++ left) all)
Answers-again ReadFault ahead left leaves over = refl

pub Leaves-again : (answer : Next) (ahead : List ℕ) → LeavesAhead ahead answer → Leaves [] ahead answer
Leaves-again Line ahead leaves = absurd leaves
Leaves-again Finish ahead leaves = (refl, leaves)
Leaves-again TooLong ahead leaves = (refl, leaves)
Leaves-again ReadFault ahead leaves = (refl, leaves)

pub StopsAt-again : (answer : Next) (ahead : List ℕ) → LeavesAhead ahead answer → StopsAt answer (Some answer)
StopsAt-again Line ahead leaves = absurd leaves
StopsAt-again Finish ahead leaves = refl
StopsAt-again TooLong ahead leaves = refl
StopsAt-again ReadFault ahead leaves = refl

pub not-a-line : (answer : Next) (ahead : List ℕ) → LeavesAhead ahead answer → answer ≢ Line
not-a-line answer ahead leaves is = subst (LeavesAhead ahead) is leaves

pub not-stopped : (stopped : Option Next) → ((answer : Next) → stopped ≡ Some answer → ⊥) → stopped ≡ None
not-stopped None none = refl
not-stopped (Some answer) none = absurd (none answer refl)

pub NextCause-again : (answer : Next) (faults : ℕ) → answer ≢ ReadFault → NextCause faults faults answer
NextCause-again Line faults other = refl
NextCause-again Finish faults other = refl
NextCause-again TooLong faults other = refl
NextCause-again ReadFault faults other = absurd (other refl)

-- behind a line no read has failed
pub no-fault : (stopped : Option Next) → StopsAt Line stopped → stopped ≢ Some ReadFault
no-fault stopped stops is = elim stops [ inl none ↦ cc | inr over ↦ cc ]

-- where the source told its end behind a line, none of it is left
pub none-left : (old ahead left line : List ℕ) (stopped : Option Next) → EndsLine old (ahead ++ left) line stopped → stopped ≡ Some Finish → left ≡ []
none-left old ahead left line None ends is = absurd cc
none-left old [] left line (Some answer) ends is = ends.1
none-left old (b ∷ ahead) left line (Some answer) ends is = absurd cc

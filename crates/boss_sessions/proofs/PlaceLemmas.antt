-- Lines that are taken one after another.
use Rattle.std.proofs.Common.{◌≡◌, ◌≢◌, inl, inr, ℕ, suc, ◌+◌, ◌≤◌, ◌==◌, true, false, not, List, [], ◌∷◌, ◌++◌, length, Option, Some, None, refl, ap, sym, ◌∙◌, subst, append_assoc, arith}
use Rattle.std.specs.List.{filter}
use Rattle.std.proofs.lemmas.Bool.{lt-ltb}
use Rattle.std.proofs.lemmas.Bool.Decides.{nat_tests}
use Rattle.std.proofs.lemmas.List.{length-append}
use Rattle.std.proofs.lemmas.List.Elements.{filter-append}
use Rattle.boss_model.specs.Lines.{lines, whole_lines, before_first, is_blank}
use Rattle.boss_model.specs.Limits.{longest_line}
use Rattle.def_connection.specs.Losing.{spoken_of, is_too_long, BeginsLong}
use Rattle.def_lanes.proofs.Lists.{each-append}
use Rattle.boss_lines.specs.Window.{IsTooLong, NoLineEnd}
use Rattle.boss_lines.proofs.LinesLemmas.{BeginsTooLong-lines}
use Rattle.boss_lines.specs.declared.reader.Next.{Next}
use Rattle.boss_lines.specs.declared.reader.Next.TheVariants as next
use Rattle.boss_lines.specs.Lines.{EndsLine, StopsAt}
use Rattle.boss_lines.proofs.TakenLemmas.{Taken, taken-nothing, taken-line}
use Rattle.boss_sessions.specs.Places.{Place, to_come, Takes, Advances, IsOpen}

pub takes-nothing : (bytes rest : List ℕ) (stopped : Option Next) → rest ≡ bytes → Takes bytes [] rest stopped
takes-nothing bytes rest stopped same = record { front = []; split = sym same; given = ap lines (sym same); going = λ other more. (refl, refl) }

pub takes-line : (bytes rest line : List ℕ) (stopped : Option Next) → lines bytes ≡ line ∷ lines rest → EndsLine bytes rest line stopped → StopsAt next.Line stopped →
    Takes bytes (line ∷ []) rest stopped
takes-line bytes rest line stopped first ends stops =
    let taken : Taken bytes ([] ++ line ∷ []) rest stopped = taken-line bytes bytes rest line [] None stopped (taken-nothing bytes None) refl first ends in
    record {
      front = taken.front;
      split = taken.split;
      given = taken.all;
      going = λ other more. taken.going (going other) more;
    }
  where
    going : ¬ (stopped ≡ Some next.Finish) → stopped ≡ None
    going other = elim stops [ inl none ↦ none | inr over ↦ absurd (other over) ]

pub takes-then : (a b c : List ℕ) (xs ys : List (List ℕ)) (s t : Option Next) → Takes a xs b s → Takes b ys c t → (s ≡ Some next.Finish → t ≡ Some next.Finish) →
    Takes a (xs ++ ys) c t
takes-then a b c xs ys s t one other over = record {
  front = one.front ++ other.front;
  split = one.split ∙ ap (λ rest. one.front ++ rest) other.split ∙ sym (append_assoc one.front other.front c);
  given = one.given ∙ ap (λ rest. xs ++ rest) other.given ∙ sym (append_assoc xs ys (lines c));
  going = λ still more.
      let first = one.going (λ is. still (over is)) (other.front ++ more) in
      let then = other.going still more in
      let place : (one.front ++ other.front) ++ more ≡ one.front ++ (other.front ++ more) = append_assoc one.front other.front more in (
        ap lines place ∙ first.0 ∙ ap (λ rest. xs ++ rest) then.0 ∙ sym (append_assoc xs ys (lines more)),
        ap whole_lines place ∙ first.1 ∙ ap (λ rest. xs ++ rest) then.1 ∙ sym (append_assoc xs ys (whole_lines more)),
      );
}

pub none-behind : (xs ys : List ℕ) → xs ++ ys ≡ [] → ys ≡ []
none-behind [] ys is = is
none-behind (x ∷ xs) ys is = cc

none-before : (xs ys : List ℕ) → xs ++ ys ≡ [] → xs ≡ []
none-before [] ys is = refl
none-before (x ∷ xs) ys is = cc

-- behind a line the source has told its end only where nothing is to come
none-after : (old rest line : List ℕ) (stopped : Option Next) → EndsLine old rest line stopped → stopped ≡ Some next.Finish → rest ≡ []
none-after old rest line None ends is = cc
none-after old rest line (Some answer) ends is = ends.1

not-long : (line : List ℕ) → length line ≤ longest_line → is_too_long line ≡ false
not-long line low = grind (arith, nat_tests)

module _ (heeds : Type 0) where
  pub advances-nothing : (old new : Place) → old.lines ≡ new.lines → (heeds → to_come new ≡ to_come old) → (old.stopped ≡ Some next.Finish → new.stopped ≡ Some next.Finish) →
      (heeds → new.stopped ≡ Some next.Finish → to_come new ≡ []) → Advances heeds [] old new
  advances-nothing old new same rest over closed = record {
    counted = omega arith;
    short = tt;
    takes = λ told. takes-nothing (to_come old) (to_come new) new.stopped (rest told);
    over = over;
    closed = closed;
  }

  pub advances-line : (old new : Place) (line : List ℕ) → old.stopped ≡ None → old.lines ≡ new.lines + 1 → length line ≤ longest_line → (heeds → lines (to_come old) ≡ line ∷ lines (to_come new)) →
      (heeds → EndsLine (to_come old) (to_come new) line new.stopped) → StopsAt next.Line new.stopped → Advances heeds (line ∷ []) old new
  advances-line old new line going count low first ends stops = record {
    counted = omega (arith, count);
    short = (not-long line low, tt);
    takes = λ told. takes-line (to_come old) (to_come new) line new.stopped (first told) (ends told) stops;
    over = λ is. absurd (let no : None ≡ Some next.Finish = sym going ∙ is in cc);
    closed = λ told is. none-after (to_come old) (to_come new) line new.stopped (ends told) is;
  }

  pub advances-then : (a b c : Place) (xs ys : List (List ℕ)) → Advances heeds xs a b → Advances heeds ys b c → Advances heeds (xs ++ ys) a c
  advances-then a b c xs ys one other = record {
    counted = omega (arith, one.counted, other.counted, length-append xs ys);
    short = each-append (λ line. is_too_long line ≡ false) xs ys one.short other.short;
    takes = λ told. takes-then (to_come a) (to_come b) (to_come c) xs ys b.stopped c.stopped (one.takes told) (other.takes told) other.over;
    over = λ is. other.over (one.over is);
    closed = other.closed;
  }

  pub ready-line : (old : List ℕ) (new : Place) (line : List ℕ) → StopsAt next.Line new.stopped → (heeds → EndsLine old (to_come new) line new.stopped) → IsOpen heeds new
  ready-line old new line stops ends = record { going = stops; over = λ told is. none-after old (to_come new) line new.stopped (ends told) is }

-- ---- blank lines

pub spoken-append : (xs ys : List (List ℕ)) → spoken_of (xs ++ ys) ≡ spoken_of xs ++ spoken_of ys
spoken-append xs ys = filter-append (λ line. not (is_blank line)) xs ys

pub spoken-blank : (line : List ℕ) → is_blank line ≡ true → spoken_of (line ∷ []) ≡ []
spoken-blank line is = ap (λ b. filter (λ other. b) (line ∷ [])) (ap not is)

pub spoken-line : (line : List ℕ) → is_blank line ≡ false → spoken_of (line ∷ []) ≡ line ∷ []
spoken-line line is = ap (λ b. filter (λ other. b) (line ∷ [])) (ap not is)

-- ---- the bytes that were lost: those of the lines that were taken, and those that were read ahead

-- bytes without a line end have no line that has its end
pub open-lines : (rest : List ℕ) → NoLineEnd (length rest) rest → whole_lines rest ≡ []
open-lines [] before = refl
open-lines (b ∷ rest) before =
    let here : b ≢ 10 = before 0 (omega arith) in
    let other : (b == 10) ≡ false = grind (arith, nat_tests) in
    rw other (ap (before_first b) (open-lines rest (λ k low. before (suc k) (omega (arith, low)))))

-- the lines of bytes that are too long begin with one that is
pub begins-long : (ahead : List ℕ) → IsTooLong ahead → BeginsLong (lines ahead)
begins-long ahead long =
    let begins = BeginsTooLong-lines ahead long in
    let far : is_too_long begins.0 ≡ true = lt-ltb longest_line (length begins.0) begins.3 in
    subst BeginsLong (sym begins.2) far

pub record Loses (bytes : List ℕ) (all : List (List ℕ)) (ahead left : List ℕ) (stopped : Option Next) : Type 0 where
  pub lost : List ℕ
  pub split : bytes ≡ lost ++ left
  pub given : lines lost ≡ all ++ lines ahead
  pub whole : ¬ (stopped ≡ Some next.Finish) → whole_lines lost ≡ all ++ whole_lines ahead

pub loses : (bytes : List ℕ) (all : List (List ℕ)) (ahead left : List ℕ) (stopped : Option Next) → Takes bytes all (ahead ++ left) stopped →
    (stopped ≡ Some next.Finish → ahead ++ left ≡ []) → Loses bytes all ahead left stopped
loses bytes all ahead left stopped takes closed = record {
  lost = takes.front ++ ahead;
  split = takes.split ∙ sym (append_assoc takes.front ahead left);
  given = by stopped takes.going closed;
  whole = λ still. (takes.going still ahead).1;
}
  where
    at-end : ahead ++ left ≡ [] → lines (takes.front ++ ahead) ≡ all ++ lines ahead
    at-end none =
        let no-ahead : ahead ≡ [] = none-before ahead left none in
        ap (λ rest. lines (takes.front ++ rest)) no-ahead
        ∙ ap lines (ap (λ rest. takes.front ++ rest) (sym none) ∙ sym takes.split) ∙ takes.given
        ∙ ap (λ rest. all ++ lines rest) (none ∙ sym no-ahead)

    by : (s : Option Next) →
        (¬ (s ≡ Some next.Finish) → (more : List ℕ) → (lines (takes.front ++ more) ≡ all ++ lines more) × (whole_lines (takes.front ++ more) ≡ all ++ whole_lines more)) →
        (s ≡ Some next.Finish → ahead ++ left ≡ []) → lines (takes.front ++ ahead) ≡ all ++ lines ahead
    by None going over = (going (λ is. cc) ahead).0
    by (Some next.Line) going over = (going (λ is. cc) ahead).0
    by (Some next.Finish) going over = at-end (over refl)
    by (Some next.TooLong) going over = (going (λ is. cc) ahead).0
    by (Some next.ReadFault) going over = (going (λ is. cc) ahead).0

-- Rounds one after another, and the whole session.
use Rattle.std.proofs.Common.{◌≡◌, ◌⊎◌, inl, inr, ℕ, Bool, true, false, ◌||◌, List, [], ◌++◌, length, Option, Some, None, refl, ap, sym, ◌∙◌, subst, append-nil, arith}
use Rattle.boss_model.specs.declared.answer.Answer.{Answer}
use Rattle.boss_model.specs.Limits.{most_lines}
use Rattle.boss_model.specs.Lines.{lines, whole_lines}
use Rattle.def_history.specs.History.{deeds}
use Rattle.boss_outside.specs.declared.source.ReadAt.{ReadAt}
use Rattle.boss_outside.specs.Notes.{NotesEach}
use Rattle.boss_outside.proofs.Noting.{notes-nothing}
use Rattle.boss_lines.specs.declared.reader.Next.TheVariants as next
use Rattle.boss_sessions.specs.Places.{Place, Advances, IsReadAt, to_come}
use Rattle.boss_sessions.proofs.PlaceLemmas.{advances-then, advances-nothing, begins-long, loses, Loses, none-behind, open-lines, spoken-append}
use Rattle.boss_sessions.proofs.ReadLemmas.{answered-then}
use Rattle.def_connection.specs.Answered.{IsAnswered}
use Rattle.def_connection.specs.Losing.{spoken_of, Lost, LostAt}
use Rattle.def_connection.specs.Speech.{Footing, beginning, Speech, Exchange, parting_of}
use Rattle.def_connection.specs.Stopping.{Stop, finish, watching, read_fault, write_fault, clock_fault, long_line, long_untold, wrong_key, wrong_untold, limit, disk, nothing, is_disk}
use Rattle.def_connection.specs.Talks.{Standing, Goes, Stops, Talked, is_unparted}
use Rattle.def_connection.proofs.TalkLemmas.{goes-nothing, goes-talk, goes-then, stops-talk, stops-then, stops-here, talked-of, talked-talk}
use Rattle.def_connection.proofs.Telling.{told-whole}
use Rattle.boss_sessions.specs.declared.end.SessionEnd.{SessionEnd}
use Rattle.boss_sessions.specs.declared.end.SessionEnd.TheVariants as end
use Rattle.boss_sessions.specs.Connected.{Connected}
use Rattle.boss_sessions.specs.Ends.{is_stop_end}
use Rattle.boss_sessions.specs.Rounds.{EndsAt, Ended, EndedAnswered, GoesOn, GoesOnAnswered}

-- ---- the bytes that were lost

module _ (heeds : Type 0) (place place' : Place) (taken : List (List ℕ)) (advances : Advances heeds taken place place') (empty : place.ahead ≡ []) (count : place.lines ≡ most_lines) (told : heeds) where
  loss : Loses (to_come place) taken place'.ahead place'.left place'.stopped
  loss = loses (to_come place) taken place'.ahead place'.left place'.stopped (advances.takes told) (advances.closed told)

  lost-at : (stop : Stop) → EndsAt heeds place' stop → LostAt loss.lost place'.left taken (lines place'.ahead) stop
  lost-at finish at = (at.2 told, ap lines at.1, omega (arith, count, advances.counted, at.0))
  lost-at read_fault at = (
    sym (loss.whole (λ over. let no : Some next.ReadFault ≡ Some next.Finish = sym at.2 ∙ over in cc) ∙ ap (λ rest. taken ++ rest) (open-lines place'.ahead at.1) ∙ append-nil taken),
    omega (arith, count, advances.counted, at.0),
  )
  lost-at long_line at = (begins-long place'.ahead at.1, omega (arith, count, advances.counted, at.0))
  lost-at long_untold at = (begins-long place'.ahead at.1, omega (arith, count, advances.counted, at.0))
  lost-at limit at = omega (arith, count, advances.counted, at)
  lost-at nothing at = absurd at
  lost-at wrong_key at = omega (arith, count, advances.counted)
  lost-at wrong_untold at = omega (arith, count, advances.counted)
  lost-at (watching name from) at = omega (arith, count, advances.counted)
  lost-at write_fault at = omega (arith, count, advances.counted)
  lost-at clock_fault at = omega (arith, count, advances.counted)
  lost-at disk at = omega (arith, count, advances.counted)

  lost-of : (stop : Stop) → EndsAt heeds place' stop → Lost place.left place'.left taken stop
  lost-of stop at = record {
    lost = loss.lost;
    more = lines place'.ahead;
    split = sym (ap (λ front. front ++ place.left) empty) ∙ loss.split;
    lines_are = loss.given;
    short = advances.short;
    whole = λ some. (whole_lines place'.ahead, loss.whole (λ over. some (none-behind place'.ahead place'.left (advances.closed told over))));
    at = lost-at stop at;
  }

or-false : (b : Bool) → b ≡ (b || false)
or-false true = refl
or-false false = refl

or-true : (b : Bool) → true ≡ (b || true)
or-true true = refl
or-true false = refl

module _ (speech : Speech) (number : ℕ) (heeds tells ticks : Type 0) where
  pub goes-on-nothing : (at : Footing) (place : Place) (s : Standing) (reads : Option (List ReadAt)) → (heeds → place.stopped ≡ Some next.Finish → to_come place ≡ []) →
      GoesOnAnswered speech number heeds tells ticks at at place place s s reads reads
  goes-on-nothing at place s reads closed = record {
    goes_on = record {
      taken = [];
      advances = advances-nothing heeds place place refl (λ told. refl) (λ is. is) closed;
      goes = goes-nothing speech number tells ticks at s;
    };
    answered = λ heard told. notes-nothing _ reads;
  }

  -- the same talk over the same lines
  goes-over : (at at' : Footing) (xs ys : List (List ℕ)) (a b : Standing) (talk : List Exchange) → xs ≡ ys → (one : Goes speech number tells ticks at at' xs a b) → one.talk ≡ talk →
      (goes : Goes speech number tells ticks at at' ys a b) × (goes.talk ≡ talk)
  goes-over at at' xs ys a b talk same one is = subst (λ heard. (goes : Goes speech number tells ticks at at' heard a b) × (goes.talk ≡ talk)) same (one, is)

  stops-over : (at : Footing) (xs ys : List (List ℕ)) (stop : Stop) (a b : Standing) (talk : List Exchange) → xs ≡ ys → (one : Stops speech number tells ticks at xs stop a b) → one.talk ≡ talk →
      (stops : Stops speech number tells ticks at ys stop a b) × (stops.talk ≡ talk)
  stops-over at xs ys stop a b talk same one is = subst (λ heard. (stops : Stops speech number tells ticks at heard stop a b) × (stops.talk ≡ talk)) same (one, is)

  pub goes-on-then : (l l' l'' : Footing) (p p' p'' : Place) (a b c : Standing) (r r' r'' : Option (List ReadAt)) → GoesOnAnswered speech number heeds tells ticks l l' p p' a b r r' →
      GoesOn speech number heeds tells ticks l' l'' p' p'' b c → (heeds → tells → NotesEach (IsReadAt p' (length b.taken)) r' r'') →
      GoesOnAnswered speech number heeds tells ticks l l'' p p'' a c r r''
  goes-on-then l l' l'' p p' p'' a b c r r' r'' before other reads =
      let one = before.goes_on in
      let both = goes-over l l'' (spoken_of one.taken ++ spoken_of other.taken) (spoken_of (one.taken ++ other.taken)) a c (one.goes.talk ++ other.goes.talk)
      (sym (spoken-append one.taken other.taken)) (goes-then speech number tells ticks l l' l'' (spoken_of one.taken) (spoken_of other.taken) a b c one.goes other.goes)
      (goes-talk speech number tells ticks l l' l'' (spoken_of one.taken) (spoken_of other.taken) a b c one.goes other.goes) in
      record {
        goes_on = record {
          taken = one.taken ++ other.taken;
          advances = advances-then heeds p p' p'' one.taken other.taken one.advances other.advances;
          goes = both.0;
        };
        answered = answered-then speech number heeds tells ticks l l' p p' a b one other.goes.talk both.0.talk both.1 r r' r'' before.answered reads;
      }

  pub ended-then : (l l' : Footing) (p p' p'' : Place) (a b c : Standing) (r r' r'' : Option (List ReadAt)) (e : SessionEnd) → GoesOnAnswered speech number heeds tells ticks l l' p p' a b r r' →
      Ended speech number heeds tells ticks l' p' p'' b c e → (heeds → tells → NotesEach (IsReadAt p' (length b.taken)) r' r'') →
      EndedAnswered speech number heeds tells ticks l p p'' a c r r'' e
  ended-then l l' p p' p'' a b c r r' r'' e before other reads =
      let one = before.goes_on in
      let both = stops-over l (spoken_of one.taken ++ spoken_of other.taken) (spoken_of (one.taken ++ other.taken)) other.stop a c (one.goes.talk ++ other.stops.talk)
      (sym (spoken-append one.taken other.taken)) (stops-then speech number tells ticks l l' (spoken_of one.taken) (spoken_of other.taken) other.stop a b c one.goes other.stops)
      (stops-talk speech number tells ticks l l' (spoken_of one.taken) (spoken_of other.taken) other.stop a b c one.goes other.stops) in
      record {
        ended = record {
          taken = one.taken ++ other.taken;
          stop = other.stop;
          advances = advances-then heeds p p' p'' one.taken other.taken one.advances other.advances;
          stops = both.0;
          ends = other.ends;
          broken = other.broken;
          end_is = other.end_is;
        };
        answered = answered-then speech number heeds tells ticks l l' p p' a b one other.stops.talk both.0.talk both.1 r r' r'' before.answered reads;
      }

  -- ---- the whole session

  -- A session that ended, and whose process was told to be lost, if it was. The end is then the same, and that call was answered or there
  -- was none; or the call was not answered, and the end is a disk that failed
  pub connected-of : (place place' : Place) (a b c : Standing) (r r' : Option (List ReadAt)) (parting : Option Answer) (e e' : SessionEnd) → place.ahead ≡ [] → place.lines ≡ most_lines →
      a.attached ≡ false → a.last ≡ 0 → a.name ≡ None → EndedAnswered speech number heeds tells ticks beginning place place' a b r r' e → deeds c.own ≡ deeds b.own ++ parting_of number b.last parting →
      c.taken ≡ b.taken → c.faults ≡ b.faults → c.given ≡ b.given → (b.attached ≡ false → parting ≡ None) →
      ((e' ≡ e) × (is_unparted b.attached parting ≡ false)) ⊎ ((is_stop_end e' ≡ true) × (is_unparted b.attached parting ≡ true)) → Connected speech number heeds tells ticks place.left place'.left r r' a c e'
  connected-of place place' a b c r r' parting e e' empty count fresh first anonymous done parts taken faults given unattached parted =
      let ended = done.ended in
      let broken : is_stop_end e' ≡ (is_disk ended.stop || is_unparted b.attached parting) = elim parted [
        | inl same ↦ ap is_stop_end same.0 ∙ ended.broken ∙ or-false (is_disk ended.stop) ∙ ap (λ t. is_disk ended.stop || t) (sym same.1)
        | inr fails ↦ fails.0 ∙ or-true (is_disk ended.stop) ∙ ap (λ t. is_disk ended.stop || t) (sym fails.1)
      ] in
      let talked : Talked speech number tells ticks (spoken_of ended.taken) ended.stop (is_stop_end e') a (record b { own = c.own }) =
      talked-of speech number tells ticks (spoken_of ended.taken) ended.stop (is_stop_end e') a b c.own parting ended.stops fresh first anonymous parts unattached broken in
      let said = talked.exchanged in
      record {
        taken = ended.taken;
        stop = ended.stop;
        talked = record {
          more = talked.more;
          moments = talked.moments;
          grew = talked.grew;
          gave = λ told. given ∙ talked.gave told;
          exchanged = record {
            talk = said.talk;
            uncalled = said.uncalled;
            parting = said.parting;
            leaves = rw faults said.leaves;
            all_moments = said.all_moments;
            all_entries = said.all_entries;
            unattached = said.unattached;
            broken_is = said.broken_is;
            told = λ told. rw (taken, faults) (said.told told);
            judged = said.judged;
          };
        };
        end_is = elim parted [
          | inl same ↦ λ calm. same.0 ∙ ended.end_is (ap is_stop_end (sym same.0) ∙ calm)
          | inr fails ↦ λ calm. absurd (let no : true ≡ false = sym fails.0 ∙ calm in cc)
        ];
        lost = λ told. lost-of heeds place place' ended.taken ended.advances empty count told ended.stop ended.ends;
        answered = λ heard told.
            subst (λ bytes. NotesEach (IsAnswered speech bytes (length a.taken) said.talk) r r') (ap (λ front. front ++ place.left) empty)
            (subst (λ talk. NotesEach (IsAnswered speech (to_come place) (length a.taken) talk) r r')
            (sym (talked-talk speech number tells ticks (spoken_of ended.taken) ended.stop (is_stop_end e') a b c.own parting ended.stops fresh first anonymous parts unattached broken))
            (done.answered heard told));
      }

  -- no memory was to be had to begin
  pub connected-none : (left : List ℕ) (s : Standing) (reads : Option (List ReadAt)) → s.attached ≡ false → s.last ≡ 0 → s.name ≡ None →
      Connected speech number heeds tells ticks left left reads reads s s end.NoMemory
  connected-none left s reads fresh first anonymous =
      let talked : Talked speech number tells ticks [] nothing false s (record s { own = s.own }) =
      talked-of speech number tells ticks [] nothing false s s s.own None
      (stops-here speech number tells ticks beginning [] nothing s s (refl, refl) refl refl (λ told. told-whole s.taken s.taken s.faults s.faults [] (sym (append-nil s.taken))) (λ told. refl) refl refl)
      fresh first anonymous (sym (append-nil (deeds s.own))) (λ is. refl) (sym fresh) in
      record {
        taken = [];
        stop = nothing;
        talked = talked;
        end_is = λ calm. refl;
        lost = λ told. record { lost = []; more = []; split = refl; lines_are = refl; short = tt; whole = λ some. ([], refl); at = refl };
        answered = λ heard told. notes-nothing _ reads;
      }

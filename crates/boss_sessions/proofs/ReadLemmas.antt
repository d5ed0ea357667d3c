-- The reads of a source, and which lines were answered when each was made.
use Rattle.std.proofs.Common.{◌≡◌, inl, inr, ℕ, List, [], ◌∷◌, ◌++◌, length, Option, Some, None, refl, ap, sym, ◌∙◌, subst, append_assoc, append-nil, arith}
use Rattle.std.specs.Prelude.{IfSome}
use Rattle.std.proofs.lemmas.List.{length-append}
use Rattle.boss_model.specs.declared.command.Command.{Command}
use Rattle.boss_model.specs.Lines.{whole_lines}
use Rattle.boss_outside.specs.declared.source.ReadAt.{ReadAt}
use Rattle.boss_outside.specs.Notes.{NotesEach, IsShown}
use Rattle.boss_outside.proofs.Noting.{notes-map, notes-same, notes-then}
use Rattle.boss_lines.specs.declared.reader.Next.{Next}
use Rattle.boss_lines.specs.declared.reader.Next.TheVariants as next
use Rattle.boss_lines.specs.Lines.{IsReadFor}
use Rattle.def_connection.specs.Answered.{IsAnswered}
use Rattle.def_connection.specs.Batches.{AreAsked}
use Rattle.def_connection.specs.Losing.{spoken_of}
use Rattle.def_connection.specs.Speech.{Footing, Manner, Speech, Exchange, text_in}
use Rattle.def_connection.specs.Talks.{Standing}
use Rattle.boss_sessions.specs.declared.heard.Heard.TheVariants.{Requests}
use Rattle.boss_sessions.specs.Gathered.{Gathered}
use Rattle.boss_sessions.specs.Places.{Place, to_come, Takes, IsOpen, IsReadAt}
use Rattle.boss_sessions.specs.Rounds.{AreAnswered, GoesOn}
use Rattle.boss_sessions.proofs.PlaceLemmas.{spoken-append}

-- ---- for one line

-- the reader reads only while the source has not told its end
pub reads-line : (ahead left : List ℕ) (lines told : ℕ) (P : Next → Type 0) (a b : Option (List ReadAt)) → ((answer : Next) → P answer → b ≡ a) → (stopped : Option Next) →
    IfSome stopped P → NotesEach (IsReadFor (ahead ++ left) told) a b → NotesEach (IsReadAt (record { ahead = ahead; stopped = stopped; left = left; lines = lines }) told) a b
reads-line ahead left lines told P a b same None stays reads =
    notes-map (IsReadFor (ahead ++ left) told) (IsReadAt (record { ahead = ahead; stopped = None; left = left; lines = lines }) told)
    (λ at is. record { going = refl; come = is.come; rest = is.rest; split = is.split; left = is.left; silent = ap spoken_of is.waiting; shown = is.shown }) a b reads
reads-line ahead left lines told P a b same (Some answer) stays reads = notes-same _ a b (same answer stays)

-- ---- for several lines

-- a line that was read behind others
behind-front : (place place' : Place) (all : List (List ℕ)) → Takes (to_come place) all (to_come place') place'.stopped → (told : ℕ) (at : ReadAt) → (is : IsReadAt place' told at) →
    (come : List ℕ) × (to_come place ≡ come ++ is.rest) × (spoken_of (whole_lines come) ≡ spoken_of all)
behind-front place place' all takes told at is =
    let still : ¬ (place'.stopped ≡ Some next.Finish) = λ over. (let no : None ≡ Some next.Finish = sym is.going ∙ over in cc) in (
      takes.front ++ is.come,
      takes.split ∙ ap (λ rest. takes.front ++ rest) is.split ∙ sym (append_assoc takes.front is.come is.rest),
      ap spoken_of (takes.going still is.come).1 ∙ spoken-append all (whole_lines is.come) ∙ ap (λ rest. spoken_of all ++ rest) is.silent ∙ append-nil (spoken_of all),
    )

none-asked : (manner : Manner) (at : Footing) (lines : List (List ℕ)) (calls : List (Command × ℕ)) → calls ≡ [] → AreAsked manner at lines calls → lines ≡ []
none-asked manner at [] calls none asked = refl
none-asked manner at (line ∷ lines) [] none asked = absurd asked
none-asked manner at (line ∷ lines) (call ∷ calls) none asked = absurd cc

-- what a vector without items holds
pub is-empty : {X : Type 0} (xs : List X) → length xs ≡ 0 → xs ≡ []
is-empty [] is = refl
is-empty (x ∷ xs) is = absurd (omega (arith, is))

module _ (manner : Manner) (heeds ticks : Type 0) where
  -- as long as no request is held only blank lines were taken
  silent-read : (l l' : Footing) (calls : List (Command × ℕ)) (g g' : List ℕ) (a b : Place) → Gathered manner heeds ticks l l' [] calls g g' a b Requests → calls ≡ [] → IsOpen heeds a → heeds →
      (told told' : ℕ) → told' ≡ told → (at : ReadAt) → IsReadAt b told' at → IsReadAt a told at
  silent-read l l' calls g g' a b one none ready told-now told told' same at is =
      let unasked : one.waiting ≡ [] = none-asked manner l one.waiting one.more (sym one.held ∙ none) one.asked in
      let quiet : spoken_of one.all ≡ [] = sym one.spoken ∙ ap (λ front. front ++ one.behind) unasked ∙ one.behind_is.0 in
      let front = behind-front a b one.all (one.advances.takes told-now) told' at is in
      record {
        going = elim ready.going [ inl going ↦ going | inr over ↦ absurd (let no : None ≡ Some next.Finish = sym is.going ∙ one.advances.over over in cc) ];
        come = front.0;
        rest = is.rest;
        split = front.1;
        left = is.left;
        silent = front.2 ∙ quiet;
        shown = is.shown ∙ same;
      }

  -- the next line is read only where no request is held
  pub reads-gathered : (l l' : Footing) (c calls : List (Command × ℕ)) (g g' : List ℕ) (a b : Place) → c ≡ [] → Gathered manner heeds ticks l l' c calls g g' a b Requests → IsOpen heeds a → heeds →
      (told told' : ℕ) → told' ≡ told → (r r' r'' : Option (List ReadAt)) → (¬ (calls ≡ []) → r'' ≡ r') → NotesEach (IsReadAt a told) r r' → NotesEach (IsReadAt b told') r' r'' →
      NotesEach (IsReadAt a told) r r''
  reads-gathered l l' c calls g g' a b first one ready told-now told told' same r r' r'' unread before now =
      notes-then (IsReadAt a told) r r' r'' before
      (by calls (subst (λ cs. Gathered manner heeds ticks l l' cs calls g g' a b Requests) first one) unread)
    where
      by : (calls : List (Command × ℕ)) → Gathered manner heeds ticks l l' [] calls g g' a b Requests → (¬ (calls ≡ []) → r'' ≡ r') → NotesEach (IsReadAt a told) r' r''
      by [] one unread = notes-map (IsReadAt b told') (IsReadAt a told) (silent-read l l' [] g g' a b one refl ready told-now told told' same) r' r'' now
      by (call ∷ calls) one unread = notes-same (IsReadAt a told) r' r'' (unread (λ none. cc))

-- ---- for a round

-- what the source was shown is what the sink had taken
pub reads-shown : (place place' : Place) (told count : ℕ) (r m r' : Option (List ReadAt)) → place ≡ place' → m ≡ r → IsShown m told count → NotesEach (IsReadAt place told) m r' →
    NotesEach (IsReadAt place' count) r r'
reads-shown place place' told count r m r' here same shown reads =
    subst (λ p. NotesEach (IsReadAt p count) r r') here (subst (λ x. NotesEach (IsReadAt place count) x r') same (by r' reads))
  where
    by : (r' : Option (List ReadAt)) → NotesEach (IsReadAt place told) m r' → NotesEach (IsReadAt place count) m r'
    by None reads = tt
    by (Some now) reads =
        let is : told ≡ count = subst (λ x. IsShown x told count) reads.2 shown in
        subst (λ n. NotesEach (IsReadAt place n) m (Some now)) is reads

-- ---- for a talk

-- more was said behind
answered-more : (speech : Speech) (bytes : List ℕ) (begun : ℕ) (talk more all : List Exchange) → all ≡ talk ++ more → (at : ReadAt) → IsAnswered speech bytes begun talk at →
    IsAnswered speech bytes begun all at
answered-more speech bytes begun talk more all is at one = record {
  come = one.come;
  rest = one.rest;
  split = one.split;
  left = one.left;
  front = one.front;
  back = one.back ++ more;
  talk_is = is ∙ ap (λ front. front ++ more) one.talk_is ∙ append_assoc one.front one.back more;
  lines = one.lines;
  told = one.told;
}

module _ (speech : Speech) (number : ℕ) (heeds tells ticks : Type 0) where
  -- a read behind lines that were answered
  answered-now : (l l' : Footing) (p p' : Place) (a b : Standing) → (one : GoesOn speech number heeds tells ticks l l' p p' a b) → heeds → tells → (at : ReadAt) →
      IsReadAt p' (length b.taken) at → IsAnswered speech (to_come p) (length a.taken) one.goes.talk at
  answered-now l l' p p' a b one heard told at is =
      let front = behind-front p p' one.taken (one.advances.takes heard) (length b.taken) at is in
      record {
        come = front.0;
        rest = is.rest;
        split = front.1;
        left = is.left;
        front = one.goes.talk;
        back = [];
        talk_is = sym (append-nil one.goes.talk);
        lines = front.2 ∙ one.goes.lines;
        told = omega (arith, is.shown, ap length (one.goes.told told), length-append a.taken (text_in speech one.goes.talk));
      }

  pub answered-then : (l l' : Footing) (p p' : Place) (a b : Standing) → (one : GoesOn speech number heeds tells ticks l l' p p' a b) → (more all : List Exchange) → all ≡ one.goes.talk ++ more →
      (r r' r'' : Option (List ReadAt)) → AreAnswered speech number heeds tells ticks p a.taken one.goes.talk r r' →
      (heeds → tells → NotesEach (IsReadAt p' (length b.taken)) r' r'') → AreAnswered speech number heeds tells ticks p a.taken all r r''
  answered-then l l' p p' a b one more all is r r' r'' before reads heard told =
      let P : ReadAt → Type 0 = IsAnswered speech (to_come p) (length a.taken) all in
      let Q : ReadAt → Type 0 = IsAnswered speech (to_come p) (length a.taken) one.goes.talk in
      let longer : (at : ReadAt) → Q at → P at = answered-more speech (to_come p) (length a.taken) one.goes.talk more all is in
      notes-then P r r' r'' (notes-map Q P longer r r' (before heard told))
      (notes-map (IsReadAt p' (length b.taken)) P (λ at read. longer at (answered-now l l' p p' a b one heard told at read)) r' r'' (reads heard told))

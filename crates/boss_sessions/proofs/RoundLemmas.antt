-- A round of a session: the batch that came, and what came behind it.
use Rattle.std.proofs.Common.{◌≡◌, ◌⊎◌, inl, inr, ℕ, ◌<◌, ◌≤◌, Bool, true, false, ◌||◌, List, [], ◌∷◌, ◌++◌, length, map, drop, Result, Ok, Err, refl, ap, sym, ◌∙◌, subst, append-nil, arith}
use Rattle.std.proofs.lemmas.List.{length-drop}
use Rattle.boss_model.specs.declared.command.Command.{Command}
use Rattle.boss_model.specs.Limits.{most_held}
use Rattle.boss_model.specs.declared.answer.Refusal.{Refusal}
use Rattle.def_history.specs.declared.entry.Entry.{Entry}
use Rattle.def_history.specs.History.{deeds}
use Rattle.boss_outside.specs.Counts.{Rose, HasCause}
use Rattle.boss_outside.specs.Streams.{Writes}
use Rattle.boss_sessions.specs.declared.heard.Heard.{Heard}
use Rattle.boss_sessions.specs.declared.heard.Heard.TheVariants as heard
use Rattle.boss_sessions.specs.Gathered.{IsBehind, Gathered, HeardEnd}
use Rattle.boss_sessions.specs.Places.{Place, Advances}
use Rattle.def_connection.specs.Batches.{AreAsked, batch}
use Rattle.boss_shared.specs.Gates.{Holding}
use Rattle.def_connection.specs.Judging.{IsJudged, AreJudged, name_in}
use Rattle.def_connection.specs.Losing.{spoken_of}
use Rattle.def_connection.specs.Speech.{refuses, Footing, Manner, after, after_lines, after_unread, Reply, of_memory, Speech, Exchange, unread, refused, called, line_in, IsReadAs, text_of, deeds_of, moments_of, last_or, attaches_by, attaches, attached_in, is_stop, is_end, EndsOnce}
use Rattle.def_connection.specs.Stopping.{Stop, finish, watching, read_fault, write_fault, clock_fault, long_line, long_untold, wrong_key, wrong_untold, limit, disk, is_disk, end_text, last_is, is_undone, is_passed, BreaksOff, HeldAt, BehindAt, moments_with}
use Rattle.def_connection.specs.Talks.{Told, Standing, Goes, Stops}
use Rattle.def_connection.proofs.TalkLemmas.{goes-then, some-held, stops-then, stops-here, goes-batch, stops-batch}
use Rattle.boss_sessions.specs.declared.end.SessionEnd.{SessionEnd}
use Rattle.boss_sessions.specs.declared.end.SessionEnd.TheVariants as end
use Rattle.boss_sessions.specs.declared.halt.Halt.{Halt}
use Rattle.boss_sessions.specs.declared.halt.Halt.TheVariants as halt
use Rattle.boss_sessions.specs.Ends.{text_behind, end_at, end_behind, end_for, is_stop_end}
use Rattle.boss_sessions.specs.Rounds.{EndsAt, Ended, GoesOn, Rounded}
use Rattle.boss_sessions.specs.Turns.{attached_by, StopsOnce, HaltsAt, HaltCause, voice, Replied}
use Rattle.boss_sessions.proofs.TurnLemmas.{told-writes}

-- ---- batches

batch-none : (lines : List (List ℕ)) (calls : List (Command × ℕ)) → batch lines calls [] ≡ []
batch-none [] calls = refl
batch-none (line ∷ lines) [] = refl
batch-none (line ∷ lines) (call ∷ calls) = refl

pub once-batch : (lines : List (List ℕ)) (calls : List (Command × ℕ)) (replies : List Reply) → StopsOnce replies → EndsOnce (batch lines calls replies)
once-batch [] calls replies once = tt
once-batch (line ∷ lines) [] replies once = tt
once-batch (line ∷ lines) (call ∷ calls) [] once = tt
once-batch (line ∷ lines) (call ∷ calls) (reply ∷ replies) once =
    ((λ is. ap (batch lines calls) (once.0 is) ∙ batch-none lines calls), once-batch lines calls replies once.1)

pub attached-batch : (manner : Manner) (at : Footing) (lines : List (List ℕ)) (calls : List (Command × ℕ)) (replies : List Reply) →
    AreAsked manner at lines calls → attached_in (batch lines calls replies) ≡ attached_by calls replies
attached-batch manner at [] [] replies asked = refl
attached-batch manner at [] (call ∷ calls) replies asked = absurd asked
attached-batch manner at (line ∷ lines) [] replies asked = absurd asked
attached-batch manner at (line ∷ lines) (call ∷ calls) [] asked = refl
attached-batch manner at (line ∷ lines) (call ∷ calls) (reply ∷ replies) asked =
    ap (λ rest. attaches_by call.0 reply || rest) (attached-batch manner (after manner at line) lines calls replies asked.1)

-- what holds of the last reply holds of the last exchange
last-batch : (test : Exchange → Bool) (test' : Reply → Bool) → ((line : List ℕ) (call : Command × ℕ) (reply : Reply) → test (called line call.0 call.1 reply) ≡ test' reply) →
    (manner : Manner) (before : Bool) (at : Footing) (lines : List (List ℕ)) (calls : List (Command × ℕ)) (replies : List Reply) → AreAsked manner at lines calls →
    length replies ≤ length calls → last_is test before (batch lines calls replies) ≡ last_is test' before replies
last-batch test test' same manner before at [] [] [] asked few = refl
last-batch test test' same manner before at [] [] (reply ∷ replies) asked few = absurd (omega (arith, few))
last-batch test test' same manner before at [] (call ∷ calls) replies asked few = absurd asked
last-batch test test' same manner before at (line ∷ lines) [] replies asked few = absurd asked
last-batch test test' same manner before at (line ∷ lines) (call ∷ calls) [] asked few = refl
last-batch test test' same manner before at (line ∷ lines) (call ∷ calls) (reply ∷ replies) asked few =
    last-batch test test' same manner (test (called line call.0 call.1 reply)) (after manner at line) lines calls replies asked.1 (omega (arith, few)) ∙ ap (λ b. last_is test' b replies) (same line call reply)

-- where the last is such there is one
last-some : (test : Reply → Bool) (replies : List Reply) → last_is test false replies ≡ true → 1 ≤ length replies
last-some test [] is = absurd (let no : false ≡ true = is in cc)
last-some test (reply ∷ replies) is = omega arith

drop-all : {X : Type 0} (xs : List X) (replies : List Reply) → length replies ≡ length xs → drop (length replies) xs ≡ []
drop-all [] [] all = refl
drop-all [] (reply ∷ replies) all = refl
drop-all (x ∷ xs) [] all = absurd (omega (arith, all))
drop-all (x ∷ xs) (reply ∷ replies) all = drop-all xs replies (omega (arith, all))

or-false : (b : Bool) → b ≡ (b || false)
or-false true = refl
or-false false = refl

-- where a sink stands behind a text
abbrev pub heard-at : Standing → List ℕ → ℕ → Standing
heard-at m taken faults = record m { taken = taken; faults = faults }

module _ (speech : Speech) (number : ℕ) (tells ticks : Type 0) where
  -- nothing more is heard
  goes-still : (at at' : Footing) (m : Standing) (taken : List ℕ) (faults : ℕ) → at' ≡ at → (tells → taken ≡ m.taken ++ []) → faults ≡ m.faults →
      Goes speech number tells ticks at at' [] m (heard-at m taken faults)
  goes-still at at' m taken faults stands told calm = record {
    talk = [];
    lines = refl;
    reads = tt;
    leaves = stands;
    goes_on = tt;
    grew = sym (append-nil (deeds m.own));
    told = told;
    calm = calm;
    gave = λ given. sym (append-nil m.given);
    attached = or-false m.attached;
    last = refl;
    judged = tt;
    name = refl;
  }

  goes-refused : (at at' : Footing) (line : List ℕ) (why : Refusal) (m : Standing) (taken : List ℕ) (faults : ℕ) → speech.manner.reading at line ≡ refuses why →
      at' ≡ after speech.manner at line → (tells → taken ≡ m.taken ++ speech.refusal_text why) → faults ≡ m.faults → Goes speech number tells ticks at at' (line ∷ []) m (heard-at m taken faults)
  goes-refused at at' line why m taken faults is stands told calm = record {
    talk = refused line why ∷ [];
    lines = refl;
    reads = (is, tt);
    leaves = stands;
    goes_on = (refl, tt);
    grew = sym (append-nil (deeds m.own));
    told = λ now. told now ∙ ap (λ rest. m.taken ++ rest) (sym (append-nil (speech.refusal_text why)));
    calm = calm;
    gave = λ given. sym (append-nil m.given);
    attached = or-false m.attached;
    last = refl;
    judged = (tt, tt);
    name = refl;
  }

  goes-unread : (at at' : Footing) (line : List ℕ) (m : Standing) (taken : List ℕ) (faults : ℕ) → at' ≡ after_unread at → (tells → taken ≡ m.taken ++ speech.reply_text of_memory) → faults ≡ m.faults →
      Goes speech number tells ticks at at' (line ∷ []) m (heard-at m taken faults)
  goes-unread at at' line m taken faults stands told calm = record {
    talk = unread line ∷ [];
    lines = refl;
    reads = (tt, tt);
    leaves = stands;
    goes_on = (refl, tt);
    grew = sym (append-nil (deeds m.own));
    told = λ now. told now ∙ ap (λ rest. m.taken ++ rest) (sym (append-nil (speech.reply_text of_memory)));
    calm = calm;
    gave = λ given. sym (append-nil m.given);
    attached = or-false m.attached;
    last = refl;
    judged = (tt, tt);
    name = refl;
  }

  -- one line more, of which the reply was not told whole
  stops-told : (at : Footing) (line : List ℕ) (m : Standing) (taken : List ℕ) (faults : ℕ) (one : Exchange) → line_in one ≡ line → IsReadAs (speech.manner.reading at line) one → is_end one ≡ false →
      deeds_of number one ≡ [] → moments_of one ≡ [] → attaches one ≡ false → IsJudged speech.denies m.name one →
      (tells → Told m.taken taken m.faults faults (text_of speech one)) → Stops speech number tells ticks at (line ∷ []) write_fault m (heard-at m taken faults)
  stops-told at line m taken faults one is reads going deeds_are moments_are apart judged told = record {
    talk = one ∷ [];
    uncalled = [];
    leaves = record {
      held = [];
      behind = [];
      lines = ap (λ l. l ∷ []) (sym is);
      reads = (subst (λ l. IsReadAs (speech.manner.reading at l) one) (sym is) reads, tt);
      ends = ((λ no. refl), tt);
      stopped = going;
      asked = tt;
      kept = inl refl;
      few = some-held;
      behind_is = omega arith;
    };
    grew = sym (append-nil (deeds m.own)) ∙ ap (λ list. deeds m.own ++ list) (sym (append-nil (deeds_of number one) ∙ deeds_are));
    told = λ now. subst (Told m.taken taken m.faults faults) (sym (append-nil (text_of speech one)) ∙ sym (append-nil (text_of speech one ++ []))) (told now);
    gave = λ given. sym (append-nil m.given) ∙ ap (λ list. m.given ++ list) (sym none);
    attached = or-false m.attached ∙ ap (λ b. m.attached || b) (sym (ap (λ b. b || false) apart));
    last = ap (last_or m.last) (sym none);
    judged = (judged, tt);
  }
    where
      none : moments_with (one ∷ []) [] ≡ []
      none = append-nil (moments_of one ++ []) ∙ append-nil (moments_of one) ∙ moments_are

-- at most one line comes behind
behind-few : (manner : Manner) (at at' : Footing) (behind : List (List ℕ)) (h : Heard) → IsBehind manner at at' behind h → length behind ≤ 1
behind-few manner at at' behind heard.Requests is = omega (arith, ap length is.0)
behind-few manner at at' behind (heard.Refused why) is = omega (arith, ap length is.1)
behind-few manner at at' behind heard.Unread is = omega (arith, ap length is.1)
behind-few manner at at' behind (heard.Watch name from) is = omega (arith, ap length is.1)
behind-few manner at at' behind heard.Untimed is = omega (arith, ap length is.1)
behind-few manner at at' behind heard.WrongKey is = omega (arith, ap length is.1)
behind-few manner at at' behind heard.Limit is = omega (arith, ap length is)
behind-few manner at at' behind heard.Finish is = omega (arith, ap length is)
behind-few manner at at' behind heard.TooLong is = omega (arith, ap length is)
behind-few manner at at' behind heard.ReadFault is = omega (arith, ap length is)

module _ (speech : Speech) (number : ℕ) (heeds tells ticks : Type 0) where
  -- the session ends in the batch
  pub round-halted : (at at' : Footing) (place place' : Place) (h : Heard) (why : Halt) (calls : List (Command × ℕ)) (a b : Standing) (seen seen' : List Entry) (held held' : List Holding) →
      (g : Gathered speech.manner heeds ticks at at' [] calls a.given b.given place place' h) → b.last ≡ last_or a.last (map (λ call. call.1) calls) → length calls ≤ most_held →
      (r : Replied speech number tells calls (voice a.own a.taken a.faults a.attached seen held) (voice b.own b.taken b.faults b.attached seen' held') (Err why)) →
      AreJudged speech.denies a.name (batch g.waiting calls r.replies) →
      Ended speech number heeds tells ticks at place place' a b (end_at why h)
  round-halted at at' place place' h why calls a b seen seen' held-before held-then g last most r judged = by why h g.behind_is r.comes.1 r.comes.2
    where
      asked : AreAsked speech.manner at g.waiting calls
      asked = subst (λ cs. AreAsked speech.manner at g.waiting cs) (sym g.held) g.asked

      front : List Exchange
      front = batch g.waiting calls r.replies

      ends-at : (stop : Stop) (e : SessionEnd) → is_stop_end e ≡ is_disk stop → (is_stop_end e ≡ false → e ≡ end_for stop) → end_text speech stop ≡ [] → EndsAt heeds place' stop →
          BehindAt speech.manner (after_lines speech.manner at g.waiting) stop g.behind → last_is is_stop false r.replies ≡ is_disk stop → HeldAt stop (Rose a.faults b.faults) front (drop (length r.replies) calls) →
          length (drop (length r.replies) calls) < most_held → Ended speech number heeds tells ticks at place place' a b e
      ends-at stop e broken end_is silent ends behind stopped kept unheld = record {
        taken = g.all;
        stop = stop;
        advances = g.advances;
        stops = subst (λ lines. Stops speech number tells ticks at lines stop a b) g.spoken
            (stops-batch speech number tells ticks at g.waiting g.behind calls r.replies stop a b asked r.few (once-batch g.waiting calls r.replies r.comes.0)
            (last-batch is_end is_stop (λ line call reply. refl) speech.manner false at g.waiting calls r.replies asked r.few ∙ stopped) kept unheld behind silent r.grew r.told
            (λ given. g.gave given ∙ ap (λ cs. a.given ++ map (λ call. call.1) cs) (sym g.held))
            (r.attached_is ∙ ap (λ t. a.attached || t) (sym (attached-batch speech.manner at g.waiting calls r.replies asked))) last judged);
        ends = ends;
        broken = broken;
        end_is = end_is;
      }

      breaks : Rose a.faults b.faults → (length r.replies ≡ length calls) ⊎ (last_is is_undone false r.replies ≡ true) → BreaksOff (Rose a.faults b.faults) front (drop (length r.replies) calls)
      breaks rose left = elim left [
        | inl all ↦ inl (drop-all calls r.replies all)
        | inr undone ↦ inr (rose, last-batch is_passed is_undone (λ line call reply. refl) speech.manner false at g.waiting calls r.replies asked r.few ∙ undone)
      ]

      -- behind a reply fewer are held
      left-fewer : 1 ≤ length r.replies → length (drop (length r.replies) calls) < most_held
      left-fewer some = omega (arith, some, most, r.few, length-drop (length r.replies) calls)

      left-some : (length r.replies ≡ length calls) ⊎ (last_is is_undone false r.replies ≡ true) → length (drop (length r.replies) calls) < most_held
      left-some left = elim left [
        | inl all ↦ omega (arith, all, some-held, length-drop (length r.replies) calls)
        | inr undone ↦ left-fewer (last-some is_undone r.replies undone)
      ]

      write : (h : Heard) → IsBehind speech.manner (after_lines speech.manner at g.waiting) at' g.behind h →
          HaltCause speech number tells calls (voice a.own a.taken a.faults a.attached seen held-before) (voice b.own b.taken b.faults b.attached seen' held-then) halt.WriteFault →
          HaltsAt speech number tells calls r.replies halt.WriteFault → Ended speech number heeds tells ticks at place place' a b end.WriteFault
      write h behind cause halts =
          ends-at write_fault end.WriteFault refl (λ calm. refl) refl tt (behind-few speech.manner (after_lines speech.manner at g.waiting) at' g.behind h behind) halts.0 (breaks cause.0 halts.1) (left-some halts.1)

      by : (why : Halt) (h : Heard) → IsBehind speech.manner (after_lines speech.manner at g.waiting) at' g.behind h →
          HaltCause speech number tells calls (voice a.own a.taken a.faults a.attached seen held-before) (voice b.own b.taken b.faults b.attached seen' held-then) why →
          HaltsAt speech number tells calls r.replies why → Ended speech number heeds tells ticks at place place' a b (end_at why h)
      by halt.Stopped h behind cause halts =
          ends-at disk end.Stopped refl (λ calm. refl) refl tt (behind-few speech.manner (after_lines speech.manner at g.waiting) at' g.behind h behind) halts tt
          (left-fewer (last-some is_stop r.replies halts))
      by halt.DiskFault h behind cause halts =
          ends-at disk end.DiskFault refl (λ calm. absurd (let no : true ≡ false = calm in cc)) refl tt (behind-few speech.manner (after_lines speech.manner at g.waiting) at' g.behind h behind) halts tt
          (left-fewer (last-some is_stop r.replies halts))
      by halt.WriteFault heard.Untimed behind cause halts = ends-at clock_fault end.ClockFault refl (λ calm. refl) refl tt behind halts.0 (breaks cause.0 halts.1) (left-some halts.1)
      by halt.WriteFault heard.Requests behind cause halts = write heard.Requests behind cause halts
      by halt.WriteFault (heard.Refused why) behind cause halts = write (heard.Refused why) behind cause halts
      by halt.WriteFault heard.Unread behind cause halts = write heard.Unread behind cause halts
      by halt.WriteFault heard.WrongKey behind cause halts = write heard.WrongKey behind cause halts
      by halt.WriteFault (heard.Watch name from) behind cause halts = write (heard.Watch name from) behind cause halts
      by halt.WriteFault heard.Limit behind cause halts = write heard.Limit behind cause halts
      by halt.WriteFault heard.Finish behind cause halts = write heard.Finish behind cause halts
      by halt.WriteFault heard.TooLong behind cause halts = write heard.TooLong behind cause halts
      by halt.WriteFault heard.ReadFault behind cause halts = write heard.ReadFault behind cause halts

  -- the batch was answered
  pub batch-goes : (at at' : Footing) (place place' : Place) (h : Heard) (calls : List (Command × ℕ)) (a m : Standing) (seen seen' : List Entry) (held held' : List Holding) →
      (g : Gathered speech.manner heeds ticks at at' [] calls a.given m.given place place' h) → m.last ≡ last_or a.last (map (λ call. call.1) calls) →
      (r : Replied speech number tells calls (voice a.own a.taken a.faults a.attached seen held) (voice m.own m.taken m.faults m.attached seen' held') (Ok (length calls))) →
      AreJudged speech.denies a.name (batch g.waiting calls r.replies) → m.name ≡ name_in a.name (batch g.waiting calls r.replies) →
      Goes speech number tells ticks at (after_lines speech.manner at g.waiting) g.waiting a m
  batch-goes at at' place place' h calls a m seen seen' held-before held-then g last r judged name =
      let held : calls ≡ g.more = g.held in
      let asked : AreAsked speech.manner at g.waiting calls = subst (λ cs. AreAsked speech.manner at g.waiting cs) (sym held) g.asked in
      goes-batch speech number tells ticks at g.waiting calls r.replies a m asked (sym r.comes.counts) r.comes.going r.grew r.comes.all_told r.comes.calm
      (λ given. g.gave given ∙ ap (λ cs. a.given ++ map (λ call. call.1) cs) (sym held))
      (r.attached_is ∙ ap (λ t. a.attached || t) (sym (attached-batch speech.manner at g.waiting calls r.replies asked))) last judged name

  module _ (at at' : Footing) (place place' : Place) (waiting behind all : List (List ℕ)) (a m : Standing) (taken : List ℕ) (faults : ℕ)
      (spoken : waiting ++ behind ≡ spoken_of all) (advances : Advances heeds all place place') (goes : Goes speech number tells ticks at (after_lines speech.manner at waiting) waiting a m) where
    -- where the batch leaves it
    abbrev mid : Footing
    mid = after_lines speech.manner at waiting

    ends-by : (stop : Stop) (e : SessionEnd) → Stops speech number tells ticks mid behind stop m (heard-at m taken faults) → EndsAt heeds place' stop →
        is_stop_end e ≡ is_disk stop → (is_stop_end e ≡ false → e ≡ end_for stop) → Ended speech number heeds tells ticks at place place' a (heard-at m taken faults) e
    ends-by stop e stops ends broken end_is = record {
      taken = all;
      stop = stop;
      advances = advances;
      stops = subst (λ lines. Stops speech number tells ticks at lines stop a (heard-at m taken faults)) spoken
          (stops-then speech number tells ticks at mid waiting behind stop a m (heard-at m taken faults) goes stops);
      ends = ends;
      broken = broken;
      end_is = end_is;
    }

    -- the session ends behind the batch, and what came behind it has no reply
    ends-here : (stop : Stop) (e : SessionEnd) → (tells → Told m.taken taken m.faults faults (end_text speech stop)) → BehindAt speech.manner mid stop behind →
        EndsAt heeds place' stop → is_disk stop ≡ false → is_stop_end e ≡ false → e ≡ end_for stop → Ended speech number heeds tells ticks at place place' a (heard-at m taken faults) e
    ends-here stop e told is ends calm going end_is =
        ends-by stop e (stops-here speech number tells ticks mid behind stop m (heard-at m taken faults) is calm refl told (λ given. refl) refl refl) ends (going ∙ sym calm) (λ no. end_is)

    goes-on : Goes speech number tells ticks mid at' behind m (heard-at m taken faults) → GoesOn speech number heeds tells ticks at at' place place' a (heard-at m taken faults)
    goes-on one = record {
      taken = all;
      advances = advances;
      goes = subst (λ lines. Goes speech number tells ticks at at' lines a (heard-at m taken faults)) spoken
          (goes-then speech number tells ticks at mid at' waiting behind a m (heard-at m taken faults) goes one);
    }

    -- one line behind the batch has its reply
    goes-behind : (line : List ℕ) → behind ≡ line ∷ [] → Goes speech number tells ticks mid at' (line ∷ []) m (heard-at m taken faults) →
        GoesOn speech number heeds tells ticks at at' place place' a (heard-at m taken faults)
    goes-behind line is one = goes-on (subst (λ rest. Goes speech number tells ticks mid at' rest m (heard-at m taken faults)) (sym is) one)

    stops-behind : (line : List ℕ) → behind ≡ line ∷ [] → Stops speech number tells ticks mid (line ∷ []) write_fault m (heard-at m taken faults) →
        Ended speech number heeds tells ticks at place place' a (heard-at m taken faults) end.WriteFault
    stops-behind line is one =
        ends-by write_fault end.WriteFault (subst (λ rest. Stops speech number tells ticks mid rest write_fault m (heard-at m taken faults)) (sym is) one) tt refl (λ calm. refl)

    -- a write of nothing failed
    silent-fault : {T E : Type 0} (h : Heard) (told : Result T E) → IsBehind speech.manner mid at' behind h → (tells → Writes m.taken taken [] told) →
        HasCause m.faults faults told → Ended speech number heeds tells ticks at place place' a (heard-at m taken faults) end.WriteFault
    silent-fault h told is writes cause =
        ends-here write_fault end.WriteFault (λ now. told-writes m.taken taken [] m.faults faults told (writes now) cause) (behind-few speech.manner mid at' behind h is) tt refl refl refl

    pub round-ends : {T E : Type 0} (h : Heard) (told : Result T E) → IsBehind speech.manner mid at' behind h → HeardEnd heeds place' h →
        (tells → Writes m.taken taken (text_behind speech h) told) → HasCause m.faults faults told →
        Rounded speech number heeds tells ticks at at' place place' a (heard-at m taken faults) (end_behind h told)
    round-ends heard.Requests (Ok done) is stop writes cause = (
      goes-on (subst (λ rest. Goes speech number tells ticks mid at' rest m (heard-at m taken faults)) (sym is.0)
          (goes-still speech number tells ticks mid at' m taken faults is.1 writes cause.fine)),
      stop,
    )
    round-ends (heard.Refused why) (Ok done) is stop writes cause =
        (goes-behind is.0 is.1 (goes-refused speech number tells ticks mid at' is.0 why m taken faults is.2 is.3 writes cause.fine), stop)
    round-ends heard.Unread (Ok done) is stop writes cause =
        (goes-behind is.0 is.1 (goes-unread speech number tells ticks mid at' is.0 m taken faults is.2 writes cause.fine), stop)
    round-ends (heard.Watch name from) (Ok done) is stop writes cause =
        ends-here (watching name from) (end.Watch name from) (λ now. told-writes m.taken taken [] m.faults faults (Ok done) (writes now) cause) is tt refl refl refl
    round-ends heard.Untimed (Ok done) is stop writes cause =
        ends-here clock_fault end.ClockFault (λ now. told-writes m.taken taken [] m.faults faults (Ok done) (writes now) cause) is tt refl refl refl
    round-ends heard.WrongKey (Ok done) is stop writes cause =
        ends-here wrong_key end.WrongKey (λ now. told-writes m.taken taken speech.wrong_key m.faults faults (Ok done) (writes now) cause) is tt refl refl refl
    round-ends heard.Limit (Ok done) is stop writes cause =
        ends-here limit end.Limit (λ now. told-writes m.taken taken [] m.faults faults (Ok done) (writes now) cause) is stop refl refl refl
    round-ends heard.Finish (Ok done) is stop writes cause =
        ends-here finish end.End (λ now. told-writes m.taken taken [] m.faults faults (Ok done) (writes now) cause) is stop refl refl refl
    round-ends heard.TooLong (Ok done) is stop writes cause =
        ends-here long_line end.TooLong (λ now. told-writes m.taken taken speech.too_long m.faults faults (Ok done) (writes now) cause) is stop refl refl refl
    round-ends heard.ReadFault (Ok done) is stop writes cause =
        ends-here read_fault end.ReadFault (λ now. told-writes m.taken taken [] m.faults faults (Ok done) (writes now) cause) is stop refl refl refl
    round-ends heard.Untimed (Err failed) is stop writes cause =
        ends-here clock_fault end.ClockFault (λ now. told-writes m.taken taken [] m.faults faults (Err failed) (writes now) cause) is tt refl refl refl
    round-ends heard.TooLong (Err failed) is stop writes cause =
        ends-here long_untold end.WriteFault (λ now. told-writes m.taken taken speech.too_long m.faults faults (Err failed) (writes now) cause) is stop refl refl refl
    round-ends heard.WrongKey (Err failed) is stop writes cause =
        ends-here wrong_untold end.WriteFault (λ now. told-writes m.taken taken speech.wrong_key m.faults faults (Err failed) (writes now) cause) is tt refl refl refl
    round-ends (heard.Refused why) (Err failed) is stop writes cause =
        stops-behind is.0 is.1 (stops-told speech number tells ticks mid is.0 m taken faults (refused is.0 why) refl is.2 refl refl refl refl tt
        (λ now. told-writes m.taken taken (speech.refusal_text why) m.faults faults (Err failed) (writes now) cause))
    round-ends heard.Unread (Err failed) is stop writes cause =
        stops-behind is.0 is.1 (stops-told speech number tells ticks mid is.0 m taken faults (unread is.0) refl tt refl refl refl refl tt
        (λ now. told-writes m.taken taken (speech.reply_text of_memory) m.faults faults (Err failed) (writes now) cause))
    round-ends heard.Requests (Err failed) is stop writes cause = silent-fault heard.Requests (Err failed) is writes cause
    round-ends (heard.Watch name from) (Err failed) is stop writes cause = silent-fault (heard.Watch name from) (Err failed) is writes cause
    round-ends heard.Limit (Err failed) is stop writes cause = silent-fault heard.Limit (Err failed) is writes cause
    round-ends heard.Finish (Err failed) is stop writes cause = silent-fault heard.Finish (Err failed) is writes cause
    round-ends heard.ReadFault (Err failed) is stop writes cause = silent-fault heard.ReadFault (Err failed) is writes cause

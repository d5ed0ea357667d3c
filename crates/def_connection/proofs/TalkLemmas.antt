-- A talk goes on, stops, and is a whole.
use Rattle.std.proofs.Common.{◌≡◌, inl, inr, ℕ, Bool, true, false, ◌||◌, List, [], ◌∷◌, ◌++◌, length, map, drop, Option, None, ◌<◌, ◌≤◌, refl, ap, sym, ◌∙◌, subst, arith, append_assoc}
use Rattle.std.specs.List.{AllByRecursion}
use Rattle.std.proofs.lemmas.List.{append-nil, map-append}
use Rattle.boss_model.specs.declared.answer.Answer.{Answer}
use Rattle.boss_model.specs.declared.command.Command.{Command}
use Rattle.boss_model.specs.Limits.{most_held}
use Rattle.def_history.specs.declared.entry.Entry.{Entry}
use Rattle.def_history.specs.History.{deeds}
use Rattle.boss_outside.specs.Counts.{Rose}
use Rattle.def_connection.specs.Batches.{AreAsked, batch, deeds_by, texts_by}
use Rattle.def_connection.specs.Judging.{AreJudged, name_in}
use Rattle.def_connection.specs.Speech.{Reply, Speech, Exchange, line_in, Footing, beginning, after, after_lines, after_talk, AreRead, text_in, deeds_in, moments_in, last_or, attached_in, parting_of, is_stop, is_end, EndsOnce}
use Rattle.def_connection.specs.Stopping.{Stop, finish, watching, read_fault, write_fault, clock_fault, long_line, long_untold, wrong_key, wrong_untold, limit, disk, nothing, is_disk, end_text, last_is, is_passed, BreaksOff, HeldAt, BehindAt, Leaves, moments_with}
use Rattle.def_connection.specs.Talks.{Told, Standing, Goes, Stops, Talked, is_unparted}
use Rattle.def_connection.proofs.BatchLemmas.{batch-lines, batch-reads, batch-asked, batch-after, batch-deeds, batch-text, batch-moments}
use Rattle.def_connection.proofs.Lasting.{reads-append, after_talk-append, text-append, deeds_in-append, moments-append, last-append, attached-then, ends-append, judged-append, name-append, last_is-behind, last_is-others}
use Rattle.def_connection.proofs.Telling.{went-on, told-behind}

or-false : (b : Bool) → b ≡ (b || false)
or-false true = refl
or-false false = refl

-- ---- requests that are held, and the line behind them

-- more was said before
held-later : (stop : Stop) (failed failed' : Type 0) (before talk : List Exchange) (uncalled : List (Command × ℕ)) → (failed → failed') → HeldAt stop failed talk uncalled →
    HeldAt stop failed' (before ++ talk) uncalled
held-later stop failed failed' before talk uncalled fails held = by stop held
  where
    breaks : BreaksOff failed talk uncalled → BreaksOff failed' (before ++ talk) uncalled
    breaks off = elim off [ inl none ↦ inl none | inr left ↦ inr (fails left.0, last_is-behind is_passed false before talk left.1) ]

    by : (stop : Stop) → HeldAt stop failed talk uncalled → HeldAt stop failed' (before ++ talk) uncalled
    by finish is = is
    by (watching name from) is = is
    by read_fault is = is
    by write_fault is = breaks is
    by clock_fault is = breaks is
    by long_line is = is
    by long_untold is = is
    by wrong_key is = is
    by wrong_untold is = is
    by limit is = is
    by disk is = tt
    by nothing is = is

pub some-held : 0 < most_held
some-held = let sixteen : most_held ≡ 16 = refl in omega (arith, sixteen)

held-none : (stop : Stop) (failed : Type 0) (talk : List Exchange) → HeldAt stop failed talk []
held-none finish failed talk = refl
held-none (watching name from) failed talk = refl
held-none read_fault failed talk = refl
held-none write_fault failed talk = inl refl
held-none clock_fault failed talk = inl refl
held-none long_line failed talk = refl
held-none long_untold failed talk = refl
held-none wrong_key failed talk = refl
held-none wrong_untold failed talk = refl
held-none limit failed talk = refl
held-none disk failed talk = tt
held-none nothing failed talk = refl

module _ (speech : Speech) (session : ℕ) (tells ticks : Type 0) where
  pub goes-nothing : (at : Footing) (s : Standing) → Goes speech session tells ticks at at [] s s
  goes-nothing at s = record {
    talk = [];
    lines = refl;
    reads = tt;
    leaves = refl;
    goes_on = tt;
    grew = sym (append-nil (deeds s.own));
    told = λ told. sym (append-nil s.taken);
    calm = refl;
    gave = λ told. sym (append-nil s.given);
    attached = or-false s.attached;
    last = refl;
    judged = tt;
    name = refl;
  }

  -- the second part is read on the footing that the first one leaves
  reads-then : (at mid : Footing) (talk more : List Exchange) → mid ≡ after_talk speech.manner at talk → AreRead speech.manner at talk → AreRead speech.manner mid more →
      AreRead speech.manner at (talk ++ more)
  reads-then at mid talk more is first then = reads-append speech.manner at talk more first (subst (λ t. AreRead speech.manner t more) is then)

  -- the second part is judged by the name that the first one leaves
  judged-then : (name name' : Option (List ℕ)) (talk more : List Exchange) → name' ≡ name_in name talk → AreJudged speech.denies name talk → AreJudged speech.denies name' more →
      AreJudged speech.denies name (talk ++ more)
  judged-then name name' talk more is first then = judged-append speech.denies name talk more first (subst (λ n. AreJudged speech.denies n more) is then)

  pub goes-then : (at mid at' : Footing) (xs ys : List (List ℕ)) (a b c : Standing) → Goes speech session tells ticks at mid xs a b → Goes speech session tells ticks mid at' ys b c →
      Goes speech session tells ticks at at' (xs ++ ys) a c
  goes-then at mid at' xs ys a b c one other = record {
    talk = one.talk ++ other.talk;
    lines = ap (λ front. front ++ ys) one.lines ∙ ap (λ rest. map line_in one.talk ++ rest) other.lines ∙ sym (map-append line_in one.talk other.talk);
    reads = reads-then at mid one.talk other.talk one.leaves one.reads other.reads;
    leaves = other.leaves ∙ ap (λ t. after_talk speech.manner t other.talk) one.leaves ∙ sym (after_talk-append speech.manner at one.talk other.talk);
    goes_on = each-on one.talk other.talk one.goes_on other.goes_on;
    grew = went-on (deeds a.own) (deeds b.own) (deeds c.own) (deeds_in session one.talk) (deeds_in session other.talk) one.grew other.grew
        ∙ ap (λ list. deeds a.own ++ list) (sym (deeds_in-append session one.talk other.talk));
    told = λ told. went-on a.taken b.taken c.taken (text_in speech one.talk) (text_in speech other.talk) (one.told told) (other.told told)
        ∙ ap (λ list. a.taken ++ list) (sym (text-append speech one.talk other.talk));
    calm = other.calm ∙ one.calm;
    gave = λ told. went-on a.given b.given c.given (moments_in one.talk) (moments_in other.talk) (one.gave told) (other.gave told)
        ∙ ap (λ list. a.given ++ list) (sym (moments-append one.talk other.talk));
    attached = other.attached ∙ ap (λ before. before || attached_in other.talk) one.attached ∙ attached-then a.attached one.talk other.talk;
    last = other.last ∙ ap (λ moment. last_or moment (moments_in other.talk)) one.last ∙ sym (last-append a.last (moments_in one.talk) (moments_in other.talk))
        ∙ ap (last_or a.last) (sym (moments-append one.talk other.talk));
    judged = judged-then a.name b.name one.talk other.talk one.name one.judged other.judged;
    name = other.name ∙ ap (λ name. name_in name other.talk) one.name ∙ sym (name-append a.name one.talk other.talk);
  }
    where
      each-on : (xs ys : List Exchange) → AllByRecursion (λ exchange. is_end exchange ≡ false) xs → AllByRecursion (λ exchange. is_end exchange ≡ false) ys →
          AllByRecursion (λ exchange. is_end exchange ≡ false) (xs ++ ys)
      each-on [] ys first then = then
      each-on (x ∷ xs) ys first then = (first.0, each-on xs ys first.1 then)

  -- what was said is one after the other
  pub goes-talk : (at mid at' : Footing) (xs ys : List (List ℕ)) (a b c : Standing) (one : Goes speech session tells ticks at mid xs a b) (other : Goes speech session tells ticks mid at' ys b c) →
      (goes-then at mid at' xs ys a b c one other).talk ≡ one.talk ++ other.talk
  unfolding goes-then
  goes-talk at mid at' xs ys a b c one other = refl

  -- what is left behind another part
  leaves-then : (at mid : Footing) (xs ys : List (List ℕ)) (stop : Stop) (failed failed' : Type 0) (talk more : List Exchange) (uncalled : List (Command × ℕ)) → xs ≡ map line_in talk →
      AreRead speech.manner at talk → mid ≡ after_talk speech.manner at talk → AllByRecursion (λ exchange. is_end exchange ≡ false) talk → (failed → failed') →
      Leaves speech mid ys stop failed more uncalled → Leaves speech at (xs ++ ys) stop failed' (talk ++ more) uncalled
  leaves-then at mid xs ys stop failed failed' talk more uncalled lines reads is going fails other =
      let here : after_talk speech.manner mid more ≡ after_talk speech.manner at (talk ++ more) =
      ap (λ t. after_talk speech.manner t more) is ∙ sym (after_talk-append speech.manner at talk more) in
      record {
        held = other.held;
        behind = other.behind;
        lines = ap (λ front. front ++ ys) lines ∙ ap (λ rest. map line_in talk ++ rest) other.lines
            ∙ sym (append_assoc (map line_in talk) (map line_in more) (other.held ++ other.behind)) ∙ ap (λ front. front ++ (other.held ++ other.behind)) (sym (map-append line_in talk more));
        reads = reads-then at mid talk more is reads other.reads;
        ends = ends-append talk more going other.ends;
        stopped = last_is-others is_end talk more going ∙ other.stopped;
        asked = subst (λ t. AreAsked speech.manner t other.held uncalled) here other.asked;
        kept = held-later stop failed failed' talk more uncalled fails other.kept;
        few = other.few;
        behind_is = subst (λ t. BehindAt speech.manner (after_lines speech.manner t other.held) stop other.behind) here other.behind_is;
      }

  pub stops-then : (at mid : Footing) (xs ys : List (List ℕ)) (stop : Stop) (a b c : Standing) → Goes speech session tells ticks at mid xs a b → Stops speech session tells ticks mid ys stop b c →
      Stops speech session tells ticks at (xs ++ ys) stop a c
  stops-then at mid xs ys stop a b c one other = record {
    talk = one.talk ++ other.talk;
    uncalled = other.uncalled;
    leaves = leaves-then at mid xs ys stop (Rose b.faults c.faults) (Rose a.faults c.faults) one.talk other.talk other.uncalled one.lines one.reads one.leaves one.goes_on
        (λ rose. subst (λ n. Rose n c.faults) one.calm rose) other.leaves;
    grew = went-on (deeds a.own) (deeds b.own) (deeds c.own) (deeds_in session one.talk) (deeds_in session other.talk) one.grew other.grew
        ∙ ap (λ list. deeds a.own ++ list) (sym (deeds_in-append session one.talk other.talk));
    told = λ told. subst (Told a.taken c.taken a.faults c.faults)
        (sym (append_assoc (text_in speech one.talk) (text_in speech other.talk) (end_text speech stop)) ∙ ap (λ front. front ++ end_text speech stop) (sym (text-append speech one.talk other.talk)))
        (told-behind a.taken b.taken c.taken a.faults b.faults c.faults (text_in speech one.talk) (text_in speech other.talk ++ end_text speech stop) (one.told told) one.calm (other.told told));
    gave = λ told. went-on a.given b.given c.given (moments_in one.talk) (moments_with other.talk other.uncalled) (one.gave told) (other.gave told)
        ∙ ap (λ list. a.given ++ list) (moments-then one.talk other.talk other.uncalled);
    attached = other.attached ∙ ap (λ before. before || attached_in other.talk) one.attached ∙ attached-then a.attached one.talk other.talk;
    last = other.last ∙ ap (λ moment. last_or moment (moments_with other.talk other.uncalled)) one.last
        ∙ sym (last-append a.last (moments_in one.talk) (moments_with other.talk other.uncalled)) ∙ ap (last_or a.last) (moments-then one.talk other.talk other.uncalled);
    judged = judged-then a.name b.name one.talk other.talk one.name one.judged other.judged;
  }
    where
      moments-then : (xs ys : List Exchange) (uncalled : List (Command × ℕ)) → moments_in xs ++ moments_with ys uncalled ≡ moments_with (xs ++ ys) uncalled
      moments-then xs ys uncalled = sym (append_assoc (moments_in xs) (moments_in ys) (map (λ call. call.1) uncalled)) ∙ ap (λ front. front ++ map (λ call. call.1) uncalled) (sym (moments-append xs ys))

  pub stops-talk : (at mid : Footing) (xs ys : List (List ℕ)) (stop : Stop) (a b c : Standing) (one : Goes speech session tells ticks at mid xs a b)
      (other : Stops speech session tells ticks mid ys stop b c) → (stops-then at mid xs ys stop a b c one other).talk ≡ one.talk ++ other.talk
  unfolding stops-then
  stops-talk at mid xs ys stop a b c one other = refl

  -- nothing more has a reply
  pub stops-here : (at : Footing) (behind : List (List ℕ)) (stop : Stop) (b c : Standing) → BehindAt speech.manner at stop behind → is_disk stop ≡ false → deeds c.own ≡ deeds b.own →
      (tells → Told b.taken c.taken b.faults c.faults (end_text speech stop)) → (ticks → c.given ≡ b.given) → c.attached ≡ b.attached → c.last ≡ b.last →
      Stops speech session tells ticks at behind stop b c
  stops-here at behind stop b c is calm same told gave attached last = record {
    talk = [];
    uncalled = [];
    leaves = record {
      held = [];
      behind = behind;
      lines = refl;
      reads = tt;
      ends = tt;
      stopped = sym calm;
      asked = tt;
      kept = held-none stop (Rose b.faults c.faults) [];
      few = some-held;
      behind_is = is;
    };
    grew = same ∙ sym (append-nil (deeds b.own));
    told = told;
    gave = λ told-now. gave told-now ∙ sym (append-nil b.given);
    attached = attached ∙ or-false b.attached;
    last = last;
    judged = tt;
  }

  -- a batch that was answered whole
  pub goes-batch : (at : Footing) (lines : List (List ℕ)) (calls : List (Command × ℕ)) (replies : List Reply) (a b : Standing) → AreAsked speech.manner at lines calls →
      length replies ≡ length calls → AllByRecursion (λ reply. is_stop reply ≡ false) replies → deeds b.own ≡ deeds a.own ++ deeds_by session calls replies →
      (tells → b.taken ≡ a.taken ++ texts_by speech replies) → b.faults ≡ a.faults → (ticks → b.given ≡ a.given ++ map (λ call. call.1) calls) →
      b.attached ≡ (a.attached || attached_in (batch lines calls replies)) → b.last ≡ last_or a.last (map (λ call. call.1) calls) →
      AreJudged speech.denies a.name (batch lines calls replies) → b.name ≡ name_in a.name (batch lines calls replies) →
      Goes speech session tells ticks at (after_lines speech.manner at lines) lines a b
  goes-batch at lines calls replies a b asked all going grew told calm gave attached last judged name =
      let few : length replies ≤ length calls = omega (arith, all) in
      let moments : map (λ call. call.1) calls ≡ moments_in (batch lines calls replies) = all-moments in
      record {
        talk = batch lines calls replies;
        lines = batch-lines speech.manner at lines calls replies asked few ∙ ap (λ more. map line_in (batch lines calls replies) ++ more) (none-left at lines calls replies asked all)
            ∙ append-nil (map line_in (batch lines calls replies));
        reads = batch-reads speech.manner at lines calls replies asked;
        leaves = batch-after speech.manner at lines calls replies asked
            ∙ ap (after_lines speech.manner (after_talk speech.manner at (batch lines calls replies))) (none-left at lines calls replies asked all);
        goes_on = each-going lines calls replies going;
        grew = grew ∙ ap (λ list. deeds a.own ++ list) (sym (batch-deeds speech.manner session at lines calls replies asked));
        told = λ told-now. told told-now ∙ ap (λ list. a.taken ++ list) (sym (batch-text speech.manner speech at lines calls replies asked few));
        calm = calm;
        gave = λ told-now. gave told-now ∙ ap (λ list. a.given ++ list) moments;
        attached = attached;
        last = last ∙ ap (last_or a.last) moments;
        judged = judged;
        name = name;
      }
    where
      none-left : (at : Footing) (lines : List (List ℕ)) (calls : List (Command × ℕ)) (replies : List Reply) → AreAsked speech.manner at lines calls → length replies ≡ length calls →
          drop (length replies) lines ≡ []
      none-left at [] [] [] asked all = refl
      none-left at [] [] (reply ∷ replies) asked all = refl
      none-left at [] (call ∷ calls) replies asked all = absurd asked
      none-left at (line ∷ lines) [] replies asked all = absurd asked
      none-left at (line ∷ lines) (call ∷ calls) [] asked all = absurd (omega (arith, all))
      none-left at (line ∷ lines) (call ∷ calls) (reply ∷ replies) asked all = none-left (after speech.manner at line) lines calls replies asked.1 (omega (arith, all))

      no-calls-left : (calls : List (Command × ℕ)) (replies : List Reply) → length replies ≡ length calls → drop (length replies) calls ≡ []
      no-calls-left [] [] all = refl
      no-calls-left [] (reply ∷ replies) all = refl
      no-calls-left (call ∷ calls) [] all = absurd (omega (arith, all))
      no-calls-left (call ∷ calls) (reply ∷ replies) all = no-calls-left calls replies (omega (arith, all))

      all-moments : map (λ call. call.1) calls ≡ moments_in (batch lines calls replies)
      all-moments = batch-moments speech.manner at lines calls replies asked ∙ ap (λ more. moments_in (batch lines calls replies) ++ map (λ call. call.1) more) (no-calls-left calls replies all)
          ∙ append-nil (moments_in (batch lines calls replies))

      each-going : (lines : List (List ℕ)) (calls : List (Command × ℕ)) (replies : List Reply) → AllByRecursion (λ reply. is_stop reply ≡ false) replies →
          AllByRecursion (λ exchange. is_end exchange ≡ false) (batch lines calls replies)
      each-going [] calls replies going = tt
      each-going (line ∷ lines) [] replies going = tt
      each-going (line ∷ lines) (call ∷ calls) [] going = tt
      each-going (line ∷ lines) (call ∷ calls) (reply ∷ replies) going = (going.0, each-going lines calls replies going.1)

  -- a batch in which the talk stops: the lines behind the replies, and one behind the batch, have none
  pub stops-batch : (at : Footing) (lines behind : List (List ℕ)) (calls : List (Command × ℕ)) (replies : List Reply) (stop : Stop) (a b : Standing) →
      AreAsked speech.manner at lines calls → length replies ≤ length calls → EndsOnce (batch lines calls replies) → last_is is_end false (batch lines calls replies) ≡ is_disk stop →
      HeldAt stop (Rose a.faults b.faults) (batch lines calls replies) (drop (length replies) calls) → length (drop (length replies) calls) < most_held → BehindAt speech.manner (after_lines speech.manner at lines) stop behind → end_text speech stop ≡ [] →
      deeds b.own ≡ deeds a.own ++ deeds_by session calls replies →
      (tells → Told a.taken b.taken a.faults b.faults (texts_by speech replies)) → (ticks → b.given ≡ a.given ++ map (λ call. call.1) calls) →
      b.attached ≡ (a.attached || attached_in (batch lines calls replies)) → b.last ≡ last_or a.last (map (λ call. call.1) calls) →
      AreJudged speech.denies a.name (batch lines calls replies) → Stops speech session tells ticks at (lines ++ behind) stop a b
  stops-batch at lines behind calls replies stop a b asked few ends stopped kept unheld is silent grew told gave attached last judged =
      let front : List Exchange = batch lines calls replies in
      let split : lines ≡ map line_in front ++ drop (length replies) lines = batch-lines speech.manner at lines calls replies asked few in
      record {
        talk = front;
        uncalled = drop (length replies) calls;
        leaves = record {
          held = drop (length replies) lines;
          behind = behind;
          lines = ap (λ start. start ++ behind) split ∙ append_assoc (map line_in front) (drop (length replies) lines) behind;
          reads = batch-reads speech.manner at lines calls replies asked;
          ends = ends;
          stopped = stopped;
          asked = batch-asked speech.manner at lines calls replies asked;
          kept = kept;
          few = unheld;
          behind_is = subst (λ t. BehindAt speech.manner t stop behind) (batch-after speech.manner at lines calls replies asked) is;
        };
        grew = grew ∙ ap (λ list. deeds a.own ++ list) (sym (batch-deeds speech.manner session at lines calls replies asked));
        told = λ told-now. subst (Told a.taken b.taken a.faults b.faults)
            (sym (ap (λ text. text_in speech front ++ text) silent ∙ append-nil (text_in speech front) ∙ batch-text speech.manner speech at lines calls replies asked few)) (told told-now);
        gave = λ told-now. gave told-now ∙ ap (λ list. a.given ++ list) (batch-moments speech.manner at lines calls replies asked);
        attached = attached;
        last = last ∙ ap (last_or a.last) (batch-moments speech.manner at lines calls replies asked);
        judged = judged;
      }

  -- a whole talk, once the process is told to be lost
  pub talked-of : (heard : List (List ℕ)) (stop : Stop) (broken : Bool) (a b : Standing) (own : List Entry) (parting : Option Answer) →
      Stops speech session tells ticks beginning heard stop a b → a.attached ≡ false → a.last ≡ 0 → a.name ≡ None → deeds own ≡ deeds b.own ++ parting_of session b.last parting →
      (b.attached ≡ false → parting ≡ None) → broken ≡ (is_disk stop || is_unparted b.attached parting) → Talked speech session tells ticks heard stop broken a (record b { own = own })
  talked-of heard stop broken a b own parting stops fresh first anonymous parts unattached is =
      let attached : b.attached ≡ attached_in stops.talk = stops.attached ∙ ap (λ before. before || attached_in stops.talk) fresh in
      let last : b.last ≡ last_or 0 (moments_with stops.talk stops.uncalled) = stops.last ∙ ap (λ moment. last_or moment (moments_with stops.talk stops.uncalled)) first in
      record {
        more = deeds_in session stops.talk ++ parting_of session b.last parting;
        moments = moments_with stops.talk stops.uncalled;
        grew = went-on (deeds a.own) (deeds b.own) (deeds own) (deeds_in session stops.talk) (parting_of session b.last parting) stops.grew parts;
        gave = stops.gave;
        exchanged = record {
          talk = stops.talk;
          uncalled = stops.uncalled;
          parting = parting;
          leaves = stops.leaves;
          all_moments = refl;
          all_entries = ap (λ moment. deeds_in session stops.talk ++ parting_of session moment parting) last;
          unattached = λ no. unattached (attached ∙ no);
          broken_is = is ∙ ap (λ b. is_disk stop || is_unparted b parting) attached;
          told = stops.told;
          judged = subst (λ name. AreJudged speech.denies name stops.talk) anonymous stops.judged;
        };
      }

  -- what was said is what was said when the talk stopped
  pub talked-talk : (heard : List (List ℕ)) (stop : Stop) (broken : Bool) (a b : Standing) (own : List Entry) (parting : Option Answer) (stops : Stops speech session tells ticks beginning heard stop a b)
      (fresh : a.attached ≡ false) (first : a.last ≡ 0) (anonymous : a.name ≡ None) (parts : deeds own ≡ deeds b.own ++ parting_of session b.last parting)
      (unattached : b.attached ≡ false → parting ≡ None) (is : broken ≡ (is_disk stop || is_unparted b.attached parting)) →
      (talked-of heard stop broken a b own parting stops fresh first anonymous parts unattached is).exchanged.talk ≡ stops.talk
  unfolding talked-of
  talked-talk heard stop broken a b own parting stops fresh first anonymous parts unattached is = refl

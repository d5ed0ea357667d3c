-- Whoever attaches on a connection has shown its key.
use Rattle.std.proofs.Common.{◌≡◌, inl, inr, ℕ, Bool, true, false, cond, List, [], ◌∷◌, ◌++◌, filter, not, Option, Some, None, refl, ap, sym, ◌∙◌, subst, append_assoc}
use Rattle.std.specs.List.{AllByRecursion}
use Rattle.boss_model.specs.declared.answer.Answer.{Answer}
use Rattle.boss_model.specs.Catalogue.{Catalogue, actuators}
use Rattle.boss_model.specs.Lines.{is_blank}
use Rattle.def_history.specs.declared.entry.Entry.{Entry}
use Rattle.def_lanes.specs.Lanes.{done_in}
use Rattle.def_lanes.specs.Works.{Course, Work, visit, beat, drive, lane_of_work}
use Rattle.boss_outside_server.specs.Hosts.{Served}
use Rattle.def_connection.specs.Losing.{spoken_of, Lost}
use Rattle.def_connection.specs.Showing.{AreOwn, IsGuarded, IsShown, AreShown}
use Rattle.def_connection.specs.Speech.{Footing, Manner, beginning, Exchange, unread, refused, called, line_in, known_by, after, after_exchange, after_talk, deeds_in, attached_in, parting_of, last_or}
use Rattle.def_connection.specs.Stopping.{Stop}
use Rattle.def_connection.specs.Watching.{watched_in, next_from}
use Rattle.def_connection.proofs.Shows.{exchanged-keyed, watch-keyed}
use Rattle.boss_shared.specs.Gates.{Gate}
use Rattle.boss_keys.specs.declared.entry.Entry.{Entry as KeyEntry}
use Rattle.boss_callers.specs.declared.shown.Shown.{Shown}
use Rattle.boss_callers.specs.declared.shown.Shown.TheVariants.{NoObject, Key, WrongKey}
use Rattle.boss_callers.specs.Shown.{shown_by, name_shown}
use Rattle.boss_sessions.specs.Speaking.{manner_of, speech_of}
use Rattle.boss_watching.specs.Notes.{notes}
use Rattle.boss_worker.specs.Keyed.{HasShown, IsByKey, IsByKeyWork}
use Rattle.boss_worker.specs.Saying.{IsVisit, says}

-- ---- lines

-- one that stands among those that a test keeps stands among all
filter-split : {X : Type 0} (test : X → Bool) (xs front back : List X) (x : X) → filter test xs ≡ front ++ x ∷ back →
    (before : List X) × (behind : List X) × (xs ≡ before ++ x ∷ behind)
filter-split test [] [] back x is = absurd cc
filter-split test [] (y ∷ front) back x is = absurd cc
filter-split {X} test (y ∷ xs) front back x is = by (test y) front (λ rest same. filter-split test xs rest back x same) is
  where
    by : (here : Bool) (front : List X) →
        ((rest : List X) → filter test xs ≡ rest ++ x ∷ back → (before : List X) × (behind : List X) × (xs ≡ before ++ x ∷ behind)) →
        cond here (y ∷ filter test xs) (filter test xs) ≡ front ++ x ∷ back → (before : List X) × (behind : List X) × (y ∷ xs ≡ before ++ x ∷ behind)
    by true [] among same = ([], xs, (let here : y ≡ x = cc in ap (λ first. first ∷ xs) here))
    by true (z ∷ front) among same =
        let rest = among front (let those : filter test xs ≡ front ++ x ∷ back = cc in those) in
        (y ∷ rest.0, rest.1, ap (λ others. y ∷ others) rest.2)
    by false front among same = let rest = among front same in (y ∷ rest.0, rest.1, ap (λ others. y ∷ others) rest.2)

named-key : (shown : Shown) (name : List ℕ) → name_shown shown ≡ Some name → shown ≡ Key name
named-key NoObject name is = absurd cc
named-key (Key other) name is = let same : other ≡ name = cc in ap (λ n. Key n) same
named-key WrongKey name is = absurd cc

module _ (keys : List KeyEntry) (served : Served) where
  -- a line that was taken is one that the input lost
  lost-shown : (taken front back : List (List ℕ)) (line name : List ℕ) (stop : Stop) → Lost served.held served.left taken stop → spoken_of taken ≡ front ++ line ∷ back →
      name_shown (shown_by keys line) ≡ Some name → HasShown keys served name
  lost-shown taken front back line name stop lost spoken shown =
      let among = filter-split (λ one. not (is_blank one)) taken front back line spoken in
      record {
        lost = lost.lost;
        split = lost.split;
        front = among.0;
        line = line;
        back = among.1 ++ lost.more;
        lines_are = lost.lines_are ∙ ap (λ those. those ++ lost.more) among.2 ∙ append_assoc among.0 (line ∷ among.1) lost.more;
        shown = named-key (shown_by keys line) name shown;
      }

-- ---- where no key was shown

known-none : (known shown : Option (List ℕ)) → known_by known shown ≡ None → known ≡ None
known-none None shown is = refl
known-none (Some name) shown is = is

exchange-none : (manner : Manner) (at : Footing) (x : Exchange) → (after_exchange manner at x).known ≡ None → at.known ≡ None
exchange-none manner at (unread line) is = is
exchange-none manner at (refused line why) is = known-none at.known (manner.shows line) is
exchange-none manner at (called line asked moment reply) is = known-none at.known (manner.shows line) is

talk-none : (manner : Manner) (at : Footing) (talk : List Exchange) → (after_talk manner at talk).known ≡ None → at.known ≡ None
talk-none manner at [] is = is
talk-none manner at (x ∷ talk) is = exchange-none manner at x (talk-none manner (after_exchange manner at x) talk is)

-- nothing was called
nothing-called : (manner : Manner) (at : Footing) (session : ℕ) (talk : List Exchange) → AreShown manner at talk → (after_talk manner at talk).known ≡ None →
    (deeds_in session talk ≡ []) × (attached_in talk ≡ false)
nothing-called manner at session [] shown none = (refl, refl)
nothing-called manner at session (unread line ∷ talk) shown none = nothing-called manner (after_exchange manner at (unread line)) session talk shown.1 none
nothing-called manner at session (refused line why ∷ talk) shown none = nothing-called manner (after manner at line) session talk shown.1 none
nothing-called manner at session (called line asked moment reply ∷ talk) shown none =
    absurd (subst (λ known. IsShown known (called line asked moment reply)) (talk-none manner (after manner at line) talk none) shown.0)

-- ---- a connection

watched-own : (known : Option (List ℕ)) (session : ℕ) (name : List ℕ) (from : ℕ) (turns : List (ℕ × Answer)) → AreOwn known (watched_in session name from turns)
watched-own known session name from [] = tt
watched-own known session name from (turn ∷ turns) = (tt, watched-own known session name (next_from from turn.1) turns)

module _ (catalogue : Catalogue) (gates : List Gate) (keys : List KeyEntry) (guarded : IsGuarded (manner_of catalogue (Some keys))) where
  visit-shown : (tells : Type 0) (served : Served) (course : Course) (entries : List Entry) → IsVisit catalogue gates (Some keys) tells served course entries → IsByKey keys served entries
  visit-shown tells served course entries (inl talks) =
      let manner = manner_of catalogue (Some keys) in
      let said = talks.exchanged in
      let keyed = exchanged-keyed (speech_of catalogue gates (Some keys)) served.session tells (spoken_of talks.taken) talks.stop talks.broken [] served.taken 0 served.write_faults entries course.moments
      guarded said in
      record {
        known = (after_talk manner beginning said.talk).known;
        own = keyed.own;
        key = λ name is. let one = keyed.key name is in
            lost-shown keys served talks.taken one.front (one.back ++ (said.leaves.held ++ said.leaves.behind)) one.line name talks.stop talks.ended.lost
            (said.leaves.lines ∙ ap (λ those. those ++ (said.leaves.held ++ said.leaves.behind)) one.lines_are ∙ append_assoc one.front (one.line ∷ one.back) (said.leaves.held ++ said.leaves.behind))
            one.shown;
        none = λ is. let silent = nothing-called manner beginning served.session said.talk keyed.shown is in
            said.all_entries ∙ ap (λ first. first ++ parting_of served.session (last_or 0 course.moments) said.parting) silent.0
            ∙ ap (parting_of served.session (last_or 0 course.moments)) (said.unattached silent.1);
      }
  visit-shown tells served course entries (inr watches) =
      let named = watch-keyed (speech_of catalogue gates (Some keys)) (notes catalogue) tells served course entries guarded watches in
      record {
        known = Some named.0;
        own = subst (AreOwn (Some named.0)) (sym watches.noticed.all_entries) (watched-own (Some named.0) served.session watches.name watches.from watches.noticed.turns);
        key = λ name is. let same : named.0 ≡ name = cc in
            subst (HasShown keys served) same (lost-shown keys served watches.taken [] [] watches.line named.0 _ watches.lost watches.lines named.1);
        none = λ is. absurd cc;
      }

  pub works-shown : (heeds tells pausing : Type 0) (log : List Entry) → heeds → (works : List Work) →
      AllByRecursion (λ work. says catalogue gates (Some keys) heeds tells pausing work (done_in (actuators catalogue) (lane_of_work work) log)) works →
      AllByRecursion (λ work. IsByKeyWork keys work (done_in (actuators catalogue) (lane_of_work work) log)) works
  works-shown heeds tells pausing log heard [] each = tt
  works-shown heeds tells pausing log heard (visit served course ∷ works) each =
      (visit-shown tells served course _ (each.0.1 heard), works-shown heeds tells pausing log heard works each.1)
  works-shown heeds tells pausing log heard (beat waited course ∷ works) each = (tt, works-shown heeds tells pausing log heard works each.1)
  works-shown heeds tells pausing log heard (drive driver calls waited course ∷ works) each = (tt, works-shown heeds tells pausing log heard works each.1)

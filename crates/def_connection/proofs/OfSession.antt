-- What a connection adds is all of its session, and at moments that its clock gave.
use Rattle.std.proofs.Common.{◌≡◌, ℕ, zero, suc, ◌<◌, Bool, true, false, List, [], ◌∷◌, ◌++◌, map, Option, Some, None, refl, ap, sym, ◌∙◌, subst, arith}
use Rattle.std.specs.List.{AllByRecursion}
use Rattle.std.proofs.lemmas.Bool.Decides.{nat_tests}
use Rattle.std.proofs.lemmas.List.{append-nil}
use Rattle.boss_model.specs.declared.answer.Answer.{Answer}
use Rattle.boss_model.specs.declared.command.Command.{Command}
use Rattle.boss_model.specs.declared.command.Command.TheVariants as command
use Rattle.boss_model.specs.declared.state.Actuator.{Actuator}
use Rattle.boss_model.specs.Lists.{member}
use Rattle.def_history.specs.declared.entry.Entry.{Entry}
use Rattle.def_history.specs.declared.entry.Entry.TheVariants.{Did}
use Rattle.def_history.specs.History.{deeds}
use Rattle.def_lanes.specs.Lanes.{of_session, lane_of}
use Rattle.def_lanes.specs.Parts.{AreTimed, Added}
use Rattle.def_lanes.specs.Works.{Cut, not_cut}
use Rattle.def_lanes.proofs.Lists.{each-append}
use Rattle.def_lanes.proofs.Moments.{both-timed, one-timed, timed-front, timed-behind, timed-next}
use Rattle.boss_outside.specs.Notes.{AllRead}
use Rattle.boss_outside_server.specs.Hosts.{Served}
use Rattle.def_connection.specs.Answered.{IsAnswered}
use Rattle.def_connection.specs.Speech.{Reply, of_answer, of_memory, of_stop, of_denial, Speech, watches, Exchange, unread, refused, called, beginning, line_in, after_lines, after_talk, text_in, deeds_of, deeds_in, moments_of, moments_in, last_or, attached_in, parting_of, entry_of}
use Rattle.def_connection.specs.Losing.{spoken_of, Lost}
use Rattle.def_connection.specs.Stopping.{Stop, watching, Leaves, moments_with}
use Rattle.def_connection.specs.Talks.{Told, Standing, Talked, Exchanged, IsEnded, IsTalkOf}
use Rattle.def_connection.specs.Watching.{Watched, Noticed, watched_in, next_from, most_watched, is_unanswered, EndsWatch, IsWatchOf}
use Rattle.def_connection.proofs.Lasting.{lines-alone, talk-alone}

-- ---- lanes

pub session-lane : (plant : List Actuator) (session : ℕ) (asked : Command) (moment : ℕ) (given : Answer) → 0 < session → lane_of plant (Did session asked moment given) ≡ of_session session
session-lane plant zero asked moment given some = absurd (omega arith)
session-lane plant (suc n) asked moment given some = refl

entry-lane : (plant : List Actuator) (session : ℕ) (asked : Command) (moment : ℕ) (reply : Reply) → 0 < session →
    AllByRecursion (λ entry. lane_of plant entry ≡ of_session session) (entry_of session asked moment reply)
entry-lane plant session asked moment (of_answer given) some = (session-lane plant session asked moment given some, tt)
entry-lane plant session asked moment of_memory some = tt
entry-lane plant session asked moment of_stop some = tt
entry-lane plant session asked moment (of_denial index rule) some = tt

exchange-lane : (plant : List Actuator) (session : ℕ) (exchange : Exchange) → 0 < session → AllByRecursion (λ entry. lane_of plant entry ≡ of_session session) (deeds_of session exchange)
exchange-lane plant session (unread line) some = tt
exchange-lane plant session (refused line why) some = tt
exchange-lane plant session (called line asked moment reply) some = entry-lane plant session asked moment reply some

talk-lane : (plant : List Actuator) (session : ℕ) (talk : List Exchange) → 0 < session → AllByRecursion (λ entry. lane_of plant entry ≡ of_session session) (deeds_in session talk)
talk-lane plant session [] some = tt
talk-lane plant session (exchange ∷ talk) some =
    each-append (λ entry. lane_of plant entry ≡ of_session session) (deeds_of session exchange) (deeds_in session talk) (exchange-lane plant session exchange some) (talk-lane plant session talk some)

parting-lane : (plant : List Actuator) (session moment : ℕ) (parting : Option Answer) → 0 < session → AllByRecursion (λ entry. lane_of plant entry ≡ of_session session) (parting_of session moment parting)
parting-lane plant session moment None some = tt
parting-lane plant session moment (Some given) some = (session-lane plant session command.Gone moment given some, tt)

watch-lane : (plant : List Actuator) (session : ℕ) (name : List ℕ) (from : ℕ) (turns : List (ℕ × Answer)) → 0 < session →
    AllByRecursion (λ entry. lane_of plant entry ≡ of_session session) (watched_in session name from turns)
watch-lane plant session name from [] some = tt
watch-lane plant session name from (turn ∷ turns) some =
    (session-lane plant session (command.Notices (Some name) from most_watched) turn.0 turn.1 some, watch-lane plant session name (next_from from turn.1) turns some)

-- ---- moments

exchange-timed : (session : ℕ) (exchange : Exchange) → AreTimed (moments_of exchange) (deeds_of session exchange)
exchange-timed session (unread line) = refl
exchange-timed session (refused line why) = refl
exchange-timed session (called line asked moment (of_answer given)) = one-timed (moment ∷ []) session moment asked given (grind (arith, nat_tests))
exchange-timed session (called line asked moment of_memory) = refl
exchange-timed session (called line asked moment of_stop) = refl
exchange-timed session (called line asked moment (of_denial index rule)) = refl

talk-timed : (session : ℕ) (talk : List Exchange) → AreTimed (moments_in talk) (deeds_in session talk)
talk-timed session [] = refl
talk-timed session (exchange ∷ talk) = both-timed (moments_in (exchange ∷ talk)) (deeds_of session exchange) (deeds_in session talk)
    (timed-front (moments_of exchange) (moments_in talk) (deeds_of session exchange) (exchange-timed session exchange))
    (timed-behind (moments_of exchange) (moments_in talk) (deeds_in session talk) (talk-timed session talk))

last-in : (moment : ℕ) (moments : List ℕ) → member (last_or moment moments) (moment ∷ moments) ≡ true
last-in moment [] = grind (arith, nat_tests)
last-in moment (next ∷ moments) = grind (arith, last-in next moments)

-- where an attach was accepted there is a moment
attached-last : (talk : List Exchange) (unused : List ℕ) → attached_in talk ≡ true → member (last_or 0 (moments_in talk ++ unused)) (moments_in talk ++ unused) ≡ true
attached-last [] unused attached = absurd cc
attached-last (unread line ∷ talk) unused attached = attached-last talk unused attached
attached-last (refused line why ∷ talk) unused attached = attached-last talk unused attached
attached-last (called line asked moment reply ∷ talk) unused attached = last-in moment (moments_in talk ++ unused)

parting-timed : (session : ℕ) (talk : List Exchange) (unused : List ℕ) (parting : Option Answer) (attached : Bool) → attached_in talk ≡ attached → (attached ≡ false → parting ≡ None) →
    AreTimed (moments_in talk ++ unused) (parting_of session (last_or 0 (moments_in talk ++ unused)) parting)
parting-timed session talk unused None attached is none = refl
parting-timed session talk unused (Some given) true is none =
    one-timed (moments_in talk ++ unused) session (last_or 0 (moments_in talk ++ unused)) command.Gone given (attached-last talk unused is)
parting-timed session talk unused (Some given) false is none = absurd (let no : Some given ≡ None = none refl in cc)

watch-timed : (session : ℕ) (name : List ℕ) (from : ℕ) (turns : List (ℕ × Answer)) → AreTimed (map (λ turn. turn.0) turns) (watched_in session name from turns)
watch-timed session name from [] = refl
watch-timed session name from (turn ∷ turns) = timed-next session turn.0 (command.Notices (Some name) from most_watched) turn.1 (map (λ other. other.0) turns)
    (watched_in session name (next_from from turn.1) turns) (watch-timed session name (next_from from turn.1) turns)

-- ---- what a connection adds

module _ (plant : List Actuator) (speech : Speech) (session : ℕ) (tells ticks : Type 0) (some : 0 < session) where
  exchanged-lane : (heard : List (List ℕ)) (stop : Stop) (broken : Bool) (old new : List ℕ) (before now : ℕ) (entries : List Entry) (moments : List ℕ) →
      Exchanged speech session tells heard stop broken old new before now entries moments → AllByRecursion (λ entry. lane_of plant entry ≡ of_session session) entries
  exchanged-lane heard stop broken old new before now entries moments is = subst (AllByRecursion (λ entry. lane_of plant entry ≡ of_session session)) (sym is.all_entries)
      (each-append (λ entry. lane_of plant entry ≡ of_session session) (deeds_in session is.talk) _
      (talk-lane plant session is.talk some) (parting-lane plant session _ is.parting some))

  exchanged-timed : (heard : List (List ℕ)) (stop : Stop) (broken : Bool) (old new : List ℕ) (before now : ℕ) (entries : List Entry) (moments : List ℕ) →
      Exchanged speech session tells heard stop broken old new before now entries moments → AreTimed moments entries
  exchanged-timed heard stop broken old new before now entries moments is =
      let unused : List ℕ = map (λ call. call.1) is.uncalled in
      subst (λ given. AreTimed given entries) (sym is.all_moments)
      (subst (AreTimed (moments_with is.talk is.uncalled)) (sym (is.all_entries ∙ ap (λ given. deeds_in session is.talk ++ parting_of session (last_or 0 given) is.parting) is.all_moments))
      (both-timed (moments_with is.talk is.uncalled) (deeds_in session is.talk) (parting_of session (last_or 0 (moments_with is.talk is.uncalled)) is.parting)
      (timed-front (moments_in is.talk) unused (deeds_in session is.talk) (talk-timed session is.talk))
      (parting-timed session is.talk unused is.parting (attached_in is.talk) refl is.unattached)))

  -- a talk adds to its session's lane, whatever is said of what it added
  pub talk-says : (heard : List (List ℕ)) (stop : Stop) (broken : Bool) (old new : Standing) → (talked : Talked speech session tells ticks heard stop broken old new) →
      (says : List Entry → Type 0) → says talked.more → Added plant (of_session session) says ticks talked.moments old.own new.own old.given new.given
  talk-says heard stop broken old new talked says said = record {
    more = talked.more;
    grew = talked.grew;
    of_lane = exchanged-lane heard stop broken old.taken new.taken old.faults new.faults talked.more talked.moments talked.exchanged;
    agrees = said;
    gave = talked.gave;
    timed = exchanged-timed heard stop broken old.taken new.taken old.faults new.faults talked.more talked.moments talked.exchanged;
  }

  -- it says what an exchange says
  pub talk-added : (heard : List (List ℕ)) (stop : Stop) (broken : Bool) (old new : Standing) → (talked : Talked speech session tells ticks heard stop broken old new) →
      Added plant (of_session session) (λ more. Exchanged speech session tells heard stop broken old.taken new.taken old.faults new.faults more talked.moments) ticks talked.moments
      old.own new.own old.given new.given
  talk-added heard stop broken old new talked =
      talk-says heard stop broken old new talked (λ more. Exchanged speech session tells heard stop broken old.taken new.taken old.faults new.faults more talked.moments)
      talked.exchanged

  pub watch-added : (notes : Answer → List ℕ) (unanswered : Bool) (name : List ℕ) (from : ℕ) (old new : Standing) → (watched : Watched notes session name tells ticks unanswered from old new) →
      Added plant (of_session session) (λ more. Noticed notes session name tells unanswered from old.taken new.taken old.faults new.faults more watched.moments) ticks watched.moments
      old.own new.own old.given new.given
  watch-added notes unanswered name from old new watched = record {
    more = watched.more;
    grew = watched.grew;
    of_lane = subst (AllByRecursion (λ entry. lane_of plant entry ≡ of_session session)) (sym watched.noticed.all_entries) (watch-lane plant session name from watched.noticed.turns some);
    agrees = watched.noticed;
    gave = watched.gave;
    timed = subst (λ given. AreTimed given watched.more) (sym watched.noticed.all_moments)
        (timed-front (map (λ turn. turn.0) watched.noticed.turns) watched.noticed.unused watched.more
        (subst (AreTimed (map (λ turn. turn.0) watched.noticed.turns)) (sym watched.noticed.all_entries) (watch-timed session name from watched.noticed.turns)));
  }

-- an ended connection agrees with what was added for it
pub talk-agrees : (plant : List Actuator) (speech : Speech) (tells ticks : Type 0) (served : Served) (taken_are : List (List ℕ)) (stop : Stop) (broken : Bool) (cut : Cut) (old new : Standing) →
    0 < served.session → (talked : Talked speech served.session tells ticks (spoken_of taken_are) stop broken old new) → old.taken ≡ [] → old.faults ≡ 0 → new.taken ≡ served.taken →
    new.faults ≡ served.write_faults → IsEnded served taken_are stop broken cut → (tells → AllRead (IsAnswered speech served.held 0 talked.exchanged.talk) served.reads) →
    Added plant (of_session served.session) (IsTalkOf speech tells served (record { moments = talked.moments; cut = cut; closed = false })) ticks talked.moments old.own new.own old.given new.given
talk-agrees plant speech tells ticks served taken_are stop broken cut old new some talked empty quiet taken faults ended answered =
    let said = moved old.taken [] new.taken served.taken old.faults 0 new.faults served.write_faults empty taken quiet faults talked.more talked.moments talked.exchanged answered in
    talk-says plant speech served.session tells ticks some (spoken_of taken_are) stop broken old new talked (IsTalkOf speech tells served (record { moments = talked.moments; cut = cut; closed = false })) (record {
      taken = taken_are;
      stop = stop;
      broken = broken;
      ended = ended;
      exchanged = said.0;
      answered = said.1;
    })
  where
    -- the same between other bytes and counts, with what holds of its talk
    moved : (a a' b b' : List ℕ) (f f' g g' : ℕ) → a ≡ a' → b ≡ b' → f ≡ f' → g ≡ g' → (entries : List Entry) (moments : List ℕ) →
        (is : Exchanged speech served.session tells (spoken_of taken_are) stop broken a b f g entries moments) → (tells → AllRead (IsAnswered speech served.held 0 is.talk) served.reads) →
        (said : Exchanged speech served.session tells (spoken_of taken_are) stop broken a' b' f' g' entries moments) × (tells → AllRead (IsAnswered speech served.held 0 said.talk) served.reads)
    moved a a' b b' f f' g g' p q r s entries moments is holds =
        subst (λ x. (said : Exchanged speech served.session tells (spoken_of taken_are) stop broken a' b' f' x entries moments) × (tells → AllRead (IsAnswered speech served.held 0 said.talk) served.reads)) s
        (subst (λ x. (said : Exchanged speech served.session tells (spoken_of taken_are) stop broken a' b' x g entries moments) × (tells → AllRead (IsAnswered speech served.held 0 said.talk) served.reads)) r
        (subst (λ x. (said : Exchanged speech served.session tells (spoken_of taken_are) stop broken a' x f g entries moments) × (tells → AllRead (IsAnswered speech served.held 0 said.talk) served.reads)) q
        (subst (λ x. (said : Exchanged speech served.session tells (spoken_of taken_are) stop broken x b f g entries moments) × (tells → AllRead (IsAnswered speech served.held 0 said.talk) served.reads)) p (is, holds))))

pub watch-agrees : (plant : List Actuator) (speech : Speech) (notes : Answer → List ℕ) (tells ticks : Type 0) (served : Served) (taken_are : List (List ℕ)) (line : List ℕ) (name : List ℕ) (from : ℕ) (cut : Cut) (closed : Bool) (old new : Standing) →
    0 < served.session → (watched : Watched notes served.session name tells ticks (is_unanswered cut) from old new) → spoken_of taken_are ≡ line ∷ [] → speech.manner.reading beginning line ≡ watches name from →
    old.taken ≡ [] → old.faults ≡ 0 → new.taken ≡ served.taken → new.faults ≡ served.write_faults → Lost served.held served.left taken_are (watching name from) →
    (cut ≡ not_cut → ¬ (deeds new.own ≡ deeds old.own)) → ((more : List Entry) → deeds new.own ≡ deeds old.own ++ more → EndsWatch cut closed served.write_faults more) →
    Added plant (of_session served.session) (IsWatchOf speech notes tells served (record { moments = watched.moments; cut = cut; closed = closed })) ticks watched.moments old.own new.own old.given new.given
watch-agrees plant speech notes tells ticks served taken_are line name from cut closed old new some watched heard asked empty quiet taken faults lost answered ends =
    let added = watch-added plant speech served.session tells ticks some notes (is_unanswered cut) name from old new watched in
    record {
      more = added.more;
      grew = added.grew;
      of_lane = added.of_lane;
      agrees = record {
        name = name;
        from = from;
        taken = taken_are;
        lost = lost;
        line = line;
        lines = heard;
        asked = asked;
        some = λ whole none. answered whole (added.grew ∙ ap (λ more. deeds old.own ++ more) none ∙ append-nil (deeds old.own));
        ends = ends added.more added.grew;
        noticed = moved old.taken [] new.taken served.taken old.faults 0 new.faults served.write_faults empty taken quiet faults added.more watched.moments added.agrees;
      };
      gave = added.gave;
      timed = added.timed;
    }
  where
    moved : (a a' b b' : List ℕ) (f f' g g' : ℕ) → a ≡ a' → b ≡ b' → f ≡ f' → g ≡ g' → (entries : List Entry) (moments : List ℕ) →
        Noticed notes served.session name tells (is_unanswered cut) from a b f g entries moments → Noticed notes served.session name tells (is_unanswered cut) from a' b' f' g' entries moments
    moved a a' b b' f f' g g' p q r s entries moments is =
        subst (λ x. Noticed notes served.session name tells (is_unanswered cut) from a' b' f' x entries moments) s
        (subst (λ x. Noticed notes served.session name tells (is_unanswered cut) from a' b' x g entries moments) r
        (subst (λ x. Noticed notes served.session name tells (is_unanswered cut) from a' x f g entries moments) q
        (subst (λ x. Noticed notes served.session name tells (is_unanswered cut) from x b f g entries moments) p is)))

-- the one line that was taken where the first one asks to watch
pub watch-line : (speech : Speech) (heard : List (List ℕ)) (name : List ℕ) (from : ℕ) (failed : Type 0) (talk : List Exchange) (uncalled : List (Command × ℕ)) →
    Leaves speech beginning heard (watching name from) failed talk uncalled → (line : List ℕ) × (heard ≡ line ∷ []) × (speech.manner.reading beginning line ≡ watches name from)
watch-line speech heard name from failed talk uncalled is =
    let unheld = lines-alone speech.manner (after_talk speech.manner beginning talk) is.held is.behind_is.3 in
    let silent = talk-alone speech.manner beginning talk unheld.1 in
    let here : after_lines speech.manner (after_talk speech.manner beginning talk) is.held ≡ beginning =
    ap (after_lines speech.manner (after_talk speech.manner beginning talk)) unheld.0 ∙ ap (after_talk speech.manner beginning) silent.0 in (
      is.behind_is.0,
      is.lines ∙ ap (λ front. map line_in front ++ (is.held ++ is.behind)) silent.0 ∙ ap (λ front. front ++ is.behind) unheld.0 ∙ is.behind_is.1,
      ap (λ t. speech.manner.reading t is.behind_is.0) (sym here) ∙ is.behind_is.2,
    )

-- a talk whose first line asks to watch adds nothing, and says nothing
pub talk-silent : (speech : Speech) (session : ℕ) (tells ticks : Type 0) (heard : List (List ℕ)) (name : List ℕ) (from : ℕ) (broken : Bool) (old new : Standing) →
    (talked : Talked speech session tells ticks heard (watching name from) broken old new) → (deeds new.own ≡ deeds old.own) × (tells → new.taken ≡ old.taken) × (talked.moments ≡ [])
talk-silent speech session tells ticks heard name from broken old new talked =
    let is = talked.exchanged in
    let unheld = lines-alone speech.manner (after_talk speech.manner beginning is.talk) is.leaves.held is.leaves.behind_is.3 in
    let silent : is.talk ≡ [] = (talk-alone speech.manner beginning is.talk unheld.1).0 in
    let alone : is.parting ≡ None = is.unattached (ap attached_in silent) in
    let nothing : talked.more ≡ [] = is.all_entries ∙ ap (λ talk. deeds_in session talk ++ parting_of session (last_or 0 talked.moments) is.parting) silent ∙ ap (parting_of session (last_or 0 talked.moments)) alone in
    let unasked : talked.moments ≡ [] = is.all_moments ∙ ap (λ talk. moments_with talk is.uncalled) silent ∙ ap (λ calls. moments_with [] calls) is.leaves.kept in (
      talked.grew ∙ ap (λ more. deeds old.own ++ more) nothing ∙ append-nil (deeds old.own),
      λ told. same-taken old.taken new.taken old.faults new.faults (subst (Told old.taken new.taken old.faults new.faults) (ap (λ talk. text_in speech talk ++ []) silent) (is.told told)),
      unasked,
    )
  where
    no-front : (front back : List ℕ) → [] ≡ front ++ back → front ≡ []
    no-front [] back empty = refl
    no-front (x ∷ front) back empty = absurd cc

    same-taken : (a b : List ℕ) (f g : ℕ) → Told a b f g [] → b ≡ a
    same-taken a b f g told = told.front.3 ∙ ap (λ front. a ++ front) (no-front told.front.0 told.front.1 told.front.2) ∙ append-nil a

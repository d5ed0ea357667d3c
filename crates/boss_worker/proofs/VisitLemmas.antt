-- What a connection added, by how it was served, or watched.
use Rattle.std.proofs.Common.{◌≡◌, ◌⊎◌, inl, inr, ℕ, ◌<◌, lit<, Bool, true, false, List, [], ◌++◌, length, Option, Some, refl, ap, sym, ◌∙◌, subst, arith}
use Rattle.std.proofs.lemmas.List.{append_cancel_left, append-nil}
use Rattle.boss_model.specs.declared.answer.Answer.{Answer}
use Rattle.boss_model.specs.Catalogue.{actuators, Catalogue}
use Rattle.def_history.specs.declared.entry.Entry.{Entry}
use Rattle.def_history.specs.History.{deeds}
use Rattle.def_lanes.specs.Lanes.{of_session}
use Rattle.def_lanes.specs.Parts.{Added, AreTimed}
use Rattle.def_lanes.specs.Works.{not_cut, by_disk, by_clock, by_memory}
use Rattle.def_lanes.proofs.Adding.{added-nothing, added-says, added-then}
use Rattle.boss_outside.specs.declared.source.ReadAt.{ReadAt}
use Rattle.boss_outside.specs.Notes.{AllRead, IsUnread}
use Rattle.boss_outside.proofs.Noting.{notes-all}
use Rattle.boss_outside_server.specs.Hosts.{Served}
use Rattle.boss_outside_server.specs.Pauses.{watch_idle}
use Rattle.def_connection.specs.Answered.{IsAnswered}
use Rattle.def_connection.specs.Speech.{Speech, Exchange}
use Rattle.def_connection.specs.Losing.{spoken_of, Lost}
use Rattle.def_connection.specs.Stopping.{Stop, watching}
use Rattle.def_connection.specs.Talks.{Told, standing, Exchanged, Talked, IsEnded, IsTalkOf}
use Rattle.def_connection.specs.Watching.{notes_in, is_unanswered, quiet_in, EndsWatch, IsAwake, Watched, Noticed, IsWatchOf}
use Rattle.def_connection.proofs.OfSession.{talk-says, talk-silent, watch-added, watch-line}
use Rattle.boss_shared.specs.Gates.{Gate}
use Rattle.boss_sessions.specs.Speaking.{speech_of}
use Rattle.boss_sessions.specs.declared.end.SessionEnd.{SessionEnd}
use Rattle.boss_sessions.specs.declared.end.SessionEnd.TheVariants as session
use Rattle.boss_sessions.specs.Connected.{Connected}
use Rattle.boss_sessions.specs.Ends.{cut_of, is_stop_end, is_watch, ReadCause, WriteCause}
use Rattle.boss_sessions.proofs.EndedLemmas.{has-ended, watch-stop}
use Rattle.boss_watching.specs.declared.end.WatchEnd.{WatchEnd}
use Rattle.boss_watching.specs.declared.end.WatchEnd.TheVariants as watch
use Rattle.boss_watching.specs.Ends.{is_closed_end, is_unanswered_end, HasCalled, IdleCause, Lasted, WriteCause as WroteOf}
use Rattle.boss_watching.specs.Notes.{notes}
use Rattle.boss_keys.specs.declared.entry.Entry.{Entry as KeyEntry}
use Rattle.boss_worker.specs.declared.trouble.Trouble.{Trouble}
use Rattle.boss_worker.specs.Saying.{IsVisit}
use Rattle.boss_worker.specs.Troubles.{trouble_of, trouble_of_watch, course_by, cut_by}

cut-trouble : (end : SessionEnd) → cut_by (trouble_of end) ≡ cut_of end
cut-trouble session.End = refl
cut-trouble (session.Watch name from) = refl
cut-trouble session.ReadFault = refl
cut-trouble session.WriteFault = refl
cut-trouble session.ClockFault = refl
cut-trouble session.TooLong = refl
cut-trouble session.WrongKey = refl
cut-trouble session.Limit = refl
cut-trouble session.Stopped = refl
cut-trouble session.DiskFault = refl
cut-trouble session.NoMemory = refl

-- what cut a watched connection off is why its last call had no answer
unanswered-trouble : (end : WatchEnd) → is_unanswered_end end ≡ is_unanswered (cut_by (trouble_of_watch end))
unanswered-trouble watch.Idle = refl
unanswered-trouble watch.Closed = refl
unanswered-trouble watch.WriteFault = refl
unanswered-trouble watch.ClockFault = refl
unanswered-trouble watch.Stopped = refl
unanswered-trouble watch.DiskFault = refl
unanswered-trouble watch.NoMemory = refl

-- what was said is said from the beginning of a connection on, with what holds of it
exchanged-fresh : (speech : Speech) (session : ℕ) (tells : Type 0) (heard : List (List ℕ)) (stop : Stop) (broken : Bool) (before taken : List ℕ) (count faults : ℕ) (entries : List Entry) (moments : List ℕ) →
    before ≡ [] → count ≡ 0 → (P : List Exchange → Type 0) → (is : Exchanged speech session tells heard stop broken before taken count faults entries moments) → P is.talk →
    (said : Exchanged speech session tells heard stop broken [] taken 0 faults entries moments) × P said.talk
exchanged-fresh speech session tells heard stop broken before taken count faults entries moments empty quiet P is holds =
    subst (λ n. (said : Exchanged speech session tells heard stop broken [] taken n faults entries moments) × P said.talk) quiet
    (subst (λ bytes. (said : Exchanged speech session tells heard stop broken bytes taken count faults entries moments) × P said.talk) empty (is, holds))

noticed-fresh : (notes_of : Answer → List ℕ) (session : ℕ) (name : List ℕ) (tells : Type 0) (unanswered : Bool) (from : ℕ) (before taken : List ℕ) (count faults : ℕ) (entries : List Entry) (moments : List ℕ) →
    (tells → before ≡ []) → count ≡ 0 → Noticed notes_of session name tells unanswered from before taken count faults entries moments → Noticed notes_of session name tells unanswered from [] taken 0 faults entries moments
noticed-fresh notes_of session name tells unanswered from before taken count faults entries moments empty quiet is = record {
  turns = is.turns;
  unused = is.unused;
  few = is.few;
  used = is.used;
  all_entries = is.all_entries;
  all_moments = is.all_moments;
  told = λ told. subst (λ n. Told [] taken n faults (notes_in notes_of is.turns)) quiet (subst (λ bytes. Told bytes taken count faults (notes_in notes_of is.turns)) (empty told) (is.told told));
}

-- unless the connection was cut off a call was answered, and so there is an entry
called-longer : (idle : ℕ) (old new : List Entry) (end : WatchEnd) → 0 < idle → HasCalled idle old new end → cut_by (trouble_of_watch end) ≡ not_cut → length (deeds old) < length (deeds new)
called-longer idle old new watch.Idle some called whole = called some
called-longer idle old new watch.Closed some called whole = called
called-longer idle old new watch.WriteFault some called whole = called
called-longer idle old new watch.ClockFault some called whole = absurd (let no : by_clock ≡ not_cut = whole in cc)
called-longer idle old new watch.Stopped some called whole = absurd (let no : by_disk ≡ not_cut = whole in cc)
called-longer idle old new watch.DiskFault some called whole = absurd (let no : by_disk ≡ not_cut = whole in cc)
called-longer idle old new watch.NoMemory some called whole = absurd (let no : by_memory ≡ not_cut = whole in cc)

-- why a watch ended that took these turns
watch-ends : (mid own' more : List Entry) (pausing : Type 0) (pauses pauses' before faults : ℕ) (end : WatchEnd) → before ≡ 0 → deeds own' ≡ deeds mid ++ more →
    Lasted watch_idle mid own' pausing pauses pauses' end → WroteOf before faults end → EndsWatch (cut_by (trouble_of_watch end)) (is_closed_end end) faults more
watch-ends mid own' more pausing pauses pauses' before faults end none grew lasted wrote = record {
  awake = subst (IsAwake watch_idle 0) same lasted.lasts.awake;
  why = by end lasted.is_idle wrote;
}
  where
    same : lasted.lasts.more ≡ more
    same = append_cancel_left (deeds mid) lasted.lasts.more more (sym lasted.lasts.grew ∙ grew)

    by : (end : WatchEnd) → IdleCause watch_idle lasted.quiet end → WroteOf before faults end → cut_by (trouble_of_watch end) ≡ not_cut →
        (quiet_in 0 more ≡ watch_idle) ⊎ (0 < faults) ⊎ (is_closed_end end ≡ true)
    by watch.Idle idle wrote uncut = inl (ap (quiet_in 0) (sym same) ∙ sym lasted.lasts.counted ∙ idle)
    by watch.Closed idle wrote uncut = inr (inr refl)
    by watch.WriteFault idle wrote uncut = inr (inl (omega (arith, wrote, none)))
    by watch.ClockFault idle wrote uncut = absurd (let no : by_clock ≡ not_cut = uncut in cc)
    by watch.Stopped idle wrote uncut = absurd (let no : by_disk ≡ not_cut = uncut in cc)
    by watch.DiskFault idle wrote uncut = absurd (let no : by_disk ≡ not_cut = uncut in cc)
    by watch.NoMemory idle wrote uncut = absurd (let no : by_memory ≡ not_cut = uncut in cc)

longer-some : (old new more : List Entry) → new ≡ old ++ more → length old < length new → ¬ (more ≡ [])
longer-some old new more grew longer none = let same : length new ≡ length old = ap length (grew ∙ ap (λ rest. old ++ rest) none ∙ append-nil old) in omega (arith, same)

module _ (catalogue : Catalogue) (gates : List Gate) (keys : Option (List KeyEntry)) (heeds tells ticks : Type 0) (served : Served) (some : 0 < served.session) (bytes : List ℕ) (held : heeds → served.held ≡ bytes)
    (own own' : List Entry) (before : List ℕ) (count : ℕ) (empty : before ≡ []) (quiet : count ≡ 0) (given given' : List ℕ) where
  -- a connection that was served up to its end
  pub talk-visit : (begun : Option (List ReadAt)) (reads : ℕ) (end : SessionEnd) → IsUnread begun →
      (connected : Connected (speech_of catalogue gates keys) served.session heeds tells ticks bytes served.left begun served.reads
      (standing own before count given false 0) (standing own' served.taken served.write_faults given' false 0) end) →
      reads ≡ 0 → ReadCause reads served.read_faults (Some end) → WriteCause count served.write_faults (Some end) → is_watch end ≡ false →
      Added (actuators catalogue) (of_session served.session) (λ entries. heeds → IsVisit catalogue gates keys tells served (course_by connected.talked.moments (trouble_of end) false) entries) ticks connected.talked.moments own own' given given'
  talk-visit begun reads end unheard connected unread read write watched =
      talk-says (actuators catalogue) (speech_of catalogue gates keys) served.session tells ticks some (spoken_of connected.taken) connected.stop (is_stop_end end)
      (standing own before count given false 0) (standing own' served.taken served.write_faults given' false 0) connected.talked
      (λ entries. heeds → IsVisit catalogue gates keys tells served (course_by connected.talked.moments (trouble_of end) false) entries) (λ told. inl (talk-of told))
    where
      answered : heeds → tells → AllRead (IsAnswered (speech_of catalogue gates keys) served.held 0 connected.talked.exchanged.talk) served.reads
      answered told now =
          subst (λ b. AllRead (IsAnswered (speech_of catalogue gates keys) b 0 connected.talked.exchanged.talk) served.reads) (sym (held told))
          (subst (λ n. AllRead (IsAnswered (speech_of catalogue gates keys) bytes n connected.talked.exchanged.talk) served.reads) (ap length empty)
          (notes-all (IsAnswered (speech_of catalogue gates keys) bytes (length before) connected.talked.exchanged.talk) begun served.reads unheard (connected.answered told now)))

      talk-of : heeds → IsTalkOf (speech_of catalogue gates keys) tells served (course_by connected.talked.moments (trouble_of end) false) connected.talked.more
      talk-of told =
          let lost : Lost served.held served.left connected.taken connected.stop =
          subst (λ b. Lost b served.left connected.taken connected.stop) (sym (held told)) (connected.lost told) in
          let said = exchanged-fresh (speech_of catalogue gates keys) served.session tells (spoken_of connected.taken) connected.stop (is_stop_end end) before served.taken count served.write_faults
          connected.talked.more connected.talked.moments empty quiet (λ talk. tells → AllRead (IsAnswered (speech_of catalogue gates keys) served.held 0 talk) served.reads)
          connected.talked.exchanged (answered told) in
          record {
            taken = connected.taken;
            stop = connected.stop;
            broken = is_stop_end end;
            ended = subst (λ cut. IsEnded served connected.taken connected.stop (is_stop_end end) cut) (sym (cut-trouble end))
                (has-ended served connected.taken connected.stop end lost connected.end_is
                (subst (λ n. ReadCause n served.read_faults (Some end)) unread read)
                (subst (λ n. WriteCause n served.write_faults (Some end)) quiet write) watched);
            exchanged = said.0;
            answered = said.1;
          }

  -- the talk stopped since its first line asked to watch
  talked-watch : (begun reads : Option (List ReadAt)) (mid : List Entry) (between : List ℕ) (counted : ℕ) (gave : List ℕ) (name : List ℕ) (from : ℕ) →
      (connected : Connected (speech_of catalogue gates keys) served.session heeds tells ticks bytes served.left begun reads (standing own before count given false 0) (standing mid between counted gave false 0) (session.Watch name from)) →
      (talked : Talked (speech_of catalogue gates keys) served.session tells ticks (spoken_of connected.taken) (watching name from) false (standing own before count given false 0) (standing mid between counted gave false 0))
      × (talked.moments ≡ connected.talked.moments)
  talked-watch begun reads mid between counted gave name from connected =
      subst (λ stop. (talked : Talked (speech_of catalogue gates keys) served.session tells ticks (spoken_of connected.taken) stop false (standing own before count given false 0) (standing mid between counted gave false 0))
      × (talked.moments ≡ connected.talked.moments)) (watch-stop name from connected.stop (connected.end_is refl)) (connected.talked, refl)

  -- a connection whose first line asked to watch, and which then did
  pub watch-visit : (begun reads : Option (List ReadAt)) (mid : List Entry) (between : List ℕ) (counted : ℕ) (gave : List ℕ) (name : List ℕ) (from : ℕ) (end : WatchEnd) (pausing : Type 0) (pauses pauses' : ℕ) →
      (connected : Connected (speech_of catalogue gates keys) served.session heeds tells ticks bytes served.left begun reads (standing own before count given false 0) (standing mid between counted gave false 0) (session.Watch name from)) →
      counted ≡ count → (watched : Watched (notes catalogue) served.session name tells ticks (is_unanswered_end end) from (standing mid between counted gave false 0) (standing own' served.taken served.write_faults given' false 0)) →
      HasCalled watch_idle mid own' end → Lasted watch_idle mid own' pausing pauses pauses' end → WroteOf counted served.write_faults end →
      Added (actuators catalogue) (of_session served.session) (λ entries. heeds → IsVisit catalogue gates keys tells served (course_by watched.moments (trouble_of_watch end) (is_closed_end end)) entries) ticks watched.moments own own' given given'
  watch-visit begun reads mid between counted gave name from end pausing pauses pauses' connected calm watched called lasted wrote =
      let silent = talk-silent (speech_of catalogue gates keys) served.session tells ticks (spoken_of connected.taken) name from false (standing own before count given false 0)
      (standing mid between counted gave false 0) (talked-watch begun reads mid between counted gave name from connected).0 in
      subst (λ moments. Added (actuators catalogue) (of_session served.session) (λ entries. heeds → IsVisit catalogue gates keys tells served (course_by watched.moments (trouble_of_watch end) (is_closed_end end)) entries) ticks moments own own' given given')
      (ap (λ none. none ++ watched.moments) (sym (talked-watch begun reads mid between counted gave name from connected).1 ∙ silent.2))
      (added-then (actuators catalogue) (of_session served.session) ticks connected.talked.moments watched.moments (λ entries. entries ≡ [])
      (λ more. (deeds own' ≡ deeds mid ++ more) × Noticed (notes catalogue) served.session name tells (is_unanswered_end end) from between served.taken counted served.write_faults more watched.moments)
      (λ entries. heeds → IsVisit catalogue gates keys tells served (course_by watched.moments (trouble_of_watch end) (is_closed_end end)) entries)
      (λ none more nothing said told. inr (watch-of silent.1 (none ++ more) more (ap (λ front. front ++ more) nothing) said.0 said.1 told))
      own mid own' given gave given'
      (added-nothing (actuators catalogue) (of_session served.session) ticks (λ entries. entries ≡ []) own mid given gave connected.talked.moments silent.0 refl connected.talked.gave)
      (grown (watch-added (actuators catalogue) (speech_of catalogue gates keys) served.session tells ticks some (notes catalogue) (is_unanswered_end end) name from (standing mid between counted gave false 0)
      (standing own' served.taken served.write_faults given' false 0) watched)))
    where
      watch-of : (tells → between ≡ before) → (all more : List Entry) → all ≡ more → deeds own' ≡ deeds mid ++ more →
          Noticed (notes catalogue) served.session name tells (is_unanswered_end end) from between served.taken counted served.write_faults more watched.moments → heeds →
          IsWatchOf (speech_of catalogue gates keys) (notes catalogue) tells served (course_by watched.moments (trouble_of_watch end) (is_closed_end end)) all
      watch-of same all more is grew noticed told =
          let is_watching = watch-stop name from connected.stop (connected.end_is refl) in
          let lost : Lost served.held served.left connected.taken (watching name from) =
          subst (λ stop. Lost served.held served.left connected.taken stop) is_watching (subst (λ b. Lost b served.left connected.taken connected.stop) (sym (held told)) (connected.lost told)) in
          let first = watch-line (speech_of catalogue gates keys) (spoken_of connected.taken) name from _ _ _ (talked-watch begun reads mid between counted gave name from connected).0.exchanged.leaves in
          record {
            name = name;
            from = from;
            taken = connected.taken;
            lost = lost;
            line = first.0;
            lines = first.1;
            asked = first.2;
            some = λ whole none. longer-some (deeds mid) (deeds own') more grew (called-longer watch_idle mid own' end (lit< tt) called whole) (sym is ∙ none);
            ends = watch-ends mid own' all pausing pauses pauses' counted served.write_faults end (calm ∙ quiet) (grew ∙ ap (λ back. deeds mid ++ back) (sym is)) lasted wrote;
            noticed = subst (λ entries. Noticed (notes catalogue) served.session name tells (is_unanswered (cut_by (trouble_of_watch end))) from [] served.taken 0 served.write_faults entries watched.moments) (sym is)
                (subst (λ un. Noticed (notes catalogue) served.session name tells un from [] served.taken 0 served.write_faults more watched.moments) (unanswered-trouble end)
                (noticed-fresh (notes catalogue) served.session name tells (is_unanswered_end end) from between served.taken counted served.write_faults more watched.moments (λ t. same t ∙ empty) (calm ∙ quiet) noticed));
          }

      grown : Added (actuators catalogue) (of_session served.session)
          (λ more. Noticed (notes catalogue) served.session name tells (is_unanswered_end end) from between served.taken counted served.write_faults more watched.moments) ticks watched.moments mid own' gave given' →
          Added (actuators catalogue) (of_session served.session)
          (λ more. (deeds own' ≡ deeds mid ++ more) × Noticed (notes catalogue) served.session name tells (is_unanswered_end end) from between served.taken counted served.write_faults more watched.moments) ticks watched.moments mid own' gave given'
      grown added = record {
        more = added.more;
        grew = added.grew;
        of_lane = added.of_lane;
        agrees = (added.grew, added.agrees);
        gave = added.gave;
        timed = added.timed;
      }

-- what a connection added was called at moments that the clock gave for it
pub visit-timed : (catalogue : Catalogue) (gates : List Gate) (keys : Option (List KeyEntry)) (heeds tells ticks : Type 0) (served : Served) (trouble : Trouble) (closed : Bool) (moments : List ℕ) (own own' : List Entry) (given given' : List ℕ) →
    Added (actuators catalogue) (of_session served.session) (λ entries. heeds → IsVisit catalogue gates keys tells served (course_by moments trouble closed) entries) ticks moments own own' given given' →
    Added (actuators catalogue) (of_session served.session) (λ entries. AreTimed moments entries × (heeds → IsVisit catalogue gates keys tells served (course_by moments trouble closed) entries)) ticks moments own own' given given'
visit-timed catalogue gates keys heeds tells ticks served trouble closed moments own own' given given' added =
    added-says (actuators catalogue) (of_session served.session) ticks moments (λ entries. heeds → IsVisit catalogue gates keys tells served (course_by moments trouble closed) entries)
    (λ entries. AreTimed moments entries × (heeds → IsVisit catalogue gates keys tells served (course_by moments trouble closed) entries)) (λ more timed said. (timed, said)) own own' given given' added

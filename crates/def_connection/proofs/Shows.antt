-- Whoever speaks has shown a key, where lines are read by keys.
use Rattle.std.proofs.Common.{◌≡◌, ℕ, Bool, List, [], ◌∷◌, map, Option, Some, None, refl, ap, sym, ◌∙◌, subst}
use Rattle.boss_model.specs.declared.answer.Answer.{Answer}
use Rattle.boss_model.specs.declared.answer.Refusal.{Refusal}
use Rattle.boss_model.specs.declared.command.Command.{Command}
use Rattle.boss_model.specs.declared.command.Command.TheVariants as command
use Rattle.boss_outside_server.specs.Hosts.{Served}
use Rattle.def_history.specs.declared.entry.Entry.{Entry}
use Rattle.def_lanes.specs.Works.{Course}
use Rattle.def_lanes.proofs.Lists.{each-append}
use Rattle.def_connection.specs.Showing.{IsBarred, IsOwn, AsksOwn, IsGuarded, IsShown, AreShown, IsOwnEntry, AreOwn, ShowsKey, IsKeyed}
use Rattle.def_connection.specs.Speech.{Reading, asks, refuses, Footing, beginning, Manner, Reply, of_answer, of_memory, of_stop, of_denial, Speech, Exchange, unread, refused, called, line_in, known_by, after, after_exchange, after_talk, AreRead, entry_of, deeds_in, parting_of, last_or}
use Rattle.def_connection.specs.Stopping.{Stop}
use Rattle.def_connection.specs.Talks.{Exchanged}
use Rattle.def_connection.specs.Watching.{IsWatchOf}

-- ---- what is known

-- a name that is known stays
exchange-known : (manner : Manner) (at : Footing) (x : Exchange) (name : List ℕ) → at.known ≡ Some name → (after_exchange manner at x).known ≡ Some name
exchange-known manner at (unread line) name is = is
exchange-known manner at (refused line why) name is = ap (λ known. known_by known (manner.shows line)) is
exchange-known manner at (called line asked moment reply) name is = ap (λ known. known_by known (manner.shows line)) is

talk-known : (manner : Manner) (at : Footing) (talk : List Exchange) (name : List ℕ) → at.known ≡ Some name → (after_talk manner at talk).known ≡ Some name
talk-known manner at [] name is = is
talk-known manner at (x ∷ talk) name is = talk-known manner (after_exchange manner at x) talk name (exchange-known manner at x name is)

-- a name that was not known before a line is shown by it
known-shown : (known shown : Option (List ℕ)) (name : List ℕ) → known ≡ None → known_by known shown ≡ Some name → shown ≡ Some name
known-shown None shown name none is = is
known-shown (Some other) shown name none is = absurd cc

-- what is known or not behind an exchange, where nothing was known before
module _ (manner : Manner) where
  shows-here : (at : Footing) (x : Exchange) (talk : List Exchange) (name : List ℕ) → at.known ≡ None → (after_exchange manner at x).known ≡ Some name → ShowsKey manner name (map line_in (x ∷ talk))
  shows-here at (unread line) talk name none is = absurd (let no : None ≡ Some name = sym none ∙ is in cc)
  shows-here at (refused line why) talk name none is = record { front = []; line = line; back = map line_in talk; lines_are = refl; shown = known-shown at.known (manner.shows line) name none is }
  shows-here at (called line asked moment reply) talk name none is = record { front = []; line = line; back = map line_in talk; lines_are = refl; shown = known-shown at.known (manner.shows line) name none is }

  shows-behind : (x : Exchange) (talk : List Exchange) (name : List ℕ) → ShowsKey manner name (map line_in talk) → ShowsKey manner name (map line_in (x ∷ talk))
  shows-behind x talk name one = record { front = line_in x ∷ one.front; line = one.line; back = one.back; lines_are = ap (λ rest. line_in x ∷ rest) one.lines_are; shown = one.shown }

  pub key-shown : (at : Footing) (talk : List Exchange) (name : List ℕ) → at.known ≡ None → (after_talk manner at talk).known ≡ Some name → ShowsKey manner name (map line_in talk)
  key-shown at [] name none is = absurd (let no : None ≡ Some name = sym none ∙ is in cc)
  key-shown at (x ∷ talk) name none is = by (after_exchange manner at x).known refl (λ still. key-shown (after_exchange manner at x) talk name still is)
    where
      by : (known : Option (List ℕ)) → (after_exchange manner at x).known ≡ known → ((after_exchange manner at x).known ≡ None → ShowsKey manner name (map line_in talk)) →
          ShowsKey manner name (map line_in (x ∷ talk))
      by None still behind = shows-behind x talk name (behind still)
      by (Some other) now behind =
          let same : Some other ≡ Some name = sym (talk-known manner (after_exchange manner at x) talk other now) ∙ is in
          shows-here at x talk name none (now ∙ same)

-- ---- what is read

-- a line is read so by a name that is known behind it, or none
barred-shown : (reading : Reading) (line : List ℕ) (why : Refusal) (known : Option (List ℕ)) → reading ≡ refuses why → (known ≡ None → IsBarred reading) → IsShown known (refused line why)
barred-shown reading line why (Some name) is barred = tt
barred-shown reading line why None is barred = subst IsBarred is (barred refl)

barred-called : (reading : Reading) (line : List ℕ) (asked : Command) (moment : ℕ) (reply : Reply) (known : Option (List ℕ)) → reading ≡ asks asked → (known ≡ None → IsBarred reading) →
    IsShown known (called line asked moment reply)
barred-called reading line asked moment reply (Some name) is barred = tt
barred-called reading line asked moment reply None is barred = subst IsBarred is (barred refl)

own-then : (known known' : Option (List ℕ)) (asked : Command) → ((name : List ℕ) → known ≡ Some name → known' ≡ Some name) → IsOwn known asked → IsOwn known' asked
own-then known known' (command.Attach name) stays own = stays name own
own-then known known' (command.Submit writes policy seq) stays own = tt
own-then known known' (command.Renew txn length points seq) stays own = tt
own-then known known' (command.Cancel txn seq) stays own = tt
own-then known known' command.Gone stays own = tt
own-then known known' command.Tick stays own = tt
own-then known known' (command.Next driver) stays own = tt
own-then known known' (command.Report point version ok) stays own = tt
own-then known known' (command.Doubt point differs) stays own = tt
own-then known known' (command.Read point) stays own = tt
own-then known known' (command.Array point) stays own = tt
own-then known known' (command.Status txn) stays own = tt
own-then known known' (command.Notices other from most) stays own = tt
own-then known known' (command.Points from most) stays own = tt
own-then known known' command.Version stays own = tt

own-entry : (known : Option (List ℕ)) (session : ℕ) (asked : Command) (moment : ℕ) (reply : Reply) → IsOwn known asked → AreOwn known (entry_of session asked moment reply)
own-entry known session asked moment (of_answer given) own = (own, tt)
own-entry known session asked moment of_memory own = tt
own-entry known session asked moment of_stop own = tt
own-entry known session asked moment (of_denial index rule) own = tt

own-parting : (known : Option (List ℕ)) (session moment : ℕ) (parting : Option Answer) → AreOwn known (parting_of session moment parting)
own-parting known session moment None = tt
own-parting known session moment (Some given) = (tt, tt)

module _ (manner : Manner) (guarded : IsGuarded manner) where
  talk-shown : (at : Footing) (talk : List Exchange) → AreRead manner at talk → AreShown manner at talk
  talk-shown at [] read = tt
  talk-shown at (unread line ∷ talk) read = (tt, talk-shown (after_exchange manner at (unread line)) talk read.1)
  talk-shown at (refused line why ∷ talk) read =
      (barred-shown (manner.reading at line) line why (after manner at line).known read.0 (guarded.barred at line), talk-shown (after manner at line) talk read.1)
  talk-shown at (called line asked moment reply ∷ talk) read =
      (barred-called (manner.reading at line) line asked moment reply (after manner at line).known read.0 (guarded.barred at line), talk-shown (after manner at line) talk read.1)

  talk-own : (session : ℕ) (at : Footing) (talk : List Exchange) → AreRead manner at talk → AreOwn (after_talk manner at talk).known (deeds_in session talk)
  talk-own session at [] read = tt
  talk-own session at (unread line ∷ talk) read = talk-own session (after_exchange manner at (unread line)) talk read.1
  talk-own session at (refused line why ∷ talk) read = talk-own session (after manner at line) talk read.1
  talk-own session at (called line asked moment reply ∷ talk) read =
      let known = (after_talk manner (after manner at line) talk).known in
      let own : IsOwn (after manner at line).known asked = subst (AsksOwn (after manner at line).known) read.0 (guarded.own at line) in
      each-append (IsOwnEntry known) (entry_of session asked moment reply) (deeds_in session talk)
      (own-entry known session asked moment reply (own-then (after manner at line).known known asked (λ name. talk-known manner (after manner at line) talk name) own))
      (talk-own session (after manner at line) talk read.1)

pub exchanged-keyed : (speech : Speech) (session : ℕ) (tells : Type 0) (heard : List (List ℕ)) (stop : Stop) (broken : Bool) (old new : List ℕ) (before now : ℕ) (entries : List Entry) (moments : List ℕ) →
    IsGuarded speech.manner → (is : Exchanged speech session tells heard stop broken old new before now entries moments) → IsKeyed speech.manner is.talk entries
exchanged-keyed speech session tells heard stop broken old new before now entries moments guarded is =
    let known = (after_talk speech.manner beginning is.talk).known in
    record {
      shown = talk-shown speech.manner guarded beginning is.talk is.leaves.reads;
      own = subst (AreOwn known) (sym is.all_entries)
          (each-append (IsOwnEntry known) (deeds_in session is.talk) (parting_of session (last_or 0 moments) is.parting) (talk-own speech.manner guarded session beginning is.talk is.leaves.reads)
          (own-parting known session (last_or 0 moments) is.parting));
      key = λ name shown. key-shown speech.manner beginning is.talk name refl shown;
    }

-- ---- whoever watches

pub watch-keyed : (speech : Speech) (notes : Answer → List ℕ) (tells : Type 0) (served : Served) (course : Course) (entries : List Entry) → IsGuarded speech.manner →
    (is : IsWatchOf speech notes tells served course entries) → (name : List ℕ) × (speech.manner.shows is.line ≡ Some name)
watch-keyed speech notes tells served course entries guarded is = by (speech.manner.shows is.line) refl
  where
    by : (shown : Option (List ℕ)) → speech.manner.shows is.line ≡ shown → (name : List ℕ) × (speech.manner.shows is.line ≡ Some name)
    by (Some name) shows = (name, shows)
    by None shows = absurd (subst IsBarred is.asked (guarded.barred beginning is.line shows))

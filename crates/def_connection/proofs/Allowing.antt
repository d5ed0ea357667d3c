-- What is done was allowed: no gate denied it.
use Rattle.std.proofs.Common.{◌≡◌, ℕ, Bool, true, false, if◌then◌else◌, List, [], ◌∷◌, ◌++◌, Option, Some, None, refl, sym, subst}
use Rattle.std.specs.List.{AllByRecursion}
use Rattle.boss_model.specs.declared.answer.Answer.{Answer}
use Rattle.boss_model.specs.declared.command.Command.{Command}
use Rattle.boss_model.specs.declared.command.Command.TheVariants as command
use Rattle.def_history.specs.declared.entry.Entry.{Entry}
use Rattle.def_connection.specs.Judging.{denied_for, denied_name, or_denied, name_by, AreJudged, IsAllowed, AreAllowed}
use Rattle.def_connection.specs.Speech.{of_answer, of_memory, of_stop, of_denial, Gate, admits, denied_writes, Speech, Exchange, unread, refused, called, deeds_in, parting_of, last_or}
use Rattle.def_connection.specs.Stopping.{Stop}
use Rattle.def_connection.specs.Talks.{Exchanged}

or-none : (first second : Option (ℕ × ℕ)) → or_denied first second ≡ None → (first ≡ None) × (second ≡ None)
or-none None second is = (refl, is)
or-none (Some denial) second is = absurd cc

-- a test that denies nothing is passed
is-admitted : (test : Bool) (denial : ℕ × ℕ) → (if test then None else Some denial) ≡ None → test ≡ true
is-admitted true denial free = refl
is-admitted false denial free = absurd cc

attach-allowed : (gates : List Gate) (name : Option (List ℕ)) (asked : List ℕ) → denied_for gates name (command.Attach asked) ≡ None →
    AllByRecursion (λ gate. admits gate asked ≡ true) gates
attach-allowed [] name asked is = tt
attach-allowed (gate ∷ gates) name asked is =
    let both = or-none (denied_name gate asked) (denied_for gates name (command.Attach asked)) is in
    (is-admitted (admits gate asked) (0, 0) both.0, attach-allowed gates name asked both.1)

undenied-allowed : (gates : List Gate) (name : Option (List ℕ)) (asked : Command) → denied_for gates name asked ≡ None → IsAllowed gates name asked
undenied-allowed gates name (command.Attach asked) is = attach-allowed gates name asked is
undenied-allowed gates None (command.Submit writes policy seq) is = tt
undenied-allowed gates None (command.Renew txn length points seq) is = tt
undenied-allowed gates None (command.Cancel txn seq) is = tt
undenied-allowed gates None command.Gone is = tt
undenied-allowed gates None command.Tick is = tt
undenied-allowed gates None (command.Next driver) is = tt
undenied-allowed gates None (command.Report point version ok) is = tt
undenied-allowed gates None (command.Doubt point differs) is = tt
undenied-allowed gates None (command.Read point) is = tt
undenied-allowed gates None (command.Array point) is = tt
undenied-allowed gates None (command.Status txn) is = tt
undenied-allowed gates None (command.Notices known from most) is = tt
undenied-allowed gates None (command.Points from most) is = tt
undenied-allowed gates None command.Version is = tt
undenied-allowed gates (Some name) (command.Renew txn length points seq) is = tt
undenied-allowed gates (Some name) (command.Cancel txn seq) is = tt
undenied-allowed gates (Some name) command.Gone is = tt
undenied-allowed gates (Some name) command.Tick is = tt
undenied-allowed gates (Some name) (command.Next driver) is = tt
undenied-allowed gates (Some name) (command.Report point version ok) is = tt
undenied-allowed gates (Some name) (command.Doubt point differs) is = tt
undenied-allowed gates (Some name) (command.Read point) is = tt
undenied-allowed gates (Some name) (command.Array point) is = tt
undenied-allowed gates (Some name) (command.Status txn) is = tt
undenied-allowed gates (Some name) (command.Notices known from most) is = tt
undenied-allowed gates (Some name) (command.Points from most) is = tt
undenied-allowed gates (Some name) command.Version is = tt
undenied-allowed [] (Some name) (command.Submit writes policy seq) is = tt
undenied-allowed (gate ∷ gates) (Some name) (command.Submit writes policy seq) is =
    let both = or-none (denied_writes gate name writes) (denied_for gates (Some name) (command.Submit writes policy seq)) is in
    (both.0, undenied-allowed gates (Some name) (command.Submit writes policy seq) both.1)

gone-allowed : (gates : List Gate) (name : Option (List ℕ)) → IsAllowed gates name command.Gone
gone-allowed gates None = tt
gone-allowed gates (Some name) = tt

parting-allowed : (gates : List Gate) (name : Option (List ℕ)) (session moment : ℕ) (parting : Option Answer) → AreAllowed gates name (parting_of session moment parting)
parting-allowed gates name session moment None = tt
parting-allowed gates name session moment (Some given) = (gone-allowed gates name, tt)

talk-allowed : (gates : List Gate) (name : Option (List ℕ)) (session : ℕ) (talk : List Exchange) (behind : List Entry) → AreJudged gates name talk →
    ((later : Option (List ℕ)) → AreAllowed gates later behind) → AreAllowed gates name (deeds_in session talk ++ behind)
talk-allowed gates name session [] behind judged more = more name
talk-allowed gates name session (unread line ∷ talk) behind judged more = talk-allowed gates name session talk behind judged.1 more
talk-allowed gates name session (refused line why ∷ talk) behind judged more = talk-allowed gates name session talk behind judged.1 more
talk-allowed gates name session (called line asked moment (of_answer given) ∷ talk) behind judged more =
    (undenied-allowed gates name asked (sym judged.0), talk-allowed gates (name_by name asked given) session talk behind judged.1 more)
talk-allowed gates name session (called line asked moment of_memory ∷ talk) behind judged more = talk-allowed gates name session talk behind judged.1 more
talk-allowed gates name session (called line asked moment of_stop ∷ talk) behind judged more = talk-allowed gates name session talk behind judged.1 more
talk-allowed gates name session (called line asked moment (of_denial index rule) ∷ talk) behind judged more = talk-allowed gates name session talk behind judged.1 more

pub exchanged-allowed : (speech : Speech) (session : ℕ) (tells : Type 0) (heard : List (List ℕ)) (stop : Stop) (broken : Bool) (old new : List ℕ) (before now : ℕ) (entries : List Entry) (moments : List ℕ) →
    Exchanged speech session tells heard stop broken old new before now entries moments → AreAllowed speech.denies None entries
exchanged-allowed speech session tells heard stop broken old new before now entries moments is =
    subst (AreAllowed speech.denies None) (sym is.all_entries)
    (talk-allowed speech.denies None session is.talk (parting_of session (last_or 0 moments) is.parting) is.judged
    (λ later. parting-allowed speech.denies later session (last_or 0 moments) is.parting))

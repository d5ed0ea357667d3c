-- What is said on connections serves no device.
use Rattle.std.proofs.Common.{◌≡◌, ◌⊎◌, inl, inr, ℕ, zero, suc, ◌==◌, Bool, true, false, cond, List, [], ◌∷◌, Option, Some, None, refl, ap, sym, ◌∙◌, subst, arith}
use Rattle.std.specs.Prelude.{option_map}
use Rattle.std.specs.List.{AllByRecursion, filter}
use Rattle.std.proofs.lemmas.Bool.{cond_both}
use Rattle.std.proofs.lemmas.Bool.Decides.{nat_tests}
use Rattle.serde_json.specs.Data.{Data}
use Rattle.serde_json.specs.Find.{as_str}
use Rattle.boss_model.specs.declared.answer.Answer.{Answer}
use Rattle.boss_model.specs.declared.command.Command.{Command}
use Rattle.boss_model.specs.declared.command.Command.TheVariants as command
use Rattle.boss_model.specs.declared.command.Policy.TheVariants.{Abort}
use Rattle.boss_model.specs.declared.state.Actuator.{Actuator}
use Rattle.boss_model.specs.declared.spot.Key.TheVariants as key
use Rattle.boss_model.specs.declared.spot.Spot.TheVariants.{Line}
use Rattle.boss_model.specs.Limits.{most_told, last_number}
use Rattle.boss_model.specs.Catalogue.{Catalogue, actuators}
use Rattle.def_wire.specs.declared.form.Form.{Form}
use Rattle.def_wire.specs.declared.form.Op.{Op}
use Rattle.def_wire.specs.declared.form.Op.TheVariants as op
use Rattle.def_wire.specs.declared.request.Ask.{Ask}
use Rattle.def_wire.specs.declared.request.Ask.TheVariants as ask
use Rattle.def_wire.specs.declared.request.Request.{Request}
use Rattle.def_wire.specs.Keys.{whole, number_from, number_within, name, short_list, seq, policy}
use Rattle.def_wire.specs.Requests.{Parsed, asks as asks_that, wrong, ◌>>=◌, formed, needs, may_have, read_in, points_of, point_of, settings_of, ask_of, known_op, op_named, session_of, moment_of, value_in, request_of, parsed}
use Rattle.def_history.specs.declared.entry.Entry.{Entry}
use Rattle.def_history.specs.declared.entry.Entry.TheVariants.{Did, Broke}
use Rattle.def_history.specs.History.{deeds}
use Rattle.def_connection.specs.Speech.{Reading, asks, watches, refuses, forbids, Footing, beginning, after_exchange, Reply, of_answer, of_memory, of_stop, of_denial, Exchange, unread, refused, called, AreRead, entry_of, deeds_in, parting_of}
use Rattle.def_connection.specs.Watching.{watched_in, next_from}
use Rattle.def_lanes.specs.Lanes.{of_session, in_lane, done_in}
use Rattle.def_lanes.specs.Parts.{Agreed}
use Rattle.def_lanes.specs.Works.{Course, Work, visit, beat, drive, lane_of_work, IsAbsent}
use Rattle.def_lanes.proofs.Lists.{each-append}
use Rattle.def_lanes.proofs.Owners.{is_lane-self}
use Rattle.boss_outside_server.specs.Hosts.{Served}
use Rattle.boss_shared.specs.Gates.{Gate}
use Rattle.boss_callers.specs.declared.shown.Shown.{Shown}
use Rattle.boss_callers.specs.declared.shown.Shown.TheVariants.{NoObject, Key, WrongKey}
use Rattle.boss_callers.specs.Shown.{shown_by}
use Rattle.boss_sessions.specs.Speaking.{asked_in, form_of, guarded, is_other, manner_of, owned, reading_in, reading_of, reading_of_ask}
use Rattle.boss_keys.specs.declared.entry.Entry.{Entry as KeyEntry}
use Rattle.boss_worker.specs.Saying.{IsVisit, says}
use Rattle.law_settled.specs.Settled.{serves, IsApart}

-- ---- no line asks for it

Says : {A : Type 0} → (A → Type 0) → Parsed A → Type 0
Says P (asks_that x) = P x
Says P (wrong why) = Unit {0}

then-says : {A B : Type 0} (Q : A → Type 0) (P : B → Type 0) (p : Parsed A) (f : A → Parsed B) → Says Q p → ((x : A) → Q x → Says P (f x)) → Says P (p >>= f)
unfolding Says
then-says Q P (asks_that x) f first each = each x first
then-says Q P (wrong why) f first each = tt

any-says : {A B : Type 0} (P : B → Type 0) (p : Parsed A) (f : A → Parsed B) → ((x : A) → Says P (f x)) → Says P (p >>= f)
unfolding Says
any-says P (asks_that x) f each = each x
any-says P (wrong why) f each = tt

abbrev IsQuiet : Ask → Type 0
IsQuiet (ask.Command c) = serves c ≡ false
IsQuiet (ask.Watch name from) = Unit {0}

ask-quiet : (catalogue : Catalogue) (named : Op) (d : Data) → Says IsQuiet (ask_of catalogue named d)
unfolding Says
ask-quiet catalogue op.Attach d = any-says IsQuiet (needs key.Process name d) _ (λ process. refl)
ask-quiet catalogue op.Submit d = any-says IsQuiet (needs key.Writes short_list d) _ (λ items.
    any-says IsQuiet (may_have key.Policy policy Abort d) _ (λ kind. any-says IsQuiet (may_have key.Seq seq 0 d) _ (λ number.
    any-says IsQuiet (settings_of catalogue items) _ (λ settings. refl))))
ask-quiet catalogue op.Renew d = any-says IsQuiet (needs key.Txn (number_from 0) d) _ (λ txn.
    any-says IsQuiet (needs key.Length whole d) _ (λ long. any-says IsQuiet (may_have key.Points short_list [] d) _ (λ items.
    any-says IsQuiet (may_have key.Seq seq 0 d) _ (λ number. any-says IsQuiet (points_of catalogue items) _ (λ points. refl)))))
ask-quiet catalogue op.Cancel d = any-says IsQuiet (needs key.Txn (number_from 0) d) _ (λ txn. any-says IsQuiet (may_have key.Seq seq 0 d) _ (λ number. refl))
ask-quiet catalogue op.Read d = any-says IsQuiet (point_of catalogue d) _ (λ point. refl)
ask-quiet catalogue op.Array d = any-says IsQuiet (point_of catalogue d) _ (λ point. refl)
ask-quiet catalogue op.Status d = any-says IsQuiet (needs key.Txn (number_from 0) d) _ (λ txn. refl)
ask-quiet catalogue op.Notices d = any-says IsQuiet (may_have key.Process (λ p. option_map Some (name p)) None d) _ (λ process.
    any-says IsQuiet (may_have key.From (number_from 1) 1 d) _ (λ from. any-says IsQuiet (may_have key.Max (number_within 1 most_told) 16 d) _ (λ most. refl)))
ask-quiet catalogue op.Points d = any-says IsQuiet (may_have key.From (number_within 0 last_number) 0 d) _ (λ from.
    any-says IsQuiet (may_have key.Max (number_within 1 most_told) most_told d) _ (λ most. refl))
ask-quiet catalogue op.Version d = refl
ask-quiet catalogue op.Gone d = refl
ask-quiet catalogue op.Tick d = refl
ask-quiet catalogue op.Watch d = any-says IsQuiet (needs key.Process name d) _ (λ process.
    any-says IsQuiet (may_have key.From (number_from 1) 1 d) _ (λ from. tt))

abbrev IsQuietRequest : Request → Type 0
IsQuietRequest request = IsQuiet request.ask

line-quiet : (catalogue : Catalogue) (form : Form) (line : List ℕ) → Says IsQuietRequest (parsed catalogue form line)
unfolding parsed Says
line-quiet catalogue form line = any-says IsQuietRequest (read_in (value_in line)) (request_of catalogue form) (λ d.
    any-says IsQuietRequest (needs key.Op as_str d) _ (λ text. any-says IsQuietRequest (known_op (op_named form text)) _ (λ named.
    any-says IsQuietRequest (formed (Line key.On) (session_of form d)) _ (λ on. any-says IsQuietRequest (formed (Line key.At) (moment_of form d)) _ (λ moment.
    then-says IsQuiet IsQuietRequest (ask_of catalogue named d) _ (ask-quiet catalogue named d) (λ asked quiet. quiet))))))

quiet-ask : (asked : Ask) (c : Command) → IsQuiet asked → reading_of_ask asked ≡ asks c → serves c ≡ false
quiet-ask (ask.Command other) c quiet is = let same : other ≡ c = cc in ap serves (sym same) ∙ quiet
quiet-ask (ask.Watch name from) c quiet is = absurd cc

quiet-reading : (read : Parsed Request) (c : Command) → Says IsQuietRequest read → reading_of read ≡ asks c → serves c ≡ false
unfolding Says
quiet-reading (asks_that request) c quiet is = quiet-ask request.ask c quiet is
quiet-reading (wrong why) c quiet is = absurd cc

-- whatever is known of who speaks, a line asks for what it asks by itself, or for nothing
owned-asks : (name : List ℕ) (reading : Reading) (c : Command) → owned name reading ≡ asks c → reading ≡ asks c
owned-asks name (asks asked) c is = cond_both (is_other name asked) forbids (asks asked) (λ read. read ≡ asks c → asks asked ≡ asks c) (λ _ no. absurd cc) (λ _ same. same) is
owned-asks name (watches process from) c is = is
owned-asks name (refuses why) c is = is
owned-asks name forbids c is = is

guarded-asks : (known : Option (List ℕ)) (shown : Shown) (reading : Reading) (c : Command) → guarded known shown reading ≡ asks c → reading ≡ asks c
guarded-asks (Some name) shown reading c is = owned-asks name reading c is
guarded-asks None NoObject reading c is = is
guarded-asks None (Key name) reading c is = owned-asks name reading c is
guarded-asks None WrongKey reading c is = absurd cc

quiet-line : (catalogue : Catalogue) (later : Bool) (line : List ℕ) (c : Command) → asked_in catalogue later line ≡ asks c → serves c ≡ false
quiet-line catalogue later line c is = quiet-reading (parsed catalogue (form_of later) line) c (line-quiet catalogue (form_of later) line) is

quiet-read : (catalogue : Catalogue) (keys : Option (List KeyEntry)) (at : Footing) (line : List ℕ) (c : Command) → reading_in catalogue keys at line ≡ asks c → serves c ≡ false
quiet-read catalogue None at line c is = quiet-line catalogue at.later line c is
quiet-read catalogue (Some keys) at line c is = quiet-line catalogue at.later line c (guarded-asks at.known (shown_by keys line) (asked_in catalogue at.later line) c is)

-- ---- what is said on a connection

apart-quiet : (session moment : ℕ) (c : Command) (given : Answer) → serves c ≡ false → IsApart (Did session c moment given)
apart-quiet zero moment c given quiet = tt
apart-quiet (suc n) moment c given quiet = quiet

apart-entry : (session moment : ℕ) (c : Command) (reply : Reply) → serves c ≡ false → AllByRecursion IsApart (entry_of session c moment reply)
apart-entry session moment c (of_answer given) quiet = (apart-quiet session moment c given quiet, tt)
apart-entry session moment c of_memory quiet = tt
apart-entry session moment c of_stop quiet = tt
apart-entry session moment c (of_denial index rule) quiet = tt

apart-talk : (catalogue : Catalogue) (keys : Option (List KeyEntry)) (session : ℕ) (at : Footing) (talk : List Exchange) → AreRead (manner_of catalogue keys) at talk →
    AllByRecursion IsApart (deeds_in session talk)
apart-talk catalogue keys session at [] read = tt
apart-talk catalogue keys session at (unread line ∷ talk) read = apart-talk catalogue keys session (after_exchange (manner_of catalogue keys) at (unread line)) talk read.1
apart-talk catalogue keys session at (refused line why ∷ talk) read = apart-talk catalogue keys session (after_exchange (manner_of catalogue keys) at (refused line why)) talk read.1
apart-talk catalogue keys session at (called line c moment reply ∷ talk) read =
    each-append IsApart (entry_of session c moment reply) (deeds_in session talk)
    (apart-entry session moment c reply (quiet-read catalogue keys at line c read.0))
    (apart-talk catalogue keys session (after_exchange (manner_of catalogue keys) at (called line c moment reply)) talk read.1)

apart-parting : (session moment : ℕ) (parting : Option Answer) → AllByRecursion IsApart (parting_of session moment parting)
apart-parting session moment None = tt
apart-parting session moment (Some given) = (apart-quiet session moment command.Gone given refl, tt)

apart-watched : (session : ℕ) (name : List ℕ) (from : ℕ) (turns : List (ℕ × Answer)) → AllByRecursion IsApart (watched_in session name from turns)
apart-watched session name from [] = tt
apart-watched session name from (turn ∷ turns) =
    (apart-quiet session turn.0 (command.Notices (Some name) from 64) turn.1 refl, apart-watched session name (next_from from turn.1) turns)

apart-visit : (catalogue : Catalogue) (gates : List Gate) (keys : Option (List KeyEntry)) (tells : Type 0) (served : Served) (course : Course) (entries : List Entry) → IsVisit catalogue gates keys tells served course entries →
    AllByRecursion IsApart entries
apart-visit catalogue gates keys tells served course entries (inl talks) =
    subst (AllByRecursion IsApart) (sym talks.exchanged.all_entries)
    (each-append IsApart (deeds_in served.session talks.exchanged.talk) _ (apart-talk catalogue keys served.session beginning talks.exchanged.talk talks.exchanged.leaves.reads)
    (apart-parting served.session _ talks.exchanged.parting))
apart-visit catalogue gates keys tells served course entries (inr watched) =
    subst (AllByRecursion IsApart) (sym watched.noticed.all_entries) (apart-watched served.session watched.name watched.from watched.noticed.turns)

-- ---- a history of which each connection agrees with its entries

module _ (catalogue : Catalogue) (gates : List Gate) (keys : Option (List KeyEntry)) (heeds tells pausing : Type 0) (log : List Entry) (heard : heeds) where
  abbrev lane_entries : ℕ → List Entry
  lane_entries session = done_in (actuators catalogue) (of_session session) log

  of-works : (session : ℕ) (works : List Work) → AllByRecursion (λ work. says catalogue gates keys heeds tells pausing work (done_in (actuators catalogue) (lane_of_work work) log)) works →
      IsAbsent (of_session session) works ⊎ AllByRecursion IsApart (lane_entries session)
  of-works session [] each = inl tt
  of-works session (visit served course ∷ works) each = by (served.session == session) refl (of-works session works each.1)
    where
      by : (here : Bool) → (served.session == session) ≡ here → IsAbsent (of_session session) works ⊎ AllByRecursion IsApart (lane_entries session) →
          IsAbsent (of_session session) (visit served course ∷ works) ⊎ AllByRecursion IsApart (lane_entries session)
      by true is rest =
          let same : served.session ≡ session = grind (arith, nat_tests) in
          inr (subst (λ s. AllByRecursion IsApart (lane_entries s)) same
          (apart-visit catalogue gates keys tells served course (lane_entries served.session) (each.0.1 heard)))
      by false is (inl absent) = inl ((λ same. let equal : served.session ≡ session = cc in absurd (grind (arith, nat_tests))), absent)
      by false is (inr apart) = inr apart
  of-works session (beat waited course ∷ works) each = elim (of-works session works each.1) [
    | inl absent ↦ inl ((λ same. cc), absent)
    | inr apart ↦ inr apart
  ]
  of-works session (drive driver calls waited course ∷ works) each = elim (of-works session works each.1) [
    | inl absent ↦ inl ((λ same. cc), absent)
    | inr apart ↦ inr apart
  ]

  session-apart : (session : ℕ) (works : List Work) → Agreed (actuators catalogue) (says catalogue gates keys heeds tells pausing) log works → AllByRecursion IsApart (lane_entries session)
  session-apart session works agreed = elim (of-works session works agreed.each) [
    | inl absent ↦ subst (AllByRecursion IsApart) (sym (agreed.none (of_session session) absent)) tt
    | inr apart ↦ apart
  ]

  all-behind : (b : Bool) (x : Entry) (xs : List Entry) → AllByRecursion IsApart (cond b (x ∷ xs) xs) → AllByRecursion IsApart xs
  all-behind true x xs all = all.1
  all-behind false x xs all = all

  all-first : (b : Bool) (x : Entry) (xs : List Entry) → b ≡ true → AllByRecursion IsApart (cond b (x ∷ xs) xs) → IsApart x
  all-first true x xs is all = all.0
  all-first false x xs is all = absurd cc

  of-lanes : (plant : List Actuator) (xs : List Entry) → ((session : ℕ) → AllByRecursion IsApart (filter (in_lane plant (of_session session)) xs)) → AllByRecursion IsApart xs
  of-lanes plant [] all = tt
  of-lanes plant (Did zero c moment given ∷ xs) all = (
    tt,
    of-lanes plant xs
        (λ session. all-behind (in_lane plant (of_session session) (Did zero c moment given)) (Did zero c moment given) (filter (in_lane plant (of_session session)) xs) (all session)),
  )
  of-lanes plant (Did (suc n) c moment given ∷ xs) all = (
    all-first (in_lane plant (of_session (suc n)) (Did (suc n) c moment given)) (Did (suc n) c moment given) (filter (in_lane plant (of_session (suc n))) xs)
        (is_lane-self (of_session (suc n))) (all (suc n)),
    of-lanes plant xs
        (λ session. all-behind (in_lane plant (of_session session) (Did (suc n) c moment given)) (Did (suc n) c moment given) (filter (in_lane plant (of_session session)) xs) (all session)),
  )
  of-lanes plant (Broke session commands others ∷ xs) all = (
    tt,
    of-lanes plant xs
        (λ other. all-behind (in_lane plant (of_session other) (Broke session commands others)) (Broke session commands others) (filter (in_lane plant (of_session other)) xs) (all other)),
  )

  pub all-apart : (works : List Work) → Agreed (actuators catalogue) (says catalogue gates keys heeds tells pausing) log works → AllByRecursion IsApart (deeds log)
  all-apart works agreed = of-lanes (actuators catalogue) (deeds log) (λ session. session-apart session works agreed)

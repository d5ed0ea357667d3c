-- What is answered to rows that only ask is a function of what lasted, and of each question and how far the clock has come.
use Rattle.std.proofs.Common.{◌≡◌, ℕ, ◌≤◌, max, nat_lt, nat_le, Bool, true, false, cond, ◌||◌, List, [], ◌∷◌, map, Option, Some, None, refl, ap, sym, ◌∙◌, arith}
use Rattle.std.specs.List.{filter}
use Rattle.std.proofs.lemmas.Bool.{cond_both}
use Rattle.std.proofs.lemmas.Bool.Decides.{nat_tests}
use Rattle.boss_model.specs.declared.answer.Answer.{Answer}
use Rattle.boss_model.specs.declared.command.Command.{Command}
use Rattle.boss_model.specs.declared.command.Command.TheVariants as command
use Rattle.boss_model.specs.declared.state.Actuator.{Actuator}
use Rattle.boss_model.specs.Devices.{Reply, hand_out, is_current, report}
use Rattle.boss_model.specs.Happenings.{Happening, coming, rank}
use Rattle.boss_model.specs.Machine.{act, pass_time, step}
use Rattle.boss_model.specs.Reversions.{courses}
use Rattle.boss_model.specs.Sound.{IsSoundPersistent}
use Rattle.boss_model.specs.State.{Persistent, State}
use Rattle.boss_model.specs.Time.{due, tick}
use Rattle.law_time.proofs.Coming.{all_of}
use Rattle.law_time.proofs.Filters.{filter-none}
use Rattle.law_time.proofs.NothingDue.{nothing-due, sound-timed}
use Rattle.law_time.proofs.Orders.{each-in_order, each-passed}
use Rattle.law_time.proofs.TickLaw.{tick-tick}
use Rattle.law_machine.specs.Commands.{unmarked}
use Rattle.law_machine.proofs.Commands.{shell}
use Rattle.def_history.specs.declared.entry.Entry.{Entry}
use Rattle.def_history.specs.declared.entry.Entry.TheVariants.{Did, Broke}
use Rattle.def_history.specs.History.{after_entry, run, IsLegal}
use Rattle.law_second_script.specs.Asking.{asks, serves, OnlyAsks, latest, asked, answered}

-- ---- one row

handed-out : (found : Option ℕ) (s : State) → (hand_out found s).state.persistent ≡ s.persistent
handed-out None s = refl
handed-out (Some point) s = refl

taken : (n point version : ℕ) (s : State) → (report n point version true s).state.persistent ≡ s.persistent
taken n point version s = cond_both (is_current point version s) _ _ (λ (r : Reply). r.state.persistent ≡ s.persistent) (λ _. refl) (λ _. refl)

-- a row that only asks changes no more than time does
quiet-step : (plant : List Actuator) (session : ℕ) (c : Command) (m : ℕ) (s : State) → (asks c || serves c) ≡ true →
    (step plant session c m s).state.persistent ≡ tick s.persistent m
unfolding step
quiet-step plant session (command.Attach name) m s only = cc
quiet-step plant session (command.Submit writes policy seq) m s only = cc
quiet-step plant session (command.Renew txn length points seq) m s only = cc
quiet-step plant session (command.Cancel txn seq) m s only = cc
quiet-step plant session command.Gone m s only = cc
quiet-step plant session command.Tick m s only = refl
quiet-step plant session (command.Next driver) m s only = handed-out _ (pass_time plant (max s.persistent.now m) s)
quiet-step plant session (command.Report point version true) m s only = taken (max s.persistent.now m) point version (pass_time plant (max s.persistent.now m) s)
quiet-step plant session (command.Report point version false) m s only = cc
quiet-step plant session (command.Doubt point differs) m s only = refl
quiet-step plant session (command.Read point) m s only = refl
quiet-step plant session (command.Array point) m s only = refl
quiet-step plant session (command.Status txn) m s only = refl
quiet-step plant session (command.Notices (Some name) from most) m s only = refl
quiet-step plant session (command.Notices None from most) m s only = cc
quiet-step plant session (command.Points from most) m s only = refl
quiet-step plant session command.Version m s only = refl

-- what a question is answered, of what lasts once time has passed
pub said : List Actuator → Command → Persistent → Answer
said plant c d = unmarked (act plant 0 0 c (shell d [])).answer

question-said : (plant : List Actuator) (session : ℕ) (c : Command) (m : ℕ) (s : State) → asks c ≡ true →
    unmarked (step plant session c m s).answer ≡ said plant c (tick s.persistent m)
unfolding step said
question-said plant session (command.Attach name) m s question = cc
question-said plant session (command.Submit writes policy seq) m s question = cc
question-said plant session (command.Renew txn length points seq) m s question = cc
question-said plant session (command.Cancel txn seq) m s question = cc
question-said plant session command.Gone m s question = cc
question-said plant session command.Tick m s question = refl
question-said plant session (command.Next driver) m s question = cc
question-said plant session (command.Report point version ok) m s question = cc
question-said plant session (command.Doubt point differs) m s question = cc
question-said plant session (command.Read point) m s question = refl
question-said plant session (command.Array point) m s question = refl
question-said plant session (command.Status txn) m s question = refl
question-said plant session (command.Notices (Some name) from most) m s question = refl
question-said plant session (command.Notices None from most) m s question = cc
question-said plant session (command.Points from most) m s question = refl
question-said plant session command.Version m s question = refl

-- ---- at once nothing is due

nothing-now : (d : Persistent) (n : ℕ) → n ≤ d.now → due n d ≡ []
nothing-now d n early =
    let all = all_of (courses d.pending d.leases) d.txns in
    let Q = λ (h : Happening). nat_le h.at n ≡ false in
    filter-none (λ h. nat_le h.at n) (coming d.now (courses d.pending d.leases) d.txns) (each-in_order Q rank (filter (λ h. nat_lt d.now h.at) all)
    (each-passed Q (λ h. nat_lt d.now h.at) (λ h later. grind (arith, nat_tests)) all))

pub at-once : (plant : List Actuator) (d : Persistent) → IsSoundPersistent plant d → d ≡ tick d 0
at-once plant d sound =
    let within : d.now ≤ max d.now 0 = omega arith in
    sym (nothing-due plant d (max d.now 0) sound within (nothing-now d (max d.now 0) (omega arith)))

-- ---- many rows

module _ (plant : List Actuator) (d : Persistent) (sound : IsSoundPersistent plant d) where
  ticks : (a b : ℕ) → tick (tick d a) b ≡ tick d (max a b)
  ticks a b = tick-tick d a b (sound-timed plant d sound)

  -- behind a row the clock has come so far
  one-row : (session : ℕ) (c : Command) (m moment : ℕ) (s : State) → (asks c || serves c) ≡ true → s.persistent ≡ tick d moment →
      (step plant session c m s).state.persistent ≡ tick d (max moment m)
  one-row session c m moment s only is = quiet-step plant session c m s only ∙ ap (λ e. tick e m) is ∙ ticks moment m

  pub all-rows : (rows : List Entry) (moment : ℕ) (s : State) → OnlyAsks rows → s.persistent ≡ tick d moment → (run plant rows s).persistent ≡ tick d (latest moment rows)
  all-rows [] moment s only is = is
  all-rows (Did session c m given ∷ rows) moment s only is =
      all-rows rows (max moment m) (after_entry plant (Did session c m given) s) only.1 (one-row session c m moment s only.0 is)
  all-rows (Broke session commands others ∷ rows) moment s only is = absurd (let no : false ≡ true = only.0 in cc)

  pub answer-at : Command × ℕ → Answer
  answer-at question = said plant question.0 (tick d question.1)

  pub all-answers : (rows : List Entry) (moment : ℕ) (s : State) → OnlyAsks rows → IsLegal plant rows s → s.persistent ≡ tick d moment →
      answered rows ≡ map answer-at (asked moment rows)
  unfolding answer-at
  all-answers [] moment s only legal is = refl
  all-answers (Did session c m given ∷ rows) moment s only legal is =
      let next = max moment m in
      let rest : answered rows ≡ map answer-at (asked next rows) =
      all-answers rows next (after_entry plant (Did session c m given) s) only.1 legal.2 (one-row session c m moment s only.0 is) in
      by (asks c) refl rest
    where
      by : (question : Bool) → asks c ≡ question → answered rows ≡ map answer-at (asked (max moment m) rows) →
          cond question (unmarked given ∷ answered rows) (answered rows) ≡ map answer-at (cond question ((c, max moment m) ∷ asked (max moment m) rows) (asked (max moment m) rows))
      by true question rest =
          let here : unmarked given ≡ said plant c (tick d (max moment m)) =
          ap unmarked legal.0.1 ∙ question-said plant session c m s question ∙ ap (λ e. said plant c (tick e m)) is ∙ ap (said plant c) (ticks moment m) in
          (λ i. here i ∷ rest i)
      by false other rest = rest
  all-answers (Broke session commands others ∷ rows) moment s only legal is = absurd (let no : false ≡ true = only.0 in cc)

pub same-answers : (plant : List Actuator) (s t : State) (rows others : List Entry) → IsSoundPersistent plant s.persistent → s.persistent ≡ t.persistent →
    IsLegal plant rows s → IsLegal plant others t → OnlyAsks rows → OnlyAsks others → asked 0 rows ≡ asked 0 others → answered rows ≡ answered others
same-answers plant s t rows others sound same legal also only asks_only is =
    let d = s.persistent in
    all-answers plant d sound rows 0 s only legal (at-once plant d sound)
    ∙ ap (map (answer-at plant d sound)) is
    ∙ sym (all-answers plant d sound others 0 t asks_only also (sym same ∙ at-once plant d sound))

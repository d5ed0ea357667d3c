-- How a command that asks for the notices of a process, by its name, is answered in a legal history.
use Rattle.std.proofs.Common.{◌≡◌, ℕ, zero, suc, ◌+◌, ◌-◌, ◌≤◌, List, [], ◌∷◌, ◌++◌, length, true, Option, Some, None, refl, ap, sym, ◌∙◌, subst, append_assoc, arith}
use Rattle.std.specs.List.{AllByRecursion, slice_get}
use mathlib.Core.List.{IsPrefix}
use Rattle.boss_model.specs.declared.answer.Answer.{Answer}
use Rattle.boss_model.specs.declared.answer.Answer.TheVariants as answer
use Rattle.boss_model.specs.declared.command.Command.TheVariants as command
use Rattle.boss_model.specs.declared.notice.Notice.{Notice}
use Rattle.boss_model.specs.declared.state.Actuator.{Actuator}
use Rattle.boss_model.specs.Machine.{step}
use Rattle.boss_model.specs.Processes.{process_named}
use Rattle.boss_model.specs.Queries.{named, notices_named, notices_of, numbered_from, start}
use Rattle.boss_model.specs.Sound.{IsProcess, IsSound, NumberedFrom}
use Rattle.boss_model.specs.State.{Process, State}
use Rattle.def_history.specs.declared.entry.Entry.{Entry}
use Rattle.def_history.specs.declared.entry.Entry.TheVariants.{Did}
use Rattle.def_history.specs.History.{after_entry, run, IsEntryAt, IsLegal}
use Rattle.def_history.proofs.Going.{run_append}
use Rattle.def_history.proofs.Sound.{legal-sound}
use Rattle.def_connection.specs.Watching.{is_some_list}
use Rattle.boss_watching.specs.Notes.{GoesOn, sent}
use Rattle.boss_watching.proofs.Growing.{Grown, run-grows}
use Rattle.boss_watching.proofs.Sent.{count_of, sent-grown, start-first, start-on, end-within}

-- it is answered with notices, which go on where it asks from
abbrev pub IsPage : ℕ → Answer → ℕ → ℕ → Type 0
IsPage from (answer.Notices first next list) before now = GoesOn from next (is_some_list list) before now
IsPage from other before now = ⊥

some-list : (list : List Notice) → is_some_list list ≡ true → 1 ≤ length list
some-list [] is = absurd cc
some-list (notice ∷ list) is = omega arith

page-known : (p : Process) (from before : ℕ) → 1 ≤ from → before ≤ p.count → NumberedFrom (p.count + 1 - length p.kept) p.kept → length p.kept ≤ p.count →
    IsPage from (notices_of (Some p) from 64) before p.count
page-known p from before some rises numbers few =
    let list : List Notice = numbered_from (start p from) 64 p.kept in
    let first = start-first p from some in
    let end = end-within p from 64 numbers few in
    record {
      first = omega (arith, first);
      within = omega (arith, end);
      rises = rises;
      on = λ within. let on = start-on p from (omega (arith, within, rises)) in omega (arith, on);
      more = λ within told. let on = start-on p from (omega (arith, within, rises)) in let one : 1 ≤ length list = some-list list told in omega (arith, on, one);
    }

page-unknown : (from before : ℕ) → before ≤ 0 → IsPage from (notices_of None from 64) before 0
page-unknown from before rises = record { first = omega arith; within = omega arith; rises = rises; on = λ within. omega (arith, within, rises); more = λ within told. absurd cc }

each-get : (P : Process → Type 0) (ps : List Process) (i : ℕ) (p : Process) → AllByRecursion P ps → slice_get ps i ≡ Some p → P p
each-get P [] i p all is = absurd cc
each-get P (x ∷ xs) zero p all is = let here : x ≡ p = cc in subst P here all.0
each-get P (x ∷ xs) (suc i) p all is = each-get P xs i p all.1 is

each-named : (P : Process → Type 0) (ps : List Process) (k : Option ℕ) (p : Process) → AllByRecursion P ps → named ps k ≡ Some p → P p
each-named P ps None p all is = absurd cc
each-named P ps (Some i) p all is = each-get P ps i p all is

page-found : (plant : List Actuator) (s : State) (k : Option ℕ) (from before : ℕ) (f : Option Process) → IsSound plant s → named s.persistent.processes k ≡ f → 1 ≤ from →
    before ≤ count_of f → IsPage from (notices_of f from 64) before (count_of f)
page-found plant s k from before None sound is some rises = page-unknown from before rises
page-found plant s k from before (Some p) sound is some rises =
    let fine = each-named (IsProcess plant s.persistent.now) s.persistent.processes k p sound.persistent.processes is in
    page-known p from before some rises fine.numbers fine.sent

page-sound : (plant : List Actuator) (s : State) (name : List ℕ) (from before : ℕ) → IsSound plant s → 1 ≤ from → before ≤ sent name s →
    IsPage from (notices_named name from 64 s.persistent) before (sent name s)
page-sound plant s name from before sound some rises =
    let k = process_named s.persistent.processes name in
    page-found plant s k from before (named s.persistent.processes k) sound refl some rises

-- such a command looks at the state that time has led to, and changes it no further
looks : (plant : List Actuator) (session m from most : ℕ) (name : List ℕ) (s : State) →
    (step plant session (command.Notices (Some name) from most) m s).answer
    ≡ notices_named name from most (step plant session (command.Notices (Some name) from most) m s).state.persistent
unfolding step
looks plant session m from most name s = refl

last-is-legal : (plant : List Actuator) (first : List Entry) (entry : Entry) (s : State) → IsLegal plant (first ++ entry ∷ []) s → IsEntryAt plant (run plant first s) entry
last-is-legal plant [] entry s legal = legal.0
last-is-legal plant (e ∷ first) entry s legal = last-is-legal plant first entry (after_entry plant e s) legal.2

pub page-of-call : (plant : List Actuator) (opening : State) (seen before : List Entry) (session : ℕ) (name : List ℕ) (from m : ℕ) (given : Answer) → IsSound plant opening →
    IsLegal plant (before ++ Did session (command.Notices (Some name) from 64) m given ∷ []) opening → IsPrefix seen before → 1 ≤ from →
    IsPage from given (sent name (run plant seen opening)) (sent name (run plant (before ++ Did session (command.Notices (Some name) from 64) m given ∷ []) opening))
page-of-call plant opening seen before session name from m given sound legal goes_on some =
    let entry : Entry = Did session (command.Notices (Some name) from 64) m given in
    let all : List Entry = before ++ entry ∷ [] in
    let now : State = run plant all opening in
    let s : State = run plant before opening in
    let after : now ≡ (step plant session (command.Notices (Some name) from 64) m s).state = run_append plant before (entry ∷ []) opening in
    let whole : all ≡ seen ++ (goes_on.0 ++ entry ∷ []) = ap (λ es. es ++ entry ∷ []) (sym goes_on.1) ∙ append_assoc seen goes_on.0 (entry ∷ []) in
    let grown : Grown (run plant seen opening).persistent.processes now.persistent.processes =
    subst (λ t. Grown (run plant seen opening).persistent.processes t.persistent.processes)
    (sym (ap (λ es. run plant es opening) whole ∙ run_append plant seen (goes_on.0 ++ entry ∷ []) opening))
    (run-grows plant (goes_on.0 ++ entry ∷ []) (run plant seen opening)) in
    let is : given ≡ notices_named name from 64 now.persistent =
    (last-is-legal plant before entry opening legal).1 ∙ looks plant session m from 64 name s ∙ ap (λ t. notices_named name from 64 t.persistent) (sym after) in
    subst (λ a. IsPage from a (sent name (run plant seen opening)) (sent name now)) (sym is)
    (page-sound plant now name from (sent name (run plant seen opening)) (legal-sound plant all opening sound legal) some (sent-grown name (run plant seen opening) now grown))

-- it is nothing else
pub only-page : (from before now : ℕ) (given : Answer) → IsPage from given before now → ((first next : ℕ) (list : List Notice) → given ≡ answer.Notices first next list → ⊥) → ⊥
only-page from before now (answer.Notices first next list) is other = other first next list refl
only-page from before now (answer.Attached name next) is other = is
only-page from before now (answer.Accepted txn until) is other = is
only-page from before now (answer.Renewed txn until) is other = is
only-page from before now (answer.Cancelled txn at) is other = is
only-page from before now (answer.Gone ended) is other = is
only-page from before now (answer.Ticked at) is other = is
only-page from before now (answer.Want point version value) is other = is
only-page from before now answer.Nothing is other = is
only-page from before now (answer.Noted current) is other = is
only-page from before now (answer.Reading point value basis mark differed took) is other = is
only-page from before now (answer.Array point slots) is other = is
only-page from before now (answer.Status txn owner stage live pending) is other = is
only-page from before now (answer.Points place most) is other = is
only-page from before now answer.Version is other = is
only-page from before now (answer.Refused why) is other = is

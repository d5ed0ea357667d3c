-- What a step answers can be told: its points are the catalogue's, and its notices few.
use Rattle.std.proofs.Common.{◌≡◌, ℕ, ◌+◌, ◌-◌, ◌<◌, ◌≤◌, ◌==◌, max, nat_lt, nat_le, List, [], ◌∷◌, length, Bool, true, false, ◌&&◌, Option, Some, None, refl, sym, subst, arith}
use Rattle.std.specs.List.{find, AllByRecursion}
use Rattle.std.proofs.lemmas.Bool.{cond_both}
use Rattle.std.proofs.lemmas.Bool.Decides.{nat_tests}
use Rattle.std.proofs.lemmas.List.{length-map}
use Rattle.boss_model.specs.declared.answer.Answer.TheVariants as answer
use Rattle.boss_model.specs.declared.answer.Refusal.{Refusal}
use Rattle.boss_model.specs.declared.kept.Acceptance.{Acceptance}
use Rattle.boss_model.specs.declared.kept.Acceptance.TheVariants as acceptance
use Rattle.boss_model.specs.declared.command.Command.{Command}
use Rattle.boss_model.specs.declared.command.Command.TheVariants as command
use Rattle.boss_model.specs.declared.notice.Notice.{Notice}
use Rattle.boss_model.specs.Catalogue.{Catalogue, actuators, driver_of}
use Rattle.boss_model.specs.Devices.{Reply, hand_out, is_current, heard, report}
use Rattle.boss_model.specs.Ends.{cancel, gone}
use Rattle.boss_model.specs.Limits.{most_told, last_moment}
use Rattle.boss_model.specs.Machine.{answered, after, if_attached, joined, parted, notices_asked, act, pass_time, step}
use Rattle.boss_model.specs.Outcomes.{Outcome, refused, did, unless}
use Rattle.boss_model.specs.Processes.{process_of, process_named}
use Rattle.boss_model.specs.Queries.{start, numbered_from, notices_of, named, notices, status_of}
use Rattle.boss_model.specs.Records.{Transaction}
use Rattle.boss_model.specs.Renew.{transaction_of, renew}
use Rattle.boss_model.specs.Replies.{answer_of, once}
use Rattle.boss_model.specs.Sound.{NumberedFrom, IsKnown, IsProcess, IsWant, IsSoundPersistent, IsSound, IsAllowed}
use Rattle.boss_model.specs.State.{Process, Persistent, State}
use Rattle.boss_model.specs.Submit.{submit}
use Rattle.boss_model.specs.Tellable.{IsTellableNotice, IsTellable}
use Rattle.law_machine.proofs.Requests.{IsRequest, submit-request, renew-request, cancel-request, request-once}
use Rattle.law_machine.proofs.Draining.{find-member}
use Rattle.law_time.proofs.GroupSound.{got}
use Rattle.law_time.proofs.Orders.{each-filter}
use Rattle.law_time.proofs.Places.{member-each}
use Rattle.law_soundness.proofs.StepSound.{passed-sound}

-- ---- notices

-- of notices that are numbered one by one, those from a number on and up to another are no more than there are numbers
few-from : (start most number : ℕ) (kept : List Notice) → NumberedFrom number kept → length (numbered_from start most kept) ≤ start + most - max number start
few-from start most number [] numbers = omega arith
few-from start most number (notice ∷ kept) numbers =
    let here : notice.number ≡ number = numbers.0 in
    let rest : length (numbered_from start most kept) ≤ start + most - max (number + 1) start = few-from start most (number + 1) kept numbers.1 in
    cond_both (nat_le start notice.number && nat_lt notice.number (start + most)) (notice ∷ numbered_from start most kept) (numbered_from start most kept)
    (λ told. length told ≤ start + most - max number start)
    (λ asked. let early : start ≤ notice.number = grind (arith, nat_tests) in let late : notice.number < start + most = grind (arith, nat_tests) in omega arith)
    (λ _. omega arith)

few : (start most number : ℕ) (kept : List Notice) → NumberedFrom number kept → length (numbered_from start most kept) ≤ most
few start most number kept numbers = let from : length (numbered_from start most kept) ≤ start + most - max number start = few-from start most number kept numbers in omega arith

module _ (catalogue : Catalogue) where
  told-process : (now : ℕ) (found : Option Process) (from most : ℕ) → ((p : Process) → found ≡ Some p → IsProcess (actuators catalogue) now p) → most ≤ most_told →
      IsTellable catalogue (notices_of found from most)
  told-process now None from most is limit = (omega arith, tt)
  told-process now (Some process) from most is limit =
      let good : IsProcess (actuators catalogue) now process = is process refl in
      let many : length (numbered_from (start process from) most process.kept) ≤ most = few (start process from) most (process.count + 1 - length process.kept) process.kept good.numbers in (
        omega arith,
        each-filter (IsTellableNotice catalogue) (λ notice. nat_le (start process from) notice.number && nat_lt notice.number (start process from + most)) process.kept
            (subst (λ n. AllByRecursion (λ notice. IsKnown n notice.what) process.kept) (length-map catalogue.points (λ point. point.actuator)) good.known),
      )

  told-notices : (process : Option ℕ) (from most : ℕ) (d : Persistent) → IsSoundPersistent (actuators catalogue) d → most ≤ most_told → IsTellable catalogue (notices process from most d)
  told-notices None from most d sound limit = told-process d.now None from most (λ p is. cc) limit
  told-notices (Some process) from most d sound limit = told-process d.now (named d.processes (Some process)) from most
      (λ p is. got (IsProcess (actuators catalogue) d.now) d.processes process p is sound.processes) limit

  told-asked : (name : Option (List ℕ)) (session from most : ℕ) (s : State) → IsSoundPersistent (actuators catalogue) s.persistent → most ≤ most_told →
      IsTellable catalogue (notices_asked name session from most s).answer
  told-asked (Some name) session from most s sound limit = told-notices (process_named s.persistent.processes name) from most s.persistent sound limit
  told-asked None session from most s sound limit = told-own (process_of s.attached session)
    where
      told-own : (held : Option ℕ) → IsTellable catalogue (if_attached held (λ process. answered (notices (Some process) from most s.persistent) s) s).answer
      told-own None = tt
      told-own (Some process) = told-notices (Some process) from most s.persistent sound limit

  -- ---- the other commands

  told-accepted : (accepted : Acceptance) → IsTellable catalogue (answer_of accepted)
  told-accepted (acceptance.Accepted txn until) = tt
  told-accepted (acceptance.Renewed txn until) = tt
  told-accepted (acceptance.Cancelled txn at) = tt

  told-after : (s : State) (outcome : Outcome) → IsRequest outcome → IsTellable catalogue (after s outcome).answer
  told-after s (refused why) is = tt
  told-after s (did given d) is = subst (IsTellable catalogue) (sym is.1) (told-accepted is.0)

  told-joined : (session process : ℕ) (s : State) (refusal : Option Refusal) (name : List ℕ) (number : ℕ) (d : Persistent) →
      IsTellable catalogue (joined session process s (unless refusal (answer.Attached name number) d)).answer
  told-joined session process s (Some why) name number d = tt
  told-joined session process s None name number d = tt

  told-if : (held : Option ℕ) (go : ℕ → Reply) (s : State) → ((p : ℕ) → IsTellable catalogue (go p).answer) → IsTellable catalogue (if_attached held go s).answer
  told-if None go s each = tt
  told-if (Some p) go s each = each p

  told-status : (found : Option Transaction) (d : Persistent) → IsTellable catalogue (status_of found d)
  told-status None d = tt
  told-status (Some transaction) d = tt

  told-report : (n point version : ℕ) (ok : Bool) (s : State) → IsTellable catalogue (report n point version ok s).answer
  told-report n point version ok s = cond_both {A = Reply} (is_current point version s) (record { answer = answer.Noted true; state = heard n point ok s }) (record { answer = answer.Noted false; state = s })
      (λ reply. IsTellable catalogue reply.answer) (λ _. tt) (λ _. tt)

  -- a point of the plant is one of the catalogue's
  of-catalogue : (point : ℕ) → point < length (actuators catalogue) → point < length catalogue.points
  of-catalogue point known = subst (λ n. point < n) (length-map catalogue.points (λ p. p.actuator)) known

  told-want : (test : ℕ → Bool) (found : Option ℕ) (s : State) → IsSound (actuators catalogue) s → find test s.wants ≡ found → IsTellable catalogue (hand_out found s).answer
  told-want test None s sound is = tt
  told-want test (Some point) s sound is =
      let want = member-each (IsWant s.proxies) point s.wants sound.wants (find-member test s.wants point is) in
      of-catalogue point (subst (λ n. point < n) sound.proxies want.known)

  told-act : (session n : ℕ) (c : Command) (s : State) → IsSound (actuators catalogue) s → IsAllowed (actuators catalogue) c → IsTellable catalogue (act (actuators catalogue) session n c s).answer
  told-act session n (command.Attach name) s sound allowed = told-joined session _ s _ name _ _
  told-act session n (command.Submit writes policy seq) s sound allowed = told-if (process_of s.attached session)
      (λ p. after s (once p seq s.persistent (submit (actuators catalogue) p policy writes n s.persistent))) s
      (λ p. told-after s _ (request-once p seq s.persistent _ (submit-request (actuators catalogue) p policy writes n s.persistent)))
  told-act session n (command.Renew txn length points seq) s sound allowed = told-if (process_of s.attached session)
      (λ p. after s (once p seq s.persistent (renew p txn length points n s.persistent))) s
      (λ p. told-after s _ (request-once p seq s.persistent _ (renew-request p txn length points n s.persistent)))
  told-act session n (command.Cancel txn seq) s sound allowed = told-if (process_of s.attached session)
      (λ p. after s (once p seq s.persistent (cancel p txn n s.persistent))) s
      (λ p. told-after s _ (request-once p seq s.persistent _ (cancel-request p txn n s.persistent)))
  told-act session n command.Gone s sound allowed = told-if (process_of s.attached session) (λ p. parted session s (gone p n s.persistent)) s (λ p. tt)
  told-act session n command.Tick s sound allowed = tt
  told-act session n (command.Next driver) s sound allowed = told-want (λ point. driver_of (actuators catalogue) point == driver) _ s sound refl
  told-act session n (command.Report point version ok) s sound allowed = told-report n point version ok s
  told-act session n (command.Doubt point differs) s sound allowed = tt
  told-act session n (command.Read point) s sound allowed = of-catalogue point allowed
  told-act session n (command.Array point) s sound allowed = of-catalogue point allowed
  told-act session n (command.Status txn) s sound allowed = told-status (transaction_of s.persistent.txns txn) s.persistent
  told-act session n (command.Notices name from most) s sound allowed = told-asked name session from most s sound.persistent allowed.3
  told-act session n (command.Points from most) s sound allowed = allowed
  told-act session n command.Version s sound allowed = tt

pub tellable : (catalogue : Catalogue) (s : State) (session : ℕ) (c : Command) (m : ℕ) → IsSound (actuators catalogue) s → IsAllowed (actuators catalogue) c → m ≤ last_moment →
    IsTellable catalogue (step (actuators catalogue) session c m s).answer
unfolding step
tellable catalogue s session c m sound allowed small =
    let n = max s.persistent.now m in
    let now : s.persistent.now ≤ last_moment = sound.persistent.now in
    let passed : IsSound (actuators catalogue) (pass_time (actuators catalogue) n s) = passed-sound (actuators catalogue) n s (omega arith) (omega arith) sound in
    told-act catalogue session n c (pass_time (actuators catalogue) n s) passed allowed

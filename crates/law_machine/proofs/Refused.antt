-- A refused command is its tick, its retries and its settling.
use Rattle.std.proofs.Common.{◌≡◌, ℕ, List, Bool, true, false, Option, Some, None, refl, ap, sym, ◌∙◌}
use Rattle.std.proofs.lemmas.Bool.{cond_both}
use Rattle.boss_model.specs.declared.answer.Answer.TheVariants as answer
use Rattle.boss_model.specs.declared.answer.Refusal.{Refusal}
use Rattle.boss_model.specs.declared.command.Command.{Command}
use Rattle.boss_model.specs.declared.command.Command.TheVariants as command
use Rattle.boss_model.specs.declared.state.Actuator.{Actuator}
use Rattle.boss_model.specs.Devices.{Reply, hand_out, is_current, heard, report}
use Rattle.boss_model.specs.Ends.{cancel, gone}
use Rattle.boss_model.specs.Machine.{answered, after, if_attached, joined, parted, notices_asked, act, pass_time, step}
use Rattle.boss_model.specs.Outcomes.{Outcome, refused, did, unless}
use Rattle.boss_model.specs.Processes.{process_of}
use Rattle.boss_model.specs.Queries.{notices}
use Rattle.boss_model.specs.Renew.{renew}
use Rattle.boss_model.specs.Replies.{once}
use Rattle.boss_model.specs.Settle.{settle}
use Rattle.boss_model.specs.State.{Persistent, State}
use Rattle.boss_model.specs.Submit.{submit}
use Rattle.boss_model.specs.Time.{moment_of}
use Rattle.law_machine.proofs.Requests.{IsRequest, submit-request, renew-request, cancel-request, request-once, never-refused}

-- a reply that is a refusal leaves the state
abbrev pub Leaves : State → Reply → Type 0
Leaves s reply = (why : Refusal) → reply.answer ≡ answer.Refused why → reply.state ≡ s

leaves-after : (s : State) (outcome : Outcome) → IsRequest outcome → Leaves s (after s outcome)
leaves-after s (refused found) is why refuses = refl
leaves-after s (did given d) is why refuses = cc (never-refused is.0 why (sym is.1 ∙ refuses))

leaves-if : (held : Option ℕ) (go : ℕ → Reply) (s : State) → ((p : ℕ) → Leaves s (go p)) → Leaves s (if_attached held go s)
leaves-if None go s each why is = refl
leaves-if (Some p) go s each why is = each p why is

leaves-notices : (name : Option (List ℕ)) (session from most : ℕ) (s : State) → Leaves s (notices_asked name session from most s)
leaves-notices (Some name) session from most s = λ why is. refl
leaves-notices None session from most s = leaves-if (process_of s.attached session) (λ p. answered (notices (Some p) from most s.persistent) s) s (λ p why is. refl)

leaves-joined : (session process : ℕ) (s : State) (refusal : Option Refusal) (name : List ℕ) (number : ℕ) (d : Persistent) →
    Leaves s (joined session process s (unless refusal (answer.Attached name number) d))
leaves-joined session process s (Some found) name number d why is = refl
leaves-joined session process s None name number d why is = cc

leaves-hand_out : (found : Option ℕ) (s : State) → Leaves s (hand_out found s)
leaves-hand_out None s why is = refl
leaves-hand_out (Some point) s why is = cc

leaves-report : (n point version : ℕ) (ok : Bool) (s : State) → Leaves s (report n point version ok s)
leaves-report n point version ok s = cond_both (is_current point version s)
    (record { answer = answer.Noted true; state = heard n point ok s }) (record { answer = answer.Noted false; state = s }) (Leaves s)
    (λ _ why is. cc) (λ _ why is. refl)

leaves-act : (plant : List Actuator) (session n : ℕ) (c : Command) (s : State) → Leaves s (act plant session n c s)
leaves-act plant session n (command.Attach name) s = leaves-joined session _ s _ name _ _
leaves-act plant session n (command.Submit writes policy seq) s = leaves-if (process_of s.attached session)
    (λ p. after s (once p seq s.persistent (submit plant p policy writes n s.persistent))) s
    (λ p. leaves-after s _ (request-once p seq s.persistent _ (submit-request plant p policy writes n s.persistent)))
leaves-act plant session n (command.Renew txn length points seq) s = leaves-if (process_of s.attached session)
    (λ p. after s (once p seq s.persistent (renew p txn length points n s.persistent))) s
    (λ p. leaves-after s _ (request-once p seq s.persistent _ (renew-request p txn length points n s.persistent)))
leaves-act plant session n (command.Cancel txn seq) s = leaves-if (process_of s.attached session)
    (λ p. after s (once p seq s.persistent (cancel p txn n s.persistent))) s
    (λ p. leaves-after s _ (request-once p seq s.persistent _ (cancel-request p txn n s.persistent)))
leaves-act plant session n command.Gone s = leaves-if (process_of s.attached session)
    (λ p. parted session s (gone p n s.persistent)) s (λ p why is. cc)
leaves-act plant session n command.Tick s = λ why is. refl
leaves-act plant session n (command.Next driver) s = leaves-hand_out _ s
leaves-act plant session n (command.Report point version ok) s = leaves-report n point version ok s
leaves-act plant session n (command.Doubt point differs) s = λ why is. cc
leaves-act plant session n (command.Read point) s = λ why is. refl
leaves-act plant session n (command.Array point) s = λ why is. refl
leaves-act plant session n (command.Status txn) s = λ why is. refl
leaves-act plant session n (command.Notices name from most) s = leaves-notices name session from most s
leaves-act plant session n (command.Points from most) s = λ why is. refl
leaves-act plant session n command.Version s = λ why is. refl

pub refused-step : (plant : List Actuator) (s : State) (session other : ℕ) (c : Command) (m : ℕ) (why : Refusal) →
    (step plant session c m s).answer ≡ answer.Refused why → (step plant session c m s).state ≡ (step plant other command.Tick m s).state
unfolding step
refused-step plant s session other c m why is =
    let n = moment_of s.persistent m in ap (settle plant) (leaves-act plant session n c (pass_time plant n s) why is)

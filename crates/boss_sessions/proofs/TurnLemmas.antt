-- Commands that were called together, and several such calls.
use Rattle.std.proofs.Common.{◌≡◌, inl, inr, ℕ, ◌+◌, ◌≤◌, Bool, true, false, ◌||◌, List, [], ◌∷◌, ◌++◌, length, map, drop, Option, Some, None, Result, Ok, Err, refl, ap, sym, ◌∙◌, subst, append-nil, arith}
use Rattle.std.proofs.lemmas.List.{length-append, length-drop}
use Rattle.boss_model.specs.declared.answer.Answer.{Answer}
use Rattle.boss_model.specs.declared.command.Command.{Command}
use Rattle.def_history.specs.declared.outcome.Outcome.{Outcome}
use Rattle.def_history.specs.declared.outcome.Outcome.TheVariants.{Done, Stopped, DiskFault, NoMemory, Denied}
use Rattle.def_history.specs.History.{deeds, is_broken}
use Rattle.def_history.specs.Made.{done_by}
use Rattle.boss_outside.specs.Counts.{Rose, HasCause}
use Rattle.boss_outside.specs.Streams.{Writes}
use Rattle.boss_shared.specs.Calls.{RestFits}
use Rattle.boss_shared.specs.Gates.{AllowedAll, NextJudged}
use Rattle.boss_shared.specs.Passes.{FailsBy}
use Rattle.def_connection.specs.Batches.{deeds_by, texts_by}
use Rattle.def_connection.specs.Speech.{Reply, of_answer, of_memory, of_stop, of_denial, Speech, is_stop}
use Rattle.def_connection.specs.Stopping.{last_is, is_undone}
use Rattle.def_connection.proofs.Lasting.{last_is-append, last_is-behind, last_is-none, last_is-others}
use Rattle.def_connection.specs.Talks.{Told}
use Rattle.def_connection.proofs.Telling.{went-on, told-whole, told-behind}
use Rattle.boss_sessions.specs.declared.halt.Halt.{Halt}
use Rattle.boss_sessions.specs.declared.halt.Halt.TheVariants as halt
use Rattle.boss_sessions.specs.Holding.{JudgedBy}
use Rattle.boss_sessions.specs.Turns.{IsRest, replies_of, turned, attached_by, Voice, Goes, Comes, Replied}
use Rattle.boss_sessions.proofs.HoldingLemmas.{judged-replies, judged-nothing, judged-then}
use Rattle.boss_sessions.proofs.ReplyLemmas.{texts-append, deeds-replies, deeds-append, attached-replies, attached-then, answers-go, going-append, once-append, replies-once, length-answers, none-done, none-attached}

-- ---- writes

pub told-writes : {T E : Type 0} (a b text : List ℕ) (before now : ℕ) (r : Result T E) → Writes a b text r → HasCause before now r → Told a b before now text
told-writes a b text before now (Ok done) writes cause = told-whole a b before now text writes
told-writes a b text before now (Err failed) writes cause = record { front = writes; whole = λ calm. absurd (calm cause.failed) }

-- ---- one call

few-replies : (calls : List (Command × ℕ)) (answers : List Answer) (done : ℕ) (rest : Option Outcome) → length answers ≡ done → RestFits calls done rest →
    length (replies_of answers rest) ≤ length calls
few-replies calls answers done None many fits = omega (arith, length-answers answers [], many, fits)
few-replies calls answers done (Some (Done answer)) many fits = absurd fits
few-replies calls answers done (Some Stopped) many fits = omega (arith, length-answers answers (of_stop ∷ []), many, fits)
few-replies calls answers done (Some DiskFault) many fits = omega (arith, length-answers answers (of_stop ∷ []), many, fits)
few-replies calls answers done (Some NoMemory) many fits = omega (arith, length-answers answers (of_memory ∷ []), many, fits.0)
few-replies calls answers done (Some (Denied index rule)) many fits = omega (arith, length-answers answers (of_denial index rule ∷ []), many, fits)

pub few-done : (calls : List (Command × ℕ)) (done : ℕ) (rest : Option Outcome) → RestFits calls done rest → done ≤ length calls
few-done calls done None fits = omega arith
few-done calls done (Some (Done answer)) fits = absurd fits
few-done calls done (Some Stopped) fits = omega arith
few-done calls done (Some DiskFault) fits = omega arith
few-done calls done (Some NoMemory) fits = let less = fits.0 in omega arith
few-done calls done (Some (Denied index rule)) fits = omega arith

pub is-rest : (calls : List (Command × ℕ)) (done : ℕ) (rest : Option Outcome) → RestFits calls done rest → IsRest rest
is-rest calls done None fits = tt
is-rest calls done (Some (Done answer)) fits = absurd fits
is-rest calls done (Some Stopped) fits = tt
is-rest calls done (Some DiskFault) fits = tt
is-rest calls done (Some NoMemory) fits = tt
is-rest calls done (Some (Denied index rule)) fits = tt

-- where the turn goes on, some were replied to
pub some-replied : {T E : Type 0} (calls : List (Command × ℕ)) (done count : ℕ) (rest : Option Outcome) (told : Result T E) → 1 ≤ length calls → RestFits calls done rest →
    turned rest done told ≡ Ok count → (1 ≤ count) × (count ≤ length calls)
some-replied calls done count None (Ok fine) some fits is = let same : done ≡ count = cc in (omega arith, omega arith)
some-replied calls done count None (Err failed) some fits is = cc
some-replied calls done count (Some (Done answer)) told some fits is = absurd fits
some-replied calls done count (Some Stopped) told some fits is = cc
some-replied calls done count (Some DiskFault) told some fits is = cc
some-replied calls done count (Some NoMemory) (Ok fine) some fits is = let same : done + 1 ≡ count = cc in let less = fits.0 in (omega arith, omega arith)
some-replied calls done count (Some NoMemory) (Err failed) some fits is = cc
some-replied calls done count (Some (Denied index rule)) (Ok fine) some fits is = let same : done + 1 ≡ count = cc in (omega arith, omega arith)
some-replied calls done count (Some (Denied index rule)) (Err failed) some fits is = cc

module _ (speech : Speech) (session : ℕ) (tells : Type 0) (calls : List (Command × ℕ)) where
  -- the answers, and one more reply, which ends the turn or not
  answers-end : (test : Reply → Bool) (answers : List Answer) (last : Reply) → last_is test false (map of_answer answers ++ last ∷ []) ≡ test last
  answers-end test answers last = last_is-append test false (map of_answer answers) (last ∷ [])

  answers-calm : (answers : List Answer) → last_is is_stop false (map of_answer answers ++ []) ≡ false
  answers-calm answers = ap (last_is is_stop false) (append-nil (map of_answer answers)) ∙ last_is-none is_stop (map of_answer answers) (answers-go answers)

  comes-of : {T E : Type 0} (answers : List Answer) (rest : Option Outcome) (told : Result T E) (done : ℕ) (old new : Voice) → RestFits calls done rest → length answers ≡ done →
      FailsBy (is_broken old.seen) (is_broken new.seen) rest → (tells → Writes old.taken new.taken (texts_by speech (replies_of answers rest)) told) → HasCause old.faults new.faults told →
      Comes speech session tells calls (replies_of answers rest) old new (turned rest done told)
  comes-of answers None (Ok fine) done old new fits many failed writes cause = record {
    counts = omega (arith, many, length-answers answers []);
    all_told = writes;
    calm = cause.fine;
    going = going-append (map of_answer answers) [] (answers-go answers) tt;
    whole = λ broken. absurd (let no : true ≡ false = sym broken ∙ failed in cc);
  }
  comes-of answers None (Err why) done old new fits many failed writes cause = (
    replies-once answers None,
    (cause.failed, λ broken. absurd (let no : true ≡ false = sym broken ∙ failed in cc)),
    (answers-calm answers, inl (omega (arith, many, fits, length-answers answers []))),
  )
  comes-of answers (Some (Done answer)) told done old new fits many failed writes cause = absurd fits
  comes-of answers (Some Stopped) told done old new fits many failed writes cause = (replies-once answers (Some Stopped), failed, answers-end is_stop answers of_stop)
  comes-of answers (Some DiskFault) told done old new fits many failed writes cause = (replies-once answers (Some DiskFault), failed, answers-end is_stop answers of_stop)
  comes-of answers (Some NoMemory) (Ok fine) done old new fits many failed writes cause = record {
    counts = omega (arith, many, length-answers answers (of_memory ∷ []));
    all_told = writes;
    calm = cause.fine;
    going = going-append (map of_answer answers) (of_memory ∷ []) (answers-go answers) (refl, tt);
    whole = λ broken. absurd (let no : true ≡ false = sym broken ∙ failed in cc);
  }
  comes-of answers (Some NoMemory) (Err why) done old new fits many failed writes cause = (
    replies-once answers (Some NoMemory),
    (cause.failed, λ broken. absurd (let no : true ≡ false = sym broken ∙ failed in cc)),
    (answers-end is_stop answers of_memory, inr (answers-end is_undone answers of_memory)),
  )
  comes-of answers (Some (Denied index rule)) (Ok fine) done old new fits many failed writes cause = record {
    counts = omega (arith, many, length-answers answers (of_denial index rule ∷ []));
    all_told = writes;
    calm = cause.fine;
    going = going-append (map of_answer answers) (of_denial index rule ∷ []) (answers-go answers) (refl, tt);
    whole = failed;
  }
  comes-of answers (Some (Denied index rule)) (Err why) done old new fits many failed writes cause = (
    replies-once answers (Some (Denied index rule)),
    (cause.failed, failed),
    (answers-end is_stop answers (of_denial index rule), inr (answers-end is_undone answers (of_denial index rule))),
  )

  pub turn-replied : {T E : Type 0} (answers : List Answer) (rest : Option Outcome) (told : Result T E) (done : ℕ) (old new : Voice) → IsRest rest → RestFits calls done rest →
      length answers ≡ done → deeds new.own ≡ deeds old.own ++ done_by session calls answers → FailsBy (is_broken old.seen) (is_broken new.seen) rest →
      (tells → Writes old.taken new.taken (texts_by speech (replies_of answers rest)) told) → HasCause old.faults new.faults told →
      new.attached ≡ (old.attached || attached_by calls (map of_answer answers)) → AllowedAll speech.denies session calls answers old.held new.held →
      NextJudged speech.denies new.held session calls done rest → Replied speech session tells calls old new (turned rest done told)
  turn-replied answers rest told done old new is fits many grew failed writes cause attached allowed next = record {
    replies = replies_of answers rest;
    few = few-replies calls answers done rest many fits;
    grew = grew ∙ ap (λ list. deeds old.own ++ list) (sym (deeds-replies session calls answers rest));
    told = λ told-now. told-writes old.taken new.taken (texts_by speech (replies_of answers rest)) old.faults new.faults told (writes told-now) cause;
    attached_is = attached ∙ ap (λ b. old.attached || b) (sym (attached-replies calls answers rest));
    judged = judged-replies speech.denies session calls answers rest old.held new.held is allowed (subst (λ n. NextJudged speech.denies new.held session calls n rest) (sym many) next);
    comes = comes-of answers rest told done old new fits many failed writes cause;
  }

-- ---- several calls

abbrev pub plus : ℕ → Result ℕ Halt → Result ℕ Halt
plus n (Ok m) = Ok (n + m)
plus n (Err why) = Err why

or-false : (b : Bool) → b ≡ (b || false)
or-false true = refl
or-false false = refl

module _ (speech : Speech) (session : ℕ) (tells : Type 0) where
  pub replied-nothing : (calls : List (Command × ℕ)) (v : Voice) → Replied speech session tells calls v v (Ok 0)
  replied-nothing calls v = record {
    replies = [];
    few = omega arith;
    grew = sym (append-nil (deeds v.own)) ∙ ap (λ list. deeds v.own ++ list) (sym (none-done session calls));
    told = λ told-now. told-whole v.taken v.taken v.faults v.faults [] (sym (append-nil v.taken));
    attached_is = or-false v.attached ∙ ap (λ b. v.attached || b) (sym (none-attached calls));
    judged = judged-nothing speech.denies session calls v.held;
    comes = record { counts = refl; all_told = λ told-now. sym (append-nil v.taken); calm = refl; going = tt; whole = λ broken. broken };
  }

  comes-then : (calls : List (Command × ℕ)) (a b c : Voice) (xs ys : List Reply) (n : ℕ) (r : Result ℕ Halt) → n ≤ length calls → Goes speech session tells calls xs a b n →
      Comes speech session tells (drop n calls) ys b c r → Comes speech session tells calls (xs ++ ys) a c (plus n r)
  comes-then calls a b c xs ys n (Ok m) low one other = record {
    counts = omega (arith, one.counts, other.counts, length-append xs ys);
    all_told = λ told-now. went-on a.taken b.taken c.taken (texts_by speech xs) (texts_by speech ys) (one.all_told told-now) (other.all_told told-now)
        ∙ ap (λ list. a.taken ++ list) (sym (texts-append speech xs ys));
    calm = other.calm ∙ one.calm;
    going = going-append xs ys one.going other.going;
    whole = λ broken. one.whole (other.whole broken);
  }
  comes-then calls a b c xs ys n (Err halt.Stopped) low one other = (once-append xs ys one.going other.0, other.1, last_is-behind is_stop false xs ys other.2)
  comes-then calls a b c xs ys n (Err halt.DiskFault) low one other = (once-append xs ys one.going other.0, other.1, last_is-behind is_stop false xs ys other.2)
  comes-then calls a b c xs ys n (Err halt.WriteFault) low one other = (
    once-append xs ys one.going other.0,
    (subst (λ f. Rose f c.faults) one.calm other.1.0, λ broken. one.whole (other.1.1 broken)),
    (
      last_is-others is_stop xs ys one.going ∙ other.2.0,
      elim other.2.1 [
        | inl all ↦ inl (omega (arith, all, one.counts, low, length-append xs ys, length-drop n calls))
        | inr undone ↦ inr (last_is-behind is_undone false xs ys undone)
      ],
    ),
  )

  pub replied-then : (calls : List (Command × ℕ)) (a b c : Voice) (n : ℕ) (r : Result ℕ Halt) → n ≤ length calls → Replied speech session tells calls a b (Ok n) →
      Replied speech session tells (drop n calls) b c r → Replied speech session tells calls a c (plus n r)
  replied-then calls a b c n r low one other =
      let count : n ≡ length one.replies = one.comes.counts in
      let here : drop n calls ≡ drop (length one.replies) calls = ap (λ k. drop k calls) count in
      record {
        replies = one.replies ++ other.replies;
        few = omega (arith, count, other.few, length-append one.replies other.replies, length-drop n calls, low);
        grew = went-on (deeds a.own) (deeds b.own) (deeds c.own) (deeds_by session calls one.replies) (deeds_by session (drop n calls) other.replies) one.grew other.grew
            ∙ ap (λ list. deeds a.own ++ list) (ap (λ rest. deeds_by session calls one.replies ++ deeds_by session rest other.replies) here
            ∙ sym (deeds-append session calls one.replies other.replies));
        told = λ told-now. subst (Told a.taken c.taken a.faults c.faults) (sym (texts-append speech one.replies other.replies))
            (told-behind a.taken b.taken c.taken a.faults b.faults c.faults (texts_by speech one.replies) (texts_by speech other.replies) (one.comes.all_told told-now) one.comes.calm (other.told told-now));
        attached_is = other.attached_is ∙ ap (λ b. b || attached_by (drop n calls) other.replies) one.attached_is
            ∙ ap (λ rest. (a.attached || attached_by calls one.replies) || attached_by rest other.replies) here ∙ attached-then a.attached calls one.replies other.replies;
        judged = judged-then speech.denies session calls one.replies other.replies a.held b.held c.held one.judged
            (subst (λ cs. JudgedBy speech.denies session cs other.replies b.held c.held) here other.judged);
        comes = comes-then calls a b c one.replies other.replies n r low one.comes other.comes;
      }

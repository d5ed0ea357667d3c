-- Commands that a desk has done one by one are what their caller is told of a batch.
use Rattle.std.proofs.Common.{◌≡◌, ℕ, zero, suc, ◌<◌, Bool, true, false, List, [], ◌∷◌, ◌++◌, length, get_or, Option, Some, None, refl, sym, ap, ◌∙◌, subst, append_assoc, append-nil, arith}
use mathlib.Core.List.{IsPrefix}
use Rattle.std.specs.List.{AllByRecursion}
use Rattle.boss_model.specs.declared.answer.Answer.{Answer}
use Rattle.boss_model.specs.declared.command.Command.{Command}
use Rattle.boss_model.specs.declared.state.Actuator.{Actuator}
use Rattle.boss_model.specs.State.{State}
use Rattle.boss_lock.specs.Places.{entries_at}
use Rattle.boss_lock.proofs.Histories.{prefix_more, prefix_self}
use Rattle.boss_shared.specs.Calls.{is_growing_at, MayWant, RestFits}
use Rattle.boss_shared.specs.Gates.{all_held_by, denial_of_rest, denied_to, held_after, AllowedAll, Gate, Holding, NextJudged}
use Rattle.boss_shared.specs.Passes.{Batch, FailsBy, Turn, TurnsBy}
use Rattle.boss_shared.proofs.Turns.{deeds_append}
use Rattle.def_history.specs.declared.entry.Entry.{Entry}
use Rattle.def_history.specs.declared.entry.Entry.TheVariants.{Did}
use Rattle.def_history.specs.declared.outcome.Outcome.{Outcome}
use Rattle.def_history.specs.declared.outcome.Outcome.TheVariants.{Done, Stopped, DiskFault, NoMemory, Denied}
use Rattle.def_history.specs.History.{deeds, is_broken, IsLegal}
use Rattle.def_history.specs.Made.{done_by, is_growing}

-- this is the command of this number, from 0
pub record IsNext (calls : List (Command × ℕ)) (n : ℕ) (call : Command × ℕ) : Type 0 where
  pub within : n < length calls
  pub here : call ≡ get_or calls n call

pub all_more : (P : Answer → Type 0) (answers : List Answer) (given : Answer) → AllByRecursion P answers → P given → AllByRecursion P (answers ++ given ∷ [])
all_more P [] given all one = (one, tt)
all_more P (first ∷ answers) given all one = (all.0, all_more P answers given all.1 one)

growing_at : (calls : List (Command × ℕ)) (n : ℕ) (call : Command × ℕ) → IsNext calls n call → is_growing call.0 ≡ true → is_growing_at calls n ≡ true
growing_at [] n call next grows = absurd (let less = next.within in omega arith)
growing_at (first ∷ calls) zero call next grows = subst (λ (c : Command × ℕ). is_growing c.0 ≡ true) next.here grows
growing_at (first ∷ calls) (suc n) call next grows = growing_at calls n call (record { within = let less = next.within in omega arith; here = next.here }) grows

-- ---- what was done

done_none : (session : ℕ) (calls : List (Command × ℕ)) → done_by session calls [] ≡ []
done_none session [] = refl
done_none session (call ∷ calls) = refl

done_more : (session : ℕ) (calls : List (Command × ℕ)) (answers : List Answer) (call : Command × ℕ) (given : Answer) → IsNext calls (length answers) call →
    done_by session calls (answers ++ given ∷ []) ≡ done_by session calls answers ++ Did session call.0 call.1 given ∷ []
done_more session [] answers call given next = absurd (let less = next.within in omega arith)
done_more session (first ∷ calls) [] call given next =
    (λ i. Did session first.0 first.1 given ∷ done_none session calls i) ∙ ap (λ (c : Command × ℕ). Did session c.0 c.1 given ∷ []) (sym next.here)
done_more session (first ∷ calls) (earlier ∷ answers) call given next =
    ap (λ es. Did session first.0 first.1 earlier ∷ es)
    (done_more session calls answers call given (record { within = let less = next.within in omega arith; here = next.here }))

prefix_then : (xs ys zs : List Entry) → IsPrefix xs ys → IsPrefix ys zs → IsPrefix xs zs
prefix_then xs ys zs first second = subst (IsPrefix xs) second.1 (prefix_more xs ys second.0 first)

module _ (plant : List Actuator) (opening : State) (seen : List Entry) (mine : List ℕ) (session : ℕ) (calls : List (Command × ℕ)) where
  -- so many of them were answered, and nothing failed in them
  pub record SoFar (now : List Entry) (own : List ℕ) (answers : List Answer) : Type 0 where
    pub goes_on : IsPrefix seen now
    pub deeds_are : deeds (entries_at now own) ≡ deeds (entries_at seen mine) ++ done_by session calls answers
    pub legal : IsLegal plant now opening
    pub failed : is_broken now ≡ true → is_broken seen ≡ true

  pub so_far_none : (answers : List Answer) → answers ≡ [] → IsLegal plant seen opening → SoFar seen mine answers
  so_far_none answers nil legal = record {
    goes_on = prefix_self seen;
    deeds_are = sym (ap (λ (given : List Answer). deeds (entries_at seen mine) ++ done_by session calls given) nil
        ∙ ap (λ es. deeds (entries_at seen mine) ++ es) (done_none session calls) ∙ append-nil (deeds (entries_at seen mine)));
    legal = legal;
    failed = λ on. on;
  }

  module _ (now : List Entry) (own : List ℕ) (answers : List Answer) (now' : List Entry) (own' : List ℕ) (so : SoFar now own answers) where
    turned_on : (made : List Entry) (stopped : Bool) → Turn plant opening now own now' own' made stopped → IsPrefix seen now'
    turned_on made stopped t = subst (IsPrefix seen) (sym t.ends) (prefix_more seen t.before made (prefix_then seen now t.before so.goes_on t.goes_on))

    pub so_far_more : (call : Command × ℕ) (given : Answer) → IsNext calls (length answers) call →
        TurnsBy plant opening now own now' own' session call.0 call.1 (Done given) → is_broken now' ≡ false → SoFar now' own' (answers ++ given ∷ [])
    so_far_more call given next t fine =
        let one : List Entry = Did session call.0 call.1 given ∷ [] in record {
          goes_on = turned_on one false t;
          deeds_are = ap deeds t.entries ∙ deeds_append (entries_at now own) one ∙ ap (λ es. es ++ one) so.deeds_are
              ∙ append_assoc (deeds (entries_at seen mine)) (done_by session calls answers) one
              ∙ ap (λ es. deeds (entries_at seen mine) ++ es) (sym (done_more session calls answers call given next));
          legal = t.legal;
          failed = λ on. let clash : true ≡ false = sym on ∙ fine in absurd cc;
        }

    -- a turn that did nothing ends the batch
    turn_ends : (made : List Entry) (stopped : Bool) (rest : Option Outcome) → deeds made ≡ [] → Turn plant opening now own now' own' made stopped →
        FailsBy (is_broken seen) (is_broken now') rest → Batch plant opening seen mine now' own' session calls answers rest
    turn_ends made stopped rest nothing t fails = record {
      goes_on = turned_on made stopped t;
      deeds_are = ap deeds t.entries ∙ deeds_append (entries_at now own) made ∙ ap (λ es. deeds (entries_at now own) ++ es) nothing
          ∙ append-nil (deeds (entries_at now own)) ∙ so.deeds_are;
      legal = t.legal;
      failed = fails;
    }

    pub batch_ends : (asked : Command) (moment : ℕ) (outcome : Outcome) → ((given : Answer) → outcome ≡ Done given → ⊥) →
        TurnsBy plant opening now own now' own' session asked moment outcome → FailsBy (is_broken now) (is_broken now') (Some outcome) →
        Batch plant opening seen mine now' own' session calls answers (Some outcome)
    batch_ends asked moment (Done given) undone t fails = absurd (undone given refl)
    batch_ends asked moment Stopped undone t fails = turn_ends [] true (Some Stopped) refl t fails
    batch_ends asked moment DiskFault undone t fails = turn_ends _ false (Some DiskFault) refl t fails
    batch_ends asked moment NoMemory undone t fails = turn_ends [] false (Some NoMemory) refl t fails
    batch_ends asked moment (Denied index rule) undone t fails = record {
      goes_on = subst (IsPrefix seen) (sym t.0) so.goes_on;
      deeds_are = (λ i. deeds (entries_at (t.0 i) (t.1 i))) ∙ so.deeds_are;
      legal = subst (λ log. IsLegal plant log opening) (sym t.0) so.legal;
      failed = λ on. so.failed (sym (ap is_broken t.0) ∙ on);
    }

-- ---- what was held and denied

module _ (gates : List Gate) (session : ℕ) where
  pub allowed_none : (calls : List (Command × ℕ)) (answers : List Answer) (held after : List Holding) → answers ≡ [] → after ≡ held →
      AllowedAll gates session calls answers held after
  allowed_none [] answers held after nil same = same
  allowed_none (call ∷ calls) [] held after nil same = same
  allowed_none (call ∷ calls) (given ∷ answers) held after nil same = absurd cc

  pub allowed_more : (calls : List (Command × ℕ)) (answers : List Answer) (held mid : List Holding) (call : Command × ℕ) (given : Answer) →
      IsNext calls (length answers) call → AllowedAll gates session calls answers held mid → denied_to gates mid session call.0 ≡ None →
      AllowedAll gates session calls (answers ++ given ∷ []) held (all_held_by session call.0 given mid)
  allowed_more [] answers held mid call given next allowed free = absurd (let less = next.within in omega arith)
  allowed_more (first ∷ calls) [] held mid call given next allowed free =
      let so : denied_to gates held session first.0 ≡ None =
      (λ i. denied_to gates (sym allowed i) session (sym next.here i).0) ∙ free in
      (so, allowed_none calls [] _ _ refl (λ i. all_held_by session (next.here i).0 given (allowed i)))
  allowed_more (first ∷ calls) (earlier ∷ answers) held mid call given next allowed free =
      (allowed.0, allowed_more calls answers _ mid call given (record { within = let less = next.within in omega arith; here = next.here }) allowed.1 free)

  pub judged_at : (held : List Holding) (calls : List (Command × ℕ)) (n : ℕ) (call : Command × ℕ) (rest : Option Outcome) → IsNext calls n call →
      denial_of_rest rest ≡ denied_to gates held session call.0 → NextJudged gates held session calls n rest
  judged_at held [] n call rest next is = tt
  judged_at held (first ∷ calls) zero call rest next is = is ∙ ap (λ (c : Command × ℕ). denied_to gates held session c.0) next.here
  judged_at held (first ∷ calls) (suc n) call rest next is =
      judged_at held calls n call rest (record { within = let less = next.within in omega arith; here = next.here }) is

  pub judged_all : (held : List Holding) (calls : List (Command × ℕ)) (n : ℕ) (rest : Option Outcome) → n ≡ length calls → NextJudged gates held session calls n rest
  judged_all held [] n rest all = tt
  judged_all held (call ∷ calls) zero rest all = absurd (omega arith)
  judged_all held (call ∷ calls) (suc n) rest all = judged_all held calls n rest (omega arith)

-- what was not done leaves what is held
pub undone_holds : (session : ℕ) (asked : Command) (outcome : Outcome) (held : List Holding) → ((given : Answer) → outcome ≡ Done given → ⊥) →
    held_after session asked outcome held ≡ held
undone_holds session asked (Done given) held undone = absurd (undone given refl)
undone_holds session asked Stopped held undone = refl
undone_holds session asked DiskFault held undone = refl
undone_holds session asked NoMemory held undone = refl
undone_holds session asked (Denied index rule) held undone = refl

pub rest_fits : (calls : List (Command × ℕ)) (n : ℕ) (call : Command × ℕ) (outcome : Outcome) → IsNext calls n call → ((given : Answer) → outcome ≡ Done given → ⊥) →
    MayWant call.0 outcome → RestFits calls n (Some outcome)
rest_fits calls n call (Done given) next undone want = absurd (undone given refl)
rest_fits calls n call Stopped next undone want = next.within
rest_fits calls n call DiskFault next undone want = next.within
rest_fits calls n call NoMemory next undone want = (next.within, growing_at calls n call next want)
rest_fits calls n call (Denied index rule) next undone want = next.within

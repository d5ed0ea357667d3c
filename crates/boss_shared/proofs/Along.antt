-- A group whose callers are dealt with in order.
use Rattle.std.proofs.Common.{◌≡◌, false, ℕ, zero, suc, ◌+◌, ◌<◌, ◌≤◌, List, [], ◌∷◌, ◌++◌, length, drop, get_or, set, Option, Some, None, refl, sym, ap, ◌∙◌, subst, arith, append-nil, append_assoc, length-append, drop_of_length-le}
use Rattle.std.specs.List.{AllByRecursion}
use Rattle.boss_model.specs.declared.command.Command.{Command}
use Rattle.boss_model.specs.declared.state.Actuator.{Actuator}
use Rattle.def_history.specs.declared.outcome.Outcome.{Outcome}
use Rattle.def_history.specs.declared.outcome.Outcome.TheVariants.{Done, Stopped, DiskFault, NoMemory, Denied}
use Rattle.def_history.specs.History.{MayCall}
use Rattle.boss_shared.specs.declared.asked.Asked.{Asked}
use Rattle.boss_shared.specs.Calls.{has_failed_rest, is_stopped_rest, NoneDone, RestFits}
use Rattle.boss_shared.specs.Gates.{denial_of_rest}
use Rattle.boss_shared.specs.Together.{commands_in, made_together, AreSameAsked, IsReplied, IsSameAsked, MayAsk}
use Rattle.boss_shared.proofs.Together.{answered, commands_append, drop_at, get_behind, made_answered, same_asked, same_commands, set_behind, IsFine}

-- ---- what is asked of those of whom the same is asked

pub same_may : (plant : List Actuator) (before now : List Asked) → AreSameAsked before now → AllByRecursion (MayAsk plant) before → AllByRecursion (MayAsk plant) now
same_may plant [] [] same may = tt
same_may plant [] (y ∷ now) same may = absurd same
same_may plant (x ∷ before) [] same may = absurd same
same_may plant (x ∷ before) (y ∷ now) same may = (
  record {
    some = subst (λ (calls : List (Command × ℕ)). 1 ≤ length calls) (sym same.0.commands) may.0.some;
    few = subst (λ (calls : List (Command × ℕ)). length calls ≤ 16) (sym same.0.commands) may.0.few;
    may = subst (AllByRecursion (MayCall plant)) (sym same.0.commands) may.0.may;
    room = subst (λ (q : List (Command × ℕ) × ℕ). length q.0 ≤ q.1) (λ i. (sym same.0.commands i, sym same.0.room i)) may.0.room;
  },
  same_may plant before now same.1 may.1,
)

pub same_length : (before now : List Asked) → AreSameAsked before now → length now ≡ length before
same_length [] [] same = refl
same_length [] (y ∷ now) same = absurd same
same_length (x ∷ before) [] same = absurd same
same_length (x ∷ before) (y ∷ now) same = ap suc (same_length before now same.1)

-- ---- one more in order

same_set : (xs ys : List Asked) (k : ℕ) (other new : Asked) → AreSameAsked xs ys → k < length ys → IsSameAsked (get_or ys k other) new → AreSameAsked xs (set ys k new)
same_set [] [] k other new same less kept = absurd (omega arith)
same_set [] (y ∷ ys) k other new same less kept = absurd same
same_set (x ∷ xs) [] k other new same less kept = absurd same
same_set (x ∷ xs) (y ∷ ys) zero other new same less kept = (
  record { session = kept.session ∙ same.0.session; commands = kept.commands ∙ same.0.commands; room = kept.room ∙ same.0.room },
  same.1,
)
same_set (x ∷ xs) (y ∷ ys) (suc k) other new same less kept = (same.0, same_set xs ys k other new same.1 (omega arith) kept)

all_behind : {X : Type 0} (P : X → Type 0) (k : ℕ) (xs : List X) → AllByRecursion P xs → AllByRecursion P (drop k xs)
all_behind P zero xs all = all
all_behind P (suc k) [] all = tt
all_behind P (suc k) (x ∷ xs) all = all_behind P k xs all.1

-- Those before this place were dealt with, and here is what they are now. What was asked stays.
pub record IsAlong (before now : List Asked) (place : ℕ) (done : List Asked) : Type 0 where
  pub now_is : now ≡ done ++ drop place before
  pub many : length done ≡ place
  pub same : AreSameAsked before now

pub along_nothing : (group : List Asked) → IsAlong group group 0 []
along_nothing group = record { now_is = refl; many = refl; same = same_asked group }

module _ (before now : List Asked) (place : ℕ) (done : List Asked) (along : IsAlong before now place done) where
  -- at the end these are all
  pub along_end : length before ≤ place → now ≡ done
  along_end end = along.now_is ∙ ap (λ l. done ++ l) (drop_of_length-le before end) ∙ append-nil done

  pub along_made : length before ≤ place → AllByRecursion IsFine done → made_together now ≡ answered done
  along_made end fine = ap made_together (along_end end) ∙ made_answered done fine

  -- the one at the place
  module _ (other : Asked) (less : place < length before) where
    behind_is : drop place before ≡ get_or now place other ∷ drop (suc place) before
    behind_is =
        let at = drop_at before place less in
        let here : get_or now place other ≡ at.0 =
        ap (λ g. get_or g place other) (along.now_is ∙ ap (λ l. done ++ l) at.1)
        ∙ ap (λ (n : ℕ). get_or (done ++ at.0 ∷ drop (suc place) before) n other) (sym along.many)
        ∙ get_behind done at.0 other (drop (suc place) before) in
        at.1 ∙ ap (λ x. x ∷ drop (suc place) before) (sym here)

    now_so : now ≡ done ++ get_or now place other ∷ drop (suc place) before
    now_so = along.now_is ∙ ap (λ l. done ++ l) behind_is

    pub along_at : (P : Asked → Type 0) → AllByRecursion P before → P (get_or now place other)
    along_at P all = (subst (AllByRecursion P) behind_is (all_behind P place before all)).0

    -- it asks for no more than the others leave
    pub along_few : commands_in done + length (get_or now place other).commands ≤ commands_in before
    along_few = omega (arith, same_commands before now along.same, ap commands_in now_so, commands_append done (get_or now place other ∷ drop (suc place) before))

    pub along_next : (new : Asked) → IsSameAsked (get_or now place other) new → IsAlong before (set now place new) (place + 1) (done ++ new ∷ [])
    along_next new kept =
        let next : suc place ≡ place + 1 = omega arith in
        record {
          now_is =
              ap (λ g. set g place new) now_so
              ∙ ap (λ (n : ℕ). set (done ++ get_or now place other ∷ drop (suc place) before) n new) (sym along.many)
              ∙ set_behind done (get_or now place other) new (drop (suc place) before)
              ∙ sym (append_assoc done (new ∷ []) (drop (suc place) before))
              ∙ ap (λ (n : ℕ). (done ++ new ∷ []) ++ drop n before) next;
          many = omega (arith, length-append done (new ∷ []), along.many);
          same = same_set before now place other new along.same (omega (arith, less, same_length before now along.same)) kept;
        }

-- ---- one caller whose disk did not fail

fine_stops : (rest : Option Outcome) → has_failed_rest rest ≡ false → is_stopped_rest rest ≡ false
fine_stops None fine = refl
fine_stops (Some (Done answer)) fine = refl
fine_stops (Some Stopped) fine = absurd cc
fine_stops (Some DiskFault) fine = refl
fine_stops (Some NoMemory) fine = refl
fine_stops (Some (Denied index rule)) fine = refl

fine_together : (done : ℕ) (rest : Option Outcome) → has_failed_rest rest ≡ false → NoneDone done rest
fine_together done None fine = tt
fine_together done (Some (Done answer)) fine = tt
fine_together done (Some Stopped) fine = absurd cc
fine_together done (Some DiskFault) fine = absurd cc
fine_together done (Some NoMemory) fine = tt
fine_together done (Some (Denied index rule)) fine = tt

pub fine_replied : (asked : Asked) → IsFine asked → length asked.answers.items ≡ asked.outcomes.done → RestFits asked.commands asked.outcomes.done asked.outcomes.rest →
    denial_of_rest asked.outcomes.rest ≡ None → IsReplied false asked
fine_replied asked fine many fits undenied = record {
  stops = fine_stops asked.outcomes.rest fine;
  done = many;
  rest = fits;
  together = fine_together asked.outcomes.done asked.outcomes.rest fine;
  undenied = undenied;
}

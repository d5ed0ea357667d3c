-- What several callers ask for, and what was made of it, one caller behind another.
use Rattle.std.proofs.Common.{◌≡◌, Bool, true, false, ◌||◌, ℕ, zero, suc, ◌+◌, ◌<◌, ◌≤◌, List, [], ◌∷◌, ◌++◌, length, map, take, drop, get_or, set, Option, Some, None, refl, sym, ap, ◌∙◌, subst, arith, append-nil, append_assoc, length-append}
use Rattle.std.specs.List.{AllByRecursion}
use Rattle.boss_model.specs.declared.command.Command.{Command}
use Rattle.boss_model.specs.declared.state.Actuator.{Actuator}
use Rattle.def_history.specs.declared.entry.Entry.{Entry}
use Rattle.def_history.specs.declared.entry.Tried.{Tried}
use Rattle.def_history.specs.declared.outcome.Outcome.{Outcome}
use Rattle.def_history.specs.declared.outcome.Outcome.TheVariants.{Done, Stopped, DiskFault, NoMemory, Denied}
use Rattle.def_history.specs.declared.outcome.Outcomes.{Outcomes}
use Rattle.def_history.specs.History.{is_broken, MayCall, MayTry}
use Rattle.def_history.specs.Made.{done_by, mark_by}
use Rattle.def_history.proofs.Going.{broken_append}
use Rattle.boss_shared.specs.declared.asked.Asked.{Asked}
use Rattle.boss_shared.specs.Calls.{has_failed_rest, is_stopped_rest, NoneDone, RestFits}
use Rattle.boss_shared.specs.Gates.{denial_of_rest}
use Rattle.boss_shared.specs.Together.{commands_in, made_of, made_together, tried_of, AreReplied, AreSameAsked, AsksSome, IsReplied, IsSameAsked, MayAsk}
use Rattle.boss_shared.proofs.Turns.{broken_done}

-- ---- what is asked

pub asks_some : (plant : List Actuator) (group : List Asked) → AllByRecursion (MayAsk plant) group → AllByRecursion AsksSome group
asks_some plant [] may = tt
asks_some plant (asked ∷ group) may = (may.0.some, asks_some plant group may.1)

-- no more callers than commands
pub few_asked : (group : List Asked) → AllByRecursion AsksSome group → length group ≤ commands_in group
few_asked [] some = omega arith
few_asked (asked ∷ group) some =
    let first : 1 ≤ length asked.commands = some.0 in
    let rest = few_asked group some.1 in
    omega arith

pub commands_append : (xs ys : List Asked) → commands_in (xs ++ ys) ≡ commands_in xs + commands_in ys
commands_append [] ys = omega arith
commands_append (x ∷ xs) ys = let rest = commands_append xs ys in omega arith

pub same_asked : (group : List Asked) → AreSameAsked group group
same_asked [] = tt
same_asked (asked ∷ group) = (record { session = refl; commands = refl; room = refl }, same_asked group)

pub same_then : (xs ys zs : List Asked) → AreSameAsked xs ys → AreSameAsked ys zs → AreSameAsked xs zs
same_then [] [] [] first then = tt
same_then [] [] (z ∷ zs) first then = absurd then
same_then [] (y ∷ ys) zs first then = absurd first
same_then (x ∷ xs) [] zs first then = absurd first
same_then (x ∷ xs) (y ∷ ys) [] first then = absurd then
same_then (x ∷ xs) (y ∷ ys) (z ∷ zs) first then = (
  record { session = then.0.session ∙ first.0.session; commands = then.0.commands ∙ first.0.commands; room = then.0.room ∙ first.0.room },
  same_then xs ys zs first.1 then.1,
)

pub same_commands : (xs ys : List Asked) → AreSameAsked xs ys → commands_in ys ≡ commands_in xs
same_commands [] [] same = refl
same_commands [] (y ∷ ys) same = absurd same
same_commands (x ∷ xs) [] same = absurd same
same_commands (x ∷ xs) (y ∷ ys) same = λ i. length (same.0.commands i) + same_commands xs ys same.1 i

-- what was tried of commands that may be asked for may be tried
front_may : {X : Type 0} (P : X → Type 0) (k : ℕ) (xs : List X) → AllByRecursion P xs → AllByRecursion P (take k xs)
front_may P zero xs all = tt
front_may P (suc k) [] all = tt
front_may P (suc k) (x ∷ xs) all = (all.0, front_may P k xs all.1)

pub may_try : (plant : List Actuator) (group : List Asked) → AllByRecursion (MayAsk plant) group → AllByRecursion (MayTry plant) (map tried_of group)
may_try plant [] may = tt
may_try plant (asked ∷ group) may = (front_may (MayCall plant) asked.tried asked.commands may.0.may, may_try plant group may.1)

-- ---- where no disk failed

pub mark_none : (others : List Tried) (session : ℕ) (calls : List (Command × ℕ)) (rest : Option Outcome) → has_failed_rest rest ≡ false → mark_by others session calls rest ≡ []
mark_none others session calls None fine = refl
mark_none others session calls (Some (Done answer)) fine = refl
mark_none others session calls (Some Stopped) fine = refl
mark_none others session calls (Some DiskFault) fine = absurd cc
mark_none others session calls (Some NoMemory) fine = refl
mark_none others session calls (Some (Denied index rule)) fine = refl

abbrev pub IsFine : Asked → Type 0
IsFine asked = has_failed_rest asked.outcomes.rest ≡ false

-- the entries of what was answered
abbrev pub answered : List Asked → List Entry
answered [] = []
answered (asked ∷ group) = done_by asked.session asked.commands asked.answers.items ++ answered group

pub answered_append : (xs ys : List Asked) → answered (xs ++ ys) ≡ answered xs ++ answered ys
answered_append [] ys = refl
answered_append (x ∷ xs) ys =
    ap (λ es. done_by x.session x.commands x.answers.items ++ es) (answered_append xs ys)
    ∙ sym (append_assoc (done_by x.session x.commands x.answers.items) (answered xs) (answered ys))

pub answered_whole : (group : List Asked) → is_broken (answered group) ≡ false
answered_whole [] = refl
answered_whole (asked ∷ group) =
    broken_append (done_by asked.session asked.commands asked.answers.items) (answered group)
    ∙ (λ i. broken_done asked.session asked.commands asked.answers.items i || answered_whole group i)

-- that is all that was made
pub made_answered : (group : List Asked) → AllByRecursion IsFine group → made_together group ≡ answered group
made_answered [] fine = refl
made_answered (asked ∷ group) fine =
    (λ i. (done_by asked.session asked.commands asked.answers.items
    ++ mark_none (map tried_of group) asked.session asked.commands asked.outcomes.rest fine.0 i) ++ made_answered group fine.1 i)
    ∙ ap (λ es. es ++ answered group) (append-nil (done_by asked.session asked.commands asked.answers.items))

pub replied_fine : (group : List Asked) → AllByRecursion (IsReplied false) group → AllByRecursion IsFine group → AreReplied false group
replied_fine [] told fine = tt
replied_fine (asked ∷ group) told fine =
    (told.0, subst (λ (b : Bool). AreReplied b group) (sym fine.0) (replied_fine group told.1 fine.1))

-- ---- where nothing was done

-- none of a caller's commands was done, and this is why
pub record IsUndone (why : Outcome) (asked : Asked) : Type 0 where
  pub none : asked.answers.items ≡ []
  pub outcomes : asked.outcomes ≡ record { done = 0; rest = Some why }

done_none : (session : ℕ) (calls : List (Command × ℕ)) → done_by session calls [] ≡ []
done_none session [] = refl
done_none session (call ∷ calls) = refl

pub undone_made : (why : Outcome) (asked : Asked) (behind : List Asked) → IsUndone why asked →
    made_of asked behind ≡ mark_by (map tried_of behind) asked.session asked.commands (Some why)
undone_made why asked behind un =
    (λ i. done_by asked.session asked.commands (un.none i) ++ mark_by (map tried_of behind) asked.session asked.commands (un.outcomes i).rest)
    ∙ ap (λ es. es ++ mark_by (map tried_of behind) asked.session asked.commands (Some why)) (done_none asked.session asked.commands)

pub stopped_made : (group : List Asked) → AllByRecursion (IsUndone Stopped) group → made_together group ≡ []
stopped_made [] all = refl
stopped_made (asked ∷ group) all = λ i. undone_made Stopped asked group all.0 i ++ stopped_made group all.1 i

stopped_reply : (asked : Asked) → AsksSome asked → IsUndone Stopped asked → IsReplied true asked
stopped_reply asked some un = record {
  stops = ap (λ (o : Outcomes). is_stopped_rest o.rest) un.outcomes;
  done = ap length un.none ∙ sym (ap (λ (o : Outcomes). o.done) un.outcomes);
  rest = subst (λ (o : Outcomes). RestFits asked.commands o.done o.rest) (sym un.outcomes) some;
  together = subst (λ (o : Outcomes). NoneDone o.done o.rest) (sym un.outcomes) refl;
  undenied = ap (λ (o : Outcomes). denial_of_rest o.rest) un.outcomes;
}

pub stopped_replied : (group : List Asked) → AllByRecursion AsksSome group → AllByRecursion (IsUndone Stopped) group → AreReplied true group
stopped_replied [] some all = tt
stopped_replied (asked ∷ group) some all = (
  stopped_reply asked some.0 all.0,
  subst (λ (b : Bool). AreReplied b group) (sym (ap (λ (o : Outcomes). has_failed_rest o.rest) all.0.outcomes)) (stopped_replied group some.1 all.1),
)

-- ---- one more of a group, where those before it were dealt with

pub set_behind : {X : Type 0} (done : List X) (x new : X) (ys : List X) → set (done ++ x ∷ ys) (length done) new ≡ done ++ new ∷ ys
set_behind [] x new ys = refl
set_behind (d ∷ done) x new ys = ap (λ l. d ∷ l) (set_behind done x new ys)

pub get_behind : {X : Type 0} (done : List X) (x other : X) (ys : List X) → get_or (done ++ x ∷ ys) (length done) other ≡ x
get_behind [] x other ys = refl
get_behind (d ∷ done) x other ys = get_behind done x other ys

pub drop_at : {X : Type 0} (xs : List X) (k : ℕ) → k < length xs → (x : X) × (drop k xs ≡ x ∷ drop (suc k) xs)
drop_at [] k less = absurd (omega arith)
drop_at (x ∷ xs) zero less = (x, refl)
drop_at (x ∷ xs) (suc k) less = drop_at xs k (omega arith)

-- so many of a group were told that the disk had failed before
pub record AreStopped (count : ℕ) (group now : List Asked) : Type 0 where
  pub done : List Asked
  pub now_is : now ≡ done ++ drop count group
  pub long : length done ≡ count
  pub undone : AllByRecursion (IsUndone Stopped) done
  pub same : AreSameAsked (take count group) done
  pub tried : map tried_of done ≡ map tried_of (take count group)

pub all_more : {X : Type 0} (P : X → Type 0) (xs : List X) (x : X) → AllByRecursion P xs → P x → AllByRecursion P (xs ++ x ∷ [])
all_more P [] x all one = (one, tt)
all_more P (y ∷ xs) x all one = (all.0, all_more P xs x all.1 one)

same_more : (xs ys : List Asked) (x y : Asked) → AreSameAsked xs ys → IsSameAsked x y → AreSameAsked (xs ++ x ∷ []) (ys ++ y ∷ [])
same_more [] [] x y same one = (one, tt)
same_more [] (b ∷ ys) x y same one = absurd same
same_more (a ∷ xs) [] x y same one = absurd same
same_more (a ∷ xs) (b ∷ ys) x y same one = (same.0, same_more xs ys x y same.1 one)

map_more : {X Y : Type 0} (f : X → Y) (xs : List X) (x : X) → map f (xs ++ x ∷ []) ≡ map f xs ++ f x ∷ []
map_more f [] x = refl
map_more f (y ∷ xs) x = ap (λ l. f y ∷ l) (map_more f xs x)

take_one_more : {X : Type 0} (xs : List X) (k : ℕ) (x : X) (ys : List X) → drop k xs ≡ x ∷ ys → take (suc k) xs ≡ take k xs ++ x ∷ []
take_one_more [] zero x ys is = absurd cc
take_one_more [] (suc k) x ys is = absurd cc
take_one_more (a ∷ xs) zero x ys is = ap (λ l. take 1 l) is
take_one_more (a ∷ xs) (suc k) x ys is = ap (λ l. a ∷ l) (take_one_more xs k x ys is)

pub one_stopped : (count : ℕ) (group now : List Asked) (other x new : Asked) → AreStopped count group now → count < length group → get_or now count other ≡ x → IsUndone Stopped new → IsSameAsked x new → tried_of new ≡ tried_of x →
    AreStopped (count + 1) group (set now count new)
one_stopped count group now other x new at less is un same tried =
    let front = drop_at group count less in
    let found : x ≡ front.0 = sym is ∙ (λ i. get_or (at.now_is i) count other) ∙ (λ i. get_or (at.done ++ front.1 i) (sym at.long i) other) ∙ get_behind at.done front.0 other (drop (suc count) group) in
    let next : suc count ≡ count + 1 = omega arith in
    subst (λ (n : ℕ). AreStopped n group (set now count new)) next (record {
      done = at.done ++ new ∷ [];
      now_is = (λ i. set (at.now_is i) count new) ∙ (λ i. set (at.done ++ front.1 i) (sym at.long i) new) ∙ set_behind at.done front.0 new (drop (suc count) group)
          ∙ sym (append_assoc at.done (new ∷ []) (drop (suc count) group));
      long = let both = length-append at.done (new ∷ []) in let long = at.long in omega arith;
      undone = all_more (IsUndone Stopped) at.done new at.undone un;
      same = subst (λ l. AreSameAsked l (at.done ++ new ∷ [])) (sym (take_one_more group count front.0 (drop (suc count) group) front.1))
          (same_more (take count group) at.done front.0 new at.same (subst (λ a. IsSameAsked a new) found same));
      tried = map_more tried_of at.done new ∙ (λ i. at.tried i ++ (tried ∙ ap tried_of found) i ∷ []) ∙ sym (map_more tried_of (take count group) front.0)
          ∙ ap (map tried_of) (sym (take_one_more group count front.0 (drop (suc count) group) front.1));
    })

drop_past : {X : Type 0} (xs : List X) (k : ℕ) → length xs ≤ k → drop k xs ≡ []
drop_past [] zero less = refl
drop_past [] (suc k) less = refl
drop_past (x ∷ xs) zero less = absurd (omega arith)
drop_past (x ∷ xs) (suc k) less = drop_past xs k (omega arith)

take_past : {X : Type 0} (xs : List X) (k : ℕ) → length xs ≤ k → take k xs ≡ xs
take_past [] zero less = refl
take_past [] (suc k) less = refl
take_past (x ∷ xs) zero less = absurd (omega arith)
take_past (x ∷ xs) (suc k) less = ap (λ l. x ∷ l) (take_past xs k (omega arith))

-- all of a group were
pub record HasStopped (group now : List Asked) : Type 0 where
  pub undone : AllByRecursion (IsUndone Stopped) now
  pub same : AreSameAsked group now
  pub tried : map tried_of now ≡ map tried_of group

pub all_stopped : (count : ℕ) (group now : List Asked) → AreStopped count group now → length group ≤ count → HasStopped group now
all_stopped count group now at all =
    let whole : now ≡ at.done = at.now_is ∙ ap (λ l. at.done ++ l) (drop_past group count all) ∙ append-nil at.done in
    record {
      undone = subst (AllByRecursion (IsUndone Stopped)) (sym whole) at.undone;
      same = subst (λ (q : List Asked × List Asked). AreSameAsked q.0 q.1) (λ i. (take_past group count all i, sym whole i)) at.same;
      tried = ap (map tried_of) whole ∙ at.tried ∙ ap (map tried_of) (take_past group count all);
    }

pub some_same : (xs ys : List Asked) → AreSameAsked xs ys → AllByRecursion AsksSome xs → AllByRecursion AsksSome ys
some_same [] [] same some = tt
some_same [] (y ∷ ys) same some = absurd same
some_same (x ∷ xs) [] same some = absurd same
some_same (x ∷ xs) (y ∷ ys) same some = (subst (λ (l : List (Command × ℕ)). 1 ≤ length l) (sym same.0.commands) some.0, some_same xs ys same.1 some.1)

pub same_long : (xs ys : List Asked) → AreSameAsked xs ys → length ys ≡ length xs
same_long [] [] same = refl
same_long [] (y ∷ ys) same = absurd same
same_long (x ∷ xs) [] same = absurd same
same_long (x ∷ xs) (y ∷ ys) same = let rest = same_long xs ys same.1 in omega arith

-- all of a vector's items were written anew
pub written_back : {X : Type 0} (new old : List X) (count : ℕ) → length new ≡ length old → count ≡ length old → take count (new ++ drop (length new) old) ≡ new
written_back new old count same long =
    ap (take count) (ap (λ l. new ++ l) (drop_past old (length new) (omega arith)) ∙ append-nil new) ∙ take_past new count (omega arith)

pub no_length : {X : Type 0} (xs : List X) → length xs ≡ 0 → xs ≡ []
no_length [] none = refl
no_length (x ∷ xs) none = absurd (omega arith)

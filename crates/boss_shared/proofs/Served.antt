-- A turn in which callers are served, one behind another; and what a caller has of it.
use Rattle.std.proofs.Common.{◌≡◌, Bool, ◌||◌, ℕ, ◌+◌, ◌≤◌, List, [], ◌∷◌, ◌++◌, length, map, Option, Some, None, refl, sym, ap, ◌∙◌, subst, arith, append_assoc}
use Rattle.boss_model.specs.declared.answer.Answer.{Answer}
use Rattle.boss_model.specs.declared.command.Command.{Command}
use Rattle.std.specs.List.{AllByRecursion}
use Rattle.boss_model.specs.declared.state.Actuator.{Actuator}
use Rattle.boss_model.specs.Catalogue.{actuators, Catalogue}
use Rattle.boss_model.specs.State.{State}
use Rattle.boss_model.specs.Tellable.{IsTellable}
use Rattle.boss_lock.specs.Seats.{Lock, Standing, with_parts_of, IsSeatOf}
use Rattle.def_history.specs.declared.entry.Entry.{Entry}
use Rattle.def_history.specs.declared.entry.Tried.{Tried}
use Rattle.def_history.specs.declared.outcome.Outcome.{Outcome}
use Rattle.def_history.specs.declared.outcome.Outcomes.{Outcomes}
use Rattle.def_history.specs.History.{is_broken, IsLegal}
use Rattle.def_history.specs.Made.{made_by_all}
use Rattle.def_history.proofs.Going.{broken_append, legal_front}
use Rattle.boss_shared.specs.declared.asked.Asked.{Asked}
use Rattle.boss_shared.specs.declared.group.Owed.{Owed}
use Rattle.boss_shared.specs.Calls.{has_failed_rest, is_stopped_rest, NoneDone, RestFits}
use Rattle.boss_shared.specs.Gates.{denial_of_rest}
use Rattle.boss_shared.specs.Passes.{IsPassOf, Turn}
use Rattle.boss_shared.specs.Groups.{AreOwed, IsBare, IsCollected, IsIdleOf, IsOwed, IsTaken}
use Rattle.boss_shared.specs.Together.{commands_in, made_of, made_together, tried_of, AreReplied, AreSameAsked, IsPaired, IsReplied, IsServed, MayAsk}
use Rattle.boss_shared.proofs.Telling.{calls_told}
use Rattle.boss_shared.proofs.Together.{all_more, asks_some, commands_append, few_asked}
use Rattle.boss_shared.proofs.Turns.{broken_made_all, broken_mark}

-- ---- what a caller has that was served

module _ {T : Type 0} (plant : T → List Actuator) (opening : T → State) (start : T) (seat told : Standing T Entry) (asked replied : Asked)
    (served : IsServed plant opening seat told asked replied) (of : seat.start ≡ Some start) where
  pub served_turn : Turn (plant start) (opening start) seat.seen seat.places told.seen told.places (made_of replied served.behind) (is_stopped_rest replied.outcomes.rest)
  served_turn = record {
    before = served.before;
    goes_on = served.goes_on;
    ends = ap (λ s. s.seen) served.turned;
    places = ap (λ s. s.places) served.turned;
    entries = served.own;
    legal = subst (λ log. IsLegal (plant start) log (opening start)) (sym (ap (λ s. s.seen) served.turned)) (served.legal start of);
    stopped_is = served.says.stops;
  }

  pub served_owned : (lock : Lock T) → IsSeatOf lock seat → IsSeatOf lock told × (told.turn ≡ None) × IsPassOf (plant start) (opening start) told.seen told.places
  served_owned lock own = (
    (ap (λ s. s.table) served.turned ∙ own.0, ap (λ s. s.start) served.turned ∙ own.1),
    ap (λ s. s.turn) served.turned,
    record {
      sound = served.sound start of;
      legal = subst (λ log. IsLegal (plant start) log (opening start)) (sym (ap (λ s. s.seen) served.turned)) (served.legal start of);
      places = served.places;
    },
  )

  pub served_parts : told.parts ≡ seat.parts
  served_parts = ap (λ s. s.parts) served.turned

-- ---- the turn goes on

-- the disk has failed behind a caller's entries exactly where its outcome says so
pub broken_behind : (before : List Entry) (others : List Tried) (session : ℕ) (calls : List (Command × ℕ)) (answers : List Answer) (rest : Option Outcome) →
    is_stopped_rest rest ≡ is_broken before → is_broken (before ++ made_by_all others session calls answers rest) ≡ has_failed_rest rest
broken_behind before others session calls answers rest stopped =
    broken_append before (made_by_all others session calls answers rest)
    ∙ (λ i. sym stopped i || broken_made_all others session calls answers rest i) ∙ broken_mark others session calls rest

-- So many callers are still to be served behind this history, which the value behind the lock is ahead of by what they made.
pub record AtReplies (plant : List Actuator) (opening : State) (log : List Entry) (group : List Asked) : Type 0 where
  pub legal : IsLegal plant (log ++ made_together group) opening
  pub told : AreReplied (is_broken log) group

module _ (plant : List Actuator) (opening : State) (log : List Entry) (first : Asked) (group : List Asked) (at : AtReplies plant opening log (first ∷ group)) where
  pub one_legal : IsLegal plant (log ++ made_of first group) opening
  one_legal =
      legal_front plant (log ++ made_of first group) (made_together group) opening
      (subst (λ es. IsLegal plant es opening) (sym (append_assoc log (made_of first group) (made_together group))) at.legal)

  pub one_told : IsReplied (is_broken log) first
  one_told = at.told.0

  pub next_at : AtReplies plant opening (log ++ made_of first group) group
  next_at = record {
    legal = subst (λ es. IsLegal plant es opening) (sym (append_assoc log (made_of first group) (made_together group))) at.legal;
    told = subst (λ (b : Bool). AreReplied b group) (sym (broken_behind log _ _ _ _ first.outcomes.rest at.told.0.stops)) at.told.1;
  }

-- ---- what a caller has that collected its reply

module _ {T : Type 0} (plant : T → List Actuator) (opening : T → State) (lock : Lock T) (old seat runner now : Standing T Entry) (asked : Asked) (answers : List Answer) (room : ℕ)
    (outcomes : Outcomes) (got : IsCollected plant opening seat asked now answers room outcomes) (whole : with_parts_of seat runner ≡ old) (bare : IsBare runner) (own : IsIdleOf lock seat) where
  told_turn : Turn (plant lock.start) (opening lock.start) seat.seen seat.places got.told.seen got.told.places (made_of got.replied got.served.behind) (is_stopped_rest got.replied.outcomes.rest)
  told_turn = served_turn plant opening lock.start seat got.told asked got.replied got.served own.0.1

  pub collected_turn : Turn (plant lock.start) (opening lock.start) old.seen old.places now.seen now.places
      (made_by_all (map tried_of got.served.behind) asked.session asked.commands answers outcomes.rest) (is_stopped_rest outcomes.rest)
  collected_turn =
      subst (λ (q : List Entry × List ℕ × List Entry × List ℕ × ℕ × List (Command × ℕ) × List Answer × Option Outcome).
      Turn (plant lock.start) (opening lock.start) q.0 q.1 q.2 q.3 (made_by_all (map tried_of got.served.behind) q.4 q.5 q.6 q.7) (is_stopped_rest q.7))
      (λ i. (
        (whole i).seen,
        (whole i).places,
        (sym got.seat_is i).seen,
        (sym got.seat_is i).places,
        got.served.same.session i,
        got.served.same.commands i,
        sym got.answers_are i,
        (sym got.outcomes_are i).rest,
      )) told_turn

  -- as many parts as before
  pub collected_parts : now.parts ≡ old.parts
  collected_parts =
      ap (λ s. s.parts) got.seat_is ∙ ap (λ (n : ℕ). n + 1) (served_parts plant opening lock.start seat got.told asked got.replied got.served own.0.1)
      ∙ ap (λ (n : ℕ). seat.parts + n) (sym bare.0) ∙ ap (λ s. s.parts) whole

  pub collected_owned : IsPaired old.parts → IsPaired lock.seats →
      IsSeatOf lock now × (now.turn ≡ None) × IsPassOf (plant lock.start) (opening lock.start) now.seen now.places × IsPaired now.parts × IsPaired lock.seats
  collected_owned paired seats =
      let has = served_owned plant opening lock.start seat got.told asked got.replied got.served own.0.1 lock own.0 in (
        (ap (λ s. s.table) got.seat_is ∙ has.0.0, ap (λ s. s.start) got.seat_is ∙ has.0.1),
        ap (λ s. s.turn) got.seat_is ∙ has.1,
        subst (λ (q : List Entry × List ℕ). IsPassOf (plant lock.start) (opening lock.start) q.0 q.1) (λ i. ((sym got.seat_is i).seen, (sym got.seat_is i).places)) has.2,
        subst IsPaired (sym collected_parts) paired,
        seats,
      )

  pub collected_done : length answers ≡ outcomes.done
  collected_done = ap length got.answers_are ∙ got.served.says.done ∙ sym (ap (λ (o : Outcomes). o.done) got.outcomes_are)

  pub collected_rest : RestFits asked.commands outcomes.done outcomes.rest
  collected_rest =
      subst (λ (q : List (Command × ℕ) × Outcomes). RestFits q.0 q.1.done q.1.rest) (λ i. (got.served.same.commands i, sym got.outcomes_are i)) got.served.says.rest

  pub collected_together : NoneDone outcomes.done outcomes.rest
  collected_together = subst (λ (o : Outcomes). NoneDone o.done o.rest) (sym got.outcomes_are) got.served.says.together

  pub collected_undenied : denial_of_rest outcomes.rest ≡ None
  collected_undenied = ap (λ (o : Outcomes). denial_of_rest o.rest) got.outcomes_are ∙ got.served.says.undenied

  pub collected_told : (catalogue : Catalogue) → actuators catalogue ≡ plant lock.start → AllByRecursion (IsTellable catalogue) answers
  collected_told catalogue is =
      let told = got.replied in
      subst (AllByRecursion (IsTellable catalogue)) (sym got.answers_are)
      (calls_told (plant lock.start) (opening lock.start) got.served.before told.session (map tried_of got.served.behind) told.commands told.answers.items told.outcomes.done told.outcomes.rest
      (got.served.sound lock.start own.0.1) (got.served.legal lock.start own.0.1) got.served.says.done got.served.says.rest catalogue is)

-- ---- a group

module _ {K : Type 0} where
  pub owed_long : (lock : Lock K) (owed : List (Owed K)) (asked : List Asked) → AreOwed lock owed asked → length owed ≡ length asked
  owed_long lock [] [] all = refl
  owed_long lock [] (a ∷ asked) all = absurd all
  owed_long lock (o ∷ owed) [] all = absurd all
  owed_long lock (o ∷ owed) (a ∷ asked) all = let rest = owed_long lock owed asked all.1 in omega arith

  -- what was asked stays, so a reply is owed for it as before
  pub owed_same : (lock : Lock K) (owed : List (Owed K)) (asked now : List Asked) → AreOwed lock owed asked → AreSameAsked asked now → AreOwed lock owed now
  owed_same lock [] [] [] all same = tt
  owed_same lock [] [] (n ∷ now) all same = absurd same
  owed_same lock [] (a ∷ asked) now all same = absurd all
  owed_same lock (o ∷ owed) [] now all same = absurd all
  owed_same lock (o ∷ owed) (a ∷ asked) [] all same = absurd same
  owed_same lock (o ∷ owed) (a ∷ asked) (n ∷ now) all same = (
    record {
      seat = all.0.seat;
      duty = all.0.duty;
      own = all.0.own;
      same = record {
        session = same.0.session ∙ all.0.same.session;
        commands = same.0.commands ∙ all.0.same.commands;
        room = same.0.room ∙ all.0.same.room;
      };
    },
    owed_same lock owed asked now all.1 same.1,
  )

  pub owed_more : (lock : Lock K) (owed : List (Owed K)) (asked : List Asked) (o : Owed K) (a : Asked) → AreOwed lock owed asked → IsOwed lock o a →
      AreOwed lock (owed ++ o ∷ []) (asked ++ a ∷ [])
  owed_more lock [] [] o a all one = (one, tt)
  owed_more lock [] (b ∷ asked) o a all one = absurd all
  owed_more lock (p ∷ owed) [] o a all one = absurd all
  owed_more lock (p ∷ owed) (b ∷ asked) o a all one = (all.0, owed_more lock owed asked o a all.1 one)

  pub one_taken : (plant : List Actuator) (lock : Lock K) (owed : List (Owed K)) (asked : List Asked) (o : Owed K) (a : Asked) → IsTaken plant lock owed asked → IsOwed lock o a →
      MayAsk plant a → commands_in asked + length a.commands ≤ 16 → IsTaken plant lock (owed ++ o ∷ []) (asked ++ a ∷ [])
  one_taken plant lock owed asked o a taken one may few = record {
    owed_to = owed_more lock owed asked o a taken.owed_to one;
    may = all_more (MayAsk plant) asked a taken.may may;
    few = let all = commands_append asked (a ∷ []) in omega (arith, all, few);
  }

  -- each has a command or more
  pub taken_long : (plant : List Actuator) (lock : Lock K) (owed : List (Owed K)) (asked : List Asked) → IsTaken plant lock owed asked → length asked ≤ commands_in asked
  taken_long plant lock owed asked taken = few_asked asked (asks_some plant asked taken.may)

  -- nobody is owed a reply where nothing was asked
  pub owed_none : (lock : Lock K) (owed : List (Owed K)) (asked : List Asked) → AreOwed lock owed asked → asked ≡ [] → owed ≡ []
  owed_none lock [] asked all none = refl
  owed_none lock (o ∷ owed) [] all none = absurd all
  owed_none lock (o ∷ owed) (a ∷ asked) all none = absurd cc

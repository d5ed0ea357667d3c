-- Turns of the worker that lets time pass: none yet, one more, and the end.
use Rattle.std.proofs.Common.{◌≡◌, Bool, ℕ, suc, ◌+◌, ◌<◌, List, [], ◌∷◌, ◌++◌, length, refl, sym, ap, ◌∙◌, subst, arith, append_assoc, append-nil, length-append}
use Rattle.boss_model.specs.declared.answer.Answer.{Answer}
use Rattle.boss_model.specs.declared.command.Command.{Command}
use Rattle.boss_model.specs.declared.command.Command.TheVariants.{Tick}
use Rattle.boss_outside_server.specs.declared.waiter.Woke.{Woke}
use Rattle.boss_outside_server.specs.declared.waiter.Woke.TheVariants.{Again, Close}
use Rattle.boss_outside_server.specs.Waits.{one_pause_more, CloseCause}
use Rattle.def_history.specs.declared.entry.Entry.{Entry}
use Rattle.def_history.specs.declared.entry.Entry.TheVariants.{Did}
use Rattle.boss_expiry.specs.declared.end.WorkEnd.{WorkEnd}
use Rattle.boss_expiry.specs.declared.end.WorkEnd.TheVariants.{Finished, Closed, ClockFault, Stopped, DiskFault}
use Rattle.def_lanes.specs.Waits.{paused}
use Rattle.boss_expiry.specs.Ends.{mark, unused, ClockCause, EndCause, IsCut, TookTurns}
use Rattle.boss_expiry.specs.Ticking.{ticks, moments, Expired, Ticked}

ticks_append : (xs ys : List (ℕ × Answer)) → ticks (xs ++ ys) ≡ ticks xs ++ ticks ys
ticks_append [] ys = refl
ticks_append (x ∷ xs) ys = ap (λ es. Did 0 Tick x.0 x.1 ∷ es) (ticks_append xs ys)

moments_append : (xs ys : List (ℕ × Answer)) → moments (xs ++ ys) ≡ moments xs ++ moments ys
moments_append [] ys = refl
moments_append (x ∷ xs) ys = ap (λ ms. x.0 ∷ ms) (moments_append xs ys)

pub length_more : (turns : List (ℕ × Answer)) (turn : ℕ × Answer) → length (turns ++ turn ∷ []) ≡ suc (length turns)
length_more turns turn = omega (arith, length-append turns (turn ∷ []))

-- so many turns, whichever they were
pub record TookSome (own own' : List Entry) (clocking : Type 0) (given given' : List ℕ) (pausing : Type 0) (pauses pauses' : ℕ) (taken : ℕ) : Type 0 where
  pub turns : List (ℕ × Answer)
  pub ticked : Ticked own own' clocking given given' pausing pauses pauses' turns
  pub many : length turns ≡ taken

module _ (own own' own'' : List Entry) (clocking : Type 0) (given given' given'' : List ℕ) (pausing : Type 0) (pauses pauses' pauses'' : ℕ) where
  pub took_none : TookSome own own clocking given given pausing pauses pauses 0
  took_none = record {
    turns = [];
    ticked = record { entries = sym (append-nil own); gave = λ _. sym (append-nil given); waited = λ _. refl };
    many = refl;
  }

  pub took_more : (taken moment : ℕ) (answer : Answer) → TookSome own own' clocking given given' pausing pauses pauses' taken →
      own'' ≡ own' ++ Did 0 Tick moment answer ∷ [] → (clocking → given'' ≡ given' ++ moment ∷ []) → (pausing → pauses'' ≡ one_pause_more pauses') →
      TookSome own own'' clocking given given'' pausing pauses pauses'' (taken + 1)
  took_more taken moment answer took entry reading pause =
      let t = took.ticked in
      let turns : List (ℕ × Answer) = took.turns in
      let count : length turns ≡ taken = took.many in
      let longer : length (turns ++ (moment, answer) ∷ []) ≡ suc (length turns) = length_more turns (moment, answer) in record {
        turns = turns ++ (moment, answer) ∷ [];
        ticked = record {
          entries = entry ∙ ap (λ es. es ++ Did 0 Tick moment answer ∷ []) t.entries ∙ append_assoc own (ticks turns) (Did 0 Tick moment answer ∷ [])
              ∙ ap (λ es. own ++ es) (sym (ticks_append turns ((moment, answer) ∷ [])));
          gave = λ tells. reading tells ∙ ap (λ ms. ms ++ moment ∷ []) (t.gave tells) ∙ append_assoc given (moments turns) (moment ∷ [])
              ∙ ap (λ ms. given ++ ms) (sym (moments_append turns ((moment, answer) ∷ [])));
          waited = λ tells. pause tells ∙ ap one_pause_more (t.waited tells) ∙ ap (λ n. paused n pauses) (sym longer);
        };
        many = omega arith;
      }

  -- the work ends at a whole turn
  pub ends_whole : (taken most : ℕ) (end : WorkEnd) → TookSome own own' clocking given given' pausing pauses pauses' taken →
      mark Tick 0 end ≡ [] → unused 0 end ≡ [] → TookTurns taken most end → Expired own own' clocking given given' pausing pauses pauses' most end
  ends_whole taken most end took no_mark none_unused fits =
      let t = took.ticked in record {
        turns = took.turns;
        last = 0;
        entries = t.entries ∙ ap (λ es. own ++ es) (sym (append-nil (ticks took.turns)) ∙ ap (λ es. ticks took.turns ++ es) (sym no_mark));
        gave = λ tells. t.gave tells ∙ ap (λ ms. given ++ ms) (sym (append-nil (moments took.turns)) ∙ ap (λ ms. moments took.turns ++ ms) (sym none_unused));
        waited = t.waited;
        taken = subst (λ n. TookTurns n most end) (sym took.many) fits;
      }

  -- the disk ends the work in a turn
  ends_cut_at : (taken most moment : ℕ) (end : WorkEnd) → TookSome own own' clocking given given' pausing pauses pauses' taken →
      own'' ≡ own' ++ mark Tick moment end → (clocking → given'' ≡ given' ++ unused moment end) → TookTurns taken most end →
      Expired own own'' clocking given given'' pausing pauses pauses' most end
  ends_cut_at taken most moment end took entry reading fits =
      let t = took.ticked in record {
        turns = took.turns;
        last = moment;
        entries = entry ∙ ap (λ es. es ++ mark Tick moment end) t.entries ∙ append_assoc own (ticks took.turns) (mark Tick moment end);
        gave = λ tells. reading tells ∙ ap (λ ms. ms ++ unused moment end) (t.gave tells) ∙ append_assoc given (moments took.turns) (unused moment end);
        waited = t.waited;
        taken = subst (λ n. TookTurns n most end) (sym took.many) fits;
      }

  pub ends_cut : (seen : List Entry) (taken most moment : ℕ) (end : WorkEnd) → TookSome own own' clocking given given' pausing pauses pauses' taken →
      IsCut Tick moment own' own'' seen end → (clocking → given'' ≡ given' ++ moment ∷ []) → taken < most →
      Expired own own'' clocking given given'' pausing pauses pauses' most end
  ends_cut seen taken most moment Finished took cut reading less = absurd cut
  ends_cut seen taken most moment Closed took cut reading less = absurd cut
  ends_cut seen taken most moment ClockFault took cut reading less = absurd cut
  ends_cut seen taken most moment Stopped took cut reading less = ends_cut_at taken most moment Stopped took cut.0 reading less
  ends_cut seen taken most moment DiskFault took cut reading less = ends_cut_at taken most moment DiskFault took cut.0 reading less

pub clock_of_cut : (command : Command) (moment : ℕ) (own own' seen : List Entry) (before now : ℕ) (end : WorkEnd) → IsCut command moment own own' seen end → now ≡ before →
    ClockCause before now end
clock_of_cut command moment own own' seen before now Finished cut same = same
clock_of_cut command moment own own' seen before now Closed cut same = same
clock_of_cut command moment own own' seen before now ClockFault cut same = absurd cut
clock_of_cut command moment own own' seen before now Stopped cut same = same
clock_of_cut command moment own own' seen before now DiskFault cut same = same

pub cause_of_cut : (command : Command) (moment : ℕ) (own own' seen : List Entry) (pausing : Type 0) (closed : Bool) (before now : ℕ) (end : WorkEnd) →
    IsCut command moment own own' seen end → now ≡ before → EndCause seen pausing closed before now end
cause_of_cut command moment own own' seen pausing closed before now Finished cut same = absurd cut
cause_of_cut command moment own own' seen pausing closed before now Closed cut same = absurd cut
cause_of_cut command moment own own' seen pausing closed before now ClockFault cut same = absurd cut
cause_of_cut command moment own own' seen pausing closed before now Stopped cut same = (cut.1, same)
cause_of_cut command moment own own' seen pausing closed before now DiskFault cut same = (cut.1, same)

-- a pause that did not say Close leaves the count of closes as it was
pub not_closed : (woke : Woke) (before now : ℕ) → (woke ≡ Close → ⊥) → CloseCause before now woke → now ≡ before
not_closed Again before now other cause = cause
not_closed Close before now other cause = absurd (other refl)

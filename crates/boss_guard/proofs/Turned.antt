-- One turn after another.
use Rattle.std.proofs.Common.{◌≡◌, ℕ, suc, ◌+◌, true, false, cond, List, [], ◌∷◌, ◌++◌, length, Option, Some, None, refl, sym, ap, ◌∙◌, subst, arith, length-append}
use Rattle.std.specs.List.{AllByRecursion}
use Rattle.boss_model.specs.declared.state.Actuator.{Actuator}
use Rattle.boss_outside_server.specs.Waits.{one_pause_more}
use Rattle.def_guards.specs.declared.guard.Guard.{Guard}
use Rattle.def_guards.specs.Acts.{Watch}
use Rattle.def_guards.specs.Turns.{Turn, IsTurn, AreTurns, after_turn, after_turns, has_wrote, idles, nothing}
use Rattle.boss_expiry.specs.declared.end.WorkEnd.{WorkEnd}
use Rattle.boss_expiry.specs.Ends.{TookTurns}
use Rattle.def_lanes.specs.Waits.{paused}
use Rattle.def_lanes.proofs.Lists.{each-append}
use Rattle.boss_drive.specs.Driving.{Stand, Gained, IsNoDisk, both}
use Rattle.boss_drive.proofs.Gains.{both_assoc, both_none, gained_both_of, gained_none}
use Rattle.boss_guard.specs.Guarding.{Turned, start}
use Rattle.boss_guard.specs.Making.{made_by, made_in, made_in_turns, left_by}
use Rattle.boss_guard.specs.Trying.{IsOwnTurn, TookTurn, CutTurn}

-- ---- one turn more in a list

after_more : (turns : List Turn) (turn : Turn) (watch : Watch) → after_turns (turns ++ turn ∷ []) watch ≡ after_turn turn (after_turns turns watch)
after_more [] turn watch = refl
after_more (t ∷ turns) turn watch = after_more turns turn (after_turn t watch)

are_more : (turns : List Turn) (turn : Turn) (watch : Watch) → AreTurns watch turns → IsTurn (after_turns turns watch) turn [] → AreTurns watch (turns ++ turn ∷ [])
are_more [] turn watch are is = (is, tt)
are_more (t ∷ turns) turn watch are is = (are.0, are_more turns turn (after_turn t watch) are.1 is)

made_more : (driver : ℕ) (turns : List Turn) (turn : Turn) (watch : Watch) →
    made_in_turns driver watch (turns ++ turn ∷ []) ≡ both (made_in_turns driver watch turns) (made_in driver (after_turns turns watch) turn)
made_more driver [] turn watch = both_none (made_in driver watch turn)
made_more driver (t ∷ turns) turn watch = ap (both (made_in driver watch t)) (made_more driver turns turn (after_turn t watch))
    ∙ sym (both_assoc (made_in driver watch t) (made_in_turns driver (after_turn t watch) turns) (made_in driver (after_turns turns (after_turn t watch)) turn))

idles_idle : (turns : List Turn) (turn : Turn) → has_wrote turn.acts ≡ false → idles (turns ++ turn ∷ []) ≡ suc (idles turns)
idles_idle [] turn idle = ap (λ b. cond b 0 1) idle
idles_idle (t ∷ turns) turn idle = elim (has_wrote t.acts) as (λ b. cond b (idles (turns ++ turn ∷ [])) (suc (idles (turns ++ turn ∷ []))) ≡ suc (cond b (idles turns) (suc (idles turns)))) [
  | true ↦ idles_idle turns turn idle
  | false ↦ ap suc (idles_idle turns turn idle)
]

idles_written : (turns : List Turn) (turn : Turn) → has_wrote turn.acts ≡ true → idles (turns ++ turn ∷ []) ≡ idles turns
idles_written [] turn written = ap (λ b. cond b 0 1) written
idles_written (t ∷ turns) turn written = elim (has_wrote t.acts) as (λ b. cond b (idles (turns ++ turn ∷ [])) (suc (idles (turns ++ turn ∷ []))) ≡ cond b (idles turns) (suc (idles turns))) [
  | true ↦ idles_written turns turn written
  | false ↦ ap suc (idles_written turns turn written)
]

-- ---- so many turns, whichever they were

pub record TookSome (plant : List Actuator) (driver : ℕ) (guards : List Guard) (clocking recording : Type 0) (old new : Stand) (pausing : Type 0) (pauses pauses' taken : ℕ) (now : Watch) : Type 0 where
  pub turns : List Turn
  pub are : AreTurns (start guards) turns
  pub own : AllByRecursion (IsOwnTurn plant driver) turns
  pub now_is : now ≡ after_turns turns (start guards)
  pub gained : Gained clocking recording old new (made_in_turns driver (start guards) turns)
  pub waited : pausing → pauses' ≡ paused (idles turns) pauses
  pub many : length turns ≡ taken

pub took_none : (plant : List Actuator) (driver : ℕ) (guards : List Guard) (clocking recording : Type 0) (old : Stand) (pausing : Type 0) (pauses : ℕ) →
    TookSome plant driver guards clocking recording old old pausing pauses pauses 0 (start guards)
took_none plant driver guards clocking recording old pausing pauses =
    record { turns = []; are = tt; own = tt; now_is = refl; gained = gained_none clocking recording old; waited = λ _. refl; many = refl }

module _ (plant : List Actuator) (driver : ℕ) (guards : List Guard) (clocking recording : Type 0) (old mid new : Stand) (pausing : Type 0) (pauses pauses' pauses'' taken : ℕ) (now : Watch)
    (took : TookSome plant driver guards clocking recording old mid pausing pauses pauses' taken now) where
  -- a turn, as it is after those before it
  took_at : (later : Watch) (rest : Option ℕ) → TookTurn clocking recording mid new plant driver now later rest →
      TookTurn clocking recording mid new plant driver (after_turns took.turns (start guards)) later rest
  took_at later rest turn = subst (λ w. TookTurn clocking recording mid new plant driver w later rest) took.now_is turn

  took_turn : (later : Watch) (rest : Option ℕ) → (turn : TookTurn clocking recording mid new plant driver (after_turns took.turns (start guards)) later rest) →
      (pausing → pauses'' ≡ paused (idles (took.turns ++ turn.turn ∷ [])) pauses) →
      TookSome plant driver guards clocking recording old new pausing pauses pauses'' (taken + 1) later
  took_turn later rest turn waited =
      let longer : length (took.turns ++ turn.turn ∷ []) ≡ suc (length took.turns) = omega (arith, length-append took.turns (turn.turn ∷ [])) in
      let many : length took.turns ≡ taken = took.many in record {
        turns = took.turns ++ turn.turn ∷ [];
        are = are_more took.turns turn.turn (start guards) took.are turn.is;
        own = each-append (IsOwnTurn plant driver) took.turns (turn.turn ∷ []) took.own (turn.own, tt);
        now_is = turn.after_is ∙ sym (after_more took.turns turn.turn (start guards));
        gained = gained_both_of clocking recording old mid new (made_in_turns driver (start guards) took.turns) (made_in driver (after_turns took.turns (start guards)) turn.turn)
            (made_in_turns driver (start guards) (took.turns ++ turn.turn ∷ [])) took.gained turn.gained (sym (made_more driver took.turns turn.turn (start guards)));
        waited = waited;
        many = omega arith;
      }

  pub took_idle : (later : Watch) (milliseconds : ℕ) → TookTurn clocking recording mid new plant driver now later (Some milliseconds) → (pausing → pauses'' ≡ one_pause_more pauses') →
      TookSome plant driver guards clocking recording old new pausing pauses pauses'' (taken + 1) later
  took_idle later milliseconds turn pause =
      let at : TookTurn clocking recording mid new plant driver (after_turns took.turns (start guards)) later (Some milliseconds) = took_at later (Some milliseconds) turn in
      took_turn later (Some milliseconds) at
      (λ tells. pause tells ∙ ap one_pause_more (took.waited tells) ∙ ap (λ n. paused n pauses) (sym (idles_idle took.turns at.turn (sym at.written_is))))

  pub took_written : (later : Watch) → TookTurn clocking recording mid new plant driver now later None → (pausing → pauses'' ≡ pauses') →
      TookSome plant driver guards clocking recording old new pausing pauses pauses'' (taken + 1) later
  took_written later turn stays =
      let at : TookTurn clocking recording mid new plant driver (after_turns took.turns (start guards)) later None = took_at later None turn in
      took_turn later None at
      (λ tells. stays tells ∙ took.waited tells ∙ ap (λ n. paused n pauses) (sym (idles_written took.turns at.turn (sym at.written_is))))

  -- the end leaves what it leaves of one turn more
  pub ends_cut : (most : ℕ) (end : WorkEnd) → CutTurn clocking recording mid new plant driver now end → TookTurns taken most end →
      Turned plant driver guards clocking recording old new pausing pauses pauses' most end
  ends_cut most end cut fits =
      let at : CutTurn clocking recording mid new plant driver (after_turns took.turns (start guards)) end =
      subst (λ w. CutTurn clocking recording mid new plant driver w end) took.now_is cut in record {
        turns = took.turns;
        last = at.cut;
        are = took.are;
        fits = at.fits;
        leaves = at.leaves;
        own = (took.own, at.own);
        made = gained_both_of clocking recording old mid new (made_in_turns driver (start guards) took.turns) (left_by driver end (after_turns took.turns (start guards)) at.cut)
            (made_by driver end (start guards) took.turns at.cut) took.gained at.gained refl;
        waited = took.waited;
        taken = subst (λ n. TookTurns n most end) (sym took.many) fits;
      }

-- the end leaves nothing of a turn more
pub ends_whole : (plant : List Actuator) (driver : ℕ) (guards : List Guard) (clocking recording : Type 0) (old new : Stand) (pausing : Type 0) (pauses pauses' taken most : ℕ) (now : Watch) (end : WorkEnd) →
    TookSome plant driver guards clocking recording old new pausing pauses pauses' taken now → IsNoDisk end → TookTurns taken most end →
    Turned plant driver guards clocking recording old new pausing pauses pauses' most end
ends_whole plant driver guards clocking recording old new pausing pauses pauses' taken most now end took no_disk fits = record {
  turns = took.turns;
  last = nothing;
  are = took.are;
  fits = tt;
  leaves = no_disk;
  own = (took.own, tt);
  made = subst (λ made. Gained clocking recording old new made) (sym (both_none (made_in_turns driver (start guards) took.turns))) took.gained;
  waited = took.waited;
  taken = subst (λ n. TookTurns n most end) (sym took.many) fits;
}

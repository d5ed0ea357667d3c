-- What is made in one turn after another.
use Rattle.std.proofs.Common.{◌≡◌, ℕ, suc, ◌+◌, ◌<◌, Bool, true, false, List, [], ◌∷◌, ◌++◌, length, Option, Some, None, IfSome, refl, sym, ap, ◌∙◌, subst, arith, append_assoc, append-nil, length-append}
use Rattle.std.specs.List.{AllByRecursion}
use Rattle.boss_model.specs.declared.state.Actuator.{Actuator}
use Rattle.boss_model.specs.DeviceCall.{DeviceCall}
use Rattle.boss_outside_server.specs.declared.waiter.Woke.{Woke}
use Rattle.boss_outside_server.specs.declared.waiter.Woke.TheVariants.{Again, Close}
use Rattle.boss_outside_server.specs.Waits.{one_pause_more, CloseCause}
use Rattle.def_history.specs.declared.entry.Entry.{Entry}
use Rattle.boss_expiry.specs.declared.end.WorkEnd.{WorkEnd}
use Rattle.boss_expiry.specs.declared.end.WorkEnd.TheVariants.{Finished, Closed, ClockFault, Stopped, DiskFault}
use Rattle.def_lanes.specs.Waits.{paused}
use Rattle.def_lanes.proofs.Lists.{each-append}
use Rattle.boss_expiry.specs.Ends.{ClockCause, EndCause, TookTurns}
use Rattle.boss_drive.specs.Driving.{Turn, idle, doubted, served, nothing, Made, made_in, left_by, both, made_by, Stand, Gained, is_served, FitsTurn, IsTurn, IsCutTurn, IsNoDisk, DiskCause, idles, Driven}

abbrev pub none_made : Made
none_made = record { entries = []; moments = []; calls = [] }

abbrev made_of : List Entry → List ℕ → List DeviceCall → Made
made_of entries moments calls = record { entries = entries; moments = moments; calls = calls }

same_made : (e e' : List Entry) (m m' : List ℕ) (c c' : List DeviceCall) → e ≡ e' → m ≡ m' → c ≡ c' → made_of e m c ≡ made_of e' m' c'
same_made e e' m m' c c' es ms cs = ap (λ x. made_of x m c) es ∙ ap (λ x. made_of e' x c) ms ∙ ap (λ x. made_of e' m' x) cs

pub both_assoc : (a b c : Made) → both (both a b) c ≡ both a (both b c)
both_assoc a b c = same_made ((a.entries ++ b.entries) ++ c.entries) (a.entries ++ (b.entries ++ c.entries)) ((a.moments ++ b.moments) ++ c.moments)
    (a.moments ++ (b.moments ++ c.moments)) ((a.calls ++ b.calls) ++ c.calls) (a.calls ++ (b.calls ++ c.calls))
    (append_assoc a.entries b.entries c.entries) (append_assoc a.moments b.moments c.moments) (append_assoc a.calls b.calls c.calls)

pub both_none : (a : Made) → both a none_made ≡ a
both_none a = same_made (a.entries ++ []) a.entries (a.moments ++ []) a.moments (a.calls ++ []) a.calls (append-nil a.entries) (append-nil a.moments) (append-nil a.calls)

made_more : (driver : ℕ) (turns : List Turn) (turn : Turn) → made_by driver (turns ++ turn ∷ []) none_made ≡ both (made_by driver turns none_made) (made_in driver turn)
made_more driver [] turn = both_none (made_in driver turn)
made_more driver (t ∷ turns) turn = ap (λ m. both (made_in driver t) m) (made_more driver turns turn)
    ∙ sym (both_assoc (made_in driver t) (made_by driver turns none_made) (made_in driver turn))

made_last : (driver : ℕ) (turns : List Turn) (last : Made) → made_by driver turns last ≡ both (made_by driver turns none_made) last
made_last driver [] last = refl
made_last driver (t ∷ turns) last = ap (λ m. both (made_in driver t) m) (made_last driver turns last)
    ∙ sym (both_assoc (made_in driver t) (made_by driver turns none_made) last)

idles_idle : (turns : List Turn) (turn : Turn) → is_served turn ≡ false → idles (turns ++ turn ∷ []) ≡ suc (idles turns)
idles_idle [] (idle moment) is = refl
idles_idle [] (doubted moment point differs answer) is = refl
idles_idle [] (served w told answer) is = absurd cc
idles_idle (idle m ∷ turns) turn is = ap suc (idles_idle turns turn is)
idles_idle (doubted m p d a ∷ turns) turn is = ap suc (idles_idle turns turn is)
idles_idle (served w told answer ∷ turns) turn is = idles_idle turns turn is

idles_served : (turns : List Turn) (turn : Turn) → is_served turn ≡ true → idles (turns ++ turn ∷ []) ≡ idles turns
idles_served [] (idle moment) is = absurd cc
idles_served [] (doubted moment point differs answer) is = absurd cc
idles_served [] (served w told answer) is = refl
idles_served (idle m ∷ turns) turn is = ap suc (idles_served turns turn is)
idles_served (doubted m p d a ∷ turns) turn is = ap suc (idles_served turns turn is)
idles_served (served w told answer ∷ turns) turn is = idles_served turns turn is

module _ (clocking recording : Type 0) (old mid new : Stand) where
  gained_both : (first then : Made) → Gained clocking recording old mid first → Gained clocking recording mid new then →
      Gained clocking recording old new (both first then)
  gained_both first then one two = record {
    entries = two.entries ∙ ap (λ es. es ++ then.entries) one.entries ∙ append_assoc old.own first.entries then.entries;
    gave = λ tells. two.gave tells ∙ ap (λ ms. ms ++ then.moments) (one.gave tells) ∙ append_assoc old.given first.moments then.moments;
    wrote = λ tells whole. let later = two.wrote tells whole in let earlier = one.wrote tells later.0 in
        (earlier.0, later.1 ∙ ap (λ cs. cs ++ then.calls) earlier.1 ∙ append_assoc old.calls first.calls then.calls);
  }

  pub gained_both_of : (first then all : Made) → Gained clocking recording old mid first → Gained clocking recording mid new then → both first then ≡ all →
      Gained clocking recording old new all
  gained_both_of first then all one two same = subst (λ made. Gained clocking recording old new made) same (gained_both first then one two)

pub gained_none : (clocking recording : Type 0) (stand : Stand) → Gained clocking recording stand stand none_made
gained_none clocking recording stand = record {
  entries = sym (append-nil stand.own);
  gave = λ tells. sym (append-nil stand.given);
  wrote = λ tells whole. (whole, sym (append-nil stand.calls));
}

-- so many turns, whichever they were
pub record TookSome (plant : List Actuator) (driver : ℕ) (clocking recording : Type 0) (old new : Stand) (pausing : Type 0) (pauses pauses' taken : ℕ) : Type 0 where
  pub turns : List Turn
  pub own : AllByRecursion (FitsTurn plant driver) turns
  pub gained : Gained clocking recording old new (made_by driver turns none_made)
  pub waited : pausing → pauses' ≡ paused (idles turns) pauses
  pub many : length turns ≡ taken

pub took_none : (plant : List Actuator) (driver : ℕ) (clocking recording : Type 0) (old : Stand) (pausing : Type 0) (pauses : ℕ) →
    TookSome plant driver clocking recording old old pausing pauses pauses 0
took_none plant driver clocking recording old pausing pauses =
    record { turns = []; own = tt; gained = gained_none clocking recording old; waited = λ _. refl; many = refl }

module _ (plant : List Actuator) (driver : ℕ) (clocking recording : Type 0) (old mid new : Stand) (pausing : Type 0) (pauses pauses' pauses'' taken : ℕ)
    (took : TookSome plant driver clocking recording old mid pausing pauses pauses' taken) where
  took_turn : (rest : Option ℕ) → (turn : IsTurn plant driver clocking recording mid new rest) →
      (pausing → pauses'' ≡ paused (idles (took.turns ++ turn.turn ∷ [])) pauses) →
      TookSome plant driver clocking recording old new pausing pauses pauses'' (taken + 1)
  took_turn rest turn waited =
      let longer : length (took.turns ++ turn.turn ∷ []) ≡ suc (length took.turns) = omega (arith, length-append took.turns (turn.turn ∷ [])) in
      let many : length took.turns ≡ taken = took.many in record {
        turns = took.turns ++ turn.turn ∷ [];
        own = each-append (FitsTurn plant driver) took.turns (turn.turn ∷ []) took.own (turn.own, tt);
        gained = gained_both_of clocking recording old mid new (made_by driver took.turns none_made) (made_in driver turn.turn)
            (made_by driver (took.turns ++ turn.turn ∷ []) none_made) took.gained turn.gained (sym (made_more driver took.turns turn.turn));
        waited = waited;
        many = omega arith;
      }

  pub took_idle : (rest : ℕ) → IsTurn plant driver clocking recording mid new (Some rest) → (pausing → pauses'' ≡ one_pause_more pauses') →
      TookSome plant driver clocking recording old new pausing pauses pauses'' (taken + 1)
  took_idle rest turn pause = took_turn (Some rest) turn
      (λ tells. pause tells ∙ ap one_pause_more (took.waited tells) ∙ ap (λ n. paused n pauses) (sym (idles_idle took.turns turn.turn (sym turn.wrote_is))))

  pub took_served : IsTurn plant driver clocking recording mid new None → (pausing → pauses'' ≡ pauses') →
      TookSome plant driver clocking recording old new pausing pauses pauses'' (taken + 1)
  took_served turn stays = took_turn None turn
      (λ tells. stays tells ∙ took.waited tells ∙ ap (λ n. paused n pauses) (sym (idles_served took.turns turn.turn (sym turn.wrote_is))))

  -- the end leaves what it leaves of one turn more
  pub ends_cut : (most : ℕ) (end : WorkEnd) → IsCutTurn plant driver clocking recording mid new end → TookTurns taken most end →
      Driven plant driver clocking recording old new pausing pauses pauses' most end
  ends_cut most end cut fits = record {
    turns = took.turns;
    last = cut.cut;
    fits = cut.fits;
    own = (took.own, cut.own);
    made = gained_both_of clocking recording old mid new (made_by driver took.turns none_made) (left_by driver end cut.cut)
        (made_by driver took.turns (left_by driver end cut.cut)) took.gained cut.gained (sym (made_last driver took.turns (left_by driver end cut.cut)));
    waited = took.waited;
    taken = subst (λ n. TookTurns n most end) (sym took.many) fits;
  }

-- the end leaves nothing of a turn more
pub ends_whole : (plant : List Actuator) (driver : ℕ) (clocking recording : Type 0) (old new : Stand) (pausing : Type 0) (pauses pauses' taken most : ℕ) (end : WorkEnd) →
    TookSome plant driver clocking recording old new pausing pauses pauses' taken → IsNoDisk end → TookTurns taken most end →
    Driven plant driver clocking recording old new pausing pauses pauses' most end
ends_whole plant driver clocking recording old new pausing pauses pauses' taken most end took no_disk fits = record {
  turns = took.turns;
  last = nothing;
  fits = no_disk;
  own = (took.own, tt);
  made = took.gained;
  waited = took.waited;
  taken = subst (λ n. TookTurns n most end) (sym took.many) fits;
}

-- the disk or the clock ends the work in a turn, before its last
pub less_at_cut : (seen : List Entry) (taken most : ℕ) (end : WorkEnd) → DiskCause seen end → taken < most → TookTurns taken most end
less_at_cut seen taken most Finished cause less = absurd cause
less_at_cut seen taken most Closed cause less = absurd cause
less_at_cut seen taken most ClockFault cause less = less
less_at_cut seen taken most Stopped cause less = less
less_at_cut seen taken most DiskFault cause less = less

pub clock_at_cut : (before before' now : ℕ) (end : WorkEnd) → before' ≡ before → ClockCause before' now end → ClockCause before now end
clock_at_cut before before' now end same cause = subst (λ n. ClockCause n now end) same cause

pub cause_at_cut : (seen : List Entry) (pausing : Type 0) (closed : Bool) (before now : ℕ) (end : WorkEnd) → DiskCause seen end → now ≡ before →
    EndCause seen pausing closed before now end
cause_at_cut seen pausing closed before now Finished cause same = absurd cause
cause_at_cut seen pausing closed before now Closed cause same = absurd cause
cause_at_cut seen pausing closed before now ClockFault cause same = same
cause_at_cut seen pausing closed before now Stopped cause same = (cause, same)
cause_at_cut seen pausing closed before now DiskFault cause same = (cause, same)

-- a pause that did not say Close leaves the count of closes as it was
pub not_closed : (woke : Woke) (before now : ℕ) → (woke ≡ Close → ⊥) → CloseCause before now woke → now ≡ before
not_closed Again before now other cause = cause
not_closed Close before now other cause = absurd (other refl)

-- what holds of a length, if there is one, holds of this one
pub if_some : (P : ℕ → Type 0) (found : Option ℕ) (n : ℕ) → found ≡ Some n → IfSome found P → P n
if_some P found n is holds = subst (λ f. IfSome f P) is holds

pub none_of : (found : Option ℕ) → ((n : ℕ) → found ≡ Some n → ⊥) → found ≡ None
none_of None never = refl
none_of (Some n) never = absurd (never n refl)

-- What goes through a gate as one batch leaves what is held, and is judged by the gates behind it alone.
use Rattle.std.proofs.Common.{◌≡◌, ℕ, zero, suc, Bool, true, false, not, ◌&&◌, List, [], ◌∷◌, Option, Some, None, refl, sym, ap, ◌∙◌, subst, is_none}
use Rattle.std.specs.List.{list_all}
use Rattle.boss_model.specs.declared.answer.Answer.{Answer}
use Rattle.boss_model.specs.declared.command.Command.{Command}
use Rattle.boss_model.specs.declared.command.Command.TheVariants as command
use Rattle.boss_gate.specs.Whole.{goes_whole, is_naming, is_through}
use Rattle.boss_shared.specs.Gates.{all_held_by, denied_at, denied_to, held_by, or_else, AllowedAll, Gate, Holding, NextJudged}
use Rattle.def_history.specs.declared.outcome.Outcome.{Outcome}

both : (a b : Bool) → (a && b) ≡ true → (a ≡ true) × (b ≡ true)
both true b is = (refl, is)
both false b is = absurd cc

not_true : (b : Bool) → not b ≡ true → b ≡ false
not_true true is = absurd cc
not_true false is = refl

none_is : {T : Type 0} (o : Option T) → is_none o ≡ true → o ≡ None
none_is None is = refl
none_is (Some x) is = absurd cc

-- a command that is neither an attach nor a gone leaves what is held
unnamed_holds : (session : ℕ) (asked : Command) (given : Answer) (held : Holding) → is_naming asked ≡ false → held_by session asked given held ≡ held
unnamed_holds session (command.Attach name) given held unnamed = absurd cc
unnamed_holds session (command.Submit writes policy seq) given held unnamed = refl
unnamed_holds session (command.Renew txn long points seq) given held unnamed = refl
unnamed_holds session (command.Cancel txn seq) given held unnamed = refl
unnamed_holds session command.Gone given held unnamed = absurd cc
unnamed_holds session command.Tick given held unnamed = refl
unnamed_holds session (command.Next driver) given held unnamed = refl
unnamed_holds session (command.Report point version ok) given held unnamed = refl
unnamed_holds session (command.Doubt point differs) given held unnamed = refl
unnamed_holds session (command.Read point) given held unnamed = refl
unnamed_holds session (command.Array point) given held unnamed = refl
unnamed_holds session (command.Status txn) given held unnamed = refl
unnamed_holds session (command.Notices name from most) given held unnamed = refl
unnamed_holds session (command.Points from most) given held unnamed = refl
unnamed_holds session command.Version given held unnamed = refl

module _ (gate : Gate) (one : Holding) (gates : List Gate) (session : ℕ) where
  through_is : (call : Command × ℕ) → is_through gate one session call ≡ true → (is_naming call.0 ≡ false) × (denied_at gate one session call.0 ≡ None)
  through_is call through =
      let parts = both (not (is_naming call.0)) (is_none (denied_at gate one session call.0)) through in
      (not_true (is_naming call.0) parts.0, none_is (denied_at gate one session call.0) parts.1)

  -- the gate denies none of them
  passed_on : (call : Command × ℕ) (others : List Holding) → is_through gate one session call ≡ true →
      denied_to (gate ∷ gates) (one ∷ others) session call.0 ≡ denied_to gates others session call.0
  passed_on call others through = ap (λ d. or_else d (denied_to gates others session call.0)) (through_is call through).1

  pub whole_allowed : (calls : List (Command × ℕ)) (answers : List Answer) (others after : List Holding) → goes_whole gate one session calls ≡ true →
      AllowedAll gates session calls answers others after → AllowedAll (gate ∷ gates) session calls answers (one ∷ others) (one ∷ after)
  whole_allowed [] answers others after whole allowed = ap (λ hs. one ∷ hs) allowed
  whole_allowed (call ∷ calls) [] others after whole allowed = ap (λ hs. one ∷ hs) allowed
  whole_allowed (call ∷ calls) (given ∷ answers) others after whole allowed =
      let parts = both (is_through gate one session call) (list_all (is_through gate one session) calls) whole in
      let behind : List Holding = all_held_by session call.0 given others in (
        passed_on call others parts.0 ∙ allowed.0,
        subst (λ (h : Holding). AllowedAll (gate ∷ gates) session calls answers (h ∷ behind) (one ∷ after))
            (sym (unnamed_holds session call.0 given one (through_is call parts.0).0))
            (whole_allowed calls answers behind after parts.1 allowed.1),
      )

  pub whole_judged : (calls : List (Command × ℕ)) (done : ℕ) (rest : Option Outcome) (others : List Holding) → goes_whole gate one session calls ≡ true →
      NextJudged gates others session calls done rest → NextJudged (gate ∷ gates) (one ∷ others) session calls done rest
  whole_judged [] done rest others whole judged = tt
  whole_judged (call ∷ calls) zero rest others whole judged =
      let parts = both (is_through gate one session call) (list_all (is_through gate one session) calls) whole in
      judged ∙ sym (passed_on call others parts.0)
  whole_judged (call ∷ calls) (suc done) rest others whole judged =
      whole_judged calls done rest others (both (is_through gate one session call) (list_all (is_through gate one session) calls) whole).1 judged

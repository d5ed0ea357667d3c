-- The writes of turns to one point are each free after those before it.
use Rattle.std.proofs.Common.{◌≡◌, inl, inr, ℕ, ◌<◌, Bool, true, false, cond, eqb, List, [], ◌∷◌, ◌++◌, length, None, set, refl, sym, ap, ◌∙◌, subst, append-nil}
use Rattle.std.proofs.lemmas.Bool.{cases_Bool, cond-true, cond-false, eqb-true, eqb-false}
use Rattle.std.proofs.lemmas.List.{length-set, get_or-set_same, get_or-set_other}
use Rattle.def_guards.specs.declared.guard.Guard.{Guard}
use Rattle.def_guards.specs.Guards.{guard_for, minimum, times_for, written, holding}
use Rattle.def_guards.specs.declared.guard.Due.{Due}
use Rattle.def_guards.specs.Acts.{Watch, Decision, Reason, passed, shown, Act, wrote, kept, IsReason, IsAct, Tried, after_act, after_acts, after_reading, due_of, guard_at, held_by}
use Rattle.def_guards.specs.Turns.{Turn, IsTurn, AreTurns, after_turn, after_turns, at_read, at_write, Cut, nothing, at_next, in_turn, at_doubt, FitsCut}
use Rattle.def_guards.specs.Spacing.{Call, KeepsTimes, is_shown, call_to, calls_by, calls_on, calls_in, calls_cut}
use Rattle.def_guards.proofs.Stretches.{IsOpen, Spaced, last_after, last_after_both, spaced_both, keeps}

-- one guard becomes another by these writes, each of which was free
pub record Follows (old new : Guard) (calls : List Call) : Type 0 where
  pub on_is : new.on ≡ old.on
  pub off_is : new.off ≡ old.off
  pub last_is : new.last ≡ last_after old.last calls
  pub spaced : Spaced (minimum old) old.last calls

follows_none : (guard : Guard) → Follows guard guard []
follows_none guard = record { on_is = refl; off_is = refl; last_is = refl; spaced = tt }

follows_both : (old mid new : Guard) (first then : List Call) → Follows old mid first → Follows mid new then → Follows old new (first ++ then)
follows_both old mid new first then one two =
    let same_times : Spaced (minimum old) mid.last then =
    subst (λ on. Spaced (times_for on old.off) mid.last then) one.on_is (subst (λ off. Spaced (times_for mid.on off) mid.last then) one.off_is two.spaced) in
    record {
      on_is = two.on_is ∙ one.on_is;
      off_is = two.off_is ∙ one.off_is;
      last_is = two.last_is ∙ ap (λ last. last_after last then) one.last_is ∙ sym (last_after_both old.last first then);
      spaced = spaced_both (minimum old) old.last first then one.spaced (subst (λ last. Spaced (minimum old) last then) one.last_is same_times);
    }

-- ---- one want

open_by : (guard : Guard) (d : Decision) (reason : Reason) → IsReason guard d reason → IsOpen (minimum guard) guard.last (record { value = d.value; now = d.now; shown = is_shown reason })
open_by guard d passed free = inl free
open_by guard d (shown answer) is = inr refl

follows_write : (guard : Guard) (d : Decision) (reason : Reason) → IsReason guard d reason →
    Follows guard (written d.value d.now guard) (record { value = d.value; now = d.now; shown = is_shown reason } ∷ [])
follows_write guard d reason is = record { on_is = refl; off_is = refl; last_is = refl; spaced = (open_by guard d reason is, tt) }

-- a guard is set, of the point or of another one
set_follows : (guards : List Guard) (point at : ℕ) (guard : Guard) (calls : List Call) → point < length guards →
    Follows (guard_at guards at) guard calls → Follows (guard_at guards point) (guard_at (set guards at guard) point) (cond (eqb at point) calls [])
set_follows guards point at guard calls known follows = elim (cases_Bool (eqb at point)) [
  | inl same ↦
      let is : at ≡ point = eqb-true at point same in
      let now : guard_at (set guards at guard) at ≡ guard = get_or-set_same guards at guard (guard_for 0 0) (subst (λ p. p < length guards) (sym is) known) in
      let here : Follows (guard_at guards at) (guard_at (set guards at guard) at) calls = subst (λ new. Follows (guard_at guards at) new calls) (sym now) follows in
      subst (λ cs. Follows (guard_at guards point) (guard_at (set guards at guard) point) cs) (sym (cond-true (eqb at point) calls [] same))
      (subst (λ p. Follows (guard_at guards p) (guard_at (set guards at guard) p) calls) is here)
  | inr other ↦
      let apart : guard_at (set guards at guard) point ≡ guard_at guards point =
      get_or-set_other guards at point guard (guard_for 0 0) (λ is. eqb-false at point other (sym is)) in
      subst (λ cs. Follows (guard_at guards point) (guard_at (set guards at guard) point) cs) (sym (cond-false (eqb at point) calls [] other))
      (subst (λ new. Follows (guard_at guards point) new []) (sym apart) (follows_none (guard_at guards point)))
]

none_of : (b : Bool) → cond {A = List Call} b [] [] ≡ []
none_of true = refl
none_of false = refl

-- the write of a want
write_follows : (guards : List Guard) (point : ℕ) (d : Decision) (reason : Reason) → point < length guards → IsReason (guard_at guards d.point) d reason →
    Follows (guard_at guards point) (guard_at (set guards d.point (written d.value d.now (guard_at guards d.point))) point) (call_to point d reason)
write_follows guards point d reason known is =
    set_follows guards point d.point (written d.value d.now (guard_at guards d.point)) (record { value = d.value; now = d.now; shown = is_shown reason } ∷ []) known
    (follows_write (guard_at guards d.point) d reason is)

act_follows : (watch : Watch) (want : Due) (act : Act) (point : ℕ) → point < length watch.guards → IsAct watch want act →
    Follows (guard_at watch.guards point) (guard_at (after_act act watch).guards point) (calls_by point act)
act_follows watch want (wrote d reason ok told answer) point known is =
    subst (λ now. Follows (guard_at watch.guards point) (guard_at (set watch.guards d.point (written d.value now (guard_at watch.guards d.point))) point) (call_to point d reason))
    (ap (λ e. e.now) is.0) (write_follows watch.guards point d reason known is.1)
act_follows watch want (kept d answer) point known is =
    subst (λ cs. Follows (guard_at watch.guards point) (guard_at (set watch.guards d.point (holding (held_by d) (guard_at watch.guards d.point))) point) cs)
    (none_of (eqb d.point point)) (set_follows watch.guards point d.point (holding (held_by d) (guard_at watch.guards d.point)) [] known
    (record { on_is = refl; off_is = refl; last_is = refl; spaced = tt }))

-- ---- the wants of a turn, and turns

-- no act takes a guard away
act_long : (act : Act) (watch : Watch) → length (after_act act watch).guards ≡ length watch.guards
act_long (wrote d reason ok told answer) watch = length-set watch.guards d.point (written d.value watch.now (guard_at watch.guards d.point))
act_long (kept d answer) watch = length-set watch.guards d.point (holding (held_by d) (guard_at watch.guards d.point))

pub acts_long : (acts : List Act) (watch : Watch) → length (after_acts acts watch).guards ≡ length watch.guards
acts_long [] watch = refl
acts_long (act ∷ acts) watch = acts_long acts (after_act act watch) ∙ act_long act watch

tried_follows : (acts : List Act) (watch : Watch) (due left : List Due) (point : ℕ) → point < length watch.guards → Tried watch due acts left →
    Follows (guard_at watch.guards point) (guard_at (after_acts acts watch).guards point) (calls_on point acts)
tried_follows [] watch due left point known is = follows_none (guard_at watch.guards point)
tried_follows (act ∷ acts) watch [] left point known is = absurd is
tried_follows (act ∷ acts) watch (want ∷ due) left point known is =
    follows_both (guard_at watch.guards point) (guard_at (after_act act watch).guards point) (guard_at (after_acts acts (after_act act watch)).guards point)
    (calls_by point act) (calls_on point acts) (act_follows watch want act point known is.0)
    (tried_follows acts (after_act act watch) due left point (subst (λ n. point < n) (sym (act_long act watch)) known) is.1)

turn_follows : (watch : Watch) (turn : Turn) (left : List Due) (point : ℕ) → point < length watch.guards → IsTurn watch turn left →
    Follows (guard_at watch.guards point) (guard_at (after_turn turn watch).guards point) (calls_on point turn.acts)
turn_follows watch turn left point known is = tried_follows turn.acts (after_reading turn.reading watch) (due_of turn.want watch.guards) left point known is

turn_long : (turn : Turn) (watch : Watch) → length (after_turn turn watch).guards ≡ length watch.guards
turn_long turn watch = acts_long turn.acts (after_reading turn.reading watch)

pub turns_long : (turns : List Turn) (watch : Watch) → length (after_turns turns watch).guards ≡ length watch.guards
turns_long [] watch = refl
turns_long (turn ∷ turns) watch = turns_long turns (after_turn turn watch) ∙ turn_long turn watch

turns_follow : (turns : List Turn) (watch : Watch) (point : ℕ) → point < length watch.guards → AreTurns watch turns →
    Follows (guard_at watch.guards point) (guard_at (after_turns turns watch).guards point) (calls_in point turns)
turns_follow [] watch point known are = follows_none (guard_at watch.guards point)
turns_follow (turn ∷ turns) watch point known are =
    follows_both (guard_at watch.guards point) (guard_at (after_turn turn watch).guards point) (guard_at (after_turns turns (after_turn turn watch)).guards point)
    (calls_on point turn.acts) (calls_in point turns) (turn_follows watch turn [] point known are.0)
    (turns_follow turns (after_turn turn watch) point (subst (λ n. point < n) (sym (turn_long turn watch)) known) are.1)

-- ---- a last turn that was cut

cut_follows : (watch : Watch) (last : Cut) (point : ℕ) → point < length watch.guards → FitsCut watch last →
    (new : Guard) × Follows (guard_at watch.guards point) new (calls_cut point last)
cut_follows watch nothing point known fits = (guard_at watch.guards point, follows_none (guard_at watch.guards point))
cut_follows watch (at_next reading) point known fits = (guard_at watch.guards point, follows_none (guard_at watch.guards point))
cut_follows watch (in_turn turn d at_read) point known fits = (
  guard_at (after_turn turn watch).guards point,
  subst (λ cs. Follows (guard_at watch.guards point) (guard_at (after_turn turn watch).guards point) cs) (sym (append-nil (calls_on point turn.acts)))
      (turn_follows watch turn (fits.want ∷ fits.left) point known fits.tried),
)
cut_follows watch (in_turn turn d (at_write reason cut)) point known fits =
    let guards : List Guard = (after_turn turn watch).guards in (
      guard_at (set guards d.point (written d.value d.now (guard_at guards d.point))) point,
      follows_both (guard_at watch.guards point) (guard_at guards point) (guard_at (set guards d.point (written d.value d.now (guard_at guards d.point))) point)
          (calls_on point turn.acts) (call_to point d reason) (turn_follows watch turn (fits.want ∷ fits.left) point known fits.tried)
          (write_follows guards point d reason (subst (λ n. point < n) (sym (turn_long turn watch)) known) fits.fits),
    )
cut_follows watch (at_doubt turn other differs) point known fits = (guard_at (after_turn turn watch).guards point, turn_follows watch turn [] point known fits)

pub keeps_times : (point : ℕ) (watch : Watch) (turns : List Turn) (last : Cut) → point < length watch.guards → (guard_at watch.guards point).last ≡ None →
    AreTurns watch turns → FitsCut (after_turns turns watch) last → KeepsTimes (minimum (guard_at watch.guards point)) (calls_in point turns ++ calls_cut point last)
keeps_times point watch turns last known fresh are fits =
    let cut = cut_follows (after_turns turns watch) last point (subst (λ n. point < n) (sym (turns_long turns watch)) known) fits in
    let all : Follows (guard_at watch.guards point) cut.0 (calls_in point turns ++ calls_cut point last) =
    follows_both (guard_at watch.guards point) (guard_at (after_turns turns watch).guards point) cut.0 (calls_in point turns) (calls_cut point last)
    (turns_follow turns watch point known are) cut.1 in
    keeps (minimum (guard_at watch.guards point)) (calls_in point turns ++ calls_cut point last)
    (subst (λ before. Spaced (minimum (guard_at watch.guards point)) before (calls_in point turns ++ calls_cut point last)) fresh all.spaced)

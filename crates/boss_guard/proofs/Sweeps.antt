-- The wants of some points, one after another.
use Rattle.std.proofs.Common.{◌≡◌, ℕ, ◌+◌, true, false, ◌||◌, Bool, List, [], ◌∷◌, ◌++◌, Option, Some, Result, Ok, Err, IfOk, IfErr, drop, refl, sym, ap, ◌∙◌, subst}
use Rattle.def_guards.specs.Guards.{holding, written}
use Rattle.def_guards.specs.declared.guard.Due.{Due}
use Rattle.def_guards.specs.Acts.{Watch, Decision, Act, wrote, kept, IsAct, Tried, after_act, after_acts, decided, due_from, guard_at, held_by, is_write}
use Rattle.def_guards.specs.Turns.{FitsTry, has_wrote}
use Rattle.boss_expiry.specs.declared.end.WorkEnd.{WorkEnd}
use Rattle.boss_drive.specs.Driving.{Stand, Gained, both}
use Rattle.boss_drive.proofs.Gains.{both_assoc, both_none, gained_both_of, gained_none}
use Rattle.boss_guard.specs.Making.{made_by_act, made_by_acts, left_by_try}
use Rattle.boss_guard.specs.Trying.{Swept, SweptCut, Placed, PlacedCut, TriedOne, TriedCut}
use Rattle.boss_guard.proofs.Holding.{due_behind_set, due_skipped}

-- ---- lists of acts

tried_both : (acts more : List Act) (watch : Watch) (due mid left : List Due) → Tried watch due acts mid → Tried (after_acts acts watch) mid more left →
    Tried watch due (acts ++ more) left
tried_both [] more watch due mid left first next = subst (λ due. Tried watch due more left) (sym first) next
tried_both (act ∷ acts) more watch [] mid left first next = absurd first
tried_both (act ∷ acts) more watch (want ∷ due) mid left first next = (first.0, tried_both acts more (after_act act watch) due mid left first.1 next)

after_both : (acts more : List Act) (watch : Watch) → after_acts (acts ++ more) watch ≡ after_acts more (after_acts acts watch)
after_both [] more watch = refl
after_both (act ∷ acts) more watch = after_both acts more (after_act act watch)

or_assoc : (a b c : Bool) → (a || (b || c)) ≡ ((a || b) || c)
or_assoc true b c = refl
or_assoc false b c = refl

wrote_both : (acts more : List Act) → has_wrote (acts ++ more) ≡ (has_wrote acts || has_wrote more)
wrote_both [] more = refl
wrote_both (act ∷ acts) more = ap (λ b. is_write act || b) (wrote_both acts more) ∙ or_assoc (is_write act) (has_wrote acts) (has_wrote more)

made_both : (acts more : List Act) → made_by_acts (acts ++ more) ≡ both (made_by_acts acts) (made_by_acts more)
made_both [] more = refl
made_both (act ∷ acts) more = ap (both (made_by_act act)) (made_both acts more) ∙ sym (both_assoc (made_by_act act) (made_by_acts acts) (made_by_acts more))

or_none : (b : Bool) → b ≡ (b || false)
or_none true = refl
or_none false = refl

-- ---- one want

-- what is due behind the want's point stays
behind_act : (before : Watch) (want : Due) (act : Act) (skipped : Option ℕ) → IsAct before want act →
    due_from (want.point + 1) skipped (drop (want.point + 1) before.guards) ≡ due_from (want.point + 1) skipped (drop (want.point + 1) (after_act act before).guards)
behind_act before want (wrote d reason ok told answer) skipped is =
    subst (λ place. due_from (place + 1) skipped (drop (place + 1) before.guards) ≡ due_from (place + 1) skipped (drop (place + 1) (after_act (wrote d reason ok told answer) before).guards))
    (ap (λ e. e.point) is.0) (sym (due_behind_set before.guards d.point (written d.value before.now (guard_at before.guards d.point)) skipped))
behind_act before want (kept d answer) skipped is =
    subst (λ place. due_from (place + 1) skipped (drop (place + 1) before.guards) ≡ due_from (place + 1) skipped (drop (place + 1) (after_act (kept d answer) before).guards))
    (ap (λ e. e.point) is.0) (sym (due_behind_set before.guards d.point (holding (held_by d) (guard_at before.guards d.point)) skipped))

-- and so does what the other points hold
other_act : (before : Watch) (want : Due) (act : Act) → IsAct before want act →
    due_from 0 (Some want.point) before.guards ≡ due_from 0 (Some want.point) (after_act act before).guards
other_act before want (wrote d reason ok told answer) is =
    subst (λ place. due_from 0 (Some place) before.guards ≡ due_from 0 (Some place) (after_act (wrote d reason ok told answer) before).guards)
    (ap (λ e. e.point) is.0) (sym (due_skipped before.guards d.point (written d.value before.now (guard_at before.guards d.point))))
other_act before want (kept d answer) is =
    subst (λ place. due_from 0 (Some place) before.guards ≡ due_from 0 (Some place) (after_act (kept d answer) before).guards)
    (ap (λ e. e.point) is.0) (sym (due_skipped before.guards d.point (holding (held_by d) (guard_at before.guards d.point))))

module _ (clocking recording : Type 0) (old new : Stand) (before : Watch) where
  one_swept : (want : Due) (after : Watch) (written : Bool) → (one : TriedOne clocking recording old new before want after written) → (rest left : List Due) → rest ≡ left →
      Swept clocking recording old new before (want ∷ rest) after left written
  one_swept want after written one rest left is = record {
    acts = one.act ∷ [];
    tried = (one.is, is);
    after_is = one.after_is;
    written_is = one.written_is ∙ or_none (is_write one.act);
    gained = subst (λ made. Gained clocking recording old new made) (sym (both_none (made_by_act one.act))) one.gained;
  }

  pub one_placed : (want : Due) (after : Watch) (written : Bool) (skipped : Option ℕ) (place : ℕ) → want.point ≡ place →
      due_from place skipped (drop place before.guards) ≡ want ∷ due_from (place + 1) skipped (drop (place + 1) before.guards) →
      TriedOne clocking recording old new before want after written → Placed clocking recording old new before skipped place after written
  one_placed want after written skipped place at due one =
      let stays : due_from (want.point + 1) skipped (drop (want.point + 1) before.guards) ≡ due_from (want.point + 1) skipped (drop (want.point + 1) after.guards) =
      behind_act before want one.act skipped one.is ∙ ap (λ w. due_from (want.point + 1) skipped (drop (want.point + 1) w.guards)) (sym one.after_is) in
      let here : due_from (place + 1) skipped (drop (place + 1) before.guards) ≡ due_from (place + 1) skipped (drop (place + 1) after.guards) =
      subst (λ p. due_from (p + 1) skipped (drop (p + 1) before.guards) ≡ due_from (p + 1) skipped (drop (p + 1) after.guards)) at stays in
      subst (λ due. Swept clocking recording old new before due after (due_from (place + 1) skipped (drop (place + 1) after.guards)) written) (sym due)
      (one_swept want after written one (due_from (place + 1) skipped (drop (place + 1) before.guards)) (due_from (place + 1) skipped (drop (place + 1) after.guards)) here)

  pub placed_if : (want : Due) (after : Watch) (skipped : Option ℕ) (place : ℕ) (result : Result Bool WorkEnd) → want.point ≡ place →
      due_from place skipped (drop place before.guards) ≡ want ∷ due_from (place + 1) skipped (drop (place + 1) before.guards) →
      IfOk result (TriedOne clocking recording old new before want after) → IfOk result (Placed clocking recording old new before skipped place after)
  placed_if want after skipped place (Ok written) at due one = one_placed want after written skipped place at due one
  placed_if want after skipped place (Err end) at due one = one

  pub placed_cut_if : (want : Due) (skipped : Option ℕ) (place : ℕ) (result : Result Bool WorkEnd) →
      due_from place skipped (drop place before.guards) ≡ want ∷ due_from (place + 1) skipped (drop (place + 1) before.guards) →
      IfErr result (TriedCut clocking recording old new before want) → IfErr result (PlacedCut clocking recording old new before skipped place)
  placed_cut_if want skipped place (Ok written) due one = one
  placed_cut_if want skipped place (Err end) due one = record { want = want; left = due_from (place + 1) skipped (drop (place + 1) before.guards); due = due; trial = one }

  pub one_given : (want : Due) (after : Watch) (written : Bool) → TriedOne clocking recording old new before want after written →
      Swept clocking recording old new before (want ∷ due_from 0 (Some want.point) before.guards) after (due_from 0 (Some want.point) after.guards) written
  one_given want after written one = one_swept want after written one (due_from 0 (Some want.point) before.guards) (due_from 0 (Some want.point) after.guards)
      (other_act before want one.act one.is ∙ ap (λ w. due_from 0 (Some want.point) w.guards) (sym one.after_is))

  -- the next want was not tried to its end
  pub cut_swept : (want : Due) (left : List Due) (end : WorkEnd) → TriedCut clocking recording old new before want end → SweptCut clocking recording old new before (want ∷ left) end
  cut_swept want left end one = record {
    acts = [];
    want = want;
    left = left;
    tried = refl;
    cut = one.cut;
    fits = one.fits;
    leaves = one.leaves;
    gained = one.gained;
  }

  pub cut_placed : (skipped : Option ℕ) (place : ℕ) (end : WorkEnd) → PlacedCut clocking recording old new before skipped place end →
      SweptCut clocking recording old new before (due_from place skipped (drop place before.guards)) end
  cut_placed skipped place end one = subst (λ due. SweptCut clocking recording old new before due end) (sym one.due) (cut_swept one.want one.left end one.trial)

-- nothing is due of a point
pub none_swept : (clocking recording : Type 0) (stand : Stand) (before : Watch) (due left : List Due) → due ≡ left →
    Swept clocking recording stand stand before due before left false
none_swept clocking recording stand before due left is = record {
  acts = [];
  tried = is;
  after_is = refl;
  written_is = refl;
  gained = gained_none clocking recording stand;
}

-- ---- some wants, and then more

module _ (clocking recording : Type 0) (old mid new : Stand) (before : Watch) (due : List Due) (between : Watch) (left : List Due) (written : Bool)
    (first : Swept clocking recording old mid before due between left written) where
  pub swept_then : (after : Watch) (last : List Due) (more : Bool) → Swept clocking recording mid new between left after last more →
      Swept clocking recording old new before due after last (written || more)
  swept_then after last more next = record {
    acts = first.acts ++ next.acts;
    tried = tried_both first.acts next.acts before due left last first.tried (subst (λ w. Tried w left next.acts last) first.after_is next.tried);
    after_is = next.after_is ∙ ap (after_acts next.acts) first.after_is ∙ sym (after_both first.acts next.acts before);
    written_is = ap (λ b. b || more) first.written_is ∙ ap (λ b. has_wrote first.acts || b) next.written_is ∙ sym (wrote_both first.acts next.acts);
    gained = gained_both_of clocking recording old mid new (made_by_acts first.acts) (made_by_acts next.acts) (made_by_acts (first.acts ++ next.acts))
        first.gained next.gained (sym (made_both first.acts next.acts));
  }

  from_between : (end : WorkEnd) → SweptCut clocking recording mid new between left end → SweptCut clocking recording mid new (after_acts first.acts before) left end
  from_between end next = subst (λ w. SweptCut clocking recording mid new w left end) first.after_is next

  swept_cut_then : (end : WorkEnd) → SweptCut clocking recording mid new (after_acts first.acts before) left end → SweptCut clocking recording old new before due end
  swept_cut_then end next =
      let d : Decision = decided next.want (after_acts (first.acts ++ next.acts) before).now in
      let at : after_acts next.acts (after_acts first.acts before) ≡ after_acts (first.acts ++ next.acts) before = sym (after_both first.acts next.acts before) in
      record {
        acts = first.acts ++ next.acts;
        want = next.want;
        left = next.left;
        tried = tried_both first.acts next.acts before due left (next.want ∷ next.left) first.tried next.tried;
        cut = next.cut;
        fits = subst (λ w. FitsTry (guard_at w.guards next.want.point) (decided next.want w.now) next.cut) at next.fits;
        leaves = next.leaves;
        gained = gained_both_of clocking recording old mid new (made_by_acts first.acts) (both (made_by_acts next.acts) (left_by_try end d next.cut))
            (both (made_by_acts (first.acts ++ next.acts)) (left_by_try end d next.cut)) first.gained
            (subst (λ w. Gained clocking recording mid new (both (made_by_acts next.acts) (left_by_try end (decided next.want w.now) next.cut))) at next.gained)
            (sym (both_assoc (made_by_acts first.acts) (made_by_acts next.acts) (left_by_try end d next.cut))
            ∙ ap (λ m. both m (left_by_try end d next.cut)) (sym (made_both first.acts next.acts)));
      }

  pub swept_cut : (end : WorkEnd) → SweptCut clocking recording mid new between left end → SweptCut clocking recording old new before due end
  swept_cut end next = swept_cut_then end (from_between end next)

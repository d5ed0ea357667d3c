-- A keeper's calls one after another.
use Rattle.std.proofs.Common.{◌≡◌, Bool, true, false, ◌||◌, ℕ, List, [], ◌++◌, refl, sym, ap, ◌∙◌, subst, append_assoc, append-nil}
use Rattle.boss_model.specs.declared.state.Actuator.{Actuator}
use Rattle.boss_model.specs.Sound.{IsSound}
use Rattle.boss_model.specs.State.{State}
use Rattle.boss_outside.specs.Counts.{Rose}
use Rattle.def_history.specs.declared.entry.Entry.{Entry}
use Rattle.def_history.specs.History.{events, is_broken, IsLegal, run, run_tried}
use Rattle.def_history.proofs.Going.{run_append, events_append, broken_append, tried_append, tried_whole, legal_append}
use Rattle.def_history.proofs.Sound.{legal-sound}
use Rattle.boss_shared.specs.declared.keeper.Keeper as keeper
use Rattle.boss_shared.specs.Walking.{shortened, Walks}
use Rattle.boss_shared.proofs.Holding.{shortened_append, tried_behind, whole_shortened}
use Rattle.boss_shared.proofs.Walks.{walks_join, walks_nowhere}
use Rattle.boss_scripts.specs.Keepers.{IsAt, Kept}
use Rattle.boss_scripts.specs.Runs.{after, Under}

-- ---- one of two

or-nothing : (a : Bool) → a ≡ (a || false)
or-nothing true = refl
or-nothing false = refl

or-assoc : (a b c : Bool) → ((a || b) || c) ≡ (a || (b || c))
or-assoc true b c = refl
or-assoc false b c = refl

or-turned : (a b : Bool) → (a || b) ≡ (b || a)
or-turned true true = refl
or-turned true false = refl
or-turned false true = refl
or-turned false false = refl

neither : (a b : Bool) → (a || b) ≡ false → (a ≡ false) × (b ≡ false)
neither true b is = absurd cc
neither false b is = (refl, is)

not-both : {P : Type 0} (a : Bool) → a ≡ true → a ≡ false → P
not-both a on off = let clash : true ≡ false = sym on ∙ off in absurd cc

module _ {V : Type 0} (v : keeper.Ghosts V) where
  -- no call makes nothing
  pub kept-nothing : (k : V) → Kept v k k []
  kept-nothing k = record {
    legal = tt;
    same_plant = refl;
    marked = or-nothing (v.stopped k);
    none = λ _. refl;
    still = λ _. refl;
    state_is = λ _. refl;
    rose = λ off on. not-both (v.stopped k) on off;
    stood = λ _. refl;
    images = λ _ here before has. (0, tt, here);
    images_stay = λ _ first second there. there;
    through = λ _ _ _. walks_nowhere (v.plant k) v.passes (v.state k) k;
    gained = λ _ before has. subst (v.keeps k) (sym (append-nil before)) has;
  }

  module _ (old mid new : V) (first second : List Entry) (one : Kept v old mid first) (two : Kept v mid new second) where
    -- the disk had failed before the second
    stopped-then : v.stopped mid ≡ true → Kept v old new (first ++ second)
    stopped-then on =
        let nil : second ≡ [] = two.none on in
        let stays : v.stopped new ≡ true = two.marked ∙ ap (λ b. b || is_broken second) on in
        subst (Kept v old new) (sym (ap (λ es. first ++ es) nil ∙ append-nil first)) (record {
          legal = one.legal;
          same_plant = two.same_plant ∙ one.same_plant;
          marked = stays ∙ sym on ∙ one.marked;
          none = one.none;
          still = λ was. two.still on ∙ one.still was;
          state_is = λ off. not-both (v.stopped new) stays off;
          rose = λ off _. subst (λ n. Rose (v.faults old) n) (sym (two.stood (stays ∙ sym on))) (one.rose off on);
          stood = λ same. two.stood (stays ∙ sym on) ∙ one.stood (on ∙ sym stays ∙ same);
          images = λ off here before has.
              let there = one.images off here before has in (there.0, there.1, two.images_stay on _ _ there.2);
          images_stay = λ was left right there. two.images_stay on left right (one.images_stay was left right there);
          through = λ off before has.
              subst (λ value. Walks (v.plant old) v.passes (v.state old) old first value) (sym (two.still on)) (one.through off before has);
          gained = λ off. not-both (v.stopped new) stays off;
        })

    -- it had not
    running-then : v.stopped mid ≡ false → Kept v old new (first ++ second)
    running-then off =
        let both = neither (v.stopped old) (is_broken first) (sym one.marked ∙ off) in
        let was : v.stopped old ≡ false = both.0 in
        let whole : is_broken first ≡ false = both.1 in
        let p : v.plant mid ≡ v.plant old = one.same_plant in
        let d : v.state mid ≡ run (v.plant old) first (v.state old) = one.state_is off in
        let legal : IsLegal (v.plant old) second (run (v.plant old) first (v.state old)) =
        subst (λ (q : List Actuator × State). IsLegal q.0 second q.1) (λ i. (p i, d i)) two.legal in
        let ran : run (v.plant mid) second (v.state mid) ≡ run (v.plant old) (first ++ second) (v.state old) =
        (λ i. run (p i) second (d i)) ∙ sym (run_append (v.plant old) first second (v.state old)) in
        let tried : (n : ℕ) → run_tried (v.plant mid) (shortened n second) (v.state mid) ≡ run_tried (v.plant old) (shortened n (first ++ second)) (v.state old) =
        λ n. (λ i. run_tried (p i) (shortened n second) (d i)) ∙ sym (tried_append (v.plant old) first (shortened n second) (v.state old) whole)
        ∙ ap (λ es. run_tried (v.plant old) es (v.state old)) (sym (shortened_append n first second whole)) in
        record {
          legal = legal_append (v.plant old) first second (v.state old) whole one.legal legal;
          same_plant = two.same_plant ∙ p;
          marked = two.marked ∙ ap (λ b. b || is_broken second) one.marked ∙ or-assoc (v.stopped old) (is_broken first) (is_broken second)
              ∙ ap (λ b. v.stopped old || b) (sym (broken_append first second));
          none = λ on. not-both (v.stopped old) on was;
          still = λ on. not-both (v.stopped old) on was;
          state_is = λ still. two.state_is still ∙ ran;
          rose = λ _ on. subst (λ n. Rose n (v.faults new)) (one.stood (off ∙ sym was)) (two.rose off on);
          stood = λ same. two.stood (same ∙ was ∙ sym off) ∙ one.stood (off ∙ sym was);
          images = λ _ here before has.
              let left = one.images was here before has in
              let there : v.leaves mid (v.state mid).persistent (v.state mid).persistent =
              subst (λ (q : State × State). v.leaves mid q.0.persistent q.1.persistent)
              (λ i. (sym d i, (ap (λ es. run_tried (v.plant old) es (v.state old)) (whole_shortened left.0 first whole) ∙ tried_whole (v.plant old) first (v.state old) whole ∙ sym d) i)) left.2 in
              let more = two.images off there (before ++ events (v.plant old) first (v.state old)) (one.gained off before has) in (
                more.0,
                tried_behind more.0 first second whole more.1,
                subst (λ (q : State × State). v.leaves new q.0.persistent q.1.persistent) (λ i. (ran i, tried more.0 i)) more.2,
              );
          images_stay = λ on. not-both (v.stopped old) on was;
          through = λ _ before has.
              walks_join (v.plant old) v.passes (v.state old) old mid new first second (one.through was before has)
              (subst (λ (q : List Actuator × State). Walks q.0 v.passes q.1 mid second new) (λ i. (p i, d i))
              (two.through off (before ++ events (v.plant old) first (v.state old)) (one.gained off before has)));
          gained = λ still before has.
              let all : (before ++ events (v.plant old) first (v.state old)) ++ events (v.plant mid) second (v.state mid) ≡ before ++ events (v.plant old) (first ++ second) (v.state old) =
              append_assoc before (events (v.plant old) first (v.state old)) (events (v.plant mid) second (v.state mid))
              ∙ ap (λ es. before ++ es) ((λ i. events (v.plant old) first (v.state old) ++ events (p i) second (d i)) ∙ sym (events_append (v.plant old) first second (v.state old))) in
              subst (v.keeps new) all (two.gained still (before ++ events (v.plant old) first (v.state old)) (one.gained off before has));
        }

    -- what two calls made, they made in order
    pub kept-then : Kept v old new (first ++ second)
    kept-then = cases (v.stopped mid) refl
      where
        cases : (b : Bool) → v.stopped mid ≡ b → Kept v old new (first ++ second)
        cases true on = stopped-then on
        cases false off = running-then off

  module _ (old new : V) (entries : List Entry) (kept : Kept v old new entries) where
    -- what goes on went on
    pub was-running : v.stopped new ≡ false → v.stopped old ≡ false
    was-running off = (neither (v.stopped old) (is_broken entries) (sym kept.marked ∙ off)).0

    -- as long as the disk has not failed, the machine is sound
    pub kept-sound : (v.stopped old ≡ false → IsSound (v.plant old) (v.state old)) → v.stopped new ≡ false → IsSound (v.plant new) (v.state new)
    kept-sound sound off =
        subst (λ p. IsSound p (v.state new)) (sym kept.same_plant)
        (subst (IsSound (v.plant old)) (sym (kept.state_is off)) (legal-sound (v.plant old) entries (v.state old) (sound (was-running off)) kept.legal))

    -- the keeper is as far as its entries lead
    pub is-after : (plant : List Actuator) (start : Under) → v.plant old ≡ plant → IsAt v old start → IsAt v new (after plant entries start)
    is-after plant start same is =
        let marked : v.stopped new ≡ (is_broken entries || start.stopped) =
        kept.marked ∙ ap (λ b. b || is_broken entries) is.stopped ∙ or-turned start.stopped (is_broken entries) in
        record {
          stopped = marked;
          state = λ off.
              let was : start.stopped ≡ false = (neither (is_broken entries) start.stopped off).1 in
              let d : v.state old ≡ start.state = is.state was in
              kept.state_is (marked ∙ off) ∙ (λ i. run (same i) entries (d i));
        }

  -- a script that has not stopped is where its keeper is
  abbrev pub running : V → Under
  running k = record { state = v.state k; stopped = false }

  pub at-running : (k : V) (start : Under) → v.stopped k ≡ false → IsAt v k start → running k ≡ start
  at-running k start off is =
      let no : start.stopped ≡ false = sym is.stopped ∙ off in
      let d : v.state k ≡ start.state = is.state no in
      λ i. record { state = d i; stopped = sym no i }

  pub is-running : (k : V) → v.stopped k ≡ false → IsAt v k (running k)
  is-running k off = record { stopped = off; state = λ _. refl }

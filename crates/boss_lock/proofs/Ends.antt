-- The rule at the start, and what it gives whoever closes the lock.
use Rattle.std.proofs.Common.{◌≡◌, ◌⊎◌, ℕ, zero, suc, ◌<◌, ◌≤◌, ◌^◌, List, [], ◌∷◌, length, Option, Some, None, inl, inr, refl, sym, ap, ◌∙◌, subst, arith}
use Rattle.std.proofs.lemmas.Bool.{cases_lt}
use mathlib.Core.Option as slot
use lib.ListN.{get_elem?}
use Rattle.atomic_table.specs.Seated.{TableId}
use Rattle.atomic_table.specs.Table.{State, opening, Final, Seen}
use Rattle.boss_lock.specs.Places.{below, times, numbers_from, AllBelow, total}
use Rattle.boss_lock.specs.Rule.{in_line, away, due, first_view, placed, Fits, slot_of, StandsAtHome, IsKept}
use Rattle.boss_lock.specs.Seats.{Lock, Standing, standing, IsAtRest}
use Rattle.boss_lock.specs.Steps.{Knower}
use Rattle.boss_lock.specs.declared.view.View.{View}
use Rattle.boss_lock.specs.declared.view.Stage.{Stage}
use Rattle.boss_lock.specs.declared.view.Stage.TheVariants.{Idle, Waiting, Turn, Holding, Given}
use Rattle.boss_lock.proofs.Counting.{below_yes, times_none, rising_all}
use Rattle.boss_lock.proofs.Histories.{prefix_whole}
use Rattle.boss_lock.proofs.Keeps.{value_of}
use Rattle.boss_lock.proofs.Resting.{idle_at_rest}
use Rattle.boss_lock.proofs.Sums.{total_only}

module _ {V T E : Type 0} (means : V → T → List E → Type 0) (start : T) (seats : ℕ) where
  -- a new lock: no ticket is drawn, the value is home, and one seat has every part
  pub opens : (value : V) → seats < 2 ^ 33 → means value start [] → IsKept means start seats (opening (0 ∷ 0 ∷ []) (Some value ∷ []) (first_view start seats))
  opens value few stands = record {
    low = 0;
    high = 0;
    log = [];
    home = Some value;
    words = refl;
    slots = refl;
    few_seats = few;
    stands = stands;
    one_value = refl;
    all_parts = omega arith;
    line = refl;
    tickets = λ t. refl;
    one_place = λ k. refl;
    each_seat = λ id v at. subst (Fits 0 [] start) (only id v at) record {
      same_start = λ _. refl;
      one_ticket = omega arith;
      spent = λ _. refl;
      rising = tt;
      seen_before = ([], refl);
      other_before = ([], refl);
      places_seen = tt;
      knows = tt;
    };
  }
    where
      only : (id : ℕ) (v : View T E) → get_elem? (first_view {T = T} {E = E} start seats ∷ []) id ≡ slot.some v → first_view start seats ≡ v
      only zero v at = slot.some-injective _ _ at
      only (suc id) v at = absurd (slot.some-ne-none v (sym at))

  idle_due : (k : ℕ) (stage : Stage E) → in_line stage ≡ 0 → due k stage ≡ 0
  idle_due k Idle z = refl
  idle_due k (Waiting t) z = absurd (omega arith)
  idle_due k (Turn t list) z = absurd (omega arith)
  idle_due k (Holding t list) z = absurd (omega arith)
  idle_due k (Given t list made) z = absurd (omega arith)

  idle_home : (stage : Stage E) → in_line stage ≡ 0 → away stage ≡ 0
  idle_home Idle z = refl
  idle_home (Waiting t) z = refl
  idle_home (Turn t list) z = refl
  idle_home (Holding t list) z = absurd (omega arith)
  idle_home (Given t list made) z = refl

  -- What a seat with every part finds: the value at home stands for all that the seat has seen, and every place is the seat's
  pub record Settled (v : View T E) (homes : List (slot.Option (Option V))) : Type 0 where
    pub value : V
    pub home : homes ≡ slot.some (Some value) ∷ []
    pub stands : means value start v.seen
    pub places : v.places ≡ numbers_from 0 (length v.seen)

  pub settles : (s : State (Option V) (View T E)) → IsKept means start seats s → (id : ℕ) (v : View T E) → get_elem? s.views id ≡ slot.some v → v.parts ≡ seats → v.stage ≡ Idle → v.other ≡ []
      → AllBelow (length v.seen) v.places → Settled v s.homes
  settles s r id v at every idle compared inside =
      let parts = r.all_parts in
      let alone : total (λ (u : View T E). u.parts) s.views ≡ v.parts = parts ∙ sym every in
      let no_line = λ (j : ℕ) (u : View T E) (there : get_elem? s.views j ≡ slot.some u) (none : u.parts ≡ 0). let o = (r.each_seat j u there).one_ticket in let z : in_line u.stage ≡ 0 = omega arith in z in
      let all_placed : (k : ℕ) → times k v.places ≡ below k (length r.log) = λ k.
      let only = total_only (λ (u : View T E). u.parts) (placed k) s.views id v
      (λ j u there none. let p : times k u.places ≡ 0 = ap (times k) ((r.each_seat j u there).spent none) in let d = idle_due k u.stage (no_line j u there none) in omega arith) at alone in
      let q = r.one_place k in
      let d : due k v.stage ≡ 0 = ap (due k) idle in
      omega arith in
      let whole : v.seen ≡ r.log = prefix_whole v.seen r.log (r.each_seat id v at).seen_before (seen_all (cases_lt (length v.seen) (length r.log)) all_placed) in
      let only_away = total_only (λ (u : View T E). u.parts) (λ (u : View T E). away u.stage) s.views id v (λ j u there none. idle_home u.stage (no_line j u there none)) at alone in
      let not_away : away v.stage ≡ 0 = ap away idle in
      let one = r.one_value in
      let home = value_of r.home (omega arith) in record {
        value = home.0;
        home = r.slots ∙ ap (λ (h : Option V). slot_of h ∷ []) home.1;
        stands = subst (means home.0 start) (sym whole) (subst (StandsAtHome means start r.log) home.1 r.stands);
        places = rising_all (length v.seen) v.places (r.each_seat id v at).rising (λ k. all_placed k ∙ ap (λ (l : List E). below k (length l)) (sym whole));
      }
    where
      seen_all : (length v.seen < length r.log) ⊎ (length r.log ≤ length v.seen) → ((k : ℕ) → times k v.places ≡ below k (length r.log)) → length r.log ≤ length v.seen
      seen_all (inr le) placed_all = le
      seen_all (inl less) placed_all =
          let e = placed_all (length v.seen) in
          let f = below_yes (length v.seen) (length r.log) less in
          let g = times_none (length v.seen) v.places inside in
          absurd (omega arith)

module _ {V T E : Type 0} (means : V → T → List E → Type 0) (held lock : Lock T) where
  -- the same of what is left of the table once it is closed, where r was taken out of the slot
  pub closes : (table : TableId) (id : ℕ) (me : Knower V T E) (seat : Standing T E) (words : List ℕ) (slots : List (Option V)) (r : Option V)
      → held ≡ lock → standing table me.0 ≡ seat → IsAtRest me → seat.turn ≡ None → seat.parts ≡ lock.seats
      → Final (Seen (IsKept means held.start held.seats) id me.0) words slots → get_elem? slots 0 ≡ slot.some r
      → (value : V) × (r ≡ Some value) × means value lock.start seat.seen × (seat.places ≡ numbers_from 0 (length seat.seen))
  closes table id me seat words slots r lock_is seat_is rest none every final taken =
      let idle = idle_at_rest table me seat seat_is rest none in
      let all : me.0.parts ≡ held.seats = ap (λ (s : Standing T E). s.parts) seat_is ∙ (every ∙ sym (ap (λ (l : Lock T). l.seats) lock_is)) in
      let end = settles means held.start held.seats final.0 final.1.0 id me.0 final.1.1 all idle.0 rest.compared rest.places.1 in
      let there : get_elem? slots 0 ≡ slot.some (Some end.value) = final.4 0 (Some end.value) (ap (λ (hs : List (slot.Option (Option V))). get_elem? hs 0) end.home) in (
        end.value,
        slot.some-injective _ _ (sym taken ∙ there),
        subst (λ (p : T × List E). means end.value p.0 p.1) (λ i. ((lock_is i).start, (seat_is i).seen)) end.stands,
        subst (λ (s : Standing T E). s.places ≡ numbers_from 0 (length s.seen)) seat_is end.places,
      )

-- The steps of a turn that is lent keep the rule.
use Rattle.std.proofs.Common.{◌≡◌, ℕ, ◌+◌, ◌<◌, ◌≤◌, List, [], ◌++◌, length, set, Option, Some, None, refl, sym, ap, ◌∙◌, subst, arith, length-append, append-nil, ⊎_elim}
use mathlib.Core.Option as slot
use mathlib.Core.List.{IsPrefix}
use Rattle.atomic_table.specs.Seated.{TableId}
use Rattle.atomic_table.specs.Table.{step, keeps, Allows, Splits, Joins}
use Rattle.atomic_table.proofs.Lists.{at_snoc}
use Rattle.boss_lock.specs.Places.{same, below, times, numbers_from, AllBelow, woven, entries_at, longer}
use Rattle.boss_lock.specs.Rule.{in_line, ticketed, away, due, Knows, spent_view, placed, Fits, present, StandsAtHome}
use Rattle.boss_lock.specs.Seats.{Standing, standing, IsAtRest, own_entries}
use Rattle.boss_lock.specs.Steps.{Knower, ticket_of, list_of, joined_view, added_view, bare_view, set_down_view, folded_view, added}
use Rattle.boss_lock.specs.declared.view.View.{View}
use Rattle.boss_lock.specs.declared.view.Stage.{Stage}
use Rattle.boss_lock.specs.declared.view.Stage.TheVariants.{Idle, Waiting, Turn, Holding, Given}
use Rattle.boss_lock.proofs.Counting.{same_self, times_append, times_numbers, all_below_more, all_below_append, all_below_numbers, rises_then}
use Rattle.boss_lock.proofs.Entries.{entries_after_turn}
use Rattle.boss_lock.proofs.Histories.{prefix_length, longer_nil, longer_before}
use Rattle.boss_lock.proofs.Keeps.{load_second, Rule, line_of, parts_of, away_of, ticket_at, others_fit, moves, others_move}
use Rattle.boss_lock.proofs.Sums.{total_set, total_snoc, total_at}

in_line_le : {E : Type 0} → (stage : Stage E) → in_line stage ≤ 1
in_line_le Idle = omega arith
in_line_le (Waiting t) = omega arith
in_line_le (Turn t list) = omega arith
in_line_le (Holding t list) = omega arith
in_line_le (Given t list made) = omega arith

-- a slot with no value stands for any history
stands_away : {V T E : Type 0} → (means : V → T → List E → Type 0) (start : T) (log : List E) (home : Option V) → present home ≡ 0 → StandsAtHome means start log home
stands_away means start log (Some y) z = absurd (omega arith)
stands_away means start log None z = tt

module _ {V T E : Type 0} (means : V → T → List E → Type 0) (start : T) (seats : ℕ) where
  -- A seat that holds the value adds entries to the history, and their places are its own
  pub adds : (slots id : ℕ) (me : Knower V T E) (t : ℕ) (list told made : List E) → me.0.stage ≡ Holding t list → 0 < me.0.parts → told ≡ made
      → Allows (Rule means start seats) slots id me 1 (λ n. n) (added told (step slots 1 0 0 slot.none) me)
  adds slots id me t list told made holding some_part _ s r _ at _ =
      let v = me.0 in
      let was = r.each_seat id v at in
      let known = subst (Knows r.low r.log) holding was.knows in
      let is_own : ticket_of v.stage ≡ t = ap ticket_of holding in
      let whole : list_of v.stage ≡ r.log = ap list_of holding ∙ known.1 in
      let away_now : away v.stage ≡ 1 = ap away holding in
      let served : ticketed r.low v.stage ≡ 1 = ap (ticketed r.low) holding ∙ (rw known.0 (same_self r.low)) in
      let one = r.one_value in
      let some_away = total_at (away_of means start seats) s.views id v at in
      let n = length (list_of v.stage) in
      let m = length told in
      let long : n ≡ length r.log = ap length whole in
      let known_long = prefix_length (longer v.seen v.other) r.log (longer_before v.seen v.other r.log was.seen_before was.other_before) in
      let before : AllBelow n v.places = all_below_more (length (longer v.seen v.other)) n v.places (omega arith) was.places_seen in
      let w = added_view v told in
      let rising = rises_then n m v.places was.rising before in
      let seen_long : length w.seen ≡ n + m = length-append (list_of v.stage) told in
      let inside : AllBelow (length w.seen) w.places = all_below_append (length w.seen) v.places (numbers_from n m)
      (all_below_more n (length w.seen) v.places (omega arith) before)
      (all_below_more (n + m) (length w.seen) (numbers_from n m) (omega arith) (all_below_numbers n m)) in (
        w,
        keeps,
        tt,
        moves means start seats s r id v w at refl r.low r.high (r.log ++ told) r.home _ _ (load_second s.words _ _ r.words) r.slots
            (stands_away means start (r.log ++ told) r.home (omega arith))
            (record {
              same_start = was.same_start;
              one_ticket = some_part;
              spent = λ none. absurd (omega arith);
              rising = rising;
              seen_before = ([], append-nil w.seen ∙ ap (λ (l : List E). l ++ told) whole);
              other_before = (r.log ++ told, refl);
              places_seen = subst (λ (l : List E). AllBelow (length l) w.places) (sym (longer_nil w.seen)) inside;
              knows = (is_own ∙ known.0, ap (λ (l : List E). l ++ told) whole);
            })
            (others_move means start seats s r id v r.low told at served)
            (omega arith)
            (let e : in_line v.stage ≡ 1 = ap in_line holding in omega arith)
            (λ k. let e : ticketed k v.stage ≡ same k (ticket_of v.stage) = ap (ticketed k) holding ∙ ap (same k) (sym is_own) in omega arith)
            (λ k.
            let none : due k v.stage ≡ 0 = ap (due k) holding in
            let both = times_append k v.places (numbers_from n m) in
            let counted = times_numbers k n m in
            let e : below k n ≡ below k (length r.log) = ap (below k) long in
            let f : below k (n + m) ≡ below k (length (r.log ++ told)) = ap (below k) (omega (arith, length-append r.log told)) in
            omega arith),
        (refl, subst (IsPrefix v.other) (sym whole) was.other_before, (rising, inside)),
      )

  -- A seat keeps one part, with its turn, and sets down the rest in a new seat
  pub sets_down : (id : ℕ) (v : View T E) → v.other ≡ [] → 2 ≤ v.parts → Splits (Rule {V = V} means start seats) id v (bare_view v) (set_down_view v)
  sets_down id v compared two s r at =
      let was = r.each_seat id v at in
      let left = bare_view v in
      let right = set_down_view v in
      let views = set s.views id left in
      let cut = λ (f : View T E → ℕ). total_set f s.views id v left at in
      let grown = λ (f : View T E → ℕ). total_snoc f views right in
      let fits_left : Fits r.low r.log start left = record {
        same_start = λ _. was.same_start (omega arith);
        one_ticket = in_line_le v.stage;
        spent = λ none. absurd (omega arith);
        rising = tt;
        seen_before = was.seen_before;
        other_before = was.other_before;
        places_seen = tt;
        knows = was.knows;
      } in
      let fits_right : Fits r.low r.log start right = record {
        same_start = λ _. was.same_start (omega arith);
        one_ticket = omega arith;
        spent = λ none. absurd (omega arith);
        rising = was.rising;
        seen_before = was.seen_before;
        other_before = (r.log, refl);
        places_seen = subst (λ (l : List E). AllBelow (length (longer v.seen l)) v.places) compared was.places_seen;
        knows = tt;
      } in record {
        low = r.low;
        high = r.high;
        log = r.log;
        home = r.home;
        words = r.words;
        slots = r.slots;
        few_seats = r.few_seats;
        stands = r.stands;
        one_value = let a = cut (away_of means start seats) in let b = grown (away_of means start seats) in let q = r.one_value in omega arith;
        all_parts = let a = cut (parts_of means start seats) in let b = grown (parts_of means start seats) in let q = r.all_parts in omega arith;
        line = let a = cut (line_of means start seats) in let b = grown (line_of means start seats) in let q = r.line in omega arith;
        tickets = λ t. let a = cut (ticket_at means start seats t) in let b = grown (ticket_at means start seats t) in let q = r.tickets t in omega arith;
        one_place = λ k. let a = cut (placed k) in let b = grown (placed k) in let q = r.one_place k in omega arith;
        each_seat = λ j u there. ⊎_elim (others_fit means start seats r.low r.log s.views id left fits_left (λ i x _. r.each_seat i x) j u) (λ (is : right ≡ u). subst (Fits r.low r.log start) is fits_right) (at_snoc views right u j there);
      }

  -- A seat takes the parts of another that is idle and has no places
  pub folds : (id : ℕ) (v : View T E) (other : ℕ) (u : View T E) → u.stage ≡ Idle → u.places ≡ [] → 0 < v.parts
      → Joins (Rule {V = V} means start seats) id v other u (folded_view v u) spent_view
  folds id v other u idle no_places some_part s r at apart there =
      let w = folded_view v u in
      let views = set s.views id w in
      let was = r.each_seat id v at in
      let first = λ (f : View T E → ℕ). total_set f s.views id v w at in
      let second = λ (f : View T E → ℕ). total_set f views other u spent_view there in
      let not_in_line : in_line u.stage ≡ 0 = ap in_line idle in
      let not_away : away u.stage ≡ 0 = ap away idle in
      let fits_own : Fits r.low r.log start w = record {
        same_start = λ _. was.same_start some_part;
        one_ticket = let one = was.one_ticket in omega arith;
        spent = λ none. absurd (omega arith);
        rising = was.rising;
        seen_before = was.seen_before;
        other_before = was.other_before;
        places_seen = was.places_seen;
        knows = was.knows;
      } in
      let fits_spent : Fits r.low r.log start spent_view = record {
        same_start = λ some_left. absurd (omega arith);
        one_ticket = omega arith;
        spent = λ _. refl;
        rising = tt;
        seen_before = (r.log, refl);
        other_before = (r.log, refl);
        places_seen = tt;
        knows = tt;
      } in record {
        low = r.low;
        high = r.high;
        log = r.log;
        home = r.home;
        words = r.words;
        slots = r.slots;
        few_seats = r.few_seats;
        stands = r.stands;
        one_value = let a = first (away_of means start seats) in let b = second (away_of means start seats) in let q = r.one_value in omega arith;
        all_parts = let a = first (parts_of means start seats) in let b = second (parts_of means start seats) in let q = r.all_parts in omega arith;
        line = let a = first (line_of means start seats) in let b = second (line_of means start seats) in let q = r.line in omega arith;
        tickets = λ t.
            let a = first (ticket_at means start seats t) in
            let b = second (ticket_at means start seats t) in
            let e : ticketed t u.stage ≡ 0 = ap (ticketed t) idle in
            let q = r.tickets t in
            omega arith;
        one_place = λ k.
            let a = first (placed k) in
            let b = second (placed k) in
            let e : due k u.stage ≡ 0 = ap (due k) idle in
            let f : times k u.places ≡ 0 = ap (times k) no_places in
            let q = r.one_place k in
            omega arith;
        each_seat = others_fit means start seats r.low r.log views other spent_view fits_spent (λ j x _. others_fit means start seats r.low r.log s.views id w fits_own (λ i y _. r.each_seat i y) j x);
      }

module _ {V T E : Type 0} where
  -- The own entries of a seat that a turn was lent to: those before, and those that were made
  pub own_lent : (table their_table : TableId) (me them now : Knower V T E) (seat other : Standing T E) (made : List E) → standing table me.0 ≡ seat → standing their_table them.0 ≡ other
      → seat.places ≡ [] → IsAtRest them → IsPrefix them.0.seen (list_of me.0.stage) → now ≡ (set_down_view (added_view (joined_view me.0 them.0) made), [])
      → entries_at now.0.seen now.0.places ≡ own_entries other ++ made
  own_lent table their_table me them now seat other made is are bare rest begins lent =
      let found = list_of me.0.stage in
      let no_places : me.0.places ≡ [] = ap (λ (s : Standing T E). s.places) is ∙ bare in
      ap (λ (m : Knower V T E). entries_at m.0.seen m.0.places) lent
      ∙ (ap (λ (ks : List ℕ). entries_at (found ++ made) (woven ks them.0.places ++ numbers_from (length found) (length made))) no_places
      ∙ (entries_after_turn them.0.seen found made them.0.places begins rest.places.1 ∙ ap (λ (s : Standing T E). own_entries s ++ made) are))

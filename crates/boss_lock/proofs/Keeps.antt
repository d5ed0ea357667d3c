-- Each kind of step keeps the rule.
use Rattle.std.proofs.Common.{◌≡◌, ◌≢◌, ◌⊎◌, ℕ, suc, ◌+◌, ◌%◌, ◌^◌, ◌<◌, ◌≤◌, List, [], ◌∷◌, ◌++◌, length, get_or, set, Option, Some, None, inl, inr, ⊎_elim, refl, sym, ap, ◌∙◌, subst, arith, length-append, append-nil}
use Rattle.std.proofs.lemmas.Bool.{cases_lt}
use mathlib.Core.Option as slot
use mathlib.Core.Logic.{dite}
use native.Mathlib.Decide.{ℕ_discrete}
use lib.ListN.{get_elem?}
use Rattle.atomic_table.specs.Table.{State, step, keeps, takes, gives, put_back, rest, Allows, Splits, Joins}
use Rattle.atomic_table.proofs.Lists.{at_set, at_snoc, set_else, one_turn}
use Rattle.boss_lock.specs.Places.{same, below, times, numbers_from, AllBelow, longer}
use Rattle.boss_lock.specs.Rule.{in_line, ticketed, away, due, Knows, spent_view, placed, Fits, slot_of, present, StandsAtHome, IsKept}
use Rattle.boss_lock.specs.Steps.{Knower, ticket_of, list_of, made_of, waiting_view, turn_view, holding_view, given_view, passed_view, left_view, right_view, joined_view, compared_view, IsHolding, StandsFor, drawn, looked, taken, given, passed, compared}
use Rattle.boss_lock.specs.declared.view.View.{View}
use Rattle.boss_lock.specs.declared.view.Stage.{Stage}
use Rattle.boss_lock.specs.declared.view.Stage.TheVariants.{Idle, Waiting, Turn, Holding, Given}
use Rattle.boss_lock.proofs.Counting.{same_self, below_no, below_yes, below_is, below_le, times_append, times_numbers, times_woven, all_below_more, all_below_append, all_below_numbers, all_below_from, all_below_woven, rises_then, rises_woven}
use Rattle.boss_lock.proofs.Histories.{prefix_more, longer_nil, longer_before, longer_is, length_longer_left, length_longer_right}
use Rattle.boss_lock.proofs.Sums.{total_set, total_snoc, total_at, total_two, total_le, total_le_but}

-- the two words once a step has read or raised one of them
load_first : (words : List ℕ) (a b : ℕ) → words ≡ a ∷ b ∷ [] → set words 0 (get_or words 0 0) ≡ a ∷ b ∷ []
load_first words a b is = subst (λ (ws : List ℕ). set ws 0 (get_or ws 0 0) ≡ a ∷ b ∷ []) (sym is) refl

pub load_second : (words : List ℕ) (a b : ℕ) → words ≡ a ∷ b ∷ [] → set words 1 (get_or words 1 0) ≡ a ∷ b ∷ []
load_second words a b is = subst (λ (ws : List ℕ). set ws 1 (get_or ws 1 0) ≡ a ∷ b ∷ []) (sym is) refl

raise : (n : ℕ) → (n % 2 ^ 64 + 1) % 2 ^ 64 ≡ suc n % 2 ^ 64
raise n = omega arith

add_first : (words : List ℕ) (a b : ℕ) → words ≡ (a % 2 ^ 64) ∷ b ∷ [] → set words 0 ((get_or words 0 0 + 1) % 2 ^ 64) ≡ (suc a % 2 ^ 64) ∷ b ∷ []
add_first words a b is = subst (λ (ws : List ℕ). set ws 0 ((get_or ws 0 0 + 1) % 2 ^ 64) ≡ (suc a % 2 ^ 64) ∷ b ∷ []) (sym is) (ap (λ n. n ∷ b ∷ []) (raise a))

add_second : (words : List ℕ) (a b : ℕ) → words ≡ a ∷ (b % 2 ^ 64) ∷ [] → set words 1 ((get_or words 1 0 + 1) % 2 ^ 64) ≡ a ∷ (suc b % 2 ^ 64) ∷ []
add_second words a b is = subst (λ (ws : List ℕ). set ws 1 ((get_or ws 1 0 + 1) % 2 ^ 64) ≡ a ∷ (suc b % 2 ^ 64) ∷ []) (sym is) (ap (λ n. a ∷ n ∷ []) (raise b))

first_word : (words : List ℕ) (a b : ℕ) → words ≡ a ∷ b ∷ [] → get_or words 0 0 ≡ a
first_word words a b is = ap (λ (ws : List ℕ). get_or ws 0 0) is

second_word : (words : List ℕ) (a b : ℕ) → words ≡ a ∷ b ∷ [] → get_or words 1 0 ≡ b
second_word words a b is = ap (λ (ws : List ℕ). get_or ws 1 0) is

module _ {E : Type 0} where
  -- a seat that holds the value has the ticket that is served
  away_served : (low : ℕ) (log : List E) (stage : Stage E) → Knows low log stage → away stage ≤ ticketed low stage
  away_served low log Idle k = omega arith
  away_served low log (Waiting t) k = omega arith
  away_served low log (Turn t list) k = omega arith
  away_served low log (Holding t list) k = let e : same low t ≡ 1 = rw k.0 (same_self low) in omega arith
  away_served low log (Given t list made) k = omega arith

  -- a seat whose ticket is not the one that is served knows nothing of the history's end
  knows_none : (low low' : ℕ) (log log' : List E) (stage : Stage E) → ticketed low stage ≡ 0 → Knows low log stage → Knows low' log' stage
  knows_none low low' log log' Idle z k = tt
  knows_none low low' log log' (Waiting t) z k = tt
  knows_none low low' log log' (Turn t list) z k = let e : same low t ≡ 1 = rw k.0 (same_self low) in absurd (omega arith)
  knows_none low low' log log' (Holding t list) z k = let e : same low t ≡ 1 = rw k.0 (same_self low) in absurd (omega arith)
  knows_none low low' log log' (Given t list made) z k = let e : same low t ≡ 1 = rw k.0 (same_self low) in absurd (omega arith)

pub value_of : {V : Type 0} → (home : Option V) → present home ≡ 1 → (y : V) × (home ≡ Some y)
value_of (Some y) is = (y, refl)
value_of None is = absurd (omega arith)

module _ {V T E : Type 0} (means : V → T → List E → Type 0) (start : T) (seats : ℕ) where
  abbrev pub Table : Type 0
  Table = State (Option V) (View T E)

  abbrev pub Rule : Table → Type 0
  Rule = IsKept means start seats

  abbrev pub line_of : View T E → ℕ
  line_of v = in_line v.stage

  abbrev pub parts_of : View T E → ℕ
  parts_of v = v.parts

  abbrev pub away_of : View T E → ℕ
  away_of v = away v.stage

  abbrev pub ticket_at : ℕ → View T E → ℕ
  ticket_at t v = ticketed t v.stage

  -- what is known of each seat, after one of them has changed its view
  pub others_fit : (low : ℕ) (log : List E) (views : List (View T E)) (id : ℕ) (w : View T E) → Fits low log start w
      → ((j : ℕ) (u : View T E) → j ≢ id → get_elem? views j ≡ slot.some u → Fits low log start u)
      → (j : ℕ) (u : View T E) → get_elem? (set views id w) j ≡ slot.some u → Fits low log start u
  others_fit low log views id w mine others j u at =
      ⊎_elim (λ (p : (j ≡ id) × (w ≡ u)). subst (Fits low log start) p.1 mine) (λ (p : (j ≢ id) × (get_elem? views j ≡ slot.some u)). others j u p.0 p.1) (at_set views id j w u at)

  -- A step of one seat that keeps its parts. The four equations say that what the step adds to each sum is what it adds to the other side
  pub moves : (s : Table) (r : Rule s) (id : ℕ) (v w : View T E) → get_elem? s.views id ≡ slot.some v → w.parts ≡ v.parts
      → (low high : ℕ) (log : List E) (home : Option V) (words : List ℕ) (homes : List (slot.Option (Option V)))
      → words ≡ (high % 2 ^ 64) ∷ (low % 2 ^ 64) ∷ [] → homes ≡ slot_of home ∷ []
      → StandsAtHome means start log home → Fits low log start w
      → ((j : ℕ) (u : View T E) → j ≢ id → get_elem? s.views j ≡ slot.some u → Fits r.low r.log start u → Fits low log start u)
      → present home + away w.stage ≡ present r.home + away v.stage
      → low + in_line w.stage + r.high ≡ high + in_line v.stage + r.low
      → ((t : ℕ) → ticketed t w.stage + below t low + below t r.high ≡ ticketed t v.stage + below t r.low + below t high)
      → ((k : ℕ) → placed k w + below k (length r.log) ≡ placed k v + below k (length log))
      → Rule record { words = words; homes = homes; views = set s.views id w }
  moves s r id v w at parts low high log home words homes is_words is_homes stands mine others value line tickets places = record {
    low = low;
    high = high;
    log = log;
    home = home;
    words = is_words;
    slots = is_homes;
    few_seats = r.few_seats;
    stands = stands;
    one_value = let h = total_set away_of s.views id v w at in let q = r.one_value in omega arith;
    all_parts = let h = total_set parts_of s.views id v w at in let q = r.all_parts in omega arith;
    line = let h = total_set line_of s.views id v w at in let q = r.line in omega arith;
    tickets = λ t. let h = total_set (ticket_at t) s.views id v w at in let q = r.tickets t in let e = tickets t in omega arith;
    one_place = λ k. let h = total_set (placed k) s.views id v w at in let q = r.one_place k in let e = places k in omega arith;
    each_seat = others_fit low log s.views id w mine (λ j u apart there. others j u apart there (r.each_seat j u there));
  }

  few_tickets : (s : Table) (r : Rule s) → r.high < r.low + 2 ^ 64
  few_tickets s r =
      let h = total_le line_of parts_of s.views (λ j u there. (r.each_seat j u there).one_ticket) in
      let p = r.line in let q = r.all_parts in let f = r.few_seats in omega arith

  -- a ticket that a seat has is not yet served past
  ticket_range : (s : Table) (r : Rule s) (id : ℕ) (v : View T E) (t : ℕ) → get_elem? s.views id ≡ slot.some v → ticketed t v.stage ≡ 1
      → (r.low ≤ t) × (t < r.high)
  ticket_range s r id v t at has =
      let m = total_at (ticket_at t) s.views id v at in
      let q = r.tickets t in
      let b = below_le t r.high in
      let up : t < r.high = below_is t r.high (omega arith) in
      let down : r.low ≤ t = cases (cases_lt t r.low) in
      (down, up)
    where
      cases : (t < r.low) ⊎ (r.low ≤ t) → r.low ≤ t
      cases (inl l) =
          let m = total_at (ticket_at t) s.views id v at in
          let q = r.tickets t in
          let b = below_le t r.high in
          let y = below_yes t r.low l in
          absurd (omega arith)
      cases (inr g) = g

  -- no two seats have one ticket
  tickets_apart : (s : Table) (r : Rule s) (i j : ℕ) (v u : View T E) (t : ℕ) → i ≢ j → get_elem? s.views i ≡ slot.some v → get_elem? s.views j ≡ slot.some u
      → ticketed t v.stage ≡ 1 → ticketed t u.stage ≡ 0
  tickets_apart s r i j v u t apart at there has =
      let m = total_two (ticket_at t) s.views i j v u apart at there in
      let q = r.tickets t in
      let b = below_le t r.high in
      omega arith

  -- the seat at another stage of its turn
  restaged : (low : ℕ) (log : List E) (v : View T E) (stage : Stage E) → Fits low log start v → in_line stage ≤ v.parts → Knows low log stage
      → Fits low log start (record v { stage = stage })
  restaged low log v stage fits one knows = record {
    same_start = fits.same_start;
    one_ticket = one;
    spent = fits.spent;
    rising = fits.rising;
    seen_before = fits.seen_before;
    other_before = fits.other_before;
    places_seen = fits.places_seen;
    knows = knows;
  }

  -- the same where the history has grown, or another ticket is served
  advanced : (low now : ℕ) (log more : List E) (v : View T E) (stage : Stage E) → Fits low log start v → in_line stage ≤ v.parts → Knows now (log ++ more) stage
      → Fits now (log ++ more) start (record v { stage = stage })
  advanced low now log more v stage fits one knows = record {
    same_start = fits.same_start;
    one_ticket = one;
    spent = fits.spent;
    rising = fits.rising;
    seen_before = prefix_more v.seen log more fits.seen_before;
    other_before = prefix_more v.other log more fits.other_before;
    places_seen = fits.places_seen;
    knows = knows;
  }

  -- a seat with the turn has the ticket that is served, so no other knows the history's end
  pub others_move : (s : Table) (r : Rule s) (id : ℕ) (v : View T E) (low : ℕ) (more : List E) → get_elem? s.views id ≡ slot.some v → ticketed r.low v.stage ≡ 1
      → (j : ℕ) (u : View T E) → j ≢ id → get_elem? s.views j ≡ slot.some u → Fits r.low r.log start u → Fits low (r.log ++ more) start u
  others_move s r id v low more at has j u apart there fits =
      let other = tickets_apart s r id j v u r.low (λ e. apart (sym e)) at there has in
      advanced r.low low r.log more u u.stage fits fits.one_ticket (knows_none r.low low r.log (r.log ++ more) u.stage other fits.knows)

  -- A seat with no ticket draws the next one
  pub draws : (slots id : ℕ) (me : Knower V T E) → me.0.stage ≡ Idle → 0 < me.0.parts
      → Allows Rule slots id me 0 (λ n. (n + 1) % 2 ^ 64) (drawn (step slots 0 1 0 slot.none) me)
  draws slots id me idle some_part s r _ at _ =
      let v = me.0 in
      let w = waiting_view v r.high in
      let was = r.each_seat id v at in
      let unheld : (k : ℕ) → ticketed k v.stage ≡ 0 = λ k. ap (ticketed k) idle in
      let not_in_line : in_line v.stage ≡ 0 = ap in_line idle in
      let at_home : away v.stage ≡ 0 = ap away idle in
      let none_due : (k : ℕ) → due k v.stage ≡ 0 = λ k. ap (due k) idle in (
        w,
        keeps,
        tt,
        moves s r id v w at refl r.low (suc r.high) r.log r.home _ _ (add_first s.words r.high _ r.words) r.slots r.stands
            (restaged r.low r.log v w.stage was some_part tt)
            (λ j u _ _ fits. fits)
            (omega arith)
            (omega arith)
            (λ t. let e = unheld t in omega arith)
            (λ k. let e = none_due k in omega arith),
        (r.high, first_word s.words _ _ r.words, refl),
      )

  -- a step that changes neither words nor views
  stays : (s : Table) (r : Rule s) (id : ℕ) (v : View T E) → get_elem? s.views id ≡ slot.some v → (words : List ℕ) → words ≡ (r.high % 2 ^ 64) ∷ (r.low % 2 ^ 64) ∷ []
      → Rule record { words = words; homes = s.homes; views = set s.views id v }
  stays s r id v at words is = moves s r id v v at refl r.low r.high r.log r.home words s.homes is r.slots r.stands (r.each_seat id v at) (λ j u _ _ fits. fits) refl (omega arith) (λ t. omega arith) (λ k. refl)

  -- A seat that waits looks at the ticket that is served. Where it is its own, it has the turn
  pub looks : (slots id : ℕ) (me : Knower V T E) (t : ℕ) → me.0.stage ≡ Waiting t
      → Allows Rule slots id me 1 (λ n. n) (looked (step slots 1 0 0 slot.none) me)
  looks slots id me t waits s r _ at _ =
      let v = me.0 in
      let own = ticket_of v.stage in
      let mine : ticketed own v.stage ≡ 1 = rw waits (same_self t) in
      let was = r.each_seat id v at in
      let found = second_word s.words _ _ r.words in
      dite (ℕ_discrete (get_or s.words 1 0) (own % 2 ^ 64))
      (λ hit.
      let range = ticket_range s r id v own at mine in
      let few = few_tickets s r in
      let is : r.low ≡ own = one_turn r.low own (2 ^ 64) range.0 (let up = range.1 in omega arith) (sym found ∙ hit) in
      let w = turn_view v r.log in (
        w,
        keeps,
        tt,
        moves s r id v w at refl r.low r.high r.log r.home _ _ (load_second s.words _ _ r.words) r.slots r.stands
            (restaged r.low r.log v w.stage was (let o = was.one_ticket in let e : in_line v.stage ≡ 1 = ap in_line waits in omega arith) (sym is, refl))
            (λ j u _ _ fits. fits)
            (let e : away v.stage ≡ 0 = ap away waits in omega arith)
            (let e : in_line v.stage ≡ 1 = ap in_line waits in omega arith)
            (λ k. let e : ticketed k v.stage ≡ same k own = (ap (ticketed k) waits ∙ ap (same k) (sym (ap ticket_of waits))) in omega arith)
            (λ k. let e : due k v.stage ≡ 0 = ap (due k) waits in omega arith),
        ((λ _. (r.log, was.seen_before, refl)), (λ miss. absurd (miss hit))),
      ))
      (λ miss. (v, keeps, tt, stays s r id v at _ (load_second s.words _ _ r.words), ((λ hit. absurd (miss hit)), (λ _. refl))))

  -- the value is home while no seat but this one may hold it
  is_home : (s : Table) (r : Rule s) (id : ℕ) (v : View T E) → get_elem? s.views id ≡ slot.some v → ticketed r.low v.stage ≡ 1 → away v.stage ≡ 0
      → present r.home ≡ 1
  is_home s r id v at served not_away =
      let h = total_le_but away_of (ticket_at r.low) s.views id v (λ j u there. away_served r.low r.log u.stage (r.each_seat j u there).knows) at in
      let q = r.tickets r.low in
      let none = below_no r.low r.low (omega arith) in
      let one = below_le r.low r.high in
      let value = r.one_value in
      omega arith

  -- A seat with the turn takes the value out of its slot
  pub takes_value : (slots id : ℕ) (me : Knower V T E) (t : ℕ) (list : List E) → me.0.stage ≡ Turn t list → 0 < me.0.parts
      → Allows Rule slots id me 1 (λ n. n) (taken means (step slots 1 0 0 slot.none) me)
  takes_value slots id me t list turn some_part s r _ at _ =
      let v = me.0 in
      let own = ticket_of v.stage in
      let was = r.each_seat id v at in
      let known = subst (Knows r.low r.log) turn was.knows in
      let is_own : own ≡ t = ap ticket_of turn in
      let is_list : list_of v.stage ≡ list = ap list_of turn in
      let not_away : away v.stage ≡ 0 = ap away turn in
      let served : ticketed r.low v.stage ≡ 1 = ap (ticketed r.low) turn ∙ (rw known.0 (same_self r.low)) in
      let home = value_of r.home (is_home s r id v at served not_away) in
      let y = home.0 in
      let w = holding_view v (list_of v.stage) in
      let slot_is : s.homes ≡ slot.some (Some y) ∷ [] = r.slots ∙ ap (λ (h : Option V). slot_of h ∷ []) home.1 in
      let stands : means y start r.log = subst (StandsAtHome means start r.log) home.1 r.stands in (
        w,
        takes 0 (Some y),
        ap (λ (hs : List (slot.Option (Option V))). get_elem? hs 0) slot_is,
        moves s r id v w at refl r.low r.high r.log None _ _ (load_second s.words _ _ r.words) (ap (λ (hs : List (slot.Option (Option V))). set hs 0 slot.none) slot_is) tt
            (restaged r.low r.log v w.stage was some_part (is_own ∙ known.0, is_list ∙ known.1))
            (λ j u _ _ fits. fits)
            (let e : present r.home ≡ 1 = ap present home.1 in omega arith)
            (let e : in_line v.stage ≡ 1 = ap in_line turn in omega arith)
            (λ k. let e : ticketed k v.stage ≡ same k own = ap (ticketed k) turn ∙ ap (same k) (sym is_own) in omega arith)
            (λ k. let e : due k v.stage ≡ 0 = ap (due k) turn in omega arith),
        (
          y,
          (λ x known_start.
              let own_start = was.same_start some_part in
              let e : start ≡ x = cc in
              let f : r.log ≡ list_of v.stage = sym (is_list ∙ known.1) in
              subst (λ (p : T × List E). means y p.0 p.1) (λ i. (e i, f i)) stands),
          refl,
        ),
      )

  -- A seat that holds the value puts it back, and knows which entries it has made
  pub gives_value : (slots id : ℕ) (me : Knower V T E) (t : ℕ) (list told : List E) (y : V) → me.0.stage ≡ Holding t list
      → me.1 ≡ (0, Some y) ∷ [] → 0 < me.0.parts
      → StandsFor means y me.0 (list ++ told)
      → Allows Rule slots id me 1 (λ n. n) (given told (step slots 1 0 0 slot.none) me)
  gives_value slots id me t list told y holding carried some_part asked s r _ at _ =
      let v = me.0 in
      let own = ticket_of v.stage in
      let was = r.each_seat id v at in
      let known = subst (Knows r.low r.log) holding was.knows in
      let is_own : own ≡ t = ap ticket_of holding in
      let is_list : list_of v.stage ≡ list = ap list_of holding in
      let away_now : away v.stage ≡ 1 = ap away holding in
      let served : ticketed r.low v.stage ≡ 1 = ap (ticketed r.low) holding ∙ (rw known.0 (same_self r.low)) in
      let one = r.one_value in
      let some_away = total_at away_of s.views id v at in
      let log = r.log ++ told in
      let w = given_view v told in (
        w,
        gives,
        tt,
        moves s r id v w at refl r.low r.high log (Some y) _ _ (load_second s.words _ _ r.words)
            (subst (λ (c : List (ℕ × Option V)). put_back s.homes c ≡ slot.some (Some y) ∷ []) (sym carried)
            (ap (λ (hs : List (slot.Option (Option V))). set hs 0 (slot.some (Some y))) r.slots))
            (subst (λ (l : List E). means y start (l ++ told)) known.1 (asked start (was.same_start some_part)))
            (advanced r.low r.low r.log told v w.stage was some_part (is_own ∙ known.0, ap (λ (l : List E). l ++ told) (is_list ∙ known.1)))
            (others_move s r id v r.low told at served)
            (omega arith)
            (let e : in_line v.stage ≡ 1 = ap in_line holding in omega arith)
            (λ k. let e : ticketed k v.stage ≡ same k own = ap (ticketed k) holding ∙ ap (same k) (sym is_own) in omega arith)
            (λ k.
            let none : due k v.stage ≡ 0 = ap (due k) holding in
            let long : length (list_of v.stage) ≡ length r.log = ap length (is_list ∙ known.1) in
            let counted = times_numbers k (length (list_of v.stage)) (length told) in
            let e : below k (length (list_of v.stage)) ≡ below k (length r.log) = ap (below k) long in
            let f : below k (length (list_of v.stage) + length told) ≡ below k (length log) = ap (below k) (omega (arith, length-append r.log told)) in
            omega arith),
        refl,
      )

  -- a seat that has given the value back has its own places before those that are due
  places_before : (s : Table) (r : Rule s) (id : ℕ) (v : View T E) (list made : List E) → get_elem? s.views id ≡ slot.some v
      → ((k : ℕ) → due k v.stage ≡ times k (numbers_from (length list) (length made)))
      → list ++ made ≡ r.log → AllBelow (length list) v.places
  places_before s r id v list made at dues whole = all_below_from (length list) v.places (λ k stands_there.
      let n = length list in
      let m = length made in
      let long : n + m ≡ length r.log = omega (arith, sym (length-append list made) ∙ ap length whole) in
      let mine = total_at (placed k) s.views id v at in
      let all = r.one_place k in
      let is_due = dues k in
      let counted = times_numbers k n m in
      let e : below k (n + m) ≡ below k (length r.log) = ap (below k) long in
      let one = below_le k (length r.log) in
      below_is k n (omega arith))

  -- A seat that has given the value back passes the turn on, and its new places are its own
  pub passes_on : (slots id : ℕ) (me : Knower V T E) (t : ℕ) (list made : List E) → me.0.stage ≡ Given t list made → 0 < me.0.parts
      → Allows Rule slots id me 1 (λ n. (n + 1) % 2 ^ 64) (passed (step slots 1 1 0 slot.none) me)
  passes_on slots id me t list made done some_part s r _ at _ =
      let v = me.0 in
      let was = r.each_seat id v at in
      let known = subst (Knows r.low r.log) done was.knows in
      let is_list : list_of v.stage ≡ list = ap list_of done in
      let is_made : made_of v.stage ≡ made = ap made_of done in
      let n = length (list_of v.stage) in
      let m = length (made_of v.stage) in
      let whole : list_of v.stage ++ made_of v.stage ≡ r.log = (λ i. is_list i ++ is_made i) ∙ known.1 in
      let long : n + m ≡ length r.log = omega (arith, sym (length-append (list_of v.stage) (made_of v.stage)) ∙ ap length whole) in
      let served : ticketed r.low v.stage ≡ 1 = ap (ticketed r.low) done ∙ (rw known.0 (same_self r.low)) in
      let same_due : (k : ℕ) → times k (numbers_from n m) ≡ times k (numbers_from (length list) (length made)) = λ k i. times k (numbers_from (length (is_list i)) (length (is_made i))) in
      let dues : (k : ℕ) → due k v.stage ≡ times k (numbers_from n m) = λ k. ap (due k) done ∙ sym (same_due k) in
      let before = places_before s r id v (list_of v.stage) (made_of v.stage) at dues whole in
      let w = passed_view v in
      let rising = rises_then n m v.places was.rising before in
      let seen_long : length w.seen ≡ n + m = length-append (list_of v.stage) (made_of v.stage) in
      let inside : AllBelow (length w.seen) w.places = all_below_append (length w.seen) v.places (numbers_from n m)
      (all_below_more n (length w.seen) v.places (omega arith) before)
      (all_below_more (n + m) (length w.seen) (numbers_from n m) (omega arith) (all_below_numbers n m)) in
      let same_log : r.log ++ [] ≡ r.log = append-nil r.log in (
        w,
        keeps,
        tt,
        moves s r id v w at refl (suc r.low) r.high r.log r.home _ _ (add_second s.words _ _ r.words) r.slots r.stands
            (record {
              same_start = was.same_start;
              one_ticket = omega arith;
              spent = λ none. absurd (omega arith);
              rising = rising;
              seen_before = ([], append-nil w.seen ∙ whole);
              other_before = was.other_before;
              places_seen = all_below_more (length w.seen) (length (longer w.seen v.other)) w.places (length_longer_left w.seen v.other) inside;
              knows = tt;
            })
            (λ j u apart there fits. subst (λ (log : List E). Fits (suc r.low) log start u) same_log (others_move s r id v (suc r.low) [] at served j u apart there fits))
            (let e : away v.stage ≡ 0 = ap away done in omega arith)
            (let e : in_line v.stage ≡ 1 = ap in_line done in omega arith)
            (λ k. let e : ticketed k v.stage ≡ same k r.low = ap (ticketed k) done ∙ ap (same k) known.0 in omega arith)
            (λ k. let e = dues k in let f = times_append k v.places (numbers_from n m) in omega arith),
        (refl, (rising, inside)),
      )

  -- A seat compares two lists that it knows, of which one begins the other
  pub compares : (slots id : ℕ) (me : Knower V T E) → Allows Rule slots id me 0 (λ n. n) (compared (step slots 0 0 0 slot.none) me)
  compares slots id me s r _ at _ =
      let v = me.0 in
      let was = r.each_seat id v at in
      let both = longer v.seen v.other in
      let w = compared_view v in (
        w,
        keeps,
        tt,
        moves s r id v w at refl r.low r.high r.log r.home _ _ (load_first s.words _ _ r.words) r.slots r.stands
            (record {
              same_start = was.same_start;
              one_ticket = was.one_ticket;
              spent = was.spent;
              rising = was.rising;
              seen_before = longer_before v.seen v.other r.log was.seen_before was.other_before;
              other_before = (r.log, refl);
              places_seen = subst (λ (l : List E). AllBelow (length l) v.places) (sym (longer_nil both)) was.places_seen;
              knows = was.knows;
            })
            (λ j u _ _ fits. fits)
            refl
            (omega arith)
            (λ t. omega arith)
            (λ k. refl),
        (refl, longer_is v.seen v.other r.log was.seen_before was.other_before, (was.rising, was.places_seen)),
      )

  -- A seat with two parts or more gives one of them to a new seat
  pub splits : (id : ℕ) (v : View T E) → v.stage ≡ Idle → 2 ≤ v.parts → Splits Rule id v (left_view v) (right_view v)
  splits id v idle two s r at =
      let was = r.each_seat id v at in
      let left = left_view v in
      let right = right_view v in
      let views = set s.views id left in
      let cut = λ (f : View T E → ℕ). total_set f s.views id v left at in
      let grown = λ (f : View T E → ℕ). total_snoc f views right in
      let not_in_line : in_line v.stage ≡ 0 = ap in_line idle in
      let not_away : away v.stage ≡ 0 = ap away idle in
      let fits_left : Fits r.low r.log start left = record {
        same_start = λ _. was.same_start (omega arith);
        one_ticket = omega arith;
        spent = λ none. absurd (omega arith);
        rising = was.rising;
        seen_before = was.seen_before;
        other_before = was.other_before;
        places_seen = was.places_seen;
        knows = was.knows;
      } in
      let fits_right : Fits r.low r.log start right = record {
        same_start = λ _. was.same_start (omega arith);
        one_ticket = omega arith;
        spent = λ none. absurd (omega arith);
        rising = tt;
        seen_before = was.seen_before;
        other_before = (r.log, refl);
        places_seen = tt;
        knows = tt;
      } in record {
        low = r.low;
        high = r.high;
        log = r.log;
        home = r.home;
        words = r.words;
        slots = r.slots;
        few_seats = r.few_seats;
        stands = r.stands;
        one_value = let a = cut away_of in let b = grown away_of in let q = r.one_value in omega arith;
        all_parts = let a = cut parts_of in let b = grown parts_of in let q = r.all_parts in omega arith;
        line = let a = cut line_of in let b = grown line_of in let q = r.line in omega arith;
        tickets = λ t. let a = cut (ticket_at t) in let b = grown (ticket_at t) in let q = r.tickets t in omega arith;
        one_place = λ k. let a = cut (placed k) in let b = grown (placed k) in let q = r.one_place k in omega arith;
        each_seat = λ j u there. ⊎_elim (others_fit r.low r.log s.views id left fits_left (λ i x _. r.each_seat i x) j u) (λ (is : right ≡ u). subst (Fits r.low r.log start) is fits_right) (at_snoc views right u j there);
      }

  -- A seat takes in the parts and the places of another that is idle, and what it had seen
  pub joins : (id : ℕ) (v : View T E) (other : ℕ) (u : View T E) → u.stage ≡ Idle → v.other ≡ [] → u.other ≡ [] → 0 < v.parts
      → Joins Rule id v other u (joined_view v u) spent_view
  joins id v other u idle compared_once compared_too some_part s r at apart there =
      let w = joined_view v u in
      let views = set s.views id w in
      let was = r.each_seat id v at in
      let theirs = r.each_seat other u (sym (set_else s.views id other w apart) ∙ there) in
      let first = λ (f : View T E → ℕ). total_set f s.views id v w at in
      let second = λ (f : View T E → ℕ). total_set f views other u spent_view there in
      let not_in_line : in_line u.stage ≡ 0 = ap in_line idle in
      let not_away : away u.stage ≡ 0 = ap away idle in
      let once : (k : ℕ) → times k v.places + times k u.places ≤ 1 = λ k.
      let m = total_two (placed k) s.views id other v u (λ e. apart (sym e)) at (sym (set_else s.views id other w apart) ∙ there) in
      let q = r.one_place k in
      let b = below_le k (length r.log) in
      omega arith in
      let seen : AllBelow (length v.seen) v.places = subst (λ (l : List E). AllBelow (length l) v.places) ((λ i. longer v.seen (compared_once i)) ∙ longer_nil v.seen) was.places_seen in
      let seen_too : AllBelow (length u.seen) u.places = subst (λ (l : List E). AllBelow (length l) u.places) ((λ i. longer u.seen (compared_too i)) ∙ longer_nil u.seen) theirs.places_seen in
      let fits_own : Fits r.low r.log start w = record {
        same_start = λ _. was.same_start some_part;
        one_ticket = let one = was.one_ticket in omega arith;
        spent = λ none. absurd (omega arith);
        rising = rises_woven v.places u.places was.rising theirs.rising once;
        seen_before = was.seen_before;
        other_before = theirs.seen_before;
        places_seen = all_below_woven (length (longer v.seen u.seen)) v.places u.places
            (all_below_more (length v.seen) (length (longer v.seen u.seen)) v.places (length_longer_left v.seen u.seen) seen)
            (all_below_more (length u.seen) (length (longer v.seen u.seen)) u.places (length_longer_right v.seen u.seen) seen_too);
        knows = was.knows;
      } in
      let fits_spent : Fits r.low r.log start spent_view = record {
        same_start = λ some_left. absurd (omega arith);
        one_ticket = omega arith;
        spent = λ _. refl;
        rising = tt;
        seen_before = (r.log, refl);
        other_before = (r.log, refl);
        places_seen = tt;
        knows = tt;
      } in record {
        low = r.low;
        high = r.high;
        log = r.log;
        home = r.home;
        words = r.words;
        slots = r.slots;
        few_seats = r.few_seats;
        stands = r.stands;
        one_value = let a = first away_of in let b = second away_of in let q = r.one_value in omega arith;
        all_parts = let a = first parts_of in let b = second parts_of in let q = r.all_parts in omega arith;
        line = let a = first line_of in let b = second line_of in let q = r.line in omega arith;
        tickets = λ t. let a = first (ticket_at t) in let b = second (ticket_at t) in let e : ticketed t u.stage ≡ 0 = ap (ticketed t) idle in let q = r.tickets t in omega arith;
        one_place = λ k.
            let a = first (placed k) in
            let b = second (placed k) in
            let e : due k u.stage ≡ 0 = ap (due k) idle in
            let f = times_woven k v.places u.places in
            let q = r.one_place k in
            omega arith;
        each_seat = others_fit r.low r.log views other spent_view fits_spent (λ j x _. others_fit r.low r.log s.views id w fits_own (λ i y _. r.each_seat i y) j x);
      }

  -- the same once the value lies in the slot that the seat holds
  pub gives_back : (slots id : ℕ) (me now : Knower V T E) (told made : List E) (y : V) → now ≡ (me.0, (0, Some y) ∷ rest me.1)
      → IsHolding me.0 → me.1 ≡ (0, None) ∷ [] → 0 < me.0.parts → told ≡ made
      → StandsFor means y me.0 (list_of me.0.stage ++ made)
      → Allows Rule slots id now 1 (λ n. n) (given told (step slots 1 0 0 slot.none) now)
  gives_back slots id me now told made y is holding carried some_part same_made asked =
      subst (λ (m : Knower V T E). Allows Rule slots id m 1 (λ n. n) (given told (step slots 1 0 0 slot.none) m)) (sym is)
      (gives_value slots id (me.0, (0, Some y) ∷ rest me.1) (ticket_of me.0.stage) (list_of me.0.stage) told y holding (ap (λ (c : List (ℕ × Option V)). (0, Some y) ∷ rest c) carried) some_part
      (λ x known. subst (λ (m : List E). means y x (list_of me.0.stage ++ m)) (sym same_made) (asked x known)))

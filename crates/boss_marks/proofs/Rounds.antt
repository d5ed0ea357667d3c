-- Rounds over all points, one by one: the wants at the start, and the devices that pass a test and are changed.
use Rattle.std.proofs.Common.{◌≡◌, ℕ, zero, suc, ◌+◌, ◌-◌, ◌<◌, ◌≤◌, pos, Bool, false, not, cond, List, [], ◌∷◌, ◌++◌, length, map, take, drop, set, get_or, refl, sym, ◌∙◌, ap, ⊎_elim, arith}
use Rattle.std.specs.Prelude.{filter}
use Rattle.std.specs.List.{enumerate_from, range_with_len}
use Rattle.std.proofs.lemmas.Bool.{cases_Bool}
use Rattle.std.proofs.lemmas.Grind.{common_steps}
use Rattle.std.proofs.lemmas.List.{append_assoc, append-nil, take_more, drop_more, set_at, length-take-le, map_push, get_or_at}
use Rattle.std.proofs.Math.Seq.{take-length, drop-length}
use Rattle.std.proofs.lemmas.Option.{unwrap_or-slice_get}
use Rattle.boss_model.specs.Devices.{proxy_of}
use Rattle.boss_model.specs.Lists.{member, without}
use Rattle.boss_model.specs.Settle.{fresh, wanted_anew, places, changed_if}
use Rattle.boss_model.specs.declared.state.Proxy.{Proxy}
use Rattle.boss_model.proofs.Changed.{change_at, length-changed_if}
use Rattle.boss_model.proofs.Members.{member-append, without-none}
use Rattle.boss_marks.specs.Marks.{Marks, wanted, wanted_last}

-- ---- the wants at the start

range-push : (from count : ℕ) → range_with_len from (count + 1) ≡ range_with_len from count ++ (from + count) ∷ []
range-push from zero =
    let same : from ≡ from + 0 = omega arith in
    ap (λ number. number ∷ []) same
range-push from (suc count) =
    let next : suc count + 1 ≡ suc (count + 1) = omega arith in
    let last : from + 1 + count ≡ from + suc count = omega arith in
    rw next (ap (λ rest. from ∷ rest) (rw last at (range-push (from + 1) count)))

member-range : (from count point : ℕ) → from + count ≤ point → member point (range_with_len from count) ≡ false
member-range from zero point past = refl
member-range from (suc count) point past = grind (arith, common_steps, member-range (from + 1) count point (omega arith))

pub wanted_last-range : (count : ℕ) → wanted_last count (range_with_len 0 count) ≡ range_with_len 0 (count + 1)
wanted_last-range count =
    let outside : member count (range_with_len 0 count) ≡ false = member-range 0 count count (omega arith) in
    let last : 0 + count ≡ count = omega arith in
    rw (without-none count (range_with_len 0 count) outside, range-push 0 count, last) refl

-- ---- a point that is put last after some others

filter-without : (point : ℕ) (points wants : List ℕ) → without point (filter (λ want. not (member want points)) wants) ≡ filter (λ want. not (member want (points ++ point ∷ []))) wants
filter-without point points [] = refl
filter-without point points (x ∷ xs) = grind (arith, common_steps, filter-without point points xs, member-append x points (point ∷ []))

without-append : (point : ℕ) (xs ys : List ℕ) → without point (xs ++ ys) ≡ without point xs ++ without point ys
without-append point [] ys = refl
without-append point (x ∷ xs) ys = grind (arith, common_steps, without-append point xs ys)

wanted_anew-push : (point : ℕ) (points wants : List ℕ) → member point points ≡ false → wanted_last point (wanted_anew points wants) ≡ wanted_anew (points ++ point ∷ []) wants
wanted_anew-push point points wants outside =
    rw (without-append point (filter (λ want. not (member want points)) wants) points, filter-without point points wants, without-none point points outside)
    (append_assoc (filter (λ want. not (member want (points ++ point ∷ []))) wants) points (point ∷ []))

filter_all : (wants : List ℕ) → filter (λ want. not (member want [])) wants ≡ wants
filter_all [] = refl
filter_all (x ∷ xs) = ap (λ rest. x ∷ rest) (filter_all xs)

same_marks : (drivers : List ℕ) (proxies proxies' : List Proxy) (wants wants' : List ℕ) → proxies ≡ proxies' → wants ≡ wants'
    → ◌≡◌ {A = Marks} (record { drivers = drivers; proxies = proxies; wants = wants }) (record { drivers = drivers; proxies = proxies'; wants = wants' })
same_marks drivers proxies proxies' wants wants' same_proxies same_wants = cc

enumerate_from-push : (from : ℕ) (proxies : List Proxy) (proxy : Proxy) → enumerate_from from (proxies ++ proxy ∷ []) ≡ enumerate_from from proxies ++ (from + length proxies, proxy) ∷ []
enumerate_from-push from [] proxy = grind (arith, common_steps)
enumerate_from-push from (x ∷ xs) proxy = grind (arith, common_steps, enumerate_from-push (from + 1) xs proxy)

proxy_at : (front : List Proxy) (proxy : Proxy) (back : List Proxy) (count : ℕ) → length front ≡ count → proxy_of (front ++ proxy ∷ back) count ≡ proxy
proxy_at front proxy back count is = unwrap_or-slice_get (front ++ proxy ∷ back) count (fresh (pos 0)) ∙ get_or_at front proxy back (fresh (pos 0)) count is

-- ---- a round in which the devices that pass a test of point and device are changed, and want to be written

module _ (test : ℕ × Proxy → Bool) (change : ℕ × Proxy → Proxy) where
  -- one point's turn
  abbrev pub turned : ℕ → Marks → Marks
  turned point marks = cond (test (point, proxy_of marks.proxies point)) (wanted point (change (point, proxy_of marks.proxies point)) marks) marks

  -- the marks after the points below `count` had their turn
  abbrev pub turned_below : ℕ → Marks → Marks
  turned_below count marks = record marks {
    proxies = changed_if test change (take count marks.proxies) ++ drop count marks.proxies;
    wants = wanted_anew (places test (take count marks.proxies)) marks.wants;
  }

  pub turned_below-none : (marks : Marks) → turned_below 0 marks ≡ marks
  turned_below-none marks = rw (filter_all, append-nil) refl

  changed_if-push : (front : List Proxy) (proxy : Proxy) → changed_if test change (front ++ proxy ∷ []) ≡ changed_if test change front ++ change_at test change (length front, proxy) ∷ []
  changed_if-push front proxy =
      let first : 0 + length front ≡ length front = omega arith in
      rw first at (ap (map (change_at test change)) (enumerate_from-push 0 front proxy) ∙ map_push (change_at test change) (enumerate_from 0 front) (0 + length front, proxy))

  -- the places of those that pass, counted from `from`
  abbrev places_from : ℕ → List Proxy → List ℕ
  places_from from proxies = map (λ place. place.0) (filter test (enumerate_from from proxies))

  places_from-push : (from : ℕ) (proxies : List Proxy) (proxy : Proxy) → places_from from (proxies ++ proxy ∷ []) ≡ places_from from proxies ++ cond (test (from + length proxies, proxy)) ((from + length proxies) ∷ []) []
  places_from-push from [] proxy = grind (arith, common_steps)
  places_from-push from (x ∷ xs) proxy = grind (arith, common_steps, places_from-push (from + 1) xs proxy)

  places_from-below : (from : ℕ) (proxies : List Proxy) (point : ℕ) → from + length proxies ≤ point → member point (places_from from proxies) ≡ false
  places_from-below from [] point past = refl
  places_from-below from (x ∷ xs) point past = grind (arith, common_steps, places_from-below (from + 1) xs point (omega arith))

  places-push : (front : List Proxy) (proxy : Proxy) (count : ℕ) → length front ≡ count → places test (front ++ proxy ∷ []) ≡ places test front ++ cond (test (count, proxy)) (count ∷ []) []
  places-push front proxy count is =
      let first : 0 + length front ≡ count = omega arith in
      rw first at (places_from-push 0 front proxy)

  -- a point's turn, by where its device stands
  turn_of : ℕ → Proxy → Marks → Marks
  turn_of point proxy marks = cond (test (point, proxy)) (wanted point (change (point, proxy)) marks) marks

  turned-turn : (point : ℕ) (proxy : Proxy) (marks : Marks) → proxy_of marks.proxies point ≡ proxy → turned point marks ≡ turn_of point proxy marks
  unfolding turn_of
  turned-turn point proxy marks is = ap (λ p. cond (test (point, p)) (wanted point (change (point, p)) marks) marks) is

  changed_next : (front : List Proxy) (proxy : Proxy) (back : List Proxy) (count : ℕ) → length front ≡ count
      → changed_if test change (front ++ proxy ∷ []) ++ back ≡ changed_if test change front ++ change_at test change (count, proxy) ∷ back
  changed_next front proxy back count is =
      rw is at (ap (λ l. l ++ back) (changed_if-push front proxy) ∙ append_assoc (changed_if test change front) (change_at test change (length front, proxy) ∷ []) back)

  -- the next point has its turn
  turn_next : (count : ℕ) (drivers : List ℕ) (front : List Proxy) (proxy : Proxy) (back : List Proxy) (wants : List ℕ) → length front ≡ count
      → turn_of count proxy (record { drivers = drivers; proxies = changed_if test change front ++ proxy ∷ back; wants = wanted_anew (places test front) wants })
      ≡ record { drivers = drivers; proxies = changed_if test change (front ++ proxy ∷ []) ++ back; wants = wanted_anew (places test (front ++ proxy ∷ [])) wants }
  unfolding turn_of
  turn_next count drivers front proxy back wants is =
      let pushed = places-push front proxy count is in
      let changed = changed_next front proxy back count is in
      let length_is : length (changed_if test change front) ≡ count = length-changed_if test change front ∙ is in
      let low : 0 + length front ≤ count = omega arith in
      ⊎_elim
      (λ passes.
      let places_next : places test (front ++ proxy ∷ []) ≡ places test front ++ count ∷ [] = pushed ∙ ap (λ b. places test front ++ cond b (count ∷ []) []) passes in
      let again : change_at test change (count, proxy) ≡ change (count, proxy) = ap (λ b. cond b (change (count, proxy)) proxy) passes in
      let proxies : set (changed_if test change front ++ proxy ∷ back) count (change (count, proxy)) ≡ changed_if test change (front ++ proxy ∷ []) ++ back =
      set_at (changed_if test change front) proxy back (change (count, proxy)) count length_is ∙ sym (changed ∙ ap (λ p. changed_if test change front ++ p ∷ back) again) in
      let last : wanted_last count (wanted_anew (places test front) wants) ≡ wanted_anew (places test (front ++ proxy ∷ [])) wants =
      wanted_anew-push count (places test front) wants (places_from-below 0 front count low) ∙ sym (ap (λ points. wanted_anew points wants) places_next) in
      rw passes (same_marks drivers _ _ _ _ proxies last))
      (λ fails.
      let places_same : places test (front ++ proxy ∷ []) ≡ places test front = pushed ∙ ap (λ b. places test front ++ cond b (count ∷ []) []) fails ∙ append-nil (places test front) in
      let stays : change_at test change (count, proxy) ≡ proxy = ap (λ b. cond b (change (count, proxy)) proxy) fails in
      let proxies : changed_if test change front ++ proxy ∷ back ≡ changed_if test change (front ++ proxy ∷ []) ++ back = sym (changed ∙ ap (λ p. changed_if test change front ++ p ∷ back) stays) in
      rw fails (same_marks drivers _ _ _ _ proxies (sym (ap (λ points. wanted_anew points wants) places_same))))
      (cases_Bool (test (count, proxy)))

  pub turned_below-more : (count : ℕ) (marks : Marks) → count < length marks.proxies → turned count (turned_below count marks) ≡ turned_below (count + 1) marks
  turned_below-more count marks more =
      let proxy = get_or marks.proxies count (fresh (pos 0)) in
      let rest : drop count marks.proxies ≡ proxy ∷ drop (count + 1) marks.proxies = drop_more marks.proxies count (fresh (pos 0)) more in
      let front : take (count + 1) marks.proxies ≡ take count marks.proxies ++ proxy ∷ [] = take_more marks.proxies count (fresh (pos 0)) more in
      let is : length (take count marks.proxies) ≡ count = length-take-le count marks.proxies (omega arith) in
      let back = drop (count + 1) marks.proxies in
      let with_proxies : List Proxy → List Proxy → Marks = λ done left. record {
        drivers = marks.drivers;
        proxies = changed_if test change done ++ left;
        wants = wanted_anew (places test done) marks.wants;
      } in
      ap (λ left. turned count (with_proxies (take count marks.proxies) left)) rest
      ∙ (turned-turn count proxy (with_proxies (take count marks.proxies) (proxy ∷ back))
      (proxy_at (changed_if test change (take count marks.proxies)) proxy back count (length-changed_if test change (take count marks.proxies) ∙ is))
      ∙ (turn_next count marks.drivers (take count marks.proxies) proxy back marks.wants is
      ∙ ap (λ done. with_proxies done back) (sym front)))

  -- a point whose test fails has no turn
  turned_below-stays : (count : ℕ) (marks : Marks) → count < length marks.proxies → test (count, proxy_of marks.proxies count) ≡ false →
      turned_below (count + 1) marks ≡ turned_below count marks
  unfolding turn_of
  turned_below-stays count marks more fails =
      let proxy = get_or marks.proxies count (fresh (pos 0)) in
      let own : proxy_of marks.proxies count ≡ proxy = unwrap_or-slice_get marks.proxies count (fresh (pos 0)) in
      let rest : drop count marks.proxies ≡ proxy ∷ drop (count + 1) marks.proxies = drop_more marks.proxies count (fresh (pos 0)) more in
      let is : length (take count marks.proxies) ≡ count = length-take-le count marks.proxies (omega arith) in
      let there : proxy_of (turned_below count marks).proxies count ≡ proxy =
      ap (λ left. proxy_of (changed_if test change (take count marks.proxies) ++ left) count) rest
      ∙ proxy_at (changed_if test change (take count marks.proxies)) proxy (drop (count + 1) marks.proxies) count (length-changed_if test change (take count marks.proxies) ∙ is) in
      let idle : test (count, proxy) ≡ false = ap (λ p. test (count, p)) (sym own) ∙ fails in
      sym (turned_below-more count marks more)
      ∙ (turned-turn count proxy (turned_below count marks) there
      ∙ ap (λ b. cond b (wanted count (change (count, proxy)) (turned_below count marks)) (turned_below count marks)) idle)

  -- points whose tests fail are passed over
  pub turned_below-skips : (from count : ℕ) (marks : Marks) → from + count ≤ length marks.proxies →
      ((k : ℕ) → from ≤ k → k < from + count → test (k, proxy_of marks.proxies k) ≡ false) → turned_below (from + count) marks ≡ turned_below from marks
  turned_below-skips from zero marks within fails = ap (λ k. turned_below k marks) (let same : from + zero ≡ from = omega arith in same)
  turned_below-skips from (suc count) marks within fails =
      let next : from + suc count ≡ from + count + 1 = omega arith in
      ap (λ k. turned_below k marks) next
      ∙ turned_below-stays (from + count) marks (omega arith) (fails (from + count) (omega arith) (omega arith))
      ∙ turned_below-skips from count marks (omega arith) (λ k low high. fails k low (omega arith))

  -- and after all points had their turn
  pub turned_below-all : (marks : Marks) → turned_below (length marks.proxies) marks
      ≡ record marks { proxies = changed_if test change marks.proxies; wants = wanted_anew (places test marks.proxies) marks.wants }
  turned_below-all marks = rw (take-length marks.proxies, drop-length marks.proxies, append-nil) refl

  -- where no test passes nothing changes
  pub turned-none : (marks : Marks) → ((k : ℕ) → k < length marks.proxies → test (k, proxy_of marks.proxies k) ≡ false) →
      record marks { proxies = changed_if test change marks.proxies; wants = wanted_anew (places test marks.proxies) marks.wants } ≡ marks
  turned-none marks fails =
      let all : 0 + length marks.proxies ≡ length marks.proxies = omega arith in
      sym (turned_below-all marks)
      ∙ ap (λ count. turned_below count marks) (sym all)
      ∙ turned_below-skips 0 (length marks.proxies) marks (omega arith) (λ k low high. fails k (omega arith))
      ∙ turned_below-none marks

  -- where one point alone may pass, its turn is all
  pub turned-one : (point : ℕ) (marks : Marks) → point < length marks.proxies →
      ((k : ℕ) → k < length marks.proxies → (k ≡ point → ⊥) → test (k, proxy_of marks.proxies k) ≡ false) →
      turned point marks ≡ record marks { proxies = changed_if test change marks.proxies; wants = wanted_anew (places test marks.proxies) marks.wants }
  turned-one point marks within fails =
      let behind = length marks.proxies - (point + 1) in
      let first : 0 + point ≡ point = omega arith in
      let all : point + 1 + behind ≡ length marks.proxies = omega arith in
      let ahead = turned_below-skips 0 point marks (omega arith) (λ k low high. fails k (omega arith) (λ same. absurd (omega arith))) in
      let further = turned_below-skips (point + 1) behind marks (omega arith) (λ k low high. fails k (omega arith) (λ same. absurd (omega arith))) in
      ap (turned point) (sym (rw first at ahead ∙ turned_below-none marks))
      ∙ (turned_below-more point marks within ∙ (sym (rw all at further) ∙ turned_below-all marks))

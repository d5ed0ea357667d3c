-- Leases end before their time: what one that ends leaves of the whole, and the whole at the end, in lists.
use Rattle.std.proofs.Common.{◌≡◌, ℕ, zero, suc, ◌+◌, ◌<◌, ◌≤◌, ◌==◌, nat_lt, nat_le, List, [], ◌∷◌, ◌++◌, length, map, set, get_or, Bool, true, false, not, ◌&&◌, cond, Option, Some, None, refl, ap, sym, ◌∙◌, subst, inl, inr, append-nil, arith}
use Rattle.std.specs.Option.{option_to_list, option_map, option_or}
use Rattle.std.specs.List.{filter, flat_map, list_any, AllByRecursion}
use Rattle.std.specs.List.Sorted.{IsPermutation}
use Rattle.std.proofs.lemmas.Bool.{cond_both}
use Rattle.std.proofs.lemmas.Bool.Decides.{nat_tests}
use Rattle.std.proofs.lemmas.List.{length-append, length-set}
use Rattle.std.proofs.lemmas.List.Sorted.{length_permutation}
use Rattle.boss_model.specs.declared.notice.Cause.{Cause}
use Rattle.boss_model.specs.declared.state.Lease.{Lease}
use Rattle.boss_model.specs.declared.state.Pending.{Pending}
use Rattle.boss_model.specs.Ends.{shortened, shortened_if}
use Rattle.boss_model.specs.Reversions.{courses, end_of, reversion_of}
use Rattle.boss_model.specs.Time.{live, under_way}
use Rattle.boss_booking.specs.Books.{Telling}
use Rattle.boss_booking.specs.Gathered.{end_tellings, ended_with}
use Rattle.law_due.specs.Playing.{IsEndable}
use Rattle.boss_slots.specs.Slots.{all, keep}
use Rattle.boss_slots.specs.Tables.{IsKept, IsMoved, IsTimed, lease_at, pending_at}
use Rattle.boss_slots.specs.Ending.{IsOrderly, dues, left_by, outstays, silent, told_by}
use Rattle.boss_slots.specs.declared.tables.Tables.{Tables}
use Rattle.boss_slots.proofs.Gathers.{flat_map-append}
use Rattle.boss_slots.proofs.BySlot.{IsPlaced, all-same, all-swapped, each-all, each-unall, filter-all_slots, keep-all, map-all}
use Rattle.boss_slots.proofs.Kept.{lease-of_key, lease-placed, lease-within, not-both, one-or-other, pending-placed, pending-within}
use Rattle.boss_slots.proofs.Ended.{dues-moved, ending-begins, ending-more, of_slot}
use Rattle.boss_holdings.proofs.Passed.{twice}
use Rattle.boss_holdings.proofs.Ticked.{under_way-slots}

-- ---- lists that are gone through

-- what passes a test stands at some place
pub any-at : {X : Type 0} (test : X → Bool) (xs : List X) (d : X) → list_any test xs ≡ true → (k : ℕ) × (k < length xs) × (test (get_or xs k d) ≡ true)
any-at test [] d any = cc
any-at test (x ∷ xs) d any = cond_both (test x) true false (λ b. test x ≡ b → (k : ℕ) × (k < length (x ∷ xs)) × (test (get_or (x ∷ xs) k d) ≡ true))
    (λ here _. (zero, (omega arith), here))
    (λ other _. let rest = any-at test xs d (grind (arith, other)) in let r1 = rest.1 in (suc rest.0, (omega arith), rest.2)) (grind arith)

pub any-there : {X : Type 0} (test : X → Bool) (xs : List X) (k : ℕ) (d : X) → k < length xs → test (get_or xs k d) ≡ true → list_any test xs ≡ true
any-there test [] k d within is = absurd (omega arith)
any-there test (x ∷ xs) zero d within is = grind (arith, is)
any-there test (x ∷ xs) (suc k) d within is = let rest = any-there test xs k d (omega arith) is in grind (arith, rest)

pub same-default : {X : Type 0} (xs : List X) (k : ℕ) (d e : X) → k < length xs → get_or xs k d ≡ get_or xs k e
same-default [] k d e within = absurd (omega arith)
same-default (x ∷ xs) zero d e within = refl
same-default (x ∷ xs) (suc k) d e within = same-default xs k d e (omega arith)

-- ---- a lease ends

silent-slot : (o : Option Pending) → of_slot silent o ≡ []
silent-slot None = refl
silent-slot (Some r) = refl

told-one : (which : Lease → Bool) (why : Cause) (n : ℕ) (l : Lease) → which l ≡ true → told_by which why n l ≡ ended_with why (reversion_of (shortened n l)) ∷ []
told-one which why n l meant = rw meant refl

module _ (which : Lease → Bool) (why : Cause) (n : ℕ) (first now after : Tables) (said_before said : List Telling) (most : ℕ) (marks_before marks : List Bool) (key : ℕ) (l : Lease)
    (o : IsOrderly which why n first now said_before said most marks_before marks) (there : get_or now.leases key None ≡ Some l) (meant : which l ≡ true)
    (moved : IsMoved now after l.point l.priority None (keep (λ r. nat_lt n (end_of r)) (Some (reversion_of (shortened n l))))) where
  its : (lease_at now l.point l.priority ≡ Some l) × (pending_at now l.point l.priority ≡ None)
  its = lease-of_key now key l o.kept there

  its-in : (l.point < length now.arrays.items) × (1 ≤ l.priority) × (l.priority ≤ 16)
  its-in = lease-within now o.kept l.point l.priority l its.0

  its-tells : of_slot (told_by which why n) (lease_at now l.point l.priority) ++ of_slot silent (pending_at now l.point l.priority)
      ≡ (ended_with why (reversion_of (shortened n l)) ∷ []) ++ (of_slot (told_by which why n) None ++ of_slot silent (keep (λ r. nat_lt n (end_of r)) (Some (reversion_of (shortened n l)))))
  its-tells = rw (its.0, its.1, silent-slot (keep (λ r. nat_lt n (end_of r)) (Some (reversion_of (shortened n l)))), told-one which why n l meant) refl

  its-leaves : left_by which n None (keep (λ r. nat_lt n (end_of r)) (Some (reversion_of (shortened n l)))) ≡ left_by which n (lease_at now l.point l.priority) (pending_at now l.point l.priority)
  its-leaves = rw (its.0, its.1, meant) (twice (λ r. nat_lt n (end_of r)) (Some (reversion_of (shortened n l))))

  its-stays : keep (outstays which) None ≡ keep (outstays which) (lease_at now l.point l.priority)
  its-stays = rw (its.0, meant) refl

  counted : length (dues (told_by which why n) silent now) ≡ 1 + length (dues (told_by which why n) silent after)
  counted = let at = its-in in
      sym (length_permutation (dues (told_by which why n) silent now) ((ended_with why (reversion_of (shortened n l)) ∷ []) ++ dues (told_by which why n) silent after)
      (dues-moved (told_by which why n) silent now after l.point l.priority None (keep (λ r. nat_lt n (end_of r)) (Some (reversion_of (shortened n l)))) (ended_with why (reversion_of (shortened n l)) ∷ []) moved at.0 at.1 at.2 its-tells)) ∙ omega arith

  pub orderly-more : IsKept after → IsTimed n after → IsOrderly which why n first after said_before (said ++ ended_with why (reversion_of (shortened n l)) ∷ []) most marks_before (set marks l.point true)
  orderly-more kept timed = let at = its-in in record {
    ending = ending-more (outstays which) (left_by which n) (told_by which why n) silent first now after said_before said marks_before marks l.point l.priority None
        (keep (λ r. nat_lt n (end_of r)) (Some (reversion_of (shortened n l)))) (ended_with why (reversion_of (shortened n l)) ∷ []) o.ending moved at.0 at.1 at.2 o.flags its-tells its-stays its-leaves;
    kept = kept;
    timed = timed;
    endable = λ p q x is. elim (one-or-other l.point l.priority p q) [
      | inl (one, two) ↦ let gone : lease_at after p q ≡ None = ap (λ a. lease_at after a q) one ∙ ap (lease_at after l.point) two ∙ moved.lease in absurd (cc)
      | inr differs ↦ o.endable p q x (sym (moved.others p q differs).0 ∙ is)
    ];
    runs = λ p q r is. elim (one-or-other l.point l.priority p q) [
      | inl (one, two) ↦
          let here : keep (λ x. nat_lt n (end_of x)) (Some (reversion_of (shortened n l))) ≡ Some r = sym moved.pending ∙ sym (ap (λ a. pending_at after a q) one ∙ ap (pending_at after l.point) two) ∙ is in
          cond_both (nat_lt n (end_of (reversion_of (shortened n l)))) (Some (reversion_of (shortened n l))) None (λ o'. o' ≡ Some r → n < end_of r)
          (λ goes same. let it : reversion_of (shortened n l) ≡ r = cc in let long : n < end_of (reversion_of (shortened n l)) = grind (arith, nat_tests) in subst (λ (x : Pending). n < end_of x) it long) (λ _ wrong. absurd (cc)) here
      | inr differs ↦ o.runs p q r (sym (moved.others p q differs).1 ∙ is)
    ];
    flags = length-set marks l.point true ∙ o.flags ∙ sym moved.points;
    room = omega (arith, o.room, counted, length-append said (ended_with why (reversion_of (shortened n l)) ∷ []));
  }

-- a lease that is to end has room to be told
pub orderly-room : (which : Lease → Bool) (why : Cause) (n : ℕ) (first now : Tables) (said_before said : List Telling) (most : ℕ) (marks_before marks : List Bool) (p q : ℕ) (l : Lease)
    → IsOrderly which why n first now said_before said most marks_before marks → lease_at now p q ≡ Some l → which l ≡ true → length said < most
unfolding dues
orderly-room which why n first now said_before said most marks_before marks p q l o is meant =
    let in-it = lease-within now o.kept p q l is in
    let gone = all-swapped (lease_at now) (λ a b. cond ((a == p) && (b == q)) None (lease_at now a b)) (length now.arrays.items) p q in-it.0 in-it.1 in-it.2 (λ a b differs. grind (arith, nat_tests)) in
    let some : 0 < length (flat_map (told_by which why n) (all (lease_at now) (length now.arrays.items))) = at-least (all (lease_at now) (length now.arrays.items)) gone.front gone.back (gone.before ∙ ap (λ o'. gone.front ++ (option_to_list o' ++ gone.back)) is) in
    omega (arith, o.room, length-append (flat_map (told_by which why n) (all (lease_at now) (length now.arrays.items))) (flat_map silent (all (pending_at now) (length now.arrays.items))))
  where
    at-least : (ls front back : List Lease) → ls ≡ front ++ (l ∷ back) → 0 < length (flat_map (told_by which why n) ls)
    at-least ls front back split =
        omega (
          arith,
          ap (λ xs. length (flat_map (told_by which why n) xs)) split,
          ap length (flat_map-append (told_by which why n) front (l ∷ back)),
          length-append (flat_map (told_by which why n) front) (told_by which why n l ++ flat_map (told_by which why n) back),
          length-append (told_by which why n l) (flat_map (told_by which why n) back),
          ap length (told-one which why n l meant),
        )

told-by-all : (which : Lease → Bool) (why : Cause) (n : ℕ) (ls : List Lease) (rs : List Pending) → flat_map (told_by which why n) ls ++ flat_map silent rs ≡ end_tellings which why n ls
told-by-all which why n [] [] = refl
told-by-all which why n [] (r ∷ rs) = told-by-all which why n [] rs
told-by-all which why n (l ∷ ls) rs = cond_both (which l) (l ∷ filter which ls) (filter which ls)
    (λ xs. (told_by which why n l ++ flat_map (told_by which why n) ls) ++ flat_map silent rs ≡ map (λ lease. ended_with why (reversion_of (shortened n lease))) xs)
    (λ yes. rw yes (ap (λ zs. ended_with why (reversion_of (shortened n l)) ∷ zs) (told-by-all which why n ls rs))) (λ other. rw other (told-by-all which why n ls rs))

-- ---- the whole at the end

module _ (which : Lease → Bool) (why : Cause) (n : ℕ) (first now : Tables) (said_before said : List Telling) (most : ℕ) (marks_before marks : List Bool) (k : IsKept first)
    (o : IsOrderly which why n first now said_before said most marks_before marks) (gone : (p q : ℕ) (l : Lease) → lease_at now p q ≡ Some l → which l ≡ false)
    (runs : (p q : ℕ) (l : Lease) → lease_at first p q ≡ Some l → n < l.until) (plays : (p q : ℕ) (r : Pending) → pending_at first p q ≡ Some r → (r.start ≤ n) × (n < end_of r)) where
  stay-live : (o' : Option Lease) → ((l : Lease) → o' ≡ Some l → n < l.until) → keep (outstays which) o' ≡ keep (λ l. nat_lt n l.until) (option_map (shortened_if which n) o')
  stay-live None late = refl
  stay-live (Some l) late = let x = late l refl in cond_both (which l) (shortened n l) l (λ l'. cond (not (which l)) (Some l) None ≡ cond (nat_lt n l'.until) (Some l') None)
      (λ yes. let no-more : nat_lt n n ≡ false = grind (arith, nat_tests) in rw (yes, no-more) refl) (λ other. let still : nat_lt n l.until ≡ true = grind (arith, nat_tests) in rw (other, still) refl)

  pub orderly-leases : all (lease_at now) (length now.arrays.items) ≡ live n (map (shortened_if which n) (all (lease_at first) (length first.arrays.items)))
  orderly-leases =
      ap (all (lease_at now)) o.ending.points
      ∙ all-same (lease_at now) (λ p q. keep (λ l. nat_lt n l.until) (option_map (shortened_if which n) (lease_at first p q))) (length first.arrays.items)
      (λ p q _ _ _. sym (keep-all (outstays which) (lease_at now p q) (λ l is. rw (gone p q l is) refl)) ∙ o.ending.leases p q ∙ stay-live (lease_at first p q) (runs p q))
      ∙ sym (filter-all_slots (λ l. nat_lt n l.until) (λ p q. option_map (shortened_if which n) (lease_at first p q)) (length first.arrays.items))
      ∙ ap (live n) (sym (map-all (shortened_if which n) (lease_at first) (length first.arrays.items)))

  left-plays : (lo : Option Lease) (po : Option Pending) → ((l : Lease) → lo ≡ Some l → n < l.until) → ((r : Pending) → po ≡ Some r → (r.start ≤ n) × (n < end_of r)) →
      keep (λ r. nat_le r.start n && nat_lt n (end_of r)) (option_or po (option_map reversion_of (option_map (shortened_if which n) lo))) ≡ left_by which n lo po
  left-plays None None late under = refl
  left-plays (Some l) None late under = let x = late l refl in
      cond_both (which l) (shortened n l) l (λ l'. cond (nat_le l'.until n && nat_lt n (end_of (reversion_of l'))) (Some (reversion_of l')) None ≡ left_by which n (Some l) None)
      (λ yes. let at : nat_le n n ≡ true = grind (arith, nat_tests) in rw (yes, at) refl) (λ other. let past : nat_le l.until n ≡ false = grind (arith, nat_tests) in rw (other, past) refl)
  left-plays lo (Some r) late under = let x = under r refl in let x0 = x.0 in let yes : nat_le r.start n ≡ true = grind (arith, nat_tests) in rw yes refl

  left-stays : (lo : Option Lease) (po : Option Pending) → ((l : Lease) → lo ≡ Some l → which l ≡ false) → ((r : Pending) → po ≡ Some r → n < end_of r) → left_by which n lo po ≡ po
  left-stays None None out under = refl
  left-stays (Some l) None out under = rw (out l refl) refl
  left-stays lo (Some r) out under = let x = under r refl in let yes : nat_lt n (end_of r) ≡ true = grind (arith, nat_tests) in rw yes refl

  pub orderly-pending : all (pending_at now) (length now.arrays.items) ≡ under_way n (courses (all (pending_at first) (length first.arrays.items)) (map (shortened_if which n) (all (lease_at first) (length first.arrays.items))))
  orderly-pending =
      ap (all (pending_at now)) o.ending.points
      ∙ sym (ap (λ xs. under_way n (courses (all (pending_at first) (length first.arrays.items)) xs)) (map-all (shortened_if which n) (lease_at first) (length first.arrays.items))
      ∙ under_way-slots n (length first.arrays.items) (pending_at first) (pending_at now) (λ p q. option_map (shortened_if which n) (lease_at first p q)) (pending-placed first k) placed
      (λ p q. elim (not-both first k p q) [ inl none ↦ inl none | inr none ↦ inr (ap (option_map (shortened_if which n)) none) ])
      (λ p q. left-plays (lease_at first p q) (pending_at first p q) (runs p q) (plays p q) ∙ sym (o.ending.pending p q) ∙ left-stays (lease_at now p q) (pending_at now p q) (gone p q) (o.runs p q)))
    where
      kept-slot : (x : Lease) (p q : ℕ) → (x.point ≡ p) × (x.priority ≡ q) → ((shortened_if which n x).point ≡ p) × ((shortened_if which n x).priority ≡ q)
      kept-slot x p q at = cond_both (which x) (shortened n x) x (λ y. (y.point ≡ p) × (y.priority ≡ q)) (λ _. at) (λ _. at)

      of-one : (lo : Option Lease) (p q : ℕ) (l : Lease) → ((x : Lease) → lo ≡ Some x → (x.point ≡ p) × (x.priority ≡ q)) → option_map (shortened_if which n) lo ≡ Some l → (l.point ≡ p) × (l.priority ≡ q)
      of-one None p q l at same = absurd (cc)
      of-one (Some x) p q l at same = let it : shortened_if which n x ≡ l = cc in subst (λ (y : Lease). (y.point ≡ p) × (y.priority ≡ q)) it (kept-slot x p q (at x refl))

      placed : IsPlaced (λ (l : Lease). l.point) (λ (l : Lease). l.priority) (λ p q. option_map (shortened_if which n) (lease_at first p q))
      placed p q l same = of-one (lease_at first p q) p q l (lease-placed first k p q) same

  none-told : (ls : List Lease) (rs : List Pending) → AllByRecursion (λ l. which l ≡ false) ls → flat_map (told_by which why n) ls ++ flat_map silent rs ≡ []
  none-told [] [] out = refl
  none-told [] (r ∷ rs) out = none-told [] rs out
  none-told (l ∷ ls) rs out = rw out.0 (none-told ls rs out.1)

  pub orderly-told : IsPermutation (said_before ++ end_tellings which why n (all (lease_at first) (length first.arrays.items))) said
  unfolding dues
  orderly-told =
      subst (λ zs. IsPermutation (said_before ++ zs) said) (told-by-all which why n (all (lease_at first) (length first.arrays.items)) (all (pending_at first) (length first.arrays.items)))
      (subst (λ zs. IsPermutation (said_before ++ dues (told_by which why n) silent first) zs)
      (ap (λ zs. said ++ zs) (none-told (all (lease_at now) (length now.arrays.items)) (all (pending_at now) (length now.arrays.items)) (each-all (λ l. which l ≡ false) (lease_at now) (length now.arrays.items) (λ p q l _ _ _ is. gone p q l is))) ∙ append-nil said)
      o.ending.told)

-- ---- at first

pub orderly-first : (which : Lease → Bool) (why : Cause) (n now : ℕ) (t : Tables) (said : List Telling) (most : ℕ) (marks : List Bool) → IsKept t → IsTimed n t → length marks ≡ length t.arrays.items
    → AllByRecursion IsEndable (all (lease_at t) (length t.arrays.items)) → AllByRecursion (λ r. n < end_of r) (all (pending_at t) (length t.arrays.items))
    → length said + length (end_tellings which why n (all (lease_at t) (length t.arrays.items))) ≤ most → IsOrderly which why n t t said said most marks marks
unfolding dues
orderly-first which why n now t said most marks kept timed flags endable runs room = record {
  ending = ending-begins (outstays which) (left_by which n) (told_by which why n) silent t said marks;
  kept = kept;
  timed = timed;
  endable = λ p q l is. let in-it = lease-within t kept p q l is in each-unall IsEndable (lease_at t) (length t.arrays.items) endable p q l in-it.0 in-it.1 in-it.2 is;
  runs = λ p q r is. let in-it = pending-within t kept p q r is in each-unall (λ (x : Pending). n < end_of x) (pending_at t) (length t.arrays.items) runs p q r in-it.0 in-it.1 in-it.2 is;
  flags = flags;
  room = subst (λ zs. length said + length zs ≤ most) (sym (told-by-all which why n (all (lease_at t) (length t.arrays.items)) (all (pending_at t) (length t.arrays.items)))) room;
}

-- Links that lead through points: what is left of the way where a point is left out, or one more takes its place at the end.
use Rattle.std.proofs.Common.{◌≡◌, ◌≢◌, ℕ, zero, suc, ◌<◌, ◌≤◌, Bool, true, false, ◌||◌, List, [], ◌∷◌, ◌++◌, length, Option, Some, None, set, get_or, replicate, refl, sym, ◌∙◌, ap, subst, ⊎_elim, arith}
use Rattle.std.specs.Prelude.{reverse, slice_get}
use Rattle.std.proofs.lemmas.Bool.{cases_eq}
use Rattle.std.proofs.lemmas.Grind.{common_steps}
use Rattle.std.specs.Prelude.{Vec}
use Rattle.std.specs.Vec.{with_items}
use Rattle.std.proofs.lemmas.List.{with_items_is, length-set, length-replicate, get_or-set_same, get_or-set_other, get_or_read, reverse-append, reverse-reverse, append_assoc}
use Rattle.boss_model.specs.Lists.{member, without}
use Rattle.boss_model.specs.Sound.{Distinct}
use Rattle.boss_model.proofs.Members.{member-append, Distinct-snoc, member-without, Distinct-without, length-le_from_Distinct}
use Rattle.boss_marks.specs.Line.{Line, behind, link_of, Leads, walk, IsLine, linked, started}
use Rattle.boss_marks.proofs.Members.{member-reverse, reverse_cons, Distinct-reverse, Distinct-ahead, ahead, around, without_is}

-- the last of these points, and `from` where there is none
abbrev pub last_or : Option ℕ → List ℕ → Option ℕ
last_or from [] = from
last_or from (x ∷ xs) = last_or (Some x) xs

pub last_or-push : (from : Option ℕ) (xs : List ℕ) (x : ℕ) → last_or from (xs ++ x ∷ []) ≡ Some x
last_or-push from [] x = refl
last_or-push from (y ∷ ys) x = last_or-push (Some y) ys x

pub last_or-reverse : (xs : List ℕ) → last_or None (reverse xs) ≡ slice_get xs 0
last_or-reverse [] = refl
last_or-reverse (x ∷ xs) = ap (last_or None) (reverse_cons x xs) ∙ last_or-push None (reverse xs) x

-- a link of a point that is not on the way may change
pub Leads-other : (links : List (Option ℕ)) (point : ℕ) (to start : Option ℕ) (points : List ℕ) → member point points ≡ false → Leads links start points → Leads (set links point to) start points
Leads-other links point to start [] outside leads = leads
Leads-other links point to start (x ∷ xs) outside leads =
    let same : link_of (set links point to) x ≡ link_of links x = grind (arith, common_steps, get_or-set_other links point x to None) in
    (leads.0, rw length-set leads.1, rw same (Leads-other links point to (link_of links x) xs (grind (arith, common_steps)) leads.2))

-- the way leads to its first point
pub Leads-start : (links : List (Option ℕ)) (start : Option ℕ) (points : List ℕ) → Leads links start points → start ≡ slice_get points 0
Leads-start links start [] leads = leads
Leads-start links start (x ∷ xs) leads = leads.0

-- from a point on the way, it leads to the next one
pub Leads-link : (links : List (Option ℕ)) (start : Option ℕ) (xs : List ℕ) (point : ℕ) (ys : List ℕ) → Leads links start (xs ++ point ∷ ys) → link_of links point ≡ slice_get ys 0
Leads-link links start [] point ys leads = Leads-start links (link_of links point) ys leads.2
Leads-link links start (x ∷ xs) point ys leads = Leads-link links (link_of links x) xs point ys leads.2

pub Leads-next : (links : List (Option ℕ)) (start : Option ℕ) (xs : List ℕ) (point : ℕ) (ys : List ℕ) → Leads links start (xs ++ point ∷ ys) → Leads links (link_of links point) ys
Leads-next links start [] point ys leads = leads.2
Leads-next links start (x ∷ xs) point ys leads = Leads-next links (link_of links x) xs point ys leads.2

-- where the way starts is a point that has a link
pub Leads-start_known : (links : List (Option ℕ)) (start : Option ℕ) (points : List ℕ) (x : ℕ) → Leads links start points → start ≡ Some x → x < length links
Leads-start_known links start [] x leads is = absurd (grind arith)
Leads-start_known links start (y ∷ ys) x leads is = grind (arith, common_steps, leads.0, leads.1)

-- points on the way are points that have links
pub Leads-known : (links : List (Option ℕ)) (start : Option ℕ) (points : List ℕ) (point : ℕ) → Leads links start points → member point points ≡ true → point < length links
Leads-known links start [] point leads inside = absurd (cc)
Leads-known links start (x ∷ xs) point leads inside = grind (arith, common_steps, leads.1, Leads-known links (link_of links x) xs point leads.2)

-- the points that the links lead through are found by a walk that is long enough
pub walk-Leads : (links : List (Option ℕ)) (most : ℕ) (start : Option ℕ) (points : List ℕ) → Leads links start points → length points ≤ most → walk links most start ≡ points
walk-Leads links zero start [] leads enough = refl
walk-Leads links zero start (x ∷ xs) leads enough = absurd (omega arith)
walk-Leads links (suc most) start [] leads enough = rw leads refl
walk-Leads links (suc most) start (x ∷ xs) leads enough = rw leads.0 (ap (λ r. x ∷ r) (walk-Leads links most (link_of links x) xs leads.2 (omega arith)))

-- ---- a point is left out

linked-length : (from to : Option ℕ) (links : List (Option ℕ)) → length (linked from to links) ≡ length links
linked-length None to links = refl
linked-length (Some from) to links = length-set links from to

-- linking the last of these points leaves the link of a point that is none of them
linked-other : (links : List (Option ℕ)) (to : Option ℕ) (point x : ℕ) (xs : List ℕ) → member point (x ∷ xs) ≡ false → link_of (linked (last_or (Some x) xs) to links) point ≡ link_of links point
linked-other links to point x [] outside = grind (arith, common_steps, get_or-set_other links x point to None)
linked-other links to point x (y ∷ ys) outside = linked-other links to point y ys (grind (arith, common_steps))

unlinked_from : (links : List (Option ℕ)) (from : ℕ) (xs : List ℕ) (point : ℕ) (ys : List ℕ) → member from (xs ++ point ∷ ys) ≡ false → Distinct (xs ++ point ∷ ys) → from < length links
    → Leads links (link_of links from) (xs ++ point ∷ ys)
    → Leads (linked (last_or (Some from) xs) (link_of links point) links) (link_of (linked (last_or (Some from) xs) (link_of links point) links) from) (xs ++ ys)
unlinked_from links from [] point ys outside once known leads =
    rw (get_or-set_same links from (link_of links point) None known)
    (Leads-other links from (link_of links point) (link_of links point) ys (grind (arith, common_steps)) leads.2)
unlinked_from links from (x ∷ xs) point ys outside once known leads =
    let apart : member from (x ∷ xs) ≡ false = grind (arith, common_steps, member-append from (x ∷ xs) (point ∷ ys)) in (
      linked-other links (link_of links point) from x xs apart ∙ leads.0,
      rw linked-length leads.1,
      unlinked_from links x xs point ys once.0 once.1 leads.1 leads.2,
    )

started-other : (x : ℕ) (xs : List ℕ) (to start : Option ℕ) → started (last_or (Some x) xs) to start ≡ start
started-other x [] to start = refl
started-other x (y ∷ ys) to start = started-other y ys to start

pub Leads-unlinked : (links : List (Option ℕ)) (start : Option ℕ) (xs : List ℕ) (point : ℕ) (ys : List ℕ) → Distinct (xs ++ point ∷ ys) → Leads links start (xs ++ point ∷ ys)
    → Leads (linked (last_or None xs) (link_of links point) links) (started (last_or None xs) (link_of links point) start) (xs ++ ys)
Leads-unlinked links start [] point ys once leads = leads.2
Leads-unlinked links start (x ∷ xs) point ys once leads = (
  started-other x xs (link_of links point) start ∙ leads.0,
  rw linked-length leads.1,
  unlinked_from links x xs point ys once.0 once.1 leads.1 leads.2,
)

-- ---- a point takes its place at the end

pushed_from : (links : List (Option ℕ)) (from : ℕ) (xs : List ℕ) (point : ℕ) → member from (xs ++ point ∷ []) ≡ false → Distinct (xs ++ point ∷ []) → from < length links → point < length links
    → Leads links (link_of links from) xs
    → Leads (set (linked (last_or (Some from) xs) (Some point) links) point None) (link_of (set (linked (last_or (Some from) xs) (Some point) links) point None) from) (xs ++ point ∷ [])
pushed_from links from [] point outside once known room leads =
    let apart : from ≢ point = grind (arith, common_steps) in (
      get_or-set_other (set links from (Some point)) point from None None apart ∙ get_or-set_same links from (Some point) None known,
      rw (length-set, length-set) room,
      get_or-set_same (set links from (Some point)) point None None (rw length-set room),
    )
pushed_from links from (x ∷ xs) point outside once known room leads =
    let split : member from ((x ∷ xs) ++ point ∷ []) ≡ (member from (x ∷ xs) || member from (point ∷ [])) = member-append from (x ∷ xs) (point ∷ []) in
    let apart : member from (x ∷ xs) ≡ false = grind (arith, common_steps) in
    let other : from ≢ point = grind (arith, common_steps) in (
      get_or-set_other (linked (last_or (Some x) xs) (Some point) links) point from None None other ∙ (linked-other links (Some point) from x xs apart ∙ leads.0),
      rw (length-set, linked-length) leads.1,
      pushed_from links x xs point once.0 once.1 leads.1 room leads.2,
    )

pub Leads-pushed : (links : List (Option ℕ)) (start : Option ℕ) (xs : List ℕ) (point : ℕ) → Distinct (xs ++ point ∷ []) → point < length links → Leads links start xs
    → Leads (set (linked (last_or None xs) (Some point) links) point None) (started (last_or None xs) (Some point) start) (xs ++ point ∷ [])
Leads-pushed links start [] point once room leads = (refl, rw length-set room, get_or-set_same links point None None room)
Leads-pushed links start (x ∷ xs) point once room leads = (
  started-other x xs (Some point) start ∙ leads.0,
  rw (length-set, linked-length) leads.1,
  pushed_from links x xs point once.0 once.1 leads.1 room leads.2,
)

-- ---- a point takes its place at the start

pub Leads-first : (links : List (Option ℕ)) (start : Option ℕ) (point : ℕ) (points : List ℕ) → member point points ≡ false → point < length links → Leads links start points → Leads (set links point start) (Some point) (point ∷ points)
Leads-first links start point points outside room leads =
    (refl, rw length-set room, rw (get_or-set_same links point start None room) (Leads-other links point start start points outside leads))

-- ---- a line as a whole

pub IsLine-known : {after before : List (Option ℕ)} {stands : List Bool} {first last : Option ℕ} {points : List ℕ} → IsLine after before stands first last points → (point : ℕ) → member point points ≡ true → point < length stands
IsLine-known {after} {before} {stands} {first} {last} {points} line point inside = rw (← line.afters) (Leads-known after first points point line.forwards inside)

pub IsLine-walk : {after before : List (Option ℕ)} {stands : List Bool} {first last : Option ℕ} {points : List ℕ} → IsLine after before stands first last points → walk after (length stands) first ≡ points
IsLine-walk {after} {before} {stands} {first} {last} {points} line =
    walk-Leads after (length stands) first points line.forwards (length-le_from_Distinct points (length stands) line.once (IsLine-known line))

-- the last point of a line, of which its last link tells
pub IsLine-last : {after before : List (Option ℕ)} {stands : List Bool} {first last : Option ℕ} {points : List ℕ} → IsLine after before stands first last points → last ≡ last_or None points
IsLine-last {after} {before} {stands} {first} {last} {points} line =
    Leads-start before last (reverse points) line.backwards ∙ (sym (last_or-reverse (reverse points)) ∙ ap (last_or None) (reverse-reverse points))

known_pushed : (stands : List Bool) (points : List ℕ) (point other : ℕ) → point < length stands → get_or stands other false ≡ member other points → get_or (set stands point true) other false ≡ member other (points ++ point ∷ [])
known_pushed stands points point other room known =
    ⊎_elim
    (λ here. grind (arith, common_steps, member-append other points (point ∷ []), get_or-set_same stands point true false room))
    (λ apart. grind (arith, common_steps, member-append other points (point ∷ []), get_or-set_other stands point other true false apart))
    (cases_eq other point)

pub IsLine-pushed : {after before : List (Option ℕ)} {stands : List Bool} {first last : Option ℕ} {points : List ℕ} → IsLine after before stands first last points → (point : ℕ) → point < length stands → member point points ≡ false
    → IsLine (set (linked last (Some point) after) point None) (set before point last) (set stands point true) (started last (Some point) first) (Some point) (points ++ point ∷ [])
IsLine-pushed {after} {before} {stands} {first} {last} {points} line point room outside =
    let once : Distinct (points ++ point ∷ []) = Distinct-snoc points point line.once outside in
    record {
      forwards = rw (IsLine-last line) (Leads-pushed after first points point once (rw line.afters room) line.forwards);
      backwards = rw reverse-append (Leads-first before last point (reverse points) (member-reverse point points ∙ outside) (rw line.befores room) line.backwards);
      known = λ other. known_pushed stands points point other room (line.known other);
      once = once;
      afters = length-set _ point None ∙ (linked-length last (Some point) after ∙ (line.afters ∙ sym (length-set stands point true)));
      befores = length-set before point last ∙ (line.befores ∙ sym (length-set stands point true));
    }

known_removed : (stands : List Bool) (points : List ℕ) (point other : ℕ) → point < length stands → get_or stands other false ≡ member other points → get_or (set stands point false) other false ≡ member other (without point points)
known_removed stands points point other room known =
    ⊎_elim
    (λ here. grind (arith, common_steps, member-without other point points, get_or-set_same stands point false false room))
    (λ apart. grind (arith, common_steps, member-without other point points, get_or-set_other stands point other false false apart))
    (cases_eq other point)

-- linking the last of some points leaves the link of a point that is none of them
linked_none-other : (links : List (Option ℕ)) (to : Option ℕ) (point : ℕ) (xs : List ℕ) → member point xs ≡ false → link_of (linked (last_or None xs) to links) point ≡ link_of links point
linked_none-other links to point [] outside = refl
linked_none-other links to point (x ∷ xs) outside = linked-other links to point x xs outside

pub IsLine-removed_between : {after before : List (Option ℕ)} {stands : List Bool} {first last : Option ℕ} (xs : List ℕ) (point : ℕ) (ys : List ℕ) → IsLine after before stands first last (xs ++ point ∷ ys)
    → (here : Option ℕ) → here ≡ link_of (linked (link_of before point) (link_of after point) after) point
    → (here ≡ link_of after point)
    × Leads (linked (link_of before point) (link_of after point) after) (started (link_of before point) (link_of after point) first) (xs ++ ys)
    × Leads (linked here (link_of before point) before) (started here (link_of before point) last) (reverse (xs ++ ys))
IsLine-removed_between {after} {before} {stands} {first} {last} xs point ys line here is_here =
    let back : reverse (xs ++ point ∷ ys) ≡ reverse ys ++ point ∷ reverse xs = rw (reverse-append xs (point ∷ ys), reverse_cons point ys, append_assoc) refl in
    let backwards : Leads before last (reverse ys ++ point ∷ reverse xs) = subst (Leads before last) back line.backwards in
    let once_back : Distinct (reverse ys ++ point ∷ reverse xs) = subst Distinct back (Distinct-reverse (xs ++ point ∷ ys) line.once) in
    let apart : member point xs ≡ false = Distinct-ahead xs point ys line.once in
    let is_before : link_of before point ≡ last_or None xs = Leads-link before last (reverse ys) point (reverse xs) backwards ∙ (sym (last_or-reverse (reverse xs)) ∙ ap (last_or None) (reverse-reverse xs)) in
    let is_after : link_of after point ≡ last_or None (reverse ys) = Leads-link after first xs point ys line.forwards ∙ sym (last_or-reverse ys) in
    let stays : here ≡ link_of after point = is_here ∙ (ap (λ b. link_of (linked b (link_of after point) after) point) is_before ∙ linked_none-other after (link_of after point) point xs apart) in (
      stays,
      rw is_before (Leads-unlinked after first xs point ys line.once line.forwards),
      rw (stays, is_after, reverse-append) (Leads-unlinked before last (reverse ys) point (reverse xs) once_back backwards),
    )

pub IsLine-removed : {after before : List (Option ℕ)} {stands : List Bool} {first last : Option ℕ} {points : List ℕ} → IsLine after before stands first last points → (point : ℕ) → member point points ≡ true
    → IsLine (linked (link_of before point) (link_of after point) after) (linked (link_of (linked (link_of before point) (link_of after point) after) point) (link_of before point) before) (set stands point false)
    (started (link_of before point) (link_of after point) first) (started (link_of (linked (link_of before point) (link_of after point) after) point) (link_of before point) last) (without point points)
IsLine-removed {after} {before} {stands} {first} {last} {points} line point inside =
    let split : points ≡ ahead point points ++ point ∷ behind point points = around point points inside in
    let left : without point points ≡ ahead point points ++ behind point points = without_is point points line.once in
    let between = IsLine-removed_between (ahead point points) point (behind point points) (subst (IsLine after before stands first last) split line) _ refl in
    record {
      forwards = rw left between.1;
      backwards = rw left between.2;
      known = λ other. known_removed stands points point other (IsLine-known line point inside) (line.known other);
      once = Distinct-without point points line.once;
      afters = linked-length (link_of before point) (link_of after point) after ∙ (line.afters ∙ sym (length-set stands point false));
      befores = linked-length _ (link_of before point) before ∙ (line.befores ∙ sym (length-set stands point false));
    }

-- the point behind one of a line is the one to which its link leads
pub IsLine-after : {after before : List (Option ℕ)} {stands : List Bool} {first last : Option ℕ} {points : List ℕ} → IsLine after before stands first last points → (point : ℕ) → member point points ≡ true → link_of after point ≡ slice_get (behind point points) 0
IsLine-after {after} {before} {stands} {first} {last} {points} line point inside =
    Leads-link after first (ahead point points) point (behind point points) (subst (Leads after first) (around point points inside) line.forwards)

pub IsLine-walked : {after before : List (Option ℕ)} {stands : List Bool} {first last : Option ℕ} {points : List ℕ} → IsLine after before stands first last points → IsLine after before stands first last (walk after (length stands) first)
IsLine-walked {after} {before} {stands} {first} {last} {points} line = subst (IsLine after before stands first last) (sym (IsLine-walk line)) line

-- the links of a line lead to points that have links
pub IsLine-last_known : {after before : List (Option ℕ)} {stands : List Bool} {first last : Option ℕ} {points : List ℕ} → IsLine after before stands first last points → (x : ℕ) → last ≡ Some x → x < length after
IsLine-last_known {after} {before} {stands} {first} {last} {points} line x is = rw (line.afters, ← line.befores) (Leads-start_known before last (reverse points) x line.backwards is)

pub IsLine-after_known : {after before : List (Option ℕ)} {stands : List Bool} {first last : Option ℕ} {points : List ℕ} → IsLine after before stands first last points → (point : ℕ) → member point points ≡ true → (x : ℕ) → link_of after point ≡ Some x → x < length before
IsLine-after_known {after} {before} {stands} {first} {last} {points} line point inside x is =
    let forwards : Leads after first (ahead point points ++ point ∷ behind point points) = subst (Leads after first) (around point points inside) line.forwards in
    rw (line.befores, ← line.afters) (Leads-start_known after (link_of after point) (behind point points) x (Leads-next after first (ahead point points) point (behind point points) forwards) is)

pub IsLine-before_known : {after before : List (Option ℕ)} {stands : List Bool} {first last : Option ℕ} {points : List ℕ} → IsLine after before stands first last points → (point : ℕ) → member point points ≡ true → (x : ℕ) → link_of before point ≡ Some x → x < length after
IsLine-before_known {after} {before} {stands} {first} {last} {points} line point inside x is =
    let inside_back : member point (reverse points) ≡ true = member-reverse point points ∙ inside in
    let backwards : Leads before last (ahead point (reverse points) ++ point ∷ behind point (reverse points)) = subst (Leads before last) (around point (reverse points) inside_back) line.backwards in
    rw (line.afters, ← line.befores) (Leads-start_known before (link_of before point) (behind point (reverse points)) x (Leads-next before last (ahead point (reverse points)) point (behind point (reverse points)) backwards) is)

-- after the first of the two steps of a removal, the point's link still leads to the one behind it
pub IsLine-link_stays : {after before : List (Option ℕ)} {stands : List Bool} {first last : Option ℕ} {points : List ℕ} → IsLine after before stands first last points → (point : ℕ) → member point points ≡ true → link_of (linked (link_of before point) (link_of after point) after) point ≡ link_of after point
IsLine-link_stays {after} {before} {stands} {first} {last} {points} line point inside =
    (IsLine-removed_between (ahead point points) point (behind point points) (subst (IsLine after before stands first last) (around point points inside) line) _ refl).0

-- ---- a line in which nobody stands

nobody : (room point : ℕ) → get_or (replicate room false) point false ≡ false
nobody zero point = refl
nobody (suc room) zero = refl
nobody (suc room) (suc point) = nobody room point

pub IsLine-empty : (room : ℕ) (after before : List (Option ℕ)) (stands : List Bool) → length after ≡ room → length before ≡ room → stands ≡ replicate room false → IsLine after before stands None None []
IsLine-empty room after before stands afters befores all = record {
  forwards = refl;
  backwards = refl;
  known = λ point. rw all (nobody room point);
  once = tt;
  afters = rw (all, length-replicate) afters;
  befores = rw (all, length-replicate) befores;
}

-- ---- the removal, by what was read on the way: `before` and `after` of the point, and `after` once more

module _ {afters befores : List (Option ℕ)} {stands : List Bool} {first last : Option ℕ} {points : List ℕ} (line : IsLine afters befores stands first last points) (point : ℕ) (inside : member point points ≡ true) where
  read_before : (before : Option ℕ) → before ≡ get_or befores point before → before ≡ link_of befores point
  read_before before is = get_or_read befores point before (rw line.befores (IsLine-known line point inside)) is None

  read_after : (after : Option ℕ) → after ≡ get_or afters point after → after ≡ link_of afters point
  read_after after is = get_or_read afters point after (rw line.afters (IsLine-known line point inside)) is None

  -- the links after the first step, and what is read from them
  pub read_again : (before after here : Option ℕ) (links : List (Option ℕ)) → before ≡ get_or befores point before → after ≡ get_or afters point after
      → links ≡ linked before after afters → here ≡ get_or links point here
      → (links ≡ linked (link_of befores point) (link_of afters point) afters) × (here ≡ link_of (linked (link_of befores point) (link_of afters point) afters) point)
  read_again before after here links is_before is_after is_linked is_here =
      let same : links ≡ linked (link_of befores point) (link_of afters point) afters = rw (← read_before before is_before, ← read_after after is_after) is_linked in
      let room : point < length links = rw (same, linked-length, line.afters) (IsLine-known line point inside) in
      (same, get_or_read links point here room is_here None ∙ ap (λ l. link_of l point) same)

  pub first_step_known : (before : Option ℕ) → before ≡ get_or befores point before → (x : ℕ) → before ≡ Some x → x < length afters
  first_step_known before is x leads = IsLine-before_known line point inside x (sym (read_before before is) ∙ leads)

  pub second_step_known : (before after here : Option ℕ) (links : List (Option ℕ)) → before ≡ get_or befores point before → after ≡ get_or afters point after
      → links ≡ linked before after afters → here ≡ get_or links point here → (x : ℕ) → here ≡ Some x → x < length befores
  second_step_known before after here links is_before is_after is_linked is_here x leads =
      let again = read_again before after here links is_before is_after is_linked is_here in
      IsLine-after_known line point inside x (sym (again.1 ∙ IsLine-link_stays line point inside) ∙ leads)

  pub IsLine-left : (before after here before' start end : Option ℕ) (links links' : List (Option ℕ)) → before ≡ get_or befores point before → after ≡ get_or afters point after
      → links ≡ linked before after afters → start ≡ started before after first → here ≡ get_or links point here → before' ≡ get_or befores point before'
      → links' ≡ linked here before' befores → end ≡ started here before' last
      → IsLine links links' (set stands point false) start end (without point points)
  IsLine-left before after here before' start end links links' is_before is_after is_linked is_start is_here is_before' is_linked' is_end =
      let again = read_again before after here links is_before is_after is_linked is_here in
      rw (is_linked', is_end, is_start, again.0, again.1, read_before before' is_before', read_before before is_before, read_after after is_after) (IsLine-removed line point inside)

-- ---- what a caller sees of a line

pub seen : (room room' : ℕ) (points points' : List ℕ) → room ≡ room' → points ≡ points' → ◌≡◌ {A = Line} (record { room = room; points = points }) (record { room = room'; points = points' })
seen room room' points points' same_room same_points = cc

-- the links of a vector, once a change of one of them was lent
pub linked_items : {Z : Type 0} (v : Vec (Option ℕ) Z) (from to : Option ℕ) (lent written : List (Option ℕ)) → lent ≡ v.items → length lent ≡ v.len → written ≡ linked from to lent → (with_items v written).items ≡ linked from to v.items
linked_items v from to lent written is len change =
    with_items_is v written (ap length change ∙ (linked-length from to lent ∙ len)) ∙ (change ∙ ap (linked from to) is)

-- The events of a feed are followed: those that are known are passed over, and each other one is next.
use Rattle.std.proofs.Common.{◌≡◌, ℕ, ◌+◌, ◌≤◌, max, nat_lt, nat_le, true, List, [], ◌∷◌, ◌++◌, length, map, drop, inl, inr, refl, sym, ap, ◌∙◌, subst, arith, append_assoc, length-append}
use Rattle.std.specs.List.{AllByRecursion}
use Rattle.std.specs.Prelude.{slice_index_or}
use Rattle.std.proofs.lemmas.Bool.{cases_lt, cond-true, cond-false, lt-ltb, le-ltb, le-leb, lt-leb}
use Rattle.boss_model.specs.declared.event.Event.{Event}
use Rattle.boss_model.specs.declared.state.Actuator.{Actuator}
use Rattle.boss_model.specs.Limits.{last_number}
use Rattle.boss_model.specs.State.{Persistent}
use Rattle.def_bytes.specs.Events.{event}
use Rattle.def_bytes.specs.Exact.{IsBytes}
use Rattle.def_feed.specs.Items.{Item, EventLine, item_text}
use Rattle.def_feed.specs.Feeds.{event_items}
use Rattle.def_feed.specs.Followers.{Follower, between, On, Next, of_event, Through, Follows}
use Rattle.def_feed.specs.Histories.{IsAfter, IsHistory, whole_since}
use Rattle.law_feed.proofs.Fronts.{one-more, at-front}
use Rattle.law_feed.proofs.ItemSteps.{line-steps}

-- What comes of the items that were read, where `start` events were known at first and this is the last number that was wholly
-- read: all of them are gone through.
pub record Ends (plant : List Actuator) (history : List Event) (start : ℕ) (f : Follower) (number : ℕ) (read : List Item) (whole : ℕ) : Type 0 where
  pub after : Follower
  pub through : Follows plant f number (map item_text read) (Through after)
  pub counted : after.count ≡ max start whole
  pub is : IsAfter plant history after.count after.lasting

-- nothing was read
pub at-rest : (plant : List Actuator) (history : List Event) (start : ℕ) (f : Follower) (number whole : ℕ) → f.count ≡ max start whole → IsAfter plant history f.count f.lasting →
    Ends plant history start f number [] whole
at-rest plant history start f number whole counted is = record { after = f; through = refl; counted = counted; is = is }

-- ---- lists of items

pub first-item : (x y : Item) (xs ys : List Item) → x ∷ xs ≡ y ∷ ys → x ≡ y
first-item x y xs ys is = ap (λ items. slice_index_or items 0 x) is

pub other-items : (x y : Item) (xs ys : List Item) → x ∷ xs ≡ y ∷ ys → xs ≡ ys
other-items x y xs ys is = ap (drop 1) is

pub none-of-none : (x : Item) (xs : List Item) {P : Type 0} → x ∷ xs ≡ [] → P
none-of-none x xs is = absurd cc

-- ---- one event

known : (d : Persistent) (c number : ℕ) (bytes : List ℕ) → number ≤ c → of_event (between d c) number bytes ≡ On (between d c)
known d c number bytes before = cond-true (nat_le number c) _ _ (le-leb number c before)

next : (d : Persistent) (c number : ℕ) (bytes : List ℕ) → number ≡ c + 1 → number ≤ last_number → of_event (between d c) number bytes ≡ Next bytes
next d c number bytes after few =
    cond-false (nat_le number c) _ _ (lt-leb number c (omega arith))
    ∙ cond-false (nat_lt (c + 1) number) _ _ (le-ltb (c + 1) number (omega arith))
    ∙ cond-true (nat_le number last_number) _ _ (le-leb number last_number few)

-- ---- all of them

module _ (plant : List Actuator) (history : List Event) (whole : IsHistory plant history) (fits : (e : Event) → event.fits e ≡ true → IsBytes (event.text e))
    (some : (e : Event) → event.fits e ≡ true → (1 ≤ length (event.text e)) × (length (event.text e) ≤ 4096)) (from start : ℕ) where
  pub events-followed : (events front rest : List Event) (before c last due : ℕ) (d : Persistent) (read left : List Item) (number : ℕ) → history ≡ front ++ (events ++ rest) →
      length front ≡ before → IsAfter plant history c d → from ≤ c → before ≤ c → last ≤ before → c ≡ max start last →
      read ++ left ≡ event_items from (before + 1) events → Ends plant history start (between d c) number read (whole_since last due 0 read)
  events-followed events front rest before c last due d [] left number is long now above within older counted items =
      at-rest plant history start (between d c) number last counted now
  events-followed [] front rest before c last due d (item ∷ read) left number is long now above within older counted items = none-of-none item (read ++ left) items
  events-followed (e ∷ events) front rest before c last due d (item ∷ read) left number is long now above within older counted items =
      let longer : history ≡ (front ++ e ∷ []) ++ (events ++ rest) = is ∙ sym (append_assoc front (e ∷ []) (events ++ rest)) in
      let many : length (front ++ e ∷ []) ≡ before + 1 = omega (arith, length-append front (e ∷ [])) in
      let spelled : event.fits e ≡ true = at-front (λ x. event.fits x ≡ true) front (events ++ rest) e (subst (AllByRecursion (λ x. event.fits x ≡ true)) is whole.fitting) in
      let room : before + 1 ≤ last_number = (
      let all : length history ≡ length front + length (e ∷ (events ++ rest)) = ap length is ∙ length-append front (e ∷ (events ++ rest)) in
      let few : length history ≤ last_number = whole.few in omega arith) in
      let more : List Item = event_items from (before + 1 + 1) events in
      elim (cases_lt from (before + 1)) [
        | inl inside ↦
            let told : item ∷ (read ++ left) ≡ EventLine (before + 1) (event.text e) ∷ more = items ∙ cond-true (nat_lt from (before + 1)) _ _ (lt-ltb from (before + 1) inside) in
            let those : read ++ left ≡ more = other-items _ _ _ _ told in
            subst (λ x. Ends plant history start (between d c) number (x ∷ read) (whole_since last due 0 (x ∷ read))) (sym (first-item _ _ _ _ told))
            (elim (cases_lt before c) [
              | inl old ↦
                  let ends : Ends plant history start (between d c) (number + 1) read (whole_since (before + 1) (before + 1) 0 read) =
                  events-followed events (front ++ e ∷ []) rest (before + 1) c (before + 1) (before + 1) d read left (number + 1) longer many now above (omega arith) (omega arith) (omega arith) those in
                  record {
                    after = ends.after;
                    through = line-steps plant (between d c) number (EventLine (before + 1) (event.text e)) (map item_text read) (Through ends.after)
                        (omega arith, (fits e spelled, (some e spelled).0)) (some e spelled).1 (On (between d c)) (known d c (before + 1) (event.text e) (omega arith)) ends.through;
                    counted = ends.counted;
                    is = ends.is;
                  }
              | inr new ↦
                  let here : before ≡ c = omega arith in
                  let taken = one-more plant history whole front (events ++ rest) e c d is (long ∙ here) now in
                  let ends : Ends plant history start (between taken.0 (c + 1)) (number + 1) read (whole_since (before + 1) (before + 1) 0 read) =
                  events-followed events (front ++ e ∷ []) rest (before + 1) (c + 1) (before + 1) (before + 1) taken.0 read left (number + 1) longer many taken.2 (omega arith) (omega arith) (omega arith) (omega arith) those in
                  record {
                    after = ends.after;
                    through = line-steps plant (between d c) number (EventLine (before + 1) (event.text e)) (map item_text read) (Through ends.after)
                        (omega arith, (fits e spelled, (some e spelled).0)) (some e spelled).1 (Next (event.text e)) (next d c (before + 1) (event.text e) (ap (λ k. k + 1) here) room)
                        (inl (taken.0, record { made = e; fits = spelled; spelled = refl; leads = taken.1 }, ends.through));
                    counted = ends.counted;
                    is = ends.is;
                  }
            ])
        | inr outside ↦
            let told : item ∷ (read ++ left) ≡ more = items ∙ cond-false (nat_lt from (before + 1)) _ _ (le-ltb from (before + 1) outside) in
            events-followed events (front ++ e ∷ []) rest (before + 1) c last due d (item ∷ read) left number longer many now above (omega arith) (omega arith) counted told
      ]

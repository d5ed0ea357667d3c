-- A feed of one's own history is followed: its state, where one is told, and its events.
use Rattle.std.proofs.Common.{◌≡◌, ℕ, ◌+◌, ◌^◌, ◌<◌, ◌≤◌, max, nat_lt, nat_le, ◌==◌, true, ◌&&◌, List, [], ◌∷◌, ◌++◌, length, map, take, drop, inl, inr, refl, sym, ap, ◌∙◌, subst, arith, length-take}
use Rattle.std.proofs.lemmas.Bool.{cases_lt, and_from, cond-true, cond-false, lt-ltb, le-ltb, le-leb, lt-leb, ne_eqb}
use Rattle.std.proofs.lemmas.List.{take-append-drop}
use Rattle.law_time.proofs.Orders.{each-map}
use Rattle.boss_model.specs.declared.event.Event.{Event}
use Rattle.boss_model.specs.declared.state.Actuator.{Actuator}
use Rattle.boss_model.specs.Limits.{last_number}
use Rattle.boss_model.specs.Plants.{IsPlant}
use Rattle.boss_model.specs.Sound.{IsSoundPersistent}
use Rattle.boss_model.specs.State.{Persistent}
use Rattle.def_bytes.specs.Events.{event}
use Rattle.def_bytes.specs.Exact.{IsBytes}
use Rattle.def_bytes.specs.States.{reply, state}
use Rattle.def_bytes.proofs.OfEvents.{event_spelled}
use Rattle.law_spelling.specs.Ranges.{IsStoredProcess}
use Rattle.law_spelling.proofs.OfStates.{reply-fits, state-fits}
use Rattle.law_spelling.proofs.Stored.{storable}
use Rattle.law_bytes.proofs.OfEvents.{an-event}
use Rattle.law_bytes.proofs.OfStates.{a-state}
use Rattle.law_bytes.proofs.Sizes.{sound-size, some-bytes}
use Rattle.def_feed.specs.Items.{Item, StateLine, PartLine, item_text}
use Rattle.def_feed.specs.Feeds.{pieces, state_items, event_items, feed_items}
use Rattle.def_feed.specs.Followers.{Passing, between, On, largest_state, of_state, IsState, Through}
use Rattle.def_feed.specs.Histories.{IsAfter, IsHistory, IsOf, whole_since, last_whole}
use Rattle.law_feed.proofs.EventsFollowed.{Ends, at-rest, first-item, other-items, events-followed}
use Rattle.law_feed.proofs.ItemSteps.{line-steps}
use Rattle.law_feed.proofs.PartsFollowed.{parts-followed, passing-at, passed-parts, taking-at, taken-parts}

-- ---- what is known of spellings

state-spelled : (plant : List Actuator) (d : Persistent) → IsPlant plant → (sound : IsSoundPersistent plant d) → (state 2).fits d ≡ true
state-spelled plant d limits sound =
    let kept = storable plant limits d sound in
    state-fits 2 d kept (each-map IsStoredProcess (λ p. (reply 2).fits p.reply ≡ true) (λ p is. reply-fits p.reply is.reply) d.processes kept.processes)

event-sizes : (e : Event) → event.fits e ≡ true → (1 ≤ length (event.text e)) × (length (event.text e) ≤ 4096)
event-sizes e fits = let short : length (event.text e) ≤ event.most = event_spelled.short.short e fits in (omega arith, omega arith)

module _ (plant : List Actuator) (limits : IsPlant plant) (history : List Event) (whole : IsHistory plant history) (base d : Persistent) (before c from : ℕ) (events : List Event)
    (of : IsOf plant history base before events) (now : IsAfter plant history c d) (above : from ≤ c) where
  text : List ℕ
  text = (state 2).text base

  is-state : IsState plant text base
  unfolding text
  is-state = record { fits = state-spelled plant base limits of.sound; spelled = refl; sound = of.sound }

  bytes : IsBytes text
  unfolding text
  bytes = (a-state 2).bytes base (state-spelled plant base limits of.sound)

  size : length text ≤ 2 ^ 27
  unfolding text
  size = sound-size 2 plant base limits of.sound

  some : 1 ≤ length text
  unfolding text
  some = some-bytes 2 base

  few : before ≤ last_number
  few = let within : before ≤ length history = of.after.within in let all : length history ≤ last_number = whole.few in omega arith

  -- the history in three: what is before, the feed's events, and the rest
  front : List Event
  front = take before history

  rest : List Event
  rest = drop (length events) (drop before history)

  split : history ≡ front ++ (events ++ rest)
  unfolding front rest
  split =
      sym (take-append-drop before history)
      ∙ ap (λ later. take before history ++ later) (sym (take-append-drop (length events) (drop before history)))
      ∙ ap (λ first. take before history ++ (first ++ drop (length events) (drop before history))) (sym of.next)

  long : length front ≡ before
  unfolding front
  long = let within : before ≤ length history = of.after.within in omega (arith, length-take before history)

  -- its events, where so many are known
  those-events : (start count last due : ℕ) (e : Persistent) → IsAfter plant history count e → from ≤ count → before ≤ count → last ≤ before → count ≡ max start last →
      (read left : List Item) (number : ℕ) → read ++ left ≡ event_items from (before + 1) events → Ends plant history start (between e count) number read (whole_since last due 0 read)
  those-events start count last due e there asked known older counted read left number items =
      events-followed plant history whole (λ x fits. an-event.bytes x fits) event-sizes from start events front rest before count last due e read left number split long there asked known older
      counted items

  -- ---- the line of a state

  small : (nat_le before last_number && nat_le (length text) largest_state) ≡ true
  small = and_from _ _ (le-leb before last_number few) (le-leb (length text) largest_state size)

  passes : before ≤ c → of_state (between d c) before (length text) ≡ On (passing-at plant d c text [])
  passes known =
      cond-true (nat_le before last_number && nat_le (length text) largest_state) _ _ small
      ∙ cond-true (nat_le before c) _ _ (le-leb before c known)
      ∙ ap (λ place. On (record { lasting = d; count = c; place = place }))
      (cond-false (length text == 0) _ _ (ne_eqb (length text) 0 (λ none. absurd (omega (arith, some)))) ∙ ap Passing (omega arith))

  takes : c < before → of_state (between d c) before (length text) ≡ On (taking-at plant d c text base before is-state [])
  takes new =
      cond-true (nat_le before last_number && nat_le (length text) largest_state) _ _ small
      ∙ cond-false (nat_le before c) _ _ (lt-leb before c new)
      ∙ cond-false (0 == length text) _ _ (ne_eqb 0 (length text) (λ none. absurd (omega (arith, some))))

  -- ---- a feed with a state

  with-state : (read left : List Item) (number : ℕ) → read ++ left ≡ state_items before text ++ event_items from (before + 1) events →
      Ends plant history c (between d c) number read (last_whole read)
  with-state [] left number items = at-rest plant history c (between d c) number 0 (omega arith) now
  with-state (item ∷ read) left number items =
      let those : read ++ left ≡ map PartLine (pieces (length text) text) ++ event_items from (before + 1) events = other-items item (StateLine before (length text)) _ _ items in
      let same : item ≡ StateLine before (length text) = first-item item (StateLine before (length text)) _ _ items in
      let due : last_whole (StateLine before (length text) ∷ read) ≡ whole_since 0 before (length text) read =
      cond-false (length text == 0) _ _ (ne_eqb (length text) 0 (λ none. absurd (omega (arith, some)))) in
      let ends : Ends plant history c (between d c) number (StateLine before (length text) ∷ read) (whole_since 0 before (length text) read) =
      elim (cases_lt c before) [
        | inl new ↦
            let parts : Ends plant history c (taking-at plant d c text base before is-state []) (number + 1) read (whole_since 0 before (length text) read) =
            parts-followed plant history text (taking-at plant d c text base before is-state) (between base before) (taken-parts plant d c text base before is-state) bytes c 0 before
            (event_items from (before + 1) events) (λ done. (omega arith, now))
            (λ others more line is. those-events c before before before base of.after (omega arith) (omega arith) (omega arith) (omega arith) others more line is)
            (length text) [] text refl (omega arith) some read left (number + 1) those in
            record {
              after = parts.after;
              through = line-steps plant (between d c) number (StateLine before (length text)) (map item_text read) (Through parts.after)
                  (omega (arith, few), omega (arith, size)) tt (On (taking-at plant d c text base before is-state [])) (takes new) parts.through;
              counted = parts.counted;
              is = parts.is;
            }
        | inr old ↦
            let parts : Ends plant history c (passing-at plant d c text []) (number + 1) read (whole_since 0 before (length text) read) =
            parts-followed plant history text (passing-at plant d c text) (between d c) (passed-parts plant d c text) bytes c 0 before
            (event_items from (before + 1) events) (λ done. (omega arith, now))
            (λ others more line is. those-events c c before before d now above old (omega arith) (omega arith) others more line is)
            (length text) [] text refl (omega arith) some read left (number + 1) those in
            record {
              after = parts.after;
              through = line-steps plant (between d c) number (StateLine before (length text)) (map item_text read) (Through parts.after)
                  (omega (arith, few), omega (arith, size)) tt (On (passing-at plant d c text [])) (passes old) parts.through;
              counted = parts.counted;
              is = parts.is;
            }
      ] in
      subst (λ x. Ends plant history c (between d c) number (x ∷ read) (last_whole (x ∷ read))) (sym same)
      (subst (Ends plant history c (between d c) number (StateLine before (length text) ∷ read)) (sym due) ends)

  pub followed : (read left : List Item) (number : ℕ) → read ++ left ≡ feed_items from base before events → Ends plant history c (between d c) number read (last_whole read)
  unfolding text
  followed read left number items = elim (cases_lt from before) [
    | inl asked ↦
        with-state read left number (items ∙ ap (λ told. told ++ event_items from (before + 1) events) (cond-true (nat_lt from before) _ _ (lt-ltb from before asked)))
    | inr known ↦
        those-events c c 0 0 d now above (omega arith) (omega arith) (omega arith) read left number
        (items ∙ ap (λ told. told ++ event_items from (before + 1) events) (cond-false (nat_lt from before) _ _ (le-ltb from before known)))
  ]

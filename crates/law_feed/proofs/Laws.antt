-- The laws, of items and of lines.
use Rattle.std.proofs.Common.{◌≡◌, ℕ, ◌≤◌, List, ◌++◌, length, map, take, drop, refl, sym, ap, ◌∙◌, subst}
use Rattle.std.proofs.lemmas.List.{take-append-drop, take_at, take-map}
use Rattle.boss_model.specs.declared.event.Event.{Event}
use Rattle.boss_model.specs.declared.state.Actuator.{Actuator}
use Rattle.boss_model.specs.Plants.{IsPlant}
use Rattle.boss_model.specs.State.{Persistent}
use Rattle.def_feed.specs.Items.{Item, item_text}
use Rattle.def_feed.specs.Feeds.{feed_items, feed_lines}
use Rattle.def_feed.specs.Followers.{Follower, between, Outcome, Through, Follows}
use Rattle.def_feed.specs.Histories.{IsAfter, IsHistory, IsOf}
use Rattle.law_feed.specs.Following.{BeginFeed, IsFollowed}
use Rattle.law_feed.proofs.Followed.{followed}
use Rattle.law_feed.proofs.OneOutcome.{one-outcome}

pub feed-followed : (plant : List Actuator) (history : List Event) (d : Persistent) (known number : ℕ) (read : List Item) (outcome : Outcome) → IsPlant plant → IsHistory plant history →
    IsAfter plant history known d → BeginFeed plant history known read → Follows plant (between d known) number (map item_text read) outcome → IsFollowed plant history known read outcome
feed-followed plant history d known number read outcome limits whole now begins follows =
    let ends = followed plant limits history whole begins.base d begins.before known begins.from begins.events begins.of now begins.asked read begins.left number begins.is in
    record {
      after = ends.after;
      through = one-outcome plant (map item_text read) (between d known) number outcome (Through ends.after) follows ends.through;
      counted = ends.counted;
      leads = ends.is;
    }

pub feed-comes : (plant : List Actuator) (history : List Event) (d : Persistent) (known number : ℕ) (read : List Item) → IsPlant plant → IsHistory plant history →
    IsAfter plant history known d → BeginFeed plant history known read → (after : Follower) × Follows plant (between d known) number (map item_text read) (Through after)
feed-comes plant history d known number read limits whole now begins =
    let ends = followed plant limits history whole begins.base d begins.before known begins.from begins.events begins.of now begins.asked read begins.left number begins.is in
    (ends.after, ends.through)

pub front-followed : (plant : List Actuator) (history : List Event) (d base : Persistent) (known from before : ℕ) (events : List Event) (lines more : List (List ℕ)) (outcome : Outcome) →
    IsPlant plant → IsHistory plant history → IsAfter plant history known d → IsOf plant history base before events → from ≤ known →
    feed_lines from base before events ≡ lines ++ more → Follows plant (between d known) 1 lines outcome →
    IsFollowed plant history known (take (length lines) (feed_items from base before events)) outcome
front-followed plant history d base known from before events lines more outcome limits whole now of asked is follows =
    let items : List Item = feed_items from base before events in
    let same : map item_text (take (length lines) items) ≡ lines = sym (take-map item_text (length lines) items) ∙ ap (take (length lines)) is ∙ take_at lines more (length lines) refl in
    feed-followed plant history d known 1 (take (length lines) items) outcome limits whole now (record {
      from = from;
      base = base;
      before = before;
      events = events;
      left = drop (length lines) items;
      asked = asked;
      of = of;
      is = take-append-drop (length lines) items;
    }) (subst (λ all. Follows plant (between d known) 1 all outcome) (sym same) follows)

-- A feed of one's own history is followed, as far as its lines are read.
use Rattle.std.proofs.Common.{◌≡◌, ℕ, ◌<◌, ◌≤◌, true, false, List, [], ◌++◌, length, map, take, drop, refl, sym, ap, ◌∙◌, subst, arith, append_assoc, append-nil, length-append, length-take}
use Rattle.std.proofs.lemmas.List.{take-append-drop, take_at, take-map, length-map}
use Rattle.boss_following.specs.declared.stop.FollowEnd.{FollowEnd}
use Rattle.boss_following.specs.declared.stop.FollowEnd.TheVariants as end
use Rattle.boss_following.specs.Ends.{EndsAt, has_failed, LastsAfterSome, ThroughSome}
use Rattle.boss_following.specs.Owns.{AreRead, BeginOwn, comes, CountsTo, IsAmong, known_after}
use Rattle.boss_following.proofs.Ascending.{Ascend, ascend-front, feed-ascends, whole-more}
use Rattle.boss_model.specs.declared.event.Event.{Event}
use Rattle.boss_model.specs.declared.state.Actuator.{Actuator}
use Rattle.boss_model.specs.Limits.{most_lines}
use Rattle.boss_model.specs.Lines.{lines}
use Rattle.boss_model.specs.Plants.{IsPlant}
use Rattle.boss_model.specs.State.{Persistent}
use Rattle.def_feed.specs.Followers.{between, Follower, Follows, Outcome, Through, TooLong, BadLine, Late}
use Rattle.def_feed.specs.Histories.{IsAfter, last_whole}
use Rattle.def_feed.specs.Items.{Item, item_text}
use Rattle.law_feed.specs.Following.{BeginFeed, IsFollowed}
use Rattle.law_feed.proofs.Laws.{feed-followed}

same-through : (one other : Follower) → Through one ≡ Through other → one ≡ other
same-through one other is = cc

module _ (plant : List Actuator) (history : List Event) (known : ℕ) (d : Persistent) (all : List (List ℕ)) (told : List Item) (limits : IsPlant plant)
    (own : BeginOwn plant history known d all told) where
  start : Follower
  start = between d known

  -- ---- a front of the lines

  begin-front : (many : ℕ) → BeginFeed plant history known (take many told)
  begin-front many = record {
    from = own.begins.from;
    base = own.begins.base;
    before = own.begins.before;
    events = own.begins.events;
    left = drop many told ++ own.begins.left;
    asked = own.begins.asked;
    of = own.begins.of;
    is = sym (append_assoc (take many told) (drop many told) own.begins.left) ∙ ap (λ items. items ++ own.begins.left) (take-append-drop many told) ∙ own.begins.is;
  }

  front-own : (front rest : List (List ℕ)) (outcome : Outcome) → all ≡ front ++ rest → Follows plant (between d known) 1 front outcome →
      IsFollowed plant history known (take (length front) told) outcome
  front-own front rest outcome is follows =
      let same : map item_text (take (length front) told) ≡ front =
      sym (take-map item_text (length front) told) ∙ ap (take (length front)) (sym own.spelled ∙ is) ∙ take_at front rest (length front) refl in
      feed-followed plant history d known 1 (take (length front) told) outcome limits own.whole own.after (begin-front (length front))
      (subst (λ ls. Follows plant (between d known) 1 ls outcome) (sym same) follows)

  -- it comes to no other end
  pub no-other : {A : Type 0} (outcome : Outcome) → ((after : Follower) → outcome ≡ Through after → A) → Follows plant (between d known) 1 all outcome → A
  no-other outcome none follows =
      let followed = front-own all [] outcome (sym (append-nil all)) follows in none followed.after followed.through

  pub through-own : (front rest : List (List ℕ)) (now : Follower) → all ≡ front ++ rest → Follows plant (between d known) 1 front (Through now) →
      (now.count ≡ known_after known told (length front)) × IsAfter plant history now.count now.lasting
  through-own front rest now is follows =
      let followed = front-own front rest (Through now) is follows in
      let same : now ≡ followed.after = same-through now followed.after followed.through in
      subst (λ f. (f.count ≡ known_after known told (length front)) × IsAfter plant history f.count f.lasting) (sym same) (followed.counted, followed.leads)

  -- ---- with more lines no fewer events are known

  known-more : (i j : ℕ) → i ≤ j → known_after known told i ≤ known_after known told j
  known-more i j less =
      let up : Ascend 0 told = ascend-front 0 told own.begins.left (subst (Ascend 0) (sym own.begins.is) (feed-ascends own.begins.from own.begins.base own.begins.before own.begins.events)) in
      let more : last_whole (take i told) ≤ last_whole (take j told) = whole-more told i j up less in omega arith

  module _ (read unread : List (List ℕ)) (split : all ≡ read ++ unread) where
    pub some-own : (now : Follower) → ThroughSome plant (between d known) read now →
        (known ≤ now.count) × (now.count ≤ known_after known told (length read)) × IsAfter plant history now.count now.lasting
    some-own now some =
        let place : all ≡ some.0 ++ (some.1 ++ unread) = split ∙ ap (λ ls. ls ++ unread) some.2 ∙ append_assoc some.0 some.1 unread in
        let there = through-own some.0 (some.1 ++ unread) now place some.3 in
        let few : length some.0 ≤ length read = omega (arith, ap length some.2, length-append some.0 some.1) in
        let most = known-more (length some.0) (length read) few in
        (omega (arith, there.0), omega (arith, there.0, most), there.1)

    pub among-own : (e : Persistent) → LastsAfterSome plant (between d known) read e → IsAmong plant history known (known_after known told (length read)) e
    among-own e lasts =
        let there = some-own lasts.0 lasts.1 in
        (lasts.0.count, there.0, there.1, subst (IsAfter plant history lasts.0.count) (sym lasts.2) there.2)

    all-told : length all ≡ length told
    all-told = ap length own.spelled ∙ length-map told item_text

    read-few : length read ≤ length told
    read-few = omega (arith, all-told, ap length split, length-append read unread)

    read-all : read ≡ all → length read ≡ length told
    read-all is = ap length is ∙ all-told

    -- ---- the ends

    module _ (bytes left : List ℕ) (of : all ≡ lines bytes) (now : Follower) where
      bad : {A : Type 0} (outcome : Outcome) → ((after : Follower) → outcome ≡ Through after → A) → Follows plant (between d known) 1 (lines bytes) outcome → A
      bad outcome none follows = no-other outcome none (subst (λ ls. Follows plant (between d known) 1 ls outcome) (sym of) follows)

      pub own-comes : (result : FollowEnd) → EndsAt plant (between d known) bytes left read now result → comes result ≡ true
      own-comes end.End ends = refl
      own-comes end.Short ends = refl
      own-comes (end.Gap have found) ends = bad (Late have found now) (λ after is. absurd cc) ends
      own-comes (end.BadLine line) ends = bad (BadLine line now) (λ after is. absurd cc) ends
      own-comes end.TooLong ends = bad (TooLong now) (λ after is. absurd cc) ends
      own-comes end.Limit ends = refl
      own-comes end.ReadFault ends = refl
      own-comes end.DiskFault ends = refl
      own-comes end.NoMemory ends = refl
      own-comes end.Stopped ends = refl

      pub own-read : (result : FollowEnd) → EndsAt plant (between d known) bytes left read now result → AreRead (length told) (length read) result
      own-read end.End ends = read-all (ends.1 ∙ sym of)
      own-read end.Short ends = read-all (ends.1 ∙ sym of)
      own-read (end.Gap have found) ends = read-few
      own-read (end.BadLine line) ends = read-few
      own-read end.TooLong ends = read-few
      own-read end.Limit ends = ap length ends.1 ∙ long (lines bytes) ends.0
        where
          long : (ls : List (List ℕ)) → most_lines < length ls → length (take most_lines ls) ≡ most_lines
          long ls more = length-take most_lines ls ∙ omega (arith, more)
      own-read end.ReadFault ends = read-few
      own-read end.DiskFault ends = read-few
      own-read end.NoMemory ends = read-few
      own-read end.Stopped ends = ap length ends.0

      exact : (count : ℕ) → count ≡ now.count → Follows plant (between d known) 1 read (Through now) → count ≡ known_after known told (length read)
      exact count is follows = is ∙ (through-own read unread now split follows).0

      pub own-counts : (result : FollowEnd) (count : ℕ) → (has_failed result ≡ false → count ≡ now.count) → EndsAt plant (between d known) bytes left read now result →
          CountsTo known (known_after known told (length read)) count result
      own-counts end.End count is ends = exact count (is refl) ends.3
      own-counts end.Short count is ends = exact count (is refl) ends.3
      own-counts (end.Gap have found) count is ends = bad (Late have found now) (λ after same. absurd cc) ends
      own-counts (end.BadLine line) count is ends = bad (BadLine line now) (λ after same. absurd cc) ends
      own-counts end.TooLong count is ends = bad (TooLong now) (λ after same. absurd cc) ends
      own-counts end.Limit count is ends = exact count (is refl) ends.2
      own-counts end.ReadFault count is ends = exact count (is refl) ends.3
      own-counts end.DiskFault count is ends = tt
      own-counts end.NoMemory count is ends =
          let there = some-own now ends in (omega (arith, is refl, there.0), omega (arith, is refl, there.1))
      own-counts end.Stopped count is ends = tt

      leads : Follows plant (between d known) 1 read (Through now) → IsAfter plant history now.count now.lasting
      leads follows = (through-own read unread now split follows).1

      pub own-leads : (result : FollowEnd) → has_failed result ≡ false → EndsAt plant (between d known) bytes left read now result → IsAfter plant history now.count now.lasting
      own-leads end.End fine ends = leads ends.3
      own-leads end.Short fine ends = leads ends.3
      own-leads (end.Gap have found) fine ends = bad (Late have found now) (λ after same. absurd cc) ends
      own-leads (end.BadLine line) fine ends = bad (BadLine line now) (λ after same. absurd cc) ends
      own-leads end.TooLong fine ends = bad (TooLong now) (λ after same. absurd cc) ends
      own-leads end.Limit fine ends = leads ends.2
      own-leads end.ReadFault fine ends = leads ends.3
      own-leads end.DiskFault fine ends = absurd cc
      own-leads end.NoMemory fine ends = (some-own now ends).2
      own-leads end.Stopped fine ends = absurd cc

-- What the disk in force holds of what its pair stands for.
use Rattle.std.proofs.Common.{◌≡◌, ◌⊎◌, inl, inr, ⊎_elim, ℕ, ◌+◌, ◌-◌, ◌<◌, ◌≤◌, Bool, true, false, cond, List, [], ◌∷◌, ◌++◌, length, take, drop, refl, sym, ap, subst, ◌∙◌, arith, length-append, length-take, length-drop, take-append-drop}
use Rattle.std.specs.Prelude.{map, nat_lt}
use Rattle.std.proofs.lemmas.Bool.Decides.{nat_tests}
use Rattle.std.proofs.lemmas.Bool.{cases_lt, cond-true, cond-false}
use Rattle.std.proofs.lemmas.List.{length-take-le, take-take, take_at}
use Rattle.boss_disk.specs.Window.{Window}
use Rattle.boss_feeding.specs.Held.{HasLog, HasText, text_size}
use Rattle.boss_feeding.specs.Lines.{lines_text}
use Rattle.boss_feeding.proofs.FirstRecords.{at_records}
use Rattle.boss_feeding.proofs.Items.{lines_join}
use Rattle.boss_model.specs.declared.event.Event.{Event}
use Rattle.boss_model.specs.declared.state.Actuator.{Actuator}
use Rattle.boss_model.specs.Limits.{last_number}
use Rattle.boss_model.specs.Sound.{IsSoundPersistent}
use Rattle.boss_model.specs.State.{Persistent, first_persistent}
use Rattle.boss_snapshot.specs.Fronts.{size_of, text_of, text_place, version_of}
use Rattle.boss_snapshot.specs.Refusals.{IsKeptState, IsState}
use Rattle.boss_snapshot.specs.Writes.{IsWritten}
use Rattle.boss_snapshot.proofs.Again.{written_kept}
use Rattle.boss_snapshot.proofs.Fronted.{later}
use Rattle.boss_snapshot.proofs.OfFronts.{behind_head}
use Rattle.boss_snapshot.proofs.KeptFronts.{read_front}
use Rattle.def_bytes.specs.Batches.{batch_text}
use Rattle.def_bytes.specs.States.{state}
use Rattle.def_bytes.specs.Fields.{Field}
use Rattle.def_seal.specs.Seals.{has_sums, seed_of, sum_of, sealed, all_sealed}
use Rattle.def_seal.proofs.Seals.{length-sum_of}
use Rattle.def_disk_pair.specs.Contents.{records_of}
use Rattle.def_disk_pair.specs.Fronts.{IsFront}
use Rattle.def_disk_pair.specs.Pairs.{HasEvents, IsNew, OfThatInForce, StandsFor}
use Rattle.def_disk_pair.proofs.OfKinds.{state_front}
use Rattle.def_disk_pair.proofs.Prefixes.{same_front}
use Rattle.def_feed.specs.Feeds.{event_items, feed_text, state_items}
use Rattle.def_log.specs.declared.kind.DiskKind.{DiskKind}
use Rattle.def_log.specs.declared.kind.DiskKind.TheVariants.{Idle, Plain, State, Other}
use Rattle.def_log.specs.InForce.{InForce, Foreign, Neither, First, Second}
use Rattle.def_log.specs.Kinds.{in_force, kind_of}
use Rattle.def_log.specs.Log.{spelled, IsLog}
use Rattle.def_log.specs.Versions.{newest_version}

-- ---- the disk in force

module _ (plant : List Actuator) (digest : List ℕ) (base : Persistent) (before : ℕ) (events : List Event) (first second : List ℕ)
    (stands : StandsFor plant digest base before events first second) where
  of : (i : InForce) → in_force (kind_of first) (kind_of second) ≡ i →
      OfThatInForce (HasEvents plant digest base before events) (λ bytes. IsNew bytes × (base ≡ first_persistent) × (before ≡ 0) × (events ≡ [])) i first second
  of i is = subst (λ j. OfThatInForce (HasEvents plant digest base before events) (λ bytes. IsNew bytes × (base ≡ first_persistent) × (before ≡ 0) × (events ≡ [])) j first second) is stands

  pub first_has : in_force (kind_of first) (kind_of second) ≡ First → HasEvents plant digest base before events first
  first_has is = of First is

  pub second_has : in_force (kind_of first) (kind_of second) ≡ Second → HasEvents plant digest base before events second
  second_has is = of Second is

  pub never_foreign : in_force (kind_of first) (kind_of second) ≡ Foreign → ⊥
  never_foreign is = of Foreign is

  pub new_has : in_force (kind_of first) (kind_of second) ≡ Neither → (before ≡ 0) × (events ≡ [])
  new_has is = let new = of Neither is in (new.2, new.3)

-- ---- what is told of it

module _ (from : ℕ) (base : Persistent) (before : ℕ) (events : List Event) where
  abbrev base_text : List ℕ
  base_text = lines_text (state_items before ((state 2).text base))

  abbrev events_text : List ℕ
  events_text = lines_text (event_items from (before + 1) events)

  pub feed_with : from < before → feed_text from base before events ≡ base_text ++ events_text
  feed_with above =
      let test : nat_lt from before ≡ true = grind (arith, nat_tests, above) in
      ap (λ items. lines_text (items ++ event_items from (before + 1) events)) (cond-true (nat_lt from before) (state_items before ((state 2).text base)) [] test)
      ∙ lines_join (state_items before ((state 2).text base)) (event_items from (before + 1) events)

  pub feed_without : before ≤ from → feed_text from base before events ≡ events_text
  feed_without below =
      let test : nat_lt from before ≡ false = grind (arith, nat_tests, below) in
      ap (λ items. lines_text (items ++ event_items from (before + 1) events)) (cond-false (nat_lt from before) (state_items before ((state 2).text base)) [] test)

pub feed_new : (from : ℕ) (base : Persistent) (before : ℕ) (events : List Event) → before ≡ 0 → events ≡ [] → feed_text from base before events ≡ []
feed_new from base before events none nothing =
    feed_without from base before events (omega (arith, none)) ∙ ap (λ es. lines_text (event_items from (before + 1) es)) nothing

-- no state is told where none is before the events
pub feed_plain_log : (from : ℕ) (base : Persistent) (before : ℕ) (events : List Event) → before ≡ 0 → lines_text (event_items from (0 + 1) events) ≡ feed_text from base before events
feed_plain_log from base before events none =
    ap (λ n. lines_text (event_items from (n + 1) events)) (sym none) ∙ sym (feed_without from base before events (omega (arith, none)))

-- the same of the same
pub feed_same : (from : ℕ) (base other : Persistent) (before many : ℕ) (events : List Event) → base ≡ other → before ≡ many →
    feed_text from base before events ≡ feed_text from other many events
feed_same from base other before many events one two = ap (λ d. feed_text from d before events) one ∙ ap (λ n. feed_text from other n events) two

-- ---- a journal from the first state on

module _ (plant : List Actuator) (digest : List ℕ) (base : Persistent) (before : ℕ) (events : List Event) (bytes : List ℕ)
    (has : HasEvents plant digest base before events bytes) where
  -- byte 8 is the version
  front_version : IsFront plant digest has.2.version base before has.2.front → has.2.version ≡ version_of bytes
  front_version (inl plain) =
      sym (ap version_of (has.2.log.is ∙ ap (λ f. f ++ (spelled (records_of has.2.version has.2.front has.0) ++ has.2.log.gate ∷ has.2.log.tail)) plain.is))
  front_version (inr kept) =
      let state = kept.1 in
      sym (ap version_of (has.2.log.is ∙ ap (λ f. f ++ (spelled (records_of has.2.version has.2.front has.0) ++ has.2.log.gate ∷ has.2.log.tail)) state.is))

  -- a log behind a front
  pub log_behind : (gate : ℕ) → gate ≡ length has.2.front → HasLog gate events bytes
  log_behind gate here = record {
    version = has.2.version;
    version_is = front_version has.2.course.is_front;
    seed = seed_of has.2.front;
    front = has.2.front;
    batches = has.0;
    log = subst (λ p. IsLog has.2.front (all_sealed has.2.version (seed_of has.2.front) p (map batch_text has.0)) bytes) (sym here) has.2.log;
    placed = here;
    each = has.2.course.each;
    are = has.3;
  }

module _ (plant : List Actuator) (digest : List ℕ) (base : Persistent) (before : ℕ) (events : List Event) (bytes : List ℕ)
    (has : HasEvents plant digest base before events bytes) (len : length digest ≡ 32) where
  abbrev PlainLog : Type 0
  PlainLog = HasLog 41 events bytes × (before ≡ 0)

  plain_behind : IsFront plant digest has.2.version base before has.2.front → kind_of bytes ≡ Plain → PlainLog
  plain_behind (inl plain) kind =
      let long : 41 ≡ length has.2.front = omega (arith, ap length plain.is, len) in (log_behind plant digest base before events bytes has 41 long, plain.none_before)
  plain_behind (inr kept) kind =
      let at = at_records (length has.2.front) bytes has.2.front (records_of has.2.version has.2.front has.0) has.2.log refl in
      let other : kind_of bytes ≡ State kept.0 = ap kind_of at.is ∙ state_front plant digest len has.2.version kept.0 base before has.2.front at.gate at.tail kept.1 in
      let bad : Plain ≡ State kept.0 = sym kind ∙ other in absurd cc

  pub plain_log : kind_of bytes ≡ Plain → PlainLog
  plain_log kind = plain_behind has.2.course.is_front kind

-- ---- a kept state

generation_of_kind : (kind : DiskKind) → IsState kind → (generation : ℕ) × (kind ≡ State generation)
generation_of_kind Idle is = absurd is
generation_of_kind Plain is = absurd is
generation_of_kind (State generation) is = (generation, refl)
generation_of_kind Other is = absurd is

-- a disk with a kept state that is sound, and what its pair stands for
pub record Kept (base d : Persistent) (before many gate : ℕ) (events : List Event) (bytes : List ℕ) : Type 0 where
  pub base_is : base ≡ d
  pub before_is : before ≡ many
  pub log : HasLog gate events bytes

pub kept_log : (plant : List Actuator) (digest : List ℕ) (base : Persistent) (before : ℕ) (events : List Event) (bytes : List ℕ) (d : Persistent) (many gate : ℕ) →
    HasEvents plant digest base before events bytes → IsState (kind_of bytes) → IsKeptState digest bytes d many gate → IsSoundPersistent plant d →
    Kept base d before many gate events bytes
kept_log plant digest base before events bytes d many gate has state kept sound =
    let generation = generation_of_kind (kind_of bytes) state in
    let mine = read_front digest bytes generation.0 many gate d kept generation.1 plant sound in
    let inside = kept.gate in
    let same = same_front plant digest (version_of bytes) has.2.version d base many before (take gate bytes) has.2.front (drop gate bytes) (spelled (records_of has.2.version has.2.front has.0) ++ has.2.log.gate ∷ has.2.log.tail)
    (inr (generation.0, mine)) has.2.course.is_front (take-append-drop gate bytes ∙ has.2.log.is) in
    record {
      base_is = sym same.from_same;
      before_is = sym same.before_same;
      log = log_behind plant digest base before events bytes has gate (sym (length-take-le gate bytes (omega (arith, inside))) ∙ ap length same.front_same);
    }

-- ---- the text of a state

-- before a sum, where there is one
text_parts : (on : Bool) (l text sum : List ℕ) (size gate : ℕ) → length sum ≡ 8 → length (take size (drop (cond on 73 65) l)) ≡ size →
    take size (drop (cond on 73 65) l) ≡ cond on (text ++ sum) text → gate ≡ cond on 73 65 + size →
    (cond on (gate - 81) (gate - 65) ≡ length text) × (take (length text) (drop (cond on 73 65) l) ≡ text)
text_parts true l text sum size gate eight long is behind =
    let all : size ≡ length text + 8 = sym long ∙ ap length is ∙ length-append text sum ∙ ap (λ n. length text + n) eight in (
      omega (arith, all, behind),
      sym (take-take (length text) size (drop 73 l) (omega (arith, all))) ∙ ap (take (length text)) is ∙ take_at text sum (length text) refl,
    )
text_parts false l text sum size gate eight long is behind =
    let all : size ≡ length text = sym long ∙ ap length is in
    (omega (arith, all, behind), ap (λ n. take n (drop 65 l)) (sym all) ∙ is)

inside_of : (on : Bool) (size gate end : ℕ) → gate ≡ cond on 73 65 + size → gate < end → cond on 73 65 + cond on (gate - 81) (gate - 65) ≤ end
inside_of true size gate end behind inside = omega (arith, behind, inside)
inside_of false size gate end behind inside = omega (arith, behind, inside)

pub text_at : (p q m n : ℕ) (text bytes : List ℕ) → p ≡ q → m ≡ n → HasText q n text bytes → HasText p m text bytes
text_at p q m n text bytes here many has =
    subst (λ x. HasText x m text bytes) (sym here) (subst (λ y. HasText q y text bytes) (sym many) has)

pub inside_at : (p q m n end : ℕ) → p ≡ q → m ≡ n → q + n ≤ end → p + m ≤ end
inside_at p q m n end here many inside = subst (λ x. x + m ≤ end) (sym here) (subst (λ y. q + y ≤ end) (sym many) inside)

module _ (digest bytes : List ℕ) (d : Persistent) (many gate : ℕ) (kept : IsKeptState digest bytes d many gate) where
  -- it is behind a head
  pub gate_far : 64 ≤ gate
  gate_far = let behind = kept.behind in let far = behind_head (version_of bytes) (size_of bytes) (gate + 1) (omega (arith, behind)) in omega (arith, far)

  pub text_inside : text_place (version_of bytes) + text_size (version_of bytes) gate ≤ length bytes
  text_inside = inside_of (has_sums (version_of bytes)) (size_of bytes) gate (length bytes) kept.behind kept.gate

  pub text_there : (version_of bytes ≡ 1 → ⊥) → HasText (text_place (version_of bytes)) (text_size (version_of bytes) gate) ((state 2).text d) bytes
  text_there other =
      let version : ℕ = version_of bytes in
      let place : ℕ = text_place version in
      let known = kept.known in
      let behind = kept.behind in
      let inside = kept.gate in
      let text : List ℕ = (state 2).text d in
      let late : state version ≡ state 2 = later version (⊎_elim (λ below. absurd (other (omega (arith, below, known.0)))) (λ up. up) (cases_lt version 2)) in
      let is : text_of bytes ≡ sealed version (seed_of bytes) 65 text = kept.spells.is ∙ ap (λ (s : Field Persistent). sealed version (seed_of bytes) 65 (s.text d)) late in
      let long : length (text_of bytes) ≡ size_of bytes = omega (arith, behind, inside, length-take (size_of bytes) (drop place bytes), length-drop place bytes) in
      let parts = text_parts (has_sums version) bytes text (sum_of (seed_of bytes) 65 text) (size_of bytes) gate (length-sum_of (seed_of bytes) 65 text) long is behind in
      record { size_is = parts.0; is = parts.1 }

pub written_text : (digest bytes : List ℕ) (before : ℕ) (d : Persistent) (gate : ℕ) (window : Window) → length digest ≡ 32 → before ≤ last_number → (state 2).fits d ≡ true →
    IsWritten digest 0 before d gate bytes window →
    HasText (text_place newest_version) (text_size newest_version gate) ((state 2).text d) bytes × (text_place newest_version + text_size newest_version gate ≤ length bytes)
written_text digest bytes before d gate window len few fits written =
    let kept = written_kept digest bytes 0 before d len written.is (omega arith) few fits gate written.gate in
    let version : version_of bytes ≡ newest_version = ap version_of written.is in (
      subst (λ v. HasText (text_place v) (text_size v gate) ((state 2).text d) bytes) version (text_there digest bytes d before gate kept (λ one. let bad = sym version ∙ one in omega (arith, bad))),
      subst (λ v. text_place v + text_size v gate ≤ length bytes) version (text_inside digest bytes d before gate kept),
    )

-- A pair that stands for something is refused for nothing that it holds.
use Rattle.std.proofs.Common.{◌≡◌, ◌⊎◌, inl, inr, ℕ, ◌+◌, ◌≤◌, List, [], ◌∷◌, ◌++◌, length, refl, sym, ap, subst, ◌∙◌, length-append, arith}
use Rattle.std.proofs.lemmas.List.{take_at}
use Rattle.boss_pair_find.specs.declared.refusal.DurableRefusal.{DurableRefusal}
use Rattle.boss_pair_find.specs.declared.refusal.DurableRefusal.TheVariants.{NotAJournal, Version, Catalogue, Damaged, DiskFault, NoMemory}
use Rattle.boss_pair_find.specs.Holds.{OfOneInForce}
use Rattle.boss_pair_find.specs.Refusals.{FindRefuses, IsOfBytes}
use Rattle.boss_pair_find.proofs.Apart.{kept_refused, one_reason}
use Rattle.def_log.specs.declared.kind.DiskKind.{DiskKind}
use Rattle.def_log.specs.declared.kind.DiskKind.TheVariants.{Plain}
use Rattle.def_log.specs.InForce.{InForce, Foreign, Neither, First, Second}
use Rattle.def_log.specs.Kinds.{in_force, kind_of, plain_mark}
use Rattle.def_log.specs.Log.{spelled}
use Rattle.boss_model.specs.declared.event.Event.{Event}
use Rattle.boss_model.specs.declared.state.Actuator.{Actuator}
use Rattle.boss_model.specs.Run.{replay_all}
use Rattle.boss_model.specs.Settle.{opened}
use Rattle.boss_model.specs.Sound.{IsSoundPersistent}
use Rattle.boss_model.specs.State.{Persistent, State, first_persistent}
use Rattle.boss_opening.specs.Opens.{IsUnsound, OpenedAt, OpenRefuses}
use Rattle.def_disk_pair.specs.Contents.{records_of}
use Rattle.def_disk_pair.specs.Damage.{IsDamagedAt}
use Rattle.def_disk_pair.specs.Fronts.{heading, IsFront, IsPlainFront, IsStateFront}
use Rattle.def_disk_pair.specs.Pairs.{DamagedAt, HasEvents, IsNew, OfPair, OfThatInForce, StandsFor}
use Rattle.def_disk_pair.proofs.Disks.{damaged_at_one, of_that, stands_for_one, stands_or_damaged}
use Rattle.def_disk_pair.proofs.OfKinds.{plain_front}
use Rattle.def_disk_pair.proofs.Replays.{some-is}
use Rattle.boss_snapshot.specs.declared.refusal.SnapshotRefusal.TheVariants as reading
use Rattle.boss_snapshot.specs.Fronts.{version_of, digest_of, size_of, text_place}
use Rattle.def_log.specs.Versions.{IsKnown}
use Rattle.boss_snapshot.specs.Refusals.{IsKeptState, IsState, Refuses}
use Rattle.boss_snapshot.proofs.Again.{kept_alone, kept_taken}
use Rattle.boss_snapshot.proofs.Fronted.{version_is, digest_is, kept_there}
use Rattle.boss_disk_pair.specs.Rests.{counted}

-- ---- a front with something behind it

-- what a heading tells, whatever stands behind it
pub record TellsHeading (digest bytes : List ℕ) (version : ℕ) : Type 0 where
  pub version_is : version_of bytes ≡ version
  pub digest_is : digest_of bytes ≡ digest

plain_tells : (digest bytes rest : List ℕ) (first version : ℕ) → length digest ≡ 32 → bytes ≡ heading first plain_mark version digest ++ rest → TellsHeading digest bytes version
plain_tells digest bytes rest first version len is =
    let whole : bytes ≡ first ∷ (plain_mark ++ version ∷ (digest ++ rest)) = is in
    record {
      version_is = ap version_of whole;
      digest_is = ap digest_of whole ∙ take_at digest rest 32 len;
    }

-- ---- a disk that has a front of this catalogue, and at least a gate behind it

some_left : (l : List ℕ) → 1 ≤ length l → (x : ℕ) × (rest : List ℕ) × (l ≡ x ∷ rest)
some_left [] long = absurd (omega (arith, long))
some_left (x ∷ rest) long = (x, rest, refl)

no_plain_state : (kind : DiskKind) → kind ≡ Plain → IsState kind → ⊥
no_plain_state kind plain state = let bad : ⊥ = subst IsState plain state in bad

module _ (plant : List Actuator) (digest : List ℕ) (len : length digest ≡ 32) where
  pub record HasFront (bytes : List ℕ) : Type 0 where
    pub version : ℕ
    pub from : Persistent
    pub before : ℕ
    pub front : List ℕ
    pub rest : List ℕ
    pub is_front : IsFront plant digest version from before front
    pub is : bytes ≡ front ++ rest
    pub some : 1 ≤ length rest

  front_of_events : (from : Persistent) (before : ℕ) (events : List Event) (bytes : List ℕ) → HasEvents plant digest from before events bytes → HasFront bytes
  front_of_events from before events bytes has =
      let held = has.2 in
      record {
        version = held.version;
        from = from;
        before = before;
        front = held.front;
        rest = spelled (records_of held.version held.front has.0) ++ held.log.gate ∷ held.log.tail;
        is_front = held.course.is_front;
        is = held.log.is;
        some = omega (arith, length-append (spelled (records_of held.version held.front has.0)) (held.log.gate ∷ held.log.tail));
      }

  front_of_damage : (place : ℕ) (bytes : List ℕ) → IsDamagedAt plant digest place bytes → HasFront bytes
  front_of_damage place bytes damaged = record {
    version = damaged.version;
    from = damaged.from;
    before = damaged.before;
    front = damaged.front;
    rest = spelled (records_of damaged.version damaged.front damaged.batches) ++ 1 ∷ damaged.tail;
    is_front = damaged.course.is_front;
    is = damaged.is;
    some = omega (arith, length-append (spelled (records_of damaged.version damaged.front damaged.batches)) (1 ∷ damaged.tail));
  }

  tells_known : (version : ℕ) (from : Persistent) (before : ℕ) (front rest bytes : List ℕ) → IsFront plant digest version from before front → bytes ≡ front ++ rest →
      TellsHeading digest bytes version × IsKnown version
  tells_known version from before front rest bytes (inl plain) is =
      (plain_tells digest bytes rest plain.first version len (is ∙ ap (λ f. f ++ rest) plain.is), plain.known)
  tells_known version from before front rest bytes (inr kept) is =
      let state = kept.1 in
      let whole = is ∙ ap (λ f. f ++ rest) state.is in (
        record {
          version_is = version_is digest bytes rest state.first version kept.0 before from len whole;
          digest_is = digest_is digest bytes rest state.first version kept.0 before from len whole;
        },
        state.known,
      )

  module _ (bytes : List ℕ) (has : HasFront bytes) where
    tells : TellsHeading digest bytes has.version × IsKnown has.version
    tells = tells_known has.version has.from has.before has.front has.rest bytes has.is_front has.is

    no_version : (found : ℕ) → Refuses digest bytes (reading.Version found) → ⊥
    no_version found why = why.1 (subst IsKnown (sym (why.0 ∙ tells.0.version_is)) tells.1)

    no_catalogue : (kept found : List ℕ) → Refuses digest bytes (reading.Catalogue kept found) → ⊥
    no_catalogue kept found why = why.3 (why.1 ∙ tells.0.digest_is)

  plain_no_state : (version : ℕ) (from : Persistent) (before : ℕ) (front rest bytes : List ℕ) → IsPlainFront digest version from before front → bytes ≡ front ++ rest → 1 ≤ length rest →
      IsState (kind_of bytes) → ⊥
  plain_no_state version from before front rest bytes plain is some state =
      let left = some_left rest some in
      no_plain_state (kind_of bytes) (ap kind_of (is ∙ ap (λ r. front ++ r) left.2) ∙ plain_front digest len version from before front left.0 left.1 plain) state

  state_kept : (version generation : ℕ) (from : Persistent) (before : ℕ) (front rest bytes : List ℕ) → IsStateFront plant digest version generation from before front →
      bytes ≡ front ++ rest → 1 ≤ length rest → IsKeptState digest bytes from before (text_place (version_of bytes) + size_of bytes)
  state_kept version generation from before front rest bytes state is some =
      kept_there digest bytes rest state.first version generation before from len (is ∙ ap (λ f. f ++ rest) state.is) state.known state.counted state.few state.fits some

  -- a kept state that is there is damaged nowhere
  never_damaged : (bytes : List ℕ) (place : ℕ) → (reading.Damaged place ≡ reading.DiskFault) ⊎ (reading.Damaged place ≡ reading.NoMemory) → ⊥
  never_damaged bytes place (inl bad) = cc
  never_damaged bytes place (inr bad) = cc

  no_damage : (version : ℕ) (from : Persistent) (before : ℕ) (front rest bytes : List ℕ) (place : ℕ) → IsFront plant digest version from before front → bytes ≡ front ++ rest →
      1 ≤ length rest → IsState (kind_of bytes) → Refuses digest bytes (reading.Damaged place) → ⊥
  no_damage version from before front rest bytes place (inl plain) is some state why = plain_no_state version from before front rest bytes plain is some state
  no_damage version from before front rest bytes place (inr kept) is some state why =
      never_damaged bytes place (kept_taken digest bytes from before (text_place (version_of bytes) + size_of bytes) (state_kept version kept.0 from before front rest bytes kept.1 is some) (reading.Damaged place) why)

  no_unsound : (version : ℕ) (from : Persistent) (before : ℕ) (front rest bytes : List ℕ) (d : Persistent) (events place : ℕ) → IsFront plant digest version from before front →
      bytes ≡ front ++ rest → 1 ≤ length rest → IsState (kind_of bytes) → IsKeptState digest bytes d events place → (IsSoundPersistent plant d → ⊥) → ⊥
  no_unsound version from before front rest bytes d events place (inl plain) is some state told unsound = plain_no_state version from before front rest bytes plain is some state
  no_unsound version from before front rest bytes d events place (inr kept) is some state told unsound =
      let same = kept_alone digest bytes d events place told from before (text_place (version_of bytes) + size_of bytes) (state_kept version kept.0 from before front rest bytes kept.1 is some) in
      unsound (subst (IsSoundPersistent plant) (sym same.0) kept.1.sound)

  -- ---- a pair whose disk in force has such a front, or of which the first is new

  abbrev IsFronted : List ℕ → List ℕ → Type 0
  IsFronted first second = OfPair HasFront IsNew first second

  weaker : (P Q N M : List ℕ → Type 0) (i : InForce) (first second : List ℕ) → ((bytes : List ℕ) → P bytes → Q bytes) → ((bytes : List ℕ) → N bytes → M bytes) →
      OfThatInForce P N i first second → OfThatInForce Q M i first second
  weaker P Q N M Foreign first second one other p = absurd p
  weaker P Q N M Neither first second one other p = other first p
  weaker P Q N M First first second one other p = one first p
  weaker P Q N M Second first second one other p = one second p

  stands_fronted : (from : Persistent) (before : ℕ) (events : List Event) (first second : List ℕ) → StandsFor plant digest from before events first second → IsFronted first second
  stands_fronted from before events first second stands =
      weaker (HasEvents plant digest from before events) HasFront (λ bytes. IsNew bytes × (from ≡ first_persistent) × (before ≡ 0) × (events ≡ [])) IsNew
      (in_force (kind_of first) (kind_of second)) first second (front_of_events from before events) (λ bytes new. new.0) stands

  damaged_fronted : (place : ℕ) (first second : List ℕ) → DamagedAt plant digest place first second → IsFronted first second
  damaged_fronted place first second damaged =
      weaker (IsDamagedAt plant digest place) HasFront (λ bytes. ⊥) IsNew
      (in_force (kind_of first) (kind_of second)) first second (front_of_damage place) (λ bytes none. absurd none) damaged

  never_of : (P : List ℕ → Type 0) (first second : List ℕ) → ((bytes : List ℕ) → HasFront bytes → P bytes → ⊥) → IsFronted first second → OfOneInForce P first second → ⊥
  never_of P first second never fronted p =
      of_that HasFront P IsNew (λ bytes. ⊥) (in_force (kind_of first) (kind_of second)) first second never (λ bytes new none. none) fronted p

  not_foreign : (i : InForce) (first second : List ℕ) → i ≡ Foreign → OfThatInForce HasFront IsNew i first second → ⊥
  not_foreign i first second foreign p = let none : ⊥ = subst (λ j. OfThatInForce HasFront IsNew j first second) foreign p in none

  new_first : (i : InForce) (first second : List ℕ) → i ≡ Neither → OfThatInForce HasFront IsNew i first second → IsNew first
  new_first i first second neither p = let new : IsNew first = subst (λ j. OfThatInForce HasFront IsNew j first second) neither p in new

  fronted_found : (first second : List ℕ) → IsFronted first second → (why : DurableRefusal) → IsOfBytes why → FindRefuses digest first second why → ⊥
  fronted_found first second fronted NotAJournal some (inl foreign) = not_foreign (in_force (kind_of first) (kind_of second)) first second foreign fronted
  fronted_found first second fronted NotAJournal some (inr none) = none.1 (new_first (in_force (kind_of first) (kind_of second)) first second none.0 fronted)
  fronted_found first second fronted (Version found) some why =
      never_of (λ bytes. Refuses digest bytes (reading.Version found)) first second (λ bytes has. no_version bytes has found) fronted why
  fronted_found first second fronted (Catalogue kept found) some why =
      never_of (λ bytes. Refuses digest bytes (reading.Catalogue kept found)) first second (λ bytes has. no_catalogue bytes has kept found) fronted why
  fronted_found first second fronted (Damaged place) some why =
      never_of (λ bytes. IsState (kind_of bytes) × Refuses digest bytes (reading.Damaged place)) first second
      (λ bytes has told. no_damage has.version has.from has.before has.front has.rest bytes place has.is_front has.is has.some told.0 told.1) fronted why
  fronted_found first second fronted DiskFault some why = absurd some
  fronted_found first second fronted NoMemory some why = absurd some

  fronted_unsound : (first second : List ℕ) → IsFronted first second → IsUnsound plant digest first second → ⊥
  fronted_unsound first second fronted (d, events, place, kept, unsound) =
      never_of (λ bytes. IsState (kind_of bytes) × IsKeptState digest bytes d events place) first second
      (λ bytes has told. no_unsound has.version has.from has.before has.front has.rest bytes d events place has.is_front has.is has.some told.0 told.1 unsound) fronted kept

  -- ---- what opens is not refused

  module _ (first second : List ℕ) where
    stands_not_refused : (from : Persistent) (before : ℕ) (events : List Event) → StandsFor plant digest from before events first second →
        (why : DurableRefusal) → IsOfBytes why → OpenRefuses plant digest first second why → ⊥
    stands_not_refused from before events stands NotAJournal some why =
        fronted_found first second (stands_fronted from before events first second stands) NotAJournal some why
    stands_not_refused from before events stands (Version found) some why =
        fronted_found first second (stands_fronted from before events first second stands) (Version found) some why
    stands_not_refused from before events stands (Catalogue kept found) some why =
        fronted_found first second (stands_fronted from before events first second stands) (Catalogue kept found) some why
    stands_not_refused from before events stands (Damaged place) some (inl why) =
        fronted_found first second (stands_fronted from before events first second stands) (Damaged place) some why
    stands_not_refused from before events stands (Damaged place) some (inr (inl why)) =
        fronted_unsound first second (stands_fronted from before events first second stands) why.1
    stands_not_refused from before events stands (Damaged place) some (inr (inr why)) =
        stands_or_damaged plant digest first second from before place events stands why
    stands_not_refused from before events stands DiskFault some why = absurd some
    stands_not_refused from before events stands NoMemory some why = absurd some

    pub opened_not_refused : (s : State) (number : ℕ) → OpenedAt plant digest first second s number → (why : DurableRefusal) → IsOfBytes why → OpenRefuses plant digest first second why → ⊥
    opened_not_refused s number at why some refused = stands_not_refused at.from at.before at.events at.stands why some refused

    -- ---- one reason

    damaged_not_found : (place : ℕ) → DamagedAt plant digest place first second → (why : DurableRefusal) → IsOfBytes why → FindRefuses digest first second why → ⊥
    damaged_not_found place damaged why some found = fronted_found first second (damaged_fronted place first second damaged) why some found

    never_found : (why : DurableRefusal) → IsOfBytes why → (why ≡ DiskFault) ⊎ (why ≡ NoMemory) → ⊥
    never_found why some (inl fault) = let none : ⊥ = subst IsOfBytes fault some in none
    never_found why some (inr memory) = let none : ⊥ = subst IsOfBytes memory some in none

    unsound_not_found : IsUnsound plant digest first second → (why : DurableRefusal) → IsOfBytes why → FindRefuses digest first second why → ⊥
    unsound_not_found (d, events, place, kept, unsound) why some found = never_found why some (kept_refused digest d events place first second why kept found)

    unsound_not_damaged : (place : ℕ) → IsUnsound plant digest first second → DamagedAt plant digest place first second → ⊥
    unsound_not_damaged place unsound damaged = fronted_unsound first second (damaged_fronted place first second damaged) unsound

    -- a refusal that is no damage is one of what was found
    found_or_damaged : (why : DurableRefusal) → IsOfBytes why → OpenRefuses plant digest first second why →
        FindRefuses digest first second why ⊎ ((place : ℕ) × (why ≡ Damaged place) × (((place ≡ 65) × IsUnsound plant digest first second) ⊎ DamagedAt plant digest place first second))
    found_or_damaged NotAJournal some why = inl why
    found_or_damaged (Version found) some why = inl why
    found_or_damaged (Catalogue kept found) some why = inl why
    found_or_damaged (Damaged place) some (inl why) = inl why
    found_or_damaged (Damaged place) some (inr why) = inr (place, refl, why)
    found_or_damaged DiskFault some why = absurd some
    found_or_damaged NoMemory some why = absurd some

    abbrev IsBehind : ℕ → Type 0
    IsBehind place = ((place ≡ 65) × IsUnsound plant digest first second) ⊎ DamagedAt plant digest place first second

    behind_not_found : (place : ℕ) → IsBehind place → (why : DurableRefusal) → IsOfBytes why → FindRefuses digest first second why → ⊥
    behind_not_found place (inl unsound) why some found = unsound_not_found unsound.1 why some found
    behind_not_found place (inr damaged) why some found = damaged_not_found place damaged why some found

    behind_one : (place other : ℕ) → IsBehind place → IsBehind other → place ≡ other
    behind_one place other (inl one) (inl two) = one.0 ∙ sym two.0
    behind_one place other (inl one) (inr two) = absurd (unsound_not_damaged other one.1 two)
    behind_one place other (inr one) (inl two) = absurd (unsound_not_damaged place two.1 one)
    behind_one place other (inr one) (inr two) = damaged_at_one plant digest first second place other one two

    pub one_refusal : (why other : DurableRefusal) → IsOfBytes why → IsOfBytes other → OpenRefuses plant digest first second why → OpenRefuses plant digest first second other → why ≡ other
    one_refusal why other here there one two = both (found_or_damaged why here one) (found_or_damaged other there two)
      where
        both : FindRefuses digest first second why ⊎ ((place : ℕ) × (why ≡ Damaged place) × IsBehind place) →
            FindRefuses digest first second other ⊎ ((place : ℕ) × (other ≡ Damaged place) × IsBehind place) → why ≡ other
        both (inl p) (inl q) = one_reason digest first second why other here there p q
        both (inl p) (inr q) = absurd (behind_not_found q.0 q.2 why here p)
        both (inr p) (inl q) = absurd (behind_not_found p.0 p.2 other there q)
        both (inr p) (inr q) = p.1 ∙ ap Damaged (behind_one p.0 q.0 p.2 q.2) ∙ sym q.1

-- ---- one engine

pub opened_one : (plant : List Actuator) (digest first second : List ℕ) (s other : State) (number many : ℕ) → OpenedAt plant digest first second s number →
    OpenedAt plant digest first second other many → (s ≡ other) × (number ≡ many)
opened_one plant digest first second s other number many p q =
    let same = stands_for_one plant digest first second p.from q.from p.before q.before p.events q.events p.stands q.stands in
    let lasting = some-is p.lasting q.lasting (sym p.leads ∙ ap (λ f. replay_all plant f p.events) same.0 ∙ ap (λ es. replay_all plant q.from es) same.2 ∙ q.leads) in (
      p.state_is ∙ ap (opened plant) lasting ∙ sym q.state_is,
      p.number_is ∙ ap (λ n. counted (n + length p.events)) same.1 ∙ ap (λ es. counted (q.before + length es)) same.2 ∙ sym q.number_is,
    )

-- A journal that is made on a pair that holds nothing that counts.
use Rattle.std.proofs.Common.{◌≡◌, ◌≢◌, ◌⊎◌, inl, inr, ⊎_elim, ℕ, ◌+◌, ◌≤◌, Bool, true, false, cond, List, [], ◌∷◌, ◌++◌, length, get_or, drop, refl, sym, ap, subst, ◌∙◌, length-append, arith}
use Rattle.std.specs.Prelude.{bytes_eq, nat_le, IsTrue, ◌↔◌}
use Rattle.std.proofs.lemmas.Bool.{cases_eq, cases_lt, le-leb}
use Rattle.std.proofs.lemmas.Bool.Decides.{nat_tests}
use Rattle.std.proofs.lemmas.Slice.Eq.{bytes_eq-Decides}
use Rattle.boss_disk.specs.declared.disk.Disk as disk
use Rattle.boss_disk.specs.Legs.{Legs, LeaveBoth}
use Rattle.boss_disk.specs.Runs.{Since}
use Rattle.boss_disk.specs.Story.{Story}
use Rattle.boss_disk.specs.Window.{Window, settled}
use Rattle.boss_disk.proofs.Legs.{images_beside_second}
use Rattle.boss_disk.proofs.Torn.{synced_image}
use Rattle.boss_pair_find.specs.Holds.{IsNewPair}
use Rattle.boss_pair_find.specs.Makes.{HasVersion}
use Rattle.boss_pair_find.specs.Two.{two}
use Rattle.boss_journal.specs.declared.journal.Journal.{Journal}
use Rattle.boss_journal.specs.Fronts.{journal_front, fresh_rest, IsFresh}
use Rattle.boss_journal.specs.Fronts as journals
use Rattle.boss_journal.specs.Opens.{Opens, WhileOpening}
use Rattle.def_log.specs.InForce.{Neither, First, Second}
use Rattle.def_log.specs.declared.kind.DiskKind.{DiskKind}
use Rattle.def_log.specs.declared.kind.DiskKind.TheVariants.{Idle, Plain, State, Other}
use Rattle.def_log.specs.Kinds.{kind_of, in_force, follows, plain_mark}
use Rattle.boss_model.specs.declared.state.Actuator.{Actuator}
use Rattle.boss_model.specs.State.{Persistent, first_persistent}
use Rattle.def_disk_pair.specs.Contents.{IsCourse, HoldsCleanly}
use Rattle.def_disk_pair.specs.Fronts.{heading}
use Rattle.def_log.specs.Versions.{newest_version, IsKnown}
use Rattle.def_seal.specs.Seals.{has_sums, seed_of}
use Rattle.def_disk_pair.specs.Pairs.{IsNew, OfThatInForce, OpensCleanly}
use Rattle.def_disk_pair.proofs.Disks.{shut_holds, opens_first}
use Rattle.def_disk_pair.proofs.OfKinds.{plain_front}
use Rattle.boss_disk_pair.specs.declared.two_disks.TwoDisks.{TwoDisks}
use Rattle.boss_disk_pair.specs.Rests.{Resting, rests}
use Rattle.boss_disk_pair.proofs.Findings.{idle_new, not_new}
use Rattle.boss_disk_pair.proofs.Generations.{idle_kind}

-- ---- both are idle

chosen : (b : Bool) → cond b Second First ≡ Neither → ⊥
chosen true is = cc
chosen false is = cc

pub both_idle : (one other : DiskKind) → in_force one other ≡ Neither → (one ≡ Idle) × (other ≡ Idle)
both_idle Idle Idle is = (refl, refl)
both_idle Idle Plain is = absurd cc
both_idle Idle (State h) is = absurd cc
both_idle Idle Other is = absurd cc
both_idle Plain Idle is = absurd cc
both_idle Plain Plain is = absurd cc
both_idle Plain (State h) is = absurd cc
both_idle Plain Other is = absurd cc
both_idle (State g) Idle is = absurd cc
both_idle (State g) Plain is = absurd cc
both_idle (State g) (State h) is = absurd (chosen (follows g h) is)
both_idle (State g) Other is = absurd cc
both_idle Other kind is = absurd cc

new_idle : (bytes : List ℕ) → IsNew bytes → kind_of bytes ≡ Idle
new_idle bytes (inl short) = idle_kind bytes (inl short)
new_idle bytes (inr zero) = idle_kind bytes (inr (record { rest = zero.0; is = zero.1 }))

-- an idle disk is new exactly where it has no more bytes than a new journal
pub new_test : (bytes : List ℕ) (size : ℕ) → kind_of bytes ≡ Idle → size ≡ length bytes → IsTrue (nat_le size 42) ↔ IsNew bytes
new_test bytes size idle is = (
  λ few.
      let short : length bytes ≤ 42 = grind (arith, nat_tests, few, is) in
      idle_new bytes idle short,
  λ new.
      le-leb _ _
      (⊎_elim (λ many. absurd (not_new bytes many new)) (λ few. subst (λ n. n ≤ 42) (sym is) few) (cases_lt 42 (length bytes))),
)

-- one that was not begun is new to the journal too
pub journal_new : (digest bytes : List ℕ) → IsNew bytes → journals.IsNew digest bytes
journal_new digest bytes (inl short) = inl short
journal_new digest bytes (inr zero) = inr (inl (record { rest = zero.0; is = zero.1; short = zero.2 }))

-- ---- what a crash leaves

module _ (plant : List Actuator) (digest : List ℕ) (whole : length digest ≡ 32) where
  abbrev StandsForNone : List ℕ → List ℕ → Type 0
  StandsForNone first second = OpensCleanly plant digest first_persistent 0 first second

  empty_course : (version first : ℕ) (front : List ℕ) → first ≢ 0 → IsKnown version → front ≡ heading first plain_mark version digest →
      IsCourse plant digest version front first_persistent 0 [] first_persistent
  empty_course version first front written known is = record {
    is_front = inl (record { first = first; written = written; known = known; is = is; first_state = refl; none_before = refl });
    each = tt;
    of_version = λ one. tt;
    leads = refl;
  }

  plain_is : (version first : ℕ) (front bytes tail : List ℕ) (gate : ℕ) → first ≢ 0 → IsKnown version → front ≡ heading first plain_mark version digest →
      bytes ≡ front ++ gate ∷ tail → kind_of bytes ≡ Plain
  plain_is version first front bytes tail gate written known shape is =
      ap kind_of is ∙ plain_front digest whole version first_persistent 0 front gate tail
      (record { first = first; written = written; known = known; is = shape; first_state = refl; none_before = refl })

  plain_first : (one other : DiskKind) → one ≡ Plain → other ≡ Idle → in_force one other ≡ First
  plain_first one other plain idle = ap (λ k. in_force k other) plain ∙ ap (in_force Plain) idle

  neither_opens : (d : Persistent) (count : ℕ) (first second : List ℕ) → in_force (kind_of first) (kind_of second) ≡ Neither → IsNew first → d ≡ first_persistent → count ≡ 0 →
      OpensCleanly plant digest d count first second
  neither_opens d count first second none new state zero =
      subst (λ i. OfThatInForce (HoldsCleanly plant digest d count) (λ b. IsNew b × (d ≡ first_persistent) × (count ≡ 0)) i first second) (sym none) (new, state, zero)

  idle_opens : (bytes second : List ℕ) → IsNew bytes → kind_of second ≡ Idle → StandsForNone bytes second
  idle_opens bytes second new idle =
      neither_opens first_persistent 0 bytes second (ap (λ k. in_force k (kind_of second)) (new_idle bytes new) ∙ ap (in_force Idle) idle) new refl refl

  bare_opens : (version first : ℕ) (bytes second : List ℕ) → first ≢ 0 → IsKnown version → bytes ≡ first ∷ fresh_rest version digest → kind_of second ≡ Idle →
      StandsForNone bytes second
  bare_opens version first bytes second written known is idle =
      let front = heading first plain_mark version digest in
      let shape : bytes ≡ front ++ 0 ∷ [] = is in
      opens_first plant digest bytes second first_persistent 0
      (plain_first (kind_of bytes) (kind_of second) (plain_is version first front bytes [] 0 written known refl shape) idle)
      (shut_holds plant digest front version 0 first_persistent [] first_persistent (empty_course version first front written known refl) bytes [] 0
      (λ no. omega (arith, no)) (inl refl) shape)

  new_opens : (bytes second : List ℕ) → journals.IsNew digest bytes → kind_of second ≡ Idle → StandsForNone bytes second
  new_opens bytes second (inl short) idle = idle_opens bytes second (inl short) idle
  new_opens bytes second (inr (inl begun)) idle = idle_opens bytes second (inr (begun.rest, begun.is, begun.short)) idle
  new_opens bytes second (inr (inr (version, fresh))) idle =
      ⊎_elim
      (λ zero.
      let is : bytes ≡ 0 ∷ fresh_rest version digest = fresh.is ∙ ap (λ b. b ∷ fresh_rest version digest) zero in
      let size : length bytes ≡ length (0 ∷ fresh_rest version digest) = ap length is in
      let digits = length-append digest (0 ∷ []) in
      idle_opens bytes second (inr (fresh_rest version digest, is, omega (arith, size, digits, whole))) idle)
      (λ written. bare_opens version fresh.first bytes second written fresh.known fresh.is idle)
      (cases_eq fresh.first 0)

  making_leaves : (first second bytes : List ℕ) (window : Window) → window ≡ settled first → IsNewPair first second → WhileOpening digest first window bytes →
      StandsForNone bytes second
  making_leaves first second bytes window synced new (inl image) =
      subst (λ b. StandsForNone b second) (sym (synced_image window first bytes synced image))
      (idle_opens first second new.1 (both_idle (kind_of first) (kind_of second) new.0).1)
  making_leaves first second bytes window synced new (inr made) = new_opens bytes second made.1 (both_idle (kind_of first) (kind_of second) new.0).1

  pub making_legs : (first second : List ℕ) (one made other : Story) → one.window ≡ settled first → other.window ≡ settled second → IsNewPair first second →
      Since (WhileOpening digest first one.window) one made → Legs (LeaveBoth StandsForNone) (two one other) (two made other)
  making_legs first second one made other synced too new run =
      images_beside_second StandsForNone (WhileOpening digest first one.window) one made other
      (λ a b left image. subst (StandsForNone a) (sym (synced_image other.window second b too image)) (making_leaves first second a one.window synced new left)) run

  -- ---- at rest

  pub made_rests : (version place : ℕ) (seed first second reads : List ℕ) (window beside : Window) → IsKnown version →
      (has_sums version ≡ true → seed ≡ seed_of (journal_front version digest)) → Opens digest first version place reads window →
      IsNewPair first second → beside ≡ settled second → Resting plant digest seed version false 0 0 place reads window second beside false first_persistent 0
  made_rests version place seed first second reads window beside known seeded (inl found) new synced = absurd (found.0.not_new (journal_new digest first new.1))
  made_rests version place seed first second reads window beside known seeded (inr made) new synced =
      let plain = plain_is version 66 (journal_front version digest) reads made.rests.tail 0 (λ no. omega (arith, no)) known refl made.rests.is in
      let idle = (both_idle (kind_of first) (kind_of second) new.0).1 in
      record {
        front = journal_front version digest;
        from = first_persistent;
        before = 0;
        batches = [];
        course = empty_course version 66 (journal_front version digest) (λ no. omega (arith, no)) known refl;
        seeded = seeded;
        log = made.rests;
        synced = synced;
        going = refl;
        whole = whole;
        kind = inl plain;
        is_in_force = plain_first (kind_of reads) (kind_of second) plain idle;
        events = refl;
        counts = refl;
      }

-- ---- the version

same_or_not : (a b : List ℕ) → (a ≡ b) ⊎ (a ≡ b → ⊥)
same_or_not a b = by (bytes_eq a b) refl
  where
    by : (t : Bool) → bytes_eq a b ≡ t → (a ≡ b) ⊎ (a ≡ b → ⊥)
    by true is = inl ((bytes_eq-Decides a b).0 is)
    by false is = inr (λ same. let bad : true ≡ false = sym ((bytes_eq-Decides a b).1 same) ∙ is in cc)

fresh_by : (version : ℕ) (digest bytes : List ℕ) → IsKnown version → drop 1 bytes ≡ fresh_rest version digest → IsFresh version digest bytes
fresh_by version digest [] known same = absurd cc
fresh_by version digest (x ∷ bytes) known same = record { known = known; first = x; is = ap (λ rest. x ∷ rest) same }

rest_of : (version : ℕ) (digest bytes : List ℕ) → IsFresh version digest bytes → drop 1 bytes ≡ fresh_rest version digest
rest_of version digest bytes fresh = ap (drop 1) fresh.is

-- byte 8 is its version
version_there : (v : ℕ) (digest bytes : List ℕ) → IsFresh v digest bytes → v ≡ get_or bytes 8 0
version_there v digest bytes fresh = sym (ap (λ b. get_or b 8 0) fresh.is)

known_or_not : (version : ℕ) → IsKnown version ⊎ (IsKnown version → ⊥)
known_or_not version =
    ⊎_elim (λ none. inr (λ known. omega (arith, none, known.0)))
    (λ some. ⊎_elim (λ past. inr (λ known. omega (arith, past, known.1))) (λ within. inl (some, within)) (cases_lt newest_version version)) (cases_lt version 1)

fresh_or_not : (digest bytes : List ℕ) → ((v : ℕ) × IsFresh v digest bytes) ⊎ ((v : ℕ) → IsFresh v digest bytes → ⊥)
fresh_or_not digest bytes =
    let here : ℕ = get_or bytes 8 0 in
    ⊎_elim
    (λ known. ⊎_elim (λ same. inl (here, fresh_by here digest bytes known same))
    (λ other. inr (λ v fresh. other (rest_of v digest bytes fresh ∙ ap (λ w. fresh_rest w digest) (version_there v digest bytes fresh))))
    (same_or_not (drop 1 bytes) (fresh_rest here digest)))
    (λ unknown. inr (λ v fresh. unknown (subst IsKnown (version_there v digest bytes fresh) fresh.known)))
    (known_or_not here)

pub has_version : (digest first reads : List ℕ) (version place : ℕ) (window : Window) → IsNew first → Opens digest first version place reads window →
    HasVersion digest first version
has_version digest first reads version place window new (inl found) = absurd (found.0.not_new (journal_new digest first new))
has_version digest first reads version place window new (inr made) = record { kept = made.kept; newest = made.newest }

pub opened_place : (digest first reads : List ℕ) (version place : ℕ) (window : Window) → length digest ≡ 32 → IsNew first → Opens digest first version place reads window →
    place ≡ 41
opened_place digest first reads version place window whole new (inl found) = absurd (found.0.not_new (journal_new digest first new))
opened_place digest first reads version place window whole new (inr made) = let here = made.rests.here in omega (arith, here, whole, length-append digest [])

pub version_known : (digest first : List ℕ) (version : ℕ) → HasVersion digest first version → IsKnown version
version_known digest first version of =
    ⊎_elim (λ (fresh : (v : ℕ) × IsFresh v digest first). subst IsKnown (sym (of.kept fresh.0 fresh.1)) fresh.1.known) (λ none. let newest = of.newest none in (omega (arith, newest), omega (arith, newest)))
    (fresh_or_not digest first)

-- ---- the pair

module _ {D : Type 0} {g : disk.Ghosts D} (pair : TwoDisks D g) (journal : Journal D g) (spare : D) (order : pair.second ≡ false) (one : pair.journal ≡ journal)
    (other : pair.spare ≡ spare) where
  abbrev Rests : List Actuator → List ℕ → Bool → ℕ → ℕ → Bool → Journal D g → D → Type 0
  Rests plant digest second generation number stopped held beside =
      Resting plant digest pair.seed held.version second generation number held.place (g.reads held.disk) (g.story held.disk).window (g.reads beside) (g.story beside).window
      stopped first_persistent 0

  pub begun_rests : (plant : List Actuator) (digest : List ℕ) → pair.digest ≡ digest → pair.generation ≡ 0 → pair.events ≡ 0 → pair.stopped ≡ false →
      (g.tells → Rests plant digest false 0 0 false journal spare) → rests pair plant first_persistent 0
  unfolding rests
  begun_rests plant digest same generation events going at = λ told.
      subst (λ x. Rests plant x pair.second pair.generation pair.events pair.stopped pair.journal pair.spare) (sym same)
      (subst (λ x. Rests plant digest x pair.generation pair.events pair.stopped pair.journal pair.spare) (sym order)
      (subst (λ x. Rests plant digest false x pair.events pair.stopped pair.journal pair.spare) (sym generation)
      (subst (λ x. Rests plant digest false 0 x pair.stopped pair.journal pair.spare) (sym events)
      (subst (λ x. Rests plant digest false 0 0 x pair.journal pair.spare) (sym going)
      (subst (λ x. Rests plant digest false 0 0 false x pair.spare) (sym one)
      (subst (λ x. Rests plant digest false 0 0 false journal x) (sym other) (at told)))))))

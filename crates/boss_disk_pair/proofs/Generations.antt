-- What a kept state leaves that is written to the disk that is not in force.
use Rattle.std.proofs.Common.{◌≡◌, ◌≢◌, ◌⊎◌, inl, inr, ⊎_elim, ℕ, ◌+◌, ◌-◌, ◌^◌, ◌%◌, ◌<◌, ◌≤◌, ◌==◌, nat_le, ◌||◌, Bool, true, false, not, cond, List, [], ◌∷◌, ◌++◌, length, refl, sym, ap, ◌∙◌, subst, min, append-nil, length-append, arith}
use Rattle.std.proofs.lemmas.Bool.{le-leb}
use Rattle.std.proofs.lemmas.Bool.Decides.{nat_tests}
use Rattle.boss_model.specs.declared.state.Actuator.{Actuator}
use Rattle.boss_model.specs.Limits.{first_gate, last_number}
use Rattle.boss_model.specs.Sound.{IsSoundPersistent}
use Rattle.boss_model.specs.State.{Persistent}
use Rattle.def_bytes.specs.States.{state}
use Rattle.def_log.specs.declared.kind.DiskKind.{DiskKind}
use Rattle.def_log.specs.declared.kind.DiskKind.TheVariants.{Idle, Plain, State}
use Rattle.def_log.specs.InForce.{First, Second}
use Rattle.def_log.specs.Kinds.{kind_of, in_force}
use Rattle.boss_disk.specs.declared.disk.Disk as disk
use Rattle.boss_disk.specs.Legs.{Legs, LeaveBoth}
use Rattle.boss_disk.specs.Runs.{Since}
use Rattle.boss_disk.specs.Story.{Story}
use Rattle.boss_disk.specs.Window.{Window, IsImage}
use Rattle.boss_disk.proofs.Torn.{synced_image}
use Rattle.def_log.specs.Versions.{newest_version, IsKnown}
use Rattle.def_seal.specs.Seals.{has_sums, seed_of}
use Rattle.def_seal.proofs.Seals.{seed_of_rest}
use Rattle.def_disk_pair.specs.Contents.{HoldsCleanly}
use Rattle.def_disk_pair.specs.Fronts.{kept_head, IsStateFront}
use Rattle.def_disk_pair.specs.Pairs.{OpensCleanly}
use Rattle.def_disk_pair.proofs.Disks.{written_state, opens_first, opens_second}
use Rattle.def_disk_pair.proofs.OfKinds as kinds
use Rattle.boss_snapshot.proofs.Fronted.{front_seed}
use Rattle.boss_snapshot.proofs.KeptFronts.{written_front}
use Rattle.boss_snapshot.specs.Writes.{state_front, state_text, DiffersAtFirst, IsIdle, IsWritten, WhileWriting}
use Rattle.boss_disk_pair.specs.Images.{OpensEither, OpensTo}
use Rattle.boss_disk_pair.specs.Orders.{InOrder, stories_of}
use Rattle.boss_disk_pair.specs.Rests.{counted, forced, IsInForce, Resting}
use Rattle.boss_disk_pair.proofs.Forced.{between, beside_idle, next_in_force, opens_in, from_order}
use Rattle.boss_disk_pair.proofs.Appends.{rest_holds}
use Rattle.boss_disk_pair.proofs.Orders.{in_order, other_moves}

-- ---- what the disk that is written is while it is

short_kind : (bytes : List ℕ) → length bytes ≤ 1 → kind_of bytes ≡ Idle
short_kind bytes short = let few : nat_le (length bytes) 1 ≡ true = le-leb _ _ short in rw few refl

zero_kind : (rest : List ℕ) → kind_of (0 ∷ rest) ≡ Idle
zero_kind rest = by (nat_le (length (0 ∷ rest)) 1) _ refl
  where
    by : (few : Bool) (rest_kind : DiskKind) → few ≡ few → cond (few || true) Idle rest_kind ≡ Idle
    by true rest_kind same = refl
    by false rest_kind same = refl

pub idle_kind : (bytes : List ℕ) → IsIdle bytes → kind_of bytes ≡ Idle
idle_kind bytes (inl short) = short_kind bytes short
idle_kind bytes (inr zero) = ap kind_of zero.is ∙ zero_kind zero.rest

not_zero : (n : ℕ) → n ≢ 0 → (n == 0) ≡ false
not_zero n is = grind (arith, nat_tests)

same_rest : (old new : ℕ) (rest : List ℕ) → old ≢ 0 → new ≢ 0 → kind_of (new ∷ rest) ≡ kind_of (old ∷ rest)
same_rest old new rest was is = let one = not_zero old was in let two = not_zero new is in rw (one, two, seed_of_rest new old rest) refl

pub same_kind : (was bytes : List ℕ) → DiffersAtFirst was bytes → kind_of bytes ≡ kind_of was
same_kind was bytes p = ap kind_of p.now ∙ same_rest p.old p.new p.rest p.old_is p.new_is ∙ sym (ap kind_of p.before)

-- ---- what the pair opens to

module _ (plant : List Actuator) (digest : List ℕ) (whole : length digest ≡ 32) (d : Persistent) (events : ℕ) (few : events ≤ last_number)
    (fits : (state 2).fits d ≡ true) (sound : IsSoundPersistent plant d) where
  -- what is written is the front of a kept state
  is_front : (first generation : ℕ) → first ≢ 0 → generation < 2 ^ 64 → IsStateFront plant digest newest_version generation d events (state_front first digest generation events d)
  is_front first generation marked small = written_front plant digest generation events first d marked small few fits sound

  pub written_kind : (first generation : ℕ) (tail : List ℕ) → first ≢ 0 → generation < 2 ^ 64 →
      kind_of (state_front first digest generation events d ++ 0 ∷ tail) ≡ State generation
  written_kind first generation tail marked small =
      kinds.state_front plant digest whole newest_version generation d events (state_front first digest generation events d) 0 tail (is_front first generation marked small)

  -- the other disk is in force as soon as it is written
  other_opens : (second : Bool) (held bytes : List ℕ) (generation first : ℕ) → first ≢ 0 → generation < 2 ^ 64 →
      between second (kind_of held) (State generation) ≡ cond second First Second → bytes ≡ state_front first digest generation events d ++ 0 ∷ [] →
      InOrder (OpensTo plant digest d) second held bytes
  other_opens false held bytes generation first marked small force is = (
    events,
    subst (OpensCleanly plant digest d events held) (sym is)
        (opens_second plant digest held _ d events (ap (in_force (kind_of held)) (written_kind first generation [] marked small) ∙ force)
        (written_state plant digest _ newest_version generation events d (is_front first generation marked small))),
  )
  other_opens true held bytes generation first marked small force is = (
    events,
    subst (λ b. OpensCleanly plant digest d events b held) (sym is)
        (opens_first plant digest _ held d events (ap (λ k. in_force k (kind_of held)) (written_kind first generation [] marked small) ∙ force)
        (written_state plant digest _ newest_version generation events d (is_front first generation marked small))),
  )

  -- while it is written the one that was in force holds its own state, maybe of another plant
  pub writing_leaves : (old_plant : List Actuator) (old_digest : List ℕ) (old : Persistent) (second : Bool) (held was bytes : List ℕ) (generation count : ℕ) →
      (kind_of held ≡ Plain) ⊎ ((kind_of held ≡ State generation) × (generation < 2 ^ 64)) →
      between second (kind_of held) (kind_of was) ≡ forced second → HoldsCleanly old_plant old_digest old count held →
      WhileWriting was digest ((generation + 1) % 2 ^ 64) events d bytes → InOrder (OpensEither old_plant old_digest old plant digest d) second held bytes
  writing_leaves old_plant old_digest old second held was bytes generation count kind here holds (inl (inl idle)) =
      in_order _ (OpensEither old_plant old_digest old plant digest d) second held bytes (λ x y opens. inl (count, opens))
      (opens_in old_plant old_digest second held bytes old count
      (ap (between second (kind_of held)) (idle_kind bytes idle)
      ∙ beside_idle second (kind_of held) (kind_of was) (⊎_elim (λ plain. inl plain) (λ state. inr (generation, state.0)) kind) here)
      holds)
  writing_leaves old_plant old_digest old second held was bytes generation count kind here holds (inl (inr differs)) =
      in_order _ (OpensEither old_plant old_digest old plant digest d) second held bytes (λ x y opens. inl (count, opens))
      (opens_in old_plant old_digest second held bytes old count (ap (between second (kind_of held)) (same_kind was bytes differs) ∙ here) holds)
  writing_leaves old_plant old_digest old second held was bytes generation count kind here holds (inr written) =
      let small : (generation + 1) % 2 ^ 64 < 2 ^ 64 = omega arith in
      in_order (OpensTo plant digest d) (OpensEither old_plant old_digest old plant digest d) second held bytes (λ x y opens. inr opens)
      (other_opens second held bytes ((generation + 1) % 2 ^ 64) written.first written.marked small
      (next_in_force second (kind_of held) (kind_of was) generation kind here) written.is)

-- ---- a pair at rest, and the next generation, of the same plant or another

-- the disks turned round
turned : (second : Bool) (one other : List ℕ) → between second (kind_of one) (kind_of other) ≡ cond second First Second → InOrder (IsInForce (not second)) (not second) other one
turned false one other is = is
turned true one other is = is

pub turned_stories : (second : Bool) (one other : Story) → stories_of second one other ≡ stories_of (not second) other one
turned_stories false one other = refl
turned_stories true one other = refl

not_none : ◌≢◌ {A = ℕ} 66 0
not_none same = omega (arith, same)

no_more : (number : ℕ) → number ≤ last_number → number ≡ min (number + 0) last_number
no_more number few = omega (arith, few)

module _ (plant : List Actuator) (digest seed : List ℕ) (version : ℕ) (second : Bool) (generation number place : ℕ) (reads : List ℕ) (window : Window)
    (other : List ℕ) (beside : Window) (stopped : Bool) (d : Persistent) (count : ℕ)
    (rest : Resting plant digest seed version second generation number place reads window other beside stopped d count)
    (new_plant : List Actuator) (new_digest : List ℕ) (whole : length new_digest ≡ 32) (e : Persistent)
    (events : ℕ) (few : events ≤ last_number) (fits : (state 2).fits e ≡ true) (sound : IsSoundPersistent new_plant e) where
  pub changed_rests : (many : ℕ) → counted many ≡ events → (new_seed : List ℕ) →
      (has_sums newest_version ≡ true → new_seed ≡ seed_of (state_front 66 new_digest ((generation + 1) % 2 ^ 64) events e)) →
      (gate : ℕ) (now : List ℕ) (last : Window) → IsWritten new_digest ((generation + 1) % 2 ^ 64) events e gate now last →
      Resting new_plant new_digest new_seed newest_version (not second) ((generation + 1) % 2 ^ 64) events gate now last reads window stopped e many
  changed_rests many counts new_seed seeded gate now last written =
      let small : (generation + 1) % 2 ^ 64 < 2 ^ 64 = omega arith in
      let some : ◌≢◌ {A = ℕ} 66 0 = not_none in
      let none : events ≡ min (events + 0) last_number = no_more events few in
      let front = state_front 66 new_digest ((generation + 1) % 2 ^ 64) events e in
      let kind : kind_of now ≡ State ((generation + 1) % 2 ^ 64) =
      ap kind_of written.is ∙ written_kind new_plant new_digest whole e events few fits sound 66 ((generation + 1) % 2 ^ 64) [] some small in
      record {
        front = front;
        from = e;
        before = events;
        batches = [];
        course = record {
          is_front = inr ((generation + 1) % 2 ^ 64, is_front new_plant new_digest whole e events few fits sound 66 ((generation + 1) % 2 ^ 64) some small);
          each = tt;
          of_version = λ first. tt;
          leads = refl;
        };
        seeded = seeded;
        log = record { tail = []; is = written.is; here = written.gate ∙ ap length (sym (append-nil front)); each = tt; synced = written.synced };
        synced = rest.log.synced;
        going = rest.going;
        whole = whole;
        kind = inr (kind, small);
        is_in_force = turned second reads now (ap (between second (kind_of reads)) kind
            ∙ next_in_force second (kind_of reads) (kind_of other) generation rest.kind (from_order second reads other rest.is_in_force));
        events = none;
        counts = counts;
      }

  -- what is left while it is written
  pub changing_leaves : (a b : List ℕ) → IsImage window a → WhileWriting other new_digest ((generation + 1) % 2 ^ 64) events e b →
      InOrder (OpensEither plant digest d new_plant new_digest e) second a b
  changing_leaves a b image of =
      let here = synced_image window reads a rest.log.synced image in
      subst (λ x. InOrder (OpensEither plant digest d new_plant new_digest e) second x b) (sym here)
      (writing_leaves new_plant new_digest whole e events few fits sound plant digest d second reads other b generation _ rest.kind (from_order second reads other rest.is_in_force)
      (rest_holds plant digest rest.whole version rest.front rest.from rest.before rest.batches d reads rest.log.tail rest.course rest.log.is) of)

-- the same run, of the next generation and of this state
pub written_run : (was digest : List ℕ) (generation next events : ℕ) (d e : Persistent) (old new : Story) → next ≡ (generation + 1) % 2 ^ 64 → e ≡ d →
    Since (WhileWriting was digest next events e) old new → Since (WhileWriting was digest ((generation + 1) % 2 ^ 64) events d) old new
written_run was digest generation next events d e old new is same run =
    subst (λ n. Since (WhileWriting was digest n events d) old new) is (subst (λ x. Since (WhileWriting was digest next events x) old new) same run)

pub written_now : (digest : List ℕ) (generation next events place : ℕ) (d e : Persistent) (bytes : List ℕ) (window : Window) → next ≡ (generation + 1) % 2 ^ 64 → e ≡ d →
    IsWritten digest next events e place bytes window → IsWritten digest ((generation + 1) % 2 ^ 64) events d place bytes window
written_now digest generation next events place d e bytes window is same written =
    subst (λ n. IsWritten digest n events d place bytes window) is (subst (λ x. IsWritten digest next events x place bytes window) same written)

-- its first gate is on the disk
pub written_inside : (digest : List ℕ) (generation events place : ℕ) (d : Persistent) (bytes : List ℕ) (window : Window) →
    IsWritten digest generation events d place bytes window → place < length bytes
written_inside digest generation events place d bytes window written =
    let front = state_front 66 digest generation events d in
    let size : length bytes ≡ length front + 1 = ap length written.is ∙ length-append front (0 ∷ []) in
    let here = written.gate in omega (arith, here, size)

-- a seed that was taken of its head is that of its front
pub written_seed : (digest : List ℕ) (generation events place : ℕ) (d : Persistent) (bytes : List ℕ) (window : Window) → length digest ≡ 32 → generation < 2 ^ 64 →
    events ≤ last_number → (state 2).fits d ≡ true → IsWritten digest generation events d place bytes window → (seed : List ℕ) →
    (place ≢ first_gate → (first : ℕ) → seed ≡ seed_of (first ∷ kept_head newest_version digest generation events (place - 73))) →
    seed ≡ seed_of (state_front 66 digest generation events d)
unfolding state_text
written_seed digest generation events place d bytes window whole small few fits written seed given =
    let front : List ℕ = state_front 66 digest generation events d in
    let known : IsKnown newest_version = (omega arith, omega arith) in
    let told : (73 ≤ length front) × (seed_of front ≡ seed_of (0 ∷ kept_head newest_version digest generation events (length front - 73))) =
    front_seed digest front 66 newest_version generation events d whole refl known small few fits refl in
    let gate : place ≡ length front = written.gate in
    given (λ same. omega (arith, same, gate, told.0)) 0 ∙ ap (λ n. seed_of (0 ∷ kept_head newest_version digest generation events (n - 73))) gate ∙ sym told.1

-- ---- the disks exchanged

module _ {D : Type 0} (g : disk.Ghosts D) (plant : List Actuator) (digest seed : List ℕ) (number : ℕ) (stopped : Bool) (d : Persistent) (count : ℕ) where
  abbrev Rests : ℕ → Bool → ℕ → ℕ → D → D → Type 0
  Rests version second generation place one other =
      Resting plant digest seed version second generation number place (g.reads one) (g.story one).window (g.reads other) (g.story other).window stopped d count

  pub exchanged_rests : (v w : ℕ) (b c : Bool) (m n place gate : ℕ) (one other mine beside : D) → v ≡ w → b ≡ c → m ≡ n → place ≡ gate → one ≡ mine → other ≡ beside →
      Rests w c n gate mine beside → Rests v b m place one other
  exchanged_rests v w b c m n place gate one other mine beside versions orders generations places ones others rest =
      subst (λ x. Rests x b m place one other) (sym versions)
      (subst (λ x. Rests w x m place one other) (sym orders)
      (subst (λ x. Rests w c x place one other) (sym generations)
      (subst (λ x. Rests w c n x one other) (sym places)
      (subst (λ x. Rests w c n gate x other) (sym ones)
      (subst (λ x. Rests w c n gate mine x) (sym others) rest)))))

module _ {D : Type 0} (g : disk.Ghosts D) (P : List ℕ → List ℕ → Type 0) (Q : List ℕ → Type 0) where
  pub other_passes : (second b : Bool) (active spare written one other : D) → b ≡ not second → one ≡ written → other ≡ active →
      ((x y : List ℕ) → IsImage (g.story active).window x → Q y → InOrder P second x y) → Since Q (g.story spare) (g.story written) →
      Legs (LeaveBoth P) (stories_of second (g.story active) (g.story spare)) (stories_of b (g.story one) (g.story other))
  other_passes second b active spare written one other orders ones others gives run =
      subst (λ x. Legs (LeaveBoth P) (stories_of second (g.story active) (g.story spare)) (stories_of x (g.story one) (g.story other))) (sym orders)
      (subst (λ x. Legs (LeaveBoth P) (stories_of second (g.story active) (g.story spare)) (stories_of (not second) (g.story x) (g.story other))) (sym ones)
      (subst (λ x. Legs (LeaveBoth P) (stories_of second (g.story active) (g.story spare)) (stories_of (not second) (g.story written) (g.story x))) (sym others)
      (subst (λ two. Legs (LeaveBoth P) (stories_of second (g.story active) (g.story spare)) two) (turned_stories second (g.story active) (g.story written))
      (other_moves P Q second (g.story active) (g.story spare) (g.story written) gives run))))

-- Where the log of a pair begins.
use Rattle.std.proofs.Common.{◌≡◌, ◌≢◌, inl, inr, ℕ, ◌+◌, ◌-◌, ◌^◌, ◌<◌, ◌≤◌, min, Bool, true, List, [], ◌∷◌, ◌++◌, length, take, drop, refl, sym, ap, subst, ◌∙◌, append-nil, length-drop, arith}
use Rattle.std.proofs.lemmas.List.{length-take-le, take-append-drop}
use Rattle.def_log.specs.declared.kind.DiskKind.TheVariants.{Plain, State}
use Rattle.def_log.specs.Kinds.{plain_mark, kind_of}
use Rattle.def_disk_pair.specs.Fronts.{heading, kept_head}
use Rattle.boss_model.specs.declared.state.Actuator.{Actuator}
use Rattle.boss_model.specs.Limits.{first_gate, last_number}
use Rattle.boss_model.specs.Sound.{IsSoundPersistent}
use Rattle.boss_model.specs.State.{Persistent, first_persistent}
use Rattle.boss_journal.specs.Places.{IsAt}
use Rattle.def_seal.specs.Seals.{has_sums, seed_of}
use Rattle.boss_snapshot.specs.Fronts.{version_of, digest_of, size_of, text_place}
use Rattle.def_log.specs.Versions.{IsKnown}
use Rattle.boss_snapshot.specs.Refusals.{IsKeptState}
use Rattle.boss_snapshot.proofs.Fronted.{front_seed}
use Rattle.boss_snapshot.proofs.OfFronts.{behind_head}
use Rattle.boss_snapshot.proofs.KeptFronts.{read_front}
use Rattle.boss_disk_pair.specs.Orders.{InOrder}
use Rattle.boss_disk_pair.specs.Reads.{AtGate}
use Rattle.boss_disk_pair.specs.Rests.{IsInForce}
use Rattle.boss_disk_pair.proofs.Findings.{plain_front, plain_long}

some_left : (l : List ℕ) → 1 ≤ length l → (x : ℕ) × (rest : List ℕ) × (l ≡ x ∷ rest)
some_left [] long = absurd (omega (arith, long))
some_left (x ∷ rest) long = (x, rest, refl)

at_gate : (bytes : List ℕ) (place : ℕ) → place < length bytes → IsAt (take place bytes) [] place bytes
at_gate bytes place inside =
    let left = some_left (drop place bytes) (omega (arith, inside, length-drop place bytes)) in
    record {
      gate = left.0;
      tail = left.1;
      is = sym (take-append-drop place bytes) ∙ ap (λ t. take place bytes ++ t) left.2;
      here = sym (length-take-le place bytes (omega (arith, inside))) ∙ ap length (sym (append-nil (take place bytes)));
      each = tt;
    }

-- a kept state's place is behind its head
past_head : (version size place : ℕ) → place ≡ text_place version + size → place ≢ first_gate
past_head version size place here same = let far = behind_head version size (place + 1) (omega (arith, here)) in omega (arith, far, same)

-- what was taken of a version and a place, of those that are meant
pub kept_seeded : (digest seed : List ℕ) (v w place gate generation events : ℕ) → v ≡ w → place ≡ gate →
    (place ≢ first_gate → (first : ℕ) → seed ≡ seed_of (first ∷ kept_head v digest generation events (place - 73))) →
    gate ≢ first_gate → (first : ℕ) → seed ≡ seed_of (first ∷ kept_head w digest generation events (gate - 73))
kept_seeded digest seed v w place gate generation events versions places given =
    subst (λ x. gate ≢ first_gate → (first : ℕ) → seed ≡ seed_of (first ∷ kept_head x digest generation events (gate - 73))) versions
    (subst (λ p. p ≢ first_gate → (first : ℕ) → seed ≡ seed_of (first ∷ kept_head v digest generation events (p - 73))) places given)

pub plain_seeded : (digest seed : List ℕ) (v w place gate : ℕ) → v ≡ w → place ≡ gate →
    (place ≡ first_gate → (first : ℕ) → seed ≡ seed_of (heading first plain_mark v digest)) →
    gate ≡ first_gate → (first : ℕ) → seed ≡ seed_of (heading first plain_mark w digest)
plain_seeded digest seed v w place gate versions places given =
    subst (λ x. gate ≡ first_gate → (first : ℕ) → seed ≡ seed_of (heading first plain_mark x digest)) versions
    (subst (λ p. p ≡ first_gate → (first : ℕ) → seed ≡ seed_of (heading first plain_mark v digest)) places given)

all_counted : (number : ℕ) → number ≤ last_number → number ≡ min number last_number
all_counted number few = omega (arith, few)

module _ (plant : List Actuator) (digest seed : List ℕ) (whole : length digest ≡ 32) (second : Bool) (generation : ℕ) (reads other : List ℕ)
    (here : InOrder (IsInForce second) second reads other) where
  pub begins_kept : (v events place : ℕ) (d : Persistent) → v ≡ version_of reads → kind_of reads ≡ State generation → generation < 2 ^ 64 →
      (place ≢ first_gate → (first : ℕ) → seed ≡ seed_of (first ∷ kept_head v digest generation events (place - 73))) →
      IsKeptState digest reads d events place → IsSoundPersistent plant d → AtGate plant digest seed v second generation events reads other place d events [] d
  begins_kept v events place d kept_version kind small given kept sound =
      let front = read_front digest reads generation events place d kept kind plant sound in
      let inside = kept.gate in
      let long : length (take place reads) ≡ place = length-take-le place reads (omega (arith, inside)) in
      let seed_there : has_sums (version_of reads) ≡ true → seed ≡ seed_of (take place reads) = λ on.
      given (past_head (version_of reads) (size_of reads) place kept.behind) 0
      ∙ ap (λ x. seed_of (0 ∷ kept_head x digest generation events (place - 73))) kept_version
      ∙ ap (λ n. seed_of (0 ∷ kept_head (version_of reads) digest generation events (n - 73))) (sym long)
      ∙ sym (front_seed digest (take place reads) front.first (version_of reads) generation events d whole front.is front.known small kept.few front.fits on).1 in
      subst (λ x. AtGate plant digest seed x second generation events reads other place d events [] d) (sym kept_version)
      (record {
        coming = record {
          front = take place reads;
          batches = [];
          course = record { is_front = inr (generation, front); each = tt; of_version = λ first. tt; leads = refl };
          seeded = seed_there;
          are = refl;
          whole = whole;
          kind = inr (kind, small);
          is_in_force = here;
          counts = all_counted events kept.few;
        };
        at = at_gate reads place kept.gate;
      })

  pub begins_plain : (v events place : ℕ) → v ≡ version_of reads → kind_of reads ≡ Plain → IsKnown v → digest_of reads ≡ digest → place ≡ 41 →
      ((first : ℕ) → seed ≡ seed_of (heading first plain_mark v digest)) → events ≡ 0 →
      AtGate plant digest seed v second generation events reads other place first_persistent 0 [] first_persistent
  begins_plain v events place kept_version kind known same gate given none =
      let long = plain_long reads kind in
      let front = plain_front reads kind digest (subst IsKnown kept_version known) same in
      subst (λ x. AtGate plant digest seed x second generation events reads other place first_persistent 0 [] first_persistent) (sym kept_version)
      (subst (λ p. AtGate plant digest seed (version_of reads) second generation events reads other p first_persistent 0 [] first_persistent) (sym gate)
      (record {
        coming = record {
          front = take 41 reads;
          batches = [];
          course = record { is_front = inl front; each = tt; of_version = λ first. tt; leads = refl };
          seeded = λ on. given front.first ∙ ap (λ x. seed_of (heading front.first plain_mark x digest)) kept_version ∙ ap seed_of (sym front.is);
          are = refl;
          whole = whole;
          kind = inl kind;
          is_in_force = here;
          counts = none ∙ all_counted 0 (omega arith);
        };
        at = at_gate reads 41 (omega (arith, long));
      }))

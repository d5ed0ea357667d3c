-- What is known of the disk in force once its journal is at its first gate.
use Rattle.std.proofs.Common.{◌≡◌, ℕ, ◌<◌, ◌≤◌, min, Bool, false, List, length, sym, ap, subst, ◌∙◌, arith}
use Rattle.std.specs.Prelude.{slice_index}
use Rattle.boss_pair_find.specs.Holds.{IsPlain}
use Rattle.def_log.specs.declared.kind.DiskKind.TheVariants.{Plain, State}
use Rattle.def_log.specs.Kinds.{kind_of}
use Rattle.boss_model.specs.Limits.{last_number}
use Rattle.boss_model.specs.State.{Persistent}
use Rattle.boss_snapshot.specs.Fronts.{version_of, digest_of}
use Rattle.def_log.specs.Versions.{IsKnown}
use Rattle.boss_snapshot.specs.Refusals.{IsKeptState, IsState}
use Rattle.boss_snapshot.proofs.OfFronts.{long_state}
use Rattle.boss_disk_pair.specs.Orders.{InOrder}
use Rattle.boss_disk_pair.specs.Rests.{IsInForce}
use Rattle.boss_disk_pair.proofs.Findings.{plain_long}

-- the bytes as they were, and as they are
module _ (was now other : List ℕ) (version : ℕ) (same : now ≡ was) (first : 8 < length was → version ≡ slice_index was 8) where
  in_order_still : (second : Bool) → InOrder (IsInForce second) second was other → InOrder (IsInForce second) second now other
  in_order_still second here = subst (λ bytes. InOrder (IsInForce second) second bytes other) (sym same) here

  version_is : 42 ≤ length was → version ≡ version_of was
  version_is long = first (omega (arith, long))

  pub plain_stands : (digest : List ℕ) → IsInForce false was other → IsPlain digest was →
      IsInForce false now other × (kind_of now ≡ Plain) × (version ≡ version_of now) × IsKnown version × (digest_of now ≡ digest)
  plain_stands digest here plain =
      let of = version_is (plain_long was plain.0) in (
        in_order_still false here,
        ap kind_of same ∙ plain.0,
        of ∙ ap version_of (sym same),
        subst IsKnown (sym of) plain.1,
        ap digest_of same ∙ plain.2,
      )

  pub state_stands : (second : Bool) (generation : ℕ) → InOrder (IsInForce second) second was other → kind_of was ≡ State generation →
      InOrder (IsInForce second) second now other × (kind_of now ≡ State generation) × (version ≡ version_of now)
  state_stands second generation here kind =
      let long : 66 ≤ length was = long_state was (subst IsState (sym kind) tt) in (
        in_order_still second here,
        ap kind_of same ∙ kind,
        version_is (omega (arith, long)) ∙ ap version_of (sym same),
      )

-- the number of events is no more than it may be
few_events : (events counted : ℕ) → events ≤ last_number → counted ≡ min events last_number → counted ≡ events
few_events events counted few is = omega (arith, few, is)

pub kept_stands : (digest was now : List ℕ) (d : Persistent) (events place counted gate : ℕ) → now ≡ was → counted ≡ min events last_number → gate ≡ place →
    IsKeptState digest was d events place → IsKeptState digest now d counted gate
kept_stands digest was now d events place counted gate same number here kept =
    subst (λ bytes. IsKeptState digest bytes d counted gate) (sym same)
    (subst (λ n. IsKeptState digest was d n gate) (sym (few_events events counted kept.few number))
    (subst (λ p. IsKeptState digest was d events p) (sym here) kept))

pub state_of_kind : (bytes : List ℕ) (generation : ℕ) → kind_of bytes ≡ State generation → IsState (kind_of bytes)
state_of_kind bytes generation kind = subst IsState (sym kind) tt

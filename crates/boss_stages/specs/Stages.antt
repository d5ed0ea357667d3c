-- Source: BOSS (Dawson-Haggerty et al., NSDI 2013), transaction manager (states of a transaction: it runs, reverts,
-- is done); the list of the done own.
use Rattle.std.specs.Prelude.{ℕ, ◌-◌, ◌==◌, nat_lt, Bool, false, not, ◌&&◌, if◌then◌else◌, List, [], ◌∷◌, ◌++◌, length, map, filter, find, take, Option, Some, None, is_none, option_and_then, pos, ◌≤ℤ◌, unsigned_abs}
use Rattle.std.specs.List.{list_any}
use Rattle.std.specs.Option.{option_map_or}
use Rattle.circular_buffer.specs.Buffer.{keep_last}
use Rattle.boss_model.specs.Limits.{done_kept}
use Rattle.boss_model.specs.declared.command.Policy.{Policy}
use Rattle.boss_model.specs.declared.command.Setting.{Setting}
use Rattle.boss_model.specs.declared.notice.Cause.{Cause}
use Rattle.boss_model.specs.declared.notice.Stage.{Stage}
use Rattle.boss_model.specs.declared.notice.Stage.TheVariants as stage
use Rattle.boss_model.specs.Records.{End, Part, Transaction}
use Rattle.boss_stages.specs.declared.part.PartEnd.{PartEnd}
use Rattle.boss_stages.specs.declared.part.PartEnd.TheVariants.{NotInTxn, Live, Ended}

-- a transaction that is kept, and the points on which a reversion of it is pending, in the order in which they began
pub record Tracked : Type 0 where
  pub transaction : Transaction
  pub reverting : List ℕ

-- the transactions that are kept, in order of number; the numbers of the last ones that became done, in the order of
-- becoming done; and how many transactions there is room for
pub record Stages : Type 0 where
  pub kept : List Tracked
  pub done : List ℕ
  pub room : ℕ

-- ---- a transaction

abbrev pub number : Tracked → ℕ
number kept = kept.transaction.txn

abbrev pub is_live : Part → Bool
is_live part = is_none part.end

abbrev pub has_live : Tracked → Bool
has_live kept = list_any is_live kept.transaction.parts

abbrev pub has_pending : Tracked → Bool
has_pending kept = nat_lt 0 (length kept.reverting)

-- it runs while it has a live lease, and reverts while it has a pending reversion
abbrev pub stage_of : Tracked → Stage
stage_of kept = if has_live kept then stage.Run else (if has_pending kept then stage.Revert else stage.Done)

abbrev pub slot_of : Part → ℕ × ℕ
slot_of part = (part.point, part.priority)

-- how a part stands, if it is there
abbrev pub end_as : Option End → PartEnd
end_as None = Live
end_as (Some end) = Ended end.cause end.at

abbrev pub part_end : Option Part → PartEnd
part_end None = NotInTxn
part_end (Some part) = end_as part.end

abbrev pub part_on : ℕ → List Part → Option Part
part_on point parts = find (λ part. part.point == point) parts

-- ---- what changes a transaction

abbrev pub live_part : ℕ × ℕ → Part
live_part slot = record { point = slot.0; priority = slot.1; end = None }

-- a write at one of the sixteen levels of the priority array
abbrev pub HasLevel : Setting → Type 0
HasLevel write = (pos 1 ≤ℤ write.priority) × (write.priority ≤ℤ pos 16)

abbrev pub write_slot : Setting → ℕ × ℕ
write_slot write = (write.point, unsigned_abs write.priority)

abbrev pub begun : ℕ → ℕ → Policy → List (ℕ × ℕ) → Tracked
begun txn owner policy slots = record {
  transaction = record { txn = txn; owner = owner; policy = policy; parts = map live_part slots };
  reverting = [];
}

-- the lease of the part on the point ends so
abbrev pub ended_on : ℕ → End → Part → Part
ended_on point end part = if part.point == point then record part { end = Some end } else part

abbrev pub with_end : ℕ → Cause → ℕ → Bool → Tracked → Tracked
with_end point cause at reverts kept = record {
  transaction = record kept.transaction { parts = map (ended_on point (record { cause = cause; at = at })) kept.transaction.parts };
  reverting = if reverts then kept.reverting ++ point ∷ [] else kept.reverting;
}

-- the reversion on the point ends
abbrev pub without_reversion : ℕ → Tracked → Tracked
without_reversion point kept = record kept { reverting = filter (λ other. not (other == point)) kept.reverting }

-- ---- the transactions

abbrev pub kept_as : ℕ → List Tracked → Option Tracked
kept_as txn all = find (λ kept. number kept == txn) all

abbrev pub end_on : ℕ → ℕ → Stages → PartEnd
end_on txn point stages = part_end (option_and_then (λ kept. part_on point kept.transaction.parts) (kept_as txn stages.kept))

abbrev pub is_reverting : ℕ → ℕ → Stages → Bool
is_reverting txn point stages = option_map_or (λ kept. list_any (λ other. other == point) kept.reverting) (kept_as txn stages.kept) false

-- the transaction of this number changes so
abbrev pub changed : ℕ → (Tracked → Tracked) → List Tracked → List Tracked
changed txn change all = map (λ kept. if number kept == txn then change kept else kept) all

-- of the done ones that are kept, those that are before the last 1,024
abbrev pub dropped : List ℕ → List ℕ
dropped done = take (length done - done_kept) done

-- the transactions but for those of these numbers
abbrev pub without : List ℕ → List Tracked → List Tracked
without gone all = filter (λ kept. not (list_any (λ txn. txn == number kept) gone)) all

-- one more is done: at most 1,024 numbers are kept, the last ones, and the transactions of the others are gone
abbrev pub finished : ℕ → Stages → Stages
finished txn stages = record stages {
  kept = without (dropped (stages.done ++ txn ∷ [])) stages.kept;
  done = keep_last done_kept (stages.done ++ txn ∷ []);
}

-- a transaction with nothing left is done
abbrev pub is_over : Option Tracked → Bool
is_over None = false
is_over (Some kept) = not (has_live kept) && not (has_pending kept)

abbrev pub finished_if_over : ℕ → Stages → Stages
finished_if_over txn stages = if is_over (kept_as txn stages.kept) then finished txn stages else stages

abbrev pub after_lease : ℕ → ℕ → Cause → ℕ → Bool → Stages → Stages
after_lease txn point cause at reverts stages =
    finished_if_over txn (record stages { kept = changed txn (with_end point cause at reverts) stages.kept })

abbrev pub after_reversion : ℕ → ℕ → Stages → Stages
after_reversion txn point stages =
    finished_if_over txn (record stages { kept = changed txn (without_reversion point) stages.kept })

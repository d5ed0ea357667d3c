-- Source: own.
use Rattle.std.specs.Prelude.{ℕ, ◌+◌, ◌==◌, max, nat_lt, Bool, true, false, if◌then◌else◌, List, [], ◌∷◌, ◌++◌, map, filter, flat_map, Option, Some, None, slice_get, slice_set}
use Rattle.std.specs.List.{list_any}
use Rattle.boss_model.specs.declared.command.Step.{Step}
use Rattle.boss_model.specs.declared.notice.Cause.{Cause}
use Rattle.boss_model.specs.declared.notice.Cause.TheVariants as cause
use Rattle.boss_model.specs.declared.notice.What.{What}
use Rattle.boss_model.specs.declared.notice.What.TheVariants as what
use Rattle.boss_model.specs.Limits.{done_kept, notices_kept, last_number}
use Rattle.boss_model.specs.Lists.{keep_last, latest}
use Rattle.boss_model.specs.Order.{in_order}
use Rattle.boss_model.specs.Records.{Transaction}
use Rattle.boss_model.specs.Reversions.{turns, end_of}
use Rattle.boss_model.specs.State.{Pending, Process}

-- something that happens to a transaction at a moment, and what its owner is told of it, if anything
pub record Happening : Type 0 where
  pub at : ℕ
  pub txn : ℕ
  pub owner : ℕ
  pub told : Option What

-- ---- the order of what happens

abbrev pub sort_number : What → ℕ
sort_number (what.Fault point) = 1
sort_number (what.Ended point cause) = 2
sort_number (what.Reverted point) = 3
sort_number (what.Cut point by) = 4
sort_number what.Done = 5

abbrev pub point_of : What → ℕ
point_of (what.Fault point) = point
point_of (what.Ended point cause) = point
point_of (what.Reverted point) = point
point_of (what.Cut point by) = point
point_of what.Done = 0

abbrev pub rank_of : Option What → List ℕ
rank_of None = 0 ∷ 0 ∷ []
rank_of (Some told) = sort_number told ∷ point_of told ∷ []

-- by moment, then by transaction, then by kind of notice, then by point
abbrev pub rank : Happening → List ℕ
rank happening = happening.at ∷ happening.txn ∷ rank_of happening.told

-- ---- what happens as time passes

abbrev pub happens : Pending → ℕ → Option What → Happening
happens reversion at told = record { at = at; txn = reversion.txn; owner = reversion.owner; told = told }

-- the end of a lease, by the reversion that it starts; the end of one of its steps, which nobody is told; the end of all
abbrev pub ended : Cause → Pending → Happening
ended why reversion = happens reversion reversion.start (Some (what.Ended reversion.point why))

abbrev pub turned : Pending → ℕ → Happening
turned reversion at = happens reversion at None

abbrev pub reverted : Pending → List Step → List Happening
reverted reversion [] = []
reverted reversion (step ∷ steps) = happens reversion (end_of reversion) (Some (what.Reverted reversion.point)) ∷ []

abbrev pub happenings : Pending → List Happening
happenings reversion =
    ended cause.Expired reversion ∷ map (turned reversion) (turns reversion.start reversion.steps) ++ reverted reversion reversion.steps

-- the transaction has a lease or a pending reversion
abbrev pub lives : ℕ → List Pending → Bool
lives txn reversions = list_any (λ reversion. reversion.txn == txn) reversions

abbrev pub last_end : ℕ → List Pending → ℕ
last_end txn reversions = latest (map end_of (filter (λ reversion. reversion.txn == txn) reversions))

abbrev pub done_at : ℕ → Transaction → Happening
done_at at transaction = record { at = at; txn = transaction.txn; owner = transaction.owner; told = Some what.Done }

-- a transaction becomes done when its last part ends
abbrev pub done_last : List Pending → Transaction → Happening
done_last reversions transaction = done_at (last_end transaction.txn reversions) transaction

-- all that time has in store after `now`, in order
abbrev pub coming : ℕ → List Pending → List Transaction → List Happening
coming now reversions txns =
    in_order rank (filter (λ happening. nat_lt now happening.at) (flat_map happenings reversions ++ map (done_last reversions) txns))

-- ---- what follows from what happens

abbrev pub is_done : Option What → Bool
is_done (Some what.Done) = true
is_done told = false

-- a transaction that became done is the last of the done ones, of which at most `done_kept` are kept, the last ones
abbrev pub finish : List ℕ → Happening → List ℕ
finish done happening = if is_done happening.told then keep_last done_kept (done ++ happening.txn ∷ []) else done

-- one notice more, with the next number; at most `notices_kept` are kept, the last ones; after the number `last_number` none is sent
abbrev pub posted : ℕ → ℕ → What → Process → Process
posted at txn told process = if process.count == last_number
    then process
    else record process {
      count = process.count + 1;
      kept = keep_last notices_kept (process.kept ++ (record { number = process.count + 1; at = at; txn = txn; what = told }) ∷ []);
    }

abbrev pub post : List Process → ℕ → Option Process → ℕ → ℕ → What → List Process
post processes owner None at txn told = processes
post processes owner (Some process) at txn told = slice_set processes owner (posted at txn told process)

abbrev pub tell_of : Option What → List Process → Happening → List Process
tell_of None processes happening = processes
tell_of (Some told) processes happening =
    post processes happening.owner (slice_get processes happening.owner) happening.at happening.txn told

-- the transaction's owner is told
abbrev pub tell : List Process → Happening → List Process
tell processes happening = tell_of happening.told processes happening

abbrev pub later : ℕ → Happening → ℕ
later now happening = max now happening.at

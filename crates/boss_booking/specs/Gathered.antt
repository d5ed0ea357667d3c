-- Source: own.
use Rattle.std.specs.Prelude.{◌≡◌, ℕ, nat_lt, nat_le, Bool, true, false, if◌then◌else◌, List, [], ◌∷◌, ◌++◌, length, map, filter, flat_map, fold, Option, Some, None}
use Rattle.boss_model.specs.declared.command.Step.{Step}
use Rattle.boss_model.specs.declared.notice.Cause.{Cause}
use Rattle.boss_model.specs.declared.notice.Cause.TheVariants as cause
use Rattle.boss_model.specs.declared.notice.What.{What}
use Rattle.boss_model.specs.declared.notice.What.TheVariants as what
use Rattle.boss_model.specs.declared.state.Lease.{Lease}
use Rattle.boss_model.specs.declared.state.Pending.{Pending}
use Rattle.boss_model.specs.Ends.{shortened}
use Rattle.boss_model.specs.Happenings.{Happening, rank, ended}
use Rattle.boss_model.specs.Order.{in_order}
use Rattle.boss_model.specs.Reversions.{reversion_of}
use Rattle.boss_model.specs.State.{Process, Persistent}
use Rattle.boss_model.specs.Submit.{superseded, cut}
use Rattle.boss_stages.specs.declared.part.PartEnd.TheVariants.{Live}
use Rattle.boss_stages.specs.Stages.{Tracked, Stages, end_on, is_reverting}
use Rattle.boss_booking.specs.Books.{Telling, Books, StandsFor, booked}
use Rattle.law_due.specs.Due.{reverted_by}

-- What is told, with whether a reversion begins with it, in the order in which it is found.

abbrev pub has_steps : List Step → Bool
has_steps steps = nat_lt 0 (length steps)

-- no reversion begins with it
abbrev pub plain : Happening → Telling
plain happening = record { happening = happening; reverts = false }

-- the end of a lease, by the reversion that it starts if it has steps
abbrev pub ended_with : Cause → Pending → Telling
ended_with why reversion = record { happening = ended why reversion; reverts = has_steps reversion.steps }

-- as time passes to n: the reversion is over, the lease ends
abbrev pub pending_tellings : ℕ → Pending → List Telling
pending_tellings n reversion = map plain (reverted_by n reversion)

abbrev pub lease_tellings : ℕ → Lease → List Telling
lease_tellings n lease = if nat_le lease.until n
    then ended_with cause.Expired (reversion_of lease) ∷ pending_tellings n (reversion_of lease)
    else []

abbrev pub due_tellings : ℕ → Persistent → List Telling
due_tellings n d = flat_map (lease_tellings n) d.leases ++ flat_map (pending_tellings n) d.pending

-- as leases end at n before their time
abbrev pub end_tellings : (Lease → Bool) → Cause → ℕ → List Lease → List Telling
end_tellings which why n leases = map (λ lease. ended_with why (reversion_of (shortened n lease))) (filter which leases)

-- as a new transaction takes the slots of leases and reversions at n
abbrev pub replaced_tellings : (Lease → Bool) → (Pending → Bool) → ℕ → ℕ → Persistent → List Telling
replaced_tellings gone broken by n d =
    map plain (map (superseded by n) (filter gone d.leases) ++ map (cut by n) (filter broken d.pending))

-- ---- in order

abbrev pub told_rank : Telling → List ℕ
told_rank telling = rank telling.happening

-- the books after all of it, told in order
abbrev pub booked_all : Stages → List Process → List Telling → Books
booked_all stages processes tellings = fold booked (record { stages = stages; processes = processes }) (in_order told_rank tellings)

-- the books of a persistent part: its processes were told, and the records stand for its records
pub record AreBooksOf (books : Books) (d : Persistent) : Type 0 where
  pub processes : books.processes ≡ d.processes
  pub stands : StandsFor books.stages d

-- the record of a new transaction is begun
abbrev pub with_begun : Tracked → Stages → Stages
with_begun kept stages = record stages { kept = stages.kept ++ kept ∷ [] }

abbrev pub books_with : Tracked → Books → Books
books_with kept books = record books { stages = with_begun kept books.stages }

-- ---- what may be told: the lease that ends is live, and the reversion that ends is pending

abbrev pub CanTell : ℕ → Option What → Stages → Type 0
CanTell txn None stages = Unit {0}
CanTell txn (Some (what.Fault point)) stages = Unit {0}
CanTell txn (Some (what.Ended point why)) stages = end_on txn point stages ≡ Live
CanTell txn (Some (what.Reverted point)) stages = is_reverting txn point stages ≡ true
CanTell txn (Some (what.Cut point by)) stages = is_reverting txn point stages ≡ true
CanTell txn (Some what.Done) stages = Unit {0}

-- one telling after another
abbrev pub CanBook : Books → List Telling → Type 0
CanBook books [] = Unit {0}
CanBook books (telling ∷ tellings) =
    CanTell telling.happening.txn telling.happening.told books.stages × CanBook (booked books telling) tellings

abbrev pub CanBookAll : Stages → List Process → List Telling → Type 0
CanBookAll stages processes tellings = CanBook (record { stages = stages; processes = processes }) (in_order told_rank tellings)

-- Source: own (an invariant of the machine).
use Rattle.std.specs.Prelude.{◌≡◌, ℕ, ◌+◌, ◌-◌, ◌^◌, ◌<◌, ◌≤◌, ◌==◌, pos, nat_eq, Bool, true, false, not, ◌&&◌, List, [], ◌∷◌, length, map, Option, Some, None, is_none}
use Rattle.std.specs.List.{AllByRecursion, list_any}
use Rattle.std.specs.Cmp.Lexicographic.{pointwise}
use Rattle.boss_model.specs.declared.answer.Mark.TheVariants as mark
use Rattle.boss_model.specs.declared.command.Command.{Command}
use Rattle.boss_model.specs.declared.command.Command.TheVariants as command
use Rattle.boss_model.specs.declared.kept.Acceptance.{Acceptance}
use Rattle.boss_model.specs.declared.kept.Acceptance.TheVariants as acceptance
use Rattle.boss_model.specs.declared.kept.KeptReply.{KeptReply}
use Rattle.boss_model.specs.declared.notice.Cause.{Cause}
use Rattle.boss_model.specs.declared.notice.Cause.TheVariants as cause
use Rattle.boss_model.specs.declared.notice.Notice.{Notice}
use Rattle.boss_model.specs.declared.notice.What.{What}
use Rattle.boss_model.specs.declared.notice.What.TheVariants as what
use Rattle.boss_model.specs.Catalogue.{Actuator, fits_at}
use Rattle.boss_model.specs.Devices.{proxy_of}
use Rattle.boss_model.specs.Happenings.{lives}
use Rattle.boss_model.specs.Limits.{longest_lease, most_writes, done_kept, most_processes, notices_kept, most_told, last_moment, last_number}
use Rattle.boss_model.specs.Lists.{member}
use Rattle.boss_model.specs.Names.{is_name}
use Rattle.boss_model.specs.Order.{comes_before}
use Rattle.boss_model.specs.Records.{End, Part, Transaction}
use Rattle.boss_model.specs.Reversions.{end_of, courses}
use Rattle.boss_model.specs.State.{Lease, Pending, lease_slot, pending_slot, Process, Persistent, Proxy, State}
use Rattle.boss_model.specs.Submit.{is_level, is_reversion}
use Rattle.boss_model.specs.Target.{target}

-- ---- lists

-- each item stands before all that follow it, and none is of another's rank
abbrev pub Rising : {X : Type 0} → (X → List ℕ) → List X → Type 0
Rising rank [] = Unit {0}
Rising rank (x ∷ xs) = AllByRecursion (λ y. comes_before (rank y) (rank x) ≡ false) xs × Rising rank xs

-- no number twice
abbrev pub Distinct : List ℕ → Type 0
Distinct [] = Unit {0}
Distinct (n ∷ ns) = (member n ns ≡ false) × Distinct ns

-- no name twice
abbrev pub DistinctNames : List (List ℕ) → Type 0
DistinctNames [] = Unit {0}
DistinctNames (name ∷ names) = (list_any (λ other. pointwise nat_eq other name) names ≡ false) × DistinctNames names

-- the notices are numbered one by one from `number` on
abbrev pub NumberedFrom : ℕ → List Notice → Type 0
NumberedFrom number [] = Unit {0}
NumberedFrom number (notice ∷ notices) = (notice.number ≡ number) × NumberedFrom (number + 1) notices

-- a number that fits the 64 bits that it has
abbrev pub IsWord : ℕ → Type 0
IsWord n = n < 2 ^ 64

-- ---- leases and reversions

-- a lease that may stand in a state with this `now`
pub record IsLease (plant : List Actuator) (now : ℕ) (lease : Lease) : Type 0 where
  pub fitting : fits_at plant lease.point lease.value ≡ true
  pub level : is_level (pos lease.priority) ≡ true
  pub reverting : is_reversion plant lease.point lease.revert ≡ true
  pub live : now < lease.until
  pub soon : lease.until ≤ now + longest_lease

-- a reversion that may be under way in it; it has a step, since it is over later than it starts
pub record IsPending (plant : List Actuator) (now : ℕ) (reversion : Pending) : Type 0 where
  pub level : is_level (pos reversion.priority) ≡ true
  pub steps : is_reversion plant reversion.point reversion.steps ≡ true
  pub started : reversion.start ≤ now
  pub running : now < end_of reversion

-- ---- records of transactions

-- the end is no later than this moment
abbrev pub IsPast : ℕ → Option End → Type 0
IsPast now None = Unit {0}
IsPast now (Some end) = end.at ≤ now

abbrev pub IsCause : Cause → Type 0
IsCause (cause.Superseded by) = IsWord by
IsCause why = Unit {0}

abbrev pub IsEnd : Option End → Type 0
IsEnd None = Unit {0}
IsEnd (Some end) = IsCause end.cause

-- one of the leases is the transaction's and holds this slot
abbrev pub holds : List Lease → ℕ → ℕ → ℕ → Bool
holds leases txn point priority = list_any (λ lease. (lease.txn == txn) && ((lease.point == point) && (lease.priority == priority))) leases

pub record IsPart (plant : List Actuator) (now txn : ℕ) (leases : List Lease) (part : Part) : Type 0 where
  pub known : part.point < length plant
  -- an ended part may have any priority that fits its byte
  pub priority : part.priority < 256
  -- a part has no end exactly as long as it is a lease
  pub open_part : is_none part.end ≡ holds leases txn part.point part.priority
  pub past : IsPast now part.end
  pub why : IsEnd part.end

pub record IsTransaction (plant : List Actuator) (d : Persistent) (transaction : Transaction) : Type 0 where
  pub numbered : 1 ≤ transaction.txn
  pub given : transaction.txn < d.next
  pub owner : transaction.owner < length d.processes
  pub some_part : 1 ≤ length transaction.parts
  pub few_parts : length transaction.parts ≤ most_writes
  pub points : Distinct (map (λ part. part.point) transaction.parts)
  pub parts : AllByRecursion (IsPart plant d.now transaction.txn d.leases) transaction.parts
  pub owned : AllByRecursion (λ reversion. reversion.txn ≡ transaction.txn → reversion.owner ≡ transaction.owner) (courses d.pending d.leases)
  pub policies : AllByRecursion (λ lease. lease.txn ≡ transaction.txn → lease.policy ≡ transaction.policy) d.leases

-- a record of the transaction has a part in this slot whose end passes the test
abbrev pub has_part : (Option End → Bool) → List Transaction → ℕ → ℕ → ℕ → Bool
has_part test txns txn point priority = list_any (λ transaction. (transaction.txn == txn)
    && list_any (λ part. (part.point == point) && ((part.priority == priority) && test part.end)) transaction.parts) txns

-- there is a record of the transaction
abbrev pub is_kept : List Transaction → ℕ → Bool
is_kept txns txn = list_any (λ transaction. transaction.txn == txn) txns

abbrev pub is_superseded : Cause → Bool
is_superseded (cause.Superseded by) = true
is_superseded why = false

-- an end that started a reversion at this moment
abbrev pub is_start : ℕ → Option End → Bool
is_start start None = false
is_start start (Some end) = (end.at == start) && not (is_superseded end.cause)

abbrev pub number_rank : Transaction → List ℕ
number_rank transaction = transaction.txn ∷ []

-- ---- processes

-- it tells of a point of the plant, or of none
abbrev pub IsKnown : ℕ → What → Type 0
IsKnown points (what.Fault point) = point < points
IsKnown points (what.Ended point why) = point < points
IsKnown points (what.Reverted point) = point < points
IsKnown points (what.Cut point by) = point < points
IsKnown points what.Done = Unit {0}

-- the numbers of transactions that a notice tells
abbrev pub IsWhat : What → Type 0
IsWhat (what.Ended point why) = IsCause why
IsWhat (what.Cut point by) = IsWord by
IsWhat told = Unit {0}

abbrev pub IsNotice : Notice → Type 0
IsNotice notice = IsWord notice.txn × IsWhat notice.what

abbrev pub IsAcceptance : Acceptance → Type 0
IsAcceptance (acceptance.Accepted txn until) = IsWord txn × IsWord until
IsAcceptance (acceptance.Renewed txn until) = IsWord txn × IsWord until
IsAcceptance (acceptance.Cancelled txn at) = IsWord txn × IsWord at

-- what is kept of a request has the request's number
abbrev pub IsReply : Option KeptReply → Type 0
IsReply None = Unit {0}
IsReply (Some reply) = (1 ≤ reply.seq) × (reply.seq < last_number) × IsAcceptance reply.acceptance

pub record IsProcess (plant : List Actuator) (now : ℕ) (process : Process) : Type 0 where
  pub name : is_name process.name ≡ true
  pub count : process.count ≤ last_number
  pub few : length process.kept ≤ notices_kept
  pub sent : length process.kept ≤ process.count
  pub numbers : NumberedFrom (process.count + 1 - length process.kept) process.kept
  pub past : AllByRecursion (λ notice. notice.at ≤ now) process.kept
  pub known : AllByRecursion (λ notice. IsKnown (length plant) notice.what) process.kept
  pub words : AllByRecursion IsNotice process.kept
  pub reply : IsReply process.reply

-- ---- what holds of every persistent part that can be reached

pub record IsSoundPersistent (plant : List Actuator) (d : Persistent) : Type 0 where
  pub now : d.now ≤ last_moment
  pub first : 1 ≤ d.next
  pub next : d.next ≤ last_number
  pub lease_slots : Rising lease_slot d.leases
  pub pending_slots : Rising pending_slot d.pending
  -- no slot twice, among leases and reversions together
  pub slots : Rising pending_slot (courses d.pending d.leases)
  pub leases : AllByRecursion (IsLease plant d.now) d.leases
  pub pending : AllByRecursion (IsPending plant d.now) d.pending
  pub numbers : Rising number_rank d.txns
  pub txns : AllByRecursion (IsTransaction plant d) d.txns
  -- each lease is a part without an end, and each reversion one whose end is its start
  pub open_parts : AllByRecursion (λ lease. has_part is_none d.txns lease.txn lease.point lease.priority ≡ true) d.leases
  pub ended_parts : AllByRecursion (λ reversion. has_part (is_start reversion.start) d.txns reversion.txn reversion.point reversion.priority ≡ true) d.pending
  -- a transaction is done exactly where it has neither a lease nor a reversion left
  pub done : AllByRecursion (λ transaction. member transaction.txn d.done ≡ not (lives transaction.txn (courses d.pending d.leases))) d.txns
  pub few_done : length d.done ≤ done_kept
  pub done_once : Distinct d.done
  pub done_known : AllByRecursion (λ txn. is_kept d.txns txn ≡ true) d.done
  pub few_processes : length d.processes ≤ most_processes
  pub names : DistinctNames (map (λ process. process.name) d.processes)
  pub processes : AllByRecursion (IsProcess plant d.now) d.processes

-- ---- what holds of every state that can be reached

-- each proxy has the target of its point
abbrev pub Settled : List Actuator → Persistent → ℕ → List Proxy → Type 0
Settled plant d point [] = Unit {0}
Settled plant d point (proxy ∷ proxies) = (proxy.commanded ≡ target plant d point) × Settled plant d (point + 1) proxies

-- a point that wants its device to be written
pub record IsWant (proxies : List Proxy) (point : ℕ) : Type 0 where
  pub known : point < length proxies
  pub pending : (proxy_of proxies point).mark ≡ mark.Pending

pub record IsSound (plant : List Actuator) (s : State) : Type 0 where
  pub persistent : IsSoundPersistent plant s.persistent
  pub sessions : Distinct (map (λ attachment. attachment.session) s.attached)
  pub held : Distinct (map (λ attachment. attachment.process) s.attached)
  pub attached : AllByRecursion (λ attachment. attachment.process < length s.persistent.processes) s.attached
  pub proxies : length s.proxies ≡ length plant
  pub commanded : Settled plant s.persistent 0 s.proxies
  pub wants : AllByRecursion (IsWant s.proxies) s.wants
  pub once : Distinct s.wants

-- ---- what a command may be, whoever sends it

abbrev pub IsName : Option (List ℕ) → Type 0
IsName None = Unit {0}
IsName (Some name) = is_name name ≡ true

-- its points are those of the plant, and its number and the sizes of its lists are within their limits
abbrev pub IsAllowed : List Actuator → Command → Type 0
IsAllowed plant (command.Attach name) = is_name name ≡ true
IsAllowed plant (command.Submit writes policy seq) =
    (1 ≤ length writes) × (length writes ≤ most_writes) × AllByRecursion (λ write. write.point < length plant) writes × (seq < last_number)
IsAllowed plant (command.Renew txn length_asked points seq) =
    (length points ≤ most_writes) × AllByRecursion (λ point. point < length plant) points × (seq < last_number)
IsAllowed plant (command.Cancel txn seq) = seq < last_number
IsAllowed plant command.Gone = Unit {0}
IsAllowed plant command.Tick = Unit {0}
IsAllowed plant (command.Next driver) = Unit {0}
IsAllowed plant (command.Report point version ok) = point < length plant
IsAllowed plant (command.Doubt point differs) = point < length plant
IsAllowed plant (command.Read point) = point < length plant
IsAllowed plant (command.Array point) = point < length plant
IsAllowed plant (command.Status txn) = Unit {0}
IsAllowed plant (command.Notices name from most) = IsName name × (1 ≤ from) × (1 ≤ most) × (most ≤ most_told)
IsAllowed plant (command.Points from most) = (from ≤ last_number) × (most ≤ most_told)
IsAllowed plant command.Version = Unit {0}

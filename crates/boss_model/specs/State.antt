-- Source: ASHRAE 135, clause 19.2 (slots of the Priority_Array); BOSS (Dawson-Haggerty et al., NSDI 2013),
-- transaction manager (leases, control processes); the rest (marks, wants, what lasts) own.
use Rattle.std.specs.Prelude.{ℕ, List, [], ◌∷◌, Option}
use Rattle.boss_model.specs.declared.kept.KeptReply.{KeptReply}
use Rattle.boss_model.specs.declared.notice.Notice.{Notice}
use Rattle.boss_model.specs.Records.{Transaction}
-- a lease: the transaction holds the slot (point, priority) at this value as long as the moment is before `until`
pub use Rattle.boss_model.specs.declared.state.Lease.{Lease}
-- a reversion under way: it keeps the slot of the lease whose end was its start
pub use Rattle.boss_model.specs.declared.state.Pending.{Pending}
-- where a point's device stands: the version of its commanded value, that value, how far the device has come, whether it
-- has failed to take this version, and when it is written again if it failed
pub use Rattle.boss_model.specs.declared.state.Proxy.{Proxy}
-- the value that a device took last, and the moment from which on it has been told to have it
pub use Rattle.boss_model.specs.declared.state.Took.{Took}

-- a control process: its name, how many notices it was sent, and the last of them, at most `notices_kept`; and what the last
-- request was answered that it had numbered and that was accepted. Processes go by their places.
pub record Process : Type 0 where
  pub name : List ℕ
  pub count : ℕ
  pub kept : List Notice
  pub reply : Option KeptReply

-- What outlasts a stop. `now` is the moment of the last change, `next` the number of the next transaction; leases and
-- pending reversions stand in order of slots, transactions in order of number; `done` has the last transactions that became
-- done, at most `done_kept`, in the order of becoming done.
pub record Persistent : Type 0 where
  pub now : ℕ
  pub next : ℕ
  pub leases : List Lease
  pub pending : List Pending
  pub txns : List Transaction
  pub done : List ℕ
  pub processes : List Process

-- a session that holds a process
pub record Attachment : Type 0 where
  pub session : ℕ
  pub process : ℕ

-- the whole state: beside the persistent part who is attached, one proxy a point, and the points that want their device to be
-- written, in order of arrival
pub record State : Type 0 where
  pub persistent : Persistent
  pub attached : List Attachment
  pub proxies : List Proxy
  pub wants : List ℕ

-- slots of priority arrays, in the order of points and then of priorities
abbrev pub lease_slot : Lease → List ℕ
lease_slot lease = lease.point ∷ lease.priority ∷ []

abbrev pub pending_slot : Pending → List ℕ
pending_slot reversion = reversion.point ∷ reversion.priority ∷ []

-- before anything was done
abbrev pub first_persistent : Persistent
first_persistent = record { now = 0; next = 1; leases = []; pending = []; txns = []; done = []; processes = [] }

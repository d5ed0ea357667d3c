-- Source: own.
-- What is left to do of what the words ask for.
use Rattle.std.specs.Prelude.{◌≡◌, ℕ, ◌≤◌, Option, Some, None}
use Rattle.boss_model.specs.Limits.{most_workers}
use Rattle.boss_words.specs.declared.job.Job.{Job}
use Rattle.boss_words.specs.declared.job.Job.TheVariants.{Script, Serve, Check, Adopt, Shift, Feed, Standby, Load, Help, Version}
use Rattle.boss_manager.specs.declared.next.Next.{Next}
use Rattle.boss_manager.specs.declared.next.Next.TheVariants as next
use Rattle.boss_manager.specs.declared.next.ServeJob.{ServeJob}

-- all is done, with a status of which this holds
abbrev pub IfDone : Next → (ℕ → Type 0) → Type 0
IfDone (next.Done status) Holds = Holds status.0
IfDone (next.Serve job) Holds = ⊥

-- of a status, if there is one, this holds
abbrev pub OnDone : Next → (ℕ → Type 0) → Type 0
OnDone (next.Done status) Holds = Holds status.0
OnDone (next.Serve job) Holds = Unit {0}

-- this server is left to be served, or there was no memory to read the words
abbrev pub IsLeft : ServeJob → Next → Type 0
IsLeft job (next.Done status) = status.0 ≡ 8
IsLeft job (next.Serve left) = left ≡ job

-- the workers of a server that is left
abbrev pub HasWorkers : Next → Type 0
HasWorkers (next.Done status) = Unit {0}
HasWorkers (next.Serve job) = (1 ≤ job.workers) × (job.workers ≤ most_workers)

-- the server that the words ask for
abbrev pub server_of : Option Job → Option ServeJob
server_of (Some (Serve catalogue journal address workers connections rules plan keys)) = Some (record {
  catalogue = catalogue;
  journal = journal;
  address = address;
  workers = workers;
  connections = connections;
  rules = rules;
  plan = plan;
  keys = keys;
})
server_of (Some (Script catalogue journal)) = None
server_of (Some (Check catalogue journal)) = None
server_of (Some (Adopt old new journal)) = None
server_of (Some (Shift catalogue journal by)) = None
server_of (Some (Feed catalogue journal from)) = None
server_of (Some (Standby catalogue journal)) = None
server_of (Some (Load count seed)) = None
server_of (Some Help) = None
server_of (Some Version) = None
server_of None = None

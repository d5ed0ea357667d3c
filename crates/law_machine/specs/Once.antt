-- Source: own.
-- Requests that a process numbers.
use Rattle.std.specs.Prelude.{◌≡◌, ℕ, ◌≤◌, Some}
use Rattle.std.specs.Option.{option_map_or}
use Rattle.boss_model.specs.declared.command.Command.{Command}
use Rattle.boss_model.specs.declared.command.Command.TheVariants as command
use Rattle.boss_model.specs.Processes.{process_of}
use Rattle.boss_model.specs.Replies.{reply_of}
use Rattle.boss_model.specs.State.{Persistent, State}

-- the number that a command has of its process; 0 for none
abbrev pub seq_of : Command → ℕ
seq_of (command.Submit writes policy seq) = seq
seq_of (command.Renew txn length points seq) = seq
seq_of (command.Cancel txn seq) = seq
seq_of c = 0

-- in this state the session holds the process, and its command has this number of it
pub record IsUnder (owner seq session : ℕ) (c : Command) (s : State) : Type 0 where
  pub held : process_of s.attached session ≡ Some owner
  pub number : seq_of c ≡ seq
  pub some : 1 ≤ seq

-- the number of the last request of the process that was accepted; 0 where none was
abbrev pub kept_seq : Persistent → ℕ → ℕ
kept_seq d owner = option_map_or (λ reply. reply.seq) (reply_of d.processes owner) 0

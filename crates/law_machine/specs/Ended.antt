-- Source: own.
use Rattle.std.specs.Prelude.{◌≡◌, ℕ, ◌≤◌, ℤ, List, map, Some}
use Rattle.boss_model.specs.declared.command.Command.{Command}
use Rattle.boss_model.specs.declared.command.Command.TheVariants as command
use Rattle.boss_model.specs.declared.notice.Cause.{Cause}
use Rattle.boss_model.specs.Lists.{first_some}
use Rattle.boss_model.specs.Records.{Transaction}
use Rattle.boss_model.specs.Renew.{transaction_of, named_parts}
use Rattle.boss_model.specs.State.{Persistent}

-- The cause and the moment of the end that is kept, after a step at moment n, of the first of the parts that a renewal
-- meant whose lease has ended; and that moment is no later than the one that is told, which is n.
pub record IsKeptEnd (c : Command) (n : ℕ) (after : Persistent) (cause : Cause) (at moment : ℕ) : Type 0 where
  pub txn : ℕ
  pub length : ℤ
  pub points : List ℕ
  pub seq : ℕ
  pub transaction : Transaction
  pub renewal : c ≡ command.Renew txn length points seq
  pub known : transaction_of after.txns txn ≡ Some transaction
  pub end : first_some (map (λ part. part.end) (named_parts points transaction.parts)) ≡ Some (record { cause = cause; at = at })
  pub past : at ≤ moment
  pub told : moment ≡ n

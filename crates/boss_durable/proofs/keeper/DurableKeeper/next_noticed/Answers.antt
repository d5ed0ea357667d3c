use Rattle.std.specs.Coded.{→_prop, Coded-set, coded_ℕ, le_prop}
use Rattle.boss_durable.proofs.keeper.DurableKeeper.next_noticed.Goals as goal

-- nothing but the engine was touched, which is as it was; each fact of the type has one proof at most
pub returns : goal.returns
returns g c = λ i. record {
  alloc = c.args.self.now.alloc;
  engine = c.next_noticed.ensures i;
  disks = c.args.self.now.disks;
  batch = c.args.self.now.batch;
  log_limit = c.args.self.now.log_limit;
  confirmed = c.args.self.now.confirmed;
  version = →_prop (Coded-set coded_ℕ _ _) c.self-1.given.0 c.args.self.now.version i;
  room = Coded-set coded_ℕ _ _ c.self-1.given.1.0 c.args.self.now.room i;
  limit = le_prop c.self-1.given.1.1.0 c.args.self.now.limit i;
}

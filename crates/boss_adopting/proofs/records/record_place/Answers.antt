use Rattle.std.proofs.Common.{[], ◌∷◌, rules}
use Rattle.std.proofs.lemmas.List.Sorted.{IsPartitionPoint-from_clause}
use Rattle.boss_state_check.specs.Searches.{precedes, kept_rank}
use Rattle.boss_state_check.proofs.Ranked.{partitioned}
use Rattle.boss_adopting.proofs.records.record_place.Goals as goal

pub returns : goal.returns
returns c = IsPartitionPoint-from_clause (λ transaction. precedes (kept_rank transaction) (c.args.txn ∷ [])) c.args.txns.now c.partition_point.result c.partition_point.ensures.partitioned
    (partitioned kept_rank (c.args.txn ∷ []) c.args.txns.now c.requires) (λ a r f called. search rules)

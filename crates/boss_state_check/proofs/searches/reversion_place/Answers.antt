use Rattle.std.proofs.Common.{[], ◌∷◌, rules}
use Rattle.std.proofs.lemmas.List.Sorted.{IsPartitionPoint-from_clause}
use Rattle.boss_model.specs.State.{pending_slot}
use Rattle.boss_state_check.specs.Searches.{precedes}
use Rattle.boss_state_check.proofs.Ranked.{partitioned}
use Rattle.boss_state_check.proofs.searches.reversion_place.Goals as goal

pub returns : goal.returns
returns c = IsPartitionPoint-from_clause (λ reversion. precedes (pending_slot reversion) (c.args.slot.0 ∷ c.args.slot.1 ∷ [])) c.args.pending.now c.partition_point.result c.partition_point.ensures.partitioned
    (partitioned pending_slot (c.args.slot.0 ∷ c.args.slot.1 ∷ []) c.args.pending.now c.requires) (λ a r f called. search rules)

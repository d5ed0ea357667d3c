-- Submits that are refused, computed from the definitions alone.
use Rattle.std.proofs.Common.{◌≡◌, List, [], ◌∷◌, pos, refl}
use Rattle.boss_model.specs.declared.answer.Answer.{Answer}
use Rattle.boss_model.specs.declared.answer.Answer.TheVariants as answer
use Rattle.boss_model.specs.declared.answer.Refusal.TheVariants as refusal
use Rattle.boss_model.specs.declared.answer.Slot.TheVariants as slot
use Rattle.boss_model.specs.declared.command.Command.TheVariants as command
use Rattle.boss_model.specs.declared.command.Setting.{Setting}
use Rattle.boss_model.specs.Machine.{step}
use Rattle.boss_model.proofs.Building.{damper, lamp, at, write, reverting, held, submit, renew, a_attaches, asked, a_attached}

abbrev submitted : List Setting → List Answer
submitted writes = asked (a_attaches ∷ at 1000 1 (submit writes) ∷ [])

-- a point twice comes before a bad priority
same_point_twice : submitted (write lamp 1 8 60000 ∷ write lamp 1 6 60000 ∷ []) ≡ a_attached ∷ answer.Refused (refusal.SamePoint 1) ∷ []
unfolding step
same_point_twice = refl

reserved_priority : submitted (write lamp 1 6 60000 ∷ []) ≡ a_attached ∷ answer.Refused (refusal.BadPriority 0) ∷ []
unfolding step
reserved_priority = refl

value_too_high : submitted (write damper 100001 8 60000 ∷ []) ≡ a_attached ∷ answer.Refused (refusal.OutOfRange 0) ∷ []
unfolding step
value_too_high = refl

no_lease : submitted (write damper 45000 8 0 ∷ []) ≡ a_attached ∷ answer.Refused (refusal.BadLease 0) ∷ []
unfolding step
no_lease = refl

lease_too_long : submitted (write damper 45000 8 604800001 ∷ []) ≡ a_attached ∷ answer.Refused (refusal.BadLease 0) ∷ []
unfolding step
lease_too_long = refl

longest_lease : submitted (write damper 45000 8 604800000 ∷ []) ≡ a_attached ∷ answer.Accepted 1 604801000 ∷ []
unfolding step
longest_lease = refl

nine_steps : submitted (reverting (held 0 1 ∷ held 0 1 ∷ held 0 1 ∷ held 0 1 ∷ held 0 1 ∷ held 0 1 ∷ held 0 1 ∷ held 0 1 ∷ held 0 1 ∷ [])
    (write damper 45000 8 60000) ∷ []) ≡ a_attached ∷ answer.Refused (refusal.BadReversion 0) ∷ []
unfolding step
nine_steps = refl

-- eight steps, each of which may hold for a day
eight_steps : submitted (reverting (held 0 1 ∷ held 0 1 ∷ held 0 1 ∷ held 0 1 ∷ held 0 1 ∷ held 0 1 ∷ held 0 1 ∷ held 0 86400000 ∷ [])
    (write damper 45000 8 60000) ∷ []) ≡ a_attached ∷ answer.Accepted 1 61000 ∷ []
unfolding step
eight_steps = refl

hold_too_long : submitted (reverting (held 0 86400001 ∷ []) (write damper 45000 8 60000) ∷ []) ≡ a_attached ∷ answer.Refused (refusal.BadReversion 0) ∷ []
unfolding step
hold_too_long = refl

no_hold : submitted (reverting (held 0 0 ∷ []) (write damper 45000 8 60000) ∷ []) ≡ a_attached ∷ answer.Refused (refusal.BadReversion 0) ∷ []
unfolding step
no_hold = refl

-- the lowest priority is the sixteenth slot
sixteenth_slot : asked (a_attaches ∷ at 1000 1 (submit (write damper 45000 16 60000 ∷ [])) ∷ at 1000 1 (command.Array damper) ∷ [])
    ≡ a_attached ∷ answer.Accepted 1 61000 ∷ answer.Array damper (record {
      at =
          slot.Empty ∷ slot.Empty ∷ slot.Empty ∷ slot.Empty ∷ slot.Empty ∷ slot.Empty ∷ slot.Empty ∷ slot.Empty ∷
          slot.Empty ∷ slot.Empty ∷ slot.Empty ∷ slot.Empty ∷ slot.Empty ∷ slot.Empty ∷ slot.Empty ∷
          slot.Lease (pos 45000) 1 61000 ∷ [];
    }) ∷ []
unfolding step
sixteenth_slot = refl

-- a renewal of no length comes before a transaction that is not known
no_length : asked (a_attaches ∷ at 1000 1 (renew 9 0) ∷ at 1000 1 (renew 9 1) ∷ [])
    ≡ a_attached ∷ answer.Refused (refusal.BadLease 0) ∷ answer.Refused refusal.UnknownTxn ∷ []
unfolding step
no_length = refl

-- what the catalogue and the program tell is asked for like what stands in a slot: by any session
asked_by_anybody : asked (at 1000 7 (command.Points 1 2) ∷ at 1000 7 command.Version ∷ []) ≡ answer.Points 1 2 ∷ answer.Version ∷ []
unfolding step
asked_by_anybody = refl

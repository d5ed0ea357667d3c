use Rattle.law_grants.proofs.SubmitBooked.{slots-come}
use Rattle.law_grants.proofs.grants.slots_are_taken_one_after_another.Goals as goal

pub returns : goal.returns
returns c plant d stages owner policy writes n new sound stands some is_begun none = slots-come plant d stages owner policy writes n sound stands some new is_begun none

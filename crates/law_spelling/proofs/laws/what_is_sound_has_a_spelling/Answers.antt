use Rattle.std.proofs.Common.{◌≡◌, true, None}
use Rattle.law_time.proofs.Orders.{each-map}
use Rattle.law_spelling.specs.Ranges.{IsStoredProcess}
use Rattle.law_spelling.proofs.Stored.{storable}
use Rattle.def_bytes.specs.States.{reply}
use Rattle.law_spelling.proofs.OfStates.{reply-fits, none-fits, state-fits}
use Rattle.law_spelling.proofs.laws.what_is_sound_has_a_spelling.Goals as goal

pub returns-clause-version_2 : goal.returns-clause-version_2
returns-clause-version_2 c plant d whole sound =
    let kept = storable plant whole d sound in
    state-fits 2 d kept (each-map IsStoredProcess (λ p. (reply 2).fits p.reply ≡ true) (λ p is. reply-fits p.reply is.reply) d.processes kept.processes)

pub returns-clause-version_1 : goal.returns-clause-version_1
returns-clause-version_1 c plant d whole sound none =
    state-fits 1 d (storable plant whole d sound)
    (each-map _ (λ p. (reply 1).fits p.reply ≡ true) (λ p is. let absent : p.reply ≡ None = cc in none-fits p.reply absent) d.processes none)

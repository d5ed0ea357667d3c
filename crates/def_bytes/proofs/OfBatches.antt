-- A batch is determined by its bytes.
use Rattle.std.proofs.Common.{◌≡◌, true, List, [], ◌∷◌, refl, ap, ◌∙◌}
use Rattle.std.specs.List.{AllByRecursion}
use Rattle.def_bytes.proofs.Exact.{one-spelling}
use Rattle.boss_model.specs.declared.event.Event.{Event}
use Rattle.def_bytes.specs.Batches.{batch_text, IsBatch}
use Rattle.def_bytes.specs.Events.{event}
use Rattle.def_bytes.proofs.OfEvents.{event_spelled}

same_events : (es others : List Event) → AllByRecursion (λ e. event.fits e ≡ true) es → AllByRecursion (λ e. event.fits e ≡ true) others →
    batch_text es ≡ batch_text others → es ≡ others
same_events [] [] fit also is = refl
same_events [] (o ∷ others) fit also is = absurd cc
same_events (e ∷ es) [] fit also is = absurd cc
same_events (e ∷ es) (o ∷ others) fit also is =
    let first = one-spelling event event_spelled.exact e o (batch_text es) (batch_text others) fit.0 also.0 is in
    ap (λ x. x ∷ es) first.0 ∙ ap (λ xs. o ∷ xs) (same_events es others fit.1 also.1 first.1)

pub batch-events : (es others : List Event) → IsBatch es → IsBatch others → batch_text es ≡ batch_text others → es ≡ others
batch-events es others one other is = same_events es others one.fitting other.fitting is

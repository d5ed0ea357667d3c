-- What holds of each attachment's process holds of the one that a session has.
use Rattle.std.proofs.Common.{◌≡◌, ℕ, ◌<◌, ◌==◌, List, [], ◌∷◌, Bool, true, false, cond, Some, arith}
use Rattle.std.specs.Prelude.{find}
use Rattle.std.specs.List.{AllByRecursion}
use Rattle.std.specs.Option.{option_map}
use Rattle.boss_model.specs.Processes.{process_of}
use Rattle.boss_model.specs.State.{Attachment}

pub held-below : (attached : List Attachment) (session process count : ℕ) → AllByRecursion (λ attachment. attachment.process < count) attached →
    Some process ≡ process_of attached session → process < count
held-below [] session process count all held = cc
held-below (first ∷ others) session process count all held = chosen (first.session == session) held (held-below others session process count all.1)
  where
    chosen : (b : Bool) → Some process ≡ option_map (λ a. a.process) (cond b (Some first) (find (λ a. a.session == session) others)) →
        (Some process ≡ process_of others session → process < count) → process < count
    chosen true own later = let same : process ≡ first.process = cc in omega (arith, all.0)
    chosen false own later = later own

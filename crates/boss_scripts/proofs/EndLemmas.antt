-- How a script ended, by the lines that it was given.
use Rattle.std.proofs.Common.{◌≡◌, ◌≢◌, ℕ, Bool, false, List, refl, subst}
use Rattle.boss_lines.specs.declared.reader.Next.{Next}
use Rattle.boss_lines.specs.declared.reader.Next.TheVariants.{Line, Finish, TooLong, ReadFault}
use Rattle.boss_lines.specs.Given.{GivesLines}
use Rattle.boss_model.specs.Limits.{most_lines}
use Rattle.boss_scripts.specs.Ends.{EndsOver, has_too_long}
use Rattle.boss_scripts.specs.Outside.{Outside}

-- what was given, and came then, is how the script ended
pub ended-behind : (Ran : List (List ℕ) → Bool → Type 0) (old new : Outside) (given : List (List ℕ)) (next : Next) → next ≢ TooLong → GivesLines most_lines old.left new.left given next →
    has_too_long given ≡ false → (old.sink_tells → Ran given false) → EndsOver Ran old new next
ended-behind Ran old new given Line other gives none ran =
    (gives.read, gives.split, gives.gives.1, λ tells. subst (λ all. Ran all false) gives.gives.0 (ran tells))
ended-behind Ran old new given Finish other gives none ran =
    (gives.gives.1, subst (λ all. has_too_long all ≡ false) gives.gives.0 none, λ tells. subst (λ all. Ran all false) gives.gives.0 (ran tells))
ended-behind Ran old new given TooLong other gives none ran = absurd (other refl)
ended-behind Ran old new given ReadFault other gives none ran =
    (gives.read, gives.split, λ tells. subst (λ all. Ran all false) gives.gives (ran tells))

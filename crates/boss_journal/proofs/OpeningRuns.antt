-- What a crash may leave while a journal is opened.
use Rattle.std.proofs.Common.{◌≡◌, ℕ, ◌⊎◌, inl, inr, ⊎_elim, List, sym, subst, ◌∙◌}
use Rattle.std.specs.Prelude.{Result, Ok}
use Rattle.boss_disk.specs.Runs.{Leaves, Since}
use Rattle.boss_disk.specs.Story.{Story, Steps}
use Rattle.boss_disk.specs.Window.{IsImage, settled}
use Rattle.boss_disk.proofs.Runs.{stands, tries_on, then_through, weaker}
use Rattle.boss_disk.proofs.Torn.{settled_image}
use Rattle.boss_journal.specs.declared.start.Start.{Start}
use Rattle.boss_journal.specs.declared.start.Start.TheVariants.{Short, Begun, Fresh, Old}
use Rattle.boss_journal.specs.Fronts.{IsNew}
use Rattle.boss_journal.specs.Opens.{IsStart, WhileOpening}

-- what was found is new or not
pub new_or_found : (digest bytes : List ℕ) (start : Start) → IsStart digest bytes (Ok start) → IsNew digest bytes ⊎ (IsNew digest bytes → ⊥)
new_or_found digest bytes Short short = inl (inl short)
new_or_found digest bytes Begun begun = inl (inr (inl begun.0))
new_or_found digest bytes (Fresh version) fresh = inl (inr (inr (version, fresh)))
new_or_found digest bytes (Old version) found = inr found.not_new

-- the sync leaves what might have been left before
pub sync_run : {T E : Type 0} (digest reads : List ℕ) (old mid : Story) (result : Result T E) → IsImage old.window reads
    → Steps (settled reads) old.window old mid result → Since (WhileOpening digest reads old.window) old mid
sync_run digest reads old mid result holds steps =
    tries_on {Q = Leaves (WhileOpening digest reads old.window)} old old mid result
    (stands old (λ bytes image. inl image)) steps
    (λ bytes image. inl (subst (IsImage old.window) (sym (settled_image reads bytes image)) holds))
    (λ bytes image. inl image)

-- making leaves new bytes, of new ones
pub opening_run : (digest reads held : List ℕ) (old mid found new : Story) → Since (WhileOpening digest reads old.window) old mid
    → found ≡ mid → held ≡ reads → IsNew digest held ⊎ (IsNew digest held → ⊥) → (IsNew digest held → Since (IsNew digest) found new)
    → ((IsNew digest held → ⊥) → new ≡ found) → Since (WhileOpening digest reads old.window) old new
opening_run digest reads held old mid found new run same kept side making still =
    ⊎_elim
    (λ fresh.
    let made : Since (IsNew digest) mid new = subst (λ (s : Story). Since (IsNew digest) s new) same (making fresh) in
    let is_new : IsNew digest reads = subst (IsNew digest) kept fresh in
    then_through old mid new run
    (weaker {Q = Leaves (IsNew digest)} {R = Leaves (WhileOpening digest reads old.window)} mid new
    (λ window leaves bytes image. inr (is_new, leaves bytes image)) made))
    (λ none. subst (Since (WhileOpening digest reads old.window) old) (sym (still none ∙ same)) run)
    side

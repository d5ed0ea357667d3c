use Rattle.std.proofs.Common.{◌≡◌, ℕ, ◌⊎◌, Bool, true, false, List, [], ◌∷◌, ◌++◌, length, drop, Result, Ok, Err, sym, ◌∙◌, ap, subst, refl, append_assoc, ⊎_elim, inl, inr, OnOk, rules}
use Rattle.std.specs.List.{All, Contains}
use Rattle.std.proofs.lemmas.List.{drop_at}
use Rattle.std.proofs.lemmas.List.Elements.{All-nil, All-append, All-push, All-weaker, All-contains}
use Rattle.boss_disk.specs.Window.{Window, settled, after_write, overwritten}
use Rattle.boss_disk.specs.Images.{torn_holds}
use Rattle.boss_disk.proofs.Torn.{settled_image}
use Rattle.boss_disk.specs.Story.{Story, Moves, Steps, WritesWhole, MayLeave}
use Rattle.boss_disk.specs.Runs.{Through, Leaves, Since, OfWrite, WritesThrough}

-- a run of no call
pub stands : {Q : Window → Type 0} (story : Story) → Q story.window → Through Q story story
stands {Q} story here = record { more = []; goes_on = Prim.search rules; each = All-nil Q; last = here }

-- one call more
pub moves_on : {Q : Window → Type 0} {next : Window} (old mid new : Story) → Through Q old mid → Moves next mid new → Q next → Through Q old new
moves_on {Q} old mid new run step here = record {
  more = run.more ++ mid.window ∷ [];
  goes_on = step.past ∙ ap (λ past. past ++ mid.window ∷ []) run.goes_on ∙ append_assoc old.past run.more (mid.window ∷ []);
  each = All-push Q run.more mid.window run.each run.last;
  last = subst Q (sym step.window) here;
}

-- one call more, which may have failed
pub tries_on : {T E : Type 0} {Q : Window → Type 0} {next failing : Window} (old mid new : Story) (result : Result T E)
    → Through Q old mid → Steps next failing mid new result → Q next → Q failing → Through Q old new
tries_on {T} {E} {Q} {next} {failing} old mid new (Ok x) run step here there = moves_on old mid new run step.done here
tries_on {T} {E} {Q} {next} {failing} old mid new (Err e) run step here there =
    ⊎_elim (λ still. subst (Through Q old) (sym still) run) (λ moved. moves_on old mid new run moved there) step.failed

-- one run behind another
pub then_through : {Q : Window → Type 0} (old mid new : Story) → Through Q old mid → Through Q mid new → Through Q old new
then_through {Q} old mid new one two = record {
  more = one.more ++ two.more;
  goes_on = two.goes_on ∙ ap (λ past. past ++ two.more) one.goes_on ∙ append_assoc old.past one.more two.more;
  each = All-append Q one.more two.more one.each two.each;
  last = two.last;
}

-- what holds of each window of one kind holds all the way
pub weaker : {Q R : Window → Type 0} (old new : Story) → ((window : Window) → Q window → R window) → Through Q old new → Through R old new
weaker {Q} {R} old new gives run = record {
  more = run.more;
  goes_on = run.goes_on;
  each = All-weaker Q R gives run.more run.each;
  last = gives new.window run.last;
}

-- what a crash may leave at a moment of the run is one of its images
pub since_moment : (P : List ℕ → Type 0) (old new : Story) → Since P old new
    → (bytes : List ℕ) → MayLeave new (length old.past) bytes → P bytes
since_moment P old new run bytes left =
    let e : drop (length old.past) (new.past ++ new.window ∷ []) ≡ run.more ++ new.window ∷ [] =
    ap (λ past. drop (length old.past) (past ++ new.window ∷ [])) run.goes_on
    ∙ ap (drop (length old.past)) (append_assoc old.past run.more (new.window ∷ []))
    ∙ drop_at old.past (run.more ++ new.window ∷ []) (length old.past) refl in
    let each : All (Leaves P) (run.more ++ new.window ∷ []) = All-push (Leaves P) run.more new.window run.each run.last in
    All-contains (Leaves P) (run.more ++ new.window ∷ []) left.0 each (subst (λ windows. Contains windows left.0) e left.1) bytes left.2

-- a sync that is done leaves a settled disk
settles : {T E : Type 0} (at : ℕ) (bytes held now : List ℕ) (mid new : Story) (result : Result T E) → now ≡ overwritten at bytes held
    → OnOk result (Moves (settled now) mid new) → OnOk result (new.window ≡ settled (overwritten at bytes held))
settles at bytes held now mid new (Ok x) over moved = moved.window ∙ ap settled over
settles at bytes held now mid new (Err e) over moved = tt

-- a write that was done, and a sync
pub wrote_through : {T E : Type 0} (at : ℕ) (bytes held now : List ℕ) (old mid new : Story) (result : Result T E)
    → now ≡ overwritten at bytes held → Moves (after_write at (length bytes) old.window) old mid
    → Steps (settled now) mid.window mid new result → WritesThrough at bytes held old new result
wrote_through {T} {E} at bytes held now old mid new result over first second = record {
  windows =
      tries_on {Q = OfWrite at bytes held old.window} old mid new result
      (moves_on {Q = OfWrite at bytes held old.window} old old mid (stands old (inl refl)) first (inr (inl refl)))
      second (inr (inr (ap settled over))) (inr (inl first.window));
  kept = settles at bytes held now mid new result over second.done;
}

-- what is sure of what a crash may leave of the torn write, and of the bytes once written, is sure all the way
pub write_leaves : {T E : Type 0} (P : List ℕ → Type 0) (at : ℕ) (bytes held : List ℕ) (old new : Story) (result : Result T E)
    → WritesThrough at bytes held old new result → Leaves P (after_write at (length bytes) old.window)
    → P (overwritten at bytes held) → Since P old new
write_leaves {T} {E} P at bytes held old new result run torn done =
    weaker old new
    (λ window of.
    ⊎_elim
    (λ same. subst (Leaves P) (sym same) (λ image is. torn image (torn_holds at (length bytes) old.window image is)))
    (⊎_elim (λ same. subst (Leaves P) (sym same) torn)
    (λ same. subst (Leaves P) (sym same) (λ image is. subst P (sym (settled_image (overwritten at bytes held) image is)) done)))
    of)
    run.windows

still_or_moved : (P : List ℕ → Type 0) (next : Window) (old new : Story) → Since P old old → Leaves P next
    → (new ≡ old) ⊎ Moves next old new → Since P old new
still_or_moved P next old new here there went =
    ⊎_elim (λ still. subst (Since P old) (sym still) here) (λ moved. moves_on {Q = Leaves P} old old new here moved there) went

whole_by : {E : Type 0} (P : List ℕ → Type 0) (at : ℕ) (bytes held now : List ℕ) (old new : Story) (result : Result Bool E)
    → WritesWhole at bytes held now old new result → Since P old old → Leaves P (settled (overwritten at bytes held)) → Since P old new
whole_by P at bytes held now old new (Ok true) run here there = still_or_moved P _ old new here there (inr (run.done refl).1)
whole_by P at bytes held now old new (Ok false) run here there = still_or_moved P _ old new here there (inl (run.passed refl).1)
whole_by P at bytes held now old new (Err e) run here there = still_or_moved P _ old new here there run.failed

-- what is sure of what a crash may leave before bytes are written whole, and of the bytes once written, is sure all the way
pub whole_leaves : {E : Type 0} (P : List ℕ → Type 0) (at : ℕ) (bytes held now : List ℕ) (old new : Story) (result : Result Bool E)
    → WritesWhole at bytes held now old new result → Leaves P old.window → P (overwritten at bytes held) → Since P old new
whole_leaves {E} P at bytes held now old new result run before done =
    let here : Since P old old = stands old before in
    let there : Leaves P (settled (overwritten at bytes held)) =
    λ image is. subst P (sym (settled_image (overwritten at bytes held) image is)) done in
    whole_by P at bytes held now old new result run here there

-- What a crash may leave while byte 0 is put to 0 and the rest is cut away.
use Rattle.std.proofs.Common.{◌≡◌, ℕ, zero, suc, ◌≤◌, max, inl, inr, List, [], ◌∷◌, ◌++◌, length, drop, Result, refl, sym, ap, subst, ◌∙◌, arith}
use Rattle.boss_disk.specs.Fronts.{KeepsFront}
use Rattle.boss_disk.specs.Runs.{Leaves, Since, WritesThrough}
use Rattle.boss_disk.specs.Story.{Story, Steps}
use Rattle.boss_disk.specs.Window.{Window, settled, after_write, after_cut}
use Rattle.boss_disk.proofs.Fronts.{front_cut, front_image}
use Rattle.boss_disk.proofs.Runs.{stands, tries_on, write_leaves}
use Rattle.boss_disk.proofs.Torn.{synced_image, write_over}
use Rattle.boss_snapshot.specs.Writes.{Clearing, IsZero}

as_it_was : (held : List ℕ) → Clearing held held
as_it_was [] = inl (inl (omega arith))
as_it_was (zero ∷ rest) = inl (inr (record { rest = rest; is = refl }))
as_it_was (suc n ∷ rest) = inr (record {
  old = suc n;
  new = suc n;
  rest = rest;
  old_is = λ no. cc;
  new_is = λ no. cc;
  before = refl;
  now = refl;
})

pub still_held : (held : List ℕ) (old new : Story) → new ≡ old → old.window ≡ settled held → Since (Clearing held) old new
still_held held old new still synced =
    subst (Since (Clearing held) old) (sym still)
    (stands old (λ image is. subst (Clearing held) (sym (synced_image old.window held image synced is)) (as_it_was held)))

-- one byte in front of the same rest
one_in_front : (x : ℕ) (rest image torn : List ℕ) → (IsZero (x ∷ rest) → ⊥) → image ≡ torn ++ rest → length torn ≡ 1 → Clearing (x ∷ rest) image
one_in_front x rest image [] other is one = absurd (omega (arith, one))
one_in_front zero rest image (y ∷ []) other is one = absurd (other (record { rest = rest; is = refl }))
one_in_front (suc n) rest image (zero ∷ []) other is one = inl (inr (record { rest = rest; is = is }))
one_in_front (suc n) rest image (suc m ∷ []) other is one = inr (record {
  old = suc n;
  new = suc m;
  rest = rest;
  old_is = λ no. cc;
  new_is = λ no. cc;
  before = refl;
  now = is;
})
one_in_front x rest image (y ∷ z ∷ more) other is one = absurd (omega (arith, one))

torn_zero : (held : List ℕ) (window : Window) → (IsZero held → ⊥) → window ≡ settled held → Leaves (Clearing held) (after_write 0 1 window)
torn_zero [] window other synced image torn =
    let within : length image ≤ max window.most 1 = torn.within in
    let most : window.most ≡ 0 = ap (λ (w : Window). w.most) synced in
    inl (inl (omega arith))
torn_zero (x ∷ rest) window other synced image torn =
    let found = write_over [] (x ∷ []) rest (x ∷ rest) 0 1 window image synced refl refl refl torn in
    one_in_front x rest image found.0 other found.1 found.2

zero_images : {T E : Type 0} (held : List ℕ) (old new : Story) (result : Result T E) → (IsZero held → ⊥) → old.window ≡ settled held
    → WritesThrough 0 (0 ∷ []) held old new result → Since (Clearing held) old new
zero_images held old new result other synced run =
    write_leaves (Clearing held) 0 (0 ∷ []) held old new result run (torn_zero held old.window other synced)
    (inl (inr (record { rest = drop 1 held; is = refl })))

-- the same where a look at the disk came before
pub zero_run : {T E : Type 0} (held same : List ℕ) (old mid new : Story) (result : Result T E) → mid ≡ old → same ≡ held → (IsZero held → ⊥)
    → old.window ≡ settled held → WritesThrough 0 (0 ∷ []) same mid new result → Since (Clearing held) old new
zero_run held same old mid new result still is other synced run =
    zero_images held old new result other synced
    (subst (λ (s : Story). WritesThrough 0 (0 ∷ []) held s new result) still (subst (λ h. WritesThrough 0 (0 ∷ []) h mid new result) is run))

pub zero_image : (window : Window) → KeepsFront (0 ∷ []) window → Leaves IsZero window
zero_image window keeps image is = let found = front_image (0 ∷ []) window keeps image is in record { rest = found.0; is = found.1 }

cut_zero : (now : List ℕ) (window : Window) → IsZero now → window ≡ settled now → KeepsFront (0 ∷ []) (after_cut 1 window)
cut_zero now window first synced =
    subst (λ w. KeepsFront (0 ∷ []) (after_cut 1 w)) (sym (synced ∙ ap settled first.is)) (front_cut (0 ∷ []) first.rest 1 refl)

pub cut_run : {T E : Type 0} (held now : List ℕ) (old mid new : Story) (result : Result T E) → Since (Clearing held) old mid → IsZero now
    → mid.window ≡ settled now → Steps (after_cut 1 mid.window) (after_cut 1 mid.window) mid new result → Since (Clearing held) old new
cut_run held now old mid new result before first synced step =
    let next : Leaves (Clearing held) (after_cut 1 mid.window) =
    λ image is. inl (inr (zero_image (after_cut 1 mid.window) (cut_zero now mid.window first synced) image is)) in
    tries_on {Q = Leaves (Clearing held)} old mid new result before step next next

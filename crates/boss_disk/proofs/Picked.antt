use Rattle.std.proofs.Common.{◌≡◌, ℕ, Bool, ◌+◌, ◌≤◌, ◌<◌, List, [], length, get_or, Option, Some, None, inl, inr, ⊎_elim, sym, ◌∙◌, ap, subst, arith, set, Result, Ok, Err, IfOk}
use Rattle.std.proofs.lemmas.Bool.{cases_lt, cases_eq}
use Rattle.std.proofs.lemmas.List.{ext_get_or, get_or_past, length-set, get_or-set_same, get_or-set_other}
use Rattle.boss_disk.specs.declared.failures.Failures.{Failures}
use Rattle.boss_disk.specs.Window.{Window, IsImage}
use Rattle.boss_disk.specs.Picked.{IsPicked, picked}
use Rattle.boss_disk.specs.Record.{DiskRecord, DiskState}
use Rattle.boss_disk.specs.Marks.{mark, length-written, mark-written_in, mark-written_out, agrees_from, agrees_length}
use Rattle.boss_disk.specs.Window.{written}
use Rattle.boss_disk.specs.Images.{Holds}

-- a picked byte is the one that stays
picked_kept : (pick place kept byte : ℕ) (there : Option ℕ) → there ≡ Some kept → picked pick place there byte ≡ kept
picked_kept pick place kept byte there is = ap (λ m. picked pick place m byte) is

-- whatever the pick, it is an image
pub picked_image : (pick : ℕ) (state : DiskState) (image : List ℕ) → Holds state → IsPicked pick state image
    → IsImage state.story.window image
picked_image pick state image held is =
    ⊎_elim
    (λ zero. subst (IsImage state.story.window) (sym (is.last zero)) held.synced)
    (λ other.
    let size : length image ≡ length state.bytes = is.size other in
    let long = agrees_length state.story.window.stays state.bytes held.bytes.stays in
    let within = held.bytes.within in
    record {
      stays =
          agrees_from state.story.window.stays image (omega arith)
          (λ place kept named.
          ⊎_elim
          (λ inside. is.each other place inside ∙ picked_kept pick place kept (get_or state.bytes place 0) (mark state.story.window.stays place) named)
          (λ past. let none = get_or_past state.story.window.stays place None (omega arith) in cc)
          (cases_lt place (length image)));
      within = omega arith;
    })
    (cases_eq pick 0)

-- the mark that is forgotten, and the others
mark_here : (at count : ℕ) (marks : List (Option ℕ)) (place : ℕ) → at + count < length marks → place ≡ at + count
    → get_or (set (written at count marks) (at + count) None) place None ≡ mark (written at (count + 1) marks) place
mark_here at count marks place inside here =
    let low : at + count < length (written at count marks) = omega (arith, length-written at count marks) in
    ap (λ k. get_or (set (written at count marks) (at + count) None) k None) here
    ∙ get_or-set_same (written at count marks) (at + count) None None low
    ∙ sym (mark-written_in at (count + 1) marks place (omega arith) (omega arith))

mark_elsewhere : (at count : ℕ) (marks : List (Option ℕ)) (place : ℕ) → (place ≡ at + count → ⊥)
    → get_or (set (written at count marks) (at + count) None) place None ≡ mark (written at (count + 1) marks) place
mark_elsewhere at count marks place other =
    get_or-set_other (written at count marks) (at + count) place None None other
    ∙ ⊎_elim
    (λ low. mark-written_out at count marks place (inl low) ∙ sym (mark-written_out at (count + 1) marks place (inl low)))
    (λ from.
    ⊎_elim
    (λ to. mark-written_in at count marks place from to ∙ sym (mark-written_in at (count + 1) marks place from (omega arith)))
    (λ high.
    let past : at + (count + 1) ≤ place = omega arith in
    mark-written_out at count marks place (inr high) ∙ sym (mark-written_out at (count + 1) marks place (inr past)))
    (cases_lt place (at + count)))
    (cases_lt place at)

-- one mark more is forgotten
pub written_more : (at count : ℕ) (marks : List (Option ℕ)) → at + count < length marks
    → set (written at count marks) (at + count) None ≡ written at (count + 1) marks
written_more at count marks inside =
    ext_get_or None (set (written at count marks) (at + count) None) (written at (count + 1) marks)
    (length-set (written at count marks) (at + count) None ∙ length-written at count marks ∙ sym (length-written at (count + 1) marks))
    (λ place low. ⊎_elim (mark_here at count marks place inside) (mark_elsewhere at count marks place) (cases_eq place (at + count)))

-- a disk that starts with an image
pub starts_with : {E : Type 0} (window : Window) (contents : List ℕ) (failures : Failures) (is_whole : Bool) (result : Result DiskRecord E)
    → IsImage window contents → IfOk result (λ disk. disk ≡ record { start = contents; calls = []; failures = failures; is_whole = is_whole })
    → IfOk result (λ disk. IsImage window disk.start)
starts_with window contents failures is_whole (Ok disk) image is = subst (IsImage window) (sym (ap (λ (d : DiskRecord). d.start) is)) image
starts_with window contents failures is_whole (Err e) image is = tt

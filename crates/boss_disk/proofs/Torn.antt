use Rattle.std.proofs.Common.{◌≡◌, ℕ, suc, ◌+◌, ◌≤◌, List, [], ◌∷◌, ◌++◌, length, map, take, drop, max, Option, Some, sym, ◌∙◌, ap, subst, refl, append_assoc, append-nil, length-append, arith}
use Rattle.std.proofs.lemmas.List.{drop_at, take_at, length-map, map-append, drop-drop}
use Rattle.boss_disk.specs.Window.{Window, Agrees, IsImage, settled, forgotten, after_write, overwritten}

-- marks of bytes that all stay: these bytes come first
pub agrees_front : (front : List ℕ) (marks : List (Option ℕ)) (bytes : List ℕ) → Agrees (map Some front ++ marks) bytes
    → (rest : List ℕ) × (bytes ≡ front ++ rest) × Agrees marks rest
agrees_front [] marks bytes fits = (bytes, refl, fits)
agrees_front (kept ∷ front) marks [] fits = absurd fits
agrees_front (kept ∷ front) marks (byte ∷ bytes) fits =
    let found = agrees_front front marks bytes fits.1 in
    (found.0, ap (λ head. head ∷ bytes) fits.0 ∙ ap (λ tail. kept ∷ tail) found.1, found.2)

-- marks of bytes that need not stay: as many come first
agrees_blank : (gone : List (Option ℕ)) (marks : List (Option ℕ)) (bytes : List ℕ) → Agrees (forgotten gone ++ marks) bytes
    → (mid : List ℕ) × (rest : List ℕ) × (bytes ≡ mid ++ rest) × (length mid ≡ length gone) × Agrees marks rest
agrees_blank [] marks bytes fits = ([], bytes, refl, refl, fits)
agrees_blank (mark ∷ gone) marks [] fits = absurd fits
agrees_blank (mark ∷ gone) marks (byte ∷ bytes) fits =
    let found = agrees_blank gone marks bytes fits in
    (byte ∷ found.0, found.1, ap (λ tail. byte ∷ tail) found.2, ap suc found.3, found.4)

-- where all bytes stay and no more can come, the bytes are these
none_behind : (front rest bytes : List ℕ) → bytes ≡ front ++ rest → length bytes ≤ length front → bytes ≡ front
none_behind front [] bytes is short = is ∙ append-nil front
none_behind front (byte ∷ rest) bytes is short =
    let size : length bytes ≡ length front + length (byte ∷ rest) = ap length is ∙ length-append front (byte ∷ rest) in
    absurd (omega arith)

-- a crash leaves of a settled disk what a read gives
pub settled_image : (held bytes : List ℕ) → IsImage (settled held) bytes → bytes ≡ held
settled_image held bytes image =
    let found = agrees_front held [] bytes (subst (λ marks. Agrees marks bytes) (sym (append-nil (map Some held))) image.stays) in
    none_behind held found.0 bytes found.1 image.within

-- the same of a window that is known to be settled
pub synced_image : (window : Window) (held bytes : List ℕ) → window ≡ settled held → IsImage window bytes → bytes ≡ held
synced_image window held bytes is image = settled_image held bytes (subst (λ w. IsImage w bytes) is image)

-- the marks of a settled disk after a write behind a front
marks_behind : (front tail : List ℕ) (count : ℕ) → (after_write (length front) count (settled (front ++ tail))).stays
    ≡ map Some front ++ (forgotten (take count (map Some tail)) ++ drop count (map Some tail))
marks_behind front tail count =
    let parts : map Some (front ++ tail) ≡ map Some front ++ map Some tail = map-append Some front tail in
    let size : length (map Some front) ≡ length front = length-map front Some in
    let head : take (length front) (map Some (front ++ tail)) ≡ map Some front =
    ap (take (length front)) parts ∙ take_at (map Some front) (map Some tail) (length front) size in
    let back : drop (length front) (map Some (front ++ tail)) ≡ map Some tail =
    ap (drop (length front)) parts ∙ drop_at (map Some front) (map Some tail) (length front) size in
    let far : drop (length front + count) (map Some (front ++ tail)) ≡ drop count (map Some tail) =
    sym (drop-drop count (length front) (map Some (front ++ tail))) ∙ ap (drop count) back in
    ap (λ a. a ++ forgotten (take count (drop (length front) (map Some (front ++ tail)))) ++ drop (length front + count) (map Some (front ++ tail))) head
    ∙ ap (λ b. map Some front ++ forgotten (take count b) ++ drop (length front + count) (map Some (front ++ tail))) back
    ∙ ap (λ d. map Some front ++ forgotten (take count (map Some tail)) ++ d) far
    ∙ append_assoc (map Some front) (forgotten (take count (map Some tail))) (drop count (map Some tail))

-- a torn write leaves what stands in front of it
pub write_behind : (front tail held : List ℕ) (at count : ℕ) (window : Window) (bytes : List ℕ) → window ≡ settled held
    → held ≡ front ++ tail → at ≡ length front → IsImage (after_write at count window) bytes
    → (rest : List ℕ) × (bytes ≡ front ++ rest)
write_behind front tail held at count window bytes synced is here torn =
    let image : IsImage (after_write at count (settled held)) bytes = subst (λ w. IsImage (after_write at count w) bytes) synced torn in
    let same : (after_write at count (settled held)).stays ≡ (after_write (length front) count (settled (front ++ tail))).stays =
    ap (λ n. (after_write n count (settled held)).stays) here ∙ ap (λ h. (after_write (length front) count (settled h)).stays) is in
    let fits = subst (λ marks. Agrees marks bytes) (same ∙ marks_behind front tail count) image.stays in
    let found = agrees_front front (forgotten (take count (map Some tail)) ++ drop count (map Some tail)) bytes fits in
    (found.0, found.1)

-- the marks of a settled disk after a write within its bytes
marks_over : (front mid back : List ℕ) → (after_write (length front) (length mid) (settled (front ++ (mid ++ back)))).stays
    ≡ map Some front ++ (forgotten (map Some mid) ++ map Some back)
marks_over front mid back =
    let parts : map Some (mid ++ back) ≡ map Some mid ++ map Some back = map-append Some mid back in
    let size : length (map Some mid) ≡ length mid = length-map mid Some in
    let head : take (length mid) (map Some (mid ++ back)) ≡ map Some mid =
    ap (take (length mid)) parts ∙ take_at (map Some mid) (map Some back) (length mid) size in
    let tail : drop (length mid) (map Some (mid ++ back)) ≡ map Some back =
    ap (drop (length mid)) parts ∙ drop_at (map Some mid) (map Some back) (length mid) size in
    marks_behind front (mid ++ back) (length mid)
    ∙ ap (λ h. map Some front ++ (forgotten h ++ drop (length mid) (map Some (mid ++ back)))) head
    ∙ ap (λ t. map Some front ++ (forgotten (map Some mid) ++ t)) tail

-- bytes that agree with these marks, and are no more
parts_over : (front mid back bytes : List ℕ) → Agrees (map Some front ++ (forgotten (map Some mid) ++ map Some back)) bytes
    → length bytes ≤ length front + (length mid + length back)
    → (torn : List ℕ) × (bytes ≡ front ++ (torn ++ back)) × (length torn ≡ length mid)
parts_over front mid back bytes fits within =
    let first = agrees_front front (forgotten (map Some mid) ++ map Some back) bytes fits in
    let second = agrees_blank (map Some mid) (map Some back) first.0 first.2 in
    let third = agrees_front back [] second.1 (subst (λ m. Agrees m second.1) (sym (append-nil (map Some back))) second.4) in
    let whole : length bytes ≡ length front + (length second.0 + length second.1) =
    ap length first.1 ∙ length-append front first.0
    ∙ ap (λ n. length front + n) (ap length second.2 ∙ length-append second.0 second.1) in
    let torn : length second.0 ≡ length mid = second.3 ∙ length-map mid Some in
    let short : length second.1 ≤ length back = omega arith in (
      second.0,
      first.1 ∙ ap (λ r. front ++ r) (second.2 ∙ ap (λ r. second.0 ++ r) (none_behind back third.0 second.1 third.1 short)),
      torn,
    )

-- a torn write within the bytes leaves what stands in front of it and behind it
pub write_over : (front mid back held : List ℕ) (at count : ℕ) (window : Window) (bytes : List ℕ) → window ≡ settled held
    → held ≡ front ++ (mid ++ back) → at ≡ length front → count ≡ length mid → IsImage (after_write at count window) bytes
    → (torn : List ℕ) × (bytes ≡ front ++ (torn ++ back)) × (length torn ≡ length mid)
write_over front mid back held at count window bytes synced is here many torn =
    let image : IsImage (after_write at count (settled held)) bytes = subst (λ w. IsImage (after_write at count w) bytes) synced torn in
    let same : (after_write at count (settled held)).stays ≡ (after_write (length front) (length mid) (settled (front ++ (mid ++ back)))).stays =
    ap (λ n. (after_write n count (settled held)).stays) here
    ∙ ap (λ n. (after_write (length front) n (settled held)).stays) many
    ∙ ap (λ h. (after_write (length front) (length mid) (settled h)).stays) is in
    let most : length held ≡ length front + (length mid + length back) =
    ap length is ∙ length-append front (mid ++ back) ∙ ap (λ n. length front + n) (length-append mid back) in
    let within : length bytes ≤ max (length held) (at + count) = image.within in
    parts_over front mid back bytes (subst (λ m. Agrees m bytes) (same ∙ marks_over front mid back) image.stays) (omega arith)

-- what a write behind a front leads to
pub overwritten_behind : (front tail held bytes : List ℕ) (at : ℕ) → held ≡ front ++ tail → at ≡ length front
    → overwritten at bytes held ≡ front ++ (bytes ++ drop (length bytes) tail)
overwritten_behind front tail held bytes at is here =
    let head : take at held ≡ front = ap (take at) is ∙ take_at front tail at (sym here) in
    let back : drop at held ≡ tail = ap (drop at) is ∙ drop_at front tail at (sym here) in
    let far : drop (at + length bytes) held ≡ drop (length bytes) tail =
    sym (drop-drop (length bytes) at held) ∙ ap (drop (length bytes)) back in
    ap (λ h. h ++ bytes ++ drop (at + length bytes) held) head ∙ ap (λ d. front ++ bytes ++ d) far
    ∙ append_assoc front bytes (drop (length bytes) tail)

-- what a write over as many bytes leads to
pub overwritten_parts : (front mid back held bytes : List ℕ) (at : ℕ) → held ≡ front ++ (mid ++ back) → at ≡ length front
    → length bytes ≡ length mid → overwritten at bytes held ≡ front ++ (bytes ++ back)
overwritten_parts front mid back held bytes at is here many =
    overwritten_behind front (mid ++ back) held bytes at is here
    ∙ ap (λ d. front ++ (bytes ++ d)) (drop_at mid back (length bytes) (sym many))

-- What is written of a state, and what a crash may leave while it is.
use Rattle.std.proofs.Common.{◌≡◌, ℕ, zero, suc, ◌+◌, ◌-◌, ⊎_elim, inl, inr, List, [], ◌∷◌, ◌++◌, length, take, drop, Result, refl, sym, ap, ◌∙◌, append_assoc, append-nil, length-append, arith}
use Rattle.std.specs.Int.{w64}
use Rattle.boss_disk.specs.Fronts.{KeepsFront}
use Rattle.boss_disk.specs.Runs.{Leaves, Since, WritesThrough}
use Rattle.boss_disk.specs.Story.{Story, Steps}
use Rattle.boss_disk.specs.Window.{Window, settled, overwritten}
use Rattle.boss_disk.proofs.Runs.{stands, tries_on, then_through, weaker, write_leaves}
use Rattle.boss_disk.proofs.Torn.{settled_image, overwritten_parts, write_over}
use Rattle.def_bytes.specs.Fields.{number_text}
use Rattle.boss_model.specs.State.{Persistent}
use Rattle.std.proofs.lemmas.List.{take_at, drop_at, drop-drop}
use Rattle.std.proofs.Math.Seq.{take-add}
use Rattle.def_log.specs.Kinds.{state_mark}
use Rattle.def_log.specs.Versions.{newest_version}
use Rattle.def_seal.specs.Seals.{seed_of, sum_of}
use Rattle.def_seal.proofs.Seals.{length-seed_of, length-sum_of, seed_of_front}
use Rattle.def_disk_pair.specs.Fronts.{kept_head, kept_seed}
use Rattle.boss_snapshot.specs.Drafts.{Goes}
use Rattle.boss_snapshot.specs.Writes.{Clearing, Marking, WhileWriting, state_front, state_opening, state_text}
use Rattle.boss_snapshot.proofs.Clearings.{zero_image}

-- ---- the bytes

pub all_text : (held three four now one two second fourth summed fifth opening size seed text sum : List ℕ) → one ≡ opening → two ≡ one ++ size → second ≡ two ++ seed
    → three ≡ (held ++ second) ++ text → four ++ fourth ≡ three → summed ≡ fourth ++ sum → fifth ≡ summed ++ 0 ∷ [] → now ≡ four ++ fifth → held ≡ 0 ∷ []
    → now ≡ (0 ∷ []) ++ (opening ++ ((size ++ seed) ++ (text ++ (sum ++ 0 ∷ []))))
all_text held three four now one two second fourth summed fifth opening size seed text sum is next beside kept same total gate all alone =
    all ∙ ap (λ l. four ++ l) (gate ∙ ap (λ l. l ++ 0 ∷ []) total ∙ append_assoc fourth sum (0 ∷ []))
    ∙ sym (append_assoc four fourth (sum ++ 0 ∷ [])) ∙ ap (λ l. l ++ (sum ++ 0 ∷ [])) (same ∙ kept)
    ∙ append_assoc (held ++ second) text (sum ++ 0 ∷ []) ∙ append_assoc held second (text ++ (sum ++ 0 ∷ []))
    ∙ ap (λ l. l ++ (second ++ (text ++ (sum ++ 0 ∷ [])))) alone
    ∙ ap (λ l. (0 ∷ []) ++ (l ++ (text ++ (sum ++ 0 ∷ [])))) (beside ∙ ap (λ l. l ++ seed) (next ∙ ap (λ l. l ++ size) is) ∙ append_assoc opening size seed)
    ∙ ap (λ l. (0 ∷ []) ++ l) (append_assoc opening (size ++ seed) (text ++ (sum ++ 0 ∷ [])))

pub long_word : (n : ℕ) → length (number_text w64 n) ≡ 8
unfolding number_text
long_word n = refl

module _ (digest : List ℕ) (generation events : ℕ) (size : length digest ≡ 32) where
  opening_long : length (state_opening digest generation events) ≡ 56
  opening_long = omega (
    arith,
    size,
    length-append (state_mark ++ newest_version ∷ digest) (number_text w64 generation ++ number_text w64 events),
    length-append (number_text w64 generation) (number_text w64 events),
    length-append state_mark (newest_version ∷ digest),
    long_word generation,
    long_word events,
  )

-- the length behind the numbers, as a part of the head
headed : (digest g e n z : List ℕ) → (digest ++ (g ++ e)) ++ (n ++ z) ≡ (digest ++ (g ++ (e ++ n))) ++ z
headed digest g e n z =
    append_assoc digest (g ++ e) (n ++ z) ∙ ap (λ t. digest ++ t) (append_assoc g e (n ++ z))
    ∙ ap (λ t. digest ++ (g ++ t)) (sym (append_assoc e n z)) ∙ ap (λ t. digest ++ t) (sym (append_assoc g (e ++ n) z))
    ∙ sym (append_assoc digest (g ++ (e ++ n)) z)

-- the parts of a kept state, with the gate
gathered : (digest g e n seed text sum : List ℕ) → ((digest ++ (g ++ e)) ++ n) ++ (seed ++ (text ++ (sum ++ 0 ∷ [])))
    ≡ (digest ++ (g ++ (e ++ (n ++ (seed ++ (text ++ sum)))))) ++ 0 ∷ []
gathered digest g e n seed text sum =
    append_assoc (digest ++ (g ++ e)) n (seed ++ (text ++ (sum ++ 0 ∷ [])))
    ∙ ap (λ t. (digest ++ (g ++ e)) ++ (n ++ t)) (ap (λ t. seed ++ t) (sym (append_assoc text sum (0 ∷ []))) ∙ sym (append_assoc seed (text ++ sum) (0 ∷ [])))
    ∙ ap (λ t. (digest ++ (g ++ e)) ++ t) (sym (append_assoc n (seed ++ (text ++ sum)) (0 ∷ [])))
    ∙ headed digest g e (n ++ (seed ++ (text ++ sum))) (0 ∷ [])

module _ (digest : List ℕ) (generation events : ℕ) (d : Persistent) (size : length digest ≡ 32) (held : List ℕ)
    (is : held ≡ (0 ∷ []) ++ (state_opening digest generation events ++ ((number_text w64 0 ++ number_text w64 0) ++ (state_text d ++ (number_text w64 0 ++ 0 ∷ []))))) where
  abbrev none : List ℕ
  none = number_text w64 0

  abbrev many : ℕ
  many = length (state_text d) + 8

  -- up to the length
  abbrev opened : List ℕ
  opened = (0 ∷ []) ++ state_opening digest generation events

  -- and with it
  abbrev headed_by : List ℕ
  headed_by = opened ++ number_text w64 many

  abbrev seed : List ℕ
  seed = kept_seed newest_version digest generation events (state_text d)

  opened_long : 57 ≡ length opened
  opened_long = let opening = opening_long digest generation events size in omega (arith, opening)

  headed_long : 65 ≡ length headed_by
  headed_long = omega (arith, opened_long, length-append opened (number_text w64 many), long_word many)

  pub held_long : length held ≡ 82 + length (state_text d)
  held_long =
      omega (
        arith,
        ap length is,
        opening_long digest generation events size,
        length-append (state_opening digest generation events) ((none ++ none) ++ (state_text d ++ (none ++ 0 ∷ []))),
        length-append (none ++ none) (state_text d ++ (none ++ 0 ∷ [])),
        length-append none none,
        length-append (state_text d) (none ++ 0 ∷ []),
        length-append none (0 ∷ []),
        long_word 0,
      )

  pub with_size : (now : List ℕ) (n : ℕ) → n ≡ many → now ≡ overwritten 57 (number_text w64 n) held → now ≡ headed_by ++ (none ++ (state_text d ++ (none ++ 0 ∷ [])))
  with_size now n count over =
      let shape : held ≡ opened ++ (none ++ (none ++ (state_text d ++ (none ++ 0 ∷ [])))) =
      is ∙ ap (λ t. opened ++ t) (append_assoc none none (state_text d ++ (none ++ 0 ∷ []))) in
      over ∙ overwritten_parts opened none (none ++ (state_text d ++ (none ++ 0 ∷ []))) held (number_text w64 n) 57 shape opened_long (long_word n ∙ sym (long_word 0))
      ∙ ap (λ m. opened ++ (number_text w64 m ++ (none ++ (state_text d ++ (none ++ 0 ∷ []))))) count
      ∙ sym (append_assoc opened (number_text w64 many) (none ++ (state_text d ++ (none ++ 0 ∷ []))))

  -- a length is written over, and so is a seed: the bytes are as many
  pub filled_long : (now eight : List ℕ) → length eight ≡ 8 → now ≡ headed_by ++ (eight ++ (state_text d ++ (none ++ 0 ∷ []))) → length now ≡ 82 + length (state_text d)
  filled_long now eight long here =
      omega (
        arith,
        ap length here,
        long,
        headed_long,
        length-append headed_by (eight ++ (state_text d ++ (none ++ 0 ∷ []))),
        length-append eight (state_text d ++ (none ++ 0 ∷ [])),
        length-append (state_text d) (none ++ 0 ∷ []),
        length-append none (0 ∷ []),
        long_word 0,
      )

  -- the seed is that of the head
  seed_given : (one more : List ℕ) → one ≡ headed_by ++ more → seed_of one ≡ seed
  seed_given one more here =
      let digits : List ℕ = number_text w64 many in
      let head : List ℕ = kept_head newest_version digest generation events many in
      let split : one ≡ (0 ∷ head) ++ more =
      here ∙ append_assoc opened digits more
      ∙ ap (λ t. 0 ∷ (state_mark ++ newest_version ∷ t)) (headed digest (number_text w64 generation) (number_text w64 events) digits more) in
      let long : length headed_by ≡ length (0 ∷ head) =
      ap length (ap (λ t. 0 ∷ (state_mark ++ newest_version ∷ t))
      (sym (append-nil ((digest ++ (number_text w64 generation ++ number_text w64 events)) ++ digits))
      ∙ append_assoc (digest ++ (number_text w64 generation ++ number_text w64 events)) digits [] ∙ headed digest (number_text w64 generation) (number_text w64 events) digits []
      ∙ append-nil (digest ++ (number_text w64 generation ++ (number_text w64 events ++ digits))))) in
      ap seed_of split ∙ seed_of_front 0 head more (omega (arith, long, headed_long))

  pub with_seed : (one two given : List ℕ) → one ≡ headed_by ++ (none ++ (state_text d ++ (none ++ 0 ∷ []))) → given ≡ seed_of one → two ≡ overwritten 65 given one →
      (given ≡ seed) × (two ≡ headed_by ++ (seed ++ (state_text d ++ (none ++ 0 ∷ []))))
  with_seed one two given here told over =
      let same : given ≡ seed = told ∙ seed_given one (none ++ (state_text d ++ (none ++ 0 ∷ []))) here in
      let eight : length given ≡ 8 = ap length told ∙ length-seed_of one in (
        same,
        over ∙ overwritten_parts headed_by none (state_text d ++ (none ++ 0 ∷ [])) one given 65 here headed_long (eight ∙ sym (long_word 0))
            ∙ ap (λ s. headed_by ++ (s ++ (state_text d ++ (none ++ 0 ∷ [])))) same,
      )

  pub with_sum : (two now given : List ℕ) (at : ℕ) → two ≡ headed_by ++ (seed ++ (state_text d ++ (none ++ 0 ∷ []))) → given ≡ seed → at ≡ 73 + length (state_text d) →
      now ≡ overwritten at (sum_of given 65 (take (at - 73) (drop 73 two))) two → now ≡ state_front 0 digest generation events d ++ 0 ∷ []
  unfolding state_text
  with_sum two now given at here same behind over =
      let text : List ℕ = state_text d in
      let front : List ℕ = headed_by ++ (seed ++ text) in
      let eight : length seed ≡ 8 = length-seed_of (0 ∷ kept_head newest_version digest generation events many) in
      let shape : two ≡ front ++ (none ++ 0 ∷ []) =
      here ∙ ap (λ t. headed_by ++ t) (sym (append_assoc seed text (none ++ 0 ∷ []))) ∙ sym (append_assoc headed_by (seed ++ text) (none ++ 0 ∷ [])) in
      let past : drop 73 two ≡ text ++ (none ++ 0 ∷ []) =
      sym (drop-drop 8 65 two) ∙ ap (drop 8) (ap (drop 65) here ∙ drop_at headed_by (seed ++ (text ++ (none ++ 0 ∷ []))) 65 (sym headed_long))
      ∙ drop_at seed (text ++ (none ++ 0 ∷ [])) 8 eight in
      let size_is : at - 73 ≡ length text = omega (arith, behind) in
      let taken : take (at - 73) (drop 73 two) ≡ text = ap (λ n. take n (drop 73 two)) size_is ∙ ap (take (length text)) past ∙ take_at text (none ++ 0 ∷ []) (length text) refl in
      let sum : List ℕ = sum_of seed 65 text in
      let is_sum : sum_of given 65 (take (at - 73) (drop 73 two)) ≡ sum = ap (λ s. sum_of s 65 (take (at - 73) (drop 73 two))) same ∙ ap (sum_of seed 65) taken in
      let here_at : at ≡ length front = omega (arith, behind, headed_long, eight, length-append headed_by (seed ++ text), length-append seed text) in
      over ∙ ap (λ s. overwritten at s two) is_sum
      ∙ overwritten_parts front none (0 ∷ []) two sum at shape here_at (length-sum_of seed 65 text ∙ sym (long_word 0))
      ∙ append_assoc headed_by (seed ++ text) (sum ++ 0 ∷ []) ∙ ap (λ t. headed_by ++ t) (append_assoc seed text (sum ++ 0 ∷ []))
      ∙ ap (λ t. 0 ∷ (state_mark ++ newest_version ∷ t))
      (gathered digest (number_text w64 generation) (number_text w64 events) (number_text w64 many) seed text sum)

-- a piece more of what is summed up
pub piece_on : (at done size : ℕ) (read reads : List ℕ) → at ≡ 73 → read ≡ reads →
    take done (drop 73 reads) ++ take size (drop (at + done) read) ≡ take (done + size) (drop 73 reads)
piece_on at done size read reads here same =
    ap (λ r. take done (drop 73 reads) ++ take size (drop (at + done) r)) same
    ∙ ap (λ p. take done (drop 73 reads) ++ take size (drop (p + done) reads)) here
    ∙ ap (λ t. take done (drop 73 reads) ++ take size t) (sym (drop-drop done 73 reads)) ∙ sym (take-add done size (drop 73 reads))

-- ---- the images

stays_marking : (tail : List ℕ) (window : Window) → KeepsFront (0 ∷ []) window → Leaves (Marking tail) window
stays_marking tail window keeps image is = inl (zero_image window keeps image is)

pub sync_run : {T E : Type 0} (tail held : List ℕ) (old new : Story) (result : Result T E) → held ≡ 0 ∷ tail → KeepsFront (0 ∷ []) old.window
    → Steps (settled held) old.window old new result → Since (Marking tail) old new
sync_run tail held old new result is keeps step =
    tries_on {Q = Leaves (Marking tail)} old old new result (stands {Q = Leaves (Marking tail)} old (stays_marking tail old.window keeps)) step
    (λ image there. inl (record { rest = tail; is = settled_image held image there ∙ is }))
    (stays_marking tail old.window keeps)

any_first : (tail image torn : List ℕ) → image ≡ torn ++ tail → length torn ≡ 1 → Marking tail image
any_first tail image [] is one = absurd (omega (arith, one))
any_first tail image (zero ∷ []) is one = inl (record { rest = tail; is = is })
any_first tail image (suc n ∷ []) is one = inr (suc n, (λ no. cc), is)
any_first tail image (x ∷ y ∷ more) is one = absurd (omega (arith, one))

pub mark_run : {T E : Type 0} (tail held : List ℕ) (old new : Story) (result : Result T E) → held ≡ 0 ∷ tail → old.window ≡ settled held
    → WritesThrough 0 (66 ∷ []) held old new result → Since (Marking tail) old new
mark_run tail held old new result is synced run =
    write_leaves (Marking tail) 0 (66 ∷ []) held old new result run
    (λ image torn. let found = write_over [] (0 ∷ []) tail held 0 1 old.window image synced is refl refl torn in any_first tail image found.0 found.1 found.2)
    (inr (66, (λ no. cc), overwritten_parts [] (0 ∷ []) tail held (66 ∷ []) 0 is refl refl))

-- of the whole call
module _ (was digest : List ℕ) (generation events : ℕ) (d : Persistent) where
  pub clear_leaves : (old new : Story) → Since (Clearing was) old new → Since (WhileWriting was digest generation events d) old new
  clear_leaves old new run = weaker old new (λ window leaves image is. inl (leaves image is)) run

  pub rest_leaves : (old mid new : Story) → Since (Clearing was) old mid → KeepsFront (0 ∷ []) mid.window → Goes mid new
      → Since (WhileWriting was digest generation events d) old new
  rest_leaves old mid new run keeps goes =
      then_through {Q = Leaves (WhileWriting was digest generation events d)} old mid new (clear_leaves old mid run)
      (weaker mid new (λ window zero image is. inl (inl (inr (zero_image window zero image is)))) (goes.run keeps))

  mark_leaves : (tail : List ℕ) (old new : Story) → ((first : ℕ) → first ∷ tail ≡ state_front first digest generation events d ++ 0 ∷ []) → Since (Marking tail) old new
      → Since (WhileWriting was digest generation events d) old new
  mark_leaves tail old new same run =
      weaker old new
      (λ window leaves image is.
      ⊎_elim (λ idle. inl (inl (inr idle))) (λ found. inr (record { first = found.0; marked = found.1; is = found.2 ∙ same found.0 })) (leaves image is))
      run

  pub all_leaves : (tail : List ℕ) (old mid late new : Story) → ((first : ℕ) → first ∷ tail ≡ state_front first digest generation events d ++ 0 ∷ [])
      → Since (Clearing was) old mid → KeepsFront (0 ∷ []) mid.window → Goes mid late
      → (KeepsFront (0 ∷ []) late.window → Since (Marking tail) late new) → Since (WhileWriting was digest generation events d) old new
  all_leaves tail old mid late new same run keeps goes marked =
      then_through {Q = Leaves (WhileWriting was digest generation events d)} old late new (rest_leaves old mid late run keeps goes)
      (mark_leaves tail late new same (marked (goes.run keeps).last))

-- ---- the place of the gate

pub front_long : (digest : List ℕ) (generation events : ℕ) (d : Persistent) → length digest ≡ 32
    → length (state_front 0 digest generation events d) ≡ 81 + length (state_text d)
front_long digest generation events d size =
    let text : List ℕ = state_text d in
    let seed : List ℕ = kept_seed newest_version digest generation events text in
    let sum : List ℕ = sum_of seed 65 text in
    let words : List ℕ = number_text w64 events ++ (number_text w64 (length text + 8) ++ (seed ++ (text ++ sum))) in
    omega (
      arith,
      size,
      length-append digest (number_text w64 generation ++ words),
      length-append (number_text w64 generation) words,
      length-append (number_text w64 events) (number_text w64 (length text + 8) ++ (seed ++ (text ++ sum))),
      length-append (number_text w64 (length text + 8)) (seed ++ (text ++ sum)),
      length-append seed (text ++ sum),
      length-append text sum,
      length-seed_of (0 ∷ kept_head newest_version digest generation events (length text + 8)),
      length-sum_of seed 65 text,
      long_word generation,
      long_word events,
      long_word (length text + 8),
    )

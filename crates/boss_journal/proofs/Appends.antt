-- What an append leaves: in its one step, or in each of its two, the log as it was, or with the record.
use Rattle.std.proofs.Common.{◌≡◌, ℕ, ◌+◌, ◌<◌, ◌≤◌, inl, inr, ⊎_elim, Bool, true, List, [], ◌∷◌, ◌++◌, length, drop, refl, sym, ap, subst, ◌∙◌, append_assoc, length-append, arith}
use Rattle.std.specs.Prelude.{Result, Ok, Err, OnOk, IsErr}
use Rattle.std.proofs.lemmas.Bool.{cases_eq}
use Rattle.boss_disk.specs.Images.{length-overwritten}
use Rattle.boss_disk.specs.Runs.{Leaves, Since, WritesThrough}
use Rattle.boss_disk.specs.Story.{Story, WritesWhole}
use Rattle.boss_disk.specs.Window.{Window, settled, overwritten}
use Rattle.boss_disk.proofs.Runs.{then_through, write_leaves, whole_leaves}
use Rattle.boss_disk.proofs.Torn.{synced_image, write_behind, write_over, overwritten_behind, overwritten_parts}
use Rattle.boss_model.specs.Limits.{longest_record}
use Rattle.def_log.specs.Log.{framed, spelled, AreRecords}
use Rattle.boss_journal.specs.Appends.{IsShutLog, BeforeOrAfter, Puts}
use Rattle.boss_journal.specs.Places.{IsAtRest}
use Rattle.boss_journal.proofs.Frames.{lone, length-framed, spelled_more, length-spelled_more}

-- the bytes up to the gate, and from it on
pub at_gate : (front : List ℕ) (rs : List (List ℕ)) (rest bytes : List ℕ) → bytes ≡ front ++ (spelled rs ++ rest) → bytes ≡ (front ++ spelled rs) ++ rest
at_gate front rs rest bytes is = is ∙ sym (append_assoc front (spelled rs) rest)

pub from_gate : (front : List ℕ) (rs : List (List ℕ)) (rest bytes : List ℕ) → bytes ≡ (front ++ spelled rs) ++ rest → bytes ≡ front ++ (spelled rs ++ rest)
from_gate front rs rest bytes is = is ∙ append_assoc front (spelled rs) rest

-- and behind it
behind_gate : (front : List ℕ) (rs : List (List ℕ)) (gate : ℕ) (tail bytes : List ℕ) → bytes ≡ front ++ (spelled rs ++ gate ∷ tail)
    → bytes ≡ ((front ++ spelled rs) ++ gate ∷ []) ++ tail
behind_gate front rs gate tail bytes is =
    at_gate front rs (gate ∷ tail) bytes is ∙ sym (append_assoc (front ++ spelled rs) (gate ∷ []) tail)

shut_behind : (front : List ℕ) (rs : List (List ℕ)) (rest bytes : List ℕ) → bytes ≡ ((front ++ spelled rs) ++ 0 ∷ []) ++ rest → IsShutLog front rs bytes
shut_behind front rs rest bytes is = record {
  tail = rest;
  is = from_gate front rs (0 ∷ rest) bytes (is ∙ append_assoc (front ++ spelled rs) (0 ∷ []) rest);
}

-- a log at rest leaves itself
pub rest_leaves : (front : List ℕ) (rs : List (List ℕ)) (r : List ℕ) (place : ℕ) (reads : List ℕ) (window : Window)
    → IsAtRest front rs place reads window → Leaves (BeforeOrAfter front rs r) window
rest_leaves front rs r place reads window rest =
    λ bytes image. inl (record { tail = rest.tail; is = synced_image window reads bytes rest.synced image ∙ rest.is })

next_place : (front : List ℕ) (rs : List (List ℕ)) (place : ℕ) → place ≡ length (front ++ spelled rs) → place + 1 ≡ length ((front ++ spelled rs) ++ 0 ∷ [])
next_place front rs place here =
    let size : length ((front ++ spelled rs) ++ 0 ∷ []) ≡ length (front ++ spelled rs) + 1 = length-append (front ++ spelled rs) (0 ∷ []) in
    omega arith

-- bytes are written behind the gate, and synced
pub first_step : {T E : Type 0} (front : List ℕ) (rs : List (List ℕ)) (r bytes : List ℕ) (place : ℕ) (reads : List ℕ) (old new : Story) (result : Result T E)
    → IsAtRest front rs place reads old.window → WritesThrough (place + 1) bytes reads old new result → Since (BeforeOrAfter front rs r) old new
first_step front rs r bytes place reads old new result rest run =
    let here = next_place front rs place rest.here in
    let parts = behind_gate front rs 0 rest.tail reads rest.is in
    write_leaves (BeforeOrAfter front rs r) (place + 1) bytes reads old new result run
    (λ image torn.
    let found = write_behind ((front ++ spelled rs) ++ 0 ∷ []) rest.tail reads (place + 1) (length bytes) old.window image rest.synced parts here torn in
    inl (shut_behind front rs found.0 image found.1))
    (inl (shut_behind front rs _ _ (overwritten_behind ((front ++ spelled rs) ++ 0 ∷ []) rest.tail reads bytes (place + 1) parts here)))

-- the record stands whole behind a gate that is 0 yet, and is synced
pub record IsFramed (front : List ℕ) (rs : List (List ℕ)) (r : List ℕ) (place : ℕ) (reads : List ℕ) (window : Window) : Type 0 where
  pub more : List ℕ
  pub is : reads ≡ (front ++ spelled rs) ++ ((0 ∷ []) ++ (framed r ++ 0 ∷ more))
  pub here : place ≡ length (front ++ spelled rs)
  pub each : AreRecords rs
  pub synced : window ≡ settled reads

pub is_framed : (front : List ℕ) (rs : List (List ℕ)) (r : List ℕ) (place : ℕ) (reads now : List ℕ) (old new : Window)
    → IsAtRest front rs place reads old → now ≡ overwritten (place + 1) (framed r ++ 0 ∷ []) reads
    → new ≡ settled (overwritten (place + 1) (framed r ++ 0 ∷ []) reads) → IsFramed front rs r place now new
is_framed front rs r place reads now old new rest over synced =
    let here = next_place front rs place rest.here in
    let parts = behind_gate front rs 0 rest.tail reads rest.is in
    let more : List ℕ = drop (length (framed r ++ 0 ∷ [])) rest.tail in
    record {
      more = drop (length (framed r ++ 0 ∷ [])) rest.tail;
      is =
          over ∙ overwritten_behind ((front ++ spelled rs) ++ 0 ∷ []) rest.tail reads (framed r ++ 0 ∷ []) (place + 1) parts here
          ∙ append_assoc (front ++ spelled rs) (0 ∷ []) ((framed r ++ 0 ∷ []) ++ more)
          ∙ ap (λ l. (front ++ spelled rs) ++ ((0 ∷ []) ++ l)) (append_assoc (framed r) (0 ∷ []) more);
      here = rest.here;
      each = rest.each;
      synced = synced ∙ ap settled (sym over);
    }

-- the gate is 1: there is one record more
opened : (front : List ℕ) (rs : List (List ℕ)) (r more bytes : List ℕ) → bytes ≡ (front ++ spelled rs) ++ ((1 ∷ []) ++ (framed r ++ 0 ∷ more))
    → bytes ≡ front ++ (spelled (rs ++ r ∷ []) ++ 0 ∷ more)
opened front rs r more bytes is =
    from_gate front rs (1 ∷ (framed r ++ 0 ∷ more)) bytes is ∙ ap (λ l. front ++ l) (sym (spelled_more rs r (0 ∷ more)))

-- whatever the gate is, the log is as it was or has the record
any_gate : (front : List ℕ) (rs : List (List ℕ)) (r more bytes : List ℕ) (gate : ℕ) → bytes ≡ (front ++ spelled rs) ++ ((gate ∷ []) ++ (framed r ++ 0 ∷ more))
    → BeforeOrAfter front rs r bytes
any_gate front rs r more bytes gate is =
    ⊎_elim
    (λ one. inr (inr (record {
      tail = more;
      is = opened front rs r more bytes (is ∙ ap (λ g. (front ++ spelled rs) ++ ((g ∷ []) ++ (framed r ++ 0 ∷ more))) one);
    })))
    (λ other. inr (inl (record { gate = gate; tail = more; is = from_gate front rs (gate ∷ (framed r ++ 0 ∷ more)) bytes is; shut = other })))
    (cases_eq gate 1)

-- the gate is opened, and synced
pub second_step : {T E : Type 0} (front : List ℕ) (rs : List (List ℕ)) (r : List ℕ) (place : ℕ) (reads : List ℕ) (old new : Story) (result : Result T E)
    → IsFramed front rs r place reads old.window → WritesThrough place (1 ∷ []) reads old new result → Since (BeforeOrAfter front rs r) old new
second_step front rs r place reads old new result there run =
    write_leaves (BeforeOrAfter front rs r) place (1 ∷ []) reads old new result run
    (λ image torn.
    let found = write_over (front ++ spelled rs) (0 ∷ []) (framed r ++ 0 ∷ there.more) reads place 1 old.window image there.synced there.is there.here refl torn in
    let one = lone found.0 found.2 in
    any_gate front rs r there.more image one.0 (found.1 ∙ ap (λ l. (front ++ spelled rs) ++ (l ++ (framed r ++ 0 ∷ there.more))) one.1))
    (any_gate front rs r there.more _ 1 (overwritten_parts (front ++ spelled rs) (0 ∷ []) (framed r ++ 0 ∷ there.more) reads (1 ∷ []) place there.is there.here refl))

pub records_more : (rs : List (List ℕ)) (r : List ℕ) → AreRecords rs → length r ≤ longest_record → AreRecords (rs ++ r ∷ [])
records_more [] r each short = (short, tt)
records_more (x ∷ rs) r each short = (each.0, records_more rs r each.1 short)

pub next_gate : (front : List ℕ) (rs : List (List ℕ)) (r : List ℕ) (place : ℕ) → place ≡ length (front ++ spelled rs)
    → place + length r + 5 ≡ length (front ++ spelled (rs ++ r ∷ []))
next_gate front rs r place here =
    omega (arith, length-append front (spelled rs), length-append front (spelled (rs ++ r ∷ [])), length-spelled_more rs r)

-- the journal at rest behind the record
pub at_rest : (front : List ℕ) (rs : List (List ℕ)) (r : List ℕ) (place : ℕ) (reads now : List ℕ) (old new : Window)
    → IsFramed front rs r place reads old → length r ≤ longest_record → now ≡ overwritten place (1 ∷ []) reads
    → new ≡ settled (overwritten place (1 ∷ []) reads) → IsAtRest front (rs ++ r ∷ []) (place + length r + 5) now new
at_rest front rs r place reads now old new there short over synced = record {
  tail = there.more;
  is = opened front rs r there.more now
      (over ∙ overwritten_parts (front ++ spelled rs) (0 ∷ []) (framed r ++ 0 ∷ there.more) reads (1 ∷ []) place there.is there.here refl);
  here = next_gate front rs r place there.here;
  each = records_more rs r there.each short;
  synced = synced ∙ ap settled (sym over);
}

-- the next gate lies within the bytes
next_inside : (place count : ℕ) (frame reads mid now : List ℕ) → length frame ≡ count + 5 → place < length reads
    → mid ≡ overwritten (place + 1) frame reads → now ≡ overwritten place (1 ∷ []) mid → place + count + 5 < length now
next_inside place count frame reads mid now size inside first second =
    let a : length mid ≡ length (overwritten (place + 1) frame reads) = ap length first in
    let b : length now ≡ length (overwritten place (1 ∷ []) mid) = ap length second in
    omega (arith, length-overwritten (place + 1) frame reads, length-overwritten place (1 ∷ []) mid)

length-shut : (r : List ℕ) → length (framed r ++ 0 ∷ []) ≡ length r + 5
length-shut r = omega (arith, length-framed r, length-append (framed r) (0 ∷ []))

-- a record was not put, or it is not known that it was
pub puts_lost : {T E : Type 0} (r : List ℕ) (place : ℕ) (held now : List ℕ) (old new : Story) (result : Result T E) → IsErr result
    → ((front : List ℕ) (rs : List (List ℕ)) → IsAtRest front rs place held old.window → Since (BeforeOrAfter front rs r) old new)
    → Puts r place held now old new result
puts_lost {T} {E} r place held now old new (Ok x) lost images = cc
puts_lost {T} {E} r place held now old new (Err e) lost images = record { rests = λ front rs rest. tt; images = images; inside = tt }

-- the same from what a call left as it was
pub written_from : {T E : Type 0} {at : ℕ} {bytes held held' : List ℕ} {old old' new : Story} {result : Result T E} → held' ≡ held → old' ≡ old
    → WritesThrough at bytes held' old' new result → WritesThrough at bytes held old new result
written_from {T} {E} {at} {bytes} {held} {held'} {old} {old'} {new} {result} same still run =
    subst (λ s. WritesThrough at bytes held s new result) still (subst (λ h. WritesThrough at bytes h old' new result) same run)

-- the record and both gates are written at once
whole_put : (front : List ℕ) (rs : List (List ℕ)) (r bytes : List ℕ) (place : ℕ) (reads : List ℕ) (window : Window)
    → (rest : IsAtRest front rs place reads window) → bytes ≡ 1 ∷ (framed r ++ 0 ∷ [])
    → overwritten place bytes reads ≡ front ++ (spelled (rs ++ r ∷ []) ++ 0 ∷ drop (length (framed r ++ 0 ∷ [])) rest.tail)
whole_put front rs r bytes place reads window rest are =
    let more : List ℕ = drop (length (framed r ++ 0 ∷ [])) rest.tail in
    opened front rs r more (overwritten place bytes reads)
    (overwritten_behind (front ++ spelled rs) (0 ∷ rest.tail) reads bytes place (at_gate front rs (0 ∷ rest.tail) reads rest.is) rest.here
    ∙ ap (λ b. (front ++ spelled rs) ++ (b ++ drop (length b) (0 ∷ rest.tail))) are
    ∙ ap (λ l. (front ++ spelled rs) ++ (1 ∷ l)) (append_assoc (framed r) (0 ∷ []) more))

pub whole_images : {E : Type 0} (front : List ℕ) (rs : List (List ℕ)) (r bytes : List ℕ) (place : ℕ) (reads now : List ℕ) (old new : Story)
    (result : Result Bool E) → IsAtRest front rs place reads old.window → bytes ≡ 1 ∷ (framed r ++ 0 ∷ [])
    → WritesWhole place bytes reads now old new result → Since (BeforeOrAfter front rs r) old new
whole_images {E} front rs r bytes place reads now old new result rest are run =
    whole_leaves (BeforeOrAfter front rs r) place bytes reads now old new result run
    (rest_leaves front rs r place reads old.window rest)
    (inr (inr (record {
      tail = drop (length (framed r ++ 0 ∷ [])) rest.tail;
      is = whole_put front rs r bytes place reads old.window rest are;
    })))

whole_rests : (front : List ℕ) (rs : List (List ℕ)) (r bytes : List ℕ) (place : ℕ) (reads now : List ℕ) (old new : Window)
    → IsAtRest front rs place reads old → bytes ≡ 1 ∷ (framed r ++ 0 ∷ []) → length r ≤ longest_record
    → now ≡ overwritten place bytes reads → new ≡ settled (overwritten place bytes reads)
    → IsAtRest front (rs ++ r ∷ []) (place + length r + 5) now new
whole_rests front rs r bytes place reads now old new rest are short over synced = record {
  tail = drop (length (framed r ++ 0 ∷ [])) rest.tail;
  is = over ∙ whole_put front rs r bytes place reads old rest are;
  here = next_gate front rs r place rest.here;
  each = records_more rs r rest.each short;
  synced = synced ∙ ap settled (sym over);
}

-- a record was put whole
pub puts_whole : {T E F : Type 0} (r bytes : List ℕ) (place : ℕ) (held now : List ℕ) (old new : Story) (result : Result Bool F) (unit : T)
    → WritesWhole place bytes held now old new result → result ≡ Ok true → bytes ≡ 1 ∷ (framed r ++ 0 ∷ []) → length r ≤ longest_record
    → place < length held → Puts {T = T} {E = E} r place held now old new (Ok unit)
puts_whole {T} {E} {F} r bytes place held now old new result unit run done are short inside =
    let over = (run.done done).0 in
    let moved = (run.done done).1 in
    let size : length bytes ≡ length (framed r ++ 0 ∷ []) + 1 = ap length are ∙ omega arith in
    let many : length now ≡ length (overwritten place bytes held) = ap length over in
    record {
      rests = λ front rs rest. whole_rests front rs r bytes place held now old.window new.window rest are short over moved.window;
      images = λ front rs rest. whole_images front rs r bytes place held now old new result rest are run;
      inside = omega (arith, length-overwritten place bytes held, length-shut r);
    }

steps_rest : {T E : Type 0} (front : List ℕ) (rs : List (List ℕ)) (r : List ℕ) (place : ℕ) (reads now : List ℕ) (old new : Window) (result : Result T E)
    → IsFramed front rs r place reads old → length r ≤ longest_record → OnOk result (now ≡ overwritten place (1 ∷ []) reads)
    → OnOk result (new ≡ settled (overwritten place (1 ∷ []) reads)) → OnOk result (IsAtRest front (rs ++ r ∷ []) (place + length r + 5) now new)
steps_rest front rs r place reads now old new (Ok x) there short over synced = at_rest front rs r place reads now old new there short over synced
steps_rest front rs r place reads now old new (Err e) there short over synced = tt

steps_inside : {T E : Type 0} (place count : ℕ) (frame reads mid now : List ℕ) (result : Result T E) → length frame ≡ count + 5 → place < length reads
    → mid ≡ overwritten (place + 1) frame reads → OnOk result (now ≡ overwritten place (1 ∷ []) mid) → OnOk result (place + count + 5 < length now)
steps_inside place count frame reads mid now (Ok x) size inside first second = next_inside place count frame reads mid now size inside first second
steps_inside place count frame reads mid now (Err e) size inside first second = tt

-- a record was put behind its gate, and the gate was to be opened
puts_in_steps : {T S E F : Type 0} (r behind : List ℕ) (place : ℕ) (held mid now : List ℕ) (old way new : Story) (first : Result S F) (result : Result T E)
    → behind ≡ framed r ++ 0 ∷ [] → length r ≤ longest_record → place < length held
    → WritesThrough (place + 1) behind held old way first → way.window ≡ settled (overwritten (place + 1) behind held) → mid ≡ overwritten (place + 1) behind held
    → WritesThrough place (1 ∷ []) mid way new result → OnOk result (now ≡ overwritten place (1 ∷ []) mid)
    → Puts r place held now old new result
puts_in_steps {T} {S} {E} {F} r behind place held mid now old way new first result are short inside one synced over two done =
    let behind_is : mid ≡ overwritten (place + 1) (framed r ++ 0 ∷ []) held = over ∙ ap (λ b. overwritten (place + 1) b held) are in
    let kept_is : way.window ≡ settled (overwritten (place + 1) (framed r ++ 0 ∷ []) held) = synced ∙ ap (λ b. settled (overwritten (place + 1) b held)) are in
    record {
      rests = λ front rs rest.
          steps_rest front rs r place mid now way.window new.window result
          (is_framed front rs r place held mid old.window way.window rest behind_is kept_is) short done two.kept;
      images = λ front rs rest.
          then_through old way new (first_step front rs r behind place held old way first rest one)
          (second_step front rs r place mid way new result (is_framed front rs r place held mid old.window way.window rest behind_is kept_is) two);
      inside = steps_inside place (length r) (framed r ++ 0 ∷ []) held mid now result (length-shut r) inside behind_is done;
    }

-- the same behind a call that left the disk as it was
pub puts_behind : {T S E F : Type 0} (r behind : List ℕ) (place : ℕ) (held held' mid now : List ℕ) (old old' way new : Story) (first : Result S F) (result : Result T E)
    → held' ≡ held → old' ≡ old → behind ≡ framed r ++ 0 ∷ [] → length r ≤ longest_record → place < length held
    → WritesThrough (place + 1) behind held' old' way first → way.window ≡ settled (overwritten (place + 1) behind held')
    → mid ≡ overwritten (place + 1) behind held' → WritesThrough place (1 ∷ []) mid way new result → OnOk result (now ≡ overwritten place (1 ∷ []) mid)
    → Puts r place held now old new result
puts_behind {T} {S} {E} {F} r behind place held held' mid now old old' way new first result same still are short inside one synced over two done =
    let here : place < length held' = omega (arith, ap length same) in
    subst (λ h. Puts r place h now old new result) same
    (subst (λ s. Puts r place held' now s new result) still
    (puts_in_steps r behind place held' mid now old' way new first result are short here one synced over two done))

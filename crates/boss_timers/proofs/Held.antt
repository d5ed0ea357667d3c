-- A timer is held out of the heap while another moves up into its place: with it put back, two have changed their places.
use Rattle.std.proofs.Common.{◌≡◌, ◌≢◌, ℕ, ◌<◌, List, length, set, Option, Some, sym, ap, ◌∙◌, arith}
use Rattle.std.proofs.lemmas.List.{get_or-set_same, get_or-set_other, length-set, set-set, set_comm}
use Rattle.boss_timers.specs.declared.entry.Entry.{Entry}
use Rattle.boss_timers.specs.Heap.{IsExchanged, IsIndexed, entry_at, place_of, times}
use Rattle.boss_timers.proofs.Indexed.{IsExchanged-both, IsIndexed-both, times-both, within-from_place}

module _ (entries : List Entry) (places : List (Option ℕ)) (upper lower : ℕ) (held : Entry) (order : upper < lower) (inside : lower < length entries)
    (indexed : IsIndexed (set entries upper held) (set places held.slot (Some upper)))
    (entries' : List Entry) (places' : List (Option ℕ)) (is-entries : entries' ≡ set entries upper (entry_at entries lower))
    (is-places : places' ≡ set places (entry_at entries lower).slot (Some upper)) where
  within : lower < length (set entries upper held)
  within = omega (arith, length-set entries upper held)

  here : entry_at (set entries upper held) upper ≡ held
  here = get_or-set_same entries upper held _ (omega arith)

  there : entry_at (set entries upper held) lower ≡ entry_at entries lower
  there = get_or-set_other entries upper lower held _ (omega arith)

  led : place_of (set places held.slot (Some upper)) (entry_at entries lower).slot ≡ Some lower
  led = ap (λ (e : Entry). place_of (set places held.slot (Some upper)) e.slot) (sym there) ∙ indexed.leads lower within

  pub slot-lifted : (entry_at entries lower).slot < length places
  slot-lifted = omega (arith, within-from_place (set places held.slot (Some upper)) (entry_at entries lower).slot lower led, length-set places held.slot (Some upper))

  apart : held.slot ≢ (entry_at entries lower).slot
  apart same =
      let up : place_of (set places held.slot (Some upper)) held.slot ≡ Some upper = ap (λ (e : Entry). place_of (set places held.slot (Some upper)) e.slot) (sym here) ∙ indexed.leads upper (omega (arith, within)) in
      let both : Some upper ≡ Some lower = sym up ∙ ap (place_of (set places held.slot (Some upper))) same ∙ led in
      let is : upper ≡ lower = cc in
      omega arith

  all-entries : set entries' lower held ≡ set (set (set entries upper held) upper (entry_at (set entries upper held) lower)) lower (entry_at (set entries upper held) upper)
  all-entries = rw (here, there, set-set entries upper held (entry_at entries lower)) (ap (λ es. set es lower held) is-entries)

  all-places : set places' held.slot (Some lower)
      ≡ set (set (set places held.slot (Some upper)) (entry_at (set entries upper held) lower).slot (Some upper)) (entry_at (set entries upper held) upper).slot (Some lower)
  all-places =
      rw (here, there)
      (ap (λ ps. set ps held.slot (Some lower)) is-places
      ∙ sym (set-set (set places (entry_at entries lower).slot (Some upper)) held.slot (Some upper) (Some lower))
      ∙ ap (λ ps. set ps held.slot (Some lower)) (sym (set_comm places held.slot (entry_at entries lower).slot (Some upper) (Some upper) apart)))

  pub IsExchanged-lifted : IsExchanged (set entries upper held) (set entries' lower held) upper lower
  IsExchanged-lifted = IsExchanged-both (set entries upper held) (set places held.slot (Some upper)) upper lower order within indexed (set entries' lower held) (set places' held.slot (Some lower)) all-entries all-places

  pub IsIndexed-lifted : IsIndexed (set entries' lower held) (set places' held.slot (Some lower))
  IsIndexed-lifted = IsIndexed-both (set entries upper held) (set places held.slot (Some upper)) upper lower order within indexed (set entries' lower held) (set places' held.slot (Some lower)) all-entries all-places

  pub times-lifted : times (set entries' lower held) (set places' held.slot (Some lower)) ≡ times (set entries upper held) (set places held.slot (Some upper))
  times-lifted = times-both (set entries upper held) (set places held.slot (Some upper)) upper lower order within indexed (set entries' lower held) (set places' held.slot (Some lower)) all-entries all-places

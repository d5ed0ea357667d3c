-- Events byte for byte, computed from the definitions alone.
use Rattle.std.proofs.Common.{◌≡◌, ℕ, ◌+◌, pos, negsuc, true, false, List, [], ◌∷◌, Some, None, refl, arith, rules}
use Rattle.std.specs.Prelude.{codes, replicate}
use Rattle.def_bytes.specs.Fields.{number_text, number_at}
use Rattle.boss_model.specs.declared.command.Policy.TheVariants.{Abort, Keep}
use Rattle.boss_model.specs.declared.event.Act.{Act}
use Rattle.boss_model.specs.declared.event.Act.TheVariants as act
use Rattle.boss_model.specs.declared.event.Event.{Event}
use Rattle.boss_model.specs.Limits.{last_moment, last_number}
use Rattle.def_bytes.specs.Batches.{batch_text, IsBatch, IsOfVersion}
use Rattle.def_bytes.specs.Events.{event}
use Rattle.def_bytes.proofs.Hex.{hex}
use Rattle.def_bytes.proofs.StateRows.{write}

abbrev at : ℕ → Act → Event
at n a = record { moment = n; act = a }

-- ---- each kind

enrol : event.text (at 0 (act.Enrol (codes "a"))) ≡ hex (codes "01 0000000000000000 01 61")
unfolding number_text
enrol = refl

submit : event.text (at 1000 (act.Submit 0 Abort (write ∷ []) 0))
    ≡ hex (codes "02 00000000000003e8 0000 00 01 00000000 000000000000afc8 08 0000ea60 00")
unfolding number_text
submit = refl

-- a whole number below 0, a level and two steps of a reversion
submit_with_reversion : event.text (at 1000 (act.Submit 258 Keep (record {
  point = 4095;
  value = negsuc 0;
  priority = pos 16;
  lease = pos 604800000;
  revert = record { value = pos 30000; hold = pos 5000 } ∷ record { value = negsuc 255; hold = pos 86400000 } ∷ [];
} ∷ []) 0))
    ≡ hex (codes "02 00000000000003e8 0102 01 01 00000fff ffffffffffffffff 10 240c8400 02 0000000000007530 00001388 ffffffffffffff00 05265c00")
unfolding number_text
submit_with_reversion = refl

renew : event.text (at 3000 (act.Renew 0 1 (pos 60000) (2 ∷ 0 ∷ []) 0))
    ≡ hex (codes "03 0000000000000bb8 0000 0000000000000001 0000ea60 02 00000002 00000000")
unfolding number_text
renew = refl

cancel : event.text (at 4000 (act.Cancel 1 258 0)) ≡ hex (codes "04 0000000000000fa0 0001 0000000000000102")
unfolding number_text
cancel = refl

gone : event.text (at 4000 (act.Gone 255)) ≡ hex (codes "05 0000000000000fa0 00ff")
unfolding number_text
gone = refl

tick : event.text (at 61000 act.Tick) ≡ hex (codes "06 000000000000ee48")
unfolding number_text
tick = refl

fault : event.text (at 1000 (act.Fault 3)) ≡ hex (codes "07 00000000000003e8 00000003")
unfolding number_text
fault = refl

numbered_submit : event.text (at 1000 (act.Submit 0 Abort (write ∷ []) 5))
    ≡ hex (codes "08 00000000000003e8 0000 0000000000000005 00 01 00000000 000000000000afc8 08 0000ea60 00")
unfolding number_text
numbered_submit = refl

numbered_renew : event.text (at 3000 (act.Renew 0 1 (pos 60000) [] 6))
    ≡ hex (codes "09 0000000000000bb8 0000 0000000000000006 0000000000000001 0000ea60 00")
unfolding number_text
numbered_renew = refl

numbered_cancel : event.text (at 4000 (act.Cancel 0 1 7))
    ≡ hex (codes "0a 0000000000000fa0 0000 0000000000000007 0000000000000001")
unfolding number_text
numbered_cancel = refl

-- ---- two in one record

attach_and_submit : batch_text (at 0 (act.Enrol (codes "a")) ∷ at 1000 (act.Submit 0 Abort (write ∷ []) 0) ∷ [])
    ≡ hex (codes "01 0000000000000000 01 61 02 00000000000003e8 0000 00 01 00000000 000000000000afc8 08 0000ea60 00")
unfolding number_text
attach_and_submit = refl

-- ---- one to sixteen in a record

abbrev ticks : ℕ → List Event
ticks n = replicate n (at 0 act.Tick)

no_event : IsBatch [] → ⊥
no_event batch = omega (arith, batch.some_event)

sixteen_ticks : IsBatch (ticks 16)
sixteen_ticks = record { some_event = omega arith; few = omega arith; fitting = search rules }

seventeen_ticks : IsBatch (ticks 17) → ⊥
seventeen_ticks batch = omega (arith, batch.few)

-- ---- the first version knows no numbers of requests

abbrev numbered : List Event
numbered = at 1000 (act.Submit 0 Abort (write ∷ []) 5) ∷ []

in_the_second : IsOfVersion 2 numbered
in_the_second first = absurd (omega (arith, first))

in_the_first : IsOfVersion 1 numbered → ⊥
in_the_first known = let no : 5 ≡ 0 = (known refl).0 in omega (arith, no)

-- ---- what fits at each edge

last_moment_fits : event.fits (at last_moment act.Tick) ≡ true
last_moment_fits = refl

moment_after_the_last : event.fits (at (last_moment + 1) act.Tick) ≡ false
moment_after_the_last = refl

last_number_fits : event.fits (at 0 (act.Cancel 0 1 4611686018427387903)) ≡ true
last_number_fits = refl

number_after_the_last : event.fits (at 0 (act.Cancel 0 1 last_number)) ≡ false
number_after_the_last = refl

nothing_written : event.fits (at 0 (act.Submit 0 Abort [] 0)) ≡ false
nothing_written = refl

thirty_two_writes : event.fits (at 0 (act.Submit 0 Abort (replicate 32 write) 0)) ≡ true
thirty_two_writes = refl

thirty_three_writes : event.fits (at 0 (act.Submit 0 Abort (replicate 33 write) 0)) ≡ false
thirty_three_writes = refl

nine_steps : event.fits (at 0 (act.Submit 0 Abort (record write { revert = replicate 9 (record { value = pos 0; hold = pos 1 }) } ∷ []) 0)) ≡ false
nine_steps = refl

negative_lease : event.fits (at 0 (act.Submit 0 Abort (record write { lease = negsuc 0 } ∷ []) 0)) ≡ false
negative_lease = refl

no_name : event.fits (at 0 (act.Enrol (codes "A"))) ≡ false
no_name = refl

-- ---- what bytes begin with

another_tag : event.at (hex (codes "0b 0000000000000000 01 61")) ≡ None
unfolding number_at
another_tag = refl

number_nought : event.at (hex (codes "0a 0000000000000fa0 0000 0000000000000000 0000000000000001")) ≡ None
unfolding number_at
number_nought = refl

another_policy : event.at (hex (codes "02 00000000000003e8 0000 02 01 00000000 000000000000afc8 08 0000ea60 00")) ≡ None
unfolding number_at
another_policy = refl

cut_short : event.at (hex (codes "06 000000000000ee")) ≡ None
unfolding number_at
cut_short = refl

late_moment : event.at (hex (codes "06 1000000000000001")) ≡ None
unfolding number_at
late_moment = refl

-- what follows an event is left
tick_and_more : event.at (hex (codes "06 000000000000ee48 00 01")) ≡ Some (at 61000 act.Tick, 0 ∷ 1 ∷ [])
unfolding number_at
tick_and_more = refl

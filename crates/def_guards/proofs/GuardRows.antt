-- A pump that is to run a minute and to stand half a minute: it stands from 0 on, and is to run from 1000 on.
use Rattle.std.proofs.Common.{◌≡◌, ℕ, pos, true, false, [], ◌∷◌, Some, None, refl}
use Rattle.boss_model.specs.declared.answer.Answer.{Answer}
use Rattle.boss_model.specs.declared.answer.Answer.TheVariants.{Noted, Reading}
use Rattle.boss_model.specs.declared.answer.Basis.TheVariants.{Lease}
use Rattle.boss_model.specs.declared.answer.Mark.TheVariants.{Pending}
use Rattle.def_guards.specs.declared.guard.Due.{Due}
use Rattle.def_guards.specs.Acts.{Watch, passed, shown, wrote, kept, decided}
use Rattle.def_guards.specs.Guards.{guard_for}
use Rattle.def_guards.specs.Spacing.{calls_in}
use Rattle.def_guards.specs.Turns.{Turn, AreTurns, IsTurn, after_turns, idles}

abbrev start : Watch
start = record { now = 0; guards = guard_for 60000 30000 ∷ [] }

abbrev off : Due
off = record { point = 0; version = 1; value = pos 0 }

abbrev on : Due
on = record { point = 0; version = 2; value = pos 1 }

-- the reading of the pump under a lease of this level
abbrev read : ℕ → Answer
read level = Reading 0 (pos 1) (Lease level 1) Pending 0 None

abbrev stood : Turn
stood = record { reading = 0; want = Some off; acts = wrote (decided off 0) passed true 0 (Noted true) ∷ []; doubt = None }

-- ---- at level 8

abbrev given : Turn
given = record { reading = 1000; want = Some on; acts = kept (decided on 1000) (read 8) ∷ []; doubt = None }

abbrev waited : Turn
waited = record { reading = 29999; want = None; acts = kept (decided on 29999) (read 8) ∷ []; doubt = None }

abbrev ran : Turn
ran = record { reading = 30000; want = None; acts = wrote (decided on 30000) passed true 30001 (Noted true) ∷ []; doubt = None }

held_rows : AreTurns start (stood ∷ given ∷ waited ∷ ran ∷ [])
held_rows = (((refl, refl), refl), (((refl, refl, refl), refl), (((refl, refl, refl), refl), (((refl, refl), refl), tt))))

-- nothing was written at 1000 and at 29999, and 1 at 30000
calls_row : calls_in 0 (stood ∷ given ∷ waited ∷ ran ∷ []) ≡
    record { value = pos 0; now = 0; shown = false } ∷ record { value = pos 1; now = 30000; shown = false } ∷ []
calls_row = refl

idles_row : idles (stood ∷ given ∷ waited ∷ ran ∷ []) ≡ 2
idles_row = refl

-- it is not written before, and not held then
early_row : IsTurn (after_turns (stood ∷ given ∷ []) start)
    (record { reading = 29999; want = None; acts = wrote (decided on 29999) passed true 29999 (Noted true) ∷ []; doubt = None }) [] → ⊥
early_row turn = absurd cc

late_row : IsTurn (after_turns (stood ∷ given ∷ waited ∷ []) start)
    (record { reading = 30000; want = None; acts = kept (decided on 30000) (read 8) ∷ []; doubt = None }) [] → ⊥
late_row turn = absurd cc

-- ---- at level 3

abbrev ran_at_once : Turn
ran_at_once = record { reading = 1000; want = Some on; acts = wrote (decided on 1000) (shown (read 3)) true 1000 (Noted true) ∷ []; doubt = None }

shown_rows : AreTurns start (stood ∷ ran_at_once ∷ [])
shown_rows = (((refl, refl), refl), (((refl, (refl, refl)), refl), tt))

shown_calls_row : calls_in 0 (stood ∷ ran_at_once ∷ []) ≡ record { value = pos 0; now = 0; shown = false } ∷ record { value = pos 1; now = 1000; shown = true } ∷ []
shown_calls_row = refl

-- ---- a want is replaced before it is free: the pump keeps standing, and its new want is written at once

abbrev off_again : Due
off_again = record { point = 0; version = 3; value = pos 0 }

abbrev replaced : Turn
replaced = record { reading = 2000; want = Some off_again; acts = wrote (decided off_again 2000) passed true 2000 (Noted true) ∷ []; doubt = None }

replaced_rows : AreTurns start (stood ∷ given ∷ replaced ∷ [])
replaced_rows = (((refl, refl), refl), (((refl, refl, refl), refl), (((refl, refl), refl), tt)))

-- the stretch goes on from its first write
stretch_row : (after_turns (stood ∷ given ∷ replaced ∷ []) start).guards ≡
    record { on = 60000; off = 30000; last = Some (record { value = pos 0; since = 0 }); held = None } ∷ []
stretch_row = refl

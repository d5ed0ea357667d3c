-- What a history tells of the device of a point.
use Rattle.std.proofs.Common.{◌≡◌, ℕ, ℤ, ◌==◌, Bool, true, false, if◌then◌else◌, List, [], ◌∷◌, ◌++◌, Option, Some, None, refl}
use Rattle.boss_model.specs.declared.answer.Answer.{Answer}
use Rattle.boss_model.specs.declared.answer.Answer.TheVariants as answer
use Rattle.boss_model.specs.declared.answer.Mark.{Mark}
use Rattle.boss_model.specs.declared.answer.Mark.TheVariants as mark
use Rattle.boss_model.specs.declared.command.Command.{Command}
use Rattle.boss_model.specs.declared.command.Command.TheVariants as command
use Rattle.boss_model.specs.Devices.{proxy_of}
use Rattle.boss_model.specs.State.{State}
use Rattle.def_history.specs.declared.entry.Entry.{Entry}
use Rattle.def_history.specs.declared.entry.Entry.TheVariants.{Did, Broke}
use Rattle.def_history.specs.History.{deeds}

-- the value that it was last asked to take, and the value that it reported since to have taken
pub record Told : Type 0 where
  pub asked : Option ℤ
  pub took : Option ℤ

-- ---- it is asked

abbrev pub asked_for : ℕ → Answer → Option ℤ
asked_for point (answer.Want other version value) = if other == point then Some value else None
asked_for point given = None

abbrev pub if_asked : Option ℤ → Told → Told
if_asked None told = told
if_asked (Some value) told = record { asked = Some value; took = None }

-- ---- it reports

abbrev pub is_noted : Answer → Bool
is_noted (answer.Noted counts) = counts
is_noted given = false

abbrev pub took_by : Bool → Option ℤ → Option ℤ
took_by true asked = asked
took_by false asked = None

abbrev pub reports : Bool → Told → Told
reports ok told = record { asked = told.asked; took = took_by ok told.asked }

-- ---- a history

abbrev pub told_by : ℕ → Command → Answer → Told → Told
told_by point (command.Next driver) given told = if_asked (asked_for point given) told
told_by point (command.Report other version ok) given told = if is_noted given then (if other == point then reports ok told else told) else told
told_by point c given told = told

abbrev pub told_after : ℕ → Entry → Told → Told
told_after point (Did session c moment given) told = told_by point c given told
told_after point (Broke session commands others) told = told

abbrev pub told_in : ℕ → List Entry → Told → Told
told_in point [] told = told
told_in point (entry ∷ entries) told = told_in point entries (told_after point entry told)

pub told-append : (point : ℕ) (xs ys : List Entry) (told : Told) → told_in point (xs ++ ys) told ≡ told_in point ys (told_in point xs told)
told-append point [] ys told = refl
told-append point (x ∷ xs) ys told = told-append point xs ys (told_after point x told)

-- a mark tells nothing
pub told-deeds : (point : ℕ) (xs : List Entry) (told : Told) → told_in point (deeds xs) told ≡ told_in point xs told
told-deeds point [] told = refl
told-deeds point (Did session c moment given ∷ xs) told = told-deeds point xs (told_by point c given told)
told-deeds point (Broke session commands others ∷ xs) told = told-deeds point xs told

-- ---- what a state tells

abbrev pub took_at : Mark → ℤ → Option ℤ
took_at mark.Settled value = Some value
took_at mark.Pending value = None
took_at mark.Failed value = None

abbrev pub told_at : State → ℕ → Told
told_at s point = record {
  asked = Some (proxy_of s.proxies point).commanded;
  took = took_at (proxy_of s.proxies point).mark (proxy_of s.proxies point).commanded;
}

-- The turns of a worker agree with its calls.
use Rattle.std.proofs.Common.{◌≡◌, ℕ, ◌==◌, ℤ, cond, List, [], ◌∷◌, Option, Some, None, ap, sym, ◌∙◌, subst}
use Rattle.boss_model.specs.declared.command.Command.TheVariants.{Doubt, Next, Report}
use Rattle.boss_model.specs.DeviceCall.{DeviceCall}
use Rattle.def_history.specs.declared.entry.Entry.{Entry}
use Rattle.boss_expiry.specs.declared.end.WorkEnd.{WorkEnd}
use Rattle.def_lanes.specs.Works.{Course}
use Rattle.boss_drive.specs.Drives.{IsDriveOf}
use Rattle.boss_drive.specs.Driving.{Write, Turn, idle, doubted, served, Cut, nothing, at_next, at_doubt, at_reading, at_report, Made, call_of, made_by, left_by}
use Rattle.law_settled.specs.Settled.{last_from}
use Rattle.law_settled.proofs.Told.{Told, if_asked, told_in, told-deeds}
use Rattle.law_settled.proofs.Agreeing.{Agrees, agrees-want, open-want, agrees-report, agrees-call, mark-told}

module _ (driver point : ℕ) (Before : ℤ → Type 0) where
  -- what is told of the point, and its last call, behind what was made
  abbrev AgreesBehind : Made → Told → Option DeviceCall → Type 0
  AgreesBehind made told last = Agrees point Before (told_in point made.entries told) (last_from point last made.calls)

  -- once its value was asked for
  abbrev asked_by : Write → Told → Told
  asked_by w told = if_asked (cond (w.point == point) (Some w.value) None) told

  cut-agrees : (end : WorkEnd) (cut : Cut) (told : Told) (last : Option DeviceCall) → Agrees point Before told last → AgreesBehind (left_by driver end cut) told last
  cut-agrees end nothing told last agrees = agrees
  cut-agrees end (at_next moment) told last agrees = subst (λ t. Agrees point Before t last) (sym (mark-told point moment (Next driver) end told)) agrees
  cut-agrees end (at_doubt moment other differs) told last agrees = subst (λ t. Agrees point Before t last) (sym (mark-told point moment (Doubt other differs) end told)) agrees
  cut-agrees end (at_reading w) told last agrees = agrees-call point Before (asked_by w told) last (call_of w)
      (agrees-want point Before (cond (w.point == point) (Some w.value) None) told last agrees) (λ same. (open-want point Before w.point w.value told same).1)
  cut-agrees end (at_report w later) told last agrees =
      subst (λ t. Agrees point Before t (last_from point last (call_of w ∷ []))) (sym (mark-told point later (Report w.point w.version w.ok) end (asked_by w told)))
      (agrees-call point Before (asked_by w told) last (call_of w)
      (agrees-want point Before (cond (w.point == point) (Some w.value) None) told last agrees) (λ same. (open-want point Before w.point w.value told same).1))

  turns-agree : (turns : List Turn) (made : Made) (told : Told) (last : Option DeviceCall) → Agrees point Before told last →
      ((told : Told) (last : Option DeviceCall) → Agrees point Before told last → AgreesBehind made told last) → AgreesBehind (made_by driver turns made) told last
  turns-agree [] made told last agrees then = then told last agrees
  turns-agree (idle moment ∷ turns) made told last agrees then = turns-agree turns made told last agrees then
  turns-agree (doubted moment other differs answer ∷ turns) made told last agrees then = turns-agree turns made told last agrees then
  turns-agree (served w later answer ∷ turns) made told last agrees then =
      turns-agree turns made _ _
      (agrees-report point Before (asked_by w told) last w.point w.version w.value w.ok answer
      (agrees-want point Before (cond (w.point == point) (Some w.value) None) told last agrees) (open-want point Before w.point w.value told)) then

  pub drive-agrees : (calls : List DeviceCall) (pausing : Type 0) (pauses : ℕ) (course : Course) (entries : List Entry) (told : Told) → IsDriveOf driver calls pausing pauses course entries →
      Agrees point Before told None → Agrees point Before (told_in point entries told) (last_from point None calls)
  drive-agrees calls pausing pauses course entries told is agrees =
      let made : Made = made_by driver is.turns (left_by driver is.end is.last) in
      let same : told_in point entries told ≡ told_in point made.entries told = ap (λ es. told_in point es told) is.entries_are ∙ told-deeds point made.entries told in
      subst (λ t. Agrees point Before t (last_from point None calls)) (sym same)
      (subst (λ cs. Agrees point Before (told_in point made.entries told) (last_from point None cs)) (sym is.calls_are)
      (turns-agree is.turns (left_by driver is.end is.last) told None agrees (λ t l. cut-agrees is.end is.last t l)))

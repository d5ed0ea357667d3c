-- What is told of a point's device, and its calls.
use Rattle.std.proofs.Common.{◌≡◌, ◌⊎◌, inl, ℕ, ◌==◌, ℤ, Bool, true, false, ◌&&◌, cond, List, [], ◌∷◌, ◌++◌, Option, Some, None, refl, ap, sym, ◌∙◌, arith}
use Rattle.std.proofs.lemmas.Bool.{cond_both}
use Rattle.std.proofs.lemmas.Bool.Decides.{nat_tests}
use Rattle.boss_model.specs.declared.answer.Answer.{Answer}
use Rattle.boss_model.specs.declared.command.Command.{Command}
use Rattle.boss_model.specs.declared.command.Command.TheVariants as command
use Rattle.boss_model.specs.DeviceCall.{DeviceCall}
use Rattle.boss_expiry.specs.declared.end.WorkEnd.{WorkEnd}
use Rattle.boss_expiry.specs.declared.end.WorkEnd.TheVariants.{Finished, Closed, ClockFault, Stopped, DiskFault}
use Rattle.boss_expiry.specs.Ends.{mark}
use Rattle.law_settled.specs.Settled.{last_from, taken_from}
use Rattle.law_settled.proofs.Told.{Told, if_asked, is_noted, reports, told_by, told_in}

pub last-append : (point : ℕ) (before : Option DeviceCall) (xs ys : List DeviceCall) → last_from point before (xs ++ ys) ≡ last_from point (last_from point before xs) ys
last-append point before [] ys = refl
last-append point before (x ∷ xs) ys = last-append point (cond (x.point == point) (Some x) before) xs ys

-- where the last call was taken, its value is the last that was taken
pub last-taken : (point : ℕ) (calls : List DeviceCall) (before : Option DeviceCall) (taken : Option ℤ) (call : DeviceCall) → call.ok ≡ true →
    (before ≡ Some call → taken ≡ Some call.value) → last_from point before calls ≡ Some call → taken_from point taken calls ≡ Some call.value
last-taken point [] before taken call ok was is = was is
last-taken point (next ∷ calls) before taken call ok was is =
    last-taken point calls (cond (next.point == point) (Some next) before) (cond ((next.point == point) && next.ok) (Some next.value) taken) call ok (by (next.point == point)) is
  where
    by : (here : Bool) → cond here (Some next) before ≡ Some call → cond (here && next.ok) (Some next.value) taken ≡ Some call.value
    by true same =
        let both : next ≡ call = cc in
        let good : next.ok ≡ true = ap (λ c. c.ok) both ∙ ok in
        ap (λ b. cond b (Some next.value) taken) good ∙ ap (λ c. Some c.value) both
    by false same = was same

-- a mark tells nothing
pub mark-told : (point moment : ℕ) (c : Command) (end : WorkEnd) (told : Told) → told_in point (mark c moment end) told ≡ told
mark-told point moment c Finished told = refl
mark-told point moment c Closed told = refl
mark-told point moment c ClockFault told = refl
mark-told point moment c Stopped told = refl
mark-told point moment c DiskFault told = refl

module _ (point : ℕ) (Before : ℤ → Type 0) where
  -- The value that a device reported to have taken since it was asked is that of its last call, which was taken; or it has no call, and
  -- reported the value before
  abbrev pub Agrees : Told → Option DeviceCall → Type 0
  Agrees told last = (value : ℤ) → told.took ≡ Some value →
      (last ≡ Some (record { point = point; value = value; ok = true })) ⊎ ((last ≡ None) × Before value)

  -- the value was asked for, and nothing was reported since
  abbrev pub IsOpen : Told → ℤ → Type 0
  IsOpen told value = (told.asked ≡ Some value) × (told.took ≡ None)

  pub agrees-want : (asked : Option ℤ) (told : Told) (last : Option DeviceCall) → Agrees told last → Agrees (if_asked asked told) last
  agrees-want None told last agrees = agrees
  agrees-want (Some value) told last agrees = λ other took. absurd cc

  pub open-want : (other : ℕ) (value : ℤ) (told : Told) → other ≡ point → IsOpen (if_asked (cond (other == point) (Some value) None) told) value
  open-want other value told same = cond_both (other == point) (Some value) None (λ asked. IsOpen (if_asked asked told) value)
      (λ _. (refl, refl)) (λ apart. absurd (grind (arith, nat_tests)))

  agrees-step : (here noted ok : Bool) (told : Told) (last : Option DeviceCall) (other : ℕ) (value : ℤ) → Agrees told last →
      (here ≡ true → (other ≡ point) × IsOpen told value) →
      Agrees (cond noted (cond here (reports ok told) told) told) (cond here (Some (record { point = other; value = value; ok = ok })) last)
  agrees-step true true true told last other value agrees asks = λ taken took.
      let same : value ≡ taken = (let asked : Some value ≡ Some taken = sym (asks refl).1.0 ∙ took in cc) in
      inl (λ i. Some (record { point = (asks refl).0 i; value = same i; ok = true }))
  agrees-step true true false told last other value agrees asks = λ taken took. absurd cc
  agrees-step true false ok told last other value agrees asks = λ taken took. absurd (let none : None ≡ Some taken = sym (asks refl).1.1 ∙ took in cc)
  agrees-step false true ok told last other value agrees asks = agrees
  agrees-step false false ok told last other value agrees asks = agrees

  -- a call with its report
  pub agrees-report : (told : Told) (last : Option DeviceCall) (other version : ℕ) (value : ℤ) (ok : Bool) (given : Answer) → Agrees told last →
      (other ≡ point → IsOpen told value) →
      Agrees (told_by point (command.Report other version ok) given told) (last_from point last (record { point = other; value = value; ok = ok } ∷ []))
  agrees-report told last other version value ok given agrees asks =
      agrees-step (other == point) (is_noted given) ok told last other value agrees
      (λ here. let same : other ≡ point = grind (arith, nat_tests) in (same, asks same))

  -- and one without
  pub agrees-call : (told : Told) (last : Option DeviceCall) (call : DeviceCall) → Agrees told last → (call.point ≡ point → told.took ≡ None) →
      Agrees told (last_from point last (call ∷ []))
  agrees-call told last call agrees none = cond_both (call.point == point) (Some call) last (λ next. Agrees told next)
      (λ here value took. let same : call.point ≡ point = grind (arith, nat_tests) in absurd (let no : None ≡ Some value = sym (none same) ∙ took in cc))
      (λ _. agrees)

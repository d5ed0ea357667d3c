-- What a history tells of a point's device stands in the lane of its driver.
use Rattle.std.proofs.Common.{◌≡◌, ℕ, zero, suc, ◌==◌, Bool, false, cond, List, [], ◌∷◌, Some, None, refl, ap, sym, ◌∙◌, arith}
use Rattle.std.specs.List.{AllByRecursion}
use Rattle.std.proofs.lemmas.Bool.{cond_both}
use Rattle.std.proofs.lemmas.Bool.Decides.{nat_tests}
use Rattle.boss_model.specs.declared.answer.Answer.{Answer}
use Rattle.boss_model.specs.declared.answer.Answer.TheVariants as answer
use Rattle.boss_model.specs.declared.command.Command.{Command}
use Rattle.boss_model.specs.declared.command.Command.TheVariants as command
use Rattle.boss_model.specs.declared.state.Actuator.{Actuator}
use Rattle.boss_model.specs.Catalogue.{driver_of}
use Rattle.boss_model.specs.Machine.{step}
use Rattle.boss_model.specs.State.{State}
use Rattle.def_history.specs.declared.entry.Entry.{Entry}
use Rattle.def_history.specs.declared.entry.Entry.TheVariants.{Did, Broke}
use Rattle.def_history.specs.History.{IsLegal, deeds}
use Rattle.def_lanes.specs.Lanes.{of_driver, in_lane, done_in}
use Rattle.def_lanes.proofs.Wants.{want-driver}
use Rattle.law_settled.specs.Settled.{IsApart}
use Rattle.law_settled.proofs.Told.{Told, asked_for, if_asked, is_noted, reports, told_by, told_in}

module _ (plant : List Actuator) (point : ℕ) where
  -- another driver is not asked for the point
  asked-none : (driver moment : ℕ) (s : State) (given : Answer) → given ≡ (step plant 0 (command.Next driver) moment s).answer → (driver_of plant point == driver) ≡ false →
      asked_for point given ≡ None
  asked-none driver moment s (answer.Want other version value) is apart = cond_both (other == point) (Some value) None (λ asked. asked ≡ None)
      (λ here.
      let same : other ≡ point = grind (arith, nat_tests) in
      let own : driver_of plant other ≡ driver = want-driver plant s driver moment other version value (sym is) in
      let its : driver_of plant point ≡ driver = ap (driver_of plant) (sym same) ∙ own in
      absurd (grind (arith, nat_tests)))
      (λ _. refl)
  asked-none driver moment s (answer.Attached name next) is apart = refl
  asked-none driver moment s (answer.Accepted txn until) is apart = refl
  asked-none driver moment s (answer.Renewed txn until) is apart = refl
  asked-none driver moment s (answer.Cancelled txn at) is apart = refl
  asked-none driver moment s (answer.Gone ended) is apart = refl
  asked-none driver moment s (answer.Ticked now) is apart = refl
  asked-none driver moment s answer.Nothing is apart = refl
  asked-none driver moment s (answer.Noted counts) is apart = refl
  asked-none driver moment s (answer.Reading p value basis stands differed took) is apart = refl
  asked-none driver moment s (answer.Array p slots) is apart = refl
  asked-none driver moment s (answer.Status txn owner stage live pending) is apart = refl
  asked-none driver moment s (answer.Notices first next list) is apart = refl
  asked-none driver moment s (answer.Points from most) is apart = refl
  asked-none driver moment s answer.Version is apart = refl
  asked-none driver moment s (answer.Refused why) is apart = refl

  report-none : (other version : ℕ) (ok : Bool) (given : Answer) (told : Told) → (driver_of plant point == driver_of plant other) ≡ false →
      told_by point (command.Report other version ok) given told ≡ told
  report-none other version ok given told apart = cond_both (is_noted given) (cond (other == point) (reports ok told) told) told (λ next. next ≡ told)
      (λ _. cond_both (other == point) (reports ok told) told (λ next. next ≡ told)
      (λ here.
      let same : other ≡ point = grind (arith, nat_tests) in
      let its : driver_of plant other ≡ driver_of plant point = ap (driver_of plant) same in
      absurd (grind (arith, nat_tests)))
      (λ _. refl))
      (λ _. refl)

  -- what is done elsewhere tells nothing of the point
  told-none : (session moment : ℕ) (c : Command) (s : State) (given : Answer) (told : Told) → IsApart (Did session c moment given) →
      given ≡ (step plant session c moment s).answer → in_lane plant (of_driver (driver_of plant point)) (Did session c moment given) ≡ false → told_by point c given told ≡ told
  told-none zero moment (command.Next driver) s given told apart is other = ap (λ asked. if_asked asked told) (asked-none driver moment s given is other)
  told-none zero moment (command.Report p version ok) s given told apart is other = report-none p version ok given told other
  told-none (suc n) moment (command.Next driver) s given told apart is other = absurd cc
  told-none (suc n) moment (command.Report p version ok) s given told apart is other = absurd cc
  told-none session moment (command.Attach name) s given told apart is other = refl
  told-none session moment (command.Submit writes policy seq) s given told apart is other = refl
  told-none session moment (command.Renew txn length points seq) s given told apart is other = refl
  told-none session moment (command.Cancel txn seq) s given told apart is other = refl
  told-none session moment command.Gone s given told apart is other = refl
  told-none session moment command.Tick s given told apart is other = refl
  told-none session moment (command.Doubt p differs) s given told apart is other = refl
  told-none session moment (command.Read p) s given told apart is other = refl
  told-none session moment (command.Array p) s given told apart is other = refl
  told-none session moment (command.Status txn) s given told apart is other = refl
  told-none session moment (command.Notices name from most) s given told apart is other = refl
  told-none session moment (command.Points from most) s given told apart is other = refl
  told-none session moment command.Version s given told apart is other = refl

  pub told-lane : (log : List Entry) (s : State) (told : Told) → IsLegal plant log s → AllByRecursion IsApart (deeds log) →
      told_in point (done_in plant (of_driver (driver_of plant point)) log) told ≡ told_in point log told
  told-lane [] s told legal apart = refl
  told-lane (Did session c m given ∷ log) s told legal apart =
      let lane = of_driver (driver_of plant point) in
      let next = (step plant session c m s).state in
      cond_both (in_lane plant lane (Did session c m given)) (Did session c m given ∷ done_in plant lane log) (done_in plant lane log)
      (λ es. told_in point es told ≡ told_in point log (told_by point c given told))
      (λ _. told-lane log next (told_by point c given told) legal.2 apart.1)
      (λ other. told-lane log next told legal.2 apart.1
      ∙ ap (told_in point log) (sym (told-none session m c s given told apart.0 legal.0.1 other)))
  told-lane (Broke session commands others ∷ log) s told legal apart = told-lane log s told legal.2 apart

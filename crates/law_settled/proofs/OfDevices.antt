-- The device of a settled point, as a server gives it back.
use Rattle.std.proofs.Common.{◌≡◌, inl, inr, ℕ, ◌+◌, ◌<◌, ◌≤◌, Bool, false, List, ◌++◌, length, Some, None, refl, ap, sym, ◌∙◌, subst, arith, Option}
use Rattle.std.specs.Prelude.{slice_get}
use Rattle.boss_model.specs.Catalogue.{Catalogue, actuators, driver_of}
use Rattle.boss_model.specs.DeviceCall.{DeviceCall}
use Rattle.boss_model.specs.Settle.{opened}
use Rattle.boss_model.specs.State.{Persistent}
use Rattle.def_history.specs.declared.entry.Entry.{Entry}
use Rattle.def_history.specs.History.{IsLegal, run}
use Rattle.def_lanes.specs.Works.{owner, calls_in}
use Rattle.boss_outside_server.specs.Hosts.{Served}
use Rattle.boss_outside_server.specs.declared.waited.Waited.{Waited}
use Rattle.boss_shared.specs.Gates.{Gate}
use Rattle.boss_keys.specs.declared.entry.Entry.{Entry as KeyEntry}
use Rattle.boss_worker.specs.declared.flags.Flags.{Flags}
use Rattle.boss_worker.specs.Saying.{terms_of}
use Rattle.boss_shared.specs.declared.keeper.Keeper as keeper
use Rattle.boss_server.specs.Accounts.{Account}
use Rattle.boss_server.specs.Hosted.{Hosted}
use Rattle.boss_server.specs.Kept.{Ran}
use Rattle.law_settled.specs.Settled.{IsSettled, taking_target, last_from, last_call}
use Rattle.law_settled.proofs.Agreeing.{last-append}
use Rattle.law_settled.proofs.OfWorks.{work-of, works-opened, no-calls, last-any, back-at, at-front}

module _ {A : Type 0} (calls : A → List DeviceCall) (whole : A → Type 0) (catalogue : Catalogue) (gates : List Gate) (keys : Option (List KeyEntry)) (heeds tells hosting clocking pausing : Type 0)
    (workers n shares : ℕ) (log seen : List Entry) (served served' : List Served) (given given' : List ℕ) (hosted hosted' : Hosted) (ticked ticked' : ℕ) (waits waits' : List Waited)
    (was others devices : List A) (flags : Flags) (unrun : Bool)
    (account : Account calls whole (terms_of catalogue gates keys workers heeds tells hosting clocking pausing) pausing n shares log seen served served' given given' hosted hosted' ticked ticked'
    waits waits' was others devices flags unrun) where
  -- a driver with a call has a device
  driven-below : (driver point : ℕ) (call : DeviceCall) → last_call point (calls_in driver account.works) ≡ Some call → driver < length was
  driven-below driver point call is = elim (work-of (λ work. (0 ≤ owner workers work) × (owner workers work < n)) driver account.works account.together.part.agreed.apart account.together.part.of_them) [
    | inl absent ↦ absurd (let none : None ≡ Some call = sym (ap (last_call point) (no-calls driver account.works absent account.together.part.agreed.apart)) ∙ is in cc)
    | inr has ↦ omega (arith, has.is.1, account.returned.drivers)
  ]

  pub device-last : (point : ℕ) (d : Persistent) → heeds → point < length (actuators catalogue) → IsLegal (actuators catalogue) log (opened (actuators catalogue) d) →
      IsSettled (run (actuators catalogue) log (opened (actuators catalogue) d)) point →
      (device : A) × (slice_get devices (driver_of (actuators catalogue) point) ≡ Some device)
      × (whole device → last_call point (calls device) ≡ Some (taking_target (actuators catalogue) (run (actuators catalogue) log (opened (actuators catalogue) d)) point))
  device-last point d heard known legal settled =
      let plant = actuators catalogue in
      let driver = driver_of plant point in
      let last = works-opened catalogue gates keys heeds tells pausing point log d account.works heard known legal account.together.part.agreed settled in
      let below : driver < length was = driven-below driver point _ last in
      let there = back-at calls whole driver 0 was account.back account.works account.returned.back below in
      let stands : slice_get devices driver ≡ Some there.1 = ap (λ ds. slice_get ds driver) account.devices_are ∙ at-front account.back others driver there.1 there.2 in
      let own : 0 + driver ≡ driver = omega arith in (
        there.1,
        stands,
        λ all.
            ap (last_call point) (there.3 all ∙ ap (λ k. calls there.0 ++ calls_in k account.works) own)
            ∙ last-append point None (calls there.0) (calls_in driver account.works)
            ∙ last-any point (calls_in driver account.works) None (last_from point None (calls there.0)) _ refl last,
      )

-- the same over a keeper, which comes back as the history left it
module _ {K A : Type 0} (k : keeper.Ghosts K) (calls : A → List DeviceCall) (whole : A → Type 0) (catalogue : Catalogue) (gates : List Gate) (keys : Option (List KeyEntry)) (heeds tells hosting clocking pausing : Type 0)
    (workers n shares : ℕ) (start end : K) (served served' : List Served) (given given' : List ℕ) (hosted hosted' : Hosted) (ticked ticked' : ℕ) (waits waits' : List Waited)
    (was others devices : List A) (flags : Flags) (unrun : Bool)
    (ran : Ran k calls whole (terms_of catalogue gates keys workers heeds tells hosting clocking pausing) pausing n shares start end served served' given given' hosted hosted' ticked ticked'
    waits waits' was others devices flags unrun) where
  pub kept-last : (point : ℕ) (d : Persistent) → heeds → point < length (actuators catalogue) → actuators catalogue ≡ k.plant start → k.state start ≡ opened (actuators catalogue) d →
      k.stopped end ≡ false → IsSettled (k.state end) point →
      (device : A) × (slice_get devices (driver_of (actuators catalogue) point) ≡ Some device)
      × (whole device → last_call point (calls device) ≡ Some (taking_target (actuators catalogue) (k.state end) point))
  kept-last point d heard known same begins running settled =
      let plant = actuators catalogue in
      let log : List Entry = ran.log in
      let legal : IsLegal plant log (opened plant d) = subst (IsLegal plant log) begins (subst (λ p. IsLegal p log (k.state start)) (sym same) ran.held.legal) in
      let ends : run plant log (opened plant d) ≡ k.state end = ap (run plant log) (sym begins) ∙ ap (λ p. run p log (k.state start)) same ∙ sym (ran.held.state_is running) in
      subst (λ s. (device : A) × (slice_get devices (driver_of plant point) ≡ Some device) × (whole device → last_call point (calls device) ≡ Some (taking_target plant s point))) ends
      (device-last calls whole catalogue gates keys heeds tells hosting clocking pausing workers n shares log log served served' given given' hosted hosted' ticked ticked' waits waits' was others devices flags unrun
      ran.account point d heard known legal (subst (λ s. IsSettled s point) (sym ends) settled))

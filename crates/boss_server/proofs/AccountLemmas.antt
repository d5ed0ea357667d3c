-- An account from what was there before parts were made.
use Rattle.std.proofs.Common.{◌≡◌, ℕ, ◌+◌, ◌-◌, ◌^◌, ◌≤◌, min, Bool, true, false, List, ◌++◌, length, take, drop, Result, Ok, Err, OnOk, is_err, refl, ap, sym, ◌∙◌, subst, arith, length-append}
use Rattle.std.proofs.Math.Seq.{drop-append_seam, take-append_seam}
use Rattle.boss_model.specs.DeviceCall.{DeviceCall}
use Rattle.def_history.specs.declared.entry.Entry.{Entry}
use Rattle.def_lanes.specs.Parts.{Terms}
use Rattle.def_lanes.specs.Works.{clock_cuts, served_in, moments_in}
use Rattle.boss_outside_server.specs.Hosts.{Served}
use Rattle.boss_outside_server.specs.declared.clock.Clock as clock
use Rattle.boss_outside_server.specs.declared.host.Host as host
use Rattle.boss_outside_server.specs.declared.waited.Waited.{Waited}
use Rattle.boss_worker.specs.declared.flags.Flags.{Flags}
use Rattle.boss_server.specs.Accounts.{Account}
use Rattle.boss_server.specs.Hosted.{Hosted, RoseBy}
use Rattle.boss_server.specs.Making.{StaysClock, StaysHost, GainsNoPause}
use Rattle.boss_server.specs.Together.{RoseWhere, Together}
use Rattle.boss_server.proofs.TogetherLemmas.{rose-both}

pub on-ok : {T E : Type 0} (result : Result T E) (P : Type 0) → OnOk result P → is_err result ≡ false → P
on-ok (Ok it) P holds fine = holds
on-ok (Err it) P holds fine = absurd (let no : true ≡ false = fine in cc)

-- ---- what stays in two steps

pub host-stays : {H In Out : Type 0} (h : host.Ghosts H In Out) (old between new : H) → StaysHost h old between → StaysHost h between new → StaysHost h old new
host-stays h old between new first then = record {
  served = λ told. then.served told ∙ first.served told;
  listens = λ told. then.listens told ∙ first.listens told;
  faults = then.faults ∙ first.faults;
  handed = rose-both 0 0 (h.handed old) (h.handed between) (h.handed new) first.handed then.handed;
}

pub clock-stays : {C : Type 0} (k : clock.Ghosts C) (old between new : C) → StaysClock k old between → StaysClock k between new → StaysClock k old new
clock-stays k old between new first then = record { given = λ told. then.given told ∙ first.given told; faults = then.faults ∙ first.faults }

pub gains-from : (pausing : Type 0) (between old new : List Waited) → (pausing → between ≡ old) → GainsNoPause pausing between new → GainsNoPause pausing old new
gains-from pausing between old new same gained = record { notes = gained.notes; noted = λ told. gained.noted told ∙ ap (λ front. front ++ gained.notes) (same told); unpaused = gained.unpaused }

-- ---- devices that were taken out in front

pub front-taken : {A : Type 0} (count : ℕ) (front rest all : List A) → front ++ rest ≡ all → length rest + count ≡ length all → (take count all ≡ front) × (drop count all ≡ rest)
front-taken count front rest all are left =
    let size : length front + length rest ≡ length all = sym (length-append front rest) ∙ ap length are in
    let here : count ≡ length front = omega (arith, size, left) in (
      ap (λ k. take k all) here ∙ ap (take (length front)) (sym are) ∙ take-append_seam front rest,
      ap (λ k. drop k all) here ∙ ap (drop (length front)) (sym are) ∙ drop-append_seam front rest,
    )

-- ---- an account

module _ {A : Type 0} (calls : A → List DeviceCall) (whole : A → Type 0) (terms : Terms) (pausing : Type 0) (n shares : ℕ) (own seen : List Entry) (flags : Flags) (unrun : Bool) where
  pub account-from : (served served' first_served : List Served) (given given' first_given : List ℕ) (hosted hosted' first_hosted : Hosted) (ticked ticked' first_ticked : ℕ) (waits waits' first_waits : List Waited) (was others devices : List A) →
      Account calls whole terms pausing n shares own seen served served' given given' hosted hosted' ticked ticked' waits waits' was others devices flags unrun →
      (terms.hosting → served ≡ first_served) → (terms.clocking → given ≡ first_given) → hosted.faults ≡ first_hosted.faults → RoseBy 0 first_hosted.handed hosted.handed → ticked ≡ first_ticked → (pausing → waits ≡ first_waits) →
      Account calls whole terms pausing n shares own seen first_served served' first_given given' first_hosted hosted' first_ticked ticked' first_waits waits' was others devices flags unrun
  account-from served served' first_served given given' first_given hosted hosted' first_hosted ticked ticked' first_ticked waits waits' first_waits was others devices account hosts clocks host_same host_stays clock_same paused = record {
    works = account.works;
    together = record {
      part = record {
        agreed = account.together.part.agreed;
        of_them = account.together.part.of_them;
        in_turn = account.together.part.in_turn;
        came_back = λ told. account.together.part.came_back told ∙ ap (λ front. front ++ served_in account.works) (hosts told);
        gave = λ told. account.together.part.gave told ∙ ap (λ front. front ++ moments_in account.works) (clocks told);
      };
      handed =
          let both : RoseBy (0 + length (served_in account.works)) first_hosted.handed hosted'.handed =
          rose-both 0 (length (served_in account.works)) first_hosted.handed hosted.handed hosted'.handed host_stays account.together.handed in
          omega (arith, both);
      numbered = account.together.numbered;
      whole = account.together.whole;
      flagged = account.together.flagged;
      host_count = subst (λ count. RoseWhere flags.host count hosted'.faults) host_same account.together.host_count;
      clock_count = λ sound. subst (λ count. RoseWhere flags.clock count ticked') clock_same (account.together.clock_count sound);
      cuts = λ sound. subst (λ count. min (count + clock_cuts account.works) (2 ^ 64 - 1) ≤ ticked') clock_same (account.together.cuts sound);
      broken = account.together.broken;
    };
    back = account.back;
    devices_are = account.devices_are;
    returned = record {
      drivers = account.returned.drivers;
      back = account.returned.back;
      notes = account.returned.notes;
      each = account.returned.each;
      waited = account.returned.waited;
      kept = account.returned.kept;
      noted = λ told. account.returned.noted told ∙ ap (λ front. front ++ account.returned.notes) (paused told);
      ended = account.returned.ended;
      worked = account.returned.worked;
    };
  }

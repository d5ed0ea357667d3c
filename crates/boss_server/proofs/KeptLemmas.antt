-- What a server did over a keeper, from what its workers did over a desk.
use Rattle.std.proofs.Common.{◌≡◌, ℕ, Bool, true, false, List, refl, sym, ◌∙◌, subst}
use Rattle.boss_model.specs.DeviceCall.{DeviceCall}
use Rattle.def_history.specs.declared.entry.Entry.{Entry}
use Rattle.def_history.specs.History.{is_broken}
use Rattle.def_lanes.specs.Parts.{Terms}
use Rattle.boss_shared.specs.declared.keeper.Keeper as keeper
use Rattle.boss_shared.specs.Keeping.{IsHeld}
use Rattle.boss_outside_server.specs.Hosts.{Served}
use Rattle.boss_outside_server.specs.declared.waited.Waited.{Waited}
use Rattle.boss_worker.specs.declared.flags.Flags.{Flags}
use Rattle.boss_worker.proofs.FlagLemmas.{flagged-more}
use Rattle.boss_server.specs.Accounts.{Account}
use Rattle.boss_server.specs.Hosted.{Hosted}
use Rattle.boss_server.specs.Kept.{Ran}

-- the flags, where that of the disk is the keeper's word
abbrev told_flags : Bool → Flags → Flags
told_flags stopped flags = record { disk = stopped; host = flags.host; clock = flags.clock; memory = flags.memory }

-- a disk that has not failed raised no flag
unbroken : (flag stopped broken : Bool) → (flag ≡ true → broken ≡ true) → stopped ≡ broken → stopped ≡ false → flag ≡ false
unbroken false stopped broken raised same sound = refl
unbroken true stopped broken raised same sound = absurd (let no : true ≡ false = sym (raised refl) ∙ sym same ∙ sound in cc)

module _ {A : Type 0} (calls : A → List DeviceCall) (whole : A → Type 0) (terms : Terms) (pausing : Type 0) (n shares : ℕ) (log : List Entry) (served served' : List Served) (given given' : List ℕ)
    (hosted hosted' : Hosted) (ticked ticked' : ℕ) (waits waits' : List Waited) (was others devices : List A) (flags : Flags) (unrun stopped : Bool) where
  account-told : Account calls whole terms pausing n shares log log served served' given given' hosted hosted' ticked ticked' waits waits' was others devices flags unrun → stopped ≡ is_broken log →
      Account calls whole terms pausing n shares log log served served' given given' hosted hosted' ticked ticked' waits waits' was others devices (told_flags stopped flags) unrun
  account-told account same =
      let sound : stopped ≡ false → flags.disk ≡ false = unbroken flags.disk stopped (is_broken log) account.together.broken same in
      record {
        works = account.works;
        together = record {
          part = account.together.part;
          handed = account.together.handed;
          numbered = account.together.numbered;
          whole = λ all accepted calm. account.together.whole all accepted (sound calm);
          flagged = flagged-more flags (told_flags stopped flags) (λ raised. same ∙ account.together.broken raised) (λ is. is) (λ is. is) account.works account.together.flagged;
          host_count = account.together.host_count;
          clock_count = λ calm. account.together.clock_count (sound calm);
          cuts = λ calm. account.together.cuts (sound calm);
          broken = λ raised. sym same ∙ raised;
        };
        back = account.back;
        devices_are = account.devices_are;
        returned = account.returned;
      }

  pub kept-ran : {K : Type 0} (k : keeper.Ghosts K) (start end : K) (own : List Entry) → own ≡ log →
      Account calls whole terms pausing n shares own log served served' given given' hosted hosted' ticked ticked' waits waits' was others devices flags unrun →
      IsHeld k.plant k.state k.stopped k.faults k.leaves k.passes k.keeps start end log → stopped ≡ k.stopped end →
      Ran k calls whole terms pausing n shares start end served served' given given' hosted hosted' ticked ticked' waits waits' was others devices (told_flags stopped flags) unrun
  kept-ran k start end own all account held told =
      let same : stopped ≡ is_broken log = told ∙ held.marked in
      record {
        log = log;
        held = held;
        account = account-told (subst (λ entries. Account calls whole terms pausing n shares entries log served served' given given' hosted hosted' ticked ticked' waits waits' was others devices flags unrun) all account) same;
        disk = same;
      }

-- There is room for one more that holds a process.
use Rattle.std.proofs.Common.{◌≡◌, ℕ, ◌<◌, ◌==◌, nat_eq, List, [], ◌∷◌, length, map, Bool, true, false, ◌||◌, cond, Option, Some, None, refl, arith}
use Rattle.std.specs.Cmp.Lexicographic.{pointwise}
use Rattle.std.specs.List.{AllByRecursion}
use Rattle.std.specs.Option.{option_map}
use Rattle.std.specs.Prelude.{find}
use Rattle.std.proofs.lemmas.Bool.{cond_both}
use Rattle.std.proofs.lemmas.Bool.Decides.{nat_tests}
use Rattle.std.proofs.lemmas.List.{length-map}
use Rattle.boss_model.specs.declared.answer.Refusal.TheVariants as refusal
use Rattle.boss_model.specs.declared.state.Actuator.{Actuator}
use Rattle.boss_model.specs.Lists.{member}
use Rattle.boss_model.specs.Processes.{attach_refused, is_full, name_of, process_named, process_of, process_refused, session_of}
use Rattle.boss_model.specs.Sound.{IsSound}
use Rattle.boss_model.specs.State.{Attachment, State}
use Rattle.law_time.proofs.Places.{at-most}
use Rattle.law_time.proofs.Filters.{each-mapped, position-within}
use Rattle.law_soundness.proofs.NotRefused.{none-mapped, none-of-first}

-- a process that no session holds is not among those that are held
not-held : (process : ℕ) (attached : List Attachment) → session_of attached process ≡ None → member process (map (λ a. a.process) attached) ≡ false
not-held process [] none = refl
not-held process (a ∷ attached) none = chosen (a.process == process) none (not-held process attached)
  where
    chosen : (b : Bool) → option_map (λ (x : Attachment). x.session) (cond b (Some a) (find (λ x. x.process == process) attached)) ≡ None →
        (session_of attached process ≡ None → member process (map (λ x. x.process) attached) ≡ false) →
        (b || member process (map (λ x. x.process) attached)) ≡ false
    chosen true is rest = cc
    chosen false is rest = rest is

-- a command to attach that is not refused
pub process-free : (session : ℕ) (name : List ℕ) (s : State) → attach_refused session name s.attached s.persistent ≡ None →
    process_refused s.persistent.processes s.attached (process_named s.persistent.processes name) ≡ None
process-free session name s passed =
    let second = none-of-first (option_map (λ process. refusal.Already (name_of s.persistent.processes process)) (process_of s.attached session))
    (process_refused s.persistent.processes s.attached (process_named s.persistent.processes name) ∷ []) passed in
    (none-of-first (process_refused s.persistent.processes s.attached (process_named s.persistent.processes name)) [] second.1).0

-- there is room for a new process
pub not-full : (session : ℕ) (name : List ℕ) (s : State) → attach_refused session name s.attached s.persistent ≡ None → process_named s.persistent.processes name ≡ None →
    length s.persistent.processes < 256
not-full session name s passed new =
    let free : process_refused s.persistent.processes s.attached None ≡ None = rw new at (process-free session name s passed) in
    cond_both (is_full s.persistent.processes) (Some refusal.TooManyProcesses) None (λ why. why ≡ None → length s.persistent.processes < 256)
    (λ full is. cc) (λ room is. grind (arith, nat_tests)) free

pub few-attached : (plant : List Actuator) (session : ℕ) (name : List ℕ) (s : State) → IsSound plant s → attach_refused session name s.attached s.persistent ≡ None →
    length s.attached < 256
few-attached plant session name s sound passed = named (process_named s.persistent.processes name) refl (process-free session name s passed)
  where
    held : List ℕ
    held = map (λ a. a.process) s.attached

    below : AllByRecursion (λ process. process < length s.persistent.processes) (map (λ a. a.process) s.attached)
    below = each-mapped (λ process. process < length s.persistent.processes) (λ (a : Attachment). a.process) s.attached sound.attached

    named : (found : Option ℕ) → process_named s.persistent.processes name ≡ found → process_refused s.persistent.processes s.attached found ≡ None → length s.attached < 256
    named None is free = omega (
      arith,
      not-full session name s passed is,
      at-most (length s.persistent.processes) (map (λ a. a.process) s.attached) sound.held below,
      length-map s.attached (λ a. a.process),
    )
    named (Some process) is free = omega (
      arith,
      at-most (length s.persistent.processes) (process ∷ map (λ a. a.process) s.attached) (not-held process s.attached (none-mapped refusal.Taken (session_of s.attached process) free), sound.held)
          (position-within (λ p. pointwise nat_eq p.name name) s.persistent.processes process is, below),
      length-map s.attached (λ a. a.process),
      sound.persistent.few_processes,
    )

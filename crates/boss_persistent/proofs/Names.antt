-- What is found by the names of processes, which being told does not change.
use Rattle.std.proofs.Common.{◌≡◌, ℕ, zero, suc, ◌+◌, List, [], ◌∷◌, length, map, not, cond, Option, Some, None, nat_eq, nat_lt, nat_le, refl, ap, sym, ◌∙◌, if◌then◌else◌}
use Rattle.std.specs.Prelude.{slice_get, position, fold}
use Rattle.std.specs.Cmp.Lexicographic.{pointwise}
use Rattle.std.specs.List.{position_or_len}
use Rattle.std.specs.Option.{option_map, option_map_or}
use Rattle.std.proofs.lemmas.List.{length-map}
use Rattle.boss_model.specs.declared.answer.Refusal.TheVariants as refusal
use Rattle.boss_model.specs.Happenings.{Happening, tell}
use Rattle.boss_model.specs.Lists.{first_some}
use Rattle.boss_model.specs.Processes.{process_of, process_named, name_of, process_refused, attach_refused}
use Rattle.boss_model.specs.State.{Process, Persistent, Attachment}
use Rattle.boss_model.specs.Time.{due, tick_to}
use Rattle.law_time.proofs.GroupSound.{tell-names}

-- ---- what rests on the names alone

place-by-names : (processes : List Process) (name : List ℕ) →
    position_or_len (λ process. pointwise nat_eq process.name name) processes ≡ position_or_len (λ known. pointwise nat_eq known name) (map (λ p. p.name) processes)
place-by-names [] name = refl
place-by-names (p ∷ ps) name = ap (λ place. cond (not (pointwise nat_eq p.name name)) (1 + place) 0) (place-by-names ps name)

named-by-names : (processes : List Process) (name : List ℕ) → process_named processes name ≡ position (λ known. pointwise nat_eq known name) (map (λ p. p.name) processes)
named-by-names processes name =
    ap (λ place. cond (nat_lt place (length processes)) (Some place) None) (place-by-names processes name)
    ∙ ap (λ count. cond (nat_lt (position_or_len (λ known. pointwise nat_eq known name) (map (λ p. p.name) processes)) count) (Some (position_or_len (λ known. pointwise nat_eq known name) (map (λ p. p.name) processes))) None)
    (sym (length-map processes (λ p. p.name)))

name-by-names : (processes : List Process) (process : ℕ) → name_of processes process ≡ option_map_or (λ name. name) (slice_get (map (λ p. p.name) processes) process) []
name-by-names [] process = refl
name-by-names (p ∷ ps) zero = refl
name-by-names (p ∷ ps) (suc process) = name-by-names ps process

module _ (before after : List Process) (same : map (λ p. p.name) after ≡ map (λ p. p.name) before) where
  pub same-named : (name : List ℕ) → process_named after name ≡ process_named before name
  same-named name = named-by-names after name ∙ (ap (position (λ known. pointwise nat_eq known name)) same ∙ sym (named-by-names before name))

  pub same-name : (process : ℕ) → name_of after process ≡ name_of before process
  same-name process = name-by-names after process ∙ (ap (λ names. option_map_or (λ name. name) (slice_get names process) []) same ∙ sym (name-by-names before process))

  pub same-length : length after ≡ length before
  same-length = sym (length-map after (λ p. p.name)) ∙ (ap length same ∙ length-map before (λ p. p.name))

  -- whether an attach is refused, and why
  pub same-process_refused : (attached : List Attachment) (found : Option ℕ) → process_refused after attached found ≡ process_refused before attached found
  same-process_refused attached None = ap (λ count. if nat_le 256 count then Some refusal.TooManyProcesses else None) same-length
  same-process_refused attached (Some process) = refl

  same-already : (found : Option ℕ) → option_map (λ process. refusal.Already (name_of after process)) found ≡ option_map (λ process. refusal.Already (name_of before process)) found
  same-already None = refl
  same-already (Some process) = ap (λ name. Some (refusal.Already name)) (same-name process)

-- ---- being told

pub told-named : (processes : List Process) (happened : List Happening) (name : List ℕ) → process_named (fold tell processes happened) name ≡ process_named processes name
told-named processes happened = same-named processes (fold tell processes happened) (tell-names processes happened)

-- ---- what time changes of a refusal: nothing

pub attach-refused-alike : (session : ℕ) (name : List ℕ) (attached : List Attachment) (before after : Persistent) →
    map (λ p. p.name) after.processes ≡ map (λ p. p.name) before.processes → attach_refused session name attached after ≡ attach_refused session name attached before
attach-refused-alike session name attached before after same =
    ap (λ already. first_some (already ∷ process_refused after.processes attached (process_named after.processes name) ∷ []))
    (same-already before.processes after.processes same (process_of attached session))
    ∙ (ap (λ found. first_some (option_map (λ process. refusal.Already (name_of before.processes process)) (process_of attached session) ∷ process_refused after.processes attached found ∷ []))
    (same-named before.processes after.processes same name)
    ∙ ap (λ refused. first_some (option_map (λ process. refusal.Already (name_of before.processes process)) (process_of attached session) ∷ refused ∷ []))
    (same-process_refused before.processes after.processes same attached (process_named before.processes name)))

pub attach-refused-ticked : (session : ℕ) (name : List ℕ) (attached : List Attachment) (n : ℕ) (d : Persistent) → attach_refused session name attached (tick_to n d) ≡ attach_refused session name attached d
attach-refused-ticked session name attached n d = attach-refused-alike session name attached d (tick_to n d) (tell-names d.processes (due n d))

-- What the marks keep of the machine's state: its commands to devices and reports of them, told of the marks.
use Rattle.std.proofs.Common.{◌≡◌, ℕ, zero, suc, ◌==◌, List, [], ◌∷◌, length, map, Option, Some, None, is_some, refl, sym, ◌∙◌, ap, arith}
use Rattle.std.specs.Prelude.{find, slice_index}
use Rattle.std.specs.Option.{option_map, option_map_or}
use Rattle.std.proofs.lemmas.Grind.{common_steps}
use Rattle.boss_model.specs.declared.state.Actuator.{Actuator}
use Rattle.boss_model.specs.Catalogue.{driver_of}
use Rattle.boss_model.specs.Devices.{next, wanting, hand_out}
use Rattle.boss_model.specs.Lists.{without}
use Rattle.boss_model.specs.Order.{least}
use Rattle.boss_model.specs.Settle.{is_retried, retried, is_moved, recommanded}
use Rattle.boss_model.specs.State.{Persistent, Attachment}
use Rattle.boss_marks.specs.declared.marks.Want.{Want}
use Rattle.boss_marks.specs.Marks.{Marks, want_of, first_want, handed_out, retried_all}
use Rattle.boss_marks.specs.Wants.{first_of, least_wanting}
use Rattle.boss_model.proofs.Changed.{length-changed_if}
use Rattle.boss_engine.specs.Settling.{settled_by}
use Rattle.boss_engine.specs.Waiting.{drivers_of, state_of, want_answer}

-- ---- drivers

pub driver-read : (plant : List Actuator) (point : ℕ) → slice_index (drivers_of plant) point ≡ driver_of plant point
driver-read [] point = refl
driver-read (x ∷ xs) zero = refl
driver-read (x ∷ xs) (suc point) = driver-read xs point

pub first-want : (plant : List Actuator) (driver : ℕ) (wants : List ℕ) → first_of (drivers_of plant) driver wants ≡ find (λ point. driver_of plant point == driver) wants
first-want plant driver [] = refl
first-want plant driver (w ∷ ws) = grind (arith, common_steps, driver-read plant w, first-want plant driver ws)

pub wants-drivers : (plant : List Actuator) (wants : List ℕ) → map (λ point. slice_index (drivers_of plant) point) wants ≡ map (driver_of plant) wants
wants-drivers plant [] = refl
wants-drivers plant (w ∷ ws) = grind (arith, common_steps, driver-read plant w, wants-drivers plant ws)

-- ---- what is handed out, and what a report comes to

module _ (plant : List Actuator) (d : Persistent) (attached : List Attachment) (marks : Marks) where
  next_found : (found : Option ℕ) → hand_out found (state_of d attached marks)
      ≡ record {
        answer = want_answer (option_map (want_of marks) found);
        state = state_of d attached (option_map_or (λ point. record marks { wants = without point marks.wants }) found marks);
      }
  next_found None = refl
  next_found (Some point) = refl

  pub next-is : drivers_of plant ≡ marks.drivers → (driver : ℕ) (want : Option Want) (marks' : Marks)
      → want ≡ option_map (want_of marks) (first_want driver marks) → marks' ≡ handed_out driver marks
      → next plant driver (state_of d attached marks) ≡ record { answer = want_answer want; state = state_of d attached marks' }
  next-is served driver want marks' is_want is_after =
      let first : first_want driver marks ≡ find (λ point. driver_of plant point == driver) marks.wants =
      ap (λ drivers. first_of drivers driver marks.wants) (sym served) ∙ first-want plant driver marks.wants in
      rw (is_want, is_after, first) (next_found (find (λ point. driver_of plant point == driver) marks.wants))

  pub has-want-is : drivers_of plant ≡ marks.drivers → (driver : ℕ) → is_some (first_want driver marks) ≡ is_some (find (λ point. driver_of plant point == driver) marks.wants)
  has-want-is served driver = ap is_some (ap (λ drivers. first_of drivers driver marks.wants) (sym served) ∙ first-want plant driver marks.wants)

  pub wanting-is : drivers_of plant ≡ marks.drivers → least_wanting marks.drivers marks.wants ≡ wanting plant (state_of d attached marks)
  wanting-is served =
      ap (λ drivers. least_wanting drivers marks.wants) (sym served) ∙ ap (least (λ driver. driver)) (wants-drivers plant marks.wants)

-- ---- each point keeps its driver and its place

pub length-retried : (n : ℕ) (marks : Marks) → length (retried_all n marks).proxies ≡ length marks.proxies
length-retried n marks = length-changed_if (is_retried n) retried marks.proxies

pub length-settled : (plant : List Actuator) (d : Persistent) (marks : Marks) → length (settled_by plant d marks).proxies ≡ length marks.proxies
length-settled plant d marks = length-changed_if (is_moved plant d) (recommanded plant d) marks.proxies

-- The steps of items, and what is owed for those that leave the journal as it is.
use Rattle.std.proofs.Common.{◌≡◌, ◌≢◌, inl, inr, ℕ, ◌+◌, ◌-◌, ◌<◌, ◌≤◌, min, nat_lt, nat_le, ◌==◌, true, false, ◌&&◌, List, [], ◌++◌, length, Result, Ok, Err, refl, sym, ◌∙◌, subst, arith}
use Rattle.std.specs.Prelude.{if◌then◌else◌}
use Rattle.std.proofs.lemmas.Bool.{cond-true, cond-false, lt-ltb, le-ltb, le-leb, lt-leb, eq-eqb, ne_eqb}
use Rattle.boss_disk.specs.declared.disk.Disk as disk
use Rattle.boss_durable.specs.declared.durable.Durable.{Durable}
use Rattle.boss_durable.specs.Words.{lasting}
use Rattle.boss_following.specs.declared.following.Following.{Following}
use Rattle.boss_following.specs.declared.stop.Stop.{Stop}
use Rattle.boss_following.specs.declared.stop.Stop.TheVariants as stop
use Rattle.boss_following.specs.Items.{NoEvent, NoState}
use Rattle.boss_following.specs.Moves.{Steps}
use Rattle.boss_following.specs.Places.{at, spot}
use Rattle.boss_following.specs.Steps.{IsAtFault, Made, Moves}
use Rattle.boss_following.proofs.Moving.{idle}
use Rattle.boss_model.specs.declared.state.Actuator.{Actuator}
use Rattle.boss_model.specs.Limits.{last_number}
use Rattle.boss_model.specs.State.{Persistent}
use Rattle.def_feed.specs.Feeds.{longest_part}
use Rattle.def_feed.specs.Followers.{Follower, largest_state, Taking, Step, On, Fault, Gap, Next, Whole, is_due, of_event, of_state, passing, taking}

-- ---- which step it is

module _ (f : Follower) (number : ℕ) (bytes : List ℕ) where
  pub event-known : number ≤ f.count → of_event f number bytes ≡ On f
  event-known known = cond-true (nat_le number f.count) _ _ (le-leb number f.count known)

  pub event-missing : f.count + 1 < number → of_event f number bytes ≡ Gap f.count number
  event-missing late =
      cond-false (nat_le number f.count) _ _ (lt-leb number f.count (omega arith))
      ∙ cond-true (nat_lt (f.count + 1) number) _ _ (lt-ltb (f.count + 1) number late)

  pub event-numbered : f.count < number → number ≤ f.count + 1 → last_number < number → of_event f number bytes ≡ Fault
  event-numbered after one many =
      cond-false (nat_le number f.count) _ _ (lt-leb number f.count after)
      ∙ cond-false (nat_lt (f.count + 1) number) _ _ (le-ltb (f.count + 1) number one)
      ∙ cond-false (nat_le number last_number) _ _ (lt-leb number last_number many)

  pub event-next : f.count < number → number ≤ f.count + 1 → number ≤ last_number → of_event f number bytes ≡ Next bytes
  event-next after one few =
      cond-false (nat_le number f.count) _ _ (lt-leb number f.count after)
      ∙ cond-false (nat_lt (f.count + 1) number) _ _ (le-ltb (f.count + 1) number one)
      ∙ cond-true (nat_le number last_number) _ _ (le-leb number last_number few)

module _ (f : Follower) (number size : ℕ) where
  pub state-refused : (nat_le number last_number && nat_le size largest_state) ≡ false → of_state f number size ≡ Fault
  state-refused not = cond-false (nat_le number last_number && nat_le size largest_state) _ _ not

  pub state-known : (nat_le number last_number && nat_le size largest_state) ≡ true → number ≤ f.count → of_state f number size ≡ passing f size
  state-known may known =
      cond-true (nat_le number last_number && nat_le size largest_state) _ _ may ∙ cond-true (nat_le number f.count) _ _ (le-leb number f.count known)

  pub state-new : (nat_le number last_number && nat_le size largest_state) ≡ true → f.count < number → of_state f number size ≡ taking f number size []
  state-new may new =
      cond-true (nat_le number last_number && nat_le size largest_state) _ _ may ∙ cond-false (nat_le number f.count) _ _ (lt-leb number f.count new)

  pub taking-on : (bytes : List ℕ) → length bytes < size → taking f number size bytes ≡ On (record f { place = Taking number size bytes })
  taking-on bytes less = cond-false (length bytes == size) _ _ (ne_eqb (length bytes) size (λ same. absurd (omega arith)))

  pub taking-whole : (bytes : List ℕ) → length bytes ≤ size → size ≤ length bytes → taking f number size bytes ≡ Whole number bytes
  taking-whole bytes most least = cond-true (length bytes == size) _ _ (eq-eqb (length bytes) size (omega arith))

  pub part-taken : (bytes more : List ℕ) → length more ≡ min longest_part (size - length bytes) →
      (if is_due (size - length bytes) more then taking f number size (bytes ++ more) else Fault) ≡ taking f number size (bytes ++ more)
  part-taken bytes more due = cond-true (is_due (size - length bytes) more) _ _ (eq-eqb (length more) (min longest_part (size - length bytes)) due)

-- a part of another length
pub part-refused : (step : Step) (left : ℕ) (more : List ℕ) → length more ≢ min longest_part left → (if is_due left more then step else Fault) ≡ Fault
part-refused step left more other = cond-false (is_due left more) _ _ (ne_eqb (length more) (min longest_part left) other)

pub part-passed : (f : Follower) (left : ℕ) (more : List ℕ) → length more ≡ min longest_part left →
    (if is_due left more then passing f (left - length more) else Fault) ≡ passing f (left - length more)
part-passed f left more due = cond-true (is_due left more) _ _ (eq-eqb (length more) (min longest_part left) due)

-- ---- from where, as far as a step looks

module _ (plant : List Actuator) (d : Persistent) (count : ℕ) (from other : Following) where
  made-from : (step : Step) (next : Follower) → Made plant (at d count other) step next → Made plant (at d count from) step next
  made-from (On to) next made = made
  made-from Fault next made = made
  made-from (Gap have found) next made = made
  made-from (Next bytes) next made = made
  made-from (Whole number bytes) next made = made

  fault-from : (step : Step) → IsAtFault plant (at d count other) step → IsAtFault plant (at d count from) step
  fault-from (On to) fault = fault
  fault-from Fault fault = fault
  fault-from (Gap have found) fault = fault
  fault-from (Next bytes) fault = fault
  fault-from (Whole number bytes) fault = fault

  moves-from : (step : Step) (now : Follower) (result : Result Unit Stop) → Moves plant (at d count other) step now result → Moves plant (at d count from) step now result
  moves-from step now (Ok done) moves = made-from step now moves
  moves-from step now (Err (stop.Gap have found)) moves = moves
  moves-from step now (Err stop.BadLine) moves = (fault-from step moves.0, moves.1)
  moves-from step now (Err stop.DiskFault) moves = moves
  moves-from step now (Err stop.NoMemory) moves = moves

module _ {D : Type 0} {g : disk.Ghosts D} where
  pub steps-as : (plant : List Actuator) (step same : Step) (old : Durable D g) (from : Following) (new : Durable D g) (to : Following) (result : Result Unit Stop) →
      step ≡ same → Steps plant same old from new to result → Steps plant step old from new to result
  steps-as plant step same old from new to result is steps = subst (λ (s : Step). Steps plant s old from new to result) (sym is) steps

  pub steps-from : (plant : List Actuator) (step : Step) (old : Durable D g) (from other : Following) (new : Durable D g) (to : Following) (result : Result Unit Stop) →
      Steps plant step old other new to result → Steps plant step old from new to result
  steps-from plant step old from other new to result steps = record {
    moves = moves-from plant (lasting old) old.disks.events from other step (spot new to) result steps.moves;
    keeps_on = steps.keeps_on;
    images = λ before held.
        let may = steps.images before held in (
          may.0,
          may.1,
          elim may.2 [
            | inl stays ↦ inl stays
            | inr on ↦ inr (on.0, made-from plant (lasting old) old.disks.events from other step on.0 on.1, on.2)
          ],
        );
    cause = steps.cause;
    stops = steps.stops;
    same_plant = steps.same_plant;
    limit = steps.limit;
    digest = steps.digest;
  }

  -- ---- the journal stays as it is

  module _ (plant : List Actuator) (durable : Durable D g) (from to : Following) (going : durable.disks.stopped ≡ false) where
    pub goes-on : (step : Step) → step ≡ On (spot durable to) → Steps plant step durable from durable to (Ok tt)
    goes-on step is = steps-as plant step (On (spot durable to)) durable from durable to (Ok tt) is (idle plant (On (spot durable to)) durable from to (Ok tt) going refl refl)

    pub at-fault : (step : Step) → step ≡ Fault → Steps plant step durable from durable to (Err stop.BadLine)
    at-fault step is = steps-as plant step Fault durable from durable to (Err stop.BadLine) is (idle plant Fault durable from to (Err stop.BadLine) going refl (tt, (refl, refl)))

    pub is-late : (step : Step) (have found : ℕ) → step ≡ Gap have found → Steps plant step durable from durable to (Err (stop.Gap have found))
    is-late step have found is = idle plant step durable from to (Err (stop.Gap have found)) going refl (is, (refl, refl))

    pub wants-memory : (step : Step) → Steps plant step durable from durable to (Err stop.NoMemory)
    wants-memory step = idle plant step durable from to (Err stop.NoMemory) going refl (tt, (refl, refl))

    pub no-event-there : (bytes told : List ℕ) (why : Stop) → bytes ≡ told → NoEvent bytes why → Steps plant (Next told) durable from durable to (Err why)
    no-event-there bytes told (stop.Gap have found) same none = absurd none
    no-event-there bytes told stop.BadLine same none =
        idle plant (Next told) durable from to (Err stop.BadLine) going refl ((λ d is. none is.made is.fits (same ∙ is.spelled)), (refl, refl))
    no-event-there bytes told stop.DiskFault same none = absurd none
    no-event-there bytes told stop.NoMemory same none = wants-memory (Next told)

    pub no-state-there : (number : ℕ) (bytes : List ℕ) (why : Stop) → NoState bytes why → Steps plant (Whole number bytes) durable from durable to (Err why)
    no-state-there number bytes (stop.Gap have found) none = absurd none
    no-state-there number bytes stop.BadLine none =
        idle plant (Whole number bytes) durable from to (Err stop.BadLine) going refl ((λ d is. none d (record { fits = is.fits; is = is.spelled })), (refl, refl))
    no-state-there number bytes stop.DiskFault none = absurd none
    no-state-there number bytes stop.NoMemory none = wants-memory (Whole number bytes)

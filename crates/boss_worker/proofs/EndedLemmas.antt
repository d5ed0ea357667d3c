-- The workers that serve no connection were told to end.
use Rattle.std.proofs.Common.{◌≡◌, ℕ, suc, ◌<◌, ◌≤◌, ◌==◌, ◌||◌, Bool, true, false, List, [], ◌∷◌, ◌++◌, length, ap, sym, ◌∙◌, arith}
use Rattle.std.specs.List.{filter}
use Rattle.std.proofs.lemmas.Bool.Decides.{nat_tests}
use Rattle.boss_model.specs.declared.answer.Answer.{Answer}
use Rattle.boss_model.specs.declared.state.Actuator.{Actuator}
use Rattle.boss_model.specs.Limits.{last_number}
use Rattle.def_history.specs.declared.entry.Entry.{Entry}
use Rattle.def_history.specs.History.{deeds}
use Rattle.def_lanes.specs.Lanes.{Lane, in_lane, done_in}
use Rattle.def_lanes.specs.Parts.{Added}
use Rattle.def_lanes.specs.Works.{not_cut, by_disk, by_clock, Work, visit, beat, drive, lane_of_work, owner, AreOf}
use Rattle.def_lanes.proofs.Agreements.{all-in}
use Rattle.def_lanes.proofs.Lists.{each-map}
use Rattle.boss_expiry.specs.declared.end.WorkEnd.{WorkEnd}
use Rattle.boss_expiry.specs.declared.end.WorkEnd.TheVariants as work
use Rattle.boss_expiry.specs.Ends.{EndCause, TookTurns}
use Rattle.boss_expiry.specs.Ticking.{ticks}
use Rattle.boss_drive.specs.Driving.{Turn, idle, doubted, served, Made, made_by}
use Rattle.boss_worker.specs.Ended.{is_worked, HasEnded, AreEnded}
use Rattle.boss_worker.specs.Troubles.{cut_by, trouble_of_work}

-- a worker for connections has no other works
visit-ended : (plant : List Actuator) (pausing : Type 0) (own : List Entry) (workers number : ℕ) → number < workers → (work : Work) →
    (number ≤ owner workers work) × (owner workers work < suc number) → HasEnded pausing work (done_in plant (lane_of_work work) own)
visit-ended plant pausing own workers number low (visit one course) within = tt
visit-ended plant pausing own workers number low (beat waited course) within = absurd (omega (arith, within.1))
visit-ended plant pausing own workers number low (drive driver calls waited course) within = absurd (omega (arith, within.1))

pub visits-ended : (plant : List Actuator) (pausing : Type 0) (own : List Entry) (workers number : ℕ) → number < workers → (works : List Work) → AreOf workers number (suc number) works →
    AreEnded plant pausing own works
visits-ended plant pausing own workers number low works of_them =
    each-map (λ work. (number ≤ owner workers work) × (owner workers work < suc number)) (λ work. HasEnded pausing work (done_in plant (lane_of_work work) own))
    (visit-ended plant pausing own workers number low) works of_them

pub worked-one : (workers number : ℕ) (work : Work) → number ≡ owner workers work → is_worked workers number (work ∷ []) ≡ true
worked-one workers number work owned =
    let same : (owner workers work == number) ≡ true = grind (arith, nat_tests, owned) in
    ap (λ b. b || false) same

-- all that a worker did is in its one lane
pub lane-whole : (plant : List Actuator) (lane : Lane) (says : List Entry → Type 0) (clocking : Type 0) (moments : List ℕ) (own own' : List Entry) (given given' : List ℕ) →
    Added plant lane says clocking moments own own' given given' → deeds own ≡ [] → done_in plant lane own' ≡ deeds own'
lane-whole plant lane says clocking moments own own' given given' added none =
    let all : deeds own' ≡ added.more = added.grew ∙ ap (λ front. front ++ added.more) none in
    ap (filter (in_lane plant lane)) all ∙ all-in plant lane added.more added.of_lane ∙ sym all

-- there is an entry for each turn
pub ticks-long : (turns : List (ℕ × Answer)) (rest : List Entry) → length turns ≤ length (deeds (ticks turns ++ rest))
ticks-long [] rest = omega arith
ticks-long (turn ∷ turns) rest = let more = ticks-long turns rest in omega (arith, more)

pub turns-long : (driver : ℕ) (turns : List Turn) (last : Made) → length turns ≤ length (deeds (made_by driver turns last).entries)
turns-long driver [] last = omega arith
turns-long driver (idle moment ∷ turns) last = let more = turns-long driver turns last in omega (arith, more)
turns-long driver (doubted moment point differs answer ∷ turns) last = let more = turns-long driver turns last in omega (arith, more)
turns-long driver (served w told answer ∷ turns) last = let more = turns-long driver turns last in omega (arith, more)

-- where nothing cut it off and there were fewer than all turns, a pause said so
pub told-to-end : (end : WorkEnd) (turns most done : ℕ) (seen : List Entry) (pausing : Type 0) (closed : Bool) (before now : ℕ) → last_number ≤ most → TookTurns turns most end →
    EndCause seen pausing closed before now end → turns ≤ done → cut_by (trouble_of_work end) ≡ not_cut → pausing → done < last_number → closed ≡ true
told-to-end work.Finished turns most done seen pausing closed before now enough taken cause long uncut told few = absurd (omega (arith, taken))
told-to-end work.Closed turns most done seen pausing closed before now enough taken cause long uncut told few = cause.0 told
told-to-end work.ClockFault turns most done seen pausing closed before now enough taken cause long uncut told few = absurd (let no : by_clock ≡ not_cut = uncut in cc)
told-to-end work.Stopped turns most done seen pausing closed before now enough taken cause long uncut told few = absurd (let no : by_disk ≡ not_cut = uncut in cc)
told-to-end work.DiskFault turns most done seen pausing closed before now enough taken cause long uncut told few = absurd (let no : by_disk ≡ not_cut = uncut in cc)

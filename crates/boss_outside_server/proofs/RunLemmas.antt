use Rattle.std.proofs.Common.{◌≡◌, ℕ, Bool, true, false, List, [], ◌∷◌, ◌++◌, map, refl, arith}
use Rattle.std.specs.List.{AllByRecursion, AllZip}
use Rattle.boss_outside_server.specs.declared.running.Planned.{Planned}
use Rattle.boss_outside_server.specs.declared.task.Ran.{Ran}
use Rattle.boss_outside_server.specs.Tasks.{AreCarriedOut, AreReady, EachRan, Starts, StartCause, SpawnCause, tasks_of, starts_of, is_ended}

-- one pair more at the end
pub AllZip-snoc : {A B : Type 0} (R : A → B → Type 0) (xs : List A) (ys : List B) (x : A) (y : B)
    → AllZip R xs ys → R x y → AllZip R (xs ++ x ∷ []) (ys ++ y ∷ [])
AllZip-snoc R [] [] x y all here = (here, tt)
AllZip-snoc R [] (_ ∷ _) x y all here = absurd all
AllZip-snoc R (_ ∷ _) [] x y all here = absurd all
AllZip-snoc R (_ ∷ xs) (_ ∷ ys) x y all here = (all.0, AllZip-snoc R xs ys x y all.1 here)

-- what holds of each holds of those in front of the last, and of the last
pub AllByRecursion-snoc : {A : Type 0} (P : A → Type 0) (xs : List A) (x : A)
    → AllByRecursion P (xs ++ x ∷ []) → AllByRecursion P xs × P x
AllByRecursion-snoc P [] x all = (tt, all.0)
AllByRecursion-snoc P (_ ∷ xs) x all =
    let rest = AllByRecursion-snoc P xs x all.1 in
    ((all.0, rest.0), rest.1)

-- one call more
pub Starts-snoc : {S : Type 0} (step : S → Bool → S → Type 0) (old between new : S) (answers : List Bool) (answer : Bool)
    → Starts step old answers between → step between answer new → Starts step old (answers ++ answer ∷ []) new
Starts-snoc step old between new [] answer is here = rw (← is) (new, here, refl)
Starts-snoc step old between new (_ ∷ answers) answer (s, first, later) here =
    (s, first, Starts-snoc step s between new answers answer later here)

-- one call more
pub SpawnCause-snoc : (old between new : ℕ) (answers : List Bool) (answer : Bool)
    → SpawnCause old between answers → StartCause between new answer → SpawnCause old new (answers ++ answer ∷ [])
SpawnCause-snoc old between new [] true cause here = omega arith
SpawnCause-snoc old between new [] false cause here = omega arith
SpawnCause-snoc old between new (true ∷ answers) answer cause here = SpawnCause-snoc old between new answers answer cause here
SpawnCause-snoc old between new (false ∷ answers) true cause here = omega arith
SpawnCause-snoc old between new (false ∷ answers) false cause here = omega arith

module _ {T : Type 0} (ran abandoned : T → T → Type 0) where
  -- what became of the planned tasks became of the tasks
  pub EachRan-tasks_of : (planned : List (Planned T)) (done : List (Ran T))
      → AreCarriedOut ran abandoned planned done → EachRan ran abandoned (tasks_of planned) done
  EachRan-tasks_of [] [] all = tt
  EachRan-tasks_of [] (_ ∷ _) all = absurd all
  EachRan-tasks_of (_ ∷ _) [] all = absurd all
  EachRan-tasks_of (_ ∷ planned) (_ ∷ done) all = (all.0.became, EachRan-tasks_of planned done all.1)

  -- the tasks that were started are those that were to be
  pub is_ended-starts_of : (planned : List (Planned T)) (done : List (Ran T))
      → AreCarriedOut ran abandoned planned done → map is_ended done ≡ starts_of planned
  is_ended-starts_of [] [] all = refl
  is_ended-starts_of [] (_ ∷ _) all = absurd all
  is_ended-starts_of (_ ∷ _) [] all = absurd all
  is_ended-starts_of (_ ∷ planned) (_ ∷ done) all = rw (all.0.as_planned, is_ended-starts_of planned done all.1)

-- what holds of the tasks of a plan holds of each
pub AreReady-tasks_of : {T : Type 0} (ready : T → Type 0) (planned : List (Planned T))
    → AllByRecursion ready (tasks_of planned) → AreReady ready planned
AreReady-tasks_of ready [] all = tt
AreReady-tasks_of ready (_ ∷ planned) all = (all.0, AreReady-tasks_of ready planned all.1)

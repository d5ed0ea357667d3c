-- Source: own.
-- Workers in the order of their numbers.
use Rattle.std.specs.Prelude.{◌≡◌, ℕ, suc, ◌+◌, Bool, true, false, List, [], ◌∷◌, ◌++◌}
use Rattle.boss_outside_server.specs.declared.task.Ran.{Ran}
use Rattle.boss_outside_server.specs.declared.task.Ran.TheVariants.{Ended, NotStarted}

module _ {T : Type 0} where
  -- this holds of each worker, with its number, from this one on, and of whether it ran
  abbrev pub EachInTurn : List (Ran T) → ℕ → (Bool → ℕ → T → Type 0) → Type 0
  EachInTurn [] n P = Unit {0}
  EachInTurn (Ended worker ∷ rest) n P = P true n worker × EachInTurn rest (suc n) P
  EachInTurn (NotStarted worker ∷ rest) n P = P false n worker × EachInTurn rest (suc n) P

  -- the same of workers that are to run
  abbrev pub AllInTurn : List T → ℕ → (ℕ → T → Type 0) → Type 0
  AllInTurn [] n P = Unit {0}
  AllInTurn (worker ∷ rest) n P = P n worker × AllInTurn rest (suc n) P

  -- how many connections they were to serve
  abbrev pub shares_in : List (Ran T) → (T → ℕ) → ℕ
  shares_in [] share = 0
  shares_in (Ended worker ∷ rest) share = share worker + shares_in rest share
  shares_in (NotStarted worker ∷ rest) share = share worker + shares_in rest share

  abbrev pub shares_of : List T → (T → ℕ) → ℕ
  shares_of [] share = 0
  shares_of (worker ∷ rest) share = share worker + shares_of rest share

  -- the devices that they were handed
  abbrev pub devices_in : {A : Type 0} → List (Ran T) → (T → List A) → List A
  devices_in [] was = []
  devices_in (Ended worker ∷ rest) was = was worker ++ devices_in rest was
  devices_in (NotStarted worker ∷ rest) was = was worker ++ devices_in rest was

  abbrev pub devices_of : {A : Type 0} → List T → (T → List A) → List A
  devices_of [] was = []
  devices_of (worker ∷ rest) was = was worker ++ devices_of rest was

  -- whether one of them did not run
  abbrev pub is_any_unrun : List (Ran T) → Bool
  is_any_unrun [] = false
  is_any_unrun (Ended worker ∷ rest) = is_any_unrun rest
  is_any_unrun (NotStarted worker ∷ rest) = true

  -- the worker, and whether it ran
  abbrev pub IsWorkerOf : Ran T → T → Bool → Type 0
  IsWorkerOf (Ended worker) it ran = (it ≡ worker) × (ran ≡ true)
  IsWorkerOf (NotStarted worker) it ran = (it ≡ worker) × (ran ≡ false)

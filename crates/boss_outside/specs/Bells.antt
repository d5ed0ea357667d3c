-- Source: own.
-- Which bell a worker is woken by.
use Rattle.std.specs.Prelude.{ℕ, suc, ◌+◌, ◌*◌, ◌%◌, List, [], ◌∷◌}
use Rattle.boss_model.specs.Limits.{most_drivers}

-- the bell of the worker for time
abbrev pub time_bell : ℕ
time_bell = 0

-- the bell of the worker for a driver
abbrev pub driver_bell : ℕ → ℕ
driver_bell driver = suc driver

-- how many bells those share who wait for notices of a process, and the first of these bells
abbrev pub name_bells : ℕ
name_bells = 4096

abbrev pub first_name_bell : ℕ
first_name_bell = suc most_drivers

-- how many bells there are
abbrev pub bells : ℕ
bells = first_name_bell + name_bells

-- these bytes behind others that are mixed already
abbrev pub mixed : ℕ → List ℕ → ℕ
mixed before [] = before
mixed before (byte ∷ bytes) = mixed ((before * 31 + byte) % name_bells) bytes

-- the bell of those who wait for notices of the process of this name
abbrev pub name_bell : List ℕ → ℕ
name_bell name = first_name_bell + mixed 0 name

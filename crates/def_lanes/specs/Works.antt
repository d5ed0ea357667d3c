-- Source: own.
-- What a worker of a server has done in one lane, and which worker that is.
use Rattle.std.specs.Prelude.{◌≡◌, ℕ, ◌+◌, ◌-◌, ◌%◌, ◌<◌, ◌≤◌, ◌==◌, Bool, true, false, ◌||◌, List, [], ◌∷◌, ◌++◌, filter, if◌then◌else◌}
use Rattle.std.specs.List.{AllByRecursion}
use Rattle.boss_model.specs.DeviceCall.{DeviceCall}
use Rattle.boss_outside_server.specs.declared.waited.Waited.{Waited}
use Rattle.boss_outside_server.specs.Hosts.{Served}
use Rattle.def_lanes.specs.Lanes.{Lane, of_session, of_driver, of_time, is_lane}

-- whether a connection was cut off by what it has in common with others: the disk or the clock failed, or there was no memory
pub data Cut : Type 0 where
  not_cut : Cut
  by_disk : Cut
  by_clock : Cut
  by_memory : Cut

-- How a work went: the moments that its worker's clock gave for it, in order; what cut it off; and of a connection, whether it ended
-- since a pause said that the worker is to end
pub record Course : Type 0 where
  pub moments : List ℕ
  pub cut : Cut
  pub closed : Bool

-- a connection that ended; or what the waiter of the worker that watches time noted; or that of a worker that drives the devices of a
-- driver, with the calls of its devices
pub data Work : Type 0 where
  visit : Served → Course → Work
  beat : Waited → Course → Work
  drive : ℕ → List DeviceCall → Waited → Course → Work

abbrev pub course_of : Work → Course
course_of (visit served course) = course
course_of (beat waited course) = course
course_of (drive driver calls waited course) = course

abbrev pub lane_of_work : Work → Lane
lane_of_work (visit served course) = of_session served.session
lane_of_work (beat waited course) = of_time
lane_of_work (drive driver calls waited course) = of_driver driver

-- the number of the worker that does it, where so many serve connections: these have the numbers from 0 on, and the sessions
-- in turn; then comes the one that watches time, and then one for each driver
abbrev pub owner : ℕ → Work → ℕ
owner workers (visit served course) = (served.session - 1) % workers
owner workers (beat waited course) = workers
owner workers (drive driver calls waited course) = workers + 1 + driver

-- each is done by a worker with a number from the first one up to, but not with, the end
abbrev pub AreOf : ℕ → ℕ → ℕ → List Work → Type 0
AreOf workers first end works = AllByRecursion (λ work. (first ≤ owner workers work) × (owner workers work < end)) works

-- those of them that the worker with this number did
abbrev pub works_of : ℕ → ℕ → List Work → List Work
works_of workers number works = filter (λ work. owner workers work == number) works

-- each is a connection with a session before this one
abbrev pub IsBefore : ℕ → Work → Type 0
IsBefore next (visit served course) = served.session < next
IsBefore next (beat waited course) = ⊥
IsBefore next (drive driver calls waited course) = ⊥

abbrev pub AreBefore : ℕ → List Work → Type 0
AreBefore next works = AllByRecursion (IsBefore next) works

-- none is done in the lane
abbrev pub IsAbsent : Lane → List Work → Type 0
IsAbsent lane works = AllByRecursion (λ work. ¬ (lane_of_work work ≡ lane)) works

-- no two are done in one lane
abbrev pub AreApart : List Work → Type 0
AreApart [] = Unit {0}
AreApart (work ∷ works) = IsAbsent (lane_of_work work) works × AreApart works

-- none of the first is done in a lane of one of the others
abbrev pub AreStrange : List Work → List Work → Type 0
AreStrange works others = AllByRecursion (λ work. IsAbsent (lane_of_work work) others) works

-- each has come to its end: no connection was cut off, and each other worker was told to end
abbrev pub IsWhole : Work → Type 0
IsWhole (visit served course) = course.cut ≡ not_cut
IsWhole (beat waited course) = waited.closed ≡ true
IsWhole (drive driver calls waited course) = waited.closed ≡ true

abbrev pub AreWhole : List Work → Type 0
AreWhole works = AllByRecursion IsWhole works

-- the connections, in order
abbrev pub served_by : Work → List Served
served_by (visit served course) = served ∷ []
served_by (beat waited course) = []
served_by (drive driver calls waited course) = []

abbrev pub served_in : List Work → List Served
served_in [] = []
served_in (work ∷ works) = served_by work ++ served_in works

-- the moments that clocks gave for them, in order
abbrev pub moments_in : List Work → List ℕ
moments_in [] = []
moments_in (work ∷ works) = (course_of work).moments ++ moments_in works

-- how many of them the clock cut off
abbrev pub is_clock : Cut → Bool
is_clock by_clock = true
is_clock other = false

abbrev pub clock_cuts : List Work → ℕ
clock_cuts [] = 0
clock_cuts (work ∷ works) = (if is_clock (course_of work).cut then 1 else 0) + clock_cuts works

-- how many of them a pause ended
abbrev pub closed_in : List Work → ℕ
closed_in [] = 0
closed_in (work ∷ works) = (if (course_of work).closed then 1 else 0) + closed_in works

-- each connection has a session of its own
abbrev pub HaveOwnSessions : List Served → Type 0
HaveOwnSessions [] = Unit {0}
HaveOwnSessions (served ∷ rest) = AllByRecursion (λ other. ¬ (other.session ≡ served.session)) rest × HaveOwnSessions rest

-- whether one of them is done in the lane
abbrev pub is_done_by : List Work → Lane → Bool
is_done_by [] lane = false
is_done_by (work ∷ works) lane = is_lane lane (lane_of_work work) || is_done_by works lane

-- the calls of a driver's devices, in order
abbrev pub calls_by : ℕ → Work → List DeviceCall
calls_by driver (visit served course) = []
calls_by driver (beat waited course) = []
calls_by driver (drive other calls waited course) = if other == driver then calls else []

abbrev pub calls_in : ℕ → List Work → List DeviceCall
calls_in driver [] = []
calls_in driver (work ∷ works) = calls_by driver work ++ calls_in driver works

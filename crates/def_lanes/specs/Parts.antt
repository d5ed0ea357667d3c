-- Source: own.
-- What a worker adds to the one history, what it left in the end, and how two such parts are joined.
use Rattle.std.specs.Prelude.{◌≡◌, ℕ, Bool, false, not, List, [], ◌∷◌, ◌++◌}
use Rattle.std.specs.List.{AllByRecursion}
use Rattle.boss_model.specs.declared.state.Actuator.{Actuator}
use Rattle.boss_model.specs.Lists.{member}
use Rattle.def_history.specs.declared.entry.Entry.{Entry}
use Rattle.def_history.specs.declared.entry.Entry.TheVariants.{Did, Broke}
use Rattle.def_history.specs.History.{deeds}
use Rattle.boss_outside_server.specs.Hosts.{Served}
use Rattle.def_lanes.specs.Lanes.{Lane, lane_of, only, in_either, done_in}
use Rattle.def_lanes.specs.Works.{Work, lane_of_work, moments_in, owner, AreOf, IsAbsent, AreApart, served_in}

-- ---- moments

abbrev pub is_untimed : List ℕ → Entry → Bool
is_untimed given (Did session command moment answer) = not (member moment given)
is_untimed given (Broke session commands others) = false

-- nothing was done at a moment that is none of these
abbrev pub AreTimed : List ℕ → List Entry → Type 0
AreTimed given entries = only (is_untimed given) entries ≡ []

-- ---- joins

-- entries of two come together in one history, each side's in their order: what stands on one side alone is then as it was
-- there
pub record Joined (old other new : List Entry) : Type 0 where
  pub kept : (test : Entry → Bool) → only test other ≡ [] → only test new ≡ only test old
  pub taken_in : (test : Entry → Bool) → only test old ≡ [] → only test new ≡ only test other

-- each work says what it has to of the entries of its lane, no two are done in one lane, and nothing was done in any other
pub record Agreed (plant : List Actuator) (says : Work → List Entry → Type 0) (entries : List Entry) (works : List Work) : Type 0 where
  pub each : AllByRecursion (λ work. says work (done_in plant (lane_of_work work) entries)) works
  pub none : (lane : Lane) → IsAbsent lane works → done_in plant lane entries ≡ []
  pub apart : AreApart works

-- ---- turns of one worker

-- all that was done in a lane stands before all that was done in another
abbrev pub StandsBefore : List Actuator → List Entry → Lane → Lane → Type 0
StandsBefore plant entries lane other = only (in_either plant lane other) entries ≡ done_in plant lane entries ++ done_in plant other entries

-- where one worker does both, all of the one stands before all of the other
abbrev pub ComesFirst : List Actuator → ℕ → List Entry → Work → Work → Type 0
ComesFirst plant workers entries work other = owner workers work ≡ owner workers other → StandsBefore plant entries (lane_of_work work) (lane_of_work other)

-- the works of each worker follow one another: each begins with all that was done in those before it
abbrev pub AreInTurn : List Actuator → ℕ → List Entry → List Work → Type 0
AreInTurn plant workers entries [] = Unit {0}
AreInTurn plant workers entries (work ∷ works) = AllByRecursion (ComesFirst plant workers entries work) works × AreInTurn plant workers entries works

-- ---- one work more

-- what a worker did in one lane: all that it added belongs there, is as it has to be, and was done at these moments, which are all that
-- its clock gave
pub record Added (plant : List Actuator) (lane : Lane) (says : List Entry → Type 0) (clocking : Type 0) (moments : List ℕ) (old new : List Entry) (given given' : List ℕ) : Type 0 where
  pub more : List Entry
  pub grew : deeds new ≡ deeds old ++ more
  pub of_lane : AllByRecursion (λ entry. lane_of plant entry ≡ lane) more
  pub agrees : says more
  pub gave : clocking → given' ≡ given ++ moments
  pub timed : AreTimed moments more

-- ---- what workers left

-- a server: the plant; how many of its workers serve connections; what a work says of the entries of its lane; and whether its
-- host tells the connections that it took back, and its clock the moments that it gave
pub record Terms : Type 1 where
  pub plant : List Actuator
  pub workers : ℕ
  pub says : Work → List Entry → Type 0
  pub hosting : Type 0
  pub clocking : Type 0

-- what one worker left, or those with the numbers from the first one up to the end, joined: their works agree with their own
-- entries, each connection was given back, and all moments that their clocks
-- gave are those of their works, in order
pub record Part (terms : Terms) (first end : ℕ) (works : List Work) (own : List Entry) (served served' : List Served) (given given' : List ℕ) : Type 0 where
  pub agreed : Agreed terms.plant terms.says own works
  pub of_them : AreOf terms.workers first end works
  pub in_turn : AreInTurn terms.plant terms.workers own works
  pub came_back : terms.hosting → served' ≡ served ++ served_in works
  pub gave : terms.clocking → given' ≡ given ++ moments_in works

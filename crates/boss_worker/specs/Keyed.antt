-- Source: own.
-- Who spoke on the connections of a server, where there are keys.
use Rattle.std.specs.Prelude.{◌≡◌, ℕ, List, [], ◌∷◌, ◌++◌, Option, Some, None}
use Rattle.std.specs.List.{AllByRecursion}
use Rattle.boss_model.specs.declared.state.Actuator.{Actuator}
use Rattle.boss_model.specs.Lines.{lines}
use Rattle.def_history.specs.declared.entry.Entry.{Entry}
use Rattle.def_lanes.specs.Lanes.{done_in}
use Rattle.def_lanes.specs.Works.{Work, visit, beat, drive, lane_of_work}
use Rattle.boss_outside_server.specs.Hosts.{Served}
use Rattle.def_connection.specs.Showing.{AreOwn}
use Rattle.boss_keys.specs.declared.entry.Entry.{Entry as KeyEntry}
use Rattle.boss_callers.specs.declared.shown.Shown.TheVariants.{Key}
use Rattle.boss_callers.specs.Shown.{shown_by}

-- one of the lines that a connection's input lost shows the key of this name
pub record HasShown (keys : List KeyEntry) (served : Served) (name : List ℕ) : Type 0 where
  pub lost : List ℕ
  pub split : served.held ≡ lost ++ served.left
  pub front : List (List ℕ)
  pub line : List ℕ
  pub back : List (List ℕ)
  pub lines_are : lines lost ≡ front ++ line ∷ back
  pub shown : shown_by keys line ≡ Key name

-- A connection with these entries showed the key of a name, and each attach among them is of that name; or it showed none, and there are
-- no entries
pub record IsByKey (keys : List KeyEntry) (served : Served) (entries : List Entry) : Type 0 where
  pub known : Option (List ℕ)
  pub own : AreOwn known entries
  pub key : (name : List ℕ) → known ≡ Some name → HasShown keys served name
  pub none : known ≡ None → entries ≡ []

-- each connection is so, by the entries of its lane
abbrev pub IsByKeyWork : List KeyEntry → Work → List Entry → Type 0
IsByKeyWork keys (visit served course) entries = IsByKey keys served entries
IsByKeyWork keys (beat waited course) entries = Unit {0}
IsByKeyWork keys (drive driver calls waited course) entries = Unit {0}

abbrev pub AreByKeys : List Actuator → List KeyEntry → List Entry → List Work → Type 0
AreByKeys plant keys entries works = AllByRecursion (λ work. IsByKeyWork keys work (done_in plant (lane_of_work work) entries)) works

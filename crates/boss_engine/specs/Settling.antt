-- Source: own.
use Rattle.std.specs.Prelude.{◌≡◌, ℕ, ◌<◌, false, List, length}
use Rattle.boss_model.specs.declared.state.Actuator.{Actuator}
use Rattle.boss_model.specs.declared.state.Proxy.{Proxy}
use Rattle.boss_model.specs.Catalogue.{default_of}
use Rattle.boss_model.specs.Devices.{proxy_of}
use Rattle.boss_model.specs.Settle.{opened, wanted_anew, places, changed_if, is_moved, recommanded}
use Rattle.boss_model.specs.State.{Persistent}
use Rattle.boss_holdings.specs.Held.{Held, is_touched, shown}
use Rattle.boss_marks.specs.Marks.{Marks}

-- every point is compared, and those that moved want their device to be written
abbrev pub settled_by : List Actuator → Persistent → Marks → Marks
settled_by plant d marks = record marks {
  proxies = changed_if (is_moved plant d) (recommanded plant d) marks.proxies;
  wants = wanted_anew (places (is_moved plant d) marks.proxies) marks.wants;
}

-- every point is started at its target
abbrev pub opened_by : List Actuator → Persistent → Marks → Marks
opened_by plant d marks = record marks { proxies = (opened plant d).proxies; wants = (opened plant d).wants }

-- each point that is not touched was last told the value that it is to have
abbrev pub AreCurrent : List Actuator → Held → List Proxy → Type 0
AreCurrent plant held proxies = (point : ℕ) → point < length plant → is_touched held point ≡ false →
    (proxy_of proxies point).commanded ≡ shown (default_of plant point) held.now held point

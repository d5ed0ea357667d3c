-- Source: own.
-- What a script has to do with, as each part of it tells of itself at one moment.
use Rattle.std.specs.Prelude.{◌≡◌, ◌⊎◌, ℕ, Bool, true, List, map, Option, slice_index_or}
use Rattle.std.specs.List.{AllByRecursion}
use Rattle.boss_model.specs.DeviceCall.{DeviceCall}
use Rattle.boss_outside.specs.Counts.{Rose}
use Rattle.boss_outside.specs.declared.actuators.Actuators as actuators
use Rattle.boss_outside.specs.declared.sink.Sink as sink
use Rattle.boss_outside.specs.declared.source.ReadAt.{ReadAt}
use Rattle.boss_outside.specs.declared.source.Source as source

-- the bytes that a sink took; and of each device, driver 0's first, its calls and how many of its writes failed
pub record Trace : Type 1 where
  pub taken : List ℕ
  pub calls : List (List DeviceCall)
  pub faults : List ℕ
  -- the devices tell their calls, and none is missing among them
  pub whole : Type 0

-- the same, and what is left of a source, and at which point each read of it was made, as far as this is noted; and how many reads and
-- writes failed
pub record Outside : Type 1 where
  pub source_tells : Type 0
  pub left : List ℕ
  pub reads : Option (List ReadAt)
  pub read_faults : ℕ
  pub sink_tells : Type 0
  pub write_faults : ℕ
  pub trace : Trace

module _ {K A : Type 0} (k : sink.Ghosts K) (a : actuators.Ghosts A) where
  abbrev pub trace : K → List A → Trace
  trace sink devices = record {
    taken = k.taken sink;
    calls = map a.calls devices;
    faults = map a.faults devices;
    whole = a.tells × AllByRecursion a.whole devices;
  }

module _ {S K A : Type 0} (s : source.Ghosts S) (k : sink.Ghosts K) (a : actuators.Ghosts A) where
  abbrev pub outside : S → K → List A → Outside
  outside source sink devices = record {
    source_tells = s.tells;
    left = s.left source;
    reads = s.reads source;
    read_faults = s.faults source;
    sink_tells = k.tells;
    write_faults = k.faults sink;
    trace = trace k a sink devices;
  }

-- ---- how the devices answered

-- the count stayed, or it rose
abbrev pub Stays : ℕ → ℕ → Type 0
Stays before now = (now ≡ before) ⊎ Rose before now

-- no device's count fell; and where none rose the devices took each of these calls
pub record Answered (results : List Bool) (before now : List ℕ) : Type 0 where
  pub stays : (device : ℕ) → Stays (slice_index_or before device 0) (slice_index_or now device 0)
  pub taken : ((device : ℕ) → ¬ Rose (slice_index_or before device 0) (slice_index_or now device 0)) → AllByRecursion (λ ok. ok ≡ true) results

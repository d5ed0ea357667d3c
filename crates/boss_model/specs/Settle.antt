-- Source: own.
use Rattle.std.specs.Prelude.{ℕ, ◌+◌, ◌%◌, ◌^◌, ℤ, nat_le, Bool, true, false, not, ◌&&◌, if◌then◌else◌, List, [], ◌++◌, length, map, filter, None}
use Rattle.std.specs.List.{enumerate_from, range_with_len}
use Rattle.std.specs.Ordering.{int_eq}
use Rattle.boss_model.specs.declared.answer.Mark.{Mark}
use Rattle.boss_model.specs.declared.answer.Mark.TheVariants as mark
use Rattle.boss_model.specs.Catalogue.{Actuator}
use Rattle.boss_model.specs.Lists.{member}
use Rattle.boss_model.specs.State.{Proxy, Persistent, State, first_persistent}
use Rattle.boss_model.specs.Target.{target}

-- a point whose device has not been told anything yet
abbrev pub fresh : ℤ → Proxy
fresh value = record { version = 1; commanded = value; mark = mark.Pending; failed = false; retry_at = 0; differed = 0; took = None }

-- the state that a persistent part opens to: nobody is attached, and every point wants its target
abbrev pub opened : List Actuator → Persistent → State
opened plant d = record {
  persistent = d;
  attached = [];
  proxies = map (λ point. fresh (target plant d point)) (range_with_len 0 (length plant));
  wants = range_with_len 0 (length plant);
}

abbrev pub first_state : List Actuator → State
first_state plant = opened plant first_persistent

-- these points stand last among the wants; an older want of theirs is taken out
abbrev pub wanted_anew : List ℕ → List ℕ → List ℕ
wanted_anew points wants = filter (λ want. not (member want points)) wants ++ points

-- the places of those that pass a test of place and proxy, rising
abbrev pub places : (ℕ × Proxy → Bool) → List Proxy → List ℕ
places test proxies = map (λ place. place.0) (filter test (enumerate_from 0 proxies))

-- those that pass, changed
abbrev pub changed_if : (ℕ × Proxy → Bool) → (ℕ × Proxy → Proxy) → List Proxy → List Proxy
changed_if test change proxies = map (λ place. if test place then change place else place.1) (enumerate_from 0 proxies)

-- ---- retries

abbrev pub is_failed : Mark → Bool
is_failed mark.Settled = false
is_failed mark.Pending = false
is_failed mark.Failed = true

abbrev pub is_retried : ℕ → ℕ × Proxy → Bool
is_retried n place = is_failed place.1.mark && nat_le place.1.retry_at n

abbrev pub retried : ℕ × Proxy → Proxy
retried place = record place.1 { mark = mark.Pending }

-- the points that failed long enough ago want their devices to be written again, with the same version
abbrev pub retry : ℕ → State → State
retry n s = record s {
  proxies = changed_if (is_retried n) retried s.proxies;
  wants = wanted_anew (places (is_retried n) s.proxies) s.wants;
}

-- ---- settling

-- the point's target is no longer the value that its device was last told
abbrev pub is_moved : List Actuator → Persistent → ℕ × Proxy → Bool
is_moved plant d place = not (int_eq (target plant d place.0) place.1.commanded)

-- a new version of the point, with its target as the commanded value
abbrev pub recommanded : List Actuator → Persistent → ℕ × Proxy → Proxy
recommanded plant d place = record place.1 {
  version = (place.1.version + 1) % 2 ^ 64;
  commanded = target plant d place.0;
  mark = mark.Pending;
  failed = false;
}

-- every point is compared, and those that moved want their device to be written
abbrev pub settle : List Actuator → State → State
settle plant s = record s {
  proxies = changed_if (is_moved plant s.persistent) (recommanded plant s.persistent) s.proxies;
  wants = wanted_anew (places (is_moved plant s.persistent) s.proxies) s.wants;
}

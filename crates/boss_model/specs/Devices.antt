-- Source: own.
use Rattle.std.specs.Prelude.{ℕ, ◌+◌, ◌%◌, ◌^◌, ◌==◌, pos, Bool, true, false, not, ◌&&◌, if◌then◌else◌, List, map, find, Option, Some, None, slice_get, slice_set, unwrap_or}
use Rattle.boss_model.specs.declared.answer.Answer.{Answer}
use Rattle.boss_model.specs.declared.answer.Answer.TheVariants as answer
use Rattle.boss_model.specs.declared.answer.Mark.{Mark}
use Rattle.boss_model.specs.declared.answer.Mark.TheVariants as mark
use Rattle.std.specs.Ordering.{int_eq}
use Rattle.boss_model.specs.Catalogue.{Actuator, driver_of}
use Rattle.boss_model.specs.Ends.{faulted}
use Rattle.boss_model.specs.Limits.{retry_after}
use Rattle.boss_model.specs.Lists.{member, without}
use Rattle.boss_model.specs.Order.{least}
use Rattle.boss_model.specs.Settle.{fresh, places, changed_if, wanted_anew}
use Rattle.boss_model.specs.State.{Proxy, Took, Persistent, State}
use Rattle.boss_model.specs.Target.{in_force}

-- an answer, and the state after it
pub record Reply : Type 0 where
  pub answer : Answer
  pub state : State

-- where a point's device stands; an unknown point has none, and no command of an unknown point is allowed
abbrev pub proxy_of : List Proxy → ℕ → Proxy
proxy_of proxies point = unwrap_or (slice_get proxies point) (fresh (pos 0))

-- ---- the driver's first want is handed out

abbrev pub hand_out : Option ℕ → State → Reply
hand_out None s = record { answer = answer.Nothing; state = s }
hand_out (Some point) s = record {
  answer = answer.Want point (proxy_of s.proxies point).version (proxy_of s.proxies point).commanded;
  state = record s { wants = without point s.wants };
}

abbrev pub next : List Actuator → ℕ → State → Reply
next plant driver s = hand_out (find (λ point. driver_of plant point == driver) s.wants) s

-- the least driver that has a want
abbrev pub wanting : List Actuator → State → Option ℕ
wanting plant s = least (λ driver. driver) (map (driver_of plant) s.wants)

-- ---- reports

-- a report counts if it is of the present version, and the point does not want to be written anew
abbrev pub is_current : ℕ → ℕ → State → Bool
is_current point version s = ((proxy_of s.proxies point).version == version) && not (member point s.wants)

-- what the device has taken, and since when: the value that it has already, or the commanded one from this moment on
abbrev pub took_at : ℕ → Proxy → Option Took → Option Took
took_at n proxy None = Some (record { value = proxy.commanded; since = n })
took_at n proxy (Some took) = Some (if int_eq took.value proxy.commanded then took else record { value = proxy.commanded; since = n })

abbrev pub taken : ℕ → Proxy → Proxy
taken n proxy = record proxy { mark = mark.Settled; took = took_at n proxy proxy.took }

abbrev pub not_taken : ℕ → Proxy → Proxy
not_taken n proxy = record proxy { mark = mark.Failed; failed = true; retry_at = n + retry_after }

-- only the first failure of a version concerns a process
abbrev pub faulted_first : Bool → ℕ → ℕ → Persistent → Persistent
faulted_first failed point n d = if failed then d else faulted (in_force d.leases point) n d

abbrev pub heard : ℕ → ℕ → Bool → State → State
heard n point true s = record s { proxies = slice_set s.proxies point (taken n (proxy_of s.proxies point)) }
heard n point false s = record s {
  persistent = faulted_first (proxy_of s.proxies point).failed point n s.persistent;
  proxies = slice_set s.proxies point (not_taken n (proxy_of s.proxies point));
}

abbrev pub report : ℕ → ℕ → ℕ → Bool → State → Reply
report n point version ok s = if is_current point version s
    then record { answer = answer.Noted true; state = heard n point ok s }
    else record { answer = answer.Noted false; state = s }

-- ---- doubts

abbrev pub is_settled : Mark → Bool
is_settled mark.Settled = true
is_settled mark.Pending = false
is_settled mark.Failed = false

-- a doubt counts where the point is settled
abbrev pub is_doubted : ℕ → ℕ × Proxy → Bool
is_doubted point place = (place.0 == point) && is_settled place.1.mark

abbrev pub counted : Bool → ℕ → ℕ
counted differs count = if differs then (count + 1) % 2 ^ 64 else count

-- it is to be written again, with the same version; that it fails to take it concerns no process
abbrev pub doubted : Bool → ℕ × Proxy → Proxy
doubted differs place = record place.1 { mark = mark.Pending; failed = true; differed = counted differs place.1.differed }

abbrev pub doubt : ℕ → Bool → State → Reply
doubt point differs s = record {
  answer = answer.Noted (is_settled (proxy_of s.proxies point).mark);
  state = record s {
    proxies = changed_if (is_doubted point) (doubted differs) s.proxies;
    wants = wanted_anew (places (is_doubted point) s.proxies) s.wants;
  };
}

-- Source: own.
use Rattle.std.specs.Prelude.{◌≡◌, ℕ, ◌==◌, ◌≤◌, ◌^◌, ℤ, Bool, true, not, ◌&&◌, if◌then◌else◌, List, [], ◌∷◌, ◌++◌, map, length, Option, slice_set}
use Rattle.std.specs.List.{range_with_len, AllByRecursion}
use Rattle.std.specs.Option.{option_map_or}
use Rattle.std.specs.Ordering.{int_eq}
use Rattle.boss_model.specs.Devices.{proxy_of, is_doubted, doubted}
use Rattle.boss_model.specs.Lists.{member, without}
use Rattle.boss_model.specs.Settle.{fresh, wanted_anew, places, changed_if, is_failed, is_retried, retried}
use Rattle.boss_model.specs.declared.state.Proxy.{Proxy}
use Rattle.boss_marks.specs.declared.proxy.Reported.{Reported}
use Rattle.boss_marks.specs.declared.proxy.Reported.TheVariants as reported
use Rattle.boss_marks.specs.declared.marks.Want.{Want}
use Rattle.boss_marks.specs.Wants.{first_of}
use Rattle.boss_marks.specs.Proxy.{recommand, report_of, after_report}

-- each point's driver and where its device stands, and the points that want their device to be written, in order of
-- arrival
pub record Marks : Type 0 where
  pub drivers : List ℕ
  pub proxies : List Proxy
  pub wants : List ℕ

abbrev pub with_proxy : ℕ → Proxy → Marks → Marks
with_proxy point proxy marks = record marks { proxies = slice_set marks.proxies point proxy }

-- the point stands last among the wants; an older want of it is taken out
abbrev pub wanted_last : ℕ → List ℕ → List ℕ
wanted_last point wants = without point wants ++ point ∷ []

abbrev pub wanted : ℕ → Proxy → Marks → Marks
wanted point proxy marks = record marks { proxies = slice_set marks.proxies point proxy; wants = wanted_last point marks.wants }

-- every point wants its device to be written at its default
abbrev pub opened : List (ℕ × ℤ) → Marks
opened points = record {
  drivers = map (λ point. point.0) points;
  proxies = map (λ point. fresh point.1) points;
  wants = range_with_len 0 (length points);
}

-- the point is told its target as if its device had not been told anything yet
abbrev pub started : ℕ → ℤ → Marks → Marks
started point target marks = wanted point (fresh target) marks

-- the point is told its target where that is not what its device was last told
abbrev pub settled : ℕ → ℤ → Marks → Marks
settled point target marks = if int_eq target (proxy_of marks.proxies point).commanded
    then marks
    else wanted point (recommand target (proxy_of marks.proxies point)) marks

-- what the driver of the point is to write
abbrev pub want_of : Marks → ℕ → Want
want_of marks point = record { point = point; version = (proxy_of marks.proxies point).version; value = (proxy_of marks.proxies point).commanded }

abbrev pub first_want : ℕ → Marks → Option ℕ
first_want driver marks = first_of marks.drivers driver marks.wants

-- the driver's first want is handed out, where there is one
abbrev pub handed_out : ℕ → Marks → Marks
handed_out driver marks = option_map_or (λ point. record marks { wants = without point marks.wants }) (first_want driver marks) marks

-- a report counts if it is of the present version, and the point does not want to be written anew
abbrev pub is_current : ℕ → ℕ → Marks → Bool
is_current point version marks = ((proxy_of marks.proxies point).version == version) && not (member point marks.wants)

abbrev pub answer_to : ℕ → ℕ → Bool → Marks → Reported
answer_to point version ok marks = if is_current point version marks then report_of ok (proxy_of marks.proxies point) else reported.Old

abbrev pub after_reporting : ℕ → ℕ → Bool → ℕ → Marks → Marks
after_reporting point version ok n marks = if is_current point version marks
    then with_proxy point (after_report ok n (proxy_of marks.proxies point)) marks
    else marks

-- the point's device is to be written again where it is settled
abbrev pub doubted_at : ℕ → Bool → Marks → Marks
doubted_at point differs marks = record marks {
  proxies = changed_if (is_doubted point) (doubted differs) marks.proxies;
  wants = wanted_anew (places (is_doubted point) marks.proxies) marks.wants;
}

-- the point's device is written again where its failed write is to be tried again at moment n
abbrev pub retried_at : ℕ → ℕ → Marks → Marks
retried_at point n marks = if is_retried n (point, proxy_of marks.proxies point)
    then wanted point (retried (point, proxy_of marks.proxies point)) marks
    else marks

abbrev pub retried_all : ℕ → Marks → Marks
retried_all n marks = record marks {
  proxies = changed_if (is_retried n) retried marks.proxies;
  wants = wanted_anew (places (is_retried n) marks.proxies) marks.wants;
}

-- a write that failed is to be tried again no sooner
abbrev pub IsEarly : ℕ → Proxy → Type 0
IsEarly next proxy = is_failed proxy.mark ≡ true → next ≤ proxy.retry_at

-- each point has a driver, and no failed write is to be tried again before `next`
pub record IsMarks (proxies : List Proxy) (drivers : List ℕ) (next : ℕ) : Type 0 where
  pub served : length proxies ≡ length drivers
  pub few : length proxies ≤ 2 ^ 32
  pub early : AllByRecursion (IsEarly next) proxies

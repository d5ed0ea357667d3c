-- Source: own.
use Rattle.std.specs.Prelude.{ℕ, ◌+◌, ◌%◌, ◌^◌, ℤ, Bool, false, if◌then◌else◌}
use Rattle.boss_model.specs.declared.answer.Mark.TheVariants as mark
use Rattle.boss_model.specs.Devices.{taken, not_taken}
use Rattle.boss_model.specs.Settle.{is_retried}
use Rattle.boss_model.specs.declared.state.Proxy.{Proxy}
use Rattle.boss_marks.specs.declared.proxy.Reported.{Reported}
use Rattle.boss_marks.specs.declared.proxy.Reported.TheVariants as reported

-- a new version, with this value
abbrev pub recommand : ℤ → Proxy → Proxy
recommand target proxy = record proxy {
  version = (proxy.version + 1) % 2 ^ 64;
  commanded = target;
  mark = mark.Pending;
  failed = false;
}

-- what a report of the present version is answered
abbrev pub report_of : Bool → Proxy → Reported
report_of ok proxy = if ok then reported.Settled else (if proxy.failed then reported.LaterFailure else reported.FirstFailure)

abbrev pub after_report : Bool → ℕ → Proxy → Proxy
after_report ok n proxy = if ok then taken n proxy else not_taken n proxy

-- the device's write failed, and is to be tried again at moment n: whatever the place of its point
abbrev pub is_due : ℕ → Proxy → Bool
is_due n proxy = is_retried n (0, proxy)

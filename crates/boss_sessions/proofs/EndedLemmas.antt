-- How a served connection ended.
use Rattle.std.proofs.Common.{◌≡◌, ℕ, Bool, true, false, List, Some, refl, ap, sym, ◌∙◌, subst, arith}
use Rattle.boss_outside_server.specs.Hosts.{Served}
use Rattle.def_lanes.specs.Works.{not_cut, by_disk, by_clock, by_memory}
use Rattle.def_connection.specs.Losing.{Lost}
use Rattle.def_connection.specs.Stopping.{Stop, finish, watching, read_fault, write_fault, clock_fault, long_line, long_untold, wrong_key, wrong_untold, limit, disk, nothing}
use Rattle.def_connection.specs.Talks.{IsEnded, ReadsAt, WritesAt, cut_for, is_whole}
use Rattle.boss_sessions.specs.declared.end.SessionEnd.{SessionEnd}
use Rattle.boss_sessions.specs.declared.end.SessionEnd.TheVariants as end
use Rattle.boss_sessions.specs.Ends.{cut_of, end_for, is_stop_end, is_watch, ReadCause, WriteCause}

-- where the disk has not failed the connection was cut off as the talk was
cut-stop : (stop : Stop) → is_stop_end (end_for stop) ≡ false → cut_of (end_for stop) ≡ cut_for false stop
cut-stop finish calm = refl
cut-stop (watching name from) calm = refl
cut-stop read_fault calm = refl
cut-stop write_fault calm = refl
cut-stop clock_fault calm = refl
cut-stop long_line calm = refl
cut-stop wrong_key calm = refl
cut-stop long_untold calm = refl
cut-stop wrong_untold calm = refl
cut-stop limit calm = refl
cut-stop disk calm = absurd (let no : true ≡ false = calm in cc)
cut-stop nothing calm = refl

cut-broken : (e : SessionEnd) → is_stop_end e ≡ true → cut_of e ≡ by_disk
cut-broken end.Stopped broken = refl
cut-broken end.DiskFault broken = refl
cut-broken end.End broken = absurd (let no : false ≡ true = broken in cc)
cut-broken (end.Watch name from) broken = absurd (let no : false ≡ true = broken in cc)
cut-broken end.ReadFault broken = absurd (let no : false ≡ true = broken in cc)
cut-broken end.WriteFault broken = absurd (let no : false ≡ true = broken in cc)
cut-broken end.ClockFault broken = absurd (let no : false ≡ true = broken in cc)
cut-broken end.TooLong broken = absurd (let no : false ≡ true = broken in cc)
cut-broken end.WrongKey broken = absurd (let no : false ≡ true = broken in cc)
cut-broken end.Limit broken = absurd (let no : false ≡ true = broken in cc)
cut-broken end.NoMemory broken = absurd (let no : false ≡ true = broken in cc)

cut-of : (broken : Bool) (e : SessionEnd) (stop : Stop) → is_stop_end e ≡ broken → (is_stop_end e ≡ false → e ≡ end_for stop) → cut_of e ≡ cut_for broken stop
cut-of true e stop is end_is = cut-broken e is
cut-of false e stop is end_is = ap cut_of (end_is is) ∙ cut-stop stop (ap is_stop_end (sym (end_is is)) ∙ is)

whole-for : (reads writes : ℕ) (stop : Stop) → ReadCause 0 reads (Some (end_for stop)) → WriteCause 0 writes (Some (end_for stop)) → is_watch (end_for stop) ≡ false →
    cut_of (end_for stop) ≡ not_cut → reads ≡ 0 → writes ≡ 0 → is_whole stop ≡ true
whole-for reads writes finish read write apart uncut calm quiet = refl
whole-for reads writes (watching name from) read write apart uncut calm quiet = absurd (let no : true ≡ false = apart in cc)
whole-for reads writes read_fault read write apart uncut calm quiet = absurd (omega (arith, read, calm))
whole-for reads writes write_fault read write apart uncut calm quiet = absurd (omega (arith, write, quiet))
whole-for reads writes clock_fault read write apart uncut calm quiet = absurd (let no : by_clock ≡ not_cut = uncut in cc)
whole-for reads writes long_line read write apart uncut calm quiet = refl
whole-for reads writes wrong_key read write apart uncut calm quiet = refl
whole-for reads writes long_untold read write apart uncut calm quiet = absurd (omega (arith, write, quiet))
whole-for reads writes wrong_untold read write apart uncut calm quiet = absurd (omega (arith, write, quiet))
whole-for reads writes limit read write apart uncut calm quiet = refl
whole-for reads writes disk read write apart uncut calm quiet = absurd (let no : by_disk ≡ not_cut = uncut in cc)
whole-for reads writes nothing read write apart uncut calm quiet = absurd (let no : by_memory ≡ not_cut = uncut in cc)

reads-for : (reads : ℕ) (stop : Stop) → ReadCause 0 reads (Some (end_for stop)) → ReadsAt stop reads
reads-for reads finish cause = cause
reads-for reads (watching name from) cause = cause
reads-for reads read_fault cause = omega (arith, cause)
reads-for reads write_fault cause = tt
reads-for reads clock_fault cause = cause
reads-for reads long_line cause = cause
reads-for reads wrong_key cause = cause
reads-for reads long_untold cause = tt
reads-for reads wrong_untold cause = tt
reads-for reads limit cause = cause
reads-for reads disk cause = tt
reads-for reads nothing cause = cause

writes-for : (writes : ℕ) (stop : Stop) → WriteCause 0 writes (Some (end_for stop)) → WritesAt stop writes
writes-for writes finish cause = cause
writes-for writes (watching name from) cause = cause
writes-for writes read_fault cause = cause
writes-for writes write_fault cause = omega (arith, cause)
writes-for writes clock_fault cause = tt
writes-for writes long_line cause = cause
writes-for writes wrong_key cause = cause
writes-for writes long_untold cause = omega (arith, cause)
writes-for writes wrong_untold cause = omega (arith, cause)
writes-for writes limit cause = cause
writes-for writes disk cause = tt
writes-for writes nothing cause = cause

calm-uncut : (e : SessionEnd) → cut_of e ≡ not_cut → is_stop_end e ≡ false
calm-uncut e uncut = by (is_stop_end e) refl
  where
    by : (broken : Bool) → is_stop_end e ≡ broken → is_stop_end e ≡ false
    by false is = is
    by true is = absurd (let no : by_disk ≡ not_cut = sym (cut-broken e is) ∙ uncut in cc)

pub has-ended : (served : Served) (taken : List (List ℕ)) (stop : Stop) (e : SessionEnd) → Lost served.held served.left taken stop → (is_stop_end e ≡ false → e ≡ end_for stop) →
    ReadCause 0 served.read_faults (Some e) → WriteCause 0 served.write_faults (Some e) → is_watch e ≡ false → IsEnded served taken stop (is_stop_end e) (cut_of e)
has-ended served taken stop e lost end_is read write apart = record {
  lost = lost;
  cut_is = cut-of (is_stop_end e) e stop refl end_is;
  whole = λ uncut calm quiet.
      let is : e ≡ end_for stop = end_is (calm-uncut e uncut) in
      whole-for served.read_faults served.write_faults stop (subst (λ x. ReadCause 0 served.read_faults (Some x)) is read) (subst (λ x. WriteCause 0 served.write_faults (Some x)) is write)
      (ap is_watch (sym is) ∙ apart) (ap cut_of (sym is) ∙ uncut) calm quiet;
  reads = λ sound. reads-for served.read_faults stop (subst (λ x. ReadCause 0 served.read_faults (Some x)) (end_is sound) read);
  writes = λ sound. writes-for served.write_faults stop (subst (λ x. WriteCause 0 served.write_faults (Some x)) (end_is sound) write);
}

-- an end that asks to watch tells why the talk stopped
pub watch-stop : (name : List ℕ) (from : ℕ) (stop : Stop) → end.Watch name from ≡ end_for stop → stop ≡ watching name from
watch-stop name from finish is = absurd cc
watch-stop name from (watching known first) is =
    let same_name : name ≡ known = cc in
    let same_from : from ≡ first = cc in
    ap (λ n. watching n first) (sym same_name) ∙ ap (watching name) (sym same_from)
watch-stop name from read_fault is = absurd cc
watch-stop name from write_fault is = absurd cc
watch-stop name from clock_fault is = absurd cc
watch-stop name from long_line is = absurd cc
watch-stop name from wrong_key is = absurd cc
watch-stop name from long_untold is = absurd cc
watch-stop name from wrong_untold is = absurd cc
watch-stop name from limit is = absurd cc
watch-stop name from disk is = absurd cc
watch-stop name from nothing is = absurd cc

use Rattle.std.proofs.Common.{ℕ, List, [], ◌++◌, codes, slice_index_or, rules}
use Rattle.std.specs.Fmt.{signed_decimal}
use Rattle.def_catalogue.specs.Canonical.{kind_text, times_text}
use Rattle.boss_points.specs.Fed.{Takes}
use Rattle.boss_points.proofs.Fed.{takes_both}
use Rattle.boss_points.proofs.digest.feed_point.Goals as goal

pub returns : goal.returns
returns c =
    let point = c.args.point.now in
    let before = c.args.hasher.now in
    let driver : List ℕ = slice_index_or c.args.drivers.now point.driver [] in
    let names : List ℕ = codes "p " ++ point.name ++ codes " " ++ driver ++ codes " " in
    let kind : List ℕ = kind_text point.kind in
    let number : List ℕ = signed_decimal point.default in
    let times : List ℕ = times_text point.min_on point.min_off in
    let one : Takes before c.feed_names.new.hasher names = rw c.driver_at.ensures at c.feed_names.ensures in
    let two = takes_both before c.feed_names.new.hasher c.feed_kind.new.hasher names kind one c.feed_kind.ensures in
    let three = takes_both before c.feed_kind.new.hasher c.update.new.self (names ++ kind) (codes " ") two c.update.ensures in
    let last : Takes c.update.new.self c.feed_number.new.hasher number = search (rules, c.feed_number.ensures) in
    let four = takes_both before c.update.new.self c.feed_number.new.hasher (names ++ kind ++ codes " ") number three last in
    let timed : Takes c.feed_number.new.hasher c.feed_times.new.hasher times = search (rules, c.feed_times.ensures) in
    let five = takes_both before c.feed_number.new.hasher c.feed_times.new.hasher (names ++ kind ++ codes " " ++ number) times four timed in
    takes_both before c.feed_times.new.hasher c.update-2.new.self (names ++ kind ++ codes " " ++ number ++ times) (codes "\n") five c.update-2.ensures

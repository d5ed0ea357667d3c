use Rattle.std.proofs.Common.{◌≡◌, ◌*◌, ap, ◌∙◌, rules, arith}
use Rattle.boss_lock.specs.Places.{entries_at, total}
use Rattle.boss_lock.specs.Seats.{own_entries}
use Rattle.boss_lock.proofs.Entries.{entries_at_all}
use Rattle.trial_parts.proofs.histories.add_in_two_threads.Goals as goal

pub returns : goal.returns
returns g c =
    let seat = c.join.new.seat in
    let whole : own_entries seat ≡ seat.seen = ap (entries_at seat.seen) c.close-count.ensures.places ∙ entries_at_all seat.seen in
    let all : total (λ n. n) (own_entries seat) ≡ total (λ n. n) seat.seen = ap (total (λ n. n)) whole in
    let both = c.join.ensures.own_entries (λ n. n) in
    let here : total (λ n. n) (own_entries c.join-seat.result.0.0) ≡ c.args.turns * c.args.by.0 = c.join-seat.ensures.first.3 (search rules) in
    let there : total (λ n. n) (own_entries c.join-seat.result.1.0) ≡ c.args.turns * c.args.by.1 = c.join-seat.ensures.second.3 (search rules) in
    let start = c.in-Ok.ensures.lock.0 in
    let value = c.close-count.ensures.value in
    omega arith

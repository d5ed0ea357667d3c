-- Source: own (what follows where leases end, told in one group).
use Rattle.std.specs.Prelude.{ℕ, not, ◌&&◌, List, ◌++◌, map, filter, fold}
use Rattle.boss_model.specs.Happenings.{Happening, rank, lives, done_at, finish, tell}
use Rattle.boss_model.specs.Order.{in_order}
use Rattle.boss_model.specs.Reversions.{courses}
use Rattle.boss_model.specs.State.{Pending, Persistent}
use Rattle.boss_model.specs.Time.{kept}

-- all reversions of a persistent part, under way and to come
abbrev pub courses_of : Persistent → List Pending
courses_of d = courses d.pending d.leases

-- How a command at moment n ends. `changed` is what it made of leases, reversions and records. A transaction that had a
-- lease or a reversion and has none now becomes done. What happened is told in order, in one group, and `now` is n.
abbrev pub conclude : ℕ → List Happening → Persistent → Persistent → Persistent
conclude n happened before changed =
    let ended = filter (λ transaction. lives transaction.txn (courses_of before) && not (lives transaction.txn (courses_of changed))) changed.txns in
    let group = in_order rank (happened ++ map (done_at n) ended) in
    let done = fold finish before.done group in
    record changed {
      now = n;
      txns = kept (courses_of changed) done changed.txns;
      done = done;
      processes = fold tell before.processes group;
    }

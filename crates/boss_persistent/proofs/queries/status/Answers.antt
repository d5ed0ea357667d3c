use Rattle.std.proofs.Common.{◌≡◌, ℕ, ◌==◌, sym, ap, ◌∙◌}
use Rattle.boss_model.specs.Lists.{member}
use Rattle.boss_model.specs.Queries.{status_of}
use Rattle.boss_model.specs.Renew.{transaction_of}
use Rattle.boss_stages.specs.Stages.{Tracked, number}
use Rattle.boss_booking.specs.Books.{reverts_on}
use Rattle.law_time.proofs.Filters.{each-found}
use Rattle.law_records.proofs.Own.{numbered}
use Rattle.boss_persistent.specs.Lasting.{persistent_of}
use Rattle.boss_persistent.proofs.Recorded.{is-found, is-unknown}
use Rattle.boss_persistent.proofs.queries.status.Goals as goal

pub status_of-requires-clause-found : goal.status_of-requires-clause-found
status_of-requires-clause-found c =
    let d = persistent_of c.args.lasting.now in
    let k = c.in-Some.transaction.now in
    let found = is-found c.args.lasting.now.stages.kept c.args.txn k (sym c.in-Some.ensures) in
    ap (transaction_of d.txns) (numbered c.requires.sound.0 d c.requires.sound.2 c.args.txn k.transaction found) ∙ found

pub status_of-requires-clause-reverting : goal.status_of-requires-clause-reverting
status_of-requires-clause-reverting c =
    let d = persistent_of c.args.lasting.now in
    each-found (λ (kept : Tracked). (point : ℕ) → member point kept.reverting ≡ reverts_on (number kept) point d.pending) (λ kept. number kept == c.args.txn)
    c.args.lasting.now.stages.kept c.in-Some.transaction.now c.requires.kept.stands.reverting (sym c.in-Some.ensures)

pub returns-in-Some : goal.returns-in-Some
returns-in-Some c =
    let d = persistent_of c.args.lasting.now in
    c.status_of.ensures ∙ ap (λ found. status_of found d) (sym (is-found c.args.lasting.now.stages.kept c.args.txn c.in-Some.transaction.now (sym c.in-Some.ensures)))

pub returns-in-None : goal.returns-in-None
returns-in-None c =
    let d = persistent_of c.args.lasting.now in
    ap (λ found. status_of found d) (sym (is-unknown c.args.lasting.now.stages.kept c.args.txn (sym c.in-None.ensures)))

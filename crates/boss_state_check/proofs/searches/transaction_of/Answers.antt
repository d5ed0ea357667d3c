use Rattle.std.proofs.Common.{◌≡◌, ◌==◌, ◌≤◌, true, false, Some, length, refl, sym, ◌∙◌, ap, rules, arith}
use Rattle.std.specs.Prelude.{slice_get}
use Rattle.std.proofs.lemmas.Bool.Decides.{nat_tests}
use Rattle.std.proofs.lemmas.Option.{slice_get_read, slice_get_past}
use Rattle.boss_model.specs.declared.kept.KeptTxn.{KeptTxn}
use Rattle.boss_state_check.proofs.Ranked.{transaction-found, kept, kept-some, kept-not}
use Rattle.boss_state_check.proofs.searches.transaction_of.Goals as goal
use Rattle.boss_state_check.proofs.searches.transaction_of.Goals.{in_default-via-in-Some+else-eq, in_default-via-in_default}

pub returns-in-Some : goal.returns-in-Some
returns-in-Some c =
    let test = (λ (transaction : KeptTxn). transaction.txn == c.args.txn) in
    let looked = c.in-Some.ensures.lookup in
    let there : slice_get c.args.txns.now c.transaction_place.result ≡ Some c.in-Some.transaction.now =
    slice_get_read c.args.txns.now (length c.args.txns.now) c.transaction_place.result c.in-Some.transaction.now refl looked.3.0 looked.1 in
    let passes : test c.in-Some.transaction.now ≡ true = search rules in
    sym (transaction-found c.args.txns.now c.args.txn c.transaction_place.result c.requires c.transaction_place.ensures ∙ kept-some test _ c.in-Some.transaction.now there passes)

pub returns-in_default : goal.returns-in_default
returns-in_default c =
    let test = (λ (transaction : KeptTxn). transaction.txn == c.args.txn) in
    let found = transaction-found c.args.txns.now c.args.txn c.transaction_place.result c.requires c.transaction_place.ensures in
    elim c.in_default.branch [
      | in_default-via-in-Some+else-eq w ↦
          (let looked = w.in-Some.ensures.lookup in
          let there : slice_get c.args.txns.now c.transaction_place.result ≡ Some w.in-Some.transaction.now =
          slice_get_read c.args.txns.now (length c.args.txns.now) c.transaction_place.result w.in-Some.transaction.now refl looked.3.0 looked.1 in
          let fails : test w.in-Some.transaction.now ≡ false = search rules in
          sym (found ∙ kept-not test _ w.in-Some.transaction.now there fails))
      | in_default-via-in_default w ↦
          (let past : length c.args.txns.now ≤ c.transaction_place.result = grind (arith, nat_tests, w.in_default.ensures.lookup.0) in
          sym (found ∙ ap (kept test) (slice_get_past c.args.txns.now c.transaction_place.result past)))
    ]

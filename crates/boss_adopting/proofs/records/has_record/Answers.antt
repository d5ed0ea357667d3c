use Rattle.std.proofs.Common.{◌≡◌, ◌==◌, ◌≤◌, false, Some, length, refl, ap, sym, ◌∙◌, arith}
use Rattle.std.specs.Prelude.{slice_get}
use Rattle.std.specs.Option.{option_map_or}
use Rattle.std.proofs.lemmas.Bool.Decides.{nat_tests}
use Rattle.std.proofs.lemmas.Option.{slice_get_read, slice_get_past}
use Rattle.boss_model.specs.declared.kept.KeptTxn.{KeptTxn}
use Rattle.boss_adopting.proofs.Recorded.{rising-kept, record-found}
use Rattle.boss_adopting.proofs.records.has_record.Goals as goal

pub record_place-requires : goal.record_place-requires
record_place-requires c = rising-kept c.args.txns.now c.requires

pub returns-in-Some : goal.returns-in-Some
returns-in-Some c =
    let looked = c.in-Some.ensures.lookup in
    let there : slice_get c.args.txns.now c.record_place.result ≡ Some c.in-Some.transaction.now =
    slice_get_read c.args.txns.now (length c.args.txns.now) c.record_place.result c.in-Some.transaction.now refl looked.3.0 looked.1 in
    c.eq.ensures
    ∙ sym (record-found c.args.txns.now c.args.txn c.record_place.result c.requires c.record_place.ensures
    ∙ ap (λ found. option_map_or (λ (t : KeptTxn). t.txn == c.args.txn) found false) there)

pub returns-in-None : goal.returns-in-None
returns-in-None c =
    let past : length c.args.txns.now ≤ c.record_place.result = grind (arith, nat_tests, c.in-None.ensures.lookup.0) in
    sym (record-found c.args.txns.now c.args.txn c.record_place.result c.requires c.record_place.ensures
    ∙ ap (λ found. option_map_or (λ (t : KeptTxn). t.txn == c.args.txn) found false) (slice_get_past c.args.txns.now c.record_place.result past))

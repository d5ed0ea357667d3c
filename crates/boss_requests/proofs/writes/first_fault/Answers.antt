use Rattle.std.proofs.Common.{◌≡◌, ◌+◌, List, ◌∷◌, drop, map, option_map, Some, sym, ap, ◌∙◌}
use Rattle.std.proofs.lemmas.List.{at_drop_more}
use Rattle.serde_json.specs.Data.{Data}
use Rattle.def_wire.specs.Requests.{each_from, write_at}
use Rattle.boss_requests.specs.Given.{fault, fault_of}
use Rattle.boss_requests.proofs.Each.{each-failed}
use Rattle.boss_requests.proofs.writes.first_fault.Goals as goal

pub returns-in-Some : goal.returns-in-Some
returns-in-Some g c =
    let see = g.V.JsonValue.meaning in
    let values = c.args.values.now in
    let place = c.loop-at.at in
    let value = c.index-values-at.result in
    let rest : List Data = map see (drop (place + 1) values) in
    let some : fault_of (write_at place (see value)) ≡ Some (fault c.in-Some.spot) = sym c.fault_in.ensures ∙ ap (option_map fault) c.in-Some.is in
    let first : map see (drop place values) ≡ see value ∷ rest =
    at_drop_more (map see) values place value c.loop-at-test.true ∙ ap (λ x. see x ∷ rest) (sym c.index-values-at.is) in
    sym (each-failed write_at place (see value) rest (fault c.in-Some.spot) some) ∙ ap (λ ds. fault_of (each_from write_at place ds)) (sym first) ∙ c.loop-at.invariant

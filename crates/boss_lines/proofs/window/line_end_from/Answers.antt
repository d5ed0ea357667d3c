use Rattle.std.proofs.Common.{◌+◌, ◌-◌, ◌<◌, length, take, drop, sym, ◌∙◌, eqb-true, arith}
use Rattle.std.proofs.lemmas.List.{length-take, length-drop}
use Rattle.boss_lines.proofs.LineEndLemmas.{NoLineEnd-add, slice_index-take-drop}
use Rattle.boss_lines.proofs.window.line_end_from.Goals as goal

pub returns-in_err-place-clause-none : goal.returns-in_err-place-clause-none
returns-in_err-place-clause-none c =
    let bytes = c.args.bytes.now in
    let size = length bytes - c.args.from in
    rw c.from_residual.ensures
    (NoLineEnd-add bytes c.args.from size (length (take size (drop c.args.from bytes))) (length bytes) c.requires.passed c.in_err-place.ensures
    (omega (arith, length-take size (drop c.args.from bytes))) (omega (arith, c.requires.within, length-take size (drop c.args.from bytes), length-drop c.args.from bytes)))

pub returns-clause-found : goal.returns-clause-found
returns-clause-found c =
    let bytes = c.args.bytes.now in
    let size = length bytes - c.args.from in
    let place = c.in_ok-place.place in
    let first = c.in_ok-place.ensures in
    let low : place < size = omega (arith, first.0.high, length-take size (drop c.args.from bytes)) in (
      NoLineEnd-add bytes c.args.from size place (c.args.from + place) c.requires.passed first.0.before (omega arith) (omega arith),
      omega arith,
      sym (slice_index-take-drop bytes c.args.from size place low) ∙ eqb-true _ 10 first.1,
    )

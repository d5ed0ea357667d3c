use Rattle.std.proofs.Common.{◌≡◌, ◌-◌, ◌<◌, ◌++◌, drop, get_or, sym, ap, ◌∙◌, subst, arith, inl, inr}
use Rattle.std.specs.Fmt.{decimal}
use Rattle.json.specs.Json.{number}
use Rattle.boss_json.specs.Compact.{IsFit}
use Rattle.boss_json.proofs.Spelled.{between, cut, decimal-between, few_digits}
use Rattle.boss_json.proofs.compact.Rest.digits.Goals as goal

pub returns : goal.returns
returns c =
    let d = c.self.inside.text.now in
    let start = c.self.inside.place in
    let read = c.digits_from-end in
    let end = read.result.0 in
    let some : start < end = omega arith in
    let alone : get_or d start 0 ≡ 48 → end - start ≡ 1 = λ zero. elim c.else-bytes-start-eq48.either [ inl one ↦ one.1 | inr other ↦ absurd (other zero) ] in
    let written = decimal-between d start end some read.ensures.within (omega arith) read.ensures.digits alone in
    let spelled : decimal read.result.1 ≡ between start end d = ap decimal read.ensures.value ∙ written in
    record {
      text = sym c.self.view_is ∙ cut d start end read.ensures.after ∙ ap (λ s. s ++ drop end d) (sym spelled);
      fit = subst (λ s. IsFit 0 (number s)) (sym spelled) (few_digits d start end some (omega arith) read.ensures.digits alone);
    }

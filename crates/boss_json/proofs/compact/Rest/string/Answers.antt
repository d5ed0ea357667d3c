use Rattle.std.proofs.Common.{◌≡◌, ◌+◌, get_or, sym, subst, ◌∙◌, arith}
use Rattle.std.specs.Str.{IsAscii}
use Rattle.boss_json.proofs.Spelled.{quoted_plain}
use Rattle.boss_json.proofs.Stops.{ascii_string, plain_of}
use Rattle.boss_json.proofs.compact.Rest.string.Goals as goal

pub returns-clause-text : goal.returns-clause-text
returns-clause-text c =
    let r = c.self.inside in
    let d = r.text.now in
    let end = c.plain_end-end.result in
    let opening : get_or d r.place 0 ≡ 34 = omega (arith, c.byte_at.ensures) in
    let closing : get_or d end 0 ≡ 34 = omega (arith, c.byte_at-2.ensures) in
    sym c.self.view_is ∙ quoted_plain d r.place end c.plain_end-end.ensures.after opening closing (plain_of d (r.place + 1) end c.plain_end-end.ensures.plain)

pub returns-clause-ascii : goal.returns-clause-ascii
returns-clause-ascii c =
    let r = c.self.inside in
    let d = r.text.now in
    let end = c.plain_end-end.result in
    let opening : get_or d r.place 0 ≡ 34 = omega (arith, c.byte_at.ensures) in
    let closing : get_or d end 0 ≡ 34 = omega (arith, c.byte_at-2.ensures) in
    λ rest. subst IsAscii c.self.view_is (ascii_string d r.place end c.plain_end-end.ensures.after opening closing c.plain_end-end.ensures.plain rest)

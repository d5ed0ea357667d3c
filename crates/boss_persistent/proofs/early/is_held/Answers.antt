use Rattle.std.proofs.Common.{◌≡◌, ℕ, suc, ◌+◌, Bool, nat_lt, false, true, sym, ap, ◌∙◌, arith}
use Rattle.std.specs.List.{list_any, range_with_len}
use Rattle.std.specs.Option.{option_map_or}
use Rattle.boss_model.specs.declared.state.Lease.{Lease}
use Rattle.law_effects.specs.Early.{slot_lease}
use Rattle.law_records.proofs.Reverting.{row-slots}
use Rattle.boss_persistent.specs.Lasting.{persistent_of}
use Rattle.boss_persistent.proofs.Asked.{none-more, some-there}
use Rattle.boss_persistent.proofs.early.is_held.Goals as goal

pub returns-then-lasts : goal.returns-then-lasts
returns-then-lasts c =
    let leases = (persistent_of c.args.lasting.now).leases in
    let f : ℕ → Bool = λ level. option_map_or (λ (lease : Lease). nat_lt c.args.n lease.until) (slot_lease leases c.args.point level) false in
    let here : f (c.loop-place.place + 1) ≡ true = sym c.lasts.ensures ∙ c.if-lasts.true in
    sym (row-slots c.requires.sound.0 (persistent_of c.args.lasting.now) c.requires.sound.2 (λ lease. nat_lt c.args.n lease.until) c.args.point
    ∙ some-there f 1 16 (c.loop-place.place + 1) (omega arith) (omega arith) here)

pub loop-place-preserved : goal.loop-place-preserved
loop-place-preserved c =
    let leases = (persistent_of c.args.lasting.now).leases in
    let f : ℕ → Bool = λ level. option_map_or (λ (lease : Lease). nat_lt c.args.n lease.until) (slot_lease leases c.args.point level) false in
    let next : 1 + c.loop-place.place ≡ c.loop-place.place + 1 = omega arith in
    let here : f (1 + c.loop-place.place) ≡ false = ap f next ∙ sym c.lasts.ensures ∙ c.if-lasts.false in
    let more : c.loop-place.place + 1 ≡ suc c.loop-place.place = omega arith in
    ap (λ k. list_any f (range_with_len 1 k)) more ∙ none-more f 1 c.loop-place.place c.loop-place.invariant here

pub returns : goal.returns
returns c =
    let leases = (persistent_of c.args.lasting.now).leases in
    let f : ℕ → Bool = λ level. option_map_or (λ (lease : Lease). nat_lt c.args.n lease.until) (slot_lease leases c.args.point level) false in
    let all : c.loop-place.place ≡ 16 = omega arith in
    sym (row-slots c.requires.sound.0 (persistent_of c.args.lasting.now) c.requires.sound.2 (λ lease. nat_lt c.args.n lease.until) c.args.point
    ∙ sym (ap (λ k. list_any f (range_with_len 1 k)) all) ∙ c.loop-place.invariant)

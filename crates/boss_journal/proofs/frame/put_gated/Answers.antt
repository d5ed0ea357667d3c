use Rattle.std.proofs.Common.{◌≡◌, rules, false, true, Ok}
use Rattle.boss_journal.proofs.Frames.{behind_first}
use Rattle.boss_journal.proofs.Appends.{puts_lost, puts_whole, puts_behind, whole_images, first_step, written_from}
use Rattle.boss_journal.proofs.frame.put_gated.Goals as goal

pub returns-in_err-write_whole-clause-puts : goal.returns-in_err-write_whole-clause-puts
returns-in_err-write_whole-clause-puts g c told r short are =
    puts_lost r c.args.place _ _ _ _ _ c.from_residual.ensures.0
    (λ front rs rest. whole_images front rs r c.args.gated.now c.args.place _ _ _ _ _ rest are (c.write_whole.ensures.windows told))

pub returns-then-branch-clause-puts : goal.returns-then-branch-clause-puts
returns-then-branch-clause-puts g c told r short are =
    let done : c.write_whole.result ≡ Ok true = Prim.search rules in
    puts_whole r c.args.gated.now c.args.place _ _ _ _ _ _ (c.write_whole.ensures.windows told) done are short (c.requires.at_gate told)

pub returns-in_err-write_through-clause-puts : goal.returns-in_err-write_through-clause-puts
returns-in_err-write_through-clause-puts g c told r short are =
    let passed : c.write_whole.result ≡ Ok false = Prim.search rules in
    let still = (c.write_whole.ensures.windows told).passed passed in
    puts_lost r c.args.place _ _ _ _ _ c.from_residual-in_err-write_through.ensures.0
    (λ front rs rest. first_step front rs r _ c.args.place _ _ _ _ rest (written_from still.0 still.1 (c.write_through.ensures.windows told)))

pub returns-clause-puts : goal.returns-clause-puts
returns-clause-puts g c told r short are =
    let passed : c.write_whole.result ≡ Ok false = Prim.search rules in
    let still = (c.write_whole.ensures.windows told).passed passed in
    puts_behind r _ c.args.place _ _ _ _ _ _ _ _ _ _ still.0 still.1 (behind_first c.args.gated.now _ are) short (c.requires.at_gate told)
    (c.in_ok-write_through.ensures.windows told) (c.in_ok-write_through.ensures.windows told).kept (c.in_ok-write_through.ensures.bytes told)
    (c.open_gate.ensures.windows told) (c.open_gate.ensures.reads told)

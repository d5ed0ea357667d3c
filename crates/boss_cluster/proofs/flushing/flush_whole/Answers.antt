use Rattle.std.proofs.Common.{◌≡◌, ◌≢◌, ℕ, ◌-◌, ◌%◌, ◌≤◌, false, length, ◌==◌, inl, inr, ⊎_elim, arith}
use Rattle.std.proofs.lemmas.Bool.{eqb-true, eqb-false}
use Rattle.boss_cluster.proofs.Pieces.{begins, ends_to, on_ok, on_err}
use Rattle.boss_cluster.proofs.flushing.flush_whole.Given.{Over}
use Rattle.boss_cluster.proofs.flushing.flush_whole.Goals as goal

-- where the commit does not reach the end, it reaches past what differs
past : (g : Over) (c : goal.After-commit_whole g) → (c.max-stop.result == length c.args.bytes.now) ≡ false → c.args.to ≤ c.max-stop.result
past g c is =
    let less : c.max-stop.result ≢ length c.args.bytes.now = eqb-false c.max-stop.result (length c.args.bytes.now) is in
    omega (arith, c.min.ensures, c.whole_pages.ensures.least, c.min-goal.ensures, c.max-stop.ensures, c.requires.inside)

pub returns-clause-done : goal.returns-clause-done
returns-clause-done g c told =
    let at : ℕ = c.args.from - c.args.from % 1024 in
    let stop : ℕ = c.max-stop.result in
    let on : at ≤ stop = omega (arith, c.max-stop.ensures) in
    let inside : stop ≤ length c.args.bytes.now = omega (arith, c.max-stop.ensures, c.min-goal.ensures, c.requires.inside) in
    on_ok c.commit_whole.result
    (λ both. (
      ends_to _ at stop c.args.to _ _ _ (begins c.args.from at c.args.to _ _ (omega arith) c.requires.inside (c.requires.differs told)) on inside
          (λ is. eqb-true c.max-stop.result (length c.args.bytes.now) is) (λ is. past g c is) both.0,
      both.1,
    ))
    (c.commit_whole.ensures.done told)

pub returns-clause-lost : goal.returns-clause-lost
returns-clause-lost g c told =
    let at : ℕ = c.args.from - c.args.from % 1024 in
    let stop : ℕ = c.max-stop.result in
    let on : at ≤ stop = omega (arith, c.max-stop.ensures) in
    let inside : stop ≤ length c.args.bytes.now = omega (arith, c.max-stop.ensures, c.min-goal.ensures, c.requires.inside) in
    on_err c.commit_whole.result
    (⊎_elim (λ none. inl none)
    (λ both. inr (
      ends_to _ at stop c.args.to _ _ _ (begins c.args.from at c.args.to _ _ (omega arith) c.requires.inside (c.requires.differs told)) on inside
          (λ is. eqb-true c.max-stop.result (length c.args.bytes.now) is) (λ is. past g c is) both.0,
      both.1,
    )))
    (c.commit_whole.ensures.lost told)

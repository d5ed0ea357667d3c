-- What a worker's pass holds before each of its connections: no session that is to come.
use Rattle.std.proofs.Common.{◌≡◌, ℕ, ◌<◌, ◌==◌, false, List, [], ◌∷◌, None, subst, sym, arith}
use Rattle.std.proofs.lemmas.Bool.Decides.{nat_tests}
use Rattle.boss_shared.specs.Gates.{AreFree, Gate, Holding}
use Rattle.boss_sessions.specs.Holding.{Holds, HoldsAt}

pub free-holds : (gates : List Gate) (session : ℕ) (held : List Holding) → AreFree gates held → Holds gates session None held
free-holds [] session held free = tt
free-holds (gate ∷ gates) session [] free = absurd free
free-holds (gate ∷ gates) session (one ∷ others) free =
    (subst (λ it. HoldsAt session None it) (sym free.0) tt, free-holds gates session others free.1)

pub earlier-other : (first later : ℕ) → first < later → (first == later) ≡ false
earlier-other first later less = grind (arith, nat_tests)

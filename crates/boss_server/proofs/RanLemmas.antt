-- From workers that are to run to those that did.
use Rattle.std.proofs.Common.{◌≡◌, ℕ, suc, ◌+◌, ◌||◌, not, Bool, true, false, List, [], ◌∷◌, ◌++◌, length, map, refl, ap, sym, ◌∙◌, subst, arith}
use Rattle.std.specs.List.{AllByRecursion, AllZip}
use Rattle.boss_outside.specs.Counts.{Rose}
use Rattle.boss_outside_server.specs.declared.task.Ran.{Ran}
use Rattle.boss_outside_server.specs.declared.task.Ran.TheVariants.{Ended, NotStarted}
use Rattle.boss_outside_server.specs.Tasks.{is_ended, EachRan, RanAs, SpawnCause}
use Rattle.boss_server.specs.Together.{RoseWhere}
use Rattle.boss_server.specs.Turns.{AllInTurn, EachInTurn, IsWorkerOf, devices_in, devices_of, is_any_unrun, shares_in, shares_of}

module _ {T : Type 0} where
  pub all-each : (workers : List T) (n : ℕ) (P : ℕ → T → Type 0) (Q : T → Type 0) → ((n : ℕ) (worker : T) → P n worker → Q worker) → AllInTurn workers n P → AllByRecursion Q workers
  all-each [] n P Q then all = tt
  all-each (worker ∷ rest) n P Q then all = (then n worker all.0, all-each rest (suc n) P Q then all.1)

  module _ {A : Type 0} (ran abandoned : T → T → Type 0) (P : ℕ → T → Type 0) (Q : Bool → ℕ → T → Type 0) (share : T → ℕ) (was : T → List A)
      (ended : (n : ℕ) (old new : T) → P n old → ran old new → Q true n new × (share new ≡ share old) × (was new ≡ was old))
      (left : (n : ℕ) (old new : T) → P n old → abandoned old new → Q false n new × (share new ≡ share old) × (was new ≡ was old)) where
    pub each-ran : (workers : List T) (done : List (Ran T)) (n : ℕ) → AllInTurn workers n P → EachRan ran abandoned workers done →
        EachInTurn done n Q × (length done ≡ length workers) × (shares_in done share ≡ shares_of workers share) × (devices_in done was ≡ devices_of workers was)
    each-ran [] [] n all each = (tt, refl, refl, refl)
    each-ran [] (one ∷ done) n all each = absurd each
    each-ran (worker ∷ rest) [] n all each = absurd each
    each-ran (worker ∷ rest) (Ended new ∷ done) n all each =
        let one = ended n worker new all.0 each.0 in
        let others = each-ran rest done (suc n) all.1 each.1 in (
          (one.0, others.0),
          ap suc others.1,
          ap (λ a. a + shares_in done share) one.1 ∙ ap (λ b. share worker + b) others.2,
          ap (λ a. a ++ devices_in done was) one.2 ∙ ap (λ b. was worker ++ b) others.3,
        )
    each-ran (worker ∷ rest) (NotStarted new ∷ done) n all each =
        let one = left n worker new all.0 each.0 in
        let others = each-ran rest done (suc n) all.1 each.1 in (
          (one.0, others.0),
          ap suc others.1,
          ap (λ a. a + shares_in done share) one.1 ∙ ap (λ b. share worker + b) others.2,
          ap (λ a. a ++ devices_in done was) one.2 ∙ ap (λ b. was worker ++ b) others.3,
        )

  -- the first of those that did
  pub each-first : (one : Ran T) (rest : List (Ran T)) (n : ℕ) (Q : Bool → ℕ → T → Type 0) (worker : T) (has_run : Bool) → IsWorkerOf one worker has_run → EachInTurn (one ∷ rest) n Q →
      Q has_run n worker × EachInTurn rest (suc n) Q
  each-first (Ended it) rest n Q worker has_run is each =
      (subst (λ w. Q has_run n w) (sym is.0) (subst (λ b. Q b n it) (sym is.1) each.0), each.1)
  each-first (NotStarted it) rest n Q worker has_run is each =
      (subst (λ w. Q has_run n w) (sym is.0) (subst (λ b. Q b n it) (sym is.1) each.0), each.1)

  pub shares-first : (one : Ran T) (rest : List (Ran T)) (share : T → ℕ) (worker : T) (has_run : Bool) → IsWorkerOf one worker has_run → shares_in (one ∷ rest) share ≡ share worker + shares_in rest share
  shares-first (Ended it) rest share worker has_run is = ap (λ w. share w + shares_in rest share) (sym is.0)
  shares-first (NotStarted it) rest share worker has_run is = ap (λ w. share w + shares_in rest share) (sym is.0)

  pub devices-first : {A : Type 0} (one : Ran T) (rest : List (Ran T)) (was : T → List A) (worker : T) (has_run : Bool) → IsWorkerOf one worker has_run → devices_in (one ∷ rest) was ≡ was worker ++ devices_in rest was
  devices-first (Ended it) rest was worker has_run is = ap (λ w. was w ++ devices_in rest was) (sym is.0)
  devices-first (NotStarted it) rest was worker has_run is = ap (λ w. was w ++ devices_in rest was) (sym is.0)

  pub unrun-first : (one : Ran T) (rest : List (Ran T)) (worker : T) (has_run : Bool) → IsWorkerOf one worker has_run → (flag : Bool) →
      ((flag || not has_run) || is_any_unrun rest) ≡ (flag || is_any_unrun (one ∷ rest))
  unrun-first (Ended it) rest worker has_run is true = refl
  unrun-first (Ended it) rest worker has_run is false = ap (λ b. not b || is_any_unrun rest) is.1
  unrun-first (NotStarted it) rest worker has_run is true = refl
  unrun-first (NotStarted it) rest worker has_run is false = ap (λ b. not b || is_any_unrun rest) is.1

  -- the spawner's count rose where one was not started
  pub rose-where : (before now : ℕ) (done : List (Ran T)) → SpawnCause before now (map is_ended done) → RoseWhere (is_any_unrun done) before now
  rose-where before now [] cause = cause
  rose-where before now (Ended it ∷ done) cause = rose-where before now done cause
  rose-where before now (NotStarted it ∷ done) cause = cause

  -- the same of workers of one server, of which each became what its run, or its being abandoned, leaves
  module _ {S A : Type 0} (server_of : T → S) (number_of share : T → ℕ) (was : T → List A) (server : S) (P : ℕ → T → Type 0) (left : Bool → S → ℕ → T → Type 0)
      (same : (n : ℕ) (worker : T) → P n worker → (server_of worker ≡ server) × (number_of worker ≡ n)) where
    became : (ran : Bool) (n : ℕ) (old new : T) → P n old →
        (server_of new ≡ server_of old) × (number_of new ≡ number_of old) × (share new ≡ share old) × (was new ≡ was old) × left ran (server_of new) (number_of new) new →
        ((server_of new ≡ server) × (number_of new ≡ n) × left ran server n new) × (share new ≡ share old) × (was new ≡ was old)
    became ran n old new ready now =
        let before = same n old ready in
        let here : server_of new ≡ server = now.0 ∙ before.0 in
        let place : number_of new ≡ n = now.1 ∙ before.1 in
        ((here, place, subst (λ m. left ran server m new) place (subst (λ s. left ran s (number_of new) new) here now.4)), now.2, now.3)

  pub workers-ran : {S A : Type 0} (workers : List T) (done : List (Ran T)) (server : S) (server_of : T → S) (number_of share : T → ℕ) (was : T → List A) (P : ℕ → T → Type 0) (left : Bool → S → ℕ → T → Type 0) →
      ((n : ℕ) (worker : T) → P n worker → (server_of worker ≡ server) × (number_of worker ≡ n)) → AllInTurn workers 0 P →
      EachRan (λ old new. (server_of new ≡ server_of old) × (number_of new ≡ number_of old) × (share new ≡ share old) × (was new ≡ was old) × left true (server_of new) (number_of new) new)
      (λ old new. (server_of new ≡ server_of old) × (number_of new ≡ number_of old) × (share new ≡ share old) × (was new ≡ was old) × left false (server_of new) (number_of new) new) workers done →
      EachInTurn done 0 (λ ran n worker. (server_of worker ≡ server) × (number_of worker ≡ n) × left ran server n worker)
      × (length done ≡ length workers) × (shares_in done share ≡ shares_of workers share) × (devices_in done was ≡ devices_of workers was)
  workers-ran workers done server server_of number_of share was P left same all each = each-ran
      (λ old new. (server_of new ≡ server_of old) × (number_of new ≡ number_of old) × (share new ≡ share old) × (was new ≡ was old) × left true (server_of new) (number_of new) new)
      (λ old new. (server_of new ≡ server_of old) × (number_of new ≡ number_of old) × (share new ≡ share old) × (was new ≡ was old) × left false (server_of new) (number_of new) new)
      P (λ ran n worker. (server_of worker ≡ server) × (number_of worker ≡ n) × left ran server n worker) share was
      (became server_of number_of share was server P left same true) (became server_of number_of share was server P left same false) workers done 0 all each

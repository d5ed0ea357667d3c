-- Workers in turn, and one more behind them.
use Rattle.std.proofs.Common.{◌≡◌, ℕ, suc, ◌+◌, ◌<◌, List, [], ◌∷◌, ◌++◌, length, refl, ap, sym, ◌∙◌, subst, arith, append_assoc}
use Rattle.std.specs.List.{remove, slice_index_or}
use Rattle.std.proofs.lemmas.List.{append-nil}
use Rattle.boss_server.specs.Turns.{AllInTurn, devices_of, shares_of}

module _ {T : Type 0} where
  all-more : (P : ℕ → T → Type 0) (workers : List T) (worker : T) (n place : ℕ) → place ≡ n + length workers → AllInTurn workers n P → P place worker → AllInTurn (workers ++ worker ∷ []) n P
  all-more P [] worker n place is all last = (subst (λ m. P m worker) (let here : place ≡ n = omega arith in here) last, tt)
  all-more P (first ∷ workers) worker n place is all last = (all.0, all-more P workers worker (suc n) place (omega (arith, is)) all.1 last)

  -- one more behind those from 0 on
  pub all-behind : (P : ℕ → T → Type 0) (workers all : List T) (worker : T) → all ≡ workers ++ worker ∷ [] → AllInTurn workers 0 P → P (length workers) worker → AllInTurn all 0 P
  all-behind P workers all worker is each last = subst (λ items. AllInTurn items 0 P) (sym is) (all-more P workers worker 0 (length workers) (omega arith) each last)

  shares-more : (share : T → ℕ) (workers : List T) (worker : T) → shares_of (workers ++ worker ∷ []) share ≡ shares_of workers share + share worker
  shares-more share [] worker = omega arith
  shares-more share (first ∷ workers) worker = let rest = shares-more share workers worker in omega (arith, rest)

  pub shares-behind : (share : T → ℕ) (workers all : List T) (worker : T) → all ≡ workers ++ worker ∷ [] → shares_of all share ≡ shares_of workers share + share worker
  shares-behind share workers all worker is = ap (λ items. shares_of items share) is ∙ shares-more share workers worker

  devices-more : {A : Type 0} (was : T → List A) (workers : List T) (worker : T) → devices_of (workers ++ worker ∷ []) was ≡ devices_of workers was ++ was worker
  devices-more was [] worker = append-nil (was worker)
  devices-more was (first ∷ workers) worker = ap (λ rest. was first ++ rest) (devices-more was workers worker) ∙ sym (append_assoc (was first) (devices_of workers was) (was worker))

  pub devices-behind : {A : Type 0} (was : T → List A) (workers all : List T) (worker : T) → all ≡ workers ++ worker ∷ [] → devices_of all was ≡ devices_of workers was ++ was worker
  devices-behind was workers all worker is = ap (λ items. devices_of items was) is ∙ devices-more was workers worker

-- the first item, and the others
pub first-removed : {A : Type 0} (items : List A) (item : A) (rest : List A) → 0 < length items → item ≡ slice_index_or items 0 item → rest ≡ remove items 0 → item ∷ rest ≡ items
first-removed [] item rest some first others = absurd (omega (arith, some))
first-removed (x ∷ xs) item rest some first others = ap (λ y. y ∷ rest) first ∙ ap (λ ys. x ∷ ys) others

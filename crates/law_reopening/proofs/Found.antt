-- What is found on disks is what was left on them, and openings in turn are lives.
use Rattle.std.proofs.Common.{◌≡◌, ◌⊎◌, inl, inr, ℕ, zero, suc, List, [], ◌∷◌, map, take, refl, sym, ap, ◌∙◌}
use Rattle.std.specs.List.{AllByRecursion}
use Rattle.def_history.specs.declared.entry.Entry.{Entry}
use Rattle.def_history.specs.declared.entry.Entry.TheVariants.{Did, Broke}
use Rattle.def_history.specs.History.{after_entry, IsLegal, MayCall, run}
use Rattle.def_history.specs.Once.{AreLives, IsLeft, LeadsTo}
use Rattle.law_reopening.specs.Spans.{AreSpans, IsLeftBehind, LeavesTo, Span, begins, done, life_of, tried}
use Rattle.boss_model.specs.declared.state.Actuator.{Actuator}
use Rattle.boss_model.specs.State.{Persistent, State}
use Rattle.def_disk_pair.specs.Pairs.{Opens}
use Rattle.def_disk_pair.proofs.Disks.{clean_opens, opens_to_one}
use Rattle.boss_shared.specs.Walking.{shortened}

pub found : (plant : List Actuator) (digest : List ℕ) (span : Span) (first second : List ℕ) (d : Persistent) → IsLeftBehind plant digest span first second →
    Opens plant digest d first second → (d ≡ done plant span) ⊎ (d ≡ tried plant span)
found plant digest span first second d (inl left) opens =
    inl (opens_to_one plant digest first second d (done plant span) opens (clean_opens plant digest first second (done plant span) left.0 left.1))
found plant digest span first second d (inr left) opens =
    inr (opens_to_one plant digest first second d (tried plant span) opens (clean_opens plant digest first second (tried plant span) left.0 left.1))

-- ---- a mark with fewer commands

shortened-run : (plant : List Actuator) (tries : ℕ) (xs : List Entry) (s : State) → run plant (shortened tries xs) s ≡ run plant xs s
shortened-run plant tries [] s = refl
shortened-run plant tries (Did session c m answer ∷ xs) s = shortened-run plant tries xs (after_entry plant (Did session c m answer) s)
shortened-run plant tries (Broke session commands others ∷ xs) s = shortened-run plant tries xs s

all-take : {X : Type 0} (P : X → Type 0) (n : ℕ) (xs : List X) → AllByRecursion P xs → AllByRecursion P (take n xs)
all-take P zero xs all = tt
all-take P (suc n) [] all = tt
all-take P (suc n) (x ∷ xs) all = (all.0, all-take P n xs all.1)

shortened-legal : (plant : List Actuator) (tries : ℕ) (xs : List Entry) (s : State) → IsLegal plant xs s → IsLegal plant (shortened tries xs) s
shortened-legal plant tries [] s legal = tt
shortened-legal plant tries (Did session c m answer ∷ xs) s legal =
    (legal.0, tt, shortened-legal plant tries xs (after_entry plant (Did session c m answer) s) legal.2)
shortened-legal plant tries (Broke session commands others ∷ xs) s legal =
    ((all-take (MayCall plant) tries commands legal.0.0, legal.0.1), ap (shortened tries) legal.1, shortened-legal plant tries xs s legal.2)

-- ---- lives

left-behind : (plant : List Actuator) (digest : List ℕ) (span : Span) (spans : List Span) → LeavesTo plant digest span spans → AreSpans plant digest spans →
    LeadsTo plant (life_of span) (map life_of spans)
left-behind plant digest span [] leaves are = tt
left-behind plant digest span (next ∷ spans) leaves are =
    by (found plant digest span next.first next.second next.opens leaves are.0.opens)
  where
    by : (next.opens ≡ done plant span) ⊎ (next.opens ≡ tried plant span) → IsLeft plant (life_of span) next.opens
    by (inl is) = inl (is ∙ ap (λ s. s.persistent) (sym (shortened-run plant span.tries span.history (begins plant span))))
    by (inr is) = inr is

pub lives : (plant : List Actuator) (digest : List ℕ) (spans : List Span) → AreSpans plant digest spans → AreLives plant (map life_of spans)
lives plant digest [] are = tt
lives plant digest (span ∷ spans) are =
    (shortened-legal plant span.tries span.history (begins plant span) are.0.legal, left-behind plant digest span spans are.1 are.2, lives plant digest spans are.2)

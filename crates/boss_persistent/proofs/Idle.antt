-- Nothing is due up to a moment where the last moment that is due up to it is that of the last change.
use Rattle.std.proofs.Common.{◌≡◌, ℕ, ◌<◌, ◌≤◌, max, List, [], ◌∷◌, refl, sym, ◌∙◌, ⊎_elim, arith}
use Rattle.std.specs.List.{fold, AllByRecursion}
use Rattle.std.proofs.lemmas.Bool.{cases_lt}
use Rattle.boss_model.specs.declared.state.Actuator.{Actuator}
use Rattle.boss_model.specs.Happenings.{Happening, later}
use Rattle.boss_model.specs.Reversions.{courses}
use Rattle.boss_model.specs.Sound.{IsSoundPersistent}
use Rattle.boss_model.specs.State.{Persistent}
use Rattle.boss_model.specs.Time.{due}
use Rattle.law_due.specs.Due.{last_due}
use Rattle.law_due.proofs.DueLemmas.{last-due}
use Rattle.law_time.proofs.Coming.{all_of, later-first}
use Rattle.law_time.proofs.Filters.{each-always}
use Rattle.law_time.proofs.TickSound.{to-due}

none-both : (now n : ℕ) (hs : List Happening) → AllByRecursion (λ h. (now < h.at) × (h.at ≤ n)) hs → (now ≤ n → fold later now hs ≤ now) → hs ≡ []
none-both now n [] after within = refl
none-both now n (h ∷ hs) after within =
    let here : now < h.at = after.0.0 in
    let there : h.at ≤ n = after.0.1 in
    let early : fold later (max now h.at) hs ≤ now = within (omega arith) in
    let more : max now h.at ≤ fold later (max now h.at) hs = later-first (max now h.at) hs in absurd (omega arith)

pub none-due : (plant : List Actuator) (d : Persistent) (n : ℕ) → IsSoundPersistent plant d → (d.now ≤ n → last_due n d ≡ d.now) → due n d ≡ []
none-due plant d n sound idle =
    let cs = courses d.pending d.leases in
    let P = λ (h : Happening). (d.now < h.at) × (h.at ≤ n) in
    none-both d.now n (due n d)
    (to-due P n d.now cs d.txns (each-always (λ h. d.now < h.at → h.at ≤ n → P h) (λ h more early. (more, early)) (all_of cs d.txns)))
    (λ within. let same : fold later d.now (due n d) ≡ d.now = sym (last-due plant d n sound within) ∙ idle within in omega (arith, same))

-- What a command that is not refused says of itself.
use Rattle.std.proofs.Common.{◌≡◌, ℕ, ◌+◌, ◌==◌, ◌<◌, ℤ, pos, negsuc, List, [], ◌∷◌, map, Bool, true, false, not, cond, Option, Some, None, unsigned_abs, refl, arith}
use Rattle.std.specs.Option.{option_map}
use Rattle.std.specs.List.{AllByRecursion, position}
use Rattle.std.proofs.lemmas.Bool.{cond_both}
use Rattle.std.proofs.lemmas.Bool.Decides.{nat_tests}
use Rattle.boss_model.specs.declared.answer.Refusal.TheVariants as refusal
use Rattle.boss_model.specs.declared.command.Setting.{Setting}
use Rattle.boss_model.specs.declared.state.Actuator.{Actuator}
use Rattle.boss_model.specs.Catalogue.{fits_at}
use Rattle.boss_model.specs.Limits.{last_number}
use Rattle.boss_model.specs.Lists.{member, first_some}
use Rattle.boss_model.specs.Sound.{Distinct}
use Rattle.boss_model.specs.State.{Persistent}
use Rattle.boss_model.specs.Submit.{is_level, is_length, is_reversion, repeated, submit_refused}
use Rattle.law_time.proofs.Filters.{none-found}
use Rattle.law_time.proofs.Orders.{each-map, each-both}

pub none-of-first : {X : Type 0} (x : Option X) (xs : List (Option X)) → first_some (x ∷ xs) ≡ None → (x ≡ None) × (first_some xs ≡ None)
none-of-first None xs none = (refl, none)
none-of-first (Some x) xs none = cc

pub none-mapped : {X Y : Type 0} (f : X → Y) (x : Option X) → option_map f x ≡ None → x ≡ None
none-mapped f None none = refl
none-mapped f (Some x) none = cc

pub each-not : {X : Type 0} (test : X → Bool) (xs : List X) → AllByRecursion (λ x. not (test x) ≡ false) xs → AllByRecursion (λ x. test x ≡ true) xs
each-not test xs all = each-map (λ x. not (test x) ≡ false) (λ x. test x ≡ true) (λ x is. grind (arith)) xs all

-- points that are not repeated
not-repeated : (seen : List ℕ) (place : ℕ) (writes : List Setting) → repeated seen place writes ≡ None →
    Distinct (map (λ w. w.point) writes) × AllByRecursion (λ w. member w.point seen ≡ false) writes
not-repeated seen place [] none = (tt, tt)
not-repeated seen place (w ∷ ws) none =
    cond_both (member w.point seen) (Some place) (repeated (w.point ∷ seen) (place + 1) ws)
    (λ found. found ≡ None → Distinct (map (λ w. w.point) (w ∷ ws)) × AllByRecursion (λ w. member w.point seen ≡ false) (w ∷ ws))
    (λ _ e. cc)
    (λ new e. let rest = not-repeated (w.point ∷ seen) (place + 1) ws e in (
      (away w.point ws (each-map (λ v. member v.point (w.point ∷ seen) ≡ false) (λ v. (w.point == v.point) ≡ false) (λ v out. grind (arith, nat_tests)) ws rest.1), rest.0),
      (new, each-map (λ v. member v.point (w.point ∷ seen) ≡ false) (λ v. member v.point seen ≡ false) (λ v out. grind (arith, nat_tests)) ws rest.1),
    ))
    none
  where
    away : (point : ℕ) (vs : List Setting) → AllByRecursion (λ v. (point == v.point) ≡ false) vs → member point (map (λ w. w.point) vs) ≡ false
    away point [] all = refl
    away point (v ∷ vs) all = grind (arith, nat_tests, all.0, away point vs all.1)

-- a write that is not refused
pub record IsWrite (plant : List Actuator) (w : Setting) : Type 0 where
  pub level : is_level w.priority ≡ true
  pub fitting : fits_at plant w.point w.value ≡ true
  pub lasting : is_length w.lease ≡ true
  pub reverting : is_reversion plant w.point w.revert ≡ true

pub record IsSubmit (plant : List Actuator) (writes : List Setting) (d : Persistent) : Type 0 where
  pub points : Distinct (map (λ w. w.point) writes)
  pub allowed : AllByRecursion (IsWrite plant) writes
  pub unspent : (d.next == last_number) ≡ false

pub submit-not-refused : (plant : List Actuator) (writes : List Setting) (d : Persistent) → submit_refused plant writes d ≡ None → IsSubmit plant writes d
submit-not-refused plant writes d none =
    let a = none-of-first (option_map refusal.SamePoint (repeated [] 0 writes)) _ none in
    let b = none-of-first (option_map refusal.BadPriority (position (λ write. not (is_level write.priority)) writes)) _ a.1 in
    let c = none-of-first (option_map refusal.OutOfRange (position (λ write. not (fits_at plant write.point write.value)) writes)) _ b.1 in
    let e = none-of-first (option_map refusal.BadLease (position (λ write. not (is_length write.lease)) writes)) _ c.1 in
    let f = none-of-first (option_map refusal.BadReversion (position (λ write. not (is_reversion plant write.point write.revert)) writes)) _ e.1 in
    let g = none-of-first (cond (d.next == last_number) (Some refusal.Spent) None) [] f.1 in
    let level = λ (w : Setting). is_level w.priority in
    let fits = λ (w : Setting). fits_at plant w.point w.value in
    let lasts = λ (w : Setting). is_length w.lease in
    let reverts = λ (w : Setting). is_reversion plant w.point w.revert in
    let L = each-not level writes (none-found (λ w. not (level w)) writes (none-mapped refusal.BadPriority _ b.0)) in
    let F = each-not fits writes (none-found (λ w. not (fits w)) writes (none-mapped refusal.OutOfRange _ c.0)) in
    let T = each-not lasts writes (none-found (λ w. not (lasts w)) writes (none-mapped refusal.BadLease _ e.0)) in
    let R = each-not reverts writes (none-found (λ w. not (reverts w)) writes (none-mapped refusal.BadReversion _ f.0)) in
    record {
      points = (not-repeated [] 0 writes (none-mapped refusal.SamePoint (repeated [] 0 writes) a.0)).0;
      allowed = each-map (λ w. ((level w ≡ true) × (fits w ≡ true)) × ((lasts w ≡ true) × (reverts w ≡ true))) (IsWrite plant)
          (λ w all. record { level = all.0.0; fitting = all.0.1; lasting = all.1.0; reverting = all.1.1 }) writes
          (each-both (λ w. (level w ≡ true) × (fits w ≡ true)) (λ w. (lasts w ≡ true) × (reverts w ≡ true)) writes
          (each-both (λ w. level w ≡ true) (λ w. fits w ≡ true) writes L F) (each-both (λ w. lasts w ≡ true) (λ w. reverts w ≡ true) writes T R));
      unspent = cond_both (d.next == last_number) (Some refusal.Spent) None (λ found. found ≡ None → (d.next == last_number) ≡ false) (λ _ x. cc) (λ no _. no) g.0;
    }

-- a level is the same as a number
pub level-number : (z : ℤ) → is_level z ≡ true → is_level (pos (unsigned_abs z)) ≡ true
level-number (pos n) is = is
level-number (negsuc n) is = cc

pub level-byte : (z : ℤ) → is_level z ≡ true → unsigned_abs z < 256
level-byte (pos n) is = grind (arith, nat_tests)
level-byte (negsuc n) is = cc

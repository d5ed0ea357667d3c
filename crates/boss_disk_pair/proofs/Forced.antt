-- Which disk stays in force while the other is written.
use Rattle.std.proofs.Common.{◌≡◌, ◌⊎◌, inl, inr, ℕ, ◌+◌, ◌^◌, ◌%◌, ◌<◌, ◌==◌, Bool, true, false, cond, List, [], ◌∷◌, ◌++◌, length, refl, sym, ap, ◌∙◌, arith}
use Rattle.std.proofs.lemmas.Bool.{eq-eqb}
use Rattle.std.proofs.lemmas.Bool.Decides.{nat_tests}
use Rattle.boss_model.specs.declared.state.Actuator.{Actuator}
use Rattle.boss_model.specs.State.{Persistent}
use Rattle.def_log.specs.declared.kind.DiskKind.{DiskKind}
use Rattle.def_log.specs.declared.kind.DiskKind.TheVariants.{Idle, Plain, State, Other}
use Rattle.def_log.specs.InForce.{InForce, First, Second}
use Rattle.def_log.specs.Kinds.{kind_of, in_force}
use Rattle.def_log.specs.Log.{spelled}
use Rattle.def_disk_pair.specs.Contents.{HoldsCleanly}
use Rattle.def_disk_pair.specs.Fronts.{IsFront}
use Rattle.def_disk_pair.specs.Pairs.{OpensCleanly}
use Rattle.def_disk_pair.proofs.Disks.{opens_first, opens_second}
use Rattle.def_disk_pair.proofs.OfKinds.{plain_front, state_front}
use Rattle.boss_disk_pair.specs.Orders.{InOrder}
use Rattle.boss_disk_pair.specs.Rests.{forced, IsInForce}

-- ---- kinds

-- the front tells the kind, whatever records and gate stand behind it
gate_behind : (records : List (List ℕ)) (gate : ℕ) (tail : List ℕ) → (x : ℕ) × (rest : List ℕ) × (spelled records ++ gate ∷ tail ≡ x ∷ rest)
gate_behind [] gate tail = (gate, tail, refl)
gate_behind (r ∷ records) gate tail = (1, _, refl)

module _ (plant : List Actuator) (digest : List ℕ) (whole : length digest ≡ 32) where
  one_kind : (version : ℕ) (front : List ℕ) (from : Persistent) (before : ℕ) → IsFront plant digest version from before front →
      (x y : ℕ) (rest other : List ℕ) → kind_of (front ++ x ∷ rest) ≡ kind_of (front ++ y ∷ other)
  one_kind version front from before (inl plain) x y rest other =
      plain_front digest whole version from before front x rest plain ∙ sym (plain_front digest whole version from before front y other plain)
  one_kind version front from before (inr state) x y rest other =
      state_front plant digest whole version state.0 from before front x rest state.1 ∙ sym (state_front plant digest whole version state.0 from before front y other state.1)

  pub front_kind : (version : ℕ) (front : List ℕ) (from : Persistent) (before : ℕ) → IsFront plant digest version from before front →
      (records others : List (List ℕ)) (gate last : ℕ) (tail rest bytes held : List ℕ) → bytes ≡ front ++ (spelled records ++ gate ∷ tail) →
      held ≡ front ++ (spelled others ++ last ∷ rest) → kind_of bytes ≡ kind_of held
  front_kind version front from before is records others gate last tail rest bytes held one two =
      let a = gate_behind records gate tail in
      let b = gate_behind others last rest in
      ap kind_of (one ∙ ap (λ t. front ++ t) a.2) ∙ one_kind version front from before is a.0 b.0 a.1 b.1 ∙ sym (ap kind_of (two ∙ ap (λ t. front ++ t) b.2))

-- ---- in force

-- a disk in force is no idle one
abbrev pub IsKept : DiskKind → Type 0
IsKept kind = (kind ≡ Plain) ⊎ ((generation : ℕ) × (kind ≡ State generation))

abbrev pub between : Bool → DiskKind → DiskKind → InForce
between false mine other = in_force mine other
between true mine other = in_force other mine

never_plain : (other : DiskKind) → in_force other Plain ≡ Second → ⊥
never_plain Idle is = cc
never_plain Plain is = cc
never_plain (State g) is = cc
never_plain Other is = cc

-- it stays in force beside an idle one
pub beside_idle : (second : Bool) (mine beside : DiskKind) → IsKept mine → between second mine beside ≡ forced second → between second mine Idle ≡ forced second
beside_idle false mine beside (inl plain) is = ap (λ k. in_force k Idle) plain
beside_idle false mine beside (inr state) is = ap (λ k. in_force k Idle) state.1
beside_idle true mine beside (inl plain) is = absurd (never_plain beside (sym (ap (in_force beside) plain) ∙ is))
beside_idle true mine beside (inr state) is = ap (in_force Idle) state.1

-- the other one is in force once it has the next generation
pub next_in_force : (second : Bool) (mine beside : DiskKind) (generation : ℕ) → (mine ≡ Plain) ⊎ ((mine ≡ State generation) × (generation < 2 ^ 64)) →
    between second mine beside ≡ forced second → between second mine (State ((generation + 1) % 2 ^ 64)) ≡ (cond second First Second)
next_in_force false mine beside generation (inl plain) is = ap (λ k. in_force k (State ((generation + 1) % 2 ^ 64))) plain
next_in_force false mine beside generation (inr state) is =
    let yes : (((generation + 1) % 2 ^ 64) == (generation + 1) % 2 ^ 64) ≡ true = eq-eqb _ _ refl in
    ap (λ k. in_force k (State ((generation + 1) % 2 ^ 64))) state.0 ∙ ap (λ b. cond b Second First) yes
next_in_force true mine beside generation (inl plain) is = absurd (never_plain beside (sym (ap (in_force beside) plain) ∙ is))
next_in_force true mine beside generation (inr state) is =
    let small = state.1 in
    let no : (generation == ((generation + 1) % 2 ^ 64 + 1) % 2 ^ 64) ≡ false = grind (arith, nat_tests, small) in
    ap (in_force (State ((generation + 1) % 2 ^ 64))) state.0 ∙ ap (λ b. cond b Second First) no

-- ---- what the pair opens to

pub to_order : (second : Bool) (one other : List ℕ) → between second (kind_of one) (kind_of other) ≡ forced second → InOrder (IsInForce second) second one other
to_order false one other is = is
to_order true one other is = is

pub from_order : (second : Bool) (one other : List ℕ) → InOrder (IsInForce second) second one other → between second (kind_of one) (kind_of other) ≡ forced second
from_order false one other is = is
from_order true one other is = is

pub opens_in : (plant : List Actuator) (digest : List ℕ) (second : Bool) (one other : List ℕ) (d : Persistent) (count : ℕ) →
    between second (kind_of one) (kind_of other) ≡ forced second → HoldsCleanly plant digest d count one → InOrder (OpensCleanly plant digest d count) second one other
opens_in plant digest false one other d count is held = opens_first plant digest one other d count is held
opens_in plant digest true one other d count is held = opens_second plant digest other one d count is held

-- The fields that events and states share are exact and short.
use Rattle.std.proofs.Common.{◌≡◌, ℕ, zero, suc, ◌-◌, ◌^◌, ◌<◌, ◌≤◌, nat_lt, nat_le, ℤ, pos, negsuc, Bool, true, false, cond, Some, None, refl, sym, ap, subst, ◌∙◌, arith}
use Rattle.std.specs.Int.{w32, w64, cast_signed}
use Rattle.std.proofs.lemmas.Bool.{cond_both, ltb-true, lt-ltb}
use Rattle.std.proofs.lemmas.Bool.Decides.{nat_tests}
use Rattle.std.proofs.lemmas.Int.{to_z_pos}
use Rattle.std.proofs.Math.Facts.{to_z-neg}
use mir.Val.{sel}
use Rattle.def_bytes.specs.Exact.{IsBytes, Undoes}
use Rattle.def_bytes.specs.Fields.{Field, number, byte, both, only, counted}
use Rattle.boss_model.specs.declared.command.Policy.{Policy}
use Rattle.boss_model.specs.declared.command.Policy.TheVariants.{Abort, Keep}
use Rattle.boss_model.specs.Limits.{longest_name, most_steps}
use Rattle.boss_model.specs.Names.{is_name}
use Rattle.def_bytes.specs.Parts.{nothing, within, bits_of, signed64, unsigned, natural, moment, name, policy_number, policy_of, policy, step_parts, step_of, step, steps}
use Rattle.def_bytes.proofs.Spelling.{IsSpelled, some-is, word32, word64, one_byte, pair, tested, whole, list}

pub no_bytes : IsSpelled nothing
no_bytes = record {
  exact = record {
    takes = λ bytes x rest are is. record { fits = refl; spelled = ap (λ p. p.1) (some-is (tt, bytes) (x, rest) is); rest_bytes = subst IsBytes (ap (λ p. p.1) (some-is (tt, bytes) (x, rest) is)) are };
    again = λ x rest fits. refl;
  };
  short = record { short = λ x fits. omega arith };
}

pub byte_within : (least greatest : ℕ) → IsSpelled (within least greatest)
byte_within least greatest = tested (nat_le least) (only (λ n. nat_le n greatest) byte) (tested (λ n. nat_le n greatest) byte one_byte)

-- ---- whole numbers

signed_undoes : Undoes bits_of (cast_signed w64) (number w64)
signed_undoes = record { back = back; whole = back_again }
  where
    back : (n : ℕ) → (number w64).fits n ≡ true → bits_of (cast_signed w64 n) ≡ Some n
    back n fits = by (nat_lt n (2 ^ 63)) refl
      where
        by : (low : Bool) → nat_lt n (2 ^ 63) ≡ low → bits_of (sel low (pos n) (negsuc (2 ^ 64 - suc n))) ≡ Some n
        by true is = ap (λ b. cond b (Some n) None) is
        by false is =
            let small : n < 2 ^ 64 = grind (arith, nat_tests) in
            let high : 2 ^ 63 ≤ n = grind (arith, nat_tests) in
            let low : nat_lt (2 ^ 64 - suc n) (2 ^ 63) ≡ true = lt-ltb _ _ (omega (arith, small, high)) in
            ap (λ b. cond b (Some (2 ^ 64 - suc (2 ^ 64 - suc n))) None) low ∙ ap Some (omega (arith, small))

    back_again : (z : ℤ) (n : ℕ) → bits_of z ≡ Some n → cast_signed w64 n ≡ z
    back_again (pos m) n is = cond_both (nat_lt m (2 ^ 63)) (Some m) None (λ o. o ≡ Some n → cast_signed w64 n ≡ pos m)
        (λ low is. ap (cast_signed w64) (sym (some-is _ _ is)) ∙ to_z_pos w64 m (ltb-true _ _ low)) (λ _ is. absurd cc) is
    back_again (negsuc m) n is = cond_both (nat_lt m (2 ^ 63)) (Some (2 ^ 64 - suc m)) None (λ o. o ≡ Some n → cast_signed w64 n ≡ negsuc m)
        (λ low is. ap (cast_signed w64) (sym (some-is _ _ is)) ∙ to_z-neg w64 m (ltb-true _ _ low)) (λ _ is. absurd cc) is

pub signed : IsSpelled signed64
signed = whole bits_of (cast_signed w64) (number w64) signed_undoes word64

natural_undoes : (f : Field ℕ) → Undoes unsigned pos f
natural_undoes f = record { back = λ n fits. refl; whole = back_again }
  where
    back_again : (z : ℤ) (n : ℕ) → unsigned z ≡ Some n → pos n ≡ z
    back_again (pos m) n is = cc
    back_again (negsuc m) n is = absurd cc

pub not_negative : (f : Field ℕ) → IsSpelled f → IsSpelled (natural f)
not_negative f a = whole unsigned pos f (natural_undoes f) a

-- ---- moments, names, policies

pub moments : IsSpelled moment
moments = tested _ _ word64

pub names : IsSpelled name
names = tested is_name (counted byte longest_name byte) (list byte longest_name byte one_byte one_byte)

policy_undoes : Undoes policy_number policy_of (within 0 1)
policy_undoes = record { back = back; whole = back_again }
  where
    back : (n : ℕ) → (within 0 1).fits n ≡ true → policy_number (policy_of n) ≡ Some n
    back zero fits = refl
    back (suc zero) fits = refl
    back (suc (suc n)) fits = absurd (grind (arith, nat_tests))

    back_again : (p : Policy) (n : ℕ) → policy_number p ≡ Some n → policy_of n ≡ p
    back_again Abort n is = subst (λ k. policy_of k ≡ Abort) (some-is 0 n is) refl
    back_again Keep n is = subst (λ k. policy_of k ≡ Keep) (some-is 1 n is) refl

pub policies : IsSpelled policy
policies = whole policy_number policy_of (within 0 1) policy_undoes (byte_within 0 1)

-- ---- reversions

step_undoes : Undoes step_parts step_of (both signed64 (natural (number w32)))
step_undoes = record { back = λ y fits. refl; whole = λ x y is. cc }

pub one_step : IsSpelled step
one_step = whole step_parts step_of _ step_undoes (pair signed64 (natural (number w32)) signed (not_negative (number w32) word32))

pub reversion : IsSpelled steps
reversion = list byte most_steps step one_byte one_step

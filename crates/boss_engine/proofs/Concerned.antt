-- A process is told where something was changed.
use Rattle.std.proofs.Common.{◌≡◌, ℕ, Bool, true, false, Option, is_some, IfSome, refl, sym, ap, subst, ◌∙◌}
use Rattle.std.specs.Bool.{then_some}

some-then : (changed : Bool) (owner : ℕ) → is_some (then_some changed owner) ≡ changed
some-then true owner = refl
some-then false owner = refl

pub concerned-changed : (changed : Bool) (owner : ℕ) (told : Option ℕ) → told ≡ then_some changed owner → is_some told ≡ changed
concerned-changed changed owner told is = ap is_some is ∙ some-then changed owner

owner-then : (changed : Bool) (owner other : ℕ) → owner ≡ other → IfSome (then_some changed owner) (λ process. process ≡ other)
owner-then true owner other same = same
owner-then false owner other same = tt

pub concerned-owner : (changed : Bool) (owner other : ℕ) (told : Option ℕ) → told ≡ then_some changed owner → owner ≡ other → IfSome told (λ process. process ≡ other)
concerned-owner changed owner other told is same = subst (λ given. IfSome given (λ process. process ≡ other)) (sym is) (owner-then changed owner other same)

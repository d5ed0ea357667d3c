use Rattle.std.proofs.Common.{◌≡◌, ℕ, ◌≤◌, List, [], ◌++◌, length, take, sym, ap, ◌∙◌, refl, arith, append-nil, append_assoc}
use Rattle.std.proofs.lemmas.List.{length-take, take-take, take_at}
use Rattle.boss_outside.specs.Streams.{TakesFront}

-- all bytes are a front of them, and none are
pub all_front : (old new bytes : List ℕ) → new ≡ old ++ bytes → TakesFront old new bytes
all_front old new bytes e = (bytes, [], sym (append-nil bytes), e)

pub no_front : (old new bytes : List ℕ) → new ≡ old → TakesFront old new bytes
no_front old new bytes e = ([], bytes, refl, e ∙ sym (append-nil old))

-- a front stays one where nothing was sent before
pub front_after : (old mid new bytes : List ℕ) → mid ≡ old → TakesFront mid new bytes → TakesFront old new bytes
front_after old mid new bytes same front = (front.0, front.1, front.2, front.3 ∙ ap (λ xs. xs ++ front.0) same)

-- what begins with a list that begins with another begins with that one
pub front_front : (first second third : List ℕ) → take (length first) second ≡ first → take (length second) third ≡ second
    → take (length first) third ≡ first
front_front first second third p q =
    let short : length first ≤ length second = omega (arith, length-take (length first) second, ap length p) in
    let cut : take (length first) (take (length second) third) ≡ take (length first) third = take-take (length first) (length second) third short in
    sym cut ∙ ap (take (length first)) q ∙ p

-- what was kept begins with what was there
pub front_kept : (old new bytes : List ℕ) → new ≡ old ++ bytes → take (length old) new ≡ old
front_kept old new bytes e = ap (take (length old)) e ∙ take_at old bytes (length old) refl

-- what was received before goes on
pub received_on : (before first second more received received' : List ℕ) → received ≡ before ++ first → received' ≡ received ++ more → second ≡ first ++ more
    → received' ≡ before ++ second
received_on before first second more received received' p q r =
    q ∙ ap (λ xs. xs ++ more) p ∙ append_assoc before first more ∙ ap (λ xs. before ++ xs) (sym r)

-- before the first byte of a response
pub nothing_yet : (xs ys : List ℕ) → ys ≡ [] → xs ≡ xs ++ ys
nothing_yet xs ys none = sym (append-nil xs) ∙ ap (λ zs. xs ++ zs) (sym none)

-- a receive that gives nothing adds nothing
pub nothing_more : (before first received received' : List ℕ) → received ≡ before ++ first → received' ≡ received ++ [] → received' ≡ before ++ first
nothing_more before first received received' p q = q ∙ append-nil received ∙ p

-- what begins with a list is no shorter
pub longer : (first second : List ℕ) → take (length first) second ≡ first → length first ≤ length second
longer first second is = omega (arith, length-take (length first) second, ap length is)

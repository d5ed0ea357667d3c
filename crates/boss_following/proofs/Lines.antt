-- What comes of lines, line by line.
use Rattle.std.proofs.Common.{◌≡◌, inl, inr, ℕ, ◌+◌, ◌<◌, ◌≤◌, nat_le, Bool, true, false, List, [], ◌∷◌, ◌++◌, length, Option, Some, None, refl, sym, ◌∙◌, subst, append-nil, append_assoc, arith, length-append}
use Rattle.std.specs.Prelude.{MatchBool}
use Rattle.std.proofs.lemmas.Bool.{le-leb}
use Rattle.std.proofs.lemmas.Bool.Decides.{nat_tests}
use Rattle.boss_model.specs.declared.state.Actuator.{Actuator}
use Rattle.boss_model.specs.Limits.{longest_line}
use Rattle.boss_model.specs.Lines.{is_blank}
use Rattle.boss_following.specs.Steps.{Made, IsAtFault, IsStepOf, step_read}
use Rattle.def_feed.specs.Followers.{Follower, Step, On, Fault, Gap, Next, Whole, step_of, OnStep, OnRead, Outcome, Through, TooLong, BadLine, Late, Follows}
use Rattle.def_feed.specs.Items.{Item, Reads}

if-true : (test : Bool) (P Q : Type 0) → test ≡ true → P → MatchBool test P Q
if-true true P Q is p = p
if-true false P Q is p = absurd cc

if-false : (test : Bool) (P Q : Type 0) → test ≡ false → Q → MatchBool test P Q
if-false true P Q is q = absurd cc
if-false false P Q is q = q

is-long : (line : List ℕ) → longest_line < length line → nat_le (length line) longest_line ≡ false
is-long line long = grind (arith, nat_tests)

-- ---- a step

module _ (plant : List Actuator) (f : Follower) (number : ℕ) (Rest : Follower → Type 0) where
  goes-step : (outcome : Outcome) (next : Follower) (step : Step) → Made plant f step next → Rest next → OnStep plant f number Rest outcome step
  goes-step outcome next (On to) made rest = subst Rest made rest
  goes-step outcome next Fault made rest = absurd made
  goes-step outcome next (Gap have found) made rest = absurd made
  goes-step outcome next (Next bytes) made rest = inl (made.0, made.1, subst Rest made.2 rest)
  goes-step outcome next (Whole many bytes) made rest = inl (made.0, made.1, subst Rest made.2 rest)

  goes-read : (outcome : Outcome) (next : Follower) (read : Option Item) → Made plant f (step_read f read) next → Rest next → OnRead plant f number Rest outcome read
  goes-read outcome next None made rest = absurd made
  goes-read outcome next (Some item) made rest = goes-step outcome next (step_of f item) made rest

  fault-step : (step : Step) → IsAtFault plant f step → OnStep plant f number Rest (BadLine number f) step
  fault-step (On to) fault = absurd fault
  fault-step Fault fault = refl
  fault-step (Gap have found) fault = absurd fault
  fault-step (Next bytes) fault = inr (fault, refl)
  fault-step (Whole many bytes) fault = inr (fault, refl)

  fault-read : (read : Option Item) → IsAtFault plant f (step_read f read) → OnRead plant f number Rest (BadLine number f) read
  fault-read None fault = refl
  fault-read (Some item) fault = fault-step (step_of f item) fault

  late-read : (have found : ℕ) (read : Option Item) → step_read f read ≡ Gap have found → OnRead plant f number Rest (Late have found f) read
  late-read have found None is = absurd cc
  late-read have found (Some item) is = subst (OnStep plant f number Rest (Late have found f)) (sym is) refl

-- ---- a line

module _ (plant : List Actuator) (f : Follower) (line : List ℕ) (step : Step) (number : ℕ) (more : List (List ℕ)) where
  -- whatever a line is, something follows of its step
  of-line : (outcome : Outcome) → length line ≤ longest_line → IsStepOf f line step →
      (step ≡ On f → Follows plant f (number + 1) more outcome) →
      ((read : Option Item) → step ≡ step_read f read → OnRead plant f number (λ next. Follows plant next (number + 1) more outcome) outcome read) →
      Follows plant f number (line ∷ more) outcome
  of-line outcome short is blank other = if-true (nat_le (length line) longest_line) _ _ (le-leb (length line) longest_line short) (by (is_blank line) is)
    where
      by : (test : Bool) → MatchBool test (step ≡ On f) ((read : Option Item) × Reads line read × (step ≡ step_read f read)) →
          MatchBool test (Follows plant f (number + 1) more outcome)
          ((read : Option Item) × Reads line read × OnRead plant f number (λ next. Follows plant next (number + 1) more outcome) outcome read)
      by true same = blank same
      by false told = (told.0, told.1, other told.0 told.2)

  pub line-goes : (next : Follower) (outcome : Outcome) → length line ≤ longest_line → IsStepOf f line step → Made plant f step next →
      Follows plant next (number + 1) more outcome → Follows plant f number (line ∷ more) outcome
  line-goes next outcome short is made rest =
      of-line outcome short is
      (λ same. let here : next ≡ f = subst (λ s. Made plant f s next) same made in subst (λ x. Follows plant x (number + 1) more outcome) here rest)
      (λ read same. goes-read plant f number (λ x. Follows plant x (number + 1) more outcome) outcome next read (subst (λ s. Made plant f s next) same made) rest)

  pub line-fault : length line ≤ longest_line → IsStepOf f line step → IsAtFault plant f step → Follows plant f number (line ∷ more) (BadLine number f)
  line-fault short is fault =
      of-line (BadLine number f) short is
      (λ same. absurd (subst (IsAtFault plant f) same fault))
      (λ read same. fault-read plant f number (λ x. Follows plant x (number + 1) more (BadLine number f)) read (subst (IsAtFault plant f) same fault))

  pub line-late : (have found : ℕ) → length line ≤ longest_line → IsStepOf f line step → step ≡ Gap have found → Follows plant f number (line ∷ more) (Late have found f)
  line-late have found short is late =
      of-line (Late have found f) short is
      (λ same. let clash : On f ≡ Gap have found = sym same ∙ late in absurd cc)
      (λ read same. late-read plant f number (λ x. Follows plant x (number + 1) more (Late have found f)) have found read (sym same ∙ late))

pub line-long : (plant : List Actuator) (f : Follower) (line : List ℕ) (number : ℕ) (more : List (List ℕ)) → longest_line < length line →
    Follows plant f number (line ∷ more) (TooLong f)
line-long plant f line number more long = if-false (nat_le (length line) longest_line) _ _ (is-long line long) refl

-- ---- lines one after another

-- The lines lead here: what follows of any further ones from here on follows of all from the start.
abbrev pub Reaches : List Actuator → Follower → List (List ℕ) → Follower → Type 0
Reaches plant start given now = (number : ℕ) (more : List (List ℕ)) (outcome : Outcome) → number ≡ length given + 1 → Follows plant now number more outcome →
    Follows plant start 1 (given ++ more) outcome

pub reaches-nothing : (plant : List Actuator) (start : Follower) → Reaches plant start [] start
reaches-nothing plant start number more outcome is follows = subst (λ n. Follows plant start n more outcome) is follows

behind : (given more : List (List ℕ)) (line : List ℕ) → given ++ line ∷ more ≡ (given ++ line ∷ []) ++ more
behind given more line = sym (append_assoc given (line ∷ []) more)

module _ (plant : List Actuator) (start : Follower) (given : List (List ℕ)) (now : Follower) (reaches : Reaches plant start given now) where
  pub reaches-next : (line : List ℕ) (step : Step) (next : Follower) → length line ≤ longest_line → IsStepOf now line step → Made plant now step next →
      Reaches plant start (given ++ line ∷ []) next
  reaches-next line step next short is made number more outcome at follows =
      let one : number ≡ (length given + 1) + 1 = omega (arith, at, length-append given (line ∷ [])) in
      subst (λ ls. Follows plant start 1 ls outcome) (behind given more line)
      (reaches (length given + 1) (line ∷ more) outcome refl
      (line-goes plant now line step (length given + 1) more next outcome short is made (subst (λ n. Follows plant next n more outcome) one follows)))

  pub reaches-through : Follows plant start 1 given (Through now)
  reaches-through = subst (λ ls. Follows plant start 1 ls (Through now)) (append-nil given) (reaches (length given + 1) [] (Through now) refl refl)

-- ---- the step of a line

pub blank-step : (f : Follower) (line : List ℕ) (step : Step) → is_blank line ≡ true → step ≡ On f → IsStepOf f line step
blank-step f line step blank is = if-true (is_blank line) (step ≡ On f) _ blank is

pub other-step : (f : Follower) (line : List ℕ) (step : Step) (read : Option Item) → is_blank line ≡ false → Reads line read → step ≡ step_read f read → IsStepOf f line step
other-step f line step read other reads is = if-false (is_blank line) (step ≡ On f) _ other (read, reads, is)

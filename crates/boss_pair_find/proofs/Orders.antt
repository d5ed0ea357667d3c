-- What is said of a first disk and a second, said of the one in force and the other.
use Rattle.std.proofs.Common.{◌≡◌, Bool, true, false, List, ℕ, refl, sym, ap, subst, ◌∙◌}
use Rattle.boss_disk.specs.declared.disk.Disk as disk
use Rattle.boss_disk.specs.Story.{Story}
use Rattle.boss_pair_find.specs.Holds.{OfOneInForce}
use Rattle.boss_pair_find.specs.Finds.{IsAtFirst}
use Rattle.boss_pair_find.specs.Two.{counts, two}
use Rattle.boss_journal.specs.declared.journal.Journal.{Journal}
use Rattle.def_disk_pair.specs.Pairs.{OfThatInForce}
use Rattle.boss_disk_pair.specs.declared.two_disks.TwoDisks.{TwoDisks}
use Rattle.boss_disk_pair.specs.Causes.{first_disk, second_disk}
use Rattle.boss_disk_pair.specs.Orders.{InOrder, first_of, second_of, stories_of}
use Rattle.boss_disk_pair.specs.Rests.{IsInForce}

-- the same of others that are the same
pub at_both : {X : Type 0} (P : X → X → Type 0) (a b x y : X) → a ≡ x → b ≡ y → P a b → P x y
at_both P a b x y one other p = subst (λ z. P x z) other (subst (λ z. P z b) one p)

module _ {X Y : Type 0} (f : X → Y) (P : Y → Y → Type 0) where
  pub into_order : (second : Bool) (active spare : X) → P (f (first_of second active spare)) (f (second_of second active spare)) → InOrder P second (f active) (f spare)
  into_order false active spare p = p
  into_order true active spare p = p

  pub out_of_order : (second : Bool) (active spare : X) → InOrder P second (f active) (f spare) → P (f (first_of second active spare)) (f (second_of second active spare))
  out_of_order false active spare p = p
  out_of_order true active spare p = p

-- something said of both
pub both_in_order : {X : Type 0} (Q : X → Type 0) (second : Bool) (active spare : X) → Q (first_of second active spare) → Q (second_of second active spare)
    → Q active × Q spare
both_in_order Q false active spare one other = (one, other)
both_in_order Q true active spare one other = (other, one)

pub stories_are : {X : Type 0} (story : X → Story) (second : Bool) (active spare : X)
    → stories_of second (story active) (story spare) ≡ two (story (first_of second active spare)) (story (second_of second active spare))
stories_are story false active spare = refl
stories_are story true active spare = refl

-- what is said of the one that is in force
module _ {X : Type 0} (reads : X → List ℕ) (P : List ℕ → Type 0) where
  pub of_one : (second : Bool) (active spare : X) → InOrder (IsInForce second) second (reads active) (reads spare) → P (reads active)
      → OfOneInForce P (reads (first_of second active spare)) (reads (second_of second active spare))
  of_one false active spare is p = subst (λ i. OfThatInForce P (λ bytes. ⊥) i (reads active) (reads spare)) (sym is) p
  of_one true active spare is p = subst (λ i. OfThatInForce P (λ bytes. ⊥) i (reads spare) (reads active)) (sym is) p

-- where the one in force stays as it was, the first does and the second
module _ {X Y : Type 0} (f : X → Y) (now was spare : X) (same : f now ≡ f was) where
  pub first_stays : (second : Bool) → f (first_of second now spare) ≡ f (first_of second was spare)
  first_stays false = same
  first_stays true = refl

  pub second_stays : (second : Bool) → f (second_of second now spare) ≡ f (second_of second was spare)
  second_stays false = refl
  second_stays true = same

-- two in order, and again
module _ {X : Type 0} (second : Bool) (first other active spare : X) (one : active ≡ first_of second first other) (two_is : spare ≡ second_of second first other) where
  again_first : (b : Bool) → first_of b (first_of b first other) (second_of b first other) ≡ first
  again_first false = refl
  again_first true = refl

  again_second : (b : Bool) → second_of b (first_of b first other) (second_of b first other) ≡ other
  again_second false = refl
  again_second true = refl

  pub first_again : first_of second active spare ≡ first
  first_again = ap (λ x. first_of second x spare) one ∙ ap (λ y. first_of second (first_of second first other) y) two_is ∙ again_first second

  pub second_again : second_of second active spare ≡ other
  second_again = ap (λ x. second_of second x spare) one ∙ ap (λ y. second_of second (first_of second first other) y) two_is ∙ again_second second

pub place_of : {D : Type 0} {g : disk.Ghosts D} (one other : Journal D g) → one ≡ other → one.place ≡ other.place
place_of {D} {g} one other same = ap (λ (j : Journal D g). j.place) same

-- the disks of a pair, by its parts
module _ {D : Type 0} {g : disk.Ghosts D} (pair : TwoDisks D g) (second : Bool) (journal : Journal D g) (spare : D) (order : pair.second ≡ second)
    (one : pair.journal ≡ journal) (other : pair.spare ≡ spare) where
  pub begun_first : first_disk pair ≡ first_of second journal.disk spare
  begun_first =
      ap (λ b. first_of b pair.journal.disk pair.spare) order ∙ ap (λ (j : Journal D g). first_of second j.disk pair.spare) one
      ∙ ap (λ held. first_of second journal.disk held) other

  pub begun_second : second_disk pair ≡ second_of second journal.disk spare
  begun_second =
      ap (λ b. second_of b pair.journal.disk pair.spare) order ∙ ap (λ (j : Journal D g). second_of second j.disk pair.spare) one
      ∙ ap (λ held. second_of second journal.disk held) other

  -- what a journal's disk has of what it was, the pair has of its disks
  pub first_as : {X : Type 0} (f : D → X) (was : D) → f journal.disk ≡ f was → f (first_disk pair) ≡ f (first_of second was spare)
  first_as f was same = ap f begun_first ∙ first_stays f journal.disk was spare same second

  pub second_as : {X : Type 0} (f : D → X) (was : D) → f journal.disk ≡ f was → f (second_disk pair) ≡ f (second_of second was spare)
  second_as f was same = ap f begun_second ∙ second_stays f journal.disk was spare same second

  pub counts_as : (f : D → ℕ) (was : D) → f journal.disk ≡ f was →
      counts (f (first_disk pair)) (f (second_disk pair)) ≡ counts (f (first_of second was spare)) (f (second_of second was spare))
  counts_as f was same = ap (λ n. counts n (f (second_disk pair))) (first_as f was same) ∙ ap (counts (f (first_of second was spare))) (second_as f was same)

  -- it is at its first gate
  pub begun_at : (digest : List ℕ) → pair.digest ≡ digest → pair.stopped ≡ false → journal.first ≡ journal.place → IsAtFirst digest pair
  begun_at digest same going here = record {
    catalogue = same;
    going = going;
    gate = ap (λ (j : Journal D g). j.place) one ∙ sym here ∙ sym (ap (λ (j : Journal D g). j.first) one);
  }

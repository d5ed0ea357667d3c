-- Notices that are read one by one and numbered.
use Rattle.std.proofs.Common.{◌≡◌, ℕ, zero, suc, ◌+◌, ◌-◌, ◌<◌, ◌≤◌, true, false, cond, nat_le, List, [], ◌∷◌, ◌++◌, length, Option, Some, None, refl, sym, ap, ◌∙◌, append_assoc, append-nil, arith}
use Rattle.std.specs.Prelude.{IfSome}
use Rattle.std.specs.Int.{w16, w64}
use Rattle.std.proofs.lemmas.Bool.Decides.{nat_tests}
use Rattle.def_bytes.specs.Fields.{◌>>=◌, number, second_at, if_passes, counted, next_items, items_at}
use Rattle.boss_model.specs.declared.notice.Notice.{Notice}
use Rattle.boss_model.specs.declared.notice.What.{What}
use Rattle.boss_model.specs.Limits.{notices_kept}
use Rattle.def_bytes.specs.States.{told, numbered_from, first_of_last, are_sent}
use Rattle.boss_records.proofs.Items.{with_front}
use Rattle.boss_records.specs.declared.unread.Unread.{Unread}
use Rattle.boss_records.specs.declared.unread.Unread.TheVariants as unread
use Rattle.boss_records.specs.Given.{Misses}
use Rattle.boss_snapshot.specs.Numbered.{numbered, sent_at}

abbrev pub notice : ℕ → ℕ × (ℕ × What) → Notice
notice n x = record { number = n; at = x.0; txn = x.1.0; what = x.1.1 }

front_notice : (front : List Notice) (n : ℕ) (x : ℕ × (ℕ × What)) (found : Option (List (ℕ × (ℕ × What)) × List ℕ)) →
    with_front front (numbered n (found >>= next_items x)) ≡ with_front (front ++ notice n x ∷ []) (numbered (n + 1) found)
front_notice front n x None = refl
front_notice front n x (Some found) = ap (λ xs. Some (xs, found.1)) (sym (append_assoc front (notice n x ∷ []) (numbered_from (n + 1) found.0)))

pub notice_more : (front : List Notice) (n : ℕ) (bytes rest : List ℕ) (x : ℕ × (ℕ × What)) (count left : ℕ) → told.at bytes ≡ Some (x, rest)
    → count ≡ suc left → with_front front (numbered n (items_at told count bytes)) ≡ with_front (front ++ notice n x ∷ []) (numbered (n + 1) (items_at told left rest))
notice_more front n bytes rest x count left is one =
    ap (λ k. with_front front (numbered n (items_at told k bytes))) one
    ∙ ap (λ found. with_front front (numbered n (found >>= λ y. items_at told left y.1 >>= next_items y.0))) is
    ∙ front_notice front n x (items_at told left rest)

no_notice : (front : List Notice) (n : ℕ) (bytes : List ℕ) (count left : ℕ) → told.at bytes ≡ None → count ≡ suc left
    → with_front front (numbered n (items_at told count bytes)) ≡ None
no_notice front n bytes count left is one =
    ap (λ k. with_front front (numbered n (items_at told k bytes))) one
    ∙ ap (λ found. with_front front (numbered n (found >>= λ y. items_at told left y.1 >>= next_items y.0))) is

-- where a notice is not read, neither are all
pub notices_end : (e : Unread) (front : List Notice) (n : ℕ) (bytes : List ℕ) (count left : ℕ) (whole : Option (List Notice × List ℕ))
    → Misses e (told.at bytes) → count ≡ suc left → with_front front (numbered n (items_at told count bytes)) ≡ whole → Misses e whole
notices_end unread.NoSpelling front n bytes count left whole none one is = sym is ∙ no_notice front n bytes count left none one
notices_end unread.NoMemory front n bytes count left whole none one is = tt

pub all_notices : (front : List Notice) (n : ℕ) (bytes : List ℕ) (count : ℕ) → count ≡ 0
    → with_front front (numbered n (items_at told count bytes)) ≡ Some (front, bytes)
all_notices front n bytes count none = ap (λ k. with_front front (numbered n (items_at told k bytes))) none ∙ ap (λ xs. Some (xs, bytes)) (append-nil front)

-- ---- how many were read

next_many : (n : ℕ) (x : ℕ × (ℕ × What)) (found : Option (List (ℕ × (ℕ × What)) × List ℕ)) → IfSome found (λ y. length y.0 ≡ n)
    → IfSome (found >>= next_items x) (λ y. length y.0 ≡ suc n)
next_many n x None many = tt
next_many n x (Some found) many = ap suc many

step_many : (n : ℕ) → ((bytes : List ℕ) → IfSome (items_at told n bytes) (λ y. length y.0 ≡ n)) → (o : Option ((ℕ × (ℕ × What)) × List ℕ))
    → IfSome (o >>= λ x. items_at told n x.1 >>= next_items x.0) (λ y. length y.0 ≡ suc n)
step_many n each None = tt
step_many n each (Some x) = next_many n x.0 (items_at told n x.1) (each x.1)

pub so_many : (n : ℕ) (bytes : List ℕ) → IfSome (items_at told n bytes) (λ y. length y.0 ≡ n)
so_many zero bytes = refl
so_many (suc n) bytes = step_many n (so_many n) (told.at bytes)

-- ---- the number so far, and the last of them

abbrev numbers : (ℕ × List (ℕ × (ℕ × What))) × List ℕ → Option ((ℕ × List Notice) × List ℕ)
numbers x = Some ((x.0.0, numbered_from (first_of_last x.0.0 (length x.0.1)) x.0.1), x.1)

abbrev with_count : ℕ → Option (List (ℕ × (ℕ × What)) × List ℕ) → Option ((ℕ × List (ℕ × (ℕ × What))) × List ℕ)
with_count count found = found >>= λ y. Some ((count, y.0), y.1)

module _ (bytes behind rest : List ℕ) (count many : ℕ) (first : (number w64).at bytes ≡ Some (count, behind)) (second : (number w16).at behind ≡ Some (many, rest)) where
  parts : sent_at bytes ≡ with_count count (cond (nat_le many notices_kept) (items_at told many rest) None) >>= if_passes are_sent >>= numbers
  parts =
      ap (λ (o : Option (ℕ × List ℕ)). o >>= second_at (counted (number w16) notices_kept told) >>= if_passes are_sent >>= numbers) first
      ∙ ap (λ (o : Option (ℕ × List ℕ)). with_count count (o >>= λ n. cond (nat_le n.0 notices_kept) (items_at told n.0 n.1) None) >>= if_passes are_sent >>= numbers) second

  pub too_many : notices_kept < many → sent_at bytes ≡ None
  too_many above =
      let no : nat_le many notices_kept ≡ false = grind (arith, nat_tests) in
      parts ∙ ap (λ b. with_count count (cond b (items_at told many rest) None) >>= if_passes are_sent >>= numbers) no

  kept_few : many ≤ notices_kept → sent_at bytes ≡ with_count count (items_at told many rest) >>= if_passes are_sent >>= numbers
  kept_few few =
      let yes : nat_le many notices_kept ≡ true = grind (arith, nat_tests) in
      parts ∙ ap (λ b. with_count count (cond b (items_at told many rest) None) >>= if_passes are_sent >>= numbers) yes

  none_sent : count < many → (found : Option (List (ℕ × (ℕ × What)) × List ℕ)) → IfSome found (λ y. length y.0 ≡ many)
      → (with_count count found >>= if_passes are_sent >>= numbers) ≡ None
  none_sent fewer None long = refl
  none_sent fewer (Some found) long =
      let no : nat_le (length found.0) count ≡ false = grind (arith, nat_tests) in
      ap (λ b. cond b (Some ((count, found.0), found.1)) None >>= numbers) no

  pub more_than_sent : many ≤ notices_kept → count < many → sent_at bytes ≡ None
  more_than_sent few fewer = kept_few few ∙ none_sent fewer (items_at told many rest) (so_many many rest)

  some_sent : (before : ℕ) → before + many ≡ count → (found : Option (List (ℕ × (ℕ × What)) × List ℕ)) → IfSome found (λ y. length y.0 ≡ many)
      → (with_count count found >>= if_passes are_sent >>= numbers)
      ≡ (numbered (before + 1) found >>= λ y. Some ((count, y.0), y.1))
  some_sent before all None long = refl
  some_sent before all (Some found) long =
      let yes : nat_le (length found.0) count ≡ true = grind (arith, nat_tests) in
      let from : count + 1 - length found.0 ≡ before + 1 = omega (arith, long) in
      ap (λ b. cond b (Some ((count, found.0), found.1)) None >>= numbers) yes
      ∙ ap (λ k. Some ((count, numbered_from k found.0), found.1)) from

  pub sent_are : many ≤ notices_kept → (before : ℕ) → before + many ≡ count → sent_at bytes ≡ (numbered (before + 1) (items_at told many rest) >>= λ y. Some ((count, y.0), y.1))
  sent_are few before all = kept_few few ∙ some_sent before all (items_at told many rest) (so_many many rest)

  pub sent_missed : many ≤ notices_kept → (before : ℕ) → before + many ≡ count → (e : Unread) → Misses e (numbered (before + 1) (items_at told many rest)) → Misses e (sent_at bytes)
  sent_missed few before all unread.NoSpelling none = sent_are few before all ∙ ap (λ found. found >>= λ y. Some ((count, y.0), y.1)) none
  sent_missed few before all unread.NoMemory none = tt

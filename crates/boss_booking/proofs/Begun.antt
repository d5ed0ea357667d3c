-- The record of a new transaction may be begun before what is told of others: it stands behind theirs all the same.
use Rattle.std.proofs.Common.{◌≡◌, ℕ, ◌-◌, ◌==◌, List, [], ◌∷◌, ◌++◌, length, Bool, true, false, not, ◌&&◌, ◌||◌, cond, Option, Some, None, refl, ap, sym, ◌∙◌, subst, ⊎_elim, arith}
use Rattle.std.specs.Prelude.{option_and_then}
use Rattle.std.specs.Option.{option_map_or}
use Rattle.std.specs.List.{fold, list_any, AllByRecursion}
use Rattle.std.proofs.lemmas.Bool.{cases_Bool}
use Rattle.std.proofs.lemmas.Bool.Decides.{nat_tests}
use Rattle.boss_model.specs.declared.notice.What.{What}
use Rattle.boss_model.specs.declared.notice.What.TheVariants as what
use Rattle.boss_model.specs.Lists.{member}
use Rattle.boss_model.specs.State.{Process}
use Rattle.boss_model.proofs.Members.{member-append, member-drop}
use Rattle.boss_stages.specs.Stages.{Tracked, Stages, number, kept_as, is_over, changed, without, dropped, finished, finished_if_over, part_end, part_on}
use Rattle.law_time.proofs.Filters.{filter-append}
use Rattle.boss_booking.specs.Books.{Telling, after_what, is_end, told_with_done, booked}
use Rattle.boss_booking.specs.Gathered.{with_begun, books_with, CanTell, CanBook}
use Rattle.boss_booking.proofs.Staging.{member-take}
use Rattle.boss_booking.proofs.Tellings.{turn, after-end, after-other}

module _ (k : Tracked) where
  kept_as-begun : (txn : ℕ) (ks : List Tracked) → (number k == txn) ≡ false → kept_as txn (ks ++ k ∷ []) ≡ kept_as txn ks
  kept_as-begun txn [] apart = ap (λ b. cond b (Some k) None) apart
  kept_as-begun txn (x ∷ xs) apart = ap (λ f. cond (number x == txn) (Some x) f) (kept_as-begun txn xs apart)

  changed-begun : (txn : ℕ) (change : Tracked → Tracked) (ks : List Tracked) → (number k == txn) ≡ false → changed txn change (ks ++ k ∷ []) ≡ changed txn change ks ++ k ∷ []
  changed-begun txn change [] apart = ap (λ b. cond b (change k) k ∷ []) apart
  changed-begun txn change (x ∷ xs) apart = ap (λ ys. cond (number x == txn) (change x) x ∷ ys) (changed-begun txn change xs apart)

  without-begun : (out : List ℕ) (ks : List Tracked) → member (number k) out ≡ false → without out (ks ++ k ∷ []) ≡ without out ks ++ k ∷ []
  without-begun out ks stays = filter-append (λ x. not (member (number x) out)) ks (k ∷ []) ∙ ap (λ b. without out ks ++ cond (not b) (k ∷ []) []) stays

  -- it is not among the done, before and after
  record IsBegun (s s2 : Stages) : Type 0 where
    same : s2 ≡ with_begun k s
    fresh : member (number k) s.done ≡ false

  not_last : (txn : ℕ) (done : List ℕ) → (number k == txn) ≡ false → member (number k) done ≡ false → member (number k) (done ++ txn ∷ []) ≡ false
  not_last txn done apart fresh = member-append (number k) done (txn ∷ []) ∙ (λ i. fresh i || (turned i || false))
    where
      turned : (txn == number k) ≡ false
      turned = grind (arith, nat_tests)

  finished-begun : (txn : ℕ) (s : Stages) → (number k == txn) ≡ false → member (number k) s.done ≡ false → IsBegun (finished_if_over txn s) (finished_if_over txn (with_begun k s))
  finished-begun txn s apart fresh =
      let all = s.done ++ txn ∷ [] in
      let none : member (number k) all ≡ false = not_last txn s.done apart fresh in
      let alike : is_over (kept_as txn (s.kept ++ k ∷ [])) ≡ is_over (kept_as txn s.kept) = ap is_over (kept_as-begun txn s.kept apart) in
      ⊎_elim
      (λ over. record {
        same = ap (λ b. cond b (finished txn (with_begun k s)) (with_begun k s)) (alike ∙ over)
            ∙ (λ i. record { kept = without-begun (dropped all) s.kept (member-take (number k) (length all - 1024) all none) i; done = (finished txn s).done; room = s.room })
            ∙ sym (ap (λ b. with_begun k (cond b (finished txn s) s)) over);
        fresh = ap (λ b. member (number k) (cond b (finished txn s) s).done) over ∙ member-drop (number k) (length all - 1024) all none;
      })
      (λ runs. record {
        same = ap (λ b. cond b (finished txn (with_begun k s)) (with_begun k s)) (alike ∙ runs) ∙ sym (ap (λ b. with_begun k (cond b (finished txn s) s)) runs);
        fresh = ap (λ b. member (number k) (cond b (finished txn s) s).done) runs ∙ fresh;
      })
      (cases_Bool (is_over (kept_as txn s.kept)))

  after-begun : (told : Option What) (txn at : ℕ) (reverts : Bool) (s : Stages) → (is_end told ≡ true → (number k == txn) ≡ false) → member (number k) s.done ≡ false →
      IsBegun (after_what txn at reverts told s) (after_what txn at reverts told (with_begun k s))
  after-begun told txn at reverts s apart fresh = ⊎_elim
      (λ end.
      let s1 : Stages = record s { kept = changed txn (turn told at reverts) s.kept } in
      let step = finished-begun txn s1 (apart end) fresh in
      let before : after_what txn at reverts told s ≡ finished_if_over txn s1 = after-end told txn at reverts s end in
      record {
        same = after-end told txn at reverts (with_begun k s) end
            ∙ ap (λ xs. finished_if_over txn (record s { kept = xs })) (changed-begun txn (turn told at reverts) s.kept (apart end))
            ∙ step.same ∙ ap (with_begun k) (sym before);
        fresh = ap (λ x. member (number k) x.done) before ∙ step.fresh;
      })
      (λ other. record {
        same = after-other told txn at reverts (with_begun k s) other ∙ ap (with_begun k) (sym (after-other told txn at reverts s other));
        fresh = ap (λ x. member (number k) x.done) (after-other told txn at reverts s other) ∙ fresh;
      })
      (cases_Bool (is_end told))

  -- nothing ends of the new transaction
  abbrev pub IsOther : Telling → Type 0
  IsOther e = is_end e.happening.told ≡ true → (number k == e.happening.txn) ≡ false

  booked-begun : (e : Telling) (s : Stages) (ps : List Process) → IsOther e → member (number k) s.done ≡ false →
      booked (record { stages = with_begun k s; processes = ps }) e ≡ books_with k (booked (record { stages = s; processes = ps }) e)
  booked-begun e s ps other fresh =
      let h = e.happening in
      let step = after-begun h.told h.txn h.at e.reverts s other fresh in
      let after = after_what h.txn h.at e.reverts h.told s in
      let said : (is_end h.told && is_over (kept_as h.txn (after_what h.txn h.at e.reverts h.told (with_begun k s)).kept)) ≡ (is_end h.told && is_over (kept_as h.txn after.kept)) =
      ap (λ x. is_end h.told && is_over (kept_as h.txn x.kept)) step.same ∙ ⊎_elim
      (λ end. ap (λ f. is_end h.told && is_over f) (kept_as-begun h.txn after.kept (other end)))
      (λ quiet. ap (λ b. b && is_over (kept_as h.txn (after.kept ++ k ∷ []))) quiet ∙ sym (ap (λ b. b && is_over (kept_as h.txn after.kept)) quiet))
      (cases_Bool (is_end h.told)) in
      λ i. record { stages = step.same i; processes = told_with_done (said i) ps h }

  pub begun-first : (es : List Telling) (s : Stages) (ps : List Process) → AllByRecursion IsOther es → member (number k) s.done ≡ false →
      fold booked (record { stages = with_begun k s; processes = ps }) es ≡ books_with k (fold booked (record { stages = s; processes = ps }) es)
  begun-first [] s ps others fresh = refl
  begun-first (e ∷ es) s ps others fresh =
      let h = e.happening in
      let next = booked (record { stages = s; processes = ps }) e in
      ap (λ b. fold booked b es) (booked-begun e s ps others.0 fresh)
      ∙ begun-first es next.stages next.processes others.1 (after-begun h.told h.txn h.at e.reverts s others.0 fresh).fresh

  can-tell : (told : Option What) (txn : ℕ) (s : Stages) → (is_end told ≡ true → (number k == txn) ≡ false) → CanTell txn told s → CanTell txn told (with_begun k s)
  can-tell None txn s apart can = tt
  can-tell (Some (what.Fault point)) txn s apart can = tt
  can-tell (Some (what.Ended point why)) txn s apart can = ap (λ f. part_end (option_and_then (λ (x : Tracked). part_on point x.transaction.parts) f)) (kept_as-begun txn s.kept (apart refl)) ∙ can
  can-tell (Some (what.Reverted point)) txn s apart can = ap (λ f. option_map_or (λ (x : Tracked). list_any (λ other. other == point) x.reverting) f false) (kept_as-begun txn s.kept (apart refl)) ∙ can
  can-tell (Some (what.Cut point by)) txn s apart can = ap (λ f. option_map_or (λ (x : Tracked). list_any (λ other. other == point) x.reverting) f false) (kept_as-begun txn s.kept (apart refl)) ∙ can
  can-tell (Some what.Done) txn s apart can = tt

  pub can-begun : (es : List Telling) (s : Stages) (ps : List Process) → AllByRecursion IsOther es → member (number k) s.done ≡ false →
      CanBook (record { stages = s; processes = ps }) es → CanBook (record { stages = with_begun k s; processes = ps }) es
  can-begun [] s ps others fresh can = tt
  can-begun (e ∷ es) s ps others fresh can =
      let h = e.happening in
      let next = booked (record { stages = s; processes = ps }) e in (
        can-tell h.told h.txn s others.0 can.0,
        subst (λ b. CanBook b es) (sym (booked-begun e s ps others.0 fresh))
            (can-begun es next.stages next.processes others.1 (after-begun h.told h.txn h.at e.reverts s others.0 fresh).fresh can.1),
      )

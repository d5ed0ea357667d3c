-- What is written behind byte 0 leaves it.
use Rattle.std.proofs.Common.{◌≡◌, ℕ, ◌+◌, ◌≤◌, List, [], ◌∷◌, ◌++◌, length, take, drop, Result, sym, ap, ◌∙◌, append_assoc, append-nil, length-append, arith}
use Rattle.std.proofs.lemmas.List.{take_all, drop_all}
use Rattle.boss_disk.specs.Fronts.{KeepsFront}
use Rattle.boss_disk.specs.Story.{Story, Steps}
use Rattle.boss_disk.specs.Window.{after_write, overwritten}
use Rattle.boss_disk.proofs.Fronts.{front_written}
use Rattle.boss_disk.proofs.Runs.{stands, tries_on, then_through}
use Rattle.boss_snapshot.specs.Drafts.{Goes}

-- a write at the end
pub written_behind : (held now bytes : List ℕ) (end : ℕ) → end ≡ length held → now ≡ overwritten end bytes held → now ≡ held ++ bytes
written_behind held now bytes end here over =
    let head : take end held ≡ held = take_all end held (omega (arith, here)) in
    let back : drop (end + length bytes) held ≡ [] = drop_all (end + length bytes) held (omega (arith, here)) in
    over ∙ ap (λ h. h ++ bytes ++ drop (end + length bytes) held) head ∙ ap (λ d. held ++ bytes ++ d) back ∙ append-nil (held ++ bytes)

pub end_behind : (held now bytes : List ℕ) (end : ℕ) → end ≡ length held → now ≡ overwritten end bytes held → end + length bytes ≡ length now
end_behind held now bytes end here over =
    let all = written_behind held now bytes end here over in
    let long : length now ≡ length held + length bytes = ap length all ∙ length-append held bytes in
    omega (arith, long, here)

pub goes_on : {T E : Type 0} (at count : ℕ) (old new : Story) (result : Result T E) → 1 ≤ at
    → Steps (after_write at count old.window) (after_write at count old.window) old new result → Goes old new
goes_on {T} {E} at count old new result behind step = record {
  run = λ zero.
      let next : KeepsFront (0 ∷ []) (after_write at count old.window) = front_written (0 ∷ []) at count old.window zero behind in
      tries_on {Q = KeepsFront (0 ∷ [])} old old new result (stands {Q = KeepsFront (0 ∷ [])} old zero) step next next;
}

pub goes_still : (story : Story) → Goes story story
goes_still story = record { run = λ zero. stands {Q = KeepsFront (0 ∷ [])} story zero }

pub then_goes : (old mid new : Story) → Goes old mid → Goes mid new → Goes old new
then_goes old mid new one two = record {
  run = λ zero.
      let first = one.run zero in
      then_through {Q = KeepsFront (0 ∷ [])} old mid new first (two.run first.last);
}

-- what was added so far, and one part more
pub adds_more : (old mid new done one all : List ℕ) → mid ≡ old ++ done → new ≡ mid ++ one → all ≡ done ++ one → new ≡ old ++ all
adds_more old mid new done one all first second whole =
    second ∙ ap (λ l. l ++ one) first ∙ append_assoc old done one ∙ ap (λ l. old ++ l) (sym whole)

use Rattle.std.proofs.Common.{◌≡◌, ℕ, ◌+◌, ◌^◌, ◌≤◌, Result, Ok, Err, OnOk, false, is_err, List, [], ◌∷◌, ◌++◌, length, map, take, drop, Some, sym, ◌∙◌, ap, subst, refl, arith}
use Rattle.std.specs.List.{fold}
use Rattle.std.proofs.lemmas.List.{take_all, drop_all}
use Rattle.std.proofs.lemmas.List.Sums.{fold_push}
use Rattle.boss_disk.specs.declared.memory.DiskCall.{DiskCall}
use Rattle.boss_disk.specs.declared.memory.DiskCall.TheVariants.{Sync, WriteWhole}
use Rattle.boss_disk.specs.Kept.{stays_after, IsKept}
use Rattle.boss_disk.specs.Record.{DiskState, fresh, after, bytes_after}
use Rattle.boss_disk.specs.Images.{length-overwritten}
use Rattle.boss_disk.specs.Window.{overwritten}

-- the bytes of a disk by its calls alone
bytes_along : (state : DiskState) (calls : List DiskCall) → (fold after state calls).bytes ≡ fold bytes_after state.bytes calls
bytes_along state [] = refl
bytes_along state (call ∷ calls) = bytes_along (after state call) calls

-- a call after which a crash leaves what is read, and nothing else
record Settles (call : DiskCall) : Type 0 where
  pub synced : (state : DiskState) → (after state call).synced ≡ bytes_after state.bytes call
  pub stays : (state : DiskState) → (after state call).story.window.stays ≡ map Some (bytes_after state.bytes call)

-- what is kept after such a call
kept_settled : (start bytes now : List ℕ) (calls : List DiskCall) (call : DiskCall) (count : ℕ) → Settles call → IsKept start bytes calls count
    → now ≡ bytes_after bytes call → length now ≤ 2 ^ 62 → IsKept start now (calls ++ call ∷ []) (length (calls ++ call ∷ []))
kept_settled start bytes now calls call count settles kept is fits =
    let before : DiskState = fold after (fresh start) calls in
    let all : List DiskCall = calls ++ call ∷ [] in
    let last : fold after (fresh start) (calls ++ call ∷ []) ≡ after (fold after (fresh start) calls) call =
    fold_push after (fresh start) calls call in
    let same : (fold after (fresh start) (calls ++ call ∷ [])).bytes ≡ bytes_after (fold after (fresh start) calls).bytes call =
    ap (λ (s : DiskState). s.bytes) last in
    let left : (fold after (fresh start) (calls ++ call ∷ [])).synced ≡ bytes_after (fold after (fresh start) calls).bytes call =
    ap (λ (s : DiskState). s.synced) last ∙ settles.synced (fold after (fresh start) calls) in
    let stays : (fold after (fresh start) (calls ++ call ∷ [])).story.window.stays ≡ map Some (bytes_after (fold after (fresh start) calls).bytes call) =
    ap (λ (s : DiskState). s.story.window.stays) last ∙ settles.stays (fold after (fresh start) calls) in
    let whole : take (length (calls ++ call ∷ [])) (calls ++ call ∷ []) ≡ calls ++ call ∷ [] = take_all (length (calls ++ call ∷ [])) (calls ++ call ∷ []) (omega arith) in
    let none : drop (length (calls ++ call ∷ [])) (calls ++ call ∷ []) ≡ [] = drop_all (length (calls ++ call ∷ [])) (calls ++ call ∷ []) (omega arith) in
    record {
      told = is ∙ ap (λ b. bytes_after b call) kept.told ∙ sym same;
      fits = fits;
      within = omega arith;
      synced = left ∙ sym same ∙ bytes_along (fresh start) (calls ++ call ∷ []) ∙ ap (fold bytes_after start) (sym whole);
      stays = stays ∙ ap (map Some) (sym left)
          ∙ ap (fold stays_after (map Some (fold after (fresh start) (calls ++ call ∷ [])).synced)) (sym none);
    }

-- the same by what was noted
kept_noted : (start bytes now : List ℕ) (calls new : List DiskCall) (call : DiskCall) (before count : ℕ) → Settles call → IsKept start bytes calls before
    → now ≡ bytes_after bytes call → length now ≤ 2 ^ 62 → new ≡ calls ++ call ∷ [] → count ≡ length new → IsKept start now new count
kept_noted start bytes now calls new call before count settles kept over fits is many =
    subst (IsKept start now new) (sym many)
    (subst (λ list. IsKept start now list (length list)) (sym is) (kept_settled start bytes now calls call before settles kept over fits))

sync_settles : Settles Sync
sync_settles = record { synced = λ state. refl; stays = λ state. refl }

whole_settles : (at : ℕ) (bytes : List ℕ) → Settles (WriteWhole at bytes)
whole_settles at bytes = record { synced = λ state. refl; stays = λ state. refl }

pub kept_after_sync : (start bytes : List ℕ) (calls new : List DiskCall) (settled count : ℕ) → IsKept start bytes calls settled
    → new ≡ calls ++ Sync ∷ [] → count ≡ length new → IsKept start bytes new count
kept_after_sync start bytes calls new settled count kept is many =
    kept_noted start bytes bytes calls new Sync settled count sync_settles kept refl kept.fits is many

of_ok : {T E P : Type 0} (result : Result T E) → false ≡ is_err result → OnOk result P → P
of_ok (Ok x) is here = here
of_ok (Err e) is here = cc

pub kept_after_whole : {T E : Type 0} (start bytes now added : List ℕ) (at : ℕ) (calls new : List DiskCall) (settled count : ℕ) (result : Result T E)
    → IsKept start bytes calls settled → false ≡ is_err result → OnOk result (now ≡ overwritten at added bytes) → at + length added ≤ 2 ^ 62
    → new ≡ calls ++ WriteWhole at added ∷ [] → count ≡ length new → IsKept start now new count
kept_after_whole start bytes now added at calls new settled count result kept done over room is many =
    let put : now ≡ overwritten at added bytes = of_ok result done over in
    let size = length-overwritten at added bytes in
    let long : length now ≡ length (overwritten at added bytes) = ap length put in
    kept_noted start bytes now calls new (WriteWhole at added) settled count (whole_settles at added) kept put (omega (arith, kept.fits)) is many

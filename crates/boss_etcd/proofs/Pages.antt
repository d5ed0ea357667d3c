use Rattle.std.proofs.Common.{◌≡◌, ℕ, ◌+◌, ◌-◌, ◌*◌, ◌%◌, ◌≤◌, ◌<◌, ◌&&◌, ltb, Bool, true, false, if◌then◌else◌, ◌⊎◌, ⊎_elim, List, ◌++◌, length, take, drop, Option, Some, None, sym, ◌∙◌, ap, refl, arith, append_assoc, length-append, length-drop}
use Rattle.std.proofs.Math.Seq.{drop-append-add}
use Rattle.std.proofs.lemmas.Bool.{lt-ltb, le-ltb, le-leb, lt-leb, ltb-false, cases_lt}
use Rattle.std.proofs.lemmas.List.{length-take-le, take-take, take-append-le, drop-append-le, drop-take}
use Rattle.std.proofs.lemmas.Slice.{drop-append-drop}
use Rattle.boss_disk.specs.Images.{length-overwritten}
use Rattle.boss_disk.specs.Window.{overwritten}
use Rattle.boss_cluster.specs.Commits.{committed}
use Rattle.boss_etcd.specs.Heads.{dropped_of, next_length}
use Rattle.boss_etcd.specs.Pages.{after_puts, is_dropped, page_at}
use Rattle.boss_etcd.specs.Requests.{pages_of}

-- ---- pages of bytes

some_page : (bytes : List ℕ) (page : ℕ) → page < pages_of (length bytes) → page_at bytes page ≡ Some (take 1024 (drop (1024 * page) bytes))
some_page bytes page low =
    ap (λ (there : Bool). if there then Some (take 1024 (drop (1024 * page) bytes)) else None) (lt-ltb page (pages_of (length bytes)) low)

no_page : (bytes : List ℕ) (page : ℕ) → pages_of (length bytes) ≤ page → page_at bytes page ≡ None
no_page bytes page high =
    ap (λ (there : Bool). if there then Some (take 1024 (drop (1024 * page) bytes)) else None) (le-ltb page (pages_of (length bytes)) high)

-- a page below those that are put
below : (old rest : List ℕ) (at from : ℕ) → at ≤ length old → from + 1024 ≤ at → take 1024 (drop from (take at old ++ rest)) ≡ take 1024 (drop from old)
below old rest at from inside low =
    let whole : length (take at old) ≡ at = length-take-le at old inside in
    let left : length (drop from (take at old)) ≡ length (take at old) - from = length-drop from (take at old) in
    let split : at ≡ from + (at - from) = omega arith in
    ap (take 1024) (drop-append-le from (take at old) rest (omega arith))
    ∙ take-append-le 1024 (drop from (take at old)) rest (omega arith)
    ∙ ap (λ size. take 1024 (drop from (take size old))) split
    ∙ ap (take 1024) (drop-take from (at - from) old)
    ∙ take-take 1024 (at - from) (drop from old) (omega arith)

-- what stands behind the front that is kept
inside : (old rest : List ℕ) (at more : ℕ) → at ≤ length old → drop (at + more) (take at old ++ rest) ≡ drop more rest
inside old rest at more within =
    ap (λ size. drop (size + more) (take at old ++ rest)) (sym (length-take-le at old within)) ∙ drop-append-add (take at old) rest more

-- a whole page has nothing of what stands behind it
whole_page : (bytes rest : List ℕ) (from : ℕ) → from + 1024 ≤ length bytes → take 1024 (drop from (bytes ++ rest)) ≡ take 1024 (drop from bytes)
whole_page bytes rest from within =
    let left : length (drop from bytes) ≡ length bytes - from = length-drop from bytes in
    ap (take 1024) (drop-append-le from bytes rest (omega arith)) ∙ take-append-le 1024 (drop from bytes) rest (omega arith)

-- ---- the puts of a transaction

module _ (first : ℕ) (bytes : List ℕ) (dropped : Option ℕ) (store : ℕ → Option (List ℕ)) (page : ℕ) where
  abbrev chosen : Bool → Option (List ℕ)
  chosen test = if test then page_at bytes (page - first) else (if is_dropped dropped page then None else store page)

  is_put : first ≤ page → page < first + pages_of (length bytes) → after_puts first bytes dropped store page ≡ page_at bytes (page - first)
  is_put low high =
      ap chosen (ap (λ (b : Bool). b && ltb page (first + pages_of (length bytes))) (le-leb first page low)
      ∙ lt-ltb page (first + pages_of (length bytes)) high)

  is_before : page < first → after_puts first bytes dropped store page ≡ (if is_dropped dropped page then None else store page)
  is_before low = ap chosen (ap (λ (b : Bool). b && ltb page (first + pages_of (length bytes))) (lt-leb first page low))

  is_behind : first + pages_of (length bytes) ≤ page → after_puts first bytes dropped store page ≡ (if is_dropped dropped page then None else store page)
  is_behind high =
      ap chosen (ap (λ (b : Bool). b && ltb page (first + pages_of (length bytes))) (le-leb first page (omega arith))
      ∙ le-ltb page (first + pages_of (length bytes)) high)

-- no page below the end is dropped
not_dropped : (test : Bool) (from page : ℕ) → page < from → is_dropped (if test then Some from else None) page ≡ false
not_dropped true from page low = lt-leb from page low
not_dropped false from page low = refl

-- ---- a commit

sized : (old bytes : List ℕ) (at : ℕ) (last : Bool) → at ≤ length old → length (committed at bytes last old) ≡ next_length (length old) (at + length bytes) last
sized old bytes at true within =
    length-append (take at old) bytes ∙ ap (λ size. size + length bytes) (length-take-le at old within)
sized old bytes at false within = let size = length-overwritten at bytes old in omega arith

pub length_is : (old bytes : List ℕ) (at : ℕ) (last : Bool) → at ≤ length old
    → length (committed at bytes last old) ≡ next_length (length old) (at + length bytes) last
length_is = sized

module _ (old bytes : List ℕ) (first : ℕ) (there : 1024 * first ≤ length old) where
  abbrev at : ℕ
  at = 1024 * first

  abbrev end : ℕ
  end = 1024 * first + length bytes

  abbrev front : List ℕ
  front = take (1024 * first) old

  -- the front stays
  before : (rest : List ℕ) (last : Bool) (page : ℕ) → page < first → committed (1024 * first) bytes last old ≡ take (1024 * first) old ++ rest
      → after_puts first bytes (dropped_of (length old) (1024 * first + length bytes) last) (page_at old) page ≡ page_at (committed (1024 * first) bytes last old) page
  before rest last page low is =
      let size : length (take (1024 * first) old) ≡ 1024 * first = length-take-le (1024 * first) old there in
      let sum : length (take (1024 * first) old ++ rest) ≡ length (take (1024 * first) old) + length rest = length-append (take (1024 * first) old) rest in
      is_before first bytes (dropped_of (length old) end last) (page_at old) page low
      ∙ ap (λ (b : Bool). if b then None else page_at old page)
      (not_dropped (last && ltb (1024 * first + length bytes) (length old)) (pages_of (1024 * first + length bytes)) page (omega arith))
      ∙ some_page old page (omega arith)
      ∙ ap Some (sym (below old rest (1024 * first) (1024 * page) there (omega arith)))
      ∙ sym (some_page (take (1024 * first) old ++ rest) page (omega arith))
      ∙ ap (λ text. page_at text page) (sym is)

  -- the pages that are put
  put_last : (page : ℕ) → first ≤ page → page < first + pages_of (length bytes)
      → after_puts first bytes (dropped_of (length old) (1024 * first + length bytes) true) (page_at old) page ≡ page_at (take (1024 * first) old ++ bytes) page
  put_last page low high =
      let size : length (take (1024 * first) old) ≡ 1024 * first = length-take-le (1024 * first) old there in
      let sum : length (take (1024 * first) old ++ bytes) ≡ length (take (1024 * first) old) + length bytes = length-append (take (1024 * first) old) bytes in
      let place : 1024 * first + 1024 * (page - first) ≡ 1024 * page = omega arith in
      is_put first bytes (dropped_of (length old) end true) (page_at old) page low high
      ∙ some_page bytes (page - first) (omega arith)
      ∙ ap (λ text. Some (take 1024 text)) (sym (inside old bytes (1024 * first) (1024 * (page - first)) there)
      ∙ ap (λ from. drop from (take (1024 * first) old ++ bytes)) place)
      ∙ sym (some_page (take (1024 * first) old ++ bytes) page (omega arith))

  put_more : (rest : List ℕ) (page : ℕ) → first ≤ page → page < first + pages_of (length bytes) → length bytes % 1024 ≡ 0
      → after_puts first bytes None (page_at old) page ≡ page_at (take (1024 * first) old ++ (bytes ++ rest)) page
  put_more rest page low high whole =
      let size : length (take (1024 * first) old) ≡ 1024 * first = length-take-le (1024 * first) old there in
      let sum : length (take (1024 * first) old ++ (bytes ++ rest)) ≡ length (take (1024 * first) old) + length (bytes ++ rest) = length-append (take (1024 * first) old) (bytes ++ rest) in
      let more : length (bytes ++ rest) ≡ length bytes + length rest = length-append bytes rest in
      let place : 1024 * first + 1024 * (page - first) ≡ 1024 * page = omega arith in
      is_put first bytes None (page_at old) page low high
      ∙ some_page bytes (page - first) (omega arith)
      ∙ ap Some (sym (whole_page bytes rest (1024 * (page - first)) (omega arith)))
      ∙ ap (λ text. Some (take 1024 text)) (sym (inside old (bytes ++ rest) (1024 * first) (1024 * (page - first)) there)
      ∙ ap (λ from. drop from (take (1024 * first) old ++ (bytes ++ rest))) place)
      ∙ sym (some_page (take (1024 * first) old ++ (bytes ++ rest)) page (omega arith))

  -- those behind them
  gone : (test : Bool) (page : ℕ) → ltb (1024 * first + length bytes) (length old) ≡ test → first + pages_of (length bytes) ≤ page
      → (if is_dropped (if test then Some (pages_of (1024 * first + length bytes)) else None) page then None else page_at old page) ≡ None
  gone true page is high =
      ap (λ (b : Bool). if b then None else page_at old page) (le-leb (pages_of (1024 * first + length bytes)) page (omega arith))
  gone false page is high =
      let all : length old ≤ 1024 * first + length bytes = ltb-false (1024 * first + length bytes) (length old) is in no_page old page (omega arith)

  behind_last : (page : ℕ) → first + pages_of (length bytes) ≤ page
      → after_puts first bytes (dropped_of (length old) (1024 * first + length bytes) true) (page_at old) page ≡ page_at (take (1024 * first) old ++ bytes) page
  behind_last page high =
      let size : length (take (1024 * first) old) ≡ 1024 * first = length-take-le (1024 * first) old there in
      let sum : length (take (1024 * first) old ++ bytes) ≡ length (take (1024 * first) old) + length bytes = length-append (take (1024 * first) old) bytes in
      is_behind first bytes (dropped_of (length old) end true) (page_at old) page high
      ∙ gone (ltb (1024 * first + length bytes) (length old)) page refl high
      ∙ sym (no_page (take (1024 * first) old ++ bytes) page (omega arith))

  stays : (page : ℕ) → first + pages_of (length bytes) ≤ page → page_at old page ≡ page_at (overwritten (1024 * first) bytes old) page
  stays page high =
      let size = length-overwritten (1024 * first) bytes old in
      let kept : length (take (1024 * first) old) ≡ 1024 * first = length-take-le (1024 * first) old there in
      let sum : length (take (1024 * first) old ++ bytes) ≡ length (take (1024 * first) old) + length bytes = length-append (take (1024 * first) old) bytes in
      ⊎_elim
      (λ low.
      some_page old page low
      ∙ ap (λ text. Some (take 1024 text))
      (sym (drop-append-drop (1024 * first + length bytes) old (take (1024 * first) old ++ bytes) (1024 * page) (omega arith) (omega arith)))
      ∙ sym (some_page (overwritten (1024 * first) bytes old) page (omega (arith, low))))
      (λ none. no_page old page none ∙ sym (no_page (overwritten (1024 * first) bytes old) page (omega (arith, none))))
      (cases_lt page (pages_of (length old)))

pub pages_are : (old bytes : List ℕ) (first : ℕ) (last : Bool) → 1024 * first ≤ length old → (last ≡ false → length bytes % 1024 ≡ 0) → (page : ℕ)
    → after_puts first bytes (dropped_of (length old) (1024 * first + length bytes) last) (page_at old) page ≡ page_at (committed (1024 * first) bytes last old) page
pages_are old bytes first true there whole page =
    ⊎_elim (λ low. before old bytes first there bytes true page low refl)
    (λ high. ⊎_elim (λ within. put_last old bytes first there page high within) (λ behind. behind_last old bytes first there page behind)
    (cases_lt page (first + pages_of (length bytes))))
    (cases_lt page first)
pages_are old bytes first false there whole page =
    let rest : List ℕ = drop (1024 * first + length bytes) old in
    let is : take (1024 * first) old ++ bytes ++ drop (1024 * first + length bytes) old ≡ take (1024 * first) old ++ (bytes ++ drop (1024 * first + length bytes) old) =
    append_assoc (take (1024 * first) old) bytes (drop (1024 * first + length bytes) old) in
    ⊎_elim (λ low. before old bytes first there (bytes ++ rest) false page low is)
    (λ high. ⊎_elim (λ within. put_more old bytes first there rest page high within (whole refl) ∙ ap (λ text. page_at text page) (sym is))
    (λ behind. is_behind first bytes None (page_at old) page behind ∙ stays old bytes first there page behind)
    (cases_lt page (first + pages_of (length bytes))))
    (cases_lt page first)

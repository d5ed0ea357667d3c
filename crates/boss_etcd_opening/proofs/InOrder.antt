-- Pages one behind another, with one more.
use Rattle.std.proofs.Common.{◌≡◌, ℕ, ◌+◌, ◌<◌, List, [], ◌∷◌, ◌++◌, length, take, get_or, map, refl, sym, ◌∙◌, ap, subst}
use Rattle.std.proofs.lemmas.List.{take_more, map-append}
use Rattle.json.specs.Json.{Json}
use Rattle.boss_etcd_opening.specs.Answers.{ArePages, HasBytes, IsNext, IsPage}

pages_more : (name before between after : List ℕ) (pages : List Json) (page : Json) → ArePages name pages before between → IsPage name page between after →
    ArePages name (pages ++ page ∷ []) before after
pages_more name before between after [] page are is = (after, subst (λ b. IsPage name page b after) are is, refl)
pages_more name before between after (first ∷ pages) page are is = (are.0, are.1, pages_more name are.0 between after pages page are.2 is)

-- after one page more
pub pages_on : {V : Type 0} (view : V → Json) (name before between after : List ℕ) (pages : List V) (at : ℕ) (d : V) → at < length pages →
    ArePages name (map view (take at pages)) before between → IsPage name (view (get_or pages at d)) between after →
    ArePages name (map view (take (at + 1) pages)) before after
pages_on view name before between after pages at d inside are is =
    subst (λ ps. ArePages name ps before after)
    (sym (ap (map view) (take_more pages at d inside) ∙ map-append view (take at pages) (get_or pages at d ∷ [])))
    (pages_more name before between after (map view (take at pages)) (view (get_or pages at d)) are is)

-- the next key with its bytes is a page
pub next_page : (name before page : List ℕ) (json : Json) → IsNext name json (length before) → HasBytes json page → IsPage name json before (before ++ page)
next_page name before page json next bytes = record {
  full = next.full;
  key = next.key;
  page = page;
  value = bytes.value;
  some = bytes.some;
  most = bytes.most;
  bytes = refl;
}

-- Source: etcd 3.4, api: TxnResponse, ResponseHeader, RangeResponse, as its JSON writes them.
use Rattle.std.specs.Prelude.{◌≡◌, ℕ, Bool, true, ◌&&◌, nat_le, List, length, codes, Option, Some, None, option_and_then}
use Rattle.std.specs.Char.{is_ascii_digit}
use Rattle.std.specs.List.{list_all}
use Rattle.std.specs.Str.{IsUtf8}
use Rattle.json.specs.Find.{get, at as nth, as_bool, as_str}
use Rattle.json.specs.Json.{Json, document}
use Rattle.boss_etcd.specs.declared.said.Said.{Said}
use Rattle.boss_etcd.specs.declared.said.Said.TheVariants.{Done, Refused, Unclear}

-- 1 to 19 decimal digits
abbrev pub is_revision : List ℕ → Bool
is_revision text = nat_le 1 (length text) && nat_le (length text) 19 && list_all is_ascii_digit text

-- the revision of the answer
abbrev pub revision_of : Json → Option (List ℕ)
revision_of json = option_and_then (λ header. option_and_then as_str (get (codes "revision") header)) (get (codes "header") json)

-- whether the transaction was done
abbrev pub succeeded_of : Json → Option Bool
succeeded_of json = option_and_then as_bool (get (codes "succeeded") json)

-- the head that a refusal found
abbrev pub found_of : Json → Option Json
found_of json =
    option_and_then (nth 0) (option_and_then (get (codes "kvs")) (option_and_then (get (codes "response_range"))
    (option_and_then (nth 0) (get (codes "responses") json))))

-- a text of what was found
abbrev pub found_text : List ℕ → Json → Option (List ℕ)
found_text name json = option_and_then (λ found. option_and_then as_str (get name found)) (found_of json)

-- the transaction was done, with this revision
pub record IsDone (body revision : List ℕ) : Type 0 where
  pub json : Json
  pub utf8 : IsUtf8 body
  pub is : document body ≡ Some json
  pub succeeded : succeeded_of json ≡ Some true
  pub at : revision_of json ≡ Some revision
  pub digits : is_revision revision ≡ true

-- it was not, and the head was found to have this value and this revision
pub record IsRefused (body value revision : List ℕ) : Type 0 where
  pub json : Json
  pub utf8 : IsUtf8 body
  pub is : document body ≡ Some json
  pub not_done : succeeded_of json ≡ None
  pub found : found_text (codes "value") json ≡ Some value
  pub left : found_text (codes "mod_revision") json ≡ Some revision
  pub digits : is_revision revision ≡ true

-- it says neither of these
pub record IsUnclear (body : List ℕ) : Type 0 where
  pub no_done : (revision : List ℕ) → IsDone body revision → ⊥
  pub no_refused : (value revision : List ℕ) → IsRefused body value revision → ⊥

-- what a body says
abbrev pub Says : List ℕ → Said → Type 0
Says body (Done revision) = IsDone body revision
Says body (Refused value revision) = IsRefused body value revision
Says body Unclear = IsUnclear body

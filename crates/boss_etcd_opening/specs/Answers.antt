-- Source: etcd 3.4, api: RangeResponse, ResponseHeader, KeyValue, as its JSON writes them.
-- What the answers to the reads of an opening say.
use Rattle.std.specs.Prelude.{◌≡◌, ℕ, ◌/◌, ◌%◌, ◌<◌, ◌≤◌, true, List, [], ◌∷◌, ◌++◌, length, codes, Option, Some, None, option_and_then}
use Rattle.json.specs.Value.{items_of}
use Rattle.json.specs.Find.{get, at as nth, as_str}
use Rattle.json.specs.Json.{Json, document, array}
use Rattle.boss_etcd.specs.Requests.{page_key}
use Rattle.boss_etcd.specs.Says.{is_revision, revision_of}
use Rattle.boss_etcd_opening.specs.Values.{base64_of, TellsIn}
use Rattle.boss_etcd_opening.specs.declared.found.Found.{Found}
use Rattle.boss_etcd_opening.specs.declared.found.Found.TheVariants.{Nothing, Head, Foreign, Unclear}

-- a text under this key
abbrev pub text_in : List ℕ → Json → Option (List ℕ)
text_in key json = option_and_then as_str (get key json)

-- ---- the head

-- the first key of an answer, with its value
abbrev pub first_in : Json → Option Json
first_in json = option_and_then (nth 0) (get (codes "kvs") json)

-- an answer at this revision, which names no key
pub record IsNothing (body at : List ℕ) : Type 0 where
  pub json : Json
  pub is : document body ≡ Some json
  pub none : get (codes "kvs") json ≡ None
  pub when : revision_of json ≡ Some at
  pub digits : is_revision at ≡ true

-- an answer at this revision, whose first key has a value that tells how many bytes there are, and this revision
pub record IsHead (body at revision : List ℕ) (size : ℕ) : Type 0 where
  pub json : Json
  pub is : document body ≡ Some json
  pub found : Json
  pub first : first_in json ≡ Some found
  pub text : List ℕ
  pub value : text_in (codes "value") found ≡ Some text
  pub tells : TellsIn text size
  pub left : text_in (codes "mod_revision") found ≡ Some revision
  pub left_digits : is_revision revision ≡ true
  pub when : revision_of json ≡ Some at
  pub digits : is_revision at ≡ true

-- what the answer to a read of the head says; of one that is told as foreign or unclear nothing is said
abbrev pub SaysHead : List ℕ → Found → Type 0
SaysHead body (Nothing at) = IsNothing body at
SaysHead body (Head length revision at) = IsHead body at revision length
SaysHead body Foreign = Unit {0}
SaysHead body Unclear = Unit {0}

-- ---- pages

-- a key with its value, which is the page behind these bytes: its number is that of the full pages before it
pub record IsPage (name : List ℕ) (json : Json) (before after : List ℕ) : Type 0 where
  pub full : length before % 1024 ≡ 0
  pub key : text_in (codes "key") json ≡ Some (base64_of (page_key name (length before / 1024)))
  pub page : List ℕ
  pub value : text_in (codes "value") json ≡ Some (base64_of page)
  pub some : 0 < length page
  pub most : length page ≤ 1024
  pub bytes : after ≡ before ++ page

-- the key of a page behind so many bytes
pub record IsNext (name : List ℕ) (json : Json) (size : ℕ) : Type 0 where
  pub full : size % 1024 ≡ 0
  pub key : text_in (codes "key") json ≡ Some (base64_of (page_key name (size / 1024)))

-- the bytes of a page
pub record HasBytes (json : Json) (page : List ℕ) : Type 0 where
  pub value : text_in (codes "value") json ≡ Some (base64_of page)
  pub some : 0 < length page
  pub most : length page ≤ 1024

-- pages one behind another
abbrev pub ArePages : List ℕ → List Json → List ℕ → List ℕ → Type 0
ArePages name [] before after = after ≡ before
ArePages name (page ∷ pages) before after = (between : List ℕ) × IsPage name page before between × ArePages name pages between after

-- the keys of an answer: those that it names, or none
abbrev pub KeysOf : Option Json → List Json → Type 0
KeysOf None keys = keys ≡ []
KeysOf (Some named) keys = named ≡ array (items_of keys)

-- an answer whose keys are those of the pages behind these bytes
pub record HasPages (name body before after : List ℕ) (count : ℕ) : Type 0 where
  pub json : Json
  pub is : document body ≡ Some json
  pub pages : List Json
  pub keys : KeysOf (get (codes "kvs") json) pages
  pub number : count ≡ length pages
  pub each : ArePages name pages before after

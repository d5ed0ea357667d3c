-- Source: etcd 3.4, api: RangeRequest, in JSON with bytes in base64.
use Rattle.std.specs.Prelude.{ℕ, List, ◌++◌, codes}
use Rattle.boss_etcd.specs.Requests.{encoded, head_key, page_key}

-- the body that reads the head
unfoldable pub head_range_text : List ℕ → List ℕ
head_range_text name = codes "{\"key\":" ++ encoded (head_key name) ++ codes "}"

-- the keys of the pages from this one on
unfoldable pub keys_text : List ℕ → ℕ → List ℕ
keys_text name page = codes "{\"key\":" ++ encoded (page_key name page) ++ codes ",\"range_end\":" ++ encoded (name ++ codes "/p0")

-- the body that reads them as they were at a revision, 256 at most
unfoldable pub pages_range_text : List ℕ → ℕ → List ℕ → List ℕ
pages_range_text name page revision = keys_text name page ++ codes ",\"limit\":\"256\",\"revision\":\"" ++ revision ++ codes "\"}"

-- Source: own; what is meant is a transaction of etcd that puts the keys of some pages and deletes a range of them.
use Rattle.std.specs.Prelude.{ℕ, ◌+◌, ◌-◌, ◌*◌, Bool, false, ◌&&◌, nat_le, nat_lt, List, length, take, drop, if◌then◌else◌, Option, Some, None}
use Rattle.boss_etcd.specs.Requests.{pages_of}

-- what bytes have under the key of the page with this number
abbrev pub page_at : List ℕ → ℕ → Option (List ℕ)
page_at bytes page = if nat_lt page (pages_of (length bytes)) then Some (take 1024 (drop (1024 * page) bytes)) else None

-- the pages from the first one that is dropped on
abbrev pub is_dropped : Option ℕ → ℕ → Bool
is_dropped None page = false
is_dropped (Some from) page = nat_le from page

-- what a transaction leaves under the keys of pages: those that it puts, from the first on, none of those that it drops, and the others
-- as they were
abbrev pub after_puts : ℕ → List ℕ → Option ℕ → (ℕ → Option (List ℕ)) → ℕ → Option (List ℕ)
after_puts first bytes dropped store page =
    if nat_le first page && nat_lt page (first + pages_of (length bytes)) then page_at bytes (page - first)
    else (if is_dropped dropped page then None else store page)

-- Source: own.
-- The head of a chain: what its value says, and what a commit makes of it.
use Rattle.std.specs.Prelude.{ℕ, ◌+◌, ◌/◌, ◌==◌, max, Bool, true, false, not, ◌&&◌, nat_lt, List, ◌++◌, length, codes, decimal, if◌then◌else◌, Option, Some, None}
use Rattle.boss_etcd.specs.declared.head.Head.{Head}
use Rattle.boss_etcd.specs.Requests.{commit_text, pages_of}

-- the value: who put it, as which of its commits, and how many bytes there are
unfoldable pub head_text : List ℕ → ℕ → ℕ → List ℕ
head_text owner number length = codes "bossd1 " ++ owner ++ codes " " ++ decimal number ++ codes " " ++ decimal length

-- how many bytes there are after a commit that ends there
abbrev pub next_length : ℕ → ℕ → Bool → ℕ
next_length length end true = end
next_length length end false = max length end

-- the first page that a commit drops: none where the bytes become no fewer
abbrev pub dropped_of : ℕ → ℕ → Bool → Option ℕ
dropped_of length end last = if last && nat_lt end length then Some (pages_of end) else None

-- the value that a commit puts
abbrev pub value_of : Head → ℕ → List ℕ → Bool → List ℕ
value_of head at bytes last = head_text head.owner (head.number + 1) (next_length head.length (at + length bytes) last)

-- the body of a commit by one with this head
abbrev pub commit_of : List ℕ → Head → ℕ → List ℕ → Bool → List ℕ
commit_of name head at bytes last =
    commit_text name head.revision (value_of head at bytes last) (at / 1024) bytes (dropped_of head.length (at + length bytes) last)

-- a commit that changes nothing asks alone; but the first one of an owner always puts the head
abbrev pub changes_nothing : Head → ℕ → List ℕ → Bool → Bool
changes_nothing head at bytes last = nat_lt 0 head.number && (length bytes == 0) && not (last && nat_lt at head.length)

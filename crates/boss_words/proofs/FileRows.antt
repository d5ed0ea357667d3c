-- Worked rows, computed from the definitions: the words RULES, PLAN and KEYS of a server, each of which may be left out; and by how much
-- moments are taken back.
use Rattle.std.proofs.Common.{◌≡◌, [], ◌∷◌, codes, Some, None, refl}
use Rattle.boss_words.specs.Words.{optional_of, shift_by}

pub no-word : optional_of [] ≡ Some (None, None, None)
no-word = refl

pub rules-none : optional_of (codes "-" ∷ []) ≡ Some (None, None, None)
rules-none = refl

pub rules-alone : optional_of (codes "rules.toml" ∷ []) ≡ Some (Some (codes "rules.toml"), None, None)
rules-alone = refl

pub plan-alone : optional_of (codes "-" ∷ codes "plan.toml" ∷ []) ≡ Some (None, Some (codes "plan.toml"), None)
plan-alone = refl

pub keys-alone : optional_of (codes "-" ∷ codes "-" ∷ codes "keys.toml" ∷ []) ≡ Some (None, None, Some (codes "keys.toml"))
keys-alone = refl

pub rules-and_plan-and_keys : optional_of (codes "rules.toml" ∷ codes "plan.toml" ∷ codes "keys.toml" ∷ []) ≡ Some (Some (codes "rules.toml"), Some (codes "plan.toml"), Some (codes "keys.toml"))
rules-and_plan-and_keys = refl

pub rules-empty : optional_of ([] ∷ codes "plan.toml" ∷ []) ≡ None
rules-empty = refl

pub word-too_many : optional_of (codes "-" ∷ codes "-" ∷ codes "-" ∷ codes "-" ∷ []) ≡ None
word-too_many = refl

pub shift-by_nothing : shift_by (codes "0") ≡ None
shift-by_nothing = refl

pub shift-by_an_hour : shift_by (codes "3600000") ≡ Some 3600000
shift-by_an_hour = refl

pub shift-back : shift_by (codes "-1") ≡ None
shift-back = refl

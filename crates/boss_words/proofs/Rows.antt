-- Words whose first is the first of no row.
use Rattle.std.proofs.Common.{◌≡◌, ℕ, false, List, [], ◌∷◌, get_or, None, String, string_bytes, codes, Global, refl}
use Rattle.std.proofs.lemmas.Bool.{cases_Bool}
use Rattle.std.proofs.lemmas.Slice.Eq.{bytes_eq-Decides}
use Rattle.std.specs.Str.{bytes_eq}
use Rattle.boss_words.specs.Words.{texts, job_of}
use Rattle.std.proofs.Common.{inl, inr}

bytes_eq-other : (xs ys : List ℕ) → ¬ (xs ≡ ys) → bytes_eq xs ys ≡ false
bytes_eq-other xs ys other = elim (cases_Bool (bytes_eq xs ys)) [ inl same ↦ absurd (other ((bytes_eq-Decides xs ys).0 same)) | inr differ ↦ differ ]

pub job_of-unknown : (words : List (String Global)) (job : String Global) → job ≡ get_or words 0 job
    → ¬ (string_bytes job ≡ codes "script") → ¬ (string_bytes job ≡ codes "serve") → ¬ (string_bytes job ≡ codes "check") → ¬ (string_bytes job ≡ codes "adopt")
    → ¬ (string_bytes job ≡ codes "shift") → ¬ (string_bytes job ≡ codes "feed") → ¬ (string_bytes job ≡ codes "standby") → ¬ (string_bytes job ≡ codes "load")
    → ¬ (string_bytes job ≡ codes "help") → ¬ (string_bytes job ≡ codes "--help") → ¬ (string_bytes job ≡ codes "version") → ¬ (string_bytes job ≡ codes "--version")
    → job_of (texts words) ≡ None
job_of-unknown [] job is script serve check adopt shift feed standby load help dash_help version dash_version = refl
job_of-unknown (word ∷ words) job is script serve check adopt shift feed standby load help dash_help version dash_version =
    rw (
      ← is,
      bytes_eq-other _ _ script,
      bytes_eq-other _ _ serve,
      bytes_eq-other _ _ check,
      bytes_eq-other _ _ adopt,
      bytes_eq-other _ _ shift,
      bytes_eq-other _ _ feed,
      bytes_eq-other _ _ standby,
      bytes_eq-other _ _ load,
      bytes_eq-other _ _ help,
      bytes_eq-other _ _ dash_help,
      bytes_eq-other _ _ version,
      bytes_eq-other _ _ dash_version,
    )

-- What append and ready leave is clean.
use Rattle.std.proofs.Common.{◌≡◌, ◌≢◌, ℕ, ◌≤◌, ◌⊎◌, inl, inr, ⊎_elim, List, [], ◌∷◌, ◌++◌, length, refl, sym, ap, ◌∙◌, arith}
use Rattle.std.proofs.lemmas.Bool.{cases_eq}
use Rattle.boss_model.specs.Limits.{longest_record}
use Rattle.def_log.specs.Log.{framed, spelled, AreRecords}
use Rattle.boss_journal.specs.Appends.{IsShutLog, IsOpening, BeforeOrAfter}
use Rattle.boss_journal.specs.Clean.{IsCleanLog}
use Rattle.boss_journal.specs.Reads.{Repairs}
use Rattle.boss_journal.proofs.Appends.{records_more}
use Rattle.boss_journal.proofs.Frames.{spelled_more}

not_one : (n : ℕ) → n ≡ 0 → n ≡ 1 → ⊥
not_one n zero one = omega arith

-- a gate that is 0
pub shut_is_clean : (front : List ℕ) (rs : List (List ℕ)) (tail bytes : List ℕ) → AreRecords rs → bytes ≡ front ++ (spelled rs ++ 0 ∷ tail)
    → IsCleanLog front rs bytes
shut_is_clean front rs tail bytes each is = record {
  log = record { gate = 0; tail = tail; is = is; shut = not_one 0 refl; each = each };
  clean = inl refl;
}

-- a gate under way
opening_is_clean : (front : List ℕ) (rs : List (List ℕ)) (r : List ℕ) (gate : ℕ) (more bytes : List ℕ) → AreRecords rs → length r ≤ longest_record
    → gate ≢ 1 → bytes ≡ front ++ (spelled rs ++ gate ∷ (framed r ++ 0 ∷ more)) → IsCleanLog front rs bytes
opening_is_clean front rs r gate more bytes each short shut is = record {
  log = record { gate = gate; tail = framed r ++ 0 ∷ more; is = is; shut = shut; each = each };
  clean = inr (r, more, short, refl);
}

-- a gate that is open
opened_is_clean : (front : List ℕ) (rs : List (List ℕ)) (r more bytes : List ℕ) → AreRecords rs → length r ≤ longest_record
    → bytes ≡ front ++ (spelled rs ++ 1 ∷ (framed r ++ 0 ∷ more)) → IsCleanLog front (rs ++ r ∷ []) bytes
opened_is_clean front rs r more bytes each short is =
    shut_is_clean front (rs ++ r ∷ []) more bytes (records_more rs r each short)
    (is ∙ ap (λ l. front ++ l) (sym (spelled_more rs r (0 ∷ more))))

pub append_leaves_clean : (front : List ℕ) (rs : List (List ℕ)) (r bytes : List ℕ) → AreRecords rs → length r ≤ longest_record
    → BeforeOrAfter front rs r bytes → IsCleanLog front rs bytes ⊎ IsCleanLog front (rs ++ r ∷ []) bytes
append_leaves_clean front rs r bytes each short side =
    ⊎_elim
    (λ (b : IsShutLog front rs bytes). inl (shut_is_clean front rs b.tail bytes each b.is))
    (λ other.
    ⊎_elim
    (λ (o : IsOpening front rs r bytes). inl (opening_is_clean front rs r o.gate o.tail bytes each short o.shut o.is))
    (λ (a : IsShutLog front (rs ++ r ∷ []) bytes). inr (shut_is_clean front (rs ++ r ∷ []) a.tail bytes (records_more rs r each short) a.is))
    other)
    side

abbrev Kept : List ℕ → List (List ℕ) → ℕ → List ℕ → List ℕ → Type 0
Kept front rs gate tail bytes =
    IsCleanLog front rs bytes
    ⊎ ((gate ≢ 0) × ((r : List ℕ) × (more : List ℕ) × (tail ≡ framed r ++ 0 ∷ more) × IsCleanLog front (rs ++ r ∷ []) bytes))

-- a record stands whole behind the gate
behind_any : (front : List ℕ) (rs : List (List ℕ)) (gate now : ℕ) (tail r more bytes : List ℕ) → AreRecords rs → length r ≤ longest_record → gate ≢ 0
    → tail ≡ framed r ++ 0 ∷ more → bytes ≡ front ++ (spelled rs ++ now ∷ tail) → Kept front rs gate tail bytes
behind_any front rs gate now tail r more bytes each short other whole is =
    ⊎_elim
    (λ one. inr (
      other,
      (
        r,
        more,
        whole,
        opened_is_clean front rs r more bytes each short
            (is ∙ ap (λ g. front ++ (spelled rs ++ g ∷ tail)) one ∙ ap (λ l. front ++ (spelled rs ++ 1 ∷ l)) whole),
      ),
    ))
    (λ shut. inl (opening_is_clean front rs r now more bytes each short shut (is ∙ ap (λ l. front ++ (spelled rs ++ now ∷ l)) whole)))
    (cases_eq now 1)

pub repair_keeps : (front : List ℕ) (rs : List (List ℕ)) (held : List ℕ) (clean : IsCleanLog front rs held) (bytes : List ℕ)
    → Repairs front rs clean.log.gate clean.log.tail bytes → Kept front rs clean.log.gate clean.log.tail bytes
repair_keeps front rs held clean bytes repair =
    ⊎_elim
    (λ zero.
    inl (shut_is_clean front rs clean.log.tail bytes clean.log.each
    (repair.is ∙ ap (λ g. front ++ (spelled rs ++ g ∷ clean.log.tail)) (repair.idle zero))))
    (λ other.
    ⊎_elim (λ zero. absurd (other zero))
    (λ behind. behind_any front rs clean.log.gate repair.now clean.log.tail behind.0 behind.1 bytes clean.log.each behind.2 other behind.3 repair.is)
    clean.clean)
    (cases_eq clean.log.gate 0)

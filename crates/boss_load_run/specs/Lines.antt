-- Source: own.
use Rattle.std.specs.Prelude.{ℕ, List, ◌++◌, codes, count_by, decimal, nat_eq}
use Rattle.std.specs.List.{starts_with}
use Rattle.boss_model.specs.Lines.{lines}
use Rattle.boss_load_run.specs.declared.summary.Summary.{Summary}

-- how many lines of a text begin so
abbrev pub lines_with : List ℕ → List ℕ → ℕ
lines_with beginning text = count_by (λ line. starts_with nat_eq line beginning) (lines text)

-- the line that tells a summary
abbrev pub summary_line : Summary → List ℕ
summary_line summary =
    codes "load accepted " ++ decimal summary.accepted
    ++ codes " renewed " ++ decimal summary.renewed
    ++ codes " refused " ++ decimal summary.refused
    ++ codes " notices " ++ decimal summary.notices
    ++ codes " writes " ++ decimal summary.writes
    ++ codes " now " ++ decimal summary.now
    ++ codes " last " ++ decimal summary.last
    ++ codes "\n"

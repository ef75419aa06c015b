-- The starred example that is proved to the report's bytes, C, and D, whose report is the same, and a text with a count that 2026-02 refuses: one table, and
-- the one test that each of its rows is to pass (R78).
use Rattle.std.specs.Prelude.{Bool, true, ◌&&◌, List, [], ◌∷◌, ℕ}
use Rattle.spelling.specs.Words.{same_bytes}
use Rattle.desk.specs.Conclusion.{of_text}
use Rattle.report.specs.Report.{report}

-- a text, and its report in whole
pub record Reported : Type 0 where
  pub text : List ℕ
  pub bytes : List ℕ

-- `verdict 10 place 0 2`, `total 4`, `0 2`, `1 2`, `0 3`, `1 3`
abbrev pub of_four : List ℕ
of_four =
    118 ∷ 101 ∷ 114 ∷ 100 ∷ 105 ∷ 99 ∷ 116 ∷ 32 ∷ 49 ∷ 48 ∷ 32 ∷ 112 ∷ 108 ∷ 97 ∷ 99 ∷ 101 ∷ 32 ∷ 48 ∷ 32 ∷ 50 ∷ 10 ∷ 116 ∷ 111 ∷ 116 ∷ 97 ∷ 108 ∷ 32
    ∷ 52 ∷ 10 ∷ 48 ∷ 32 ∷ 50 ∷ 10 ∷ 49 ∷ 32 ∷ 50 ∷ 10 ∷ 48 ∷ 32 ∷ 51 ∷ 10 ∷ 49 ∷ 32 ∷ 51 ∷ 10 ∷ []

-- the texts and their reports (R78)
unfoldable pub reports : List Reported
reports =
    -- C: four threads `sync 0 2;return`
    record {
      text =
          115 ∷ 121 ∷ 110 ∷ 99 ∷ 32 ∷ 48 ∷ 32 ∷ 50 ∷ 59 ∷ 114 ∷ 101 ∷ 116 ∷ 117 ∷ 114 ∷ 110 ∷ 124 ∷ 124 ∷ 115 ∷ 121 ∷ 110 ∷ 99 ∷ 32 ∷ 48 ∷ 32 ∷ 50 ∷ 59
          ∷ 114 ∷ 101 ∷ 116 ∷ 117 ∷ 114 ∷ 110 ∷ 124 ∷ 124 ∷ 115 ∷ 121 ∷ 110 ∷ 99 ∷ 32 ∷ 48 ∷ 32 ∷ 50 ∷ 59 ∷ 114 ∷ 101 ∷ 116 ∷ 117 ∷ 114 ∷ 110 ∷ 124 ∷ 124
          ∷ 115 ∷ 121 ∷ 110 ∷ 99 ∷ 32 ∷ 48 ∷ 32 ∷ 50 ∷ 59 ∷ 114 ∷ 101 ∷ 116 ∷ 117 ∷ 114 ∷ 110 ∷ [];
      bytes = of_four;
    }
    -- D: as C with arrive for sync
    ∷ record {
      text =
          97 ∷ 114 ∷ 114 ∷ 105 ∷ 118 ∷ 101 ∷ 32 ∷ 48 ∷ 32 ∷ 50 ∷ 59 ∷ 114 ∷ 101 ∷ 116 ∷ 117 ∷ 114 ∷ 110 ∷ 124 ∷ 124 ∷ 97 ∷ 114 ∷ 114 ∷ 105 ∷ 118 ∷ 101
          ∷ 32 ∷ 48 ∷ 32 ∷ 50 ∷ 59 ∷ 114 ∷ 101 ∷ 116 ∷ 117 ∷ 114 ∷ 110 ∷ 124 ∷ 124 ∷ 97 ∷ 114 ∷ 114 ∷ 105 ∷ 118 ∷ 101 ∷ 32 ∷ 48 ∷ 32 ∷ 50 ∷ 59 ∷ 114 ∷ 101
          ∷ 116 ∷ 117 ∷ 114 ∷ 110 ∷ 124 ∷ 124 ∷ 97 ∷ 114 ∷ 114 ∷ 105 ∷ 118 ∷ 101 ∷ 32 ∷ 48 ∷ 32 ∷ 50 ∷ 59 ∷ 114 ∷ 101 ∷ 116 ∷ 117 ∷ 114 ∷ 110 ∷ [];
      bytes = of_four;
    }
    -- `arrive 0 2;return||sync 0 3;return`: the second count is above the number of threads. `verdict 3 place 1 0`, `total 0`
    ∷ record {
      text =
          97 ∷ 114 ∷ 114 ∷ 105 ∷ 118 ∷ 101 ∷ 32 ∷ 48 ∷ 32 ∷ 50 ∷ 59 ∷ 114 ∷ 101 ∷ 116 ∷ 117 ∷ 114 ∷ 110 ∷ 124 ∷ 124 ∷ 115 ∷ 121 ∷ 110 ∷ 99 ∷ 32 ∷ 48
          ∷ 32 ∷ 51 ∷ 59 ∷ 114 ∷ 101 ∷ 116 ∷ 117 ∷ 114 ∷ 110 ∷ [];
      bytes =
          118 ∷ 101 ∷ 114 ∷ 100 ∷ 105 ∷ 99 ∷ 116 ∷ 32 ∷ 51 ∷ 32 ∷ 112 ∷ 108 ∷ 97 ∷ 99 ∷ 101 ∷ 32 ∷ 49 ∷ 32 ∷ 48 ∷ 10 ∷ 116 ∷ 111 ∷ 116 ∷ 97 ∷ 108 ∷ 32
          ∷ 48 ∷ 10 ∷ [];
    }
    ∷ []

-- the report of each text is the one given (R78)
unfoldable pub reported : List Reported → Bool
reported [] = true
reported (e ∷ es) = same_bytes (report (of_text e.text)) e.bytes && reported es

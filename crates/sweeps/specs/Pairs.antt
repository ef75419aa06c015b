-- Edges in a list: two numbers for each, from where and to where.
use Rattle.std.specs.Prelude.{◌≡◌, List, ℕ, ◌+◌, ◌*◌, ◌/◌, ◌≤◌, ◌<◌, length, get_or}

-- how many pairs a list has
abbrev pub pair_count : List ℕ → ℕ
pair_count list = length list / 2

-- (i, k) is one of the pairs from `first` to before `end`
pub record PairBetween (list : List ℕ) (first end i k : ℕ) : Type 0 where
  pub at : ℕ
  pub low : first ≤ at
  pub high : at < end
  pub from : get_or list (at * 2) 0 ≡ i
  pub to : get_or list (at * 2 + 1) 0 ≡ k

-- (i, k) is a pair of the list, of numbers below m
pub record PairIn (list : List ℕ) (m i k : ℕ) : Type 0 where
  pub pair : PairBetween list 0 (pair_count list) i k
  pub from : i < m
  pub to : k < m

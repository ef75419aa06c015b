-- What the parts ask for and pass on; nothing public speaks of it.
use Rattle.std.specs.Prelude.{◌≡◌, Bool, true, false, List, ℕ, ◌*◌, ◌≤◌, ◌<◌, length, get_or}
use Rattle.relation.specs.Bits.{bit_at, RowIs, joined, sum}
use Rattle.relation.specs.Table.{width, words}

-- the room after joins of rows k into rows i, of numbers below m with an edge from i to k
pub data Joined (E : ℕ → ℕ → Type 0) (m : ℕ) (before : List ℕ) : List ℕ → Type 0 where
  none : Joined E m before before
  more : {r after : List ℕ} {i k : ℕ} → Joined E m before r → i < m → k < m → E i k → RowIs r after (width m) i (joined r (width m) i k)
      → Joined E m before after

-- row i has each bit that row k has
pub record Takes (room : List ℕ) (m i k : ℕ) : Type 0 where
  pub bits : (j : ℕ) → j < 32 * width m → bit_at room (width m) k j ≡ true → bit_at room (width m) i j ≡ true

-- A pass joins rows along edges, tries the pairs of T, and says whether that changed anything. If it did not, each edge of T is taken; if it did, words have grown.
pub record Pass (E : ℕ → ℕ → Type 0) (m : ℕ) (T : ℕ → ℕ → Type 0) (before after : List ℕ) (said : Bool) : Type 0 where
  pub joins : Joined E m before after
  pub still : said ≡ false → after ≡ before
  pub takes : said ≡ false → (i k : ℕ) → T i k → E i k → Takes before m i k
  pub grown : said ≡ true → sum before < sum after

-- one pair
abbrev pub At : ℕ → ℕ → ℕ → ℕ → Type 0
At i k x y = (x ≡ i) × (y ≡ k)

-- sound: each number is related to itself, each bit that is set is a pair of R, and the words after the table are as before
pub record SoundTable (before after : List ℕ) (m : ℕ) (R : ℕ → ℕ → Type 0) : Type 0 where
  pub len : length after ≡ length before
  pub diagonal : (i : ℕ) → i < m → bit_at after (width m) i i ≡ true
  pub sound : (i j : ℕ) → i < m → j < 32 * width m → bit_at after (width m) i j ≡ true → (j < m) × R i j
  pub kept : (p : ℕ) → words m ≤ p → get_or after p 0 ≡ get_or before p 0

-- rows were joined along edges until each edge was taken
pub record AllTaken (E : ℕ → ℕ → Type 0) (m : ℕ) (before after : List ℕ) : Type 0 where
  pub joins : Joined E m before after
  pub closed : (i k : ℕ) → E i k → Takes after m i k

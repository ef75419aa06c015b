-- The two marks that part what is printed, as bytes.
use Rattle.std.specs.Prelude.{ℕ}

abbrev pub space : ℕ
space = 32

abbrev pub newline : ℕ
newline = 10

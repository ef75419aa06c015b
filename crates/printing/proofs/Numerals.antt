-- Numbers in decimal: one figure after the other, and what they say. Assumes nothing.
use mathlib.Core.Path.{◌≡◌, refl, sym, ap, ap₂, ◌∙◌}
use mathlib.Core.Logic.{by_cases}
use mathlib.Core.Bool.{true}
use mathlib.Core.List.{List, [], ◌∷◌, ◌++◌}
use Prim.Native.Nat.{ℕ, zero, suc, ◌+◌, ◌-◌, ◌*◌, ◌/◌, ◌%◌, ◌^◌, ◌≤◌, ◌<◌}
use native.Mathlib.Decide.{dec_lt}
use native.Mathlib.Nat.{pow-suc}
use native.Mathlib.Omega.{arith}
use lib.ListN.{length, get_or, length-append, get_or-append}
use borrow.Author.Tests.{lt-ltb, le-ltb, le-leb, lt-leb, ne_eqb}
use Rattle.spelling.specs.Bytes.{class_of, is, digit, run}
use Rattle.spelling.specs.Numbers.{most_number, decimal, Means}
use Rattle.spelling.proofs.Laws.{Each}
use Rattle.printing.specs.Figures.{figure, figures_to, figures}

-- ---- one figure, or a last one after the others

to_digit : (k n : ℕ) → n < 10 → figures_to k n ≡ figure n ∷ []
unfolding figures_to
to_digit zero n h = refl
to_digit (suc k) n h = rw (lt-ltb n 10 h)

to_step : (k n : ℕ) → 10 ≤ n → figures_to (suc k) n ≡ figures_to k (n / 10) ++ (figure (n % 10) ∷ [])
unfolding figures_to
to_step k n h = rw (le-ltb n 10 h)

-- the bound tells nothing
to_same : (k l n : ℕ) → n ≤ k → n ≤ l → figures_to k n ≡ figures_to l n
to_same zero l n g h = to_digit zero n (omega arith) ∙ sym (to_digit l n (omega arith))
to_same (suc k) zero n g h = to_digit (suc k) n (omega arith) ∙ sym (to_digit zero n (omega arith))
to_same (suc k) (suc l) n g h =
    by_cases (dec_lt n 10) (λ (d : n < 10). to_digit (suc k) n d ∙ sym (to_digit (suc l) n d))
    (λ (d : ¬ (n < 10)).
    to_step k n (omega arith)
    ∙ ap (λ (w : List ℕ). w ++ (figure (n % 10) ∷ [])) (to_same k l (n / 10) (omega arith) (omega arith))
    ∙ sym (to_step l n (omega arith)))

pub figures_digit : (n : ℕ) → n < 10 → figures n ≡ figure n ∷ []
unfolding figures
figures_digit n h = to_digit n n h

-- where there is one figure, it is the last
pub figures_only : (n : ℕ) → n < 10 → figures n ≡ figure (n % 10) ∷ []
figures_only n h = figures_digit n h ∙ ap (λ (k : ℕ). figure k ∷ []) (omega arith)

pub figures_step : (n : ℕ) → 10 ≤ n → figures n ≡ figures (n / 10) ++ (figure (n % 10) ∷ [])
unfolding figures
figures_step n h =
    to_same n (suc n) n (omega arith) (omega arith)
    ∙ to_step n n h
    ∙ ap (λ (w : List ℕ). w ++ (figure (n % 10) ∷ [])) (to_same n (n / 10) (n / 10) (omega arith) (omega arith))

-- ---- what holds of one figure, and of a last one where it holds before it, holds of all

module _ (P : ℕ → List ℕ → Type 0) (one : (n : ℕ) → n < 10 → P n (figure n ∷ []))
    (more : (n : ℕ) (w : List ℕ) → 10 ≤ n → P (n / 10) w → P n (w ++ (figure (n % 10) ∷ []))) where
  to_figures : (k n : ℕ) → n ≤ k → P n (figures n)
  to_figures zero n h = rw (figures_digit n (omega arith)) (one n (omega arith))
  to_figures (suc k) n h =
      by_cases (dec_lt n 10) (λ (d : n < 10). rw (figures_digit n d) (one n d))
      (λ (d : ¬ (n < 10)).
      let g : 10 ≤ n = omega arith in
      rw (figures_step n g) (more n (figures (n / 10)) g (to_figures k (n / 10) (omega arith))))

  pub by_figures : (n : ℕ) → P n (figures n)
  by_figures n = to_figures n n (omega arith)

-- ---- they are digits

abbrev pub Digit : ℕ → Type 0
Digit b = (48 ≤ b) × (b ≤ 57)

figure_digit : (n : ℕ) → n < 10 → Digit (figure n)
figure_digit n h = (omega arith, omega arith)

each_append : (u v : List ℕ) → Each Digit u → Each Digit v → Each Digit (u ++ v)
each_append [] v f g = g
each_append (b ∷ u) v f g = (f.0, each_append u v f.1 g)

pub figures_digits : (n : ℕ) → Each Digit (figures n)
figures_digits =
    by_figures (λ n w. Each Digit w) (λ n h. (figure_digit n h, tt))
    (λ n w h f. each_append w (figure (n % 10) ∷ []) f (figure_digit (n % 10) (omega arith), tt))

-- ---- how many there are

pub figures_some : (n : ℕ) → 1 ≤ length (figures n)
figures_some = by_figures (λ n w. 1 ≤ length w) (λ n h. omega arith) (λ n w h f. omega (arith, length-append w (figure (n % 10) ∷ [])))

pub figures_long : (n k : ℕ) → n < 10 ^ k → 1 ≤ k → length (figures n) ≤ k
figures_long =
    by_figures (λ n w. (k : ℕ) → n < 10 ^ k → 1 ≤ k → length w ≤ k) (λ n h k b s. omega arith)
    (λ n w h f k b s. longer n w h f k b)
  where
    longer : (n : ℕ) (w : List ℕ) → 10 ≤ n → ((k : ℕ) → n / 10 < 10 ^ k → 1 ≤ k → length w ≤ k) → (k : ℕ) → n < 10 ^ k
        → length (w ++ (figure (n % 10) ∷ [])) ≤ k
    longer n w h f zero b = absurd (omega arith)
    longer n w h f (suc zero) b = absurd (omega arith)
    longer n w h f (suc (suc k)) b =
        let e : 10 ^ suc (suc k) ≡ 10 ^ suc k * 10 = pow-suc 10 (suc k) in
        omega (arith, length-append w (figure (n % 10) ∷ []), f (suc k) (omega arith) (omega arith))

-- ---- what they say

decimal_last : (v : ℕ) (w : List ℕ) (b : ℕ) → decimal v (w ++ (b ∷ [])) ≡ decimal v w * 10 + (b - 48)
unfolding decimal
decimal_last v [] b = refl
decimal_last v (x ∷ w) b = decimal_last (v * 10 + (x - 48)) w b

pub figures_value : (n : ℕ) → decimal 0 (figures n) ≡ n
unfolding decimal
figures_value =
    by_figures (λ n w. decimal 0 w ≡ n) (λ n h. omega arith) (λ n w h f. omega (arith, decimal_last 0 w (figure (n % 10))))

pub figures_one : {m n : ℕ} → figures m ≡ figures n → m ≡ n
figures_one {m} {n} e = sym (figures_value m) ∙ ap (decimal 0) e ∙ figures_value n

-- a first figure 0 is the only one
pub figures_leading : (n : ℕ) → get_or (figures n) 0 0 ≡ 48 → n ≡ 0
figures_leading n =
    (by_figures (λ m w. (1 ≤ length w) × (get_or w 0 0 ≡ 48 → m ≡ 0)) (λ m h. (omega arith, λ e. omega arith))
    (λ m w h f. (
      omega (arith, length-append w (figure (m % 10) ∷ [])),
      λ e. absurd (omega (arith, f.1 (sym (get_or-append w (figure (m % 10) ∷ []) 0 0 f.0) ∙ e))),
    ))
    n).1

-- ---- they end where the digits end

apart : (u v : List ℕ) (b c : ℕ) (x y : List ℕ) → Each Digit u → Each Digit v → ¬ Digit b → ¬ Digit c → u ++ b ∷ x ≡ v ++ c ∷ y
    → (u ≡ v) × (b ∷ x ≡ c ∷ y)
apart [] [] b c x y f g p q e = (refl, e)
apart [] (d ∷ v) b c x y f g p q e = let h : b ≡ d = cc in absurd (p (rw h g.0))
apart (d ∷ u) [] b c x y f g p q e = let h : c ≡ d = cc in absurd (q (rw h f.0))
apart (d ∷ u) (a ∷ v) b c x y f g p q e =
    let h : d ≡ a = cc in
    let r = apart u v b c x y f.1 g.1 p q cc in
    (ap₂ (λ (n : ℕ) (l : List ℕ). n ∷ l) h r.0, r.1)

-- a number and what follows it, where that is no digit
pub figures_apart : {m n b c : ℕ} {x y : List ℕ} → ¬ Digit b → ¬ Digit c → figures m ++ b ∷ x ≡ figures n ++ c ∷ y → (m ≡ n) × (b ∷ x ≡ c ∷ y)
figures_apart {m} {n} {b} {c} {x} {y} p q e =
    let r = apart (figures m) (figures n) b c x y (figures_digits m) (figures_digits n) p q e in
    (figures_one r.0, r.1)

-- ---- a reader of numbers reads them again: what is printed is spelt as what is read

digit_class : (b : ℕ) → Digit b → is digit b ≡ true
unfolding class_of
digit_class b d =
    rw (
      ne_eqb b 32 (λ (e : b ≡ 32). omega (arith, d.0)),
      ne_eqb b 10 (λ (e : b ≡ 10). omega (arith, d.0)),
      lt-leb 97 b (omega (arith, d.1)),
      le-leb 48 b d.0,
      le-leb b 57 d.1,
    )

run_digits : (w : List ℕ) → Each Digit w → run (is digit) w ≡ length w
unfolding run
run_digits [] f = refl
run_digits (b ∷ w) f = rw (digit_class b f.0) (ap suc (run_digits w f.1))

pub figures_mean : (n : ℕ) → n ≤ most_number → Means (figures n) n
figures_mean n h =
    record {
      digits = run_digits (figures n) (figures_digits n);
      some = figures_some n;
      leading = λ (e : get_or (figures n) 0 0 ≡ 48). ap length (figures_digit n (omega (arith, figures_leading n e)));
      value = figures_value n;
      small = h;
    }

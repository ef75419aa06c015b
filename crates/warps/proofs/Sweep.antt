-- ThreadStacks that each take their steps, one lane after the other.
use mathlib.Core.Path.{◌≡◌, refl, sym, ap, ◌∙◌, subst, fun_ext}
use mathlib.Core.Logic.{by_cases, ◌≢◌}
use mathlib.Core.Bool.{cond}
use mathlib.Core.List.{List}
use Prim.Native.Nat.{ℕ, zero, suc, ◌≤◌, ◌<◌}
use native.Mathlib.Omega.{arith}
use native.Mathlib.Decide.{ℕ_discrete, dec_lt}
use borrow.Author.Tests.{eq-eqb, ne_eqb, lt-ltb, le-ltb}
use lib.Dec.{ltb}
use Rattle.warps.specs.Language.{Bodies, Mem}
use Rattle.warps.specs.Threads.{Piece, ThreadStep, ThreadStacks, become, Interleaved}

-- some steps of one thread
pub data ThreadSteps (body : Bodies) (t : ℕ) : List Piece → Mem → List Piece → Mem → Type 0 where
  none : {T : List Piece} {μ : Mem} → ThreadSteps body t T μ T μ
  more : {T U R : List Piece} {μ ν ξ : Mem} → ThreadStep body t T μ U ν → ThreadSteps body t U ν R ξ → ThreadSteps body t T μ R ξ

module _ (body : Bodies) (n : ℕ) where
  pub join : {ς ρ σ : ThreadStacks} {μ ν ξ : Mem} → Interleaved body n ς μ ρ ν → Interleaved body n ρ ν σ ξ → Interleaved body n ς μ σ ξ
  join Interleaved.none r = r
  join (Interleaved.next t l s q) r = Interleaved.next t l s (join q r)

  become_same : (ς : ThreadStacks) (t : ℕ) (T : List Piece) → become ς t T t ≡ T
  unfolding become
  become_same ς t T = rw (eq-eqb t t refl)

  become_twice : (ς : ThreadStacks) (t : ℕ) (T U : List Piece) → become (become ς t T) t U ≡ become ς t U
  unfolding become
  become_twice ς t T U = fun_ext (λ u. by_cases (ℕ_discrete t u) (λ (e : t ≡ u). rw (eq-eqb t u e)) (λ (e : t ≢ u). rw (ne_eqb t u e)))

  become_none : (ς : ThreadStacks) (t : ℕ) → become ς t (ς t) ≡ ς
  unfolding become
  become_none ς t = fun_ext (λ u. by_cases (ℕ_discrete t u) (λ (e : t ≡ u). rw (eq-eqb t u e) (ap ς e)) (λ (e : t ≢ u). rw (ne_eqb t u e)))

  -- the steps of one lane, in turn
  pub alone : (t : ℕ) → t < n → {T U : List Piece} {μ ν : Mem} → ThreadSteps body t T μ U ν → (ς : ThreadStacks) → ς t ≡ T → Interleaved body n ς μ (become ς t U) ν
  alone t l (ThreadSteps.none {T = T} {μ = μ}) ς e =
      subst (λ (ρ : ThreadStacks). Interleaved body n ς μ ρ μ) (sym (ap (become ς t) (sym e) ∙ become_none ς t)) Interleaved.none
  alone t l (ThreadSteps.more {U = U} {R = R} {μ = μ} {ν = ν} {ξ = ξ} s q) ς e =
      Interleaved.next t l (subst (λ (T : List Piece). ThreadStep body t T μ U ν) (sym e) s)
      (subst (λ (ρ : ThreadStacks). Interleaved body n (become ς t U) ν ρ ξ) (become_twice ς t U R) (alone t l q (become ς t U) (become_same ς t U)))

  -- the lanes below k have taken theirs
  unfoldable mix : ℕ → ThreadStacks → ThreadStacks → ThreadStacks
  mix k f g t = cond (ltb t k) (g t) (f t)

  mix_at : (k : ℕ) (f g : ThreadStacks) → mix k f g k ≡ f k
  unfolding mix
  mix_at k f g = rw (le-ltb k k (omega arith))

  mix_next : (k : ℕ) (f g : ThreadStacks) → become (mix k f g) k (g k) ≡ mix (suc k) f g
  unfolding mix become
  mix_next k f g =
      fun_ext (λ u. by_cases (ℕ_discrete k u) (λ (e : k ≡ u). rw (eq-eqb k u e, lt-ltb u (suc k) (omega arith)) (ap g e))
      (λ (e : k ≢ u). by_cases (dec_lt u k) (λ (l : u < k). rw (ne_eqb k u e, lt-ltb u k l, lt-ltb u (suc k) (omega arith)))
      (λ (l : ¬ (u < k)). rw (ne_eqb k u e, le-ltb u k (omega arith), le-ltb u (suc k) (omega arith)))))

  part : (f g : ThreadStacks) (m : ℕ → Mem) → ((t : ℕ) → t < n → ThreadSteps body t (f t) (m t) (g t) (m (suc t)))
      → (k : ℕ) → k ≤ n → Interleaved body n (mix 0 f g) (m 0) (mix k f g) (m k)
  part f g m h zero l = Interleaved.none
  part f g m h (suc k) l =
      join (part f g m h k (omega arith))
      (subst (λ (ρ : ThreadStacks). Interleaved body n (mix k f g) (m k) ρ (m (suc k))) (mix_next k f g) (alone k (omega arith) (h k (omega arith)) (mix k f g) (mix_at k f g)))

  pub sweep : (f g : ThreadStacks) (m : ℕ → Mem) → ((t : ℕ) → t < n → ThreadSteps body t (f t) (m t) (g t) (m (suc t)))
      → ((t : ℕ) → n ≤ t → f t ≡ g t) → Interleaved body n f (m 0) g (m n)
  unfolding mix
  sweep f g m h rest =
      subst (λ (ρ : ThreadStacks). Interleaved body n ρ (m 0) g (m n)) first (subst (λ (ρ : ThreadStacks). Interleaved body n (mix 0 f g) (m 0) ρ (m n)) last (part f g m h n (omega arith)))
    where
      first : mix 0 f g ≡ f
      first = fun_ext (λ t. rw (le-ltb t 0 (omega arith)))

      last : mix n f g ≡ g
      last = fun_ext (λ t. by_cases (dec_lt t n) (λ (l : t < n). rw (lt-ltb t n l)) (λ (l : ¬ (t < n)). rw (le-ltb t n (omega arith)) (rest t (omega arith))))

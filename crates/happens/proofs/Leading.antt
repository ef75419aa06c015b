-- Seats and leaders: a sync meets its leader, and commands that meet have the same one. Assumes nothing.
use mathlib.Core.Path.{◌≡◌, refl, sym, ap, ap₂, fun_ext, ◌∙◌}
use mathlib.Core.Logic.{by_cases, ⊎_elim, ◌≢◌}
use mathlib.Core.Bool.{Bool, true, false}
use mathlib.Core.List.{List}
use Prim.Native.Nat.{ℕ, zero, suc, ◌+◌, ◌-◌, ◌≤◌, ◌<◌}
use native.Mathlib.Decide.{ℕ_discrete, dec_lt}
use native.Mathlib.Omega.{arith}
use lib.ListN.{length, get_or, set}
use lib.Seq.{get_or-set_same, get_or-set_other}
use borrow.Author.Tests.{eqb-true, eq-eqb, lt-ltb, le-ltb, ltb-true, le-leb}
use Rattle.std.specs.Prelude.{Some, None}
use Rattle.tables.specs.Rows.{rows, kind, name, arrive, sync, registers, syncs}
use Rattle.relation.proofs.Truth.{split, clashing, same_test, both, pair}
use Rattle.rooms.specs.Rooms.{number_at}
use Rattle.happens.specs.Needs.{does_meet_row, last_below, or_last, seat, sits, Seated, leader}

-- ---- the last number below n that a test finds

module _ (found : ℕ → Bool) where
  pub last_here : (j : ℕ) → 0 < j → found (j - 1) ≡ true → last_below found j ≡ Some (j - 1)
  unfolding last_below
  last_here zero l e = elim l [ ]
  last_here (suc j) l e = let q : suc j - 1 ≡ j = omega arith in rw (q, rw q at e)

  pub last_on : (j : ℕ) → 0 < j → found (j - 1) ≡ false → last_below found j ≡ last_below found (j - 1)
  unfolding last_below
  last_on zero l e = elim l [ ]
  last_on (suc j) l e = let q : suc j - 1 ≡ j = omega arith in rw (q, rw q at e)

  pub last_none : last_below found 0 ≡ None
  unfolding last_below
  last_none = refl

  -- what is found passes
  last_is : (n : ℕ) {l : ℕ} → last_below found n ≡ Some l → found l ≡ true
  unfolding last_below
  last_is zero e = cc
  last_is (suc n) {l} e =
      ⊎_elim (λ (t : found n ≡ true). let q : n ≡ l = (let h = rw t at e in cc) in rw q at t) (λ (f : found n ≡ false). last_is n (rw f at e)) (split (found n))

  -- it is found, where there is one
  last_found : (n k : ℕ) → k < n → found k ≡ true → (l : ℕ) × (last_below found n ≡ Some l)
  unfolding last_below
  last_found zero k l e = elim l [ ]
  last_found (suc n) k l e =
      ⊎_elim (λ (t : found n ≡ true). (n, rw t))
      (λ (f : found n ≡ false).
      rw f
      (by_cases (ℕ_discrete k n) (λ (q : k ≡ n). clashing e (ap found q ∙ f)) (λ (d : k ≢ n). last_found n k (omega arith) e)))
      (split (found n))

-- ---- one that may be found without a search

module _ (found : ℕ → Bool) (s m : ℕ) where
  pub or_here : found s ≡ true → or_last found s m ≡ Some s
  unfolding or_last
  or_here t = rw t

  pub or_last_lem : found s ≡ false → s < m → or_last found s m ≡ last_below found m
  unfolding or_last
  or_last_lem f l = rw (f, lt-ltb s m l)

  pub or_none : found s ≡ false → m ≤ s → or_last found s m ≡ None
  unfolding or_last
  or_none f l = rw (f, le-ltb s m l)

  or_last_is : {l : ℕ} → or_last found s m ≡ Some l → found l ≡ true
  or_last_is {l} e =
      ⊎_elim (λ (t : found s ≡ true). let q : s ≡ l = (let h = or_here t in cc) in rw q at t)
      (λ (f : found s ≡ false).
      by_cases (dec_lt s m) (λ (h : s < m). last_is found m (sym (or_last_lem f h) ∙ e))
      (λ (h : ¬ (s < m)). let n = or_none f (omega arith) in cc))
      (split (found s))

  or_last_found : s < m → (k : ℕ) → k < m → found k ≡ true → (l : ℕ) × (or_last found s m ≡ Some l)
  or_last_found ls k l e =
      ⊎_elim (λ (t : found s ≡ true). (s, or_here t))
      (λ (f : found s ≡ false). let (x, q) = last_found found m k l e in (x, or_last_lem f ls ∙ q)) (split (found s))

-- ---- commands that meet

pub record Meeting (commands generations : List ℕ) (i k : ℕ) : Type 0 where
  pub from : i < rows commands
  pub to : k < rows commands
  pub register : registers commands i ≡ true
  pub sync : syncs commands k ≡ true
  pub barrier : name commands i ≡ name commands k
  pub generation : number_at generations i ≡ number_at generations k

module _ (commands generations : List ℕ) where
  pub meets_parts : (i k : ℕ) → does_meet_row commands generations i k ≡ true → Meeting commands generations i k
  meets_parts i k e =
      let (li, e₁) = both _ _ e in
      let (lk, e₂) = both _ _ e₁ in
      let (r, e₃) = both _ _ e₂ in
      let (s, e₄) = both _ _ e₃ in
      let (b, g) = both _ _ e₄ in
      record { from = ltb-true _ _ li; to = ltb-true _ _ lk; register = r; sync = s; barrier = eqb-true _ _ b; generation = eqb-true _ _ g }

  pub parts_meet : {i k : ℕ} → Meeting commands generations i k → does_meet_row commands generations i k ≡ true
  parts_meet M =
      pair _ _ (lt-ltb _ _ M.from) (pair _ _ (lt-ltb _ _ M.to) (pair _ _ M.register (pair _ _ M.sync (pair _ _ (eq-eqb _ _ M.barrier) (eq-eqb _ _ M.generation)))))

  sync_registers : (c : ℕ) → syncs commands c ≡ true → registers commands c ≡ true
  sync_registers c e = let k = eqb-true (kind commands c) sync e in le-leb arrive (kind commands c) (omega arith)

  -- a sync meets itself
  pub meets_itself : (c : ℕ) → c < rows commands → syncs commands c ≡ true → Meeting commands generations c c
  meets_itself c l s = record { from = l; to = l; register = sync_registers c s; sync = s; barrier = refl; generation = refl }

  -- what meets a sync meets whatever that meets
  pub meets_on : {i k l : ℕ} → Meeting commands generations i k → Meeting commands generations k l → Meeting commands generations i l
  meets_on M N =
      record {
        from = M.from;
        to = N.to;
        register = M.register;
        sync = N.sync;
        barrier = M.barrier ∙ N.barrier;
        generation = M.generation ∙ N.generation;
      }

  -- two syncs that one command meets meet
  pub meets_beside : {i k l : ℕ} → Meeting commands generations i k → Meeting commands generations i l → Meeting commands generations k l
  meets_beside {k = k} M N =
      record {
        from = M.to;
        to = N.to;
        register = sync_registers k M.sync;
        sync = N.sync;
        barrier = sym M.barrier ∙ N.barrier;
        generation = sym M.generation ∙ N.generation;
      }

  -- ---- leaders

  module _ (leaders : List ℕ) where
    -- a command and a sync that it meets have the same leader
    pub same_leader : (i k : ℕ) → Meeting commands generations i k → leader commands generations leaders i ≡ leader commands generations leaders k
    same_leader i k M =
        ap₂ (λ (found : ℕ → Bool) (s : ℕ). or_last found s (rows commands))
        (fun_ext (λ j. same_test _ _ (λ e. parts_meet (meets_beside M (meets_parts i j e))) (λ e. parts_meet (meets_on M (meets_parts k j e)))))
        (ap (λ (p : ℕ). get_or leaders p 0) (rw (M.barrier, M.generation)))

    -- a command meets its leader
    pub leader_met : (c : ℕ) {l : ℕ} → leader commands generations leaders c ≡ Some l → does_meet_row commands generations c l ≡ true
    leader_met c e = or_last_is (does_meet_row commands generations c) (sits commands generations leaders c) (rows commands) e

    -- each sync has one, which it meets
    pub sync_led : Seated commands generations leaders (rows commands) → (k : ℕ) → k < rows commands → syncs commands k ≡ true
        → (l : ℕ) × (leader commands generations leaders k ≡ Some l) × Meeting commands generations k l
    sync_led S k l s =
        let (m, e) =
        or_last_found (does_meet_row commands generations k) (sits commands generations leaders k) (rows commands) (S k l s) k l (parts_meet (meets_itself k l s)) in
        (m, e, meets_parts k m (leader_met k e))

    -- one more sync takes its seat
    pub seated_more : (c : ℕ) → c < rows commands → seat commands generations c < length leaders → Seated commands generations leaders c
        → Seated commands generations (set leaders (seat commands generations c) c) (c + 1)
    seated_more c l there S x lx s =
        by_cases (ℕ_discrete (seat commands generations x) (seat commands generations c))
        (λ (e : seat commands generations x ≡ seat commands generations c). rw (e, get_or-set_same leaders (seat commands generations c) c 0 there) l)
        (λ (n : seat commands generations x ≢ seat commands generations c).
        rw (get_or-set_other leaders (seat commands generations c) (seat commands generations x) c 0 n)
        (by_cases (ℕ_discrete x c) (λ (q : x ≡ c). absurd (n (ap (seat commands generations) q))) (λ (d : x ≢ c). S x (omega arith) s)))

    -- what is no sync takes none
    pub seated_on : (c : ℕ) → syncs commands c ≡ false → Seated commands generations leaders c → Seated commands generations leaders (c + 1)
    seated_on c f S x lx s = by_cases (ℕ_discrete x c) (λ (q : x ≡ c). clashing s (ap (syncs commands) q ∙ f)) (λ (d : x ≢ c). S x (omega arith) s)

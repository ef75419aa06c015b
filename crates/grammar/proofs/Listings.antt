-- What is found in a program's tokens is the program's two tables; and tokens are those of one program only. Assumes nothing.
use mathlib.Core.Path.{◌≡◌, refl, ap, ◌∙◌}
use mathlib.Core.Bool.{true≢false}
use mathlib.Core.List.{List, [], ◌∷◌, ◌++◌, map}
use mathlib.Core.Option.{none}
use Prim.Native.Nat.{ℕ, suc, ◌+◌}
use native.Mathlib.Omega.{arith}
use lib.ListN.{length}
use Rattle.spelling.specs.Machine.{Row, outcome, found}
use Rattle.grammar.specs.declared.tokens.Token.{Token}
use Rattle.grammar.specs.declared.automaton.State.TheVariants.{Word, Parting}
use Rattle.grammar.specs.Grammar as G
use Rattle.grammar.specs.Grammar.{access, signal, thread_tokens, behind, Listing, listing_tokens, row_of, all_commands, listing_rows, listing_lengths}
use Rattle.grammar.specs.Automaton.{token_moves, may_end, next_move}

-- a thread's tokens, where what follows them is found to be rows and lengths
thread_found : (cs : List G.Command) (ts : List Token) (n : ℕ) (rs : List Row) (ls : List ℕ) → found next_move may_end ts Parting 0 ≡ outcome rs ls none
    → found next_move may_end (thread_tokens cs ++ ts) Word n ≡ outcome (map row_of cs ++ rs) ((n + length cs) ∷ ls) none
unfolding found token_moves thread_tokens
thread_found [] ts n rs ls e = let z : n + 0 ≡ n = omega arith in rw (e, z)
thread_found (access k g ∷ cs) ts n rs ls e =
    let z : suc n + length cs ≡ n + suc (length cs) = omega arith in
    rw (thread_found cs ts (suc n) rs ls e, z)
thread_found (signal k b c ∷ cs) ts n rs ls e =
    let z : suc n + length cs ≡ n + suc (length cs) = omega arith in
    rw (thread_found cs ts (suc n) rs ls e, z)

map_append : (cs ds : List G.Command) → map row_of (cs ++ ds) ≡ map row_of cs ++ map row_of ds
map_append [] ds = refl
map_append (c ∷ cs) ds = ap (λ (l : List Row). row_of c ∷ l) (map_append cs ds)

behind_found : (us : List (List G.Command)) → found next_move may_end (behind us) Parting 0 ≡ outcome (map row_of (all_commands us)) (map (λ (t : List G.Command). length t) us) none
unfolding found token_moves behind all_commands
behind_found [] = refl
behind_found (u ∷ us) =
    let z : 0 + length u ≡ length u = omega arith in
    rw (thread_found u (behind us) 0 (map row_of (all_commands us)) (map (λ (t : List G.Command). length t) us) (behind_found us), map_append u (all_commands us), z)

pub listing_found : (x : Listing) → found next_move may_end (listing_tokens x) Word 0 ≡ outcome (listing_rows x) (listing_lengths x) none
unfolding all_commands
listing_found x =
    let z : 0 + length x.first ≡ length x.first = omega arith in
    thread_found x.first (behind x.others) 0 (map row_of (all_commands x.others)) (map (λ (t : List G.Command). length t) x.others) (behind_found x.others)
    ∙ rw (map_append x.first (all_commands x.others), z)

-- tokens that begin with a thread's begin with no other's
thread_one : (cs ds : List G.Command) (a b : List Token) → thread_tokens cs ++ a ≡ thread_tokens ds ++ b → (cs ≡ ds) × (a ≡ b)
unfolding thread_tokens
thread_one [] [] a b e = (refl, cc)
thread_one [] (access k g ∷ ds) a b e = absurd (true≢false cc)
thread_one [] (signal k x n ∷ ds) a b e = absurd (true≢false cc)
thread_one (access k g ∷ cs) [] a b e = absurd (true≢false cc)
thread_one (access k g ∷ cs) (access k' g' ∷ ds) a b e =
    let h = thread_one cs ds a b cc in
    let q : cs ≡ ds = h.0 in
    let i : k ≡ k' = cc in
    let j : g ≡ g' = cc in
    (cc, h.1)
thread_one (access k g ∷ cs) (signal k' x n ∷ ds) a b e = absurd (true≢false cc)
thread_one (signal k x n ∷ cs) [] a b e = absurd (true≢false cc)
thread_one (signal k x n ∷ cs) (access k' g' ∷ ds) a b e = absurd (true≢false cc)
thread_one (signal k x n ∷ cs) (signal k' x' n' ∷ ds) a b e =
    let h = thread_one cs ds a b cc in
    let q : cs ≡ ds = h.0 in
    let i : k ≡ k' = cc in
    let j : x ≡ x' = cc in
    let l : n ≡ n' = cc in
    (cc, h.1)

behind_one : (us vs : List (List G.Command)) → behind us ≡ behind vs → us ≡ vs
unfolding behind
behind_one [] [] e = refl
behind_one [] (v ∷ vs) e = absurd (true≢false cc)
behind_one (u ∷ us) [] e = absurd (true≢false cc)
behind_one (u ∷ us) (v ∷ vs) e =
    let h = thread_one u v (behind us) (behind vs) cc in
    let p : u ≡ v = h.0 in
    let q : us ≡ vs = behind_one us vs h.1 in
    cc

program : List G.Command → List (List G.Command) → Listing
program t ts = record { first = t; others = ts }

pub listing_one : (x y : Listing) → listing_tokens x ≡ listing_tokens y → x ≡ y
unfolding program
listing_one x y e =
    let h = thread_one x.first y.first (behind x.others) (behind y.others) e in
    ap (λ (t : List G.Command). program t x.others) h.0 ∙ ap (program y.first) (behind_one x.others y.others h.1)

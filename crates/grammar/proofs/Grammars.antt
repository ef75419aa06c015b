-- The automaton takes the tokens of programs and no others, and from each of its states a text can be ended. Assumes nothing.
use mathlib.Core.Path.{◌≡◌, refl, ap, sym, subst, ◌∙◌}
use mathlib.Core.Bool.{true, true≢false}
use mathlib.Core.List.{List, [], ◌∷◌, ◌++◌}
use Prim.Native.Nat.{ℕ}
use native.Mathlib.Omega.{arith}
use Rattle.spelling.specs.Bytes.{class_of, run}
use Rattle.spelling.specs.Numbers.{most_number, decimal, Means}
use Rattle.spelling.specs.Spells.{none, gap, token}
use Rattle.spelling.proofs.Laws.{Lexer, Grammar, To, Goes, Walk}
use Rattle.spelling.proofs.Machines.{found_none}
use Rattle.spelling.proofs.Spelt.{spelt_tokens}
use Rattle.grammar.specs.declared.tokens.Token.{Token}
use Rattle.grammar.specs.declared.tokens.Token.TheVariants.{Access, Signal, Return, Number, Semi, Bars}
use Rattle.grammar.specs.declared.automaton.State.{State}
use Rattle.grammar.specs.declared.automaton.State.TheVariants.{Word, Address, Barrier, Count, Close, Parting}
use Rattle.grammar.specs.Tokens.{size_of, token_of}
use Rattle.grammar.specs.Spelling.{Spelling, extends, return_word}
use Rattle.grammar.specs.Grammar as G
use Rattle.grammar.specs.Grammar.{access, signal, thread_tokens, behind, listing_tokens, Whole, Spells}
use Rattle.grammar.specs.Automaton.{token_moves, may_end, move, next_move}
use Rattle.grammar.specs.Claims.{OneListing}
use Rattle.grammar.proofs.Lexes.{Fits, token_found, size_found, some, tight, spelt, apart, pos, most, blank_ends}
use Rattle.grammar.proofs.Steps.{by_step}
use Rattle.grammar.proofs.Listings.{listing_found, listing_one}

-- the tokens of a program from a thread's command on
abbrev rest : List G.Command → List (List G.Command) → List Token
rest cs us = thread_tokens cs ++ behind us

-- what completes a program from a state on
abbrev Left : State → List Token → Type 0
Left Word ts = (cs : List G.Command) × (us : List (List G.Command)) × (ts ≡ rest cs us)
Left (Address k) ts = (g : ℕ) × (cs : List G.Command) × (us : List (List G.Command)) × (ts ≡ Number g ∷ Semi ∷ rest cs us)
Left (Barrier k) ts = (b : ℕ) × (n : ℕ) × (cs : List G.Command) × (us : List (List G.Command)) × (ts ≡ Number b ∷ Number n ∷ Semi ∷ rest cs us)
Left (Count k b) ts = (n : ℕ) × (cs : List G.Command) × (us : List (List G.Command)) × (ts ≡ Number n ∷ Semi ∷ rest cs us)
Left Close ts = (cs : List G.Command) × (us : List (List G.Command)) × (ts ≡ Semi ∷ rest cs us)
Left Parting ts = (us : List (List G.Command)) × (ts ≡ behind us)

-- one token back
module _ (u : State) (ts : List Token) (h : Left u ts) where
  on : (v : State) → v ≡ u → Left v ts
  on v e = subst (λ (w : State). Left w ts) (sym e) h

  before : (t : Token) {us : List Token} → ts ≡ us → t ∷ ts ≡ t ∷ us
  before t q = ap (λ (l : List Token). t ∷ l) q

  back : (s : State) (t : Token) → Goes next_move s t u → Left s (t ∷ ts)
  unfolding thread_tokens behind
  back =
      by_step (λ s t m. To (move m) u → Left s (t ∷ ts)) (λ s t g. absurd g)
      (λ k e. let (g, cs, us, q) = on (Address k) e in (access k g ∷ cs, us, before (Access k) q))
      (λ k e. let (b, n, cs, us, q) = on (Barrier k) e in (signal k b n ∷ cs, us, before (Signal k) q))
      (λ e. let (us, q) = on Parting e in ([], us, before Return q))
      (λ k g e. let (cs, us, q) = on Close e in (g, cs, us, before (Number g) q))
      (λ k b e. let (n, cs, us, q) = on (Count k b) e in (b, n, cs, us, before (Number b) q))
      (λ k b n e. let (cs, us, q) = on Close e in (n, cs, us, before (Number n) q))
      (λ e. let (cs, us, q) = on Word e in (cs, us, before Semi q))
      (λ e. let (cs, us, q) = on Word e in (cs ∷ us, before Bars q))

-- a text may end after a thread only
left_end : (s : State) → may_end s ≡ true → Left s []
unfolding behind
left_end Word e = absurd (true≢false (sym e))
left_end (Address k) e = absurd (true≢false (sym e))
left_end (Barrier k) e = absurd (true≢false (sym e))
left_end (Count k b) e = absurd (true≢false (sym e))
left_end Close e = absurd (true≢false (sym e))
left_end Parting e = ([], refl)

left : (ts : List Token) (s u : State) → Walk next_move ts s u → may_end u ≡ true → Left s ts
left [] s u w e = left_end s (ap may_end w ∙ e)
left (t ∷ ts) s u (v, g, w) e = back v ts (left ts v u w e) s t g

sound : (ts : List Token) (u : State) → Walk next_move ts Word u → may_end u ≡ true → Whole ts
sound ts u w e = let (cs, us, q) = left ts Word u w e in (record { first = cs; others = us }, q)

complete : (ts : List Token) → Whole ts → (u : State) × Walk next_move ts Word u × (may_end u ≡ true)
complete ts (x, e) = rw e (found_none next_move may_end (listing_tokens x) Word 0 (rw (listing_found x)))

-- bytes that end a text
return_spelt : Spells return_word (Return ∷ [])
unfolding run
return_spelt = token return_word return_word [] Return refl refl refl none

close_spelt : Spells (59 ∷ return_word) (Semi ∷ Return ∷ [])
unfolding run
close_spelt = token (59 ∷ return_word) (59 ∷ []) return_word Semi refl refl refl return_spelt

part_spelt : Spells (124 ∷ 124 ∷ return_word) (Bars ∷ Return ∷ [])
unfolding run
part_spelt = token (124 ∷ 124 ∷ return_word) (124 ∷ 124 ∷ []) return_word Bars refl refl refl return_spelt

zero_means : Means (48 ∷ []) 0
unfolding run class_of decimal most_number
zero_means = record { digits = refl; some = omega arith; leading = λ _. refl; value = refl; small = omega arith }

number_spelt : Spells (48 ∷ 59 ∷ return_word) (Number 0 ∷ Semi ∷ Return ∷ [])
unfolding run class_of
number_spelt = token (48 ∷ 59 ∷ return_word) (48 ∷ []) (59 ∷ return_word) (Number 0) zero_means refl refl close_spelt

two_spelt : Spells (48 ∷ 32 ∷ 48 ∷ 59 ∷ return_word) (Number 0 ∷ Number 0 ∷ Semi ∷ Return ∷ [])
unfolding run class_of
two_spelt = token (48 ∷ 32 ∷ 48 ∷ 59 ∷ return_word) (48 ∷ []) (32 ∷ 48 ∷ 59 ∷ return_word) (Number 0) zero_means refl refl (gap 32 refl number_spelt)

live : (s : State) → (w : List ℕ) × (ts : List Token) × (u : State) × Spells w ts × Walk next_move ts s u × (may_end u ≡ true)
unfolding token_moves
live Word = (return_word, Return ∷ [], Parting, return_spelt, (Parting, refl, refl), refl)
live (Address k) =
    (48 ∷ 59 ∷ return_word, Number 0 ∷ Semi ∷ Return ∷ [], Parting, number_spelt, (Close, refl, (Word, refl, (Parting, refl, refl))), refl)
live (Barrier k) =
    (48 ∷ 32 ∷ 48 ∷ 59 ∷ return_word, Number 0 ∷ Number 0 ∷ Semi ∷ Return ∷ [], Parting, two_spelt, (Count k 0, refl, (Close, refl, (Word, refl, (Parting, refl, refl)))), refl)
live (Count k b) =
    (48 ∷ 59 ∷ return_word, Number 0 ∷ Semi ∷ Return ∷ [], Parting, number_spelt, (Close, refl, (Word, refl, (Parting, refl, refl))), refl)
live Close = (59 ∷ return_word, Semi ∷ Return ∷ [], Parting, close_spelt, (Word, refl, (Parting, refl, refl)), refl)
live Parting = (124 ∷ 124 ∷ return_word, Bars ∷ Return ∷ [], Parting, part_spelt, (Word, refl, (Parting, refl, refl)), refl)

-- what goes on is a token of the notation
fits : (s : State) (t : Token) (u : State) → Goes next_move s t u → Fits t
fits s t u =
    by_step (λ s t m. To (move m) u → Fits t) (λ s t g. absurd g) (λ k e. tt) (λ k e. tt) (λ e. tt) (λ k g e. tt) (λ k b e. tt) (λ k b n e. tt) (λ e. tt) (λ e. tt)
    s t

pub lexer : Lexer size_of token_of Spelling extends Fits
lexer =
    record {
      token_found = token_found;
      size_found = size_found;
      some = some;
      tight = tight;
      spelt = spelt;
      apart = apart;
      pos = pos;
      most = most;
      blank_ends = blank_ends;
    }

pub grammar : Grammar next_move may_end Word Fits Spells Whole
grammar = record { fits = fits; sound = sound; complete = complete; live = live }

pub one_listing : OneListing
one_listing text x y d e = listing_one x y (sym (spelt_tokens lexer d) ∙ spelt_tokens lexer e)

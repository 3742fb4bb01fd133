-- A text has no more lines than bytes.
use Rattle.std.proofs.Common.{◌≡◌, ℕ, suc, ◌+◌, ◌<◌, ◌≤◌, Bool, true, List, [], ◌∷◌, length, length-append, Some, refl, ap, ◌∙◌, arith}
use Rattle.sq_text.specs.declared.place.Place.{Place}
use Rattle.sq_lexer.specs.declared.token.Kind.{Kind}
use Rattle.sq_lexer.specs.declared.token.Sign.{Sign}
use Rattle.sq_lexer.specs.declared.token.Token.{Token}
use Rattle.sq_lexer.specs.Bytes.{first_is}
use Rattle.sq_lexer.specs.Signs.{spelling}
use Rattle.sq_lexer.specs.Tokens.{Stands, a_word, a_number, a_sign, TokensFrom, at_end, after_gap, after_token}
use Rattle.sq_lexer.specs.Faults.{most_plan_bytes}
use Rattle.sq_lexer.proofs.SignLemmas.{Shape, of_two, of_one, shape}
use Rattle.sq_plantext.specs.declared.text.PlanText.{PlanText}
use Rattle.sq_plantext.specs.Grammar as grammar
use Rattle.sq_plantext.specs.Grammar.{Leveled, tokens_of, Phrase, Derives, most_levels}
use Rattle.sq_planfile.specs.Faults.{Writes}

-- ---- bytes and tokens

some_first : (f : ℕ → Bool) (w : List ℕ) → first_is f w ≡ true → 1 ≤ length w
some_first f [] e = absurd (cc)
some_first f (b ∷ w) e = omega arith

some_spelled : (s : Sign) → Shape s → 1 ≤ length (spelling s)
some_spelled s (of_two a b e p o) = let n : length (spelling s) ≡ 2 = ap length e in omega (arith, n)
some_spelled s (of_one a e p o) = let n : length (spelling s) ≡ 1 = ap length e in omega (arith, n)

some_byte : {front rest : List ℕ} {k : Kind} → Stands front rest (Some k) → 1 ≤ length front
some_byte (a_word {word = w} f l r) = some_first _ w f
some_byte (a_number {digits = w} f l r n) = some_first _ w f
some_byte (a_sign {sign = s} l c) = some_spelled s (shape s)

few_tokens : {p : Place} {text : List ℕ} {ts : List Token} → TokensFrom p text ts → length ts ≤ length text + 1
few_tokens at_end = omega arith
few_tokens (after_gap {text = text} {front = front} {rest = rest} e s t) =
    let n : length text ≡ length front + length rest = ap length e ∙ length-append front rest in
    let h = few_tokens t in
    omega (arith, n, h)
few_tokens (after_token {text = text} {front = front} {rest = rest} e s t) =
    let n : length text ≡ length front + length rest = ap length e ∙ length-append front rest in
    let one = some_byte s in
    let h = few_tokens t in
    omega (arith, n, one, h)

-- ---- tokens and lines

-- the buffers and the leaves of a phrase
abbrev lines_in : Phrase → ℕ
lines_in (grammar.Buffers bs) = length bs
lines_in (grammar.Leaves ls) = length ls
lines_in (grammar.APlan x) = length x.buffers + length x.leaves
lines_in _ = 0

few_lines : {P : Phrase} {i j : List Leveled} → Derives P i j → lines_in P + length j ≤ length i
few_lines grammar.no_more_numbers = omega arith
few_lines (grammar.one_more_number r) = let h = few_lines r in omega (arith, h)
few_lines grammar.empty_list = omega arith
few_lines (grammar.a_list r) = let h = few_lines r in omega (arith, h)
few_lines grammar.a_number = omega arith
few_lines grammar.a_negative = omega arith
few_lines grammar.the_lowest = omega arith
few_lines grammar.a_slot = omega arith
few_lines (grammar.a_view e r s t) = let h = few_lines r in let k = few_lines s in let m = few_lines t in omega (arith, h, k, m)
few_lines grammar.no_more_views = omega arith
few_lines (grammar.one_more_view r s) = let h = few_lines r in let k = few_lines s in omega (arith, h, k)
few_lines grammar.no_views = omega arith
few_lines (grammar.some_views r s) = let h = few_lines r in let k = few_lines s in omega (arith, h, k)
few_lines (grammar.a_copy r s) = let h = few_lines r in let k = few_lines s in omega (arith, h, k)
few_lines (grammar.a_fill e r s) = let h = few_lines r in let k = few_lines s in omega (arith, h, k)
few_lines (grammar.an_acc e f r s) = let h = few_lines r in let k = few_lines s in omega (arith, h, k)
few_lines (grammar.a_run r s) = let h = few_lines r in let k = few_lines s in omega (arith, h, k)
few_lines (grammar.an_event r) = let h = few_lines r in omega (arith, h)
few_lines (grammar.a_seq r) = let h = few_lines r in omega (arith, h)
few_lines (grammar.a_par r) = let h = few_lines r in omega (arith, h)
few_lines (grammar.a_scope r s) = let h = few_lines r in let k = few_lines s in omega (arith, h, k)
few_lines grammar.no_terms = omega arith
few_lines (grammar.one_more_term r s) = let h = few_lines r in let k = few_lines s in omega (arith, h, k)
few_lines grammar.no_nodes = omega arith
few_lines (grammar.one_more_node r) = let h = few_lines r in omega (arith, h)
few_lines grammar.no_buffers = omega arith
few_lines (grammar.one_more_buffer r) = let h = few_lines r in omega (arith, h)
few_lines (grammar.a_binding r) = let h = few_lines r in omega (arith, h)
few_lines grammar.no_more_bindings = omega arith
few_lines (grammar.one_more_binding r s) = let h = few_lines r in let k = few_lines s in omega (arith, h, k)
few_lines grammar.no_bindings = omega arith
few_lines (grammar.some_bindings r s) = let h = few_lines r in let k = few_lines s in omega (arith, h, k)
few_lines grammar.no_leaves = omega arith
few_lines (grammar.one_more_leaf {l = l} task r t e s) = let h = few_lines r in let k = few_lines s in let n = length-append task l in omega (arith, h, k, n)
few_lines grammar.no_arrays = omega arith
few_lines (grammar.one_more_array e f r s) = let h = few_lines r in let k = few_lines s in omega (arith, h, k)
few_lines (grammar.a_plan r s t u v) = let a = few_lines r in let b = few_lines s in let c = few_lines t in let d = few_lines u in let e = few_lines v in omega (arith, a, b, c, d, e)

tokens_length : (ts : List Leveled) → length (tokens_of ts) ≡ length ts
tokens_length [] = refl
tokens_length (t ∷ ts) = ap suc (tokens_length ts)

-- so many lines can be numbered with 32 bits
pub few_written : (text : List ℕ) (x : PlanText) → Writes text x → length x.buffers + length x.leaves < 4294967296
unfolding most_plan_bytes
few_written text x w =
    let lines = few_lines w.grammar.text.1 in
    let all = tokens_length w.grammar.leveled in
    let same = ap length w.grammar.tokens in
    let tokens = few_tokens w.tokens_of in
    let fits : length text ≤ 16777216 = w.fits in
    omega (arith, lines, all, same, tokens, fits)

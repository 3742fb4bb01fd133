-- The names of a program that a text stands for are words.
use Rattle.std.proofs.Common.{◌≡◌, ℕ, zero, suc, true, Some, List, [], ◌∷◌, ◌++◌, map, sym, subst}
use Rattle.std.specs.Prelude.{slice_get}
use Rattle.std.specs.List.{All, flat_map, list_all}
use Rattle.sq_text.specs.Names.{Bytes}
use Rattle.sq_text.specs.declared.word.Word.{Word}
use Rattle.sq_lexer.specs.Bytes.{is_letter, is_in_word, first_is}
use Rattle.sq_lexer.specs.Tokens.{AreTokens}
use Rattle.sq_lexer.specs.declared.token.Token.{Token}
use Rattle.sq_ast.specs.Grammar.{StandsFor, joined}
use Rattle.sq_ast.specs.Symbols as symbol
use Rattle.sq_ast.specs.Symbols.{Symbol, symbols}
use Rattle.sq_ast.specs.Words as spelled
use Rattle.sq_ast.specs.Words.{words, variant_words, param_words, extent_words, decl_words, body_words}
use Rattle.sq_ast.specs.declared.program.Decl.{Decl}
use Rattle.sq_ast.specs.declared.program.Decl.TheVariants as decl
use Rattle.sq_ast.specs.declared.program.Extent.{Extent}
use Rattle.sq_ast.specs.declared.program.Extent.TheVariants as extent
use Rattle.sq_ast.specs.declared.program.Param.{Param}
use Rattle.sq_ast.specs.declared.program.Program.{Program}
use Rattle.sq_ast.specs.declared.program.Variant.{Variant}
use Rattle.sq_ast.proofs.Fronts.{AreFit, fit}
use Rattle.sq_ast.proofs.TextWords.{text_words}
use Rattle.sq_planfile.specs.Written.{sizes_in, tunables_in, names_in}
use Rattle.sq_compiled_laws.proofs.LeafNames.{all_none, all_more, all_joined}

-- a word
pub record IsSpelled (w : Bytes) : Type 0 where
  pub letter : first_is is_letter w ≡ true
  pub inside : list_all is_in_word w ≡ true

abbrev pub Spelled : List Word → Type 0
Spelled [] = Unit {0}
Spelled (w ∷ ws) = IsSpelled w.name × Spelled ws

front : (xs ys : List Word) → Spelled (xs ++ ys) → Spelled xs
front [] ys h = tt
front (x ∷ xs) ys h = (h.0, front xs ys h.1)

back : (xs ys : List Word) → Spelled (xs ++ ys) → Spelled ys
back [] ys h = h
back (x ∷ xs) ys h = back xs ys h.1

symbols_spelled : (ss : List Symbol) → AreFit ss → Spelled (spelled.names_in ss)
symbols_spelled [] h = tt
symbols_spelled (symbol.Word p w ∷ ss) h =
    (record { letter = h.0.word.letter; inside = h.0.word.inside }, symbols_spelled ss h.1)
symbols_spelled (symbol.Number p n ∷ ss) h = symbols_spelled ss h.1
symbols_spelled (symbol.Key p k ∷ ss) h = symbols_spelled ss h.1
symbols_spelled (symbol.Mark p s ∷ ss) h = symbols_spelled ss h.1
symbols_spelled (symbol.Last p ∷ ss) h = symbols_spelled ss h.1

program_spelled : (most : ℕ) (text : List ℕ) (tokens : List Token) (p : Program) → AreTokens text tokens
    → StandsFor most (symbols tokens) p → Spelled (words p)
program_spelled most text tokens p are stands =
    subst Spelled (sym (text_words most (symbols tokens) p stands)) (symbols_spelled (symbols tokens) (fit are))

-- the words of one of a list
one_of : {A : Type 0} (f : A → List Word) (xs : List A) → Spelled (joined (map f xs)) → (i : ℕ) (x : A)
    → slice_get xs i ≡ Some x → Spelled (f x)
one_of f [] h i x e = absurd (cc e)
one_of f (y ∷ xs) h zero x e =
    let is : y ≡ x = cc e in subst (λ z. Spelled (f z)) is (front (f y) (joined (map f xs)) h)
one_of f (y ∷ xs) h (suc i) x e = one_of f xs (back (f y) (joined (map f xs)) h) i x e

extents_spelled : (es : List Extent) → Spelled (joined (map extent_words es)) → All IsSpelled (flat_map sizes_in es)
extents_spelled [] h = all_none IsSpelled
extents_spelled (extent.Size place name ∷ es) h =
    all_more IsSpelled name (flat_map sizes_in es) h.0 (extents_spelled es h.1)
extents_spelled (extent.Fixed place n ∷ es) h = extents_spelled es h

params_spelled : (ps : List Param) → Spelled (joined (map param_words ps))
    → All IsSpelled (flat_map (λ p. flat_map sizes_in p.extents) ps)
params_spelled [] h = all_none IsSpelled
params_spelled (p ∷ ps) h =
    all_joined IsSpelled (flat_map sizes_in p.extents) (flat_map (λ q. flat_map sizes_in q.extents) ps)
    (extents_spelled p.extents (front (joined (map extent_words p.extents)) (joined (map param_words ps)) h.1))
    (params_spelled ps (back (joined (map extent_words p.extents)) (joined (map param_words ps)) h.1))

tunables_spelled : (d : Decl) → Spelled (decl_words d) → All IsSpelled (tunables_in d)
tunables_spelled (decl.Tunable place name) h = all_more IsSpelled name [] h.0 (all_none IsSpelled)
tunables_spelled (decl.List place name) h = all_none IsSpelled
tunables_spelled (decl.Local place elem name es) h = all_none IsSpelled
tunables_spelled (decl.Rchop place name array sizes) h = all_none IsSpelled
tunables_spelled (decl.Ichop place name array starts ends) h = all_none IsSpelled

decls_spelled : (ds : List Decl) → Spelled (joined (map decl_words ds)) → All IsSpelled (flat_map tunables_in ds)
decls_spelled [] h = all_none IsSpelled
decls_spelled (d ∷ ds) h =
    all_joined IsSpelled (tunables_in d) (flat_map tunables_in ds)
    (tunables_spelled d (front (decl_words d) (joined (map decl_words ds)) h))
    (decls_spelled ds (back (decl_words d) (joined (map decl_words ds)) h))

variant_spelled : (v : Variant) → Spelled (variant_words v) → All IsSpelled (names_in v)
variant_spelled v h =
    let params = joined (map param_words v.params) in
    let decls = joined (map decl_words v.decls) in
    let later = back params (decls ++ body_words v.body) h.1 in
    all_joined IsSpelled (flat_map (λ p. flat_map sizes_in p.extents) v.params) (flat_map tunables_in v.decls)
    (params_spelled v.params (front params (decls ++ body_words v.body) h.1))
    (decls_spelled v.decls (front decls (body_words v.body) later))

pub names_spelled : (most : ℕ) (text : List ℕ) (tokens : List Token) (p : Program) → AreTokens text tokens
    → StandsFor most (symbols tokens) p → (i : ℕ) (v : Variant) → slice_get p.tasks i ≡ Some v
    → All IsSpelled (names_in v)
names_spelled most text tokens p are stands i v e =
    variant_spelled v (one_of variant_words p.tasks (program_spelled most text tokens p are stands) i v e)

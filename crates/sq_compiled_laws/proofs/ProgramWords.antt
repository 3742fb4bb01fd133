-- The names in a program that a text stands for are words.
use Rattle.std.proofs.Common.{ℕ, List, [], ◌∷◌, ◌++◌, map, sym, subst}
use Rattle.sq_lexer.specs.declared.token.Token.{Token}
use Rattle.sq_lexer.specs.Tokens.{AreTokens}
use Rattle.sq_lexer.specs.Text.declared.word.Word as tree
use Rattle.sq_ast.specs.declared.program.Extent.{Extent}
use Rattle.sq_ast.specs.declared.program.Extent.TheVariants as extent
use Rattle.sq_ast.specs.declared.program.Param.{Param}
use Rattle.sq_ast.specs.declared.program.Decl.{Decl}
use Rattle.sq_ast.specs.declared.program.Decl.TheVariants as decl
use Rattle.sq_ast.specs.declared.program.Program.{Program}
use Rattle.sq_ast.specs.declared.program.Variant.{Variant}
use Rattle.sq_ast.specs.Symbols.{Symbol, Word, Number, Key, Mark, Last, symbols}
use Rattle.sq_ast.specs.Grammar.{joined, StandsFor}
use Rattle.sq_ast.specs.Words.{names_in, variant_words, param_words, decl_words, extent_words, body_words}
use Rattle.sq_ast.proofs.Fronts as fronts
use Rattle.sq_ast.proofs.Fronts.{AreFit, fit}
use Rattle.sq_ast.proofs.TextWords.{text_words}
use Rattle.sq_filed_laws.specs.LayoutLaws.Readable.{IsWord}
use Rattle.sq_compiled_laws.proofs.Each.{Each, left, right, of_joined, every}

-- a word of the tree whose bytes are a word's
abbrev pub Named : tree.Word → Type 0
Named w = IsWord w.name

is_word : (w : List ℕ) → fronts.IsName w → IsWord w
is_word w h = record { letter = h.word.letter; inside = h.word.inside }

symbol_words : (ts : List Symbol) → AreFit ts → Each Named (names_in ts)
symbol_words [] h = tt
symbol_words (Word p w ∷ ts) h = (is_word w h.0, symbol_words ts h.1)
symbol_words (Number p n ∷ ts) h = symbol_words ts h.1
symbol_words (Key p k ∷ ts) h = symbol_words ts h.1
symbol_words (Mark p s ∷ ts) h = symbol_words ts h.1
symbol_words (Last p ∷ ts) h = symbol_words ts h.1

-- ---- the names of a task

abbrev pub IsSize : Extent → Type 0
IsSize (extent.Size place name) = IsWord name
IsSize (extent.Fixed place n) = Unit {0}

-- the name of a declaration, and those of a parameter: its own and its sizes'
abbrev pub IsDecl : Decl → Type 0
IsDecl (decl.Tunable place name) = IsWord name
IsDecl (decl.List place name) = IsWord name
IsDecl (decl.Local place elem name extents) = IsWord name
IsDecl (decl.Rchop place name array sizes) = IsWord name
IsDecl (decl.Ichop place name array starts ends) = IsWord name

pub record IsParam (p : Param) : Type 0 where
  pub name : IsWord p.name
  pub sizes : Each IsSize p.extents

pub record HasWords (v : Variant) : Type 0 where
  pub task : IsWord v.task
  pub params : Each IsParam v.params
  pub decls : Each IsDecl v.decls

is_size : (x : Extent) → Each Named (extent_words x) → IsSize x
is_size (extent.Size place name) h = h.0
is_size (extent.Fixed place n) h = tt

is_param : (p : Param) → Each Named (param_words p) → IsParam p
is_param p h = record {
  name = h.0;
  sizes = every (λ x. Each Named (extent_words x)) IsSize is_size p.extents (of_joined Named extent_words p.extents h.1);
}

is_decl : (d : Decl) → Each Named (decl_words d) → IsDecl d
is_decl (decl.Tunable place name) h = h.0
is_decl (decl.List place name) h = h.0
is_decl (decl.Local place elem name extents) h = h.0
is_decl (decl.Rchop place name array sizes) h = h.0
is_decl (decl.Ichop place name array starts ends) h = h.0

has_words : (v : Variant) → Each Named (variant_words v) → HasWords v
has_words v h =
    let params = joined (map param_words v.params) in
    let decls = joined (map decl_words v.decls) in
    let own = left Named params (decls ++ body_words v.body) h.1 in
    let rest = left Named decls (body_words v.body) (right Named params (decls ++ body_words v.body) h.1) in
    record {
      task = h.0;
      params = every (λ p. Each Named (param_words p)) IsParam is_param v.params (of_joined Named param_words v.params own);
      decls = every (λ d. Each Named (decl_words d)) IsDecl is_decl v.decls (of_joined Named decl_words v.decls rest);
    }

-- ---- of all tasks

pub program_words : (most : ℕ) (text : List ℕ) (ts : List Token) (p : Program) → AreTokens text ts → StandsFor most (symbols ts) p → Each HasWords p.tasks
program_words most text ts p read stands =
    every (λ v. Each Named (variant_words v)) HasWords has_words p.tasks
    (of_joined Named variant_words p.tasks (subst (Each Named) (sym (text_words most (symbols ts) p stands)) (symbol_words (symbols ts) (fit read))))

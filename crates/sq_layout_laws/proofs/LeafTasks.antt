-- A leaf's task before what is read already. It is read there as it is in a program, with levels of its own; and the
-- tokens behind it are those that were read.
use Rattle.std.proofs.Common.{◌≡◌, ℕ, ◌+◌, List, [], ◌∷◌, ◌++◌, Ok, refl, sym, ◌∙◌, ap, subst, arith}
use Rattle.std.specs.List.{All}
use Rattle.std.proofs.lemmas.List.Elements.{All-nil, All-cons, All-contains}
use Rattle.sq_text.specs.declared.place.Place.{Place}
use Rattle.sq_lexer.specs.declared.token.Token.{Token}
use Rattle.sq_ast.specs.declared.program.Variant.{Variant}
use Rattle.sq_ast.specs.declared.program.VariantKind.TheVariants.{Leaf}
use Rattle.sq_ast.specs.Symbols.{Symbol, symbol_in}
use Rattle.sq_ast.specs.Symbols as seen_as
use Rattle.sq_ast.specs.Grammar as ast
use Rattle.sq_ast.specs.Canonical.{spell_variant}
use Rattle.sq_ast.specs.Unplaced.{bare_variant}
use Rattle.sq_ast.proofs.ReadBack as ast_text
use Rattle.sq_ast.proofs.Fronts as ast_front
use Rattle.sq_ast.proofs.Fronts.{Allowed, AreFit, all_allowed, fit}
use Rattle.sq_ast.proofs.Spelled.{Each, none, more}
use Rattle.sq_ast.proofs.Tasks.{TaskSays}
use Rattle.sq_ast.proofs.Canons.{canon}
use Rattle.sq_reader.specs.Reading.{leaf}
use Rattle.sq_reader.proofs.LeavesAlone.{LeafFound, leaf_found, leaf_complete, plain}
use Rattle.sq_plantext.specs.Grammar.{most_levels, round_tasks, Leveled, tokens_of, symbols, unleveled, Within}
use Rattle.sq_layout_laws.specs.Readable.{IsOfText}
use Rattle.sq_layout_laws.proofs.Backwards.{Reads, seen, under}
use Rattle.sq_layout_laws.proofs.Fronted.{Ready}
use Rattle.sq_layout_laws.proofs.Keywords.{tokens_same}

-- ---- tokens as symbols

kinds_unleveled : (ts : List Leveled) → ast.kinds (unleveled ts) ≡ seen_as.symbols (tokens_of ts)
kinds_unleveled [] = refl
kinds_unleveled (t ∷ ts) = ap (λ ss. symbol_in t.token.place t.token.kind ∷ ss) (kinds_unleveled ts)

kinds_append : (a b : List ast.Leveled) → ast.kinds (a ++ b) ≡ ast.kinds a ++ ast.kinds b
kinds_append [] b = refl
kinds_append (t ∷ a) b = ap (λ ss. t.kind ∷ ss) (kinds_append a b)

tokens_append : (a b : List Leveled) → tokens_of (a ++ b) ≡ tokens_of a ++ tokens_of b
tokens_append [] b = refl
tokens_append (t ∷ a) b = ap (λ ts. t.token ∷ ts) (tokens_append a b)

kinds_plain : (js : List Symbol) → ast.kinds (plain js) ≡ js
kinds_plain [] = refl
kinds_plain (s ∷ js) = ap (λ ss. s ∷ ss) (kinds_plain js)

plain_unleveled : (ts : List Leveled) → plain (ast.kinds (unleveled ts)) ≡ unleveled ts
plain_unleveled [] = refl
plain_unleveled (t ∷ ts) = ap (λ us. ast.at (symbol_in t.token.place t.token.kind) 0 ∷ us) (plain_unleveled ts)

unleveled_within : (most : ℕ) (l : List Leveled) → ast.Within most (unleveled l)
unleveled_within most [] = tt
unleveled_within most (t ∷ l) = (omega arith, unleveled_within most l)

within_both : (most : ℕ) (a b : List Leveled) → Within most a → Within most b → Within most (a ++ b)
within_both most [] b w u = u
within_both most (t ∷ a) b w u = (w.0, within_both most a b w.1 u)

-- the tokens of these symbols, and what is left after them
record Split (most : ℕ) (front : List ast.Leveled) (i : List Token) (js : List Symbol) : Type 0 where
  task : List Leveled
  rest : List Token
  is : i ≡ tokens_of task ++ rest
  same : symbols task ≡ front
  left : seen_as.symbols rest ≡ js
  within : Within most task

split : (most : ℕ) (front : List ast.Leveled) (i : List Token) (js : List Symbol) → ast.kinds front ++ js ≡ seen_as.symbols i → ast.Within most front → Split most front i js
split most [] i js e w = record { task = []; rest = i; is = refl; same = refl; left = sym e; within = tt }
split most (x ∷ front) [] js e w = absurd (cc)
split most (x ∷ front) (t ∷ ts) js e w =
    let first : x.kind ≡ symbol_in t.place t.kind = cc in
    let later : ast.kinds front ++ js ≡ seen_as.symbols ts = cc in
    let s = split most front ts js later w.1 in
    record {
      task = record { token = t; level = x.level } ∷ s.task;
      rest = s.rest;
      is = ap (λ ts. t ∷ ts) s.is;
      same = ap (λ k. ast.at k x.level ∷ symbols s.task) (sym first) ∙ ap (λ ts. x ∷ ts) s.same;
      left = s.left;
      within = (w.0, s.within);
    }

-- ---- tasks of programs

module _ (placing : List ℕ → Place) where
  each_holds : (P : Variant → Type 0) {n : ast.Count} {vs : List Variant} → Each placing ast.most_levels ast.Task P n vs → All P vs
  each_holds P none = All-nil P
  each_holds P (more {v = v} {vs = vs} q h hs) = All-cons P v vs h (each_holds P hs)

  -- it is read again before any text
  said : (v : Variant) → IsOfText v → TaskSays placing ast.most_levels 0 v
  said v h =
      let its = h.given.stand in
      let allowed : Allowed ast.most_levels its.leveled = all_allowed ast.most_levels its.leveled its.within (subst AreFit (sym its.tokens) (fit h.given.read)) in
      let c = canon placing ast.most_levels its.text.1 allowed in
      All-contains (TaskSays placing ast.most_levels 0) h.program.tasks v (each_holds (TaskSays placing ast.most_levels 0) c.0) h.there

  abbrev behind : {rest : List ℕ} → Ready placing most_levels rest → ast_front.Ready placing ast.most_levels rest
  behind {rest = rest} r = record {
    from = unleveled r.from;
    within = unleveled_within ast.most_levels r.from;
    reads = subst (ast_text.Reads placing rest) (sym (kinds_unleveled r.from)) (seen r.reads);
  }

-- ---- where they stand in a plan file

all_levels : ast.most_levels + round_tasks ≡ most_levels
unfolding ast.most_levels most_levels
all_levels = refl

-- The text has the tokens of such a task, but for its places, and then those that are left.
pub record Tasked (placing : List ℕ → Place) (v : Variant) (text : List ℕ) (left : List Leveled) : Type 0 where
  pub variant : Variant
  pub task : List Leveled
  pub same : bare_variant variant ≡ bare_variant v
  pub leaf : variant.kind ≡ Leaf
  pub within : Within most_levels (task ++ left)
  pub reads : Reads placing text (tokens_of (task ++ left))
  pub derived : ast.Derives (ast.One ast.Task round_tasks variant) (symbols task ++ unleveled left) (unleveled left)

module _ (placing : List ℕ → Place) (v u : Variant) (same : bare_variant u ≡ bare_variant v) (leaf_ : u.kind ≡ Leaf) (text : List ℕ) where
  -- from what the parser of programs reads of them
  tasked_by : (left : List Leveled) → Within most_levels left → (ts : List Token) → Reads placing text ts → (h : LeafFound most_levels round_tasks u (seen_as.symbols ts) (ast.kinds (unleveled left)))
      → Split most_levels h.front ts (ast.kinds (unleveled left)) → Tasked placing v text left
  tasked_by left w ts r h s =
      let rest : s.rest ≡ tokens_of left = tokens_same s.rest (tokens_of left) (s.left ∙ kinds_unleveled left) in
      let all_ : ts ≡ tokens_of (s.task ++ left) = s.is ∙ ap (λ us. tokens_of s.task ++ us) rest ∙ sym (tokens_append s.task left) in
      let whole : ast.Derives (ast.One ast.Task round_tasks u) (h.front ++ unleveled left) (unleveled left) =
      subst (λ us. ast.Derives (ast.One ast.Task round_tasks u) (h.front ++ us) us) (plain_unleveled left) h.derives in
      record {
        variant = u;
        task = s.task;
        same = same;
        leaf = leaf_;
        within = within_both most_levels s.task left s.within w;
        reads = subst (Reads placing text) all_ r;
        derived = subst (λ front. ast.Derives (ast.One ast.Task round_tasks u) (front ++ unleveled left) (unleveled left)) (sym s.same) whole;
      }

  tasked_of : (left : List Leveled) → Within most_levels left → (ts : List Token) → Reads placing text ts → LeafFound most_levels round_tasks u (seen_as.symbols ts) (ast.kinds (unleveled left))
      → Tasked placing v text left
  tasked_of left w ts r h =
      let js : List Symbol = ast.kinds (unleveled left) in
      let front : ast.kinds h.front ++ js ≡ seen_as.symbols ts =
      ap (λ ss. ast.kinds h.front ++ ss) (sym (kinds_plain js)) ∙ sym (kinds_append h.front (plain js)) ∙ h.tokens in
      tasked_by left w ts r h (split most_levels h.front ts js front h.within)

pub task_told : (placing : List ℕ → Place) (v : Variant) → IsOfText v → v.kind ≡ Leaf → (rest : List ℕ) → (r : Ready placing most_levels rest)
    → Tasked placing v (spell_variant v rest) r.from
task_told placing v h is rest r =
    let a = said placing v h 0 (omega arith) rest (behind placing r) in
    let leaf_ : a.tree.kind ≡ Leaf = ap (λ (x : Variant). x.kind) a.same ∙ is in
    let u = under a.ready.reads in
    let n : ast.most_levels + 0 ≡ ast.most_levels = omega arith in
    let read : leaf ast.most_levels (ast.kinds a.ready.from) ≡ Ok (a.tree, ast.kinds (unleveled r.from)) =
    leaf_complete ast.most_levels 0 ast.most_levels n a.tree a.ready.from (unleveled r.from) a.derived a.ready.within leaf_ in
    let found : LeafFound most_levels round_tasks a.tree (seen_as.symbols u.tokens) (ast.kinds (unleveled r.from)) =
    leaf_found most_levels round_tasks ast.most_levels all_levels (seen_as.symbols u.tokens) a.tree (ast.kinds (unleveled r.from)) (ap (leaf ast.most_levels) u.same ∙ read) in
    tasked_of placing v a.tree a.same leaf_ (spell_variant v rest) r.from r.within u.tokens u.reads found

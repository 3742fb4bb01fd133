-- Where the reader of a leaf's task stops.
use Rattle.std.proofs.Common.{◌≡◌, ℕ, suc, pos, ◌+◌, ◌≤◌, List, [], ◌∷◌, ◌++◌, length, Some, Ok, Err, refl, sym, ◌∙◌, ap, subst, append_assoc, append-nil, length-append, arith, ◌⊎◌, inl, inr}
use Rattle.sq_text.specs.declared.place.Place.{Place}
use Rattle.sq_lexer.specs.declared.token.Token.{Token}
use Rattle.sq_lexer.specs.declared.token.Sign.TheVariants as g
use Rattle.sq_ast.specs.declared.keyword.Keyword.TheVariants as k
use Rattle.sq_ast.specs.declared.class.Class.TheVariants as c
use Rattle.sq_num.specs.declared.Elem.TheVariants.{Byte}
use Rattle.sq_ast.specs.declared.program.Mode.TheVariants.{Input}
use Rattle.sq_ast.specs.declared.program.Extent.TheVariants.{Fixed}
use Rattle.sq_ast.specs.declared.program.Variant.{Variant}
use Rattle.sq_ast.specs.Symbols.{Symbol, Word, Number, Key, Mark, Last, class_at, symbol_in, keyword_of}
use Rattle.sq_ast.specs.Symbols as sym_of
use Rattle.sq_ast.specs.Grammar as ast
use Rattle.sq_ast.specs.Grammar.{kinds}
use Rattle.sq_reader.specs.declared.error.ParseError.{ParseError}
use Rattle.sq_reader.specs.declared.error.ParseError.TheVariants.{OutOfMemory, Syntax, TooDeep}
use Rattle.sq_reader.specs.Reading as reader
use Rattle.sq_reader.specs.Reading.{nowhere, leaf, leaf_named}
use Rattle.sq_reader.proofs.LeavesAlone.{LeafFound, leaf_found, plain}
use Rattle.sq_reader.proofs.Runs.{Reaches, here, reads, one_on, Stuck, Opening, syntax_halts, deep_halts}
use Rattle.sq_reader.proofs.Ready.{Ready, reached, end_ends}
use Rattle.sq_reader.proofs.Machine.{Owed, settle, ended, Verdict}
use Rattle.sq_plantext.specs.Grammar as grammar
use Rattle.sq_plantext.specs.Grammar.{Leveled, tokens_of, symbols, unleveled, Within}
use Rattle.sq_planread.specs.Reading as reading
use Rattle.sq_planread.specs.Reading.{Outcome, back}
use Rattle.sq_planread.proofs.Tasks.{split, symbols_length, symbols_append, kinds_append, task_complete}
use Rattle.sq_planread.proofs.Complete.{tokens_append}
use Rattle.sq_planread.proofs.Points.{Ended, Given, Begins, Reads, Refuses, Opens, whole, begun, opened, Stops}
use Rattle.sq_planread.proofs.PointsOfLines.{ATask}
use Rattle.sq_planread.proofs.TaskRuns.{Head, named_head, void_head, rest_of, refused_within, refuses_again, opens_again, after_head, no_memory, kinds_plain}
use Rattle.sq_planread.proofs.TaskBegins.{Seen, seen_key, seen_mark, seen_zero, seen_a, LeafBegun, leaf_begun, any_behind, Ending, head_ready, cancel}
use Rattle.sq_planread.proofs.TaskEnds.{own}

-- ---- symbols that end

abbrev EndedAs : List Symbol → Type 0
EndedAs [] = ⊥
EndedAs (t ∷ []) = class_at t ≡ c.End
EndedAs (t ∷ u ∷ ts) = EndedAs (u ∷ ts)

ended_as : (i : List Token) → Ended i → EndedAs (sym_of.symbols i)
ended_as [] e = e
ended_as (t ∷ []) e = ap (λ k. class_at (symbol_in t.place k)) e
ended_as (t ∷ u ∷ ts) e = ended_as (u ∷ ts) e

ended_behind : (a : List Token) (t : Token) (b : List Token) → Ended (a ++ t ∷ b) → Ended (t ∷ b)
ended_behind [] t b e = e
ended_behind (x ∷ []) t b e = e
ended_behind (x ∷ y ∷ a) t b e = ended_behind (y ∷ a) t b e

-- ---- the head of a leaf, and less of it

-- the shortest leaf after its head
abbrev tail : ℕ → List ast.Leveled
tail d = ast.at (Mark nowhere g.ParenOpen) (suc d) ∷ ast.at (Key nowhere k.In) (suc d) ∷ ast.at (Key nowhere k.Byte) (suc d) ∷ ast.at (Word nowhere (97 ∷ [])) (suc d)
    ∷ ast.at (Mark nowhere g.BracketOpen) (suc (suc d)) ∷ ast.at (Number nowhere (pos 0)) (suc (suc d)) ∷ ast.at (Mark nowhere g.BracketClose) (suc d) ∷ ast.at (Mark nowhere g.ParenClose) d
    ∷ ast.at (Mark nowhere g.BraceOpen) (suc d) ∷ ast.at (Mark nowhere g.BraceClose) d ∷ []

seen_tail : (d : ℕ) → Seen (kinds (tail d))
seen_tail d = seen_mark g.ParenOpen (seen_key k.In (seen_key k.Byte (seen_a (seen_mark g.BracketOpen (seen_zero (seen_mark g.BracketClose (seen_mark g.ParenClose (seen_mark g.BraceOpen (seen_mark g.BraceClose
    (record { tokens = []; are = refl }))))))))))

abbrev shortest : ℕ → Place → Place → List ℕ → Place → Place → List ast.Leveled
shortest d p q w r s = ast.at (Key p k.Task) d ∷ ast.at (Word q w) d ∷ ast.at (Mark r g.Path) d ∷ ast.at (Key s k.Leaf) d ∷ tail d

abbrev short_variant : Place → List ℕ → Variant
short_variant q w = ast.leaf_of (record { place = q; name = w }) (ast.param_of Input Byte (record { place = nowhere; name = 97 ∷ [] }) (Fixed nowhere (pos 0) ∷ []) ∷ []) [] []

shortest_named : (d : ℕ) (p q : Place) (w : List ℕ) (r s : Place) (J : List ast.Leveled) → ast.Derives (ast.One ast.Named d (short_variant q w)) (shortest d p q w r s ++ J) J
shortest_named d p q w r s J = ast.a_leaf {w = record { place = q; name = w }} (ast.a_list (ast.a_param {w = record { place = nowhere; name = 97 ∷ [] }} refl refl (ast.an_extent refl) ast.no_more) ast.no_more) ast.no_more ast.no_more

module _ (d : ℕ) (p q : Place) (w : List ℕ) (r s : Place) where
  named_begun : (front rest : List Symbol) → Seen rest → kinds (shortest d p q w r s) ≡ front ++ rest → LeafBegun d front
  named_begun front rest h e = record {
    variant = short_variant q w;
    front = shortest d p q w r s;
    rest = rest;
    seen = h;
    is = e;
    leaf = refl;
    derives = λ J. ast.a_task (shortest_named d p q w r s J);
  }

  void_begun : (o : Place) (front rest : List Symbol) → Seen rest → kinds (ast.at (Key o k.Void) d ∷ shortest d p q w r s) ≡ front ++ rest → LeafBegun d front
  void_begun o front rest h e = record {
    variant = short_variant q w;
    front = ast.at (Key o k.Void) d ∷ shortest d p q w r s;
    rest = rest;
    seen = h;
    is = e;
    leaf = refl;
    derives = λ J. ast.a_void_task (shortest_named d p q w r s J);
  }

-- a reader of leaves either is refused in the head, or reads it
pub data View (n d : ℕ) (i : List Symbol) : Type 0 where
  headed : (head x : List Symbol) → Head head → i ≡ head ++ x → View n d i
  early : (front : List Symbol) (t : Symbol) (later : List Symbol) → i ≡ front ++ t ∷ later → ((more : List Symbol) → leaf n (front ++ t ∷ more) ≡ Err (Syntax (length (t ∷ more)))) → LeafBegun d front → View n d i

view : (n d : ℕ) (i : List Symbol) → EndedAs i → View n d i
unfolding leaf leaf_named
view n d [] e = absurd e
view n d (Key p k.Task ∷ []) e = absurd (cc)
view n d (Key p k.Task ∷ Word q w ∷ []) e = absurd (cc)
view n d (Key p k.Task ∷ Word q w ∷ Mark r g.Path ∷ []) e = absurd (cc)
view n d (Key p k.Task ∷ Word q w ∷ Mark r g.Path ∷ Key s k.Leaf ∷ x) e = headed _ x named_head refl
view n d (Key p k.Task ∷ Word q w ∷ Mark r g.Path ∷ t ∷ later) e = early (Key p k.Task ∷ Word q w ∷ Mark r g.Path ∷ []) t later refl (λ more. refl)
    (named_begun d p q w r nowhere _ _ (seen_key k.Leaf (seen_tail d)) refl)
view n d (Key p k.Task ∷ Word q w ∷ t ∷ later) e = early (Key p k.Task ∷ Word q w ∷ []) t later refl (λ more. refl)
    (named_begun d p q w nowhere nowhere _ _ (seen_mark g.Path (seen_key k.Leaf (seen_tail d))) refl)
view n d (Key p k.Task ∷ t ∷ later) e = early (Key p k.Task ∷ []) t later refl (λ more. refl)
    (named_begun d p nowhere (97 ∷ []) nowhere nowhere _ _ (seen_a (seen_mark g.Path (seen_key k.Leaf (seen_tail d)))) refl)
view n d (Key o k.Void ∷ []) e = absurd (cc)
view n d (Key o k.Void ∷ Key p k.Task ∷ []) e = absurd (cc)
view n d (Key o k.Void ∷ Key p k.Task ∷ Word q w ∷ []) e = absurd (cc)
view n d (Key o k.Void ∷ Key p k.Task ∷ Word q w ∷ Mark r g.Path ∷ []) e = absurd (cc)
view n d (Key o k.Void ∷ Key p k.Task ∷ Word q w ∷ Mark r g.Path ∷ Key s k.Leaf ∷ x) e = headed _ x void_head refl
view n d (Key o k.Void ∷ Key p k.Task ∷ Word q w ∷ Mark r g.Path ∷ t ∷ later) e = early (Key o k.Void ∷ Key p k.Task ∷ Word q w ∷ Mark r g.Path ∷ []) t later refl (λ more. refl)
    (void_begun d p q w r nowhere o _ _ (seen_key k.Leaf (seen_tail d)) refl)
view n d (Key o k.Void ∷ Key p k.Task ∷ Word q w ∷ t ∷ later) e = early (Key o k.Void ∷ Key p k.Task ∷ Word q w ∷ []) t later refl (λ more. refl)
    (void_begun d p q w nowhere nowhere o _ _ (seen_mark g.Path (seen_key k.Leaf (seen_tail d))) refl)
view n d (Key o k.Void ∷ Key p k.Task ∷ t ∷ later) e = early (Key o k.Void ∷ Key p k.Task ∷ []) t later refl (λ more. refl)
    (void_begun d p nowhere (97 ∷ []) nowhere nowhere o _ _ (seen_a (seen_mark g.Path (seen_key k.Leaf (seen_tail d)))) refl)
view n d (Key o k.Void ∷ t ∷ later) e = early (Key o k.Void ∷ []) t later refl (λ more. refl)
    (void_begun d nowhere nowhere (97 ∷ []) nowhere nowhere o _ _ (seen_key k.Task (seen_a (seen_mark g.Path (seen_key k.Leaf (seen_tail d))))) refl)
view n d (t ∷ later) e = early [] t later refl (λ more. refl)
    (named_begun d nowhere nowhere (97 ∷ []) nowhere nowhere _ _ (seen_key k.Task (seen_a (seen_mark g.Path (seen_key k.Leaf (seen_tail d))))) refl)

-- ---- from symbols to tokens

pub record Cut (i : List Token) (a b : List Symbol) : Type 0 where
  pub front : List Token
  pub rest : List Token
  pub is : i ≡ front ++ rest
  pub before : sym_of.symbols front ≡ a
  pub behind : sym_of.symbols rest ≡ b

cut_tokens : (i : List Token) (a b : List Symbol) → sym_of.symbols i ≡ a ++ b → Cut i a b
cut_tokens i [] b e = record { front = []; rest = i; is = refl; before = refl; behind = e }
cut_tokens [] (s ∷ a) b e = absurd (cc)
cut_tokens (t ∷ ts) (s ∷ a) b e =
    let first : symbol_in t.place t.kind ≡ s = cc in
    let rest : sym_of.symbols ts ≡ a ++ b = cc in
    let h = cut_tokens ts a b rest in
    record { front = t ∷ h.front; rest = h.rest; is = ap (λ x. t ∷ x) h.is; before = ap (λ x. symbol_in t.place t.kind ∷ x) h.before ∙ ap (λ s. s ∷ a) first; behind = h.behind }

-- these tokens with the levels of these symbols
pub record Relevel (ts more : List Token) (front : List ast.Leveled) : Type 0 where
  pub before : List Leveled
  pub after : List Leveled
  pub tokens : tokens_of before ≡ ts
  pub same : symbols (before ++ after) ≡ front

relevel : (ts more : List Token) (front : List ast.Leveled) → kinds front ≡ sym_of.symbols ts ++ sym_of.symbols more → Relevel ts more front
relevel [] [] [] e = record { before = []; after = []; tokens = refl; same = refl }
relevel [] [] (y ∷ front) e = absurd (cc)
relevel [] (m ∷ more) [] e = absurd (cc)
relevel [] (m ∷ more) (y ∷ front) e =
    let first : y.kind ≡ symbol_in m.place m.kind = cc in
    let rest : kinds front ≡ sym_of.symbols more = cc in
    let h = relevel [] more front rest in
    record {
      before = [];
      after = record { token = m; level = y.level } ∷ (h.before ++ h.after);
      tokens = refl;
      same = ap (λ s. ast.at s y.level ∷ symbols (h.before ++ h.after)) (sym first) ∙ ap (λ x. y ∷ x) h.same;
    }
relevel (t ∷ ts) more [] e = absurd (cc)
relevel (t ∷ ts) more (y ∷ front) e =
    let first : y.kind ≡ symbol_in t.place t.kind = cc in
    let rest : kinds front ≡ sym_of.symbols ts ++ sym_of.symbols more = cc in
    let h = relevel ts more front rest in
    record {
      before = record { token = t; level = y.level } ∷ h.before;
      after = h.after;
      tokens = ap (λ x. t ∷ x) h.tokens;
      same = ap (λ s. ast.at s y.level ∷ symbols (h.before ++ h.after)) (sym first) ∙ ap (λ x. y ∷ x) h.same;
    }

-- a leaf of the grammar that begins with these tokens
begins_task : (ts : List Token) → LeafBegun grammar.round_tasks (sym_of.symbols ts) → Begins ATask ts
begins_task ts b =
    let h = relevel ts b.seen.tokens b.front (b.is ∙ ap (λ x. sym_of.symbols ts ++ x) (sym b.seen.are)) in
    record {
      front = h.before;
      more = h.after;
      tokens = h.tokens;
      part = λ J. record {
        task = h.before ++ h.after;
        variant = b.variant;
        tokens = sym (append_assoc h.before h.after J);
        derives = subst (λ f. ast.Derives (ast.One ast.Task grammar.round_tasks b.variant) (f ++ unleveled J) (unleveled J)) (sym h.same) (b.derives (unleveled J));
        leaf = b.leaf;
      };
    }

pub given_task : Given ATask
given_task =
    let b = begins_task [] (named_begun grammar.round_tasks nowhere nowhere (97 ∷ []) nowhere nowhere [] _ (seen_key k.Task (seen_a (seen_mark g.Path (seen_key k.Leaf (seen_tail grammar.round_tasks))))) refl) in
    record { front = b.front ++ b.more; part = λ J. subst (λ I. ATask I J) (sym (append_assoc b.front b.more J)) (b.part J) }

-- ---- where it stops

-- tokens without levels
flat : List Token → List Leveled
flat [] = []
flat (t ∷ ts) = record { token = t; level = 0 } ∷ flat ts

flat_tokens : (ts : List Token) → tokens_of (flat ts) ≡ ts
unfolding flat
flat_tokens [] = refl
flat_tokens (t ∷ ts) = ap (λ x. t ∷ x) (flat_tokens ts)

flat_within : (most : ℕ) (ts : List Token) → Within most (flat ts)
unfolding flat
flat_within most [] = tt
flat_within most (t ∷ ts) = (omega arith, flat_within most ts)

within_both : (most : ℕ) (a b : List Leveled) → Within most a → Within most b → Within most (a ++ b)
within_both most [] b w u = u
within_both most (t ∷ a) b w u = (w.0, within_both most a b w.1 u)

-- a task ends with a brace
no_end : (task : List Leveled) (a : List ast.Leveled) (q : Place) (d : ℕ) → symbols task ≡ a ++ ast.at (Mark q g.BraceClose) d ∷ [] → Ended (tokens_of task) → ⊥
no_end [] a q d e h = h
no_end (t ∷ []) [] q d e h =
    let token_is : ast.at (symbol_in t.token.place t.token.kind) t.level ≡ ast.at (Mark q g.BraceClose) d = cc in
    let first : symbol_in t.token.place t.token.kind ≡ Mark q g.BraceClose = ap (λ (x : ast.Leveled). x.kind) token_is in
    let both : Last t.token.place ≡ Mark q g.BraceClose = sym (ap (symbol_in t.token.place) h) ∙ first in cc
no_end (t ∷ []) (x ∷ []) q d e h = cc
no_end (t ∷ []) (x ∷ y ∷ a) q d e h = cc
no_end (t ∷ u ∷ task) [] q d e h = cc
no_end (t ∷ u ∷ task) (x ∷ a) q d e h = let rest : symbols (u ∷ task) ≡ a ++ ast.at (Mark q g.BraceClose) d ∷ [] = cc in no_end (u ∷ task) a q d rest h

raise : {low : ℕ} {ts : List Symbol} {K L : List Owed} (most : ℕ) → low ≤ most → Reaches low ts K L → Reaches most ts K L
raise most le here = here
raise most le (reads e fits r) = reads e (omega arith) (raise most le r)

-- the last symbol of a beginning
split_last : {most : ℕ} (a : List Symbol) (t : Symbol) {K L : List Owed} → Reaches most (a ++ t ∷ []) K L → (M : List Owed) × (d : ℕ) × Reaches most a K M × (settle M t ≡ Some (d, L))
split_last [] t {K = K} (reads {d = d} e le here) = (K, d, here, e)
split_last (x ∷ a) t (reads e le r) = let h = split_last a t r in (h.0, h.1, reads e le h.2, h.3)

last_as : (x : List Symbol) → EndedAs x → (a : List Symbol) × (q : Place) × (x ≡ a ++ Last q ∷ [])
last_as [] e = absurd e
last_as (Last q ∷ []) e = ([], q, refl)
last_as (Word p w ∷ []) e = absurd (cc)
last_as (Number p n ∷ []) e = absurd (cc)
last_as (Key p x ∷ []) e = absurd (cc)
last_as (Mark p s ∷ []) e = absurd (cc)
last_as (t ∷ u ∷ x) e = let h = last_as (u ∷ x) e in (t ∷ h.0, h.1, ap (λ l. t ∷ l) h.2)

-- behind its head a leaf's symbols end as all do
after_as : {head : List Symbol} → Head head → (x : List Symbol) → EndedAs (head ++ x) → EndedAs x
after_as named_head [] e = cc
after_as named_head (t ∷ x) e = e
after_as void_head [] e = cc
after_as void_head (t ∷ x) e = e

module _ (most levels : ℕ) (eq : levels + grammar.round_tasks ≡ most) where
  -- as symbols
  told_as : (x : List Token) (u : Token) (more : List Token) (e : ParseError) → leaf levels (sym_of.symbols x ++ symbol_in u.place u.kind ∷ sym_of.symbols more) ≡ Err e → reading.task levels (x ++ u ∷ more) ≡ Err e
  unfolding reading.task
  told_as x u more e q = ap (λ ss. back (x ++ u ∷ more) (leaf levels ss)) (symbols_append x (u ∷ more)) ∙ ap (back (x ++ u ∷ more)) q

  refused_as : (x : List Token) (u : Token) (more : List Token) → leaf levels (sym_of.symbols x ++ symbol_in u.place u.kind ∷ sym_of.symbols more) ≡ Err (Syntax (length (symbol_in u.place u.kind ∷ sym_of.symbols more)))
      → reading.task levels (x ++ u ∷ more) ≡ Err (Syntax (length (u ∷ more)))
  refused_as x u more q = told_as x u more _ q ∙ ap (λ n. Err (Syntax (suc n))) (symbols_length more)

  opened_as : (x : List Token) (u : Token) (more : List Token) → leaf levels (sym_of.symbols x ++ symbol_in u.place u.kind ∷ sym_of.symbols more) ≡ Err (TooDeep (length (symbol_in u.place u.kind ∷ sym_of.symbols more)))
      → reading.task levels (x ++ u ∷ more) ≡ Err (TooDeep (length (u ∷ more)))
  opened_as x u more q = told_as x u more _ q ∙ ap (λ n. Err (TooDeep (suc n))) (symbols_length more)

  abbrev TaskStops : List Token → Type 0
  TaskStops i = Stops 0 ATask (λ (u : Unit {0}). reading.task levels) i

  -- a symbol at which it is refused
  stuck_at : (i : List Token) → Ended i → (front : List Symbol) (t : Symbol) (later : List Symbol) → sym_of.symbols i ≡ front ++ t ∷ later → ((more : List Symbol) → leaf levels (front ++ t ∷ more) ≡ Err (Syntax (length (t ∷ more))))
      → LeafBegun grammar.round_tasks front → TaskStops i
  stuck_at i last front t later is every b = let h = cut_tokens i front (t ∷ later) is in by_rest h.front h.rest h.is h.before h.behind
    where
      by_rest : (x rest : List Token) → i ≡ x ++ rest → sym_of.symbols x ≡ front → sym_of.symbols rest ≡ t ∷ later → TaskStops i
      by_rest x [] e before behind = absurd (cc)
      by_rest x (u ∷ us) e before behind =
          let first : symbol_in u.place u.kind ≡ t = cc in
          let at_u : (more : List Symbol) → leaf levels (sym_of.symbols x ++ symbol_in u.place u.kind ∷ more) ≡ Err (Syntax (length (symbol_in u.place u.kind ∷ more))) =
          λ more. ap (λ f. leaf levels (f ++ symbol_in u.place u.kind ∷ more)) before ∙ ap (λ t. leaf levels (front ++ t ∷ more)) first ∙ every more in
          record {
            way = Refuses;
            front = x;
            next = u;
            later = us;
            is = e;
            last = ended_behind x u us (subst Ended e last);
            moves = λ q. omega arith;
            says = λ y more. refused_as x u more (at_u (sym_of.symbols more));
            told = begun (begins_task x (subst (LeafBegun grammar.round_tasks) (sym before) b));
          }

  -- a symbol that opens a level too many
  opened_at : (i : List Token) → Ended i → (front : List Symbol) (t : Symbol) (later : List Symbol) → sym_of.symbols i ≡ front ++ t ∷ later → ((more : List Symbol) → leaf levels (front ++ t ∷ more) ≡ Err (TooDeep (length (t ∷ more))))
      → LeafBegun grammar.round_tasks (front ++ t ∷ []) → TaskStops i
  opened_at i last front t later is every b = let h = cut_tokens i front (t ∷ later) is in by_rest h.front h.rest h.is h.before h.behind
    where
      by_rest : (x rest : List Token) → i ≡ x ++ rest → sym_of.symbols x ≡ front → sym_of.symbols rest ≡ t ∷ later → TaskStops i
      by_rest x [] e before behind = absurd (cc)
      by_rest x (u ∷ us) e before behind =
          let first : symbol_in u.place u.kind ≡ t = cc in
          let at_u : (more : List Symbol) → leaf levels (sym_of.symbols x ++ symbol_in u.place u.kind ∷ more) ≡ Err (TooDeep (length (symbol_in u.place u.kind ∷ more))) =
          λ more. ap (λ f. leaf levels (f ++ symbol_in u.place u.kind ∷ more)) before ∙ ap (λ t. leaf levels (front ++ t ∷ more)) first ∙ every more in
          let whole_front : sym_of.symbols (x ++ u ∷ []) ≡ front ++ t ∷ [] = symbols_append x (u ∷ []) ∙ ap (λ f. f ++ symbol_in u.place u.kind ∷ []) before ∙ ap (λ t. front ++ t ∷ []) first in
          record {
            way = Opens;
            front = x;
            next = u;
            later = us;
            is = e;
            last = ended_behind x u us (subst Ended e last);
            moves = λ q. omega arith;
            says = λ y more. opened_as x u more (at_u (sym_of.symbols more));
            told = opened (begins_task (x ++ u ∷ []) (subst (LeafBegun grammar.round_tasks) (sym whole_front) b));
          }

  -- ---- a task that is read

  read_at : (i : List Token) → Ended i → (v : Variant) (l : List Symbol) → LeafFound most grammar.round_tasks v (sym_of.symbols i) l → TaskStops i
  read_at i last v l h =
      let front : kinds h.front ++ l ≡ sym_of.symbols i = ap (λ ss. kinds h.front ++ ss) (sym (kinds_plain l)) ∙ sym (kinds_append h.front (plain l)) ∙ h.tokens in
      let s = split most h.front i l front h.within in
      by_rest s.task s.rest s.is s.same s.within
    where
      derived : (task : List Leveled) → symbols task ≡ h.front → (J : List ast.Leveled) → ast.Derives (ast.One ast.Task grammar.round_tasks v) (symbols task ++ J) J
      derived task same J = subst (λ f. ast.Derives (ast.One ast.Task grammar.round_tasks v) (f ++ J) J) (sym same) (any_behind h J)

      by_rest : (task : List Leveled) (rest : List Token) → tokens_of task ++ rest ≡ i → symbols task ≡ h.front → Within most task → TaskStops i
      by_rest task [] e same w =
          let o = own [] h.derives h.leaf in
          let brace = ast.at (Mark o.place g.BraceClose) grammar.round_tasks in
          let ends_so : h.front ≡ o.front ++ brace ∷ [] = cancel h.front (o.front ++ brace ∷ []) (plain l) (o.is ∙ sym (append_assoc o.front (brace ∷ []) (plain l))) in
          absurd (no_end task o.front o.place grammar.round_tasks (same ∙ ends_so) (subst Ended (sym e ∙ append-nil (tokens_of task)) last))
      by_rest task (u ∷ us) e same w = record {
        way = Reads;
        front = tokens_of task;
        next = u;
        later = us;
        is = sym e;
        last = ended_behind (tokens_of task) u us (subst Ended (sym e) last);
        moves = λ q. omega arith;
        says = λ y more.
            let L = flat (u ∷ more) in
            let read = task_complete most levels eq v task L (derived task same (unleveled L)) h.leaf (within_both most task L w (flat_within most (u ∷ more))) in
            (v, ap (reading.task levels) (ap (λ x. tokens_of task ++ x) (sym (flat_tokens (u ∷ more))) ∙ sym (tokens_append task L)) ∙ read ∙ ap (λ x. Ok (v, x)) (flat_tokens (u ∷ more)));
        told = whole (record { front = task; tokens = refl; part = λ J. record { task = task; variant = v; tokens = refl; derives = derived task same (unleveled J); leaf = h.leaf } });
      }

  -- ---- a task that is refused behind its head

  module _ {head : List Symbol} (h : Head head) (x : List Symbol) where
    -- the end is never read
    not_all : EndedAs x → (K : List Owed) → Reaches most x (rest_of grammar.round_tasks Ending) K → ended K ≡ Err (Syntax 0) → ⊥
    not_all end K r e =
        let l = last_as x end in
        let s = split_last l.0 (Last l.1) (subst (λ x. Reaches most x (rest_of grammar.round_tasks Ending) K) l.2 r) in
        by_owed s.0 s.1 (reached (inr (head_ready (most + 4) grammar.round_tasks (omega (arith, eq)))) s.2) l.1 s.3
      where
        nothing_owed : K ≡ [] → ⊥
        nothing_owed n = let both : ◌≡◌ {A = Verdict} (Ok tt) (Err (Syntax 0)) = sym (ap ended n) ∙ e in cc

        by_owed : (M : List Owed) (d : ℕ) → ((M ≡ []) ⊎ Ready (most + 4) M) → (q : Place) → settle M (Last q) ≡ Some (d, K) → ⊥
        by_owed M d (inl n) q s = let both = sym (ap (λ M. settle M (Last q)) n) ∙ s in cc
        by_owed M d (inr r) q s = nothing_owed (end_ends q K d r s)

    syntax_behind : (i : List Token) → Ended i → sym_of.symbols i ≡ head ++ x → (m : ℕ) → leaf levels (head ++ x) ≡ Err (Syntax m) → TaskStops i
    syntax_behind i last is m e =
        let halt = syntax_halts most x (rest_of grammar.round_tasks Ending) m (after_head most grammar.round_tasks levels eq h x (Syntax m) Ending e) in
        by_rest halt.before halt.rest halt.owed halt.text halt.reaches halt.why
      where
        by_rest : (before rest : List Symbol) (owed : List Owed) → x ≡ before ++ rest → Reaches most before (rest_of grammar.round_tasks Ending) owed → Stuck m owed rest → TaskStops i
        by_rest before [] owed text r why =
            let all : x ≡ before = text ∙ append-nil before in
            absurd (not_all (after_as h x (subst EndedAs is (ended_as i last))) owed (subst (λ b. Reaches most b (rest_of grammar.round_tasks Ending) owed) (sym all) r) why.0)
        by_rest before (t ∷ later) owed text r why =
            let told : leaf levels (head ++ (before ++ t ∷ later)) ≡ Err (Syntax (length (t ∷ later))) = ap (λ x. leaf levels (head ++ x)) (sym text) ∙ e ∙ ap (λ m. Err (Syntax m)) why.1 in
            stuck_at i last (head ++ before) t later (is ∙ ap (λ x. head ++ x) text ∙ sym (append_assoc head before (t ∷ later)))
            (λ more. ap (leaf levels) (append_assoc head before (t ∷ more)) ∙ refuses_again most grammar.round_tasks levels eq h before t later more told)
            (leaf_begun most grammar.round_tasks (omega (arith, eq)) h before owed r
            (λ v front any is_leaf y ys q.
            let at_own : leaf levels (kinds front ++ ((y ∷ ys) ++ t ∷ later)) ≡ Err (Syntax (length (t ∷ later))) =
            ap (leaf levels) (sym (append_assoc (kinds front) (y ∷ ys) (t ∷ later)) ∙ ap (λ f. f ++ t ∷ later) (sym q) ∙ append_assoc head before (t ∷ later)) ∙ told in
            let c = refused_within most grammar.round_tasks levels eq v front any is_leaf ((y ∷ ys) ++ t ∷ later) (Syntax (length (t ∷ later))) at_own in
            let both = c.1 in cc))

    deep_behind : (i : List Token) → Ended i → sym_of.symbols i ≡ head ++ x → (m : ℕ) → leaf levels (head ++ x) ≡ Err (TooDeep m) → TaskStops i
    deep_behind i last is m e =
        let halt = deep_halts most x (rest_of grammar.round_tasks Ending) m (after_head most grammar.round_tasks levels eq h x (TooDeep m) Ending e) in
        by_rest halt.before halt.rest halt.owed halt.text halt.reaches halt.why
      where
        by_rest : (before rest : List Symbol) (owed : List Owed) → x ≡ before ++ rest → Reaches most before (rest_of grammar.round_tasks Ending) owed → Opening most m owed rest → TaskStops i
        by_rest before [] owed text r why = absurd why
        by_rest before (t ∷ later) owed text r why =
            let level = why.0 in
            let told : leaf levels (head ++ (before ++ t ∷ later)) ≡ Err (TooDeep (length (t ∷ later))) = ap (λ x. leaf levels (head ++ x)) (sym text) ∙ e ∙ ap (λ m. Err (TooDeep m)) why.4 in
            let reach : Reaches level (before ++ t ∷ []) (rest_of grammar.round_tasks Ending) why.1 = one_on t (raise level (omega (arith, why.3)) r) why.2 (omega arith) in
            opened_at i last (head ++ before) t later (is ∙ ap (λ x. head ++ x) text ∙ sym (append_assoc head before (t ∷ later)))
            (λ more. ap (leaf levels) (append_assoc head before (t ∷ more)) ∙ opens_again most grammar.round_tasks levels eq h before t later more told)
            (subst (LeafBegun grammar.round_tasks) (sym (append_assoc head before (t ∷ [])))
            (leaf_begun level grammar.round_tasks (omega (arith, eq, why.3)) h (before ++ t ∷ []) why.1 reach
            (λ v front any is_leaf y ys q.
            let all : head ++ (before ++ t ∷ later) ≡ (head ++ (before ++ t ∷ [])) ++ later = ap (λ x. head ++ x) (sym (append_assoc before (t ∷ []) later)) ∙ sym (append_assoc head (before ++ t ∷ []) later) in
            let at_own : leaf levels (kinds front ++ ((y ∷ ys) ++ later)) ≡ Err (TooDeep (length (t ∷ later))) =
            ap (leaf levels) (sym (append_assoc (kinds front) (y ∷ ys) later) ∙ ap (λ f. f ++ later) (sym q) ∙ sym all) ∙ told in
            let c = refused_within most grammar.round_tasks levels eq v front any is_leaf ((y ∷ ys) ++ later) (TooDeep (length (t ∷ later))) at_own in
            let same : length (t ∷ later) ≡ c.0 = cc in
            omega (arith, same, c.2, length-append (y ∷ ys) later))))

    refused_behind : (i : List Token) → Ended i → sym_of.symbols i ≡ head ++ x → (z : ParseError) → leaf levels (head ++ x) ≡ Err z → TaskStops i
    refused_behind i last is (Syntax m) e = syntax_behind i last is m e
    refused_behind i last is (TooDeep m) e = deep_behind i last is m e
    refused_behind i last is OutOfMemory e = absurd (no_memory most x (rest_of grammar.round_tasks Ending) (after_head most grammar.round_tasks levels eq h x OutOfMemory Ending e))

  by_view : (i : List Token) → Ended i → (z : ParseError) → leaf levels (sym_of.symbols i) ≡ Err z → View levels grammar.round_tasks (sym_of.symbols i) → TaskStops i
  by_view i last z e (headed head x h is) = refused_behind h x i last is z (ap (leaf levels) (sym is) ∙ e)
  by_view i last z e (early front t later is every b) = stuck_at i last front t later is every b

  by_outcome : (i : List Token) → Ended i → (r : reader.Outcome Variant) → leaf levels (sym_of.symbols i) ≡ r → TaskStops i
  by_outcome i last (Ok p) e = read_at i last p.0 p.1 (leaf_found most grammar.round_tasks levels eq (sym_of.symbols i) p.0 p.1 e)
  by_outcome i last (Err z) e = by_view i last z e (view levels grammar.round_tasks (sym_of.symbols i) (ended_as i last))

  pub stops_task : (i : List Token) → Ended i → Stops 0 ATask (λ (u : Unit {0}). reading.task levels) i
  stops_task i last = by_outcome i last (leaf levels (sym_of.symbols i)) refl

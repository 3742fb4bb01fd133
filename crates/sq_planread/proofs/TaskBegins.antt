-- What stands before the symbol at which a leaf's task is refused begins one.
use Rattle.std.proofs.Common.{◌≡◌, ℕ, suc, pos, ◌+◌, ◌≤◌, List, [], ◌∷◌, ◌++◌, length, Ok, Err, refl, sym, ◌∙◌, ap, subst, append_assoc, length-append, arith, ◌⊎◌, inl, inr}
use Rattle.sq_text.specs.declared.place.Place.{Place}
use Rattle.sq_lexer.specs.declared.token.Token.{Token}
use Rattle.sq_lexer.specs.declared.token.Kind.TheVariants as tk
use Rattle.sq_lexer.specs.declared.token.Sign.TheVariants as g
use Rattle.sq_lexer.specs.Tokens.{token}
use Rattle.std.specs.Prelude.{codes}
use Rattle.sq_ast.specs.declared.keyword.Keyword.{Keyword}
use Rattle.sq_ast.specs.declared.keyword.Keyword.TheVariants as k
use Rattle.sq_ast.specs.declared.class.Class.{Class}
use Rattle.sq_ast.specs.declared.class.Class.TheVariants as c
use Rattle.sq_ast.specs.declared.program.Variant.{Variant}
use Rattle.sq_ast.specs.declared.program.VariantKind.TheVariants as kind
use Rattle.sq_ast.specs.Symbols.{Symbol, Word, Number, Key, Mark, Last, class_at, symbol_in, keyword_of}
use Rattle.sq_ast.specs.Symbols as sym_of
use Rattle.sq_ast.specs.Grammar as grammar
use Rattle.sq_ast.specs.Grammar.{Leveled, at, kinds, Within, Any, AtMost, Derives}
use Rattle.sq_reader.specs.Reading.{Outcome, nowhere, task}
use Rattle.sq_reader.proofs.Machine.{Sort, This, AWord, AMode, AnElem, ARedOp, AnAssign, AnExtent, Zero, Turn, AfterTunable, AfterSet, AfterPath, Owed, Token as Due, One, Many, After, run, Verdict}
use Rattle.sq_reader.proofs.Steps.{fixed_at}
use Rattle.sq_reader.proofs.Readings.{Reading}
use Rattle.sq_reader.proofs.Programs.{task_reads}
use Rattle.sq_reader.proofs.Runs.{Reaches, goes_on}
use Rattle.sq_reader.proofs.Ready.{Ready, last, a_token, owes, sample, spelling, completion, completed, reached}
use Rattle.sq_reader.proofs.LeavesAlone.{LeafFound, leaf_found, plain}
use Rattle.sq_planread.proofs.TaskEnds.{own}
use Rattle.sq_planread.proofs.TaskRuns.{Head, alone, rest_of, head_run, kinds_plain}

-- ---- tokens that are seen as these symbols

pub record Seen (ss : List Symbol) : Type 0 where
  pub tokens : List Token
  pub are : sym_of.symbols tokens ≡ ss

seen_on : {s : Symbol} {ss : List Symbol} (t : Token) → symbol_in t.place t.kind ≡ s → Seen ss → Seen (s ∷ ss)
seen_on {ss = ss} t e h = record { tokens = t ∷ h.tokens; are = ap (λ ss. symbol_in t.place t.kind ∷ ss) h.are ∙ ap (λ s. s ∷ ss) e }

key_word : Keyword → List ℕ
key_word k.Void = codes "void"
key_word k.Task = codes "task"
key_word k.Inner = codes "inner"
key_word k.Leaf = codes "leaf"
key_word k.In = codes "in"
key_word k.Out = codes "out"
key_word k.Inout = codes "inout"
key_word k.Byte = codes "byte"
key_word k.Int = codes "int"
key_word k.Long = codes "long"
key_word k.Tunable = codes "tunable"
key_word k.Local = codes "local"
key_word k.Blkset = codes "blkset"
key_word k.Rchop = codes "rchop"
key_word k.Ichop = codes "ichop"
key_word k.Mappar = codes "mappar"
key_word k.Mapseq = codes "mapseq"
key_word k.Mapreduce = codes "mapreduce"
key_word k.Reduce = codes "reduce"
key_word k.To = codes "to"
key_word k.If = codes "if"
key_word k.Else = codes "else"
key_word k.For = codes "for"
key_word k.Min = codes "min"
key_word k.Max = codes "max"
key_word k.Len = codes "len"

key_seen : (p : Place) (x : Keyword) → symbol_in p (tk.Word (key_word x)) ≡ Key p x
unfolding keyword_of key_word
key_seen p k.Void = refl
key_seen p k.Task = refl
key_seen p k.Inner = refl
key_seen p k.Leaf = refl
key_seen p k.In = refl
key_seen p k.Out = refl
key_seen p k.Inout = refl
key_seen p k.Byte = refl
key_seen p k.Int = refl
key_seen p k.Long = refl
key_seen p k.Tunable = refl
key_seen p k.Local = refl
key_seen p k.Blkset = refl
key_seen p k.Rchop = refl
key_seen p k.Ichop = refl
key_seen p k.Mappar = refl
key_seen p k.Mapseq = refl
key_seen p k.Mapreduce = refl
key_seen p k.Reduce = refl
key_seen p k.To = refl
key_seen p k.If = refl
key_seen p k.Else = refl
key_seen p k.For = refl
key_seen p k.Min = refl
key_seen p k.Max = refl
key_seen p k.Len = refl

pub seen_key : {ss : List Symbol} (x : Keyword) → Seen ss → Seen (Key nowhere x ∷ ss)
seen_key x h = seen_on (token (tk.Word (key_word x)) nowhere) (key_seen nowhere x) h

pub seen_mark : {ss : List Symbol} (s : _) → Seen ss → Seen (Mark nowhere s ∷ ss)
seen_mark s h = seen_on (token (tk.Sign s) nowhere) refl h

pub seen_zero : {ss : List Symbol} → Seen ss → Seen (Number nowhere (pos 0) ∷ ss)
seen_zero h = seen_on (token (tk.Number (pos 0)) nowhere) refl h

pub seen_a : {ss : List Symbol} → Seen ss → Seen (Word nowhere (97 ∷ []) ∷ ss)
unfolding keyword_of
seen_a h = seen_on (token (tk.Word (97 ∷ [])) nowhere) refl h

-- a word without a letter, which no text has, is never asked for
seen_fixed : {ss : List Symbol} (x : Class) → Seen ss → Seen (fixed_at nowhere x ∷ ss)
unfolding keyword_of
seen_fixed c.Word h = seen_on (token (tk.Word []) nowhere) refl h
seen_fixed c.Number h = seen_zero h
seen_fixed (c.Key x) h = seen_key x h
seen_fixed (c.Sign s) h = seen_mark s h
seen_fixed c.End h = seen_on (token tk.End nowhere) refl h

seen_sample : {ss : List Symbol} (x : Sort) → Seen ss → Seen (sample x ∷ ss)
seen_sample (This a) h = seen_fixed a h
seen_sample AWord h = seen_a h
seen_sample AMode h = seen_key k.In h
seen_sample AnElem h = seen_key k.Byte h
seen_sample ARedOp h = seen_mark g.Plus h
seen_sample AnAssign h = seen_mark g.Set h
seen_sample AnExtent h = seen_zero h
seen_sample Zero h = seen_zero h

seen_item : {ss : List Symbol} (x : grammar.Item) (d : ℕ) → Seen ss → Seen (spelling (One x d) ss)
seen_item (grammar.Operand constant) d h = seen_zero h
seen_item (grammar.Index constant) d h = seen_mark g.BracketOpen (seen_zero (seen_mark g.BracketClose h))
seen_item grammar.Extent d h = seen_mark g.BracketOpen (seen_zero (seen_mark g.BracketClose h))
seen_item grammar.LeafBody d h = seen_mark g.BraceOpen (seen_mark g.BraceClose h)
seen_item _ d h = h

seen_after : {ss : List Symbol} (x : Turn) (d : ℕ) → Seen ss → Seen (spelling (After x d) ss)
seen_after (AfterTunable inner) d h = seen_mark g.Semi h
seen_after AfterSet d h = seen_key k.Ichop (seen_mark g.ParenOpen (seen_a (seen_mark g.Comma (seen_a (seen_mark g.Comma (seen_a (seen_mark g.ParenClose (seen_mark g.Semi h))))))))
seen_after AfterPath d h = seen_key k.Leaf (seen_mark g.ParenOpen (seen_key k.In (seen_key k.Byte (seen_a (seen_mark g.BracketOpen (seen_zero (seen_mark g.BracketClose (seen_mark g.ParenClose (seen_mark g.BraceOpen (seen_mark g.BraceClose h))))))))))

pub seen : (K : List Owed) → Seen (completion K)
seen [] = record { tokens = []; are = refl }
seen (Due d x ∷ K) = seen_sample x (seen K)
seen (One x d ∷ K) = seen_item x d (seen K)
seen (Many x most d ∷ K) = seen K
seen (After x d ∷ K) = seen_after x d (seen K)

-- ---- after its head a leaf can be ended

abbrev pub Ending : List Owed
Ending = Due 0 (This c.End) ∷ []

pub head_ready : (b d : ℕ) → suc (suc d) ≤ b → Ready b (rest_of d Ending)
head_ready b d le = a_token (λ p. refl) refl (omega (arith, le)) (a_token (λ p. refl) refl (omega (arith, le)) (a_token (λ p. refl) refl (omega (arith, le)) (a_token (λ p. refl) refl (omega (arith, le))
    (owes tt (omega (arith, le)) tt (owes tt (omega (arith, le)) tt (owes tt (omega (arith, le)) (tt, refl) (a_token (λ p. refl) refl (omega (arith, le)) (a_token (λ p. refl) refl (omega (arith, le))
    (owes tt (omega (arith, le)) tt (owes tt (omega (arith, le)) tt (a_token (λ p. refl) refl (omega (arith, le)) last)))))))))))

-- ---- lists

pub cancel : {A : Type 0} (a b c : List A) → a ++ c ≡ b ++ c → a ≡ b
cancel [] [] c e = refl
cancel [] (y ∷ b) c e = absurd (omega (arith, ap length e, length-append b c))
cancel (x ∷ a) [] c e = absurd (omega (arith, ap length e, length-append a c))
cancel (x ∷ a) (y ∷ b) c e =
    let first : x ≡ y = cc in
    let rest : a ++ c ≡ b ++ c = cc in
    ap (λ l. x ∷ l) (cancel a b c rest) ∙ ap (λ x. x ∷ b) first

-- two ways to cut one list
pub cut : {A : Type 0} (a b c d : List A) → a ++ b ≡ c ++ d → ((r : List A) × (a ≡ c ++ r) × (d ≡ r ++ b)) ⊎ ((y : A) × (ys : List A) × (c ≡ a ++ y ∷ ys) × (b ≡ (y ∷ ys) ++ d))
cut a b [] d e = inl (a, refl, sym e)
cut [] b (y ∷ c) d e = inr (y, c, refl, e)
cut (x ∷ a) b (y ∷ c) d e =
    let first : x ≡ y = cc in
    let rest : a ++ b ≡ c ++ d = cc in
    further first (cut a b c d rest)
  where
    further : x ≡ y → ((r : List _) × (a ≡ c ++ r) × (d ≡ r ++ b)) ⊎ ((y : _) × (ys : List _) × (c ≡ a ++ y ∷ ys) × (b ≡ (y ∷ ys) ++ d))
        → ((r : List _) × (x ∷ a ≡ (y ∷ c) ++ r) × (d ≡ r ++ b)) ⊎ ((z : _) × (ys : List _) × (y ∷ c ≡ (x ∷ a) ++ z ∷ ys) × (b ≡ (z ∷ ys) ++ d))
    further f (inl h) = inl (h.0, ap (λ l. x ∷ l) h.1 ∙ ap (λ x. x ∷ (c ++ h.0)) f, h.2)
    further f (inr h) = inr (h.0, h.1, ap (λ l. y ∷ l) h.2 ∙ ap (λ y. y ∷ (a ++ h.0 ∷ h.1)) (sym f), h.3)

seen_front : (a b : List Symbol) (ts : List Token) → sym_of.symbols ts ≡ a ++ b → Seen a
seen_front [] b ts e = record { tokens = []; are = refl }
seen_front (s ∷ a) b [] e = absurd (cc)
seen_front (s ∷ a) b (t ∷ ts) e =
    let first : symbol_in t.place t.kind ≡ s = cc in
    let rest : sym_of.symbols ts ≡ a ++ b = cc in
    seen_on t first (seen_front a b ts rest)

-- ---- beginnings

-- A leaf of the grammar that begins with these symbols, whose other symbols tokens have; behind it may stand anything.
pub record LeafBegun (d : ℕ) (begun : List Symbol) : Type 0 where
  pub variant : Variant
  pub front : List Leveled
  pub rest : List Symbol
  pub seen : Seen rest
  pub is : kinds front ≡ begun ++ rest
  pub leaf : variant.kind ≡ kind.Leaf
  pub derives : (J : List Leveled) → Derives (grammar.One grammar.Task d variant) (front ++ J) J

-- a task that was read stands before anything
pub any_behind : {most d : ℕ} {v : Variant} {i j : List Symbol} (h : LeafFound most d v i j) → (J : List Leveled) → Derives (grammar.One grammar.Task d v) (h.front ++ J) J
any_behind {d = d} {v = v} {j = j} h J =
    let o = own J h.derives h.leaf in
    let brace = at (Mark o.place g.BraceClose) d in
    let same : h.front ≡ o.front ++ brace ∷ [] = cancel h.front (o.front ++ brace ∷ []) (plain j) (o.is ∙ sym (append_assoc o.front (brace ∷ []) (plain j))) in
    subst (λ f. Derives (grammar.One grammar.Task d v) (f ++ J) J) (sym same) (subst (λ x. Derives (grammar.One grammar.Task d v) x J) (sym (append_assoc o.front (brace ∷ []) J)) o.derives)

kinds_append : (i j : List Leveled) → kinds (i ++ j) ≡ kinds i ++ kinds j
kinds_append [] j = refl
kinds_append (t ∷ i) j = ap (λ x. t.kind ∷ x) (kinds_append i j)

module _ (low d : ℕ) (le : d ≤ low) {head : List Symbol} (h : Head head) (begun : List Symbol) (L : List Owed) (r : Reaches low begun (rest_of d Ending) L)
    (past : (v : Variant) (front : List Leveled) → ((J : List Leveled) → Derives (grammar.One grammar.Task d v) (front ++ J) J) → v.kind ≡ kind.Leaf → (y : Symbol) (ys : List Symbol) → head ++ begun ≡ kinds front ++ y ∷ ys → ⊥) where
  ends : ((L ≡ []) ⊎ Ready (low + 4) L) → run (low + 6 + d) (completion L) L ≡ Ok tt
  ends (inl e) = ap (λ L. run (low + 6 + d) (completion L) L) e
  ends (inr ready) = completed (low + 6 + d) ready (omega arith)

  runs : run (low + 6 + d) (head ++ (begun ++ completion L)) (One grammar.Task d ∷ Ending) ≡ Ok tt
  runs = head_run (low + 6 + d) d (omega arith) h Ending (begun ++ completion L) ∙ goes_on (low + 6 + d) (omega arith) r (completion L) ∙ ends (reached (inr (head_ready (low + 4) d (omega (arith, le)))) r)

  taken : (x : Outcome Variant) → task (low + 6) (head ++ (begun ++ completion L)) ≡ x
      → Reading (length (head ++ (begun ++ completion L))) (low + 6 + d) (One grammar.Task d ∷ Ending) Ending (λ v a b. Derives (grammar.One grammar.Task d v) a b) (head ++ (begun ++ completion L)) x → LeafBegun d (head ++ begun)
  taken (Err z) e q = let both : ◌≡◌ {A = Verdict} (Ok tt) (Err z) = sym runs ∙ q.is in absurd (cc)
  taken (Ok p) e q =
      let found = leaf_found (low + 6 + d) d (low + 6) (omega arith) (head ++ (begun ++ completion L)) p.0 p.1 (alone (low + 6) h (begun ++ completion L) ∙ e) in
      let stands : kinds found.front ++ p.1 ≡ (head ++ begun) ++ completion L =
      ap (λ l. kinds found.front ++ l) (sym (kinds_plain p.1)) ∙ sym (kinds_append found.front (plain p.1)) ∙ found.tokens ∙ sym (append_assoc head begun (completion L)) in
      by_cut found (cut (kinds found.front) p.1 (head ++ begun) (completion L) stands)
    where
      by_cut : (f : LeafFound (low + 6 + d) d p.0 (head ++ (begun ++ completion L)) p.1)
          → ((r : List Symbol) × (kinds f.front ≡ (head ++ begun) ++ r) × (completion L ≡ r ++ p.1)) ⊎ ((y : Symbol) × (ys : List Symbol) × (head ++ begun ≡ kinds f.front ++ y ∷ ys) × (p.1 ≡ (y ∷ ys) ++ completion L))
          → LeafBegun d (head ++ begun)
      by_cut f (inl c) = record { variant = p.0; front = f.front; rest = c.0; seen = seen_front c.0 p.1 (seen L).tokens ((seen L).are ∙ c.2); is = c.1; leaf = f.leaf; derives = any_behind f }
      by_cut f (inr c) = absurd (past p.0 f.front (any_behind f) f.leaf c.0 c.1 c.2)

  pub leaf_begun : LeafBegun d (head ++ begun)
  leaf_begun = taken (task (low + 6) (head ++ (begun ++ completion L))) refl (task_reads (low + 6 + d) d (low + 6) (omega arith) (length (head ++ (begun ++ completion L))) (head ++ (begun ++ completion L)) Ending (omega arith))

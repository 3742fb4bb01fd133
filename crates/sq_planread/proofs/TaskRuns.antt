-- A leaf's task, by the machine that reads programs: where it stops, whatever stands behind.
use Rattle.std.proofs.Common.{◌≡◌, ◌≢◌, ℕ, suc, ◌+◌, ◌≤◌, ◌<◌, Bool, true, false, if◌then◌else◌, leb, List, [], ◌∷◌, ◌++◌, length, Option, Some, None, Ok, Err, refl, sym, ◌∙◌, ap, subst, append_assoc, length-append, arith, ◌⊎◌, inl, inr}
use Rattle.std.proofs.lemmas.Bool.{leb-true, leb-false}
use Rattle.sq_text.specs.declared.place.Place.{Place}
use Rattle.sq_lexer.specs.declared.token.Sign.TheVariants as g
use Rattle.sq_ast.specs.declared.keyword.Keyword.TheVariants as k
use Rattle.sq_ast.specs.declared.class.Class.TheVariants as c
use Rattle.sq_ast.specs.declared.program.Variant.{Variant}
use Rattle.sq_ast.specs.declared.program.VariantKind.TheVariants as kind
use Rattle.sq_ast.specs.Symbols.{Symbol, Word, Key, Mark, Last, class_at}
use Rattle.sq_ast.specs.Grammar as grammar
use Rattle.sq_ast.specs.Grammar.{Leveled, at, kinds, Within, Any, AtMost, Derives, a_void_task, a_task, an_inner, a_leaf}
use Rattle.sq_reader.specs.declared.error.ParseError.{ParseError}
use Rattle.sq_reader.specs.declared.error.ParseError.TheVariants.{OutOfMemory, Syntax, TooDeep}
use Rattle.sq_reader.specs.Reading.{Outcome, nowhere, leaf, leaf_named, task, task_named, variant}
use Rattle.sq_reader.proofs.Machine.{This, Owed, Token, One, Many, Move, Eat, Skip, Stop, at_end, step, moved, owe, settle, Verdict, ended, found, run, labeled, label}
use Rattle.sq_reader.proofs.Steps.{same_self}
use Rattle.sq_reader.proofs.Labeled.{kinds_label}
use Rattle.sq_reader.proofs.Labels.{labels}
use Rattle.sq_reader.proofs.Readings.{Reading, fits, too_many}
use Rattle.sq_reader.proofs.Programs.{task_reads}
use Rattle.sq_reader.proofs.Runs.{Reaches, goes_on, Stuck, Opening, syntax_halts, deep_halts}
use Rattle.sq_reader.proofs.LeavesAlone.{leaf_complete, plain}
use Rattle.sq_planread.proofs.Places.{same_split}

-- ---- the head of a leaf

pub data Head : List Symbol → Type 0 where
  named_head : {p q r s : Place} {w : List ℕ} → Head (Key p k.Task ∷ Word q w ∷ Mark r g.Path ∷ Key s k.Leaf ∷ [])
  void_head : {o p q r s : Place} {w : List ℕ} → Head (Key o k.Void ∷ Key p k.Task ∷ Word q w ∷ Mark r g.Path ∷ Key s k.Leaf ∷ [])

-- a leaf is read there as any task
pub alone : (n : ℕ) {head : List Symbol} → Head head → (x : List Symbol) → leaf n (head ++ x) ≡ task n (head ++ x)
unfolding leaf leaf_named task task_named variant
alone n named_head x = refl
alone n void_head x = refl

-- what is owed after it
abbrev pub rest_of : ℕ → List Owed → List Owed
rest_of d K = owe (grammar.Listed grammar.Param) d (Token (suc d) (This (c.Sign g.BraceOpen)) ∷ Many (grammar.Decl false) Any (suc d) ∷ Many grammar.LeafStmt Any (suc d) ∷ Token d (This (c.Sign g.BraceClose)) ∷ K)

pub head_run : (most d : ℕ) → d ≤ most → {head : List Symbol} → Head head → (K : List Owed) (x : List Symbol) → run most (head ++ x) (One grammar.Task d ∷ K) ≡ run most x (rest_of d K)
head_run most d le named_head K x = fits d most _ _ le ∙ fits d most _ _ le ∙ fits d most _ _ le ∙ fits d most _ _ le
head_run most d le void_head K x = fits d most _ _ le ∙ fits d most _ _ le ∙ fits d most _ _ le ∙ fits d most _ _ le ∙ fits d most _ _ le

pub head_of : {d : ℕ} {v : Variant} {I J : List Leveled} → Derives (grammar.One grammar.Task d v) I J → v.kind ≡ kind.Leaf → (head : List Symbol) × Head head × (x : List Symbol) × (kinds I ≡ head ++ x)
head_of (a_void_task (an_inner r s u)) e = absurd (cc)
head_of (a_void_task (a_leaf {i = i} r s u)) e = (_, void_head, kinds i, refl)
head_of (a_task (an_inner r s u)) e = absurd (cc)
head_of (a_task (a_leaf {i = i} r s u)) e = (_, named_head, kinds i, refl)

-- ---- the machine at a symbol, whatever stands behind it

pub record Refusing (most : ℕ) (front : List Symbol) (t : Symbol) (S : List Owed) : Type 0 where
  pub owed : List Owed
  pub reaches : Reaches most front S owed
  pub none : settle owed t ≡ None

pub record Opened (most : ℕ) (front : List Symbol) (t : Symbol) (S : List Owed) : Type 0 where
  pub owed : List Owed
  pub level : ℕ
  pub left : List Owed
  pub reaches : Reaches most front S owed
  pub some : settle owed t ≡ Some (level, left)
  pub deep : most < level

pub refusing : (most : ℕ) (front : List Symbol) (t : Symbol) (later : List Symbol) (S : List Owed) → run most (front ++ t ∷ later) S ≡ Err (Syntax (length (t ∷ later))) → Refusing most front t S
refusing most front t later S e = let h = syntax_halts most (front ++ t ∷ later) S (length (t ∷ later)) e in by_rest h.before h.rest h.owed h.text h.reaches h.why
  where
    by_rest : (before rest : List Symbol) (owed : List Owed) → front ++ t ∷ later ≡ before ++ rest → Reaches most before S owed → Stuck (length (t ∷ later)) owed rest → Refusing most front t S
    by_rest before [] owed text r why = absurd (omega (arith, why.1))
    by_rest before (u ∷ us) owed text r why =
        let s = same_split front before t u later us text (omega (arith, why.1)) in
        record { owed = owed; reaches = subst (λ f. Reaches most f S owed) (sym s.before) r; none = ap (settle owed) s.first ∙ why.0 }

pub opened : (most : ℕ) (front : List Symbol) (t : Symbol) (later : List Symbol) (S : List Owed) → run most (front ++ t ∷ later) S ≡ Err (TooDeep (length (t ∷ later))) → Opened most front t S
opened most front t later S e = let h = deep_halts most (front ++ t ∷ later) S (length (t ∷ later)) e in by_rest h.before h.rest h.owed h.text h.reaches h.why
  where
    by_rest : (before rest : List Symbol) (owed : List Owed) → front ++ t ∷ later ≡ before ++ rest → Reaches most before S owed → Opening most (length (t ∷ later)) owed rest → Opened most front t S
    by_rest before [] owed text r why = absurd why
    by_rest before (u ∷ us) owed text r why =
        let s = same_split front before t u later us text (omega (arith, why.4)) in
        record { owed = owed; level = why.0; left = why.1; reaches = subst (λ f. Reaches most f S owed) (sym s.before) r; some = ap (settle owed) s.first ∙ why.2; deep = why.3 }

refused_again : {most : ℕ} {front : List Symbol} {t : Symbol} {S : List Owed} → Refusing most front t S → (more : List Symbol) → run most (front ++ t ∷ more) S ≡ Err (Syntax (length (t ∷ more)))
refused_again {most = most} {t = t} h more = goes_on most (omega arith) h.reaches (t ∷ more) ∙ ap (λ o. found most o (length (t ∷ more)) (run most more)) h.none

opened_again : {most : ℕ} {front : List Symbol} {t : Symbol} {S : List Owed} → Opened most front t S → (more : List Symbol) → run most (front ++ t ∷ more) S ≡ Err (TooDeep (length (t ∷ more)))
opened_again {most = most} {t = t} h more = goes_on most (omega arith) h.reaches (t ∷ more) ∙ ap (λ o. found most o (length (t ∷ more)) (run most more)) h.some ∙ too_many h.level most _ _ h.deep

-- ---- where something is read, the machine goes on

none_left : (most : ℕ) (l : List Symbol) (n : ℕ) → ((K : List Owed) → run most l K ≡ Err (Syntax n)) → ⊥
none_left most [] n h = let both = h [] in cc
none_left most (u ∷ us) n h = by_rest us (sym (h [])) (sym taken ∙ h (Token 0 (This (class_at u)) ∷ []))
  where
    taken : run most (u ∷ us) (Token 0 (This (class_at u)) ∷ []) ≡ run most us []
    taken = ap (λ b. found most (moved (if b then Eat 0 (λ K. K) else Stop) [] None) (length (u ∷ us)) (run most us)) (same_self (class_at u)) ∙ fits 0 most (run most us []) _ (omega arith)

    by_rest : (us : List Symbol) → ◌≡◌ {A = Verdict} (Err (Syntax n)) (Err (Syntax (length (u ∷ us)))) → run most us [] ≡ Err (Syntax n) → ⊥
    by_rest [] e q = cc
    by_rest (w ∷ ws) e q =
        let first : n ≡ length (u ∷ w ∷ ws) = cc in
        let second : n ≡ length (w ∷ ws) = cc in
        omega (arith, first, second)

none_deep : (most : ℕ) (l : List Symbol) (n : ℕ) → run most l [] ≡ Err (TooDeep n) → ⊥
none_deep most [] n e = cc
none_deep most (u ∷ us) n e = cc

ended_memory : (K : List Owed) → ended K ≡ Err OutOfMemory → ⊥
ended_memory [] e = cc
ended_memory (o ∷ K) e = by_move (step o (Last nowhere)) (ended_memory K) e
  where
    by_move : (m : Move) → (ended K ≡ Err OutOfMemory → ⊥) → at_end m (ended K) ≡ Err OutOfMemory → ⊥
    by_move (Eat d f) again e = cc
    by_move Skip again e = again e
    by_move Stop again e = cc

pub no_memory : (most : ℕ) (ts : List Symbol) (K : List Owed) → run most ts K ≡ Err OutOfMemory → ⊥
no_memory most [] K e = ended_memory K e
no_memory most (t ∷ ts) K e = by_found (settle K t) (λ L. no_memory most ts L) e
  where
    by_leb : (b : Bool) (v : Verdict) → (v ≡ Err OutOfMemory → ⊥) → (if b then v else Err (TooDeep (length (t ∷ ts)))) ≡ Err OutOfMemory → ⊥
    by_leb true v f e = f e
    by_leb false v f e = cc

    by_found : (o : Option (ℕ × List Owed)) → ((L : List Owed) → run most ts L ≡ Err OutOfMemory → ⊥) → found most o (length (t ∷ ts)) (run most ts) ≡ Err OutOfMemory → ⊥
    by_found None f e = cc
    by_found (Some p) f e = by_leb (leb p.0 most) (run most ts p.1) (f p.1) e

-- a reading that the machine does not go on after
halted : (most d n : ℕ) (i : List Symbol) (e : ParseError) → e ≢ OutOfMemory → ((K : List Owed) → run most i (One grammar.Task d ∷ K) ≡ Err e) → (r : Outcome Variant)
    → ((K : List Owed) → Reading (length i) most (One grammar.Task d ∷ K) K (λ v a b. Derives (grammar.One grammar.Task d v) a b) i r) → r ≡ Err e
halted most d n i OutOfMemory apart h r reading = absurd (apart refl)
halted most d n i (Syntax m) apart h (Ok p) reading = absurd (none_left most p.1 m (λ K. sym ((reading K).is.1) ∙ h K))
halted most d n i (TooDeep m) apart h (Ok p) reading = absurd (none_deep most p.1 m (sym ((reading []).is.1) ∙ h []))
halted most d n i (Syntax m) apart h (Err z) reading = let same : ◌≡◌ {A = Verdict} (Err z) (Err (Syntax m)) = sym ((reading []).is) ∙ h [] in let e : z ≡ Syntax m = cc in ap (λ z. Err z) e
halted most d n i (TooDeep m) apart h (Err z) reading = let same : ◌≡◌ {A = Verdict} (Err z) (Err (TooDeep m)) = sym ((reading []).is) ∙ h [] in let e : z ≡ TooDeep m = cc in ap (λ z. Err z) e

module _ (most d n : ℕ) (eq : n + d ≡ most) where
  pub task_halts : (i : List Symbol) (e : ParseError) → e ≢ OutOfMemory → ((K : List Owed) → run most i (One grammar.Task d ∷ K) ≡ Err e) → task n i ≡ Err e
  task_halts i e apart h = halted most d n i e apart h (task n i) (λ K. task_reads most d n eq (length i) i K (omega arith))

  run_of : (i : List Symbol) (e : ParseError) (K : List Owed) (r : Outcome Variant) → r ≡ Err e → Reading (length i) most (One grammar.Task d ∷ K) K (λ v a b. Derives (grammar.One grammar.Task d v) a b) i r → run most i (One grammar.Task d ∷ K) ≡ Err e
  run_of i e K (Ok p) q h = absurd (cc)
  run_of i e K (Err z) q h = let same : z ≡ e = cc in h.is ∙ ap (λ z. Err z) same

  pub task_run : (i : List Symbol) (e : ParseError) (K : List Owed) → task n i ≡ Err e → run most i (One grammar.Task d ∷ K) ≡ Err e
  task_run i e K q = run_of i e K (task n i) q (task_reads most d n eq (length i) i K (omega arith))

  -- after the head: where a leaf is refused at a symbol it is so whatever stands behind
  module _ {head : List Symbol} (h : Head head) where
    pub after_head : (x : List Symbol) (e : ParseError) (K : List Owed) → leaf n (head ++ x) ≡ Err e → run most x (rest_of d K) ≡ Err e
    after_head x e K q = sym (head_run most d (omega (arith, eq)) h K x) ∙ task_run (head ++ x) e K (sym (alone n h x) ∙ q)

    from_head : (x : List Symbol) (e : ParseError) → e ≢ OutOfMemory → ((K : List Owed) → run most x (rest_of d K) ≡ Err e) → leaf n (head ++ x) ≡ Err e
    from_head x e apart f = alone n h x ∙ task_halts (head ++ x) e apart (λ K. head_run most d (omega (arith, eq)) h K x ∙ f K)

    pub refuses_again : (front : List Symbol) (t : Symbol) (later more : List Symbol) → leaf n (head ++ (front ++ t ∷ later)) ≡ Err (Syntax (length (t ∷ later))) → leaf n (head ++ (front ++ t ∷ more)) ≡ Err (Syntax (length (t ∷ more)))
    refuses_again front t later more e = from_head (front ++ t ∷ more) (Syntax (length (t ∷ more))) (λ q. cc)
        (λ K. refused_again (refusing most front t later (rest_of d K) (after_head (front ++ t ∷ later) (Syntax (length (t ∷ later))) K e)) more)

    pub opens_again : (front : List Symbol) (t : Symbol) (later more : List Symbol) → leaf n (head ++ (front ++ t ∷ later)) ≡ Err (TooDeep (length (t ∷ later))) → leaf n (head ++ (front ++ t ∷ more)) ≡ Err (TooDeep (length (t ∷ more)))
    opens_again front t later more e = from_head (front ++ t ∷ more) (TooDeep (length (t ∷ more))) (λ q. cc)
        (λ K. opened_again (opened most front t later (rest_of d K) (after_head (front ++ t ∷ later) (TooDeep (length (t ∷ later))) K e)) more)

-- ---- a task of the grammar is read, up to the first token with a level too many

label_plain : (j : List Symbol) → label j [] ≡ plain j
label_plain [] = refl
label_plain (t ∷ ts) = ap (λ ts. at t 0 ∷ ts) (label_plain ts)

kinds_length : (ts : List Leveled) → length (kinds ts) ≡ length ts
kinds_length [] = refl
kinds_length (t ∷ ts) = ap suc (kinds_length ts)

label_length : (i : List Symbol) (S : List Owed) → length (label i S) ≡ length i
label_length i S = sym (kinds_length (label i S)) ∙ ap length (kinds_label i S)

pub kinds_plain : (js : List Symbol) → kinds (plain js) ≡ js
kinds_plain [] = refl
kinds_plain (s ∷ js) = ap (λ ss. s ∷ ss) (kinds_plain js)

plain_level : (j : List Symbol) (a : List Leveled) (t : Leveled) (b : List Leveled) → plain j ≡ a ++ t ∷ b → t.level ≡ 0
plain_level [] [] t b e = absurd (cc)
plain_level [] (x ∷ a) t b e = absurd (cc)
plain_level (u ∷ j) [] t b e = let first : at u 0 ≡ t = cc in ap (λ (t : Leveled). t.level) (sym first)
plain_level (u ∷ j) (x ∷ a) t b e = let rest : plain j ≡ a ++ t ∷ b = cc in plain_level j a t b rest

run_deep : (most : ℕ) (ts : List Symbol) (S : List Owed) (a : List Leveled) (t : Leveled) (b : List Leveled) → label ts S ≡ a ++ t ∷ b → Within most a → most < t.level → run most ts S ≡ Err (TooDeep (length (t ∷ b)))
run_deep most [] S [] t b e w lt = absurd (cc)
run_deep most [] S (x ∷ a) t b e w lt = absurd (cc)
run_deep most (u ∷ us) S a t b e w lt = by_found (settle S u) a e w (λ L a e w. run_deep most us L a t b e w lt)
  where
    by_found : (o : Option (ℕ × List Owed)) (a : List Leveled) → labeled u o (label us) ≡ a ++ t ∷ b → Within most a
        → ((L : List Owed) (a : List Leveled) → label us L ≡ a ++ t ∷ b → Within most a → run most us L ≡ Err (TooDeep (length (t ∷ b))))
        → found most o (length (u ∷ us)) (run most us) ≡ Err (TooDeep (length (t ∷ b)))
    by_found None [] e w again = let first : at u 0 ≡ t = cc in absurd (omega (arith, lt, ap (λ (t : Leveled). t.level) first))
    by_found None (x ∷ a) e w again = let rest : label us [] ≡ a ++ t ∷ b = cc in absurd (omega (arith, lt, plain_level us a t b (sym (label_plain us) ∙ rest)))
    by_found (Some p) [] e w again =
        let first : at u p.0 ≡ t = cc in
        let rest : label us p.1 ≡ b = cc in
        too_many p.0 most _ _ (omega (arith, lt, ap (λ (t : Leveled). t.level) first)) ∙ ap (λ n. Err (TooDeep n)) (omega (arith, label_length us p.1, ap length rest))
    by_found (Some p) (x ∷ a) e w again =
        let first : at u p.0 ≡ x = cc in
        let rest : label us p.1 ≡ a ++ t ∷ b = cc in
        fits p.0 most (run most us p.1) _ (omega (arith, w.0, ap (λ (t : Leveled). t.level) first)) ∙ again p.1 a rest w.1

-- within, or the first token that is not
pub record DeepIn (most : ℕ) (l : List Leveled) : Type 0 where
  pub before : List Leveled
  pub first : Leveled
  pub after : List Leveled
  pub is : l ≡ before ++ first ∷ after
  pub within : Within most before
  pub deep : most < first.level

pub within_or_deep : (most : ℕ) (l : List Leveled) → Within most l ⊎ DeepIn most l
within_or_deep most [] = inl tt
within_or_deep most (t ∷ l) = by_level (leb t.level most) refl (within_or_deep most l)
  where
    by_level : (b : Bool) → leb t.level most ≡ b → Within most l ⊎ DeepIn most l → Within most (t ∷ l) ⊎ DeepIn most (t ∷ l)
    by_level false e r = inr (record { before = []; first = t; after = l; is = refl; within = tt; deep = leb-false t.level most e })
    by_level true e (inl w) = inl (leb-true t.level most e, w)
    by_level true e (inr d) = inr (record { before = t ∷ d.before; first = d.first; after = d.after; is = ap (λ l. t ∷ l) d.is; within = (leb-true t.level most e, d.within); deep = d.deep })

within_plain : (most : ℕ) (j : List Symbol) → Within most (plain j)
within_plain most [] = tt
within_plain most (t ∷ j) = (omega arith, within_plain most j)

within_both : (most : ℕ) (a b : List Leveled) → Within most a → Within most b → Within most (a ++ b)
within_both most [] b w u = u
within_both most (t ∷ a) b w u = (w.0, within_both most a b w.1 u)

module _ (most d n : ℕ) (eq : n + d ≡ most) where
  pub leaf_reads : (v : Variant) (front : List Leveled) (x : List Symbol) → Derives (grammar.One grammar.Task d v) (front ++ plain x) (plain x) → v.kind ≡ kind.Leaf → Within most front → leaf n (kinds (front ++ plain x)) ≡ Ok (v, x)
  leaf_reads v front x h leaf w = leaf_complete most d n eq v (front ++ plain x) (plain x) h (within_both most front (plain x) w (within_plain most x)) leaf ∙ ap (λ x. Ok (v, x)) (kinds_plain x)

  pub leaf_deep : (v : Variant) (front : List Leveled) (x : List Symbol) → Derives (grammar.One grammar.Task d v) (front ++ plain x) (plain x) → v.kind ≡ kind.Leaf → (q : DeepIn most front)
      → leaf n (kinds (front ++ plain x)) ≡ Err (TooDeep (length (q.first ∷ (q.after ++ plain x))))
  leaf_deep v front x h is_leaf q =
      let counts : label (kinds (front ++ plain x)) (One grammar.Task d ∷ []) ≡ front ++ plain x = labels h tt [] (ap (λ j. label j []) (kinds_plain x) ∙ label_plain x) in
      let cut : label (kinds (front ++ plain x)) (One grammar.Task d ∷ []) ≡ q.before ++ q.first ∷ (q.after ++ plain x) = counts ∙ ap (λ f. f ++ plain x) q.is ∙ append_assoc q.before (q.first ∷ q.after) (plain x) in
      let halts = run_deep most (kinds (front ++ plain x)) (One grammar.Task d ∷ []) q.before q.first (q.after ++ plain x) cut q.within q.deep in
      let head = head_of h is_leaf in
      ap (leaf n) head.3 ∙ alone n head.1 head.2 ∙ ap (task n) (sym head.3) ∙ deep_task (kinds (front ++ plain x)) (length (q.first ∷ (q.after ++ plain x))) halts
    where
      of_outcome : (i : List Symbol) (m : ℕ) (r : Outcome Variant) → run most i (One grammar.Task d ∷ []) ≡ Err (TooDeep m) → Reading (length i) most (One grammar.Task d ∷ []) [] (λ v a b. Derives (grammar.One grammar.Task d v) a b) i r → r ≡ Err (TooDeep m)
      of_outcome i m (Ok p) e h = absurd (none_deep most p.1 m (sym h.is.1 ∙ e))
      of_outcome i m (Err z) e h = let same : ◌≡◌ {A = Verdict} (Err z) (Err (TooDeep m)) = sym h.is ∙ e in let q : z ≡ TooDeep m = cc in ap (λ z. Err z) q

      deep_task : (i : List Symbol) (m : ℕ) → run most i (One grammar.Task d ∷ []) ≡ Err (TooDeep m) → task n i ≡ Err (TooDeep m)
      deep_task i m e = of_outcome i m (task n i) e (task_reads most d n eq (length i) i [] (omega arith))

  kinds_append : (i j : List Leveled) → kinds (i ++ j) ≡ kinds i ++ kinds j
  kinds_append [] j = refl
  kinds_append (t ∷ i) j = ap (λ x. t.kind ∷ x) (kinds_append i j)

  -- A leaf of the grammar is refused only at a token of its own, which opens a level too many.
  pub refused_within : (v : Variant) (front : List Leveled) → ((J : List Leveled) → Derives (grammar.One grammar.Task d v) (front ++ J) J) → v.kind ≡ kind.Leaf → (x : List Symbol) (e : ParseError)
      → leaf n (kinds front ++ x) ≡ Err e → (c : ℕ) × (e ≡ TooDeep c) × (length x < c)
  refused_within v front h is_leaf x e q = by_case (within_or_deep most front) (ap (leaf n) (kinds_append front (plain x) ∙ ap (λ y. kinds front ++ y) (kinds_plain x)) ∙ q)
    where
      by_case : Within most front ⊎ DeepIn most front → leaf n (kinds (front ++ plain x)) ≡ Err e → (c : ℕ) × (e ≡ TooDeep c) × (length x < c)
      by_case (inl w) q = let both : ◌≡◌ {A = Outcome Variant} (Ok (v, x)) (Err e) = sym (leaf_reads v front x (h (plain x)) is_leaf w) ∙ q in absurd (cc)
      by_case (inr b) q =
          let both : ◌≡◌ {A = Outcome Variant} (Err e) (Err (TooDeep (length (b.first ∷ (b.after ++ plain x))))) = sym q ∙ leaf_deep v front x (h (plain x)) is_leaf b in
          let same : e ≡ TooDeep (length (b.first ∷ (b.after ++ plain x))) = cc in
          (length (b.first ∷ (b.after ++ plain x)), same, omega (arith, length-append b.after (plain x), ap length (kinds_plain x), kinds_length (plain x)))

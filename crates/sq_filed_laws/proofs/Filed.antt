-- The text of a good plan's file stands for a file without faults that runs as the plan does.
use Rattle.std.proofs.Common.{◌≡◌, ℕ, zero, suc, ◌<◌, ◌≤◌, Bool, List, [], ◌∷◌, map, Option, Some, None, refl, sym, ◌∙◌, ap, ap₂, subst, ◌⊎◌, inl, inr, arith}
use Rattle.std.specs.Prelude.{get_or}
use Rattle.sq_text.specs.declared.place.Place.{Place}
use Rattle.sq_text.specs.declared.code.Code.{Code}
use Rattle.sq_text.specs.declared.code.Code.TheVariants.{LimitEvents, TooDeep, LimitFile}
use Rattle.sq_text.specs.declared.code.Phase.TheVariants.{Plan as PlanPhase}
use Rattle.sq_text.specs.declared.fault.Fault.{Fault}
use Rattle.sq_text.specs.Places.{start}
use Rattle.sq_lexer.specs.declared.token.Token.{Token}
use Rattle.sq_lexer.specs.Tokens.{AreTokens}
use Rattle.sq_lexer.specs.Faults.{BreaksFrom, most_plan_bytes, FitsFile, IsTooLong, HasFault, too_long, breaks}
use Rattle.sq_leaf.specs.declared.trap.Trap.{Trap}
use Rattle.sq_ir.specs.Runs.{Trap as Ending, exec}
use Rattle.sq_ir.specs.Events.{Bytes, Leaves, meaning}
use Rattle.sq_ir.specs.DraftLeaves.{leaves_of}
use Rattle.sq_ir.specs.Tree.{waiting}
use Rattle.sq_ir.specs.Written.{Setting, at_root, scoped, written as tree_written}
use Rattle.sq_ir.specs.Plans.{placed, setting_of, tree_of, IsWellFormed, IsGood}
use Rattle.sq_ir.specs.PlanLaws.{HaveRoomAlways}
use Rattle.sq_ir.specs.declared.plan.Buffer.{Buffer}
use Rattle.sq_ir.specs.declared.plan.PlanNode.{PlanNode}
use Rattle.sq_ir.specs.declared.plan.Plan.{Plan}
use Rattle.sq_ir.specs.declared.term.Term.{Term}
use Rattle.sq_plantext.specs.Faults.{SyntaxFault}
use Rattle.sq_plantext.specs.Grammar.{most_levels, StandsFor}
use Rattle.sq_plantext.specs.Layout.{laid_out}
use Rattle.sq_plantext.specs.declared.text.TermText.{TermText}
use Rattle.sq_plantext.specs.declared.text.TermText.TheVariants as text
use Rattle.sq_plantext.specs.declared.text.PlanText.{PlanText}
use Rattle.sq_planfile.specs.declared.entry.EntryArray.{EntryArray}
use Rattle.sq_planfile.specs.declared.left.Left.{Left}
use Rattle.sq_planfile.specs.declared.left.Left.TheVariants.{Nothing}
use Rattle.sq_planfile.specs.Left.{whole as whole_text}
use Rattle.sq_planfile.specs.File.{PlanFile}
use Rattle.sq_planfile.specs.Files.{nodes_of, array_of, plan_of, draft_of, file_of}
use Rattle.sq_planfile.specs.Written as written
use Rattle.sq_planfile.specs.Written.{left_of, reading_of}
use Rattle.sq_planfile.specs.Limits.{most_events, size, depth, no_place, EventsFault, DepthFault, LengthFault, TextFault}
use Rattle.sq_planfile.specs.Sound.{IsSound}
use Rattle.sq_planfile.specs.Faults.{LineFault, Writes, IsBadSyntax, IsBadLine, PlanFault, Means}
use Rattle.sq_planfile.proofs.Joins.{IsSome, Shown, none, some, shown}
use Rattle.sq_check_laws.specs.Whole.{whole, whole_of}
use Rattle.sq_check_laws.specs.Flaws.{HasTooMany}
use Rattle.sq_check_laws.specs.First.{IsFirstFlaw}
use Rattle.sq_check_laws.specs.PlanLaws.{FirstFlawsAreOne}
use Rattle.sq_check_laws.specs.declared.flaw.Flaw.{Flaw}
use Rattle.sq_layout_laws.specs.Readable.{IsReadable}
use Rattle.sq_layout_laws.specs.ReadBack.{IsReadAs, LaidOutReadBack}
use Rattle.sq_layout_laws.specs.WrittenLaws.Again.{again, IsInOrder, HasSoundHeads, WrittenAreSame, WrittenRunSo, WrittenAreSound, WrittenAreGood}
use Rattle.sq_layout_laws.specs.WrittenLaws.Moved.{AreMoved, TrapAlike, EndsAlike, MovedEndAlike}
use Rattle.sq_layout_laws.specs.UnplacedLaws.Unplaced.{AreSame}
use Rattle.sq_layout_laws.specs.UnplacedLaws.Laws.{IsMovedPlan, SameAreSound, SameAreMoved, MovedAreGood}
use Rattle.sq_filed_laws.specs.Filed.{text_of, IsSameFile, IsFiled, GoodAreFiled}
use Rattle.sq_filed_laws.proofs.Trimmed.{IsFull}
use Rattle.sq_filed_laws.proofs.Flawless.{flawless}
use Rattle.sq_filed_laws.proofs.Full.{LeftFull, left_full, whole_full}
use Rattle.sq_filed_laws.proofs.Trees.{tree, tree_seq, as_many, enclosed_count, fills}

-- ---- limits

at_most_or : (a b : ℕ) → (a ≤ b) ⊎ (b < a)
at_most_or zero b = inl (omega arith)
at_most_or (suc a) zero = inr (omega arith)
at_most_or (suc a) (suc b) = by (at_most_or a b)
  where
    by : (a ≤ b) ⊎ (b < a) → (suc a ≤ suc b) ⊎ (suc b < suc a)
    by (inl l) = inl (omega (arith, l))
    by (inr l) = inr (omega (arith, l))

module _ (f : PlanFile) (kept : (its : Fault) → TextFault f its → ⊥) where
  pub few_events : most_events < size (written.written f).term → ⊥
  few_events many = kept (no_place LimitEvents) (inl (record { many = many; is = refl }))

  few : (its : Fault) → EventsFault f its → ⊥
  few its fault = few_events fault.many

  pub few_levels : depth (written.written f).term ≤ most_levels
  few_levels = by (at_most_or (depth (written.written f).term) most_levels)
    where
      by : (depth (written.written f).term ≤ most_levels) ⊎ (most_levels < depth (written.written f).term) → depth (written.written f).term ≤ most_levels
      by (inl le) = le
      by (inr lt) = absurd (kept (no_place TooDeep) (inr (few, inl (record { deep = lt; is = refl }))))

  shallow : (its : Fault) → DepthFault f its → ⊥
  shallow its fault = let le = few_levels in let lt = fault.deep in omega (arith, le, lt)

  pub short : FitsFile PlanPhase (text_of f)
  short = by (at_most_or _ most_plan_bytes)
    where
      by : FitsFile PlanPhase (text_of f) ⊎ IsTooLong PlanPhase (text_of f) → FitsFile PlanPhase (text_of f)
      by (inl le) = le
      by (inr lt) = absurd (kept (no_place LimitFile) (inr (few, inr (shallow, record { long = lt; is = refl }))))

-- ---- what a text stands for is one

module _ (one_list : (t : List ℕ) (ts us : List Token) → AreTokens t ts → AreTokens t us → ts ≡ us)
    (one_text : (ts : List Token) (x y : PlanText) → StandsFor most_levels ts x → StandsFor most_levels ts y → x ≡ y) where
  pub one_writing : (t : List ℕ) (x y : PlanText) → Writes t x → Writes t y → x ≡ y
  one_writing t x y a b = one_text b.tokens x y
      (subst (λ ts. StandsFor most_levels ts x) (one_list t a.tokens b.tokens a.tokens_of b.tokens_of) a.grammar) b.grammar

-- ---- plans that are the same but for places

abbrev setting_by : List Buffer → List PlanNode → List ℕ → Setting
setting_by bs ns os = placed bs ns (λ b. get_or os b 0)

module _ (p q : Plan) (moved : IsMovedPlan p q) where
  same_setting : setting_of p ≡ setting_of q
  same_setting =
      ap (λ bs. setting_by bs p.nodes p.offsets) moved.buffers
      ∙ (ap (λ ns. setting_by q.draft.buffers ns p.offsets) moved.nodes ∙ ap (λ os. setting_by q.draft.buffers q.nodes os) moved.offsets)

  same_tree : tree_of p ≡ tree_of q
  same_tree =
      ap (λ s. scoped 0 p.draft.entry (tree_written s p.draft.term at_root)) same_setting
      ∙ (ap (λ (t : Term). scoped 0 p.draft.entry (tree_written (setting_of q) t at_root)) moved.term
      ∙ ap (λ (e : List ℕ). scoped 0 e (tree_written (setting_of q) q.draft.term at_root)) moved.entry)

  same_whole : whole (setting_of p) p.draft.term at_root ≡ whole (setting_of q) q.draft.term at_root
  same_whole = ap (λ s. whole s p.draft.term at_root) same_setting ∙ ap (λ (t : Term). whole (setting_of q) t at_root) moved.term

-- ---- the plan of the lines has no flaw

module _ (f : PlanFile) (p : Plan) (moved : IsMovedPlan (again f) p) where
  abbrev x : PlanText
  x = written.written f

  abbrev s : Setting
  s = setting_of f.plan

  abbrev left : Left
  left = left_of s f.plan.draft.term at_root

  text_full : (a : Left) → Shown a → LeftFull a → IsFull (tree (setting_of (again f)) (nodes_of x) (whole_text a) 0 at_root)
  text_full a (none e) h = subst (λ b. IsFull (tree (setting_of (again f)) (nodes_of x) (whole_text b) 0 at_root)) (sym e)
      (subst IsFull (sym (tree_seq (setting_of (again f)) (nodes_of x) [] 0 at_root)) tt)
  text_full a (some u) h = (fills (setting_of (again f)) (nodes_of x) (whole_text a) (whole_full u h) 0 at_root).1

  pub its_full : IsFull (whole (setting_of p) p.draft.term at_root)
  its_full = subst IsFull (same_whole (again f) p moved) (text_full left (shown left) (left_full (reading_of s) f.plan.draft.term at_root))

  pub its_few : (most_events < size x.term → ⊥) → HasTooMany (whole_of p) → ⊥
  its_few never many =
      let count : waiting (whole_of p) ≡ size x.term =
      enclosed_count (setting_of p) p.nodes 0 p.draft.entry (whole (setting_of p) p.draft.term at_root)
      ∙ (ap waiting (sym (same_whole (again f) p moved)) ∙ as_many (setting_of (again f)) (nodes_of x) x.term 0 at_root) in
      never (subst (λ n. most_events < n) count many)

-- ---- the whole

no_flaw_is : {A : Type 0} (x : A) → ◌≡◌ {A = Option A} None (Some x) → ⊥
no_flaw_is x is = cc

arrays_again : (xs : List EntryArray) → map array_of (map written.array_of xs) ≡ xs
arrays_again [] = refl
arrays_again (x ∷ xs) = ap (λ ys. x ∷ ys) (arrays_again xs)

module _ (one_list : (t : List ℕ) (ts us : List Token) → AreTokens t ts → AreTokens t us → ts ≡ us)
    (no_break : (t : List ℕ) (ts : List Token) (c : Code) (place : Place) → AreTokens t ts → BreaksFrom start t c place → ⊥)
    (one_text : (ts : List Token) (x y : PlanText) → StandsFor most_levels ts x → StandsFor most_levels ts y → x ≡ y)
    (no_syntax : (ts : List Token) (x : PlanText) (g : Fault) → StandsFor most_levels ts x → SyntaxFault ts g → ⊥)
    (no_line : (x : PlanText) (g : Fault) → IsSound x → LineFault x g → ⊥)
    (one_flaw : FirstFlawsAreOne Trap) (rooms : HaveRoomAlways Trap)
    (back : LaidOutReadBack) (sounds : SameAreSound) (moves : SameAreMoved) (goods : MovedAreGood)
    (same : WrittenAreSame) (runs : WrittenRunSo) (sound : WrittenAreSound) (stays : WrittenAreGood) (alike : MovedEndAlike)
  where
    module _ (f : PlanFile) (good : IsGood (leaves_of f.plan.draft) f.plan) (order : IsInOrder f) (heads : HasSoundHeads f)
        (readable : IsReadable (written.written f)) (kept : (its : Fault) → TextFault f its → ⊥) where
      abbrev lines : PlanText
      lines = written.written f

      read : IsReadAs (text_of f) lines
      read = back lines readable (short f kept)

      abbrev y : PlanText
      y = read.lines

      abbrev g : PlanFile
      g = file_of y

      sound_y : IsSound y
      sound_y = sounds lines y read.same (sound f order good.well_formed heads)

      moved : IsMovedPlan (again f) g.plan
      moved = (moves lines y read.same).0

      back_moved : IsMovedPlan g.plan (again f)
      back_moved = (moves y lines (sym read.same)).0

      good_y : IsGood (leaves_of g.plan.draft) g.plan
      good_y = goods (again f) g.plan moved (stays f order good heads)

      means : Means (text_of f) g
      means = record { lines = y; writes = read.writes; sound = sound_y; is = refl }

      only : (h : PlanFile) → Means (text_of f) h → h ≡ g
      only h m = m.is ∙ ap file_of (one_writing one_list one_text (text_of f) m.lines y m.writes read.writes)

      -- ---- no fault

      no_token_fault : (its : Fault) → HasFault PlanPhase (text_of f) its → ⊥
      no_token_fault its (too_long long) = let le = short f kept in let lt = long in omega (arith, le, lt)
      no_token_fault its (breaks {c = c} {place = place} fits at) = no_break (text_of f) read.writes.tokens c place read.writes.tokens_of at

      no_bad_syntax : (its : Fault) → IsBadSyntax (text_of f) its → ⊥
      no_bad_syntax its bad = no_syntax bad.tokens y its
          (subst (λ ts. StandsFor most_levels ts y) (one_list (text_of f) read.writes.tokens bad.tokens read.writes.tokens_of bad.tokens_of) read.writes.grammar) bad.faulty

      no_bad_line : (its : Fault) → IsBadLine (text_of f) its → ⊥
      no_bad_line its bad = no_line y its sound_y
          (subst (λ x. LineFault x its) (one_writing one_list one_text (text_of f) bad.lines y bad.writes read.writes) bad.broken)

      no_plan_fault : (its : Fault) → PlanFault (text_of f) its → ⊥
      no_plan_fault its (inl h) = no_token_fault its h
      no_plan_fault its (inr (o, inl h)) = no_bad_syntax its h
      no_plan_fault its (inr (o, inr (u, h))) = no_bad_line its h

      its_first : IsFirstFlaw (leaves_of g.plan.draft) g.plan None
      its_first = flawless (leaves_of g.plan.draft) g.plan good_y (its_full f g.plan moved) rooms (its_few f g.plan moved (few_events f kept))

      no_flaw : (flaw : Flaw) → IsFirstFlaw (leaves_of g.plan.draft) g.plan (Some flaw) → ⊥
      no_flaw flaw first = no_flaw_is flaw (one_flaw (leaves_of g.plan.draft) g.plan None (Some flaw) its_first first)

      -- ---- the same file

      ends : (m : Bytes) → EndsAlike (exec (meaning (leaves_of g.plan.draft)) (tree_of g.plan) m)
          (exec (meaning (leaves_of f.plan.draft)) (tree_of f.plan) m)
      ends m =
          let w = meaning (leaves_of (again f).draft) in
          let here : exec w (tree_of g.plan) m ≡ exec (meaning (leaves_of f.plan.draft)) (tree_of f.plan) m =
          ap (λ t. exec w t m) (same_tree g.plan (again f) back_moved)
          ∙ ((runs f order good.well_formed).ends w m
          ∙ ap (λ l. exec (meaning l) (tree_of f.plan) m) (same f order good.well_formed).leaves) in
          subst (λ e. EndsAlike (exec (meaning (leaves_of g.plan.draft)) (tree_of g.plan) m) e) here
          (alike g.plan.draft (again f).draft back_moved.leaves (tree_of g.plan) m)

      same_file : IsSameFile f g
      same_file = record {
        arrays = sym (moves lines y read.same).1 ∙ arrays_again f.arrays;
        nodes = back_moved.nodes ∙ (same f order good.well_formed).nodes;
        setting = same_setting g.plan (again f) back_moved ∙ (same f order good.well_formed).setting;
        entry = back_moved.entry ∙ (same f order good.well_formed).entry;
        good = good_y;
        ends = ends;
      }

      pub filed : IsFiled f
      filed = record { file = g; means = means; only = only; faultless = no_plan_fault; flawless = no_flaw; same = same_file }

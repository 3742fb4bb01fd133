-- The notes of a call in plain loops: those of what leaves them, the outermost loop first, and that of the innermost
-- where it overlaps.
use Rattle.std.proofs.Common.{◌≡◌, ℕ, zero, suc, ◌==◌, ◌<◌, ◌≤◌, Bool, true, false, List, []}
use Rattle.std.proofs.Common.{◌∷◌, ◌++◌, map, length, get_or, slice_get, Option, Some, refl, sym, ap, ap₂, subst}
use Rattle.std.proofs.Common.{◌∙◌, arith, if◌then◌else◌}
use Rattle.std.proofs.lemmas.Bool.Decides.{nat_tests}
use Rattle.sq_text.specs.declared.place.Place.{Place}
use Rattle.sq_text.specs.Names.{Bytes}
use Rattle.sq_ir.specs.declared.plan.Note.{Note}
use Rattle.sq_ir.specs.declared.plan.Note.TheVariants.{Hoist, Overlap}
use Rattle.sq_spec.specs.declared.statement.LoopKind.{LoopKind}
use Rattle.sq_spec.specs.declared.statement.LoopKind.TheVariants as loop_kind
use Rattle.sq_spec.specs.declared.statement.CallInstance.{CallInstance}
use Rattle.sq_spec.specs.declared.statement.Statement.{Statement, roll-Statement}
use Rattle.sq_spec.specs.declared.statement.Statement.TheVariants as b
use Rattle.sq_spec.specs.declared.statement.Statement.TheOpen.{Statement-F}
use Rattle.sq_spec.specs.declared.statement.Statement.TheFolds.{fold-roll-Statement, ind-Statement, map-Statement}
use Rattle.sq_spec.specs.declared.resolved.Resolved.{Resolved}
use Rattle.sq_placed.specs.Tables.{Chain, chain_of, first_of, one_more, row_form}
use Rattle.sq_draft_laws.specs.TermLaws.Orders.{EachOf}
use Rattle.sq_draft_laws.proofs.ProgramLaws.Loops.{nothing_more}
use Rattle.sq_draft_laws.specs.Homes.Chosen.declared.choice.Choice.{Choice}
use Rattle.sq_draft_laws.specs.Homes.Chosen.Forms.{choice_in, instance_at, name_by}
use Rattle.sq_pipe.specs.Hoist.Loops.{Nest}
use Rattle.sq_pipe.specs.Hoist.Notes.{no_place, notes_at, notes_out, param_at}
use Rattle.sq_pipe.specs.Candidates.{call_in, only_call}
use Rattle.sq_pipe.proofs.CallsOpened.{call_call, call_map}
use Rattle.sq_pass_laws.proofs.Nests.{longer}
use Rattle.sq_choice_laws.specs.Noted.{Noted, hoists_at, overlaps_at, call_alone, all_notes, noted_step, noted}
use Rattle.sq_choice_laws.proofs.Wholes.{Whole, whole_call, whole_loop}
use Rattle.sq_choice_laws.proofs.Merges.{assoc}

-- ---- places of loops

get_before : (ps : List Place) (q : Place) (j : ℕ) → j < length ps
    → get_or (ps ++ q ∷ []) j no_place ≡ get_or ps j no_place
get_before [] q j lt = absurd (omega (arith, lt))
get_before (p ∷ ps) q zero lt = refl
get_before (p ∷ ps) q (suc j) lt = get_before ps q j (omega (arith, lt))

get_last : (ps : List Place) (q : Place) → get_or (ps ++ q ∷ []) (length ps) no_place ≡ q
get_last [] q = refl
get_last (p ∷ ps) q = get_last ps q

module _ (instance : Bytes) (param : ℕ → Bytes) where
  out_before : (ps : List Place) (q : Place) (ls : List ℕ) (m : ℕ) → m ≤ length ps
      → notes_out instance param (ps ++ q ∷ []) ls m ≡ notes_out instance param ps ls m
  out_before ps q ls zero le = refl
  out_before ps q ls (suc m) le =
      ap₂ (λ (p : Place) (ns : List Note). notes_at instance param p (suc m) 0 ls ++ ns)
      (get_before ps q m (omega (arith, le))) (out_before ps q ls m (omega (arith, le)))

  -- one loop more
  pub out_longer : (ps : List Place) (q : Place) (ls : List ℕ)
      → notes_out instance param (ps ++ q ∷ []) ls (length (ps ++ q ∷ []))
      ≡ notes_at instance param q (suc (length ps)) 0 ls ++ notes_out instance param ps ls (length ps)
  out_longer ps q ls =
      ap (notes_out instance param (ps ++ q ∷ []) ls) (longer ps q)
      ∙ ap₂ (λ (p : Place) (ns : List Note). notes_at instance param p (suc (length ps)) 0 ls ++ ns)
      (get_last ps q) (out_before ps q ls (length ps) (omega arith))

  unequal : (m n : ℕ) → m < n → (m == n) ≡ false
  unequal m n lt = grind (arith, nat_tests)

  -- none leaves this many
  pub none_at : (place : Place) (loops i : ℕ) (ls : List ℕ) → ((j : ℕ) → get_or ls j 0 < loops)
      → notes_at instance param place loops i ls ≡ []
  none_at place loops i [] h = refl
  none_at place loops i (l ∷ ls) h =
      by (l == loops) (unequal l loops (h 0)) (none_at place loops (suc i) ls (λ j. h (suc j)))
    where
      by : (t : Bool) → t ≡ false → notes_at instance param place loops (suc i) ls ≡ []
          → (if t then Hoist place instance (param i) ∷ notes_at instance param place loops (suc i) ls
          else notes_at instance param place loops (suc i) ls) ≡ []
      by true e rest = absurd (cc e)
      by false e rest = rest

-- ---- the equations of what is noted

module _ (r : Resolved) (choices : List Choice) (caller : ℕ) where
  abbrev pub its : Statement → Noted
  its = noted r choices caller

  pub noted_call : (lower : Bool) (rows : List CallInstance) → its (b.Call lower rows)
      ≡ noted_step r choices caller (Statement-F.Call lower rows)
  noted_call lower rows = ap its (sym (b.rolls-Call lower rows))
      ∙ fold-roll-Statement Noted (noted_step r choices caller) (Statement-F.Call lower rows)

  pub noted_map : (place : Place) (m : LoopKind) (counts starts : List ℕ) (xs : List Statement)
      → its (b.Map place m counts starts xs)
      ≡ noted_step r choices caller (Statement-F.Map place m counts starts (map its xs))
  noted_map place m counts starts xs = ap its (sym (b.rolls-Map place m counts starts xs))
      ∙ fold-roll-Statement Noted (noted_step r choices caller) (Statement-F.Map place m counts starts xs)

  record IsNoted (x : Statement) : Type 0 where
    call : (its x).call ≡ call_in x

  abbrev KnownNoted : Type 0
  KnownNoted = (x : Statement) × IsNoted x

  step : (y : Statement-F KnownNoted) → IsNoted (roll-Statement (map-Statement KnownNoted Statement (λ q. q.0) y))
  step (Statement-F.Call lower rows) = subst IsNoted (sym (b.rolls-Call lower rows)) (record {
    call = ap (λ (p : Noted). p.call) (noted_call lower rows) ∙ sym (call_call lower rows);
  })
  step (Statement-F.Map place m counts starts xs) =
      let ys = map (λ (q : KnownNoted). q.0) xs in
      subst IsNoted (sym (b.rolls-Map place m counts starts ys)) (record {
        call = ap (λ (p : Noted). p.call) (noted_map place m counts starts ys) ∙ sym (call_map place m counts starts ys);
      })

  is_noted : (x : Statement) → IsNoted x
  is_noted = ind-Statement IsNoted (λ x y is. subst (λ z. IsNoted (roll-Statement z)) is (step y))

  calls_are : (xs : List Statement) → map (λ (p : Noted). p.call) (map its xs) ≡ map call_in xs
  calls_are [] = refl
  calls_are (x ∷ xs) = ap₂ (λ o os. o ∷ os) (is_noted x).call (calls_are xs)

  alone_is : (os : List (Option (List CallInstance))) → call_alone r choices caller os ≡ only_call os
  alone_is [] = refl
  alone_is (o ∷ []) = refl
  alone_is (o ∷ p ∷ os) = refl

  -- of a map, by the call that is all that stands in it
  pub map_notes : (place : Place) (m : LoopKind) (counts starts : List ℕ) (xs : List Statement)
      → (its (b.Map place m counts starts xs)).notes
      ≡ hoists_at r choices caller place (chain_of first_of m starts (map (λ (p : Noted). p.chain) (map its xs)))
      ++ (overlaps_at r choices caller place (only_call (map call_in xs))
      ++ all_notes r choices caller (map (λ (p : Noted). p.notes) (map its xs)))
  map_notes place m counts starts xs =
      ap (λ (p : Noted). p.notes) (noted_map place m counts starts xs)
      ∙ ap (λ o. hoists_at r choices caller place (chain_of first_of m starts (map (λ (p : Noted). p.chain) (map its xs)))
      ++ (overlaps_at r choices caller place o ++ all_notes r choices caller (map (λ (p : Noted). p.notes) (map its xs))))
      (alone_is (map (λ (p : Noted). p.call) (map its xs)) ∙ ap only_call (calls_are xs))

  -- ---- a call in plain loops

  pub record ChainOf (x : Statement) (n : Nest) : Type 0 where
    pub chain : Chain ℕ
    pub is : (its x).chain ≡ Some chain
    pub loops : chain.loops ≡ length n.loops
    pub form : row_form (slice_get chain.instances 0) ≡ n.form
    pub each : EachOf (λ (q : CallInstance). q.form ≡ n.form) chain.instances

  pub chain_there : {x : Statement} {n : Nest} → Whole caller x n → ChainOf x n
  chain_there (whole_call c rows same) = record {
    chain = record { loops = 0; instances = c ∷ rows; first = λ k. k };
    is = ap (λ (p : Noted). p.chain) (noted_call true (c ∷ rows));
    loops = refl;
    form = refl;
    each = same;
  }
  chain_there (whole_loop place counts starts {x = x} {n = n} is some_ h) =
      let g = chain_there h in record {
        chain = record {
          loops = suc g.chain.loops;
          instances = g.chain.instances;
          first = λ k. g.chain.first (first_of starts k);
        };
        is = ap (λ (p : Noted). p.chain) (noted_map place loop_kind.Sequential counts starts (x ∷ []))
            ∙ ap (one_more first_of starts) g.is;
        loops = ap suc g.loops ∙ sym (longer n.loops place);
        form = g.form;
        each = g.each;
      }

  abbrev name : Bytes
  name = name_by (instance_at r caller)

  abbrev leaves : ℕ → List ℕ
  leaves f = (choice_in choices f).leaves

  abbrev pub overlap_of : List Place → ℕ → List Note
  overlap_of [] f = []
  overlap_of (p ∷ ps) f = if (choice_in choices f).overlaps then Overlap p name ∷ [] else []

  abbrev pub nest_list : List Place → ℕ → List Note
  nest_list ps f = notes_out name (param_at r f) ps (leaves f) (length ps) ++ overlap_of ps f

  hoists_one : (place : Place) (o : Option (Chain ℕ)) (h : Chain ℕ) (f loops : ℕ) → o ≡ Some h
      → row_form (slice_get h.instances 0) ≡ f → h.loops ≡ loops
      → hoists_at r choices caller place o ≡ notes_at name (param_at r f) place loops 0 (leaves f)
  hoists_one place o h f loops e form l =
      ap (hoists_at r choices caller place) e
      ∙ ap₂ (λ (f loops : ℕ). notes_at name (param_at r f) place loops 0 (leaves f)) form l

  pub nest_notes : {x : Statement} {n : Nest} → Whole caller x n → (its x).notes ≡ nest_list n.loops n.form
  nest_notes (whole_call c rows same) = ap (λ (p : Noted). p.notes) (noted_call true (c ∷ rows))
  nest_notes (whole_loop place counts starts {x = x} {n = n} is some_ h) =
      let g = chain_there h in
      let own = notes_at name (param_at r n.form) place (suc (length n.loops)) 0 (leaves n.form) in
      let hoists = hoists_one place (one_more first_of starts (its x).chain)
      (record { loops = suc g.chain.loops; instances = g.chain.instances; first = λ k. g.chain.first (first_of starts k) })
      n.form (suc (length n.loops)) (ap (one_more first_of starts) g.is) g.form (ap suc g.loops) in
      map_notes place loop_kind.Sequential counts starts (x ∷ [])
      ∙ ap (λ l. l ++ (overlaps_at r choices caller place (call_in x) ++ ((its x).notes ++ []))) hoists
      ∙ ap (λ l. own ++ l) (inner h (nest_notes h))
      ∙ sym (assoc own (notes_out name (param_at r n.form) n.loops (leaves n.form) (length n.loops))
      (overlap_of (n.loops ++ place ∷ []) n.form))
      ∙ ap (λ l. l ++ overlap_of (n.loops ++ place ∷ []) n.form)
      (sym (out_longer name (param_at r n.form) n.loops place (leaves n.form)))
    where
      inner : {x : Statement} {n : Nest} → Whole caller x n → (its x).notes ≡ nest_list n.loops n.form
          → overlaps_at r choices caller place (call_in x) ++ ((its x).notes ++ [])
          ≡ notes_out name (param_at r n.form) n.loops (leaves n.form) (length n.loops)
          ++ overlap_of (n.loops ++ place ∷ []) n.form
      inner (whole_call c rows same) e =
          ap₂ (λ o ns. overlaps_at r choices caller place o ++ (ns ++ [])) (call_call true (c ∷ rows)) e
          ∙ nothing_more (overlaps_at r choices caller place (Some (c ∷ rows)))
      inner (whole_loop p cs ss {x = y} {n = m} is some_ h) e =
          ap₂ (λ o ns. overlaps_at r choices caller place o ++ ns)
          (call_map p loop_kind.Sequential cs ss (y ∷ []))
          (nothing_more (its (b.Map p loop_kind.Sequential cs ss (y ∷ []))).notes ∙ e)
          ∙ ap (λ l. notes_out name (param_at r m.form) (m.loops ++ p ∷ []) (leaves m.form) (length (m.loops ++ p ∷ []))
          ++ l) (same_first m.loops m.form)
        where
          same_first : (ps : List Place) (f : ℕ)
              → overlap_of (ps ++ p ∷ []) f ≡ overlap_of ((ps ++ p ∷ []) ++ place ∷ []) f
          same_first [] f = refl
          same_first (q ∷ ps) f = refl

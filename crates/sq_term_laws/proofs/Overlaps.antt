-- Forms that may overlap their transfers: the equations of what is asked of their calls, and the buffers of calls.
use Rattle.std.proofs.Common.{◌≡◌, ℕ, zero, suc, Bool, true, false, not, ◌||◌, is_some, List, [], ◌∷◌, ◌++◌, map, get_or}
use Rattle.std.proofs.Common.{Some, None, refl, sym, ap, ap₂, subst, ◌∙◌, if◌then◌else◌}
use Rattle.std.proofs.Math.Path.{fun_ext}
use Rattle.sq_text.specs.declared.place.Place.{Place}
use Rattle.sq_text.specs.declared.spread.SpreadRule.{SpreadRule}
use Rattle.sq_blocks.specs.declared.argument.Argument.{Argument}
use Rattle.sq_ir.specs.declared.term.Term.{Term}
use Rattle.sq_spec.specs.declared.statement.LoopKind.{LoopKind}
use Rattle.sq_spec.specs.declared.statement.LoopKind.TheVariants as loop_kind
use Rattle.sq_spec.specs.declared.statement.CallInstance.{CallInstance}
use Rattle.sq_spec.specs.declared.statement.Statement.{Statement, roll-Statement}
use Rattle.sq_spec.specs.declared.statement.Statement.TheVariants as b
use Rattle.sq_spec.specs.declared.statement.Statement.TheOpen.{Statement-F}
use Rattle.sq_spec.specs.declared.statement.Statement.TheFolds.{ind-Statement, map-Statement, fold-roll-Statement}
use Rattle.sq_spec.specs.declared.statement.Statement.TheFolds.{rec-roll-Statement}
use Rattle.sq_spec.specs.declared.body.Body.{Body}
use Rattle.sq_spec.specs.declared.body.Body.TheVariants as body
use Rattle.sq_spec.specs.declared.body.FormBody.{FormBody}
use Rattle.sq_spec.specs.Spreads.{any_of, is_spread, lower_in, same_in}
use Rattle.sq_placed.specs.declared.home.Home.{Home}
use Rattle.sq_placed.specs.declared.home.Home.TheVariants.{InPlace, Own, Held, Twin}
use Rattle.sq_placed.specs.declared.home.Homes.{Homes}
use Rattle.sq_placed.specs.Trees.{buffer_of, twin_of}
use Rattle.sq_placed.specs.Tables.{spread_of}
use Rattle.sq_placed.specs.Pipes.{NonePiped}
use Rattle.sq_term.specs.declared.context.Context.{Context}
use Rattle.sq_term.specs.Terms.{buffers_from, set_buffers_from, TermPart, any_lower, any_same, statement_term}
use Rattle.sq_term.proofs.Opened.{built_call, built_map}
use Rattle.sq_term_laws.specs.Orders.{EachOf, call_buffers}
use Rattle.sq_term_laws.specs.Overlapping.{IsSuited, AskedInMaps, each_in_maps, any_by, can_overlap, RowOverlaps}
use Rattle.sq_term_laws.specs.Overlapping.{overlaps_step, Overlaps, BodyOverlaps, OverlapsStand}
use Rattle.sq_spec.proofs.InStatements.{lower_call, lower_map, same_call, same_map}

-- ---- the buffers of a call

suited_at : (o : Bool) (hs : List Home) → EachOf (IsSuited o) hs → (i : ℕ) → IsSuited o (get_or hs i InPlace)
suited_at o [] h i = tt
suited_at o (x ∷ hs) h zero = h.0
suited_at o (x ∷ hs) h (suc i) = suited_at o hs h.1 i

pub no_twin : (set : ℕ) (h : Home) (more : List ℕ) → IsSuited false h → twin_of set h more ≡ more
no_twin set InPlace more s = refl
no_twin set (Own b) more s = refl
no_twin set (Held b loops) more s = refl
no_twin set (Twin b c) more s = absurd (let z = s in cc)

no_own : (h : Home) (more : List ℕ) → IsSuited true h → buffer_of h more ≡ more
no_own InPlace more s = refl
no_own (Own b) more s = absurd (let z = s in cc)
no_own (Held b loops) more s = refl
no_own (Twin b c) more s = refl

no_set : (set : ℕ) (hs : List Home) → EachOf (IsSuited false) hs → (i : ℕ) (args : List Argument)
    → set_buffers_from set hs i args ≡ []
no_set set hs h i [] = refl
no_set set hs h i (a ∷ rest) =
    no_twin set (get_or hs i InPlace) (set_buffers_from set hs (suc i) rest) (suited_at false hs h i)
    ∙ no_set set hs h (suc i) rest

no_owns : (hs : List Home) → EachOf (IsSuited true) hs → (i : ℕ) (args : List Argument) → buffers_from hs i args ≡ []
no_owns hs h i [] = refl
no_owns hs h i (a ∷ rest) =
    no_own (get_or hs i InPlace) (buffers_from hs (suc i) rest) (suited_at true hs h i)
    ∙ no_owns hs h (suc i) rest

pub nothing_more : (xs : List ℕ) → xs ++ ([] ++ []) ≡ xs
nothing_more [] = refl
nothing_more (x ∷ xs) = ap (λ l. x ∷ l) (nothing_more xs)

-- of a call that doesn't overlap its transfers
pub plain_buffers : (hs : List Home) → EachOf (IsSuited false) hs → (args : List Argument)
    → call_buffers hs args ≡ buffers_from hs 0 args
plain_buffers hs h args =
    ap₂ (λ x y. buffers_from hs 0 args ++ (x ++ y)) (no_set 0 hs h 0 args) (no_set 1 hs h 0 args)
    ∙ nothing_more (buffers_from hs 0 args)

-- and of one that does
pub both_sets : (hs : List Home) → EachOf (IsSuited true) hs → (args : List Argument)
    → call_buffers hs args ≡ set_buffers_from 0 hs 0 args ++ set_buffers_from 1 hs 0 args
both_sets hs h args =
    ap (λ x. x ++ (set_buffers_from 0 hs 0 args ++ set_buffers_from 1 hs 0 args)) (no_owns hs h 0 args)

-- ---- what is asked of statements

any_same_as : {X : Type 0} (v : X → Statement) (test : Statement → Bool) (xs : List X)
    → any_by (λ x. test (v x)) xs ≡ any_by test (map v xs)
any_same_as v test [] = refl
any_same_as v test (x ∷ xs) = ap (λ z. test (v x) || z) (any_same_as v test xs)

each_same_as : {X : Type 0} (v : X → Statement) (k : Statement → AskedInMaps) (xs : List X)
    → each_in_maps (λ p. k (v p)) xs ≡ each_in_maps k (map v xs)
each_same_as v k [] = refl
each_same_as v k (x ∷ xs)
    = ap (λ (f : AskedInMaps). λ inside alone. k (v x) inside alone × f inside alone) (each_same_as v k xs)

can_same_as : {X : Type 0} (v : X → Statement) (m : LoopKind) (spread : Bool) (xs : List X)
    → can_overlap m spread xs ≡ can_overlap m spread (map v xs)
can_same_as v loop_kind.Sequential spread [] = refl
can_same_as v loop_kind.Sequential spread (x ∷ []) = refl
can_same_as v loop_kind.Sequential spread (x ∷ y ∷ xs) = refl
can_same_as v loop_kind.Parallel spread [] = refl
can_same_as v loop_kind.Parallel spread (x ∷ []) = refl
can_same_as v loop_kind.Parallel spread (x ∷ y ∷ xs) = refl
can_same_as v (loop_kind.Reduction r) spread xs = refl

module _ (homes : ℕ → Homes) where
  natural : (X : Type 0) (v : X → Statement) (k : Statement → AskedInMaps) (x : Statement-F X)
      → overlaps_step homes X v (λ p. k (v p)) x
      ≡ overlaps_step homes Statement (λ y. y) k (map-Statement X Statement v x)
  natural X v k (Statement-F.Call lower times) = refl
  natural X v k (Statement-F.Map place m counts starts parts) =
      let l = any_same_as v lower_in parts in
      let s = any_same_as v same_in parts in
      let low : Bool = any_by lower_in (map v parts) in
      let alike : Bool = any_by same_in (map v parts) in
      ap (λ (z : Bool). λ inside alone. each_in_maps (λ p. k (v p)) parts
      (inside || is_spread m inside z (any_by (λ x. same_in (v x)) parts))
      (can_overlap m (is_spread m inside z (any_by (λ x. same_in (v x)) parts)) parts)) l
      ∙ ap (λ (z : Bool). λ inside alone. each_in_maps (λ p. k (v p)) parts (inside || is_spread m inside low z)
      (can_overlap m (is_spread m inside low z) parts)) s
      ∙ ap (λ (f : AskedInMaps). λ inside alone. f (inside || is_spread m inside low alike)
      (can_overlap m (is_spread m inside low alike) parts)) (each_same_as v k parts)
      ∙ ap (λ (f : Bool → Bool). λ inside alone. each_in_maps k (map v parts)
      (inside || is_spread m inside low alike) (f (is_spread m inside low alike)))
      (fun_ext (λ spread. can_same_as v m spread parts))

  abbrev step : Statement-F Statement → AskedInMaps
  step = overlaps_step homes Statement (λ y. y) (Overlaps homes)

  pub overlaps_call : (lower : Bool) (times : List CallInstance) → Overlaps homes (b.Call lower times)
      ≡ step (Statement-F.Call lower times)
  overlaps_call lower times = ap (Overlaps homes) (sym (b.rolls-Call lower times))
      ∙ rec-roll-Statement AskedInMaps (overlaps_step homes) natural (Statement-F.Call lower times)

  pub overlaps_map : (place : Place) (m : LoopKind) (counts starts : List ℕ) (parts : List Statement)
      → Overlaps homes (b.Map place m counts starts parts) ≡ step (Statement-F.Map place m counts starts parts)
  overlaps_map place m counts starts parts = ap (Overlaps homes) (sym (b.rolls-Map place m counts starts parts))
      ∙ rec-roll-Statement AskedInMaps (overlaps_step homes) natural (Statement-F.Map place m counts starts parts)

-- ---- whether lower and same-level calls are in a statement

pub any_map : (test : Statement → Bool) (xs : List Statement) → any_of (map test xs) ≡ any_by test xs
any_map test [] = refl
any_map test (x ∷ xs) = ap (λ z. test x || z) (any_map test xs)

module _ (bodies : ℕ → FormBody) (homes : ℕ → Homes) (callee : ℕ → Context → Term) (rule : SpreadRule) where
  abbrev made : Statement → TermPart
  made = statement_term bodies homes callee rule

  record IsAs (x : Statement) : Type 0 where
    lower_as : (made x).lower ≡ lower_in x
    same_as : (made x).same ≡ same_in x

  abbrev K : Type 0
  K = (x : Statement) × IsAs x

  abbrev these : List K → List Statement
  these xs = map (λ p. p.0) xs

  lowers_as : (xs : List K) → any_lower (map made (these xs)) ≡ any_by lower_in (these xs)
  lowers_as [] = refl
  lowers_as (x ∷ xs) = ap₂ (λ u v. u || v) x.1.lower_as (lowers_as xs)

  sames_as : (xs : List K) → any_same (map made (these xs)) ≡ any_by same_in (these xs)
  sames_as [] = refl
  sames_as (x ∷ xs) = ap₂ (λ u v. u || v) x.1.same_as (sames_as xs)

  as_step : (y : Statement-F K) → IsAs (roll-Statement (map-Statement K Statement (λ p. p.0) y))
  as_step (Statement-F.Call lower times) = subst IsAs (sym (b.rolls-Call lower times)) (record {
    lower_as = ap (λ (p : TermPart). p.lower) (built_call bodies homes callee rule lower times)
        ∙ sym (lower_call lower times);
    same_as = ap (λ (p : TermPart). p.same) (built_call bodies homes callee rule lower times)
        ∙ sym (same_call lower times);
  })
  as_step (Statement-F.Map place m counts starts xs)
      = subst IsAs (sym (b.rolls-Map place m counts starts (these xs))) (record {
        lower_as = ap (λ (p : TermPart). p.lower) (built_map bodies homes callee rule place m counts starts (these xs))
            ∙ lowers_as xs ∙ sym (lower_map place m counts starts (these xs) ∙ any_map lower_in (these xs));
        same_as = ap (λ (p : TermPart). p.same) (built_map bodies homes callee rule place m counts starts (these xs))
            ∙ sames_as xs ∙ sym (same_map place m counts starts (these xs) ∙ any_map same_in (these xs));
      })

  as_made : (x : Statement) → IsAs x
  as_made = ind-Statement IsAs (λ x y is. subst (λ z. IsAs (roll-Statement z)) is (as_step y))

  all_lower : (xs : List Statement) → any_lower (map made xs) ≡ any_by lower_in xs
  all_lower [] = refl
  all_lower (x ∷ xs) = ap₂ (λ u v. u || v) (as_made x).lower_as (all_lower xs)

  all_same : (xs : List Statement) → any_same (map made xs) ≡ any_by same_in xs
  all_same [] = refl
  all_same (x ∷ xs) = ap₂ (λ u v. u || v) (as_made x).same_as (all_same xs)

  chosen : (v : Bool) → is_some (if v then Some rule else None) ≡ v
  chosen true = refl
  chosen false = refl

  -- a map of these statements is spread as was asked
  pub spread_as : (m : LoopKind) (inside : Bool) (xs : List Statement)
      → is_spread m inside (any_by lower_in xs) (any_by same_in xs)
      ≡ is_some (spread_of rule m inside (any_lower (map made xs)) (any_same (map made xs)))
  spread_as m inside xs =
      sym (chosen (is_spread m inside (any_lower (map made xs)) (any_same (map made xs)))
      ∙ ap₂ (λ u v. is_spread m inside u v) (all_lower xs) (all_same xs))

-- ---- where no transfers overlap

module _ (bodies : ℕ → FormBody) (homes : ℕ → Homes) (nothing : NonePiped homes) where
  not_so : (r : CallInstance) → (homes r.form).overlaps ≡ true → ⊥
  not_so r e = let z = nothing r.form in cc

  rows_none : (lower alone : Bool) (times rows : List CallInstance) → EachOf (RowOverlaps homes lower alone times) rows
  rows_none lower alone times [] = tt
  rows_none lower alone times (r ∷ rest) = (
    record {
      lower_is = λ e. absurd (not_so r e);
      alone_is = λ e. absurd (not_so r e);
      one = λ e. absurd (not_so r e);
    },
    rows_none lower alone times rest,
  )

  abbrev Free : Statement → Type 0
  Free x = (inside alone : Bool) → Overlaps homes x inside alone

  abbrev F : Type 0
  F = (x : Statement) × Free x

  all_free : (xs : List F) (inside alone : Bool) → each_in_maps (Overlaps homes) (map (λ p. p.0) xs) inside alone
  all_free [] inside alone = tt
  all_free (x ∷ xs) inside alone = (x.1 inside alone, all_free xs inside alone)

  free_step : (y : Statement-F F) → Free (roll-Statement (map-Statement F Statement (λ p. p.0) y))
  free_step (Statement-F.Call lower times) = subst Free (sym (b.rolls-Call lower times)) (λ inside alone.
      subst (λ (f : AskedInMaps). f inside alone) (sym (overlaps_call homes lower times))
      (rows_none lower alone times times))
  free_step (Statement-F.Map place m counts starts xs)
      = subst Free (sym (b.rolls-Map place m counts starts (map (λ p. p.0) xs))) (λ inside alone.
      subst (λ (f : AskedInMaps). f inside alone)
      (sym (overlaps_map homes place m counts starts (map (λ p. p.0) xs))) (all_free xs _ _))

  free : (x : Statement) → Free x
  free = ind-Statement Free (λ x y is. subst (λ z. Free (roll-Statement z)) is (free_step y))

  list_free : (xs : List Statement) (inside alone : Bool) → each_in_maps (Overlaps homes) xs inside alone
  list_free [] inside alone = tt
  list_free (x ∷ xs) inside alone = (free x inside alone, list_free xs inside alone)

  body_free : (x : Body) → BodyOverlaps homes x
  body_free (body.Leaf code) = tt
  body_free (body.Inner list) = list_free list false false

  pub none_overlap : ((f : ℕ) → EachOf (IsSuited false) (homes f).params) → OverlapsStand bodies homes
  none_overlap params = record {
    entry = nothing 0;
    params = λ f. subst (λ (v : Bool). EachOf (IsSuited v) (homes f).params) (sym (nothing f)) (params f);
    calls = λ f. body_free (bodies f).body;
  }

-- What is known of the tables of a program's forms.
use Rattle.std.proofs.Common.{◌≡◌, ℕ, zero, suc, ◌+◌, ◌==◌, Bool, true, false, List, [], ◌∷◌, map, get_or}
use Rattle.std.proofs.Common.{length, slice_get, Option, Some, None, is_some, refl, sym, ap, subst, ◌∙◌, arith}
use Rattle.std.proofs.lemmas.Bool.Decides.{nat_tests}
use Rattle.sq_text.specs.Names.{Bytes}
use Rattle.sq_ast.specs.declared.stmt.Call.{Call}
use Rattle.sq_ast.specs.declared.stmt.Stmt.{Stmt}
use Rattle.sq_ast.specs.declared.program.Body.{Body as Text}
use Rattle.sq_ast.specs.declared.program.Body.TheVariants as text
use Rattle.sq_ast.specs.declared.program.Variant.{Variant}
use Rattle.sq_forms.specs.Mappings.declared.mapping.Instance.{Instance}
use Rattle.sq_blocks.specs.declared.argument.Argument.{Argument}
use Rattle.sq_forms.specs.declared.form.Form.{Form}
use Rattle.sq_forms.specs.declared.form.Found.{Found}
use Rattle.sq_forms.specs.Calls.{key_of, flags, flags_from, extents_of}
use Rattle.sq_forms.specs.Decls.{Scope}
use Rattle.sq_forms.specs.Resolving.{Resolving, frame_in, with_locals}
use Rattle.sq_forms.specs.Steps.{Called, Key, key_number}
use Rattle.sq_forms.specs.Worlds.{Frame, Callee, callee_of}
use Rattle.sq_form_laws.specs.Reached.{body_calls, steps_of, form_number}
use Rattle.sq_form_laws.specs.Reached.{calls_in as calls_among}
use Rattle.sq_form_laws.specs.Served.{FormRuns}
use Rattle.sq_form_laws.proofs.FitHold.{forms_run}
use Rattle.sq_form_laws.proofs.KeysFound.{form_there}
use Rattle.sq_form_laws.proofs.ServedHold.{calls_are_served}
use Rattle.sq_spec.specs.declared.statement.CallInstance.{CallInstance}
use Rattle.sq_spec.specs.declared.statement.Statement.{Statement}
use Rattle.sq_spec.specs.declared.body.Body.{Body}
use Rattle.sq_spec.specs.declared.body.Body.TheVariants as body
use Rattle.sq_spec.specs.declared.body.FormBody.{FormBody}
use Rattle.sq_spec.specs.declared.resolved.Resolved.{Resolved}
use Rattle.sq_spec.specs.Bodies.{body_of, found_body, instance_body, variant_body, scope_body, declared_body, what_runs}
use Rattle.sq_spec.specs.Statements.{tables, elems_of, number_or}
use Rattle.sq_spec.specs.Walked.{IsWalked}
use Rattle.sq_spec.specs.Works.{shapes_of}
use Rattle.sq_spec.proofs.EntryHolds.{entry_is_first}
use Rattle.sq_spec_laws.specs.TableRows.{Table, tables_in, RowIsReached}
use Rattle.sq_spec_laws.proofs.TableRowsHold.{rows_are_reached}
use Rattle.sq_draft_laws.specs.TermLaws.Fits.{all_parts}
use Rattle.sq_draft_laws.specs.TermLaws.Orders.{EachOf}
use Rattle.sq_pass_laws.specs.Times.{IsBegun}
use Rattle.sq_pass_laws.proofs.Staying.{word, words, AreAlike}
use Rattle.sq_pass_laws.proofs.Sites.{From}
use Rattle.sq_pass_laws.proofs.TimesHold.{tables_have_times}
use Rattle.sq_pass_laws.proofs.Keyed.{IsKeyed, tables_are_keyed}
use Rattle.sq_pass_laws.proofs.Heads.{words_of, words_are}
use Rattle.sq_draft_laws.proofs.ProgramLaws.Loops.{each_at, each_from}

-- ---- forms by their keys

abbrev pub key_by : Option (Key × Found) → Key
key_by None = []
key_by (Some form) = form.0

no_flag : (all : List Argument) (k i : ℕ) (xs : List Argument) → get_or (flags_from false all k xs) i false ≡ false
no_flag all k zero [] = refl
no_flag all k (suc i) [] = refl
no_flag all k zero (x ∷ xs) = refl
no_flag all k (suc i) (x ∷ xs) = no_flag all (k + 1) i xs

many_flags : (same : Bool) (all : List Argument) (k : ℕ) (xs : List Argument)
    → length (flags_from same all k xs) ≡ length xs
many_flags same all k [] = refl
many_flags same all k (x ∷ xs) = ap suc (many_flags same all (k + 1) xs)

not_same : (m n k : ℕ) → (m == suc n) ≡ true → k ≡ n → (m == k) ≡ false
not_same m n k e is = grind (arith, nat_tests, e, is)

from_at : (P : ℕ → CallInstance → Type 0) (lo : ℕ) (ts : List Table) → From P lo ts → (i : ℕ) (t : Table)
    → slice_get ts i ≡ Some t → EachOf (P (lo + i)) t.times
from_at P lo [] h i t e = absurd (cc e)
from_at P lo (u ∷ ts) h zero t e =
    let is : u ≡ t = cc e in
    let z : lo ≡ lo + 0 = omega arith in
    subst (λ n. EachOf (P n) t.times) z (subst (λ (t : Table). EachOf (P lo) t.times) is h.0)
from_at P lo (u ∷ ts) h (suc i) t e =
    let z : suc lo + i ≡ lo + suc i = omega arith in
    subst (λ n. EachOf (P n) t.times) z (from_at P (suc lo) ts h.1 i t e)

module _ (r : Resolved)
    (w : IsWalked r.typed.now r.machine.now.levels r.mapping.now r.found.entries r.forms r.uses) where
  abbrev walk : Resolving
  walk = record { found = r.found.entries; forms = r.forms; uses = r.uses }

  abbrev variants : List Variant
  variants = r.typed.now.tasks

  abbrev instances : List Instance
  instances = r.mapping.now.instances

  runs_at : (k : ℕ) (form : Key × Found) → slice_get r.found.entries k ≡ Some form
      → FormRuns r.typed.now r.mapping.now walk k form.1
  runs_at k form there =
      forms_run r.typed.now r.machine.now.levels r.mapping.now w.faultless w.read walk w.through k form there

  -- the form of which a form's call is, and the number of this call
  abbrev pub caller_of : ℕ → ℕ
  caller_of f = get_or (key_by (slice_get r.found.entries f)) 0 0

  abbrev pub number_of : ℕ → ℕ
  number_of f = get_or (key_by (slice_get r.found.entries f)) 1 0

  -- none of its parameters is in place
  abbrev pub IsFlat : ℕ → Type 0
  IsFlat f = (form : Form) → slice_get r.forms f ≡ Some form → (i : ℕ) → get_or form.in_place i false ≡ false

  -- a row of the i-th call of the k-th form
  pub record RowIs (k i : ℕ) (lower : Bool) (q : CallInstance) : Type 0 where
    pub caller : caller_of q.form ≡ k
    pub number : number_of q.form ≡ i
    pub not_entry : q.form ≡ 0 → ⊥
    pub flat : lower ≡ true → IsFlat q.form
    pub many : (form : Form) → slice_get r.forms q.form ≡ Some form → length form.in_place ≡ length q.args

  pub record TableIs (k i : ℕ) (t : Table) : Type 0 where
    pub rows : EachOf (RowIs k i t.lower) t.times
    pub alike : AreAlike t.times

  pub record ListIs (k : ℕ) (list : List Statement) : Type 0 where
    pub begun : all_parts IsBegun list 1
    pub tables : (i : ℕ) (t : Table) → slice_get (tables_in list None) i ≡ Some t → TableIs k i t

  abbrev pub BodyIs : ℕ → Body → Type 0
  BodyIs k (body.Leaf code) = Unit {0}
  BodyIs k (body.Inner list) = ListIs k list

  module _ (k : ℕ) (form : Key × Found) (there : slice_get r.found.entries k ≡ Some form)
      (its : FormRuns r.typed.now r.mapping.now walk k form.1) where
    abbrev frame : Frame
    frame = frame_in variants instances its.fits.instance k form.1

    abbrev scope : Scope
    scope = its.ran.scope

    abbrev IsRow : Option Bytes → Call → Bool → CallInstance → Type 0
    IsRow reduced c lower q = RowIsReached frame scope.names (body_calls its.fits.variant.body)
        (calls_among (steps_of variants instances its.fits.instance its.fits.variant k form.1 scope)) r.found.entries
        reduced c lower q

    module _ (reduced : Option Bytes) (c : Call) (lower : Bool) (i : ℕ) (q : CallInstance)
        (row : IsRow reduced c lower q)
        (keyed : IsKeyed r.found.entries frame scope.names (elems_of its.fits.variant scope) scope.numbers i q) where
      abbrev callee : Key × Found
      callee = (its.ran.callees row.index row.call row.there).form

      callee_there : slice_get r.found.entries q.form ≡ Some callee
      callee_there = ap (slice_get r.found.entries) row.form ∙ (its.ran.callees row.index row.call row.there).there

      abbrev key_args : List Argument → Key
      key_args xs = key_of k row.reached.site.call row.reached.callee.instance
          (flags (row.reached.callee.level == frame.level) xs)
          (extents_of xs)

      key_is : callee.0 ≡ key_args row.reached.arguments
      key_is = (its.ran.callees row.index row.call row.there).is.key ∙ ap (λ (d : Called). d.key) row.reached.is

      has_key : key_by (slice_get r.found.entries q.form) ≡ key_args row.reached.arguments
      has_key = ap key_by callee_there ∙ key_is

      not_first : q.form ≡ 0 → ⊥
      not_first e =
          let first = ap key_by (entry_is_first r).found in
          let none : [] ≡ key_args row.reached.arguments =
          sym first ∙ ap (λ n. key_by (slice_get r.found.entries n)) (sym e) ∙ has_key in
          absurd (cc none)

      number_by : (o : Option ℕ)
          → key_number r.found.entries (key_of k i keyed.instance keyed.in_place keyed.extents) ≡ o
          → q.form ≡ number_or o → number_of q.form ≡ i
      number_by None e is = absurd (not_first is)
      number_by (Some m) e is =
          let f = form_there r.found.entries (key_of k i keyed.instance keyed.in_place keyed.extents) m e in
          ap (λ n. get_or (key_by (slice_get r.found.entries n)) 1 0) is
          ∙ ap (λ o. get_or (key_by o) 1 0) f.1
          ∙ ap (λ (key : Key). get_or key 1 0) f.2

      form_flags : (f : Form) → slice_get r.forms q.form ≡ Some f
          → f.in_place ≡ flags (row.reached.callee.level == frame.level) row.reached.arguments
      form_flags f at =
          let runs = runs_at (form_number r.found.entries row.call.key) callee
          (its.ran.callees row.index row.call row.there).there in
          let same : Some f ≡ Some (with_locals callee.1 runs.ran.scope.locals) =
          sym at ∙ ap (slice_get r.forms) row.form ∙ runs.ran.kept in
          let is : f ≡ with_locals callee.1 runs.ran.scope.locals = cc same in
          ap (λ (g : Form). g.in_place) is
          ∙ (its.ran.callees row.index row.call row.there).is.in_place
          ∙ ap (λ (d : Called). d.form.in_place) row.reached.is

      flat : lower ≡ true → IsFlat q.form
      flat low f at j =
          let below = sym row.level ∙ low in
          let far : (row.reached.callee.level == frame.level) ≡ false =
          not_same row.reached.callee.level frame.level frame.level below refl in
          ap (λ (fs : List Bool). get_or fs j false)
          (form_flags f at ∙ ap (λ s. flags s row.reached.arguments) far)
          ∙ no_flag row.reached.arguments 0 j row.reached.arguments

      many : (f : Form) → slice_get r.forms q.form ≡ Some f → length f.in_place ≡ length q.args
      many f at =
          ap length (form_flags f at)
          ∙ many_flags (row.reached.callee.level == frame.level) row.reached.arguments 0 row.reached.arguments
          ∙ ap length (sym row.args)

      row_is : RowIs k i lower q
      row_is = record {
        caller = ap (λ (key : Key). get_or key 0 0) has_key;
        number = number_by (key_number r.found.entries (key_of k i keyed.instance keyed.in_place keyed.extents)) refl
            keyed.is;
        not_entry = not_first;
        flat = flat;
        many = many;
      }

    -- ---- the words of a row are those of the text

    abbrev words_by : Option Bytes → Option Callee → Call → List Argument
    words_by reduced None c = []
    words_by reduced (Some its) c = words_of scope.names reduced its.params 0 c.args

    row_words : (reduced : Option Bytes) (c : Call) (lower : Bool) (q : CallInstance) → IsRow reduced c lower q
        → words q ≡ words_by reduced (callee_of frame c.task) c
    row_words reduced c lower q row =
        ap (map word) row.args
        ∙ words_are scope.names row.reached.numbers row.reached.site.reduced row.reached.callee.params 0
        row.reached.call.args row.reached.arguments row.reached.examined
        ∙ ap (λ o. words_of scope.names o row.reached.callee.params 0 row.reached.call.args) row.sum
        ∙ ap (λ o. words_by reduced o row.reached.call) (sym row.reached.serves)
        ∙ ap (λ (d : Call). words_by reduced (callee_of frame d.task) d) row.stmt

    -- ---- the form's tables

    abbrev statements_of : List Stmt → List Statement
    statements_of list = tables r.found.entries frame scope.names (elems_of its.fits.variant scope) scope.numbers list

    abbrev KeyedBy : ℕ → CallInstance → Type 0
    KeyedBy = IsKeyed r.found.entries frame scope.names (elems_of its.fits.variant scope) scope.numbers

    list_is : (list : List Stmt) → its.fits.variant.body ≡ text.Inner list
        → ListIs k (statements_of list)
    list_is list e = record {
      begun = tables_have_times r.found.entries frame scope.names (elems_of its.fits.variant scope) scope.numbers list
          (λ i c at.
          let s = calls_are_served r.typed.now r.machine.now.levels r.mapping.now w.read form.1.instance
          its.fits.instance its.fits.variant its.fits.there its.fits.runs i c
          (ap (λ (t : Text). slice_get (body_calls t) i) e ∙ at) k form.1 in
          ap is_some s.1);
      tables = λ i t g.
          let o = rows_are_reached variants r.mapping.now walk w.through k form its.fits.instance its.fits.variant
          its.fits.begun there its.fits.there its.fits.runs its.fits.binds its.ran list e i t g in
          let keyed = from_at KeyedBy 0 (tables_in (statements_of list) None)
          (tables_are_keyed r.found.entries frame scope.names (elems_of its.fits.variant scope) scope.numbers list) i t
          g in
          let z : 0 + i ≡ i = omega arith in record {
            rows = each_from (RowIs k i t.lower) t.times (λ j q h.
                row_is o.pair.0 o.pair.1 t.lower i q (o.reached.rows j q h)
                (each_at (KeyedBy i) t.times j q (subst (λ n. EachOf (KeyedBy n) t.times) z keyed) h));
            alike = record {
              those = words_by o.pair.0 (callee_of frame o.pair.1.task) o.pair.1;
              each = each_from (λ (q : CallInstance). words q
                  ≡ words_by o.pair.0 (callee_of frame o.pair.1.task) o.pair.1) t.times
                  (λ j q h. row_words o.pair.0 o.pair.1 t.lower q (o.reached.rows j q h));
            };
          };
    }

    text_is : (t : Text) → its.fits.variant.body ≡ t
        → BodyIs k (what_runs r.found.entries frame its.fits.variant t scope)
    text_is (text.Leaf list) e = tt
    text_is (text.Inner list) e = list_is list e

    body_is : body_of variants instances r.found.entries k
        ≡ record {
          arrays = shapes_of its.fits.variant form.1 scope;
          body = what_runs r.found.entries frame its.fits.variant its.fits.variant.body scope;
        }
    body_is =
        ap (found_body r.found.entries variants instances k) there
        ∙ ap (instance_body r.found.entries variants instances k form.1) its.fits.there
        ∙ ap (variant_body r.found.entries variants instances its.fits.instance k form.1) its.fits.runs
        ∙ ap (scope_body r.found.entries frame its.fits.instance its.fits.variant form.1) its.fits.binds
        ∙ ap (declared_body r.found.entries frame its.fits.variant form.1) its.ran.declared

    form_is : BodyIs k (body_of variants instances r.found.entries k).body
    form_is = subst (λ (x : FormBody). BodyIs k x.body) (sym body_is) (text_is its.fits.variant.body refl)

  none_is : (k : ℕ) → ListIs k []
  none_is k = record { begun = tt; tables = λ i t e. absurd (cc e) }

  bodies_by : (k : ℕ) (o : Option (Key × Found)) → slice_get r.found.entries k ≡ o
      → BodyIs k (body_of variants instances r.found.entries k).body
  bodies_by k (Some form) there = form_is k form there (runs_at k form there)
  bodies_by k None there =
      subst (λ (x : FormBody). BodyIs k x.body)
      (sym (ap (found_body r.found.entries variants instances k) there)) (none_is k)

  -- of each form of the program
  pub bodies_are : (k : ℕ) → BodyIs k (body_of variants instances r.found.entries k).body
  bodies_are k = bodies_by k (slice_get r.found.entries k) refl

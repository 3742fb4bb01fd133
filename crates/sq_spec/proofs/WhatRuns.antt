-- What a form does, from its parts, and that its leaf code may be compiled.
use Rattle.std.proofs.Common.{◌≡◌, ℕ, suc, ◌+◌, ◌<◌, true, List, [], ◌∷◌, ◌++◌, length, get_or, drop, drop-cons, arith, Option, Some, None, sym, ◌∙◌, ap, subst}
use Rattle.std.proofs.lemmas.List.{append_assoc}
use Rattle.std.specs.Prelude.{slice_get}
use Rattle.sq_ast.specs.Num.declared.Elem.{Elem}
use Rattle.sq_ast.specs.declared.leaf.LeafStmt.{LeafStmt}
use Rattle.sq_ast.specs.declared.stmt.Stmt.{Stmt}
use Rattle.sq_ast.specs.declared.program.Body.{Body as Text}
use Rattle.sq_ast.specs.declared.program.Body.TheVariants as text
use Rattle.sq_ast.specs.declared.program.Program.{Program}
use Rattle.sq_ast.specs.declared.program.Variant.{Variant}
use Rattle.sq_ast.specs.declared.program.VariantKind.{VariantKind}
use Rattle.sq_ast.specs.Grammar.{most_levels}
use Rattle.sq_text.specs.Names.{Bytes}
use Rattle.sq_work.specs.Types.Nesting.{HasLoops}
use Rattle.sq_work.specs.Types.Sound.{is_sound}
use Rattle.sq_work.specs.Leaf.declared.shape.Shape.{Shape}
use Rattle.sq_work.specs.Leaf.Leaf.{Leaf, IsLeaf, is_leaf_body}
use Rattle.sq_form_laws.specs.Forms.declared.form.LocalArray.{LocalArray}
use Rattle.sq_spec.specs.Works.{local_shapes}
use Rattle.sq_spec.specs.declared.statement.Statement.{Statement}
use Rattle.sq_spec.specs.declared.body.Body.TheVariants as body
use Rattle.sq_form_laws.specs.Forms.Steps.{Forms}
use Rattle.sq_form_laws.specs.Forms.Tables.{at_index, first_of_kind, variant_of}
use Rattle.sq_form_laws.specs.Forms.Worlds.{Frame}
use Rattle.sq_form_laws.specs.Forms.Decls.{Scope}
use Rattle.sq_spec.specs.Statements.{elems_of, tables}
use Rattle.sq_spec.specs.Bodies.{MayCompile, AllCompile, what_runs}

-- statements with their tables
pub inner_is : (forms : Forms) (frame : Frame) (v : Variant) (b : Text) (scope : Scope) (list seen : List Stmt) (elems : List Elem) (made : List Statement)
    → made ≡ tables forms frame scope.names elems scope.numbers seen → b ≡ text.Inner list → seen ≡ list → elems ≡ elems_of v scope
    → body.Inner made ≡ what_runs forms frame v b scope
inner_is forms frame v b scope list seen elems made is inner same types =
    let table_of : made ≡ tables forms frame scope.names (elems_of v scope) scope.numbers list =
    is ∙ (ap (tables forms frame scope.names elems scope.numbers) same ∙ ap (λ es. tables forms frame scope.names es scope.numbers list) types) in
    ap (λ bs. body.Inner bs) table_of ∙ ap (λ x. what_runs forms frame v x scope) (sym inner)

-- leaf code with its numbers
pub leaf_is : (forms : Forms) (frame : Frame) (v : Variant) (b : Text) (scope : Scope) (list : List LeafStmt) (code : Leaf)
    → code ≡ record { variant = v; numbers = scope.numbers } → b ≡ text.Leaf list → body.Leaf code ≡ what_runs forms frame v b scope
leaf_is forms frame v b scope list code is leaf = ap (λ c. body.Leaf c) is ∙ ap (λ x. what_runs forms frame v x scope) (sym leaf)

-- ---- leaves may be compiled

compiles_at : (variants : List Variant) (v : Variant) → AllCompile variants → (o : Option ℕ) → at_index variants o ≡ Some v → MayCompile v
compiles_at variants v all None h = absurd (cc h)
compiles_at variants v all (Some i) h = all.each i v h

-- a variant that is looked up is one of them
pub variant_compiles : (variants : List Variant) (task : Bytes) (kind : VariantKind) (v : Variant) → AllCompile variants → variant_of variants task kind ≡ Some v → MayCompile v
variant_compiles variants task kind v all h = compiles_at variants v all (first_of_kind kind 0 variants task) h

pub all_compile : (program : Program) (list : List Variant) → list ≡ program.tasks → is_sound program ≡ true → HasLoops most_levels program.tasks
    → ((p : Program) (i : ℕ) (v : Variant) → is_sound p ≡ true → HasLoops most_levels p.tasks → slice_get p.tasks i ≡ Some v → is_leaf_body v.body ≡ true → IsLeaf v)
    → AllCompile list
all_compile program list same sound loops law =
    subst AllCompile (sym same) (record { each = λ i v there. record { leaf = λ leaf. law program i v sound loops there leaf } })

-- ---- shapes

-- the shape of one more local
pub one_local_more : {whole : List Shape} (done now : List Shape) (locals : List LocalArray) (i : ℕ) (l : LocalArray) → i < length locals → l ≡ get_or locals i l
    → now ≡ done ++ record { elem = l.elem; extents = l.extents } ∷ [] → done ++ local_shapes (drop i locals) ≡ whole → now ++ local_shapes (drop (i + 1) locals) ≡ whole
one_local_more done now locals i l within is pushed before =
    let one : suc i ≡ i + 1 = omega arith in
    let next : drop i locals ≡ l ∷ drop (i + 1) locals = drop-cons locals i l within ∙ (ap (λ x. x ∷ drop (suc i) locals) (sym is) ∙ ap (λ n. l ∷ drop n locals) one) in
    ap (λ shapes. shapes ++ local_shapes (drop (i + 1) locals)) pushed
    ∙ (append_assoc done (record { elem = l.elem; extents = l.extents } ∷ []) (local_shapes (drop (i + 1) locals))
    ∙ (ap (λ rest. done ++ local_shapes rest) (sym next) ∙ before))

-- One more turn of the loops that fill tables.
use Rattle.std.proofs.Common.{◌≡◌, ◌==◌, Option, ℕ, suc, ◌+◌, ◌-◌, ◌<◌, List, [], ◌∷◌, ◌++◌, map, drop, refl, sym, ap, ◌∙◌, arith, append_assoc}
use Rattle.sq_text.specs.Names.{Bytes}
use Rattle.sq_ast.specs.declared.expr.ArgUse.{ArgUse}
use Rattle.sq_form_laws.specs.Blocks.Names.{Numbers}
use Rattle.sq_form_laws.specs.Blocks.declared.argument.Argument.{Argument}
use Rattle.sq_spec.specs.declared.statement.CallInstance.{CallInstance}
use Rattle.sq_form_laws.specs.Forms.Steps.{Forms, key_number}
use Rattle.sq_form_laws.specs.Forms.Args.{Names, arguments}
use Rattle.sq_form_laws.specs.Forms.Worlds.{Frame, Callee}
use Rattle.sq_form_laws.specs.Forms.Calls.{key_of, flags, extents_of}
use Rattle.sq_ast.specs.Num.declared.Elem.{Elem}
use Rattle.sq_ast.specs.declared.stmt.Range.{Range}
use Rattle.sq_ast.specs.declared.stmt.Stmt.{Stmt}
use Rattle.sq_spec.specs.declared.statement.Statement.{Statement}
use Rattle.sq_form_laws.specs.Forms.Stmts.{portion}
use Rattle.sq_spec.specs.Statements.{over, number_or, call_instance, StatementTable, all_of, table_of}
use Rattle.sq_spec.proofs.OpenedStatement.{same_calls}

map_both : {A B : Type 0} (f : A → B) (xs ys : List A) → map f (xs ++ ys) ≡ map f xs ++ map f ys
map_both f [] ys = refl
map_both f (x ∷ xs) ys = ap (λ zs. f x ∷ zs) (map_both f xs ys)

first_over : {A : Type 0} (t n : ℕ) (inner : ℕ → List A) → t < n → over t (n - t) inner ≡ inner t ++ over (t + 1) (n - (t + 1)) inner
first_over t n inner lt = let e : n - t ≡ suc (n - (t + 1)) = omega (arith, lt) in ap (λ k. over t k inner) e

pub one_more : {A B : Type 0} (row : A → B) (inner : ℕ → List A) (t n : ℕ) (old new whole : List B) → t < n → new ≡ old ++ map row (inner t)
    → old ++ map row (over t (n - t) inner) ≡ whole → new ++ map row (over (t + 1) (n - (t + 1)) inner) ≡ whole
one_more row inner t n old new whole lt pushed kept =
    let rest = over (t + 1) (n - (t + 1)) inner in
    ap (λ xs. xs ++ map row rest) pushed
    ∙ (append_assoc old (map row (inner t)) (map row rest)
    ∙ (ap (λ xs. old ++ xs) (sym (ap (map row) (first_over t n inner lt) ∙ map_both row (inner t) rest)) ∙ kept))

-- what a call reaches, from its parts
pub call_instance_is : (forms : Forms) (frame : Frame) (names : Names) (call : ℕ) (reduced : Option Bytes) (its : Callee) (args : List ArgUse) (numbers : Numbers)
    → (xs ys : List Argument) (n : ℕ) → xs ≡ arguments names numbers reduced its.params 0 args → ys ≡ xs
    → n ≡ number_or (key_number forms (key_of frame.form call its.instance (flags (its.level == frame.level) ys) (extents_of ys)))
    → record { form = n; args = xs } ≡ call_instance forms frame names call reduced its args numbers
call_instance_is forms frame names call reduced its args numbers xs ys n are same is =
    let number : List Argument → ℕ = λ zs. number_or (key_number forms (key_of frame.form call its.instance (flags (its.level == frame.level) zs) (extents_of zs))) in
    let made : List Argument → CallInstance = λ zs. record { form = number zs; args = zs } in
    let one : ◌≡◌ {A = CallInstance} (record { form = n; args = xs }) (made xs) = ap (λ m. record { form = m; args = xs }) (is ∙ ap number same) in
    one ∙ ap made are

-- one more statement
module _ (forms : Forms) (frame : Frame) (names : Names) (elems : List Elem) (numbers : Numbers) where
  pub statement_more : (list : List Stmt) (i : ℕ) (x : Stmt) (call next count : ℕ) (reduced : Option Bytes) (nest : List (List Range))
      (old new whole : List Statement) (table : Statement)
      → drop i list ≡ x ∷ drop (i + 1) list → table ≡ (table_of forms frame names elems numbers x).table call reduced nest
      → count ≡ (portion x).calls → next ≡ call + count → new ≡ old ++ table ∷ []
      → old ++ all_of (map (table_of forms frame names elems numbers) (drop i list)) call reduced nest ≡ whole
      → new ++ all_of (map (table_of forms frame names elems numbers) (drop (i + 1) list)) next reduced nest ≡ whole
  statement_more list i x call next count reduced nest old new whole table split is counted added pushed kept =
      let each : Stmt → StatementTable = table_of forms frame names elems numbers in
      let rest : ℕ → List Statement = λ n. all_of (map each (drop (i + 1) list)) n reduced nest in
      let after : next ≡ call + (each x).calls = added ∙ ap (λ n. call + n) (counted ∙ sym (same_calls forms frame names elems numbers x)) in
      let all : all_of (map each (drop i list)) call reduced nest ≡ table ∷ rest next =
      ap (λ l. all_of (map each l) call reduced nest) split ∙ (ap (λ b. b ∷ rest (call + (each x).calls)) (sym is) ∙ ap (λ n. table ∷ rest n) (sym after)) in
      ap (λ l. l ++ rest next) pushed ∙ (append_assoc old (table ∷ []) (rest next) ∙ (ap (λ l. old ++ l) (sym all) ∙ kept))

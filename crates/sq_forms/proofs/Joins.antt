-- Parts of the walk, one after another.
use Rattle.std.proofs.Common.{◌≡◌, List, Option, Some, Result, Ok, Err, refl, sym, ◌∙◌, ap, subst}
use Rattle.sq_text.specs.declared.fault.Stop.{Stop}
use Rattle.sq_text.specs.declared.fault.Stop.TheVariants.{Refused, NoMemory}
use Rattle.sq_ast.specs.declared.expr.ArgUse.{ArgUse}
use Rattle.sq_ast.specs.declared.stmt.Call.{Call}
use Rattle.sq_blocks.specs.Names.{Numbers}
use Rattle.sq_blocks.specs.declared.argument.Argument.{Argument}
use Rattle.sq_forms.specs.Steps.{Step, State, Part, Walks, run}
use Rattle.sq_forms.specs.Args.{Names, arguments, args_steps}
use Rattle.sq_forms.specs.Worlds.{Frame, Callee, callee_of}
use Rattle.sq_forms.specs.Calls.{CallSite, call_steps, reached_steps, served_steps}

-- a part that was walked, and then the rest
pub walks_then : {A : Type 0} (r : Result A Stop) (old mid new : State) (p q : Part)
    → ((later : List Step) → run old (p later) ≡ run mid later) → Walks r mid new q → Walks r old new (λ later. p (q later))
walks_then (Ok a) old mid new p q h w = λ later. h (q later) ∙ w later
walks_then (Err (Refused f)) old mid new p q h w = λ later. h (q later) ∙ w later
walks_then (Err NoMemory) old mid new p q h w = tt

pub call_made : {A : Type 0} (r : Result A Stop) (frame : Frame) (names : Names) (site : CallSite) (numbers : Numbers) (c : Call) (callee : Callee) (uses : List ArgUse) (xs : List Argument) (old mid new : State)
    → callee_of frame c.task ≡ Some callee → uses ≡ c.args → xs ≡ arguments names numbers site.reduced callee.params 0 uses
    → ((later : List Step) → run old (args_steps site.outer names numbers site.reduced callee.params 0 uses later) ≡ run mid later)
    → Walks r mid new (reached_steps frame callee site c xs) → Walks r old new (call_steps frame names site numbers c)
call_made r frame names site numbers c callee uses xs old mid new is same list h w =
    let w2 : Walks r mid new (reached_steps frame callee site c (arguments names numbers site.reduced callee.params 0 c.args)) =
    subst (λ ys. Walks r mid new (reached_steps frame callee site c ys)) (list ∙ ap (arguments names numbers site.reduced callee.params 0) same) w in
    let h2 : (later : List Step) → run old (args_steps site.outer names numbers site.reduced callee.params 0 c.args later) ≡ run mid later =
    subst (λ us. (later : List Step) → run old (args_steps site.outer names numbers site.reduced callee.params 0 us later) ≡ run mid later) same h in
    subst (λ (o : Option Callee). Walks r old new (served_steps frame names site numbers c o)) (sym is)
    (walks_then r old mid new (args_steps site.outer names numbers site.reduced callee.params 0 c.args) (reached_steps frame callee site c (arguments names numbers site.reduced callee.params 0 c.args)) h2 w2)

stopped : (A B : Type 0) (e : Stop) (old mid new end : State) (whole q : Part)
    → Walks {A = B} (Err e) mid new q → ((later : List Step) → (rest : List Step) × (run old (whole later) ≡ run mid (q rest))) → Walks {A = A} (Err e) old end whole
stopped A B (Refused f) old mid new end whole q v h = λ later. (h later).1 ∙ v (h later).0
stopped A B NoMemory old mid new end whole q v h = tt

-- a part of the whole that stops
pub walks_exit : {A B : Type 0} (r : Result A Stop) (x : Result B Stop) (e : Stop) (old mid new end : State) (whole q : Part)
    → r ≡ Err e → x ≡ Err e → Walks x mid new q → ((later : List Step) → (rest : List Step) × (run old (whole later) ≡ run mid (q rest))) → Walks r old end whole
walks_exit {A = A} {B = B} r x e old mid new end whole q is was w h =
    subst (λ (y : Result A Stop). Walks y old end whole) (sym is)
    (stopped A B e old mid new end whole q (subst (λ (y : Result B Stop). Walks y mid new q) was w) h)

pub same_stop : {A B : Type 0} (r : Result A Stop) (x : Result B Stop) (e : Stop) (old new end : State) (p : Part)
    → r ≡ Err e → x ≡ Err e → Walks x old new p → Walks r old end p
same_stop r x e old new end p is was w = walks_exit r x e old old new end p p is was w (λ later. (later, refl))

-- Statements and iterations, one more.
use Rattle.std.proofs.Common.{◌≡◌, ℕ, ℤ, suc, ◌+◌, ◌-◌, ◌<◌, List, ◌∷◌, Some, Result, Ok, sym, ◌∙◌, ap, subst, arith}
use Rattle.sq_text.specs.declared.place.Place.{Place}
use Rattle.sq_text.specs.declared.fault.Stop.{Stop}
use Rattle.sq_ast.specs.declared.stmt.Range.{Range}
use Rattle.sq_ast.specs.declared.stmt.MapKind.{MapKind}
use Rattle.sq_ast.specs.declared.stmt.Stmt.{Stmt}
use Rattle.sq_ast.specs.declared.stmt.Stmt.TheVariants as s
use Rattle.sq_blocks.specs.Names.{Numbers}
use Rattle.sq_forms.specs.Faults.{Value, fault_in}
use Rattle.sq_forms.specs.Steps.{Step, State, Part, Tests, Walks, run}
use Rattle.sq_forms.specs.Args.{Names, use_step}
use Rattle.sq_forms.specs.Worlds.{Frame}
use Rattle.sq_forms.specs.Calls.{CallSite}
use Rattle.sq_forms.specs.Stmts.{Walked, Portion, portion, stmt_steps, stmts_steps, bounds, times, in_iteration, each, iteration_steps, iterations_steps, map_steps, opens, outermost, within}
use Rattle.sq_forms.proofs.OpenedStmt.{portion_map}
use Rattle.sq_forms.proofs.Joins.{walks_then}

each_more : (part : ℕ → Part) (t n : ℕ) (later : List Step) → t < n → each t (n - t) part later ≡ part t (each (t + 1) (n - (t + 1)) part later)
each_more part t n later h =
    let e : n - t ≡ suc (n - (t + 1)) = omega arith in
    ap (λ k. each t k part later) e

pub iteration_more : (outer : Place) (inside : ℕ → CallSite) (ranges : List Range) (body : Walked) (ns : List ℤ) (frame : Frame) (names : Names) (numbers : Numbers) (t n : ℕ) (s0 s1 s2 : State) (site : CallSite) (inner : Numbers) (later : List Step)
    → t < n → site ≡ inside t → inner ≡ in_iteration ranges ns t numbers
    → ((l : List Step) → run s0 (use_step (Some outer) l) ≡ run s1 l)
    → ((l : List Step) → run s1 (body frame names site inner l) ≡ run s2 l)
    → run s0 (each t (n - t) (iteration_steps outer inside ranges body ns frame names numbers) later) ≡ run s2 (each (t + 1) (n - (t + 1)) (iteration_steps outer inside ranges body ns frame names numbers) later)
iteration_more outer inside ranges body ns frame names numbers t n s0 s1 s2 site inner later h is more begin run_body =
    let part = iteration_steps outer inside ranges body ns frame names numbers in
    let rest = each (t + 1) (n - (t + 1)) part later in
    ap (run s0) (each_more part t n later h)
    ∙ (begin (body frame names (inside t) (in_iteration ranges ns t numbers) rest)
    ∙ (ap (λ (x : CallSite). run s1 (body frame names x (in_iteration ranges ns t numbers) rest)) (sym is)
    ∙ (ap (λ (x : Numbers). run s1 (body frame names site x rest)) (sym more) ∙ run_body rest)))

pub map_made : {A : Type 0} (r : Result A Stop) (t : Stmt) (place : Place) (kind : MapKind) (ranges : List Range) (body : List Stmt) (rs : List Range) (bs : List Stmt) (ns : List ℤ) (outer : Place) (inside : ℕ → CallSite)
    (frame : Frame) (names : Names) (site : CallSite) (numbers : Numbers) (old mid new : State)
    → t ≡ s.Map place kind ranges body → rs ≡ ranges → bs ≡ body → outer ≡ outermost site.outer place → inside ≡ within site place kind
    → bounds rs numbers names.lists ≡ Ok ns
    → ((l : List Step) → run old (opens site.outer (Tests (fault_in (bounds rs numbers names.lists)) ∷ l)) ≡ run mid l)
    → Walks r mid new (each 0 (times ns) (iteration_steps outer inside rs (stmts_steps bs) ns frame names numbers))
    → Walks r old new (stmt_steps t frame names site numbers)
map_made r t place kind ranges body rs bs ns outer inside frame names site numbers old mid new is same_ranges same_body o i b h w =
    let P : Walked → Type 0 = λ x. Walks r old new (x frame names site numbers) in
    let e : stmt_steps t ≡ map_steps place kind ranges (stmts_steps body) = ap (λ (p : Portion). p.steps) (ap portion is ∙ portion_map place kind ranges body) in
    subst P (sym e)
    (subst (λ ys. P (map_steps place kind ranges (stmts_steps ys))) same_body
    (subst (λ ys. P (map_steps place kind ys (stmts_steps bs))) same_ranges
    (subst (λ (v : Value (List ℤ)). Walks r old new (λ later. opens site.outer (iterations_steps (outermost site.outer place) (within site place kind) rs (stmts_steps bs) v frame names numbers later))) (sym b)
    (walks_then r old mid new (λ later. opens site.outer (Tests (fault_in (Ok ns)) ∷ later)) (each 0 (times ns) (iteration_steps (outermost site.outer place) (within site place kind) rs (stmts_steps bs) ns frame names numbers))
    (subst (λ (v : Value (List ℤ)). (l : List Step) → run old (opens site.outer (Tests (fault_in v) ∷ l)) ≡ run mid l) b h)
    (subst (λ (f : ℕ → CallSite). Walks r mid new (each 0 (times ns) (iteration_steps (outermost site.outer place) f rs (stmts_steps bs) ns frame names numbers))) i
    (subst (λ (x : Place). Walks r mid new (each 0 (times ns) (iteration_steps x inside rs (stmts_steps bs) ns frame names numbers))) o w))))))

pub iteration_begun : (outer : Place) (inside : ℕ → CallSite) (ranges : List Range) (body : Walked) (ns : List ℤ) (frame : Frame) (names : Names) (numbers : Numbers) (t n : ℕ) (s0 s1 : State) (site : CallSite) (inner : Numbers) (later : List Step)
    → t < n → site ≡ inside t → inner ≡ in_iteration ranges ns t numbers
    → ((l : List Step) → run s0 (use_step (Some outer) l) ≡ run s1 l)
    → run s0 (each t (n - t) (iteration_steps outer inside ranges body ns frame names numbers) later)
    ≡ run s1 (body frame names site inner (each (t + 1) (n - (t + 1)) (iteration_steps outer inside ranges body ns frame names numbers) later))
iteration_begun outer inside ranges body ns frame names numbers t n s0 s1 site inner later h is more begin =
    let part = iteration_steps outer inside ranges body ns frame names numbers in
    let rest = each (t + 1) (n - (t + 1)) part later in
    ap (run s0) (each_more part t n later h)
    ∙ (begin (body frame names (inside t) (in_iteration ranges ns t numbers) rest)
    ∙ (ap (λ (x : CallSite). run s1 (body frame names x (in_iteration ranges ns t numbers) rest)) (sym is)
    ∙ ap (λ (x : Numbers). run s1 (body frame names site x rest)) (sym more)))

pub each_first : (outer : Place) (inside : ℕ → CallSite) (ranges : List Range) (body : Walked) (ns : List ℤ) (frame : Frame) (names : Names) (numbers : Numbers) (t n : ℕ) (old s0 : State) (later : List Step)
    → t < n
    → run old (each 0 n (iteration_steps outer inside ranges body ns frame names numbers) later) ≡ run s0 (each t (n - t) (iteration_steps outer inside ranges body ns frame names numbers) later)
    → (rest : List Step) × (run old (each 0 n (iteration_steps outer inside ranges body ns frame names numbers) later) ≡ run s0 (use_step (Some outer) rest))
each_first outer inside ranges body ns frame names numbers t n old s0 later h inv =
    let part = iteration_steps outer inside ranges body ns frame names numbers in
    (body frame names (inside t) (in_iteration ranges ns t numbers) (each (t + 1) (n - (t + 1)) part later), inv ∙ ap (run s0) (each_more part t n later h))

-- A plan file is read exactly as what its tokens stand for.
use Rattle.std.proofs.Common.{◌≡◌, ◌≢◌, ℕ, ◌+◌, ◌∙◌, sym, ◌-◌, length, Some, ap, subst, List, [], Ok, Err, refl, arith, ◌⊎◌, inl, inr}
use Rattle.std.specs.Prelude.{slice_get}
use Rattle.sq_text.specs.Answers.{Gives, IfRefused, Refuses}
use Rattle.sq_reader.specs.declared.error.ParseError.{ParseError}
use Rattle.sq_reader.specs.declared.error.ParseError.TheVariants.{OutOfMemory, Syntax, TooDeep}
use Rattle.sq_planread.specs.Parsing.{stop_of, place_of}
use Rattle.sq_text.specs.declared.fault.Fault.{Fault}
use Rattle.sq_text.specs.declared.code.Code.{Code}
use Rattle.sq_text.specs.declared.code.Code.TheVariants as code
use Rattle.sq_text.specs.declared.code.Phase.TheVariants as phase
use Rattle.sq_lexer.specs.declared.token.Token.{Token}
use Rattle.sq_lexer.specs.Tokens.{HasEnd}
use Rattle.sq_ast.specs.Grammar as ast
use Rattle.sq_plantext.specs.declared.text.PlanText.{PlanText}
use Rattle.sq_plantext.specs.Grammar.{most_levels, round_tasks, StandsFor}
use Rattle.sq_plantext.specs.Faults.{IsAt, SyntaxFault}
use Rattle.sq_planread.specs.Reading as reading
use Rattle.sq_planread.specs.Reading.{Outcome}
use Rattle.sq_planread.proofs.Found.{Reading}
use Rattle.sq_planread.proofs.DerivedLines.{plan_read}
use Rattle.sq_planread.proofs.CompleteLines.{plan_complete}
use Rattle.sq_planread.proofs.Tasks.{task_read}
use Rattle.sq_planread.proofs.TaskStops.{given_task, stops_task}
use Rattle.sq_planread.proofs.TaskLeads.{task_leads}
use Rattle.sq_planread.proofs.Places.{syntax_at, deep_at, no_memory}
use Rattle.sq_planread.proofs.Unique.{one_fault, no_fault}

-- the levels of a task and those that are counted round it
levels_add : ast.most_levels + round_tasks ≡ most_levels
unfolding most_levels ast.most_levels
levels_add = omega arith

-- what is read is a text of it
pub reads : (ts : List Token) → Reading (λ x j. StandsFor most_levels ts x) (reading.plan most_levels ast.most_levels ts)
reads ts = plan_read most_levels ast.most_levels (task_read most_levels ast.most_levels levels_add) ts

-- a text is read as what it stands for, and stands for nothing else
pub is_read : (ts : List Token) (x : PlanText) → StandsFor most_levels ts x → reading.plan most_levels ast.most_levels ts ≡ Ok (x, [])
is_read ts x s = plan_complete most_levels ast.most_levels (task_leads most_levels ast.most_levels levels_add) ts x s

abbrev first : PlanText → Outcome PlanText → PlanText
first x (Ok p) = p.0
first x _ = x

pub stands_for_one : (ts : List Token) (x y : PlanText) → StandsFor most_levels ts x → StandsFor most_levels ts y → x ≡ y
stands_for_one ts x y s t = ap (first x) (sym (is_read ts x s) ∙ is_read ts y t)

-- ---- what the parser answers

pub found : (ts j : List Token) (x : PlanText) → reading.plan most_levels ast.most_levels ts ≡ Ok (x, j) → StandsFor most_levels ts x
found ts j x e = of_outcome (reading.plan most_levels ast.most_levels ts) e (reads ts)
  where
    of_outcome : (r : Outcome PlanText) → r ≡ Ok (x, j) → Reading (λ x j. StandsFor most_levels ts x) r → StandsFor most_levels ts x
    of_outcome (Ok p) e h = subst (StandsFor most_levels ts) (ap (first x) e) h.is
    of_outcome (Err z) e h = absurd (cc)

pub only : (ts j : List Token) (x y : PlanText) → reading.plan most_levels ast.most_levels ts ≡ Ok (y, j) → StandsFor most_levels ts x → y ≡ x
only ts j x y e s = ap (first y) (sym e ∙ is_read ts x s)

no_error : (r : Outcome PlanText) (p : PlanText × List Token) (z : ParseError) → r ≡ Ok p → r ≡ Err z → ⊥
no_error (Ok q) p z e h = absurd (cc)
no_error (Err q) p z e h = absurd (cc)

pub only_memory : (ts : List Token) (x : PlanText) (z : ParseError) → StandsFor most_levels ts x → (z ≢ OutOfMemory → reading.plan most_levels ast.most_levels ts ≡ Err z) → Gives {A = PlanText} (Err (stop_of ts z)) x
only_memory ts x OutOfMemory s h = tt
only_memory ts x (Syntax n) s h = no_error (reading.plan most_levels ast.most_levels ts) (x, []) (Syntax n) (is_read ts x s) (h (λ q. cc))
only_memory ts x (TooDeep n) s h = no_error (reading.plan most_levels ast.most_levels ts) (x, []) (TooDeep n) (is_read ts x s) (h (λ q. cc))

-- ---- where it refuses

at_token : (c : Code) (ts : List Token) (i : ℕ) (t : Token) → slice_get ts i ≡ Some t → IsAt c ts i (record { phase = phase.Plan; code = c; place = place_of (slice_get ts i); args = [] })
at_token c ts i t e = record { token = t; there = e; is = ap (λ o. record { phase = phase.Plan; code = c; place = place_of o; args = [] }) e }

pub refused : (ts : List Token) (z : ParseError) → HasEnd ts → (z ≢ OutOfMemory → reading.plan most_levels ast.most_levels ts ≡ Err z) → IfRefused {A = PlanText} (Err (stop_of ts z)) (λ f. SyntaxFault ts f)
refused ts OutOfMemory end e = tt
refused ts (Syntax n) end e =
    let h = syntax_at most_levels ast.most_levels given_task (stops_task most_levels ast.most_levels levels_add) (task_leads most_levels ast.most_levels levels_add) ts n end (e (λ q. cc)) in
    inl (length ts - n, h.why, at_token code.Syntax ts (length ts - n) h.next h.there_)
refused ts (TooDeep n) end e =
    let h = deep_at most_levels ast.most_levels given_task (stops_task most_levels ast.most_levels levels_add) (task_leads most_levels ast.most_levels levels_add) ts n end (e (λ q. cc)) in
    inr (length ts - n, h.why, at_token code.TooDeep ts (length ts - n) h.next h.there_)

pub refuses : (ts : List Token) (z : ParseError) (g : Fault) → HasEnd ts → (z ≢ OutOfMemory → reading.plan most_levels ast.most_levels ts ≡ Err z) → SyntaxFault ts g → Refuses {A = PlanText} (Err (stop_of ts z)) g
refuses ts OutOfMemory g end e f = tt
refuses ts (Syntax n) g end e f = one_fault ts _ g (refused ts (Syntax n) end e) f
refuses ts (TooDeep n) g end e f = one_fault ts _ g (refused ts (TooDeep n) end e) f

pub none_refused : (ts j : List Token) (x : PlanText) (g : Fault) → reading.plan most_levels ast.most_levels ts ≡ Ok (x, j) → SyntaxFault ts g → Refuses {A = PlanText} (Ok x) g
none_refused ts j x g e f = no_fault ts x g (found ts j x e) f

-- ---- lines or a fault

pub lines_or_fault : (ts : List Token) → HasEnd ts → ((x : PlanText) × StandsFor most_levels ts x) ⊎ ((f : Fault) × SyntaxFault ts f)
lines_or_fault ts end = of_outcome (reading.plan most_levels ast.most_levels ts) refl
  where
    of_outcome : (r : Outcome PlanText) → reading.plan most_levels ast.most_levels ts ≡ r → ((x : PlanText) × StandsFor most_levels ts x) ⊎ ((f : Fault) × SyntaxFault ts f)
    of_outcome (Ok p) e = inl (p.0, found ts p.1 p.0 e)
    of_outcome (Err (Syntax n)) e = inr (_, refused ts (Syntax n) end (λ q. e))
    of_outcome (Err (TooDeep n)) e = inr (_, refused ts (TooDeep n) end (λ q. e))
    of_outcome (Err OutOfMemory) e = absurd (no_memory most_levels ast.most_levels given_task (stops_task most_levels ast.most_levels levels_add) (task_leads most_levels ast.most_levels levels_add) ts end e)

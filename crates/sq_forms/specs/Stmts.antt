-- What the walk meets in statements, as they would run.
use Rattle.std.specs.Prelude.{◌≡◌, ℕ, zero, suc, ◌+◌, ◌*◌, ◌/◌, ◌%◌, ℤ, pos, negsuc, List, [], ◌∷◌, ◌++◌, map, Option, Some, None, Ok, Err, slice_get}
use Rattle.sq_text.specs.declared.place.Place.{Place}
use Rattle.sq_ast.specs.declared.program.Body.{Body}
use Rattle.sq_ast.specs.declared.program.Body.TheVariants.{Inner, Leaf}
use Rattle.sq_ast.specs.declared.program.Variant.{Variant}
use Rattle.sq_ast.specs.declared.stmt.Range.{Range}
use Rattle.sq_ast.specs.declared.stmt.MapKind.{MapKind}
use Rattle.sq_ast.specs.declared.stmt.MapKind.TheVariants.{Par, Seq, Reduce}
use Rattle.sq_ast.specs.declared.stmt.Stmt.{Stmt}
use Rattle.sq_ast.specs.declared.stmt.Stmt.TheOpen.{Stmt-F}
use Rattle.sq_ast.specs.declared.stmt.Stmt.TheFolds.{fold-Stmt}
use Rattle.sq_text.specs.Names.{Bytes}
use Rattle.sq_blocks.specs.Names.{Numbers, Lists, with_number}
use Rattle.std.specs.Option.{option_copied}
use Rattle.sq_forms.specs.declared.stmt.At.{At}
use Rattle.sq_forms.specs.declared.tally.Tally.{Tally}
use Rattle.sq_forms.specs.Faults.{Value, fault_in, value_or, and_then}
use Rattle.sq_forms.specs.Steps.{Part, Opens, Tests}
use Rattle.sq_forms.specs.Args.{Names, worth_of, before, use_step}
use Rattle.sq_forms.specs.Worlds.{Frame}
use Rattle.sq_forms.specs.Calls.{CallSite, call_steps}

-- ---- the iterations of a map

-- the bounds of all ranges, in which none of the map's variables is known
abbrev pub bounds : List Range → Numbers → Lists → Value (List ℤ)
bounds [] numbers lists = Ok []
bounds (r ∷ rs) numbers lists = and_then (worth_of r.bound numbers lists) (λ n. before n (bounds rs numbers lists))

-- how many values a variable takes from 0 up to but not including its bound
abbrev pub count_of : ℤ → ℕ
count_of (pos n) = n
count_of (negsuc n) = 0

abbrev pub times : List ℤ → ℕ
times [] = 1
times (n ∷ ns) = count_of n * times ns

abbrev pub times_of : Value (List ℤ) → ℕ
times_of (Ok ns) = times ns
times_of (Err f) = 0

abbrev pub count_or_none : Option ℤ → ℕ
count_or_none None = 0
count_or_none (Some n) = count_of n

-- numbers that stand for names, and what is left of an iteration's number
pub record Turned : Type 0 where
  pub numbers : Numbers
  pub left : ℕ

-- a variable takes the remainder by its count, and the quotient goes to the range before it
abbrev pub bind_variable : Bytes → ℕ → Turned → Turned
bind_variable name zero t = t
bind_variable name (suc n) t = record {
  numbers = with_number t.numbers name (pos (t.left % suc n));
  left =
      t.left / suc n;
}

-- the ranges from the i-th on in an iteration: the last varies fastest
abbrev pub turned_from : List Range → ℕ → List ℤ → ℕ → Numbers → Turned
turned_from [] i ns t numbers = record { numbers = numbers; left = t }
turned_from (r ∷ rs) i ns t numbers =
    bind_variable r.name (count_or_none (slice_get ns i)) (turned_from rs (i + 1) ns t numbers)

-- the numbers with those of a map's variables in its t-th iteration
abbrev pub in_iteration : List Range → List ℤ → ℕ → Numbers → Numbers
in_iteration ranges ns t numbers = (turned_from ranges 0 ns t numbers).numbers

-- n parts, from the t-th on
abbrev pub each : ℕ → ℕ → (ℕ → Part) → Part
each t zero part later = later
each t (suc n) part later = part t (each (t + 1) n part later)

-- ---- statements

-- what the walk meets in a part of a form's statements
abbrev pub Walked : Type 0
Walked = Frame → Names → CallSite → Numbers → Part

-- how many calls and maps stand in it, the tallies of these maps, and what is met
pub record Portion : Type 0 where
  pub calls : ℕ
  pub inside : ℕ
  pub maps : List Tally
  pub steps : Walked

abbrev pub calls_of : List Portion → ℕ
calls_of [] = 0
calls_of (p ∷ ps) = p.calls + calls_of ps

abbrev pub inside_of : List Portion → ℕ
inside_of [] = 0
inside_of (p ∷ ps) = p.inside + inside_of ps

abbrev pub maps_of : List Portion → List Tally
maps_of [] = []
maps_of (p ∷ ps) = p.maps ++ maps_of ps

-- a map's calls, and its maps, itself among them
abbrev pub tally_of : List Portion → Tally
tally_of parts = record { calls = calls_of parts; maps = 1 + inside_of parts }

abbrev pub after_calls : CallSite → ℕ → CallSite
after_calls site n = record {
  call = site.call + n;
  outer = site.outer;
  reduced = site.reduced;
  iterations =
      site.iterations;
}

-- one after another; calls are numbered in text order
abbrev pub all_of : List Portion → Walked
all_of [] frame names site numbers later = later
all_of (p ∷ ps) frame names site numbers later =
    p.steps frame names site numbers (all_of ps frame names (after_calls site p.calls) numbers later)

abbrev pub reduced_by : MapKind → Option Bytes
reduced_by Par = None
reduced_by Seq = None
reduced_by (Reduce op array) = Some array.name

-- the outermost map round a part of a map at this place
abbrev pub outermost : Option Place → Place → Place
outermost None place = place
outermost (Some outer) place = outer

abbrev pub opens : Option Place → Part
opens None later = Opens ∷ later
opens (Some outer) later = later

abbrev pub within : CallSite → Place → MapKind → ℕ → CallSite
within site place kind t = record {
  call = site.call;
  outer = Some (outermost site.outer place);
  reduced =
      reduced_by kind;
  iterations = site.iterations ++ t ∷ [];
}

-- an iteration is counted when it begins
abbrev pub iteration_steps : Place → (ℕ → CallSite) → List Range → Walked → List ℤ → Frame → Names → Numbers → ℕ → Part
iteration_steps outer inside ranges body ns frame names numbers t later =
    use_step (Some outer) (body frame names (inside t) (in_iteration ranges ns t numbers) later)

-- the bounds, and then the iterations
abbrev pub iterations_steps : Place → (ℕ → CallSite) → List Range → Walked → Value (List ℤ) → Frame → Names → Numbers
    → Part
iterations_steps outer inside ranges body ns frame names numbers later =
    Tests (fault_in ns) ∷ each 0 (times_of ns)
    (iteration_steps outer inside ranges body (value_or [] ns) frame names numbers) later

abbrev pub map_steps : Place → MapKind → List Range → Walked → Walked
map_steps place kind ranges body frame names site numbers later =
    opens site.outer (iterations_steps (outermost site.outer place) (within site place kind) ranges body
    (bounds ranges numbers names.lists) frame names numbers later)

abbrev pub stmt_step : Stmt-F Portion → Portion
stmt_step (Stmt-F.Call c) = record {
  calls = 1;
  inside = 0;
  maps = [];
  steps =
      λ frame names site numbers. call_steps frame names site numbers c;
}
stmt_step (Stmt-F.Map place kind ranges parts) = record {
  calls = calls_of parts;
  inside = 1 + inside_of parts;
  maps = tally_of parts ∷ maps_of parts;
  steps = map_steps place kind ranges (all_of parts);
}

abbrev pub portion : Stmt → Portion
portion = fold-Stmt Portion stmt_step

abbrev pub stmt_steps : Stmt → Walked
stmt_steps s = (portion s).steps

abbrev pub stmts_steps : List Stmt → Walked
stmts_steps list = all_of (map portion list)

-- ---- what the code does

-- how many calls and maps stand in a portion, and in all of these
abbrev pub sum_of : Portion → Tally
sum_of p = record { calls = p.calls; maps = p.inside }

abbrev pub sum_of_all : List Portion → Tally
sum_of_all ps = record { calls = calls_of ps; maps = inside_of ps }

-- of the maps of a variant, in text order; a leaf has none
abbrev pub tallies_of : Body → List Tally
tallies_of (Inner list) = maps_of (map portion list)
tallies_of (Leaf list) = []

abbrev pub all_tallies : List Variant → List (List Tally)
all_tallies variants = map (λ v. tallies_of v.body) variants

-- where there is no variant, none
abbrev pub tallies_in : Option Variant → List Tally
tallies_in None = []
tallies_in (Some v) = tallies_of v.body

-- the list begins with these
pub record Begins {A : Type 0} (front whole : List A) : Type 0 where
  pub rest : List A
  pub is : whole ≡ front ++ rest

-- where statements stand, in these iterations
abbrev pub site_at : At → List ℕ → CallSite
site_at a iterations = record {
  call = a.call;
  outer = a.outer;
  reduced = option_copied a.reduced;
  iterations =
      iterations;
}

-- a path, without its last iteration where it has one
abbrev pub Ended : List ℕ → List ℕ → Type 0
Ended old new = (front : List ℕ) (t : ℕ) → old ≡ front ++ t ∷ [] → new ≡ front

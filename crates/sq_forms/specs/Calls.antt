-- What is tested at a call whose arguments were examined, and the form that it reaches.
use Rattle.std.specs.Prelude.{◌≡◌, ℕ, ◌+◌, ◌-◌, ◌==◌, nat_lt, ℤ, pos, Bool, true, false, not, ◌&&◌, ◌||◌, List, [], ◌∷◌, ◌++◌, map, length, Option, Some, None, option_map, if◌then◌else◌, slice_get}
use Rattle.std.specs.Option.{option_and_then, option_copied}
use Rattle.std.specs.List.{list_any}
use Rattle.std.specs.Map.{lookup}
use Rattle.std.specs.Ordering.{int_eq}
use Rattle.sq_text.specs.declared.place.Place.{Place}
use Rattle.sq_text.specs.declared.fault.Fault.{Fault}
use Rattle.sq_text.specs.declared.code.Code.{Code}
use Rattle.sq_text.specs.declared.code.Code.TheVariants as code
use Rattle.sq_ast.specs.declared.expr.ArgUse.{ArgUse, out-ArgUse}
use Rattle.sq_ast.specs.declared.stmt.Call.{Call}
use Rattle.sq_ast.specs.declared.program.Extent.{Extent}
use Rattle.sq_ast.specs.declared.program.Extent.TheVariants as extent
use Rattle.sq_ast.specs.declared.program.Param.{Param}
use Rattle.sq_text.specs.Names.{Bytes, same_name}
use Rattle.sq_blocks.specs.Names.{Numbers, with_number}
use Rattle.sq_blocks.specs.Rect.Blocks.{overlaps}
use Rattle.sq_blocks.specs.declared.argument.Argument.{Argument}
use Rattle.sq_ast.specs.Modes.{is_written}
use Rattle.sq_blocks.specs.Arguments.{lengths}
use Rattle.sq_forms.specs.declared.form.Found.{Found}
use Rattle.sq_forms.specs.declared.form.Use.{Use}
use Rattle.sq_forms.specs.declared.call.CallSite.{CallSite as CodeSite}
use Rattle.sq_forms.specs.Faults.{fault_named}
use Rattle.sq_forms.specs.Steps.{Part, Tests, Calls, Called, Key}
use Rattle.sq_forms.specs.Args.{Names, arguments, args_steps}
use Rattle.sq_forms.specs.Worlds.{Frame, Callee, callee_of}

-- ---- blocks that share an element

abbrev pub shares : Argument → Argument → Bool
shares x y = x.array == y.array && length x.rect == length y.rect && overlaps x.rect y.rect

-- ---- Shape

-- a size name has one value
abbrev pub with_size : Numbers → Bytes → ℕ → Option ℤ → Option Numbers
with_size sizes name n None = Some (with_number sizes name (pos n))
with_size sizes name n (Some m) = if int_eq m (pos n) then Some sizes else None

abbrev pub bind_extent : Numbers → Extent → ℕ → Option Numbers
bind_extent sizes (extent.Size place name) n = with_size sizes name n (lookup (same_name name) sizes)
bind_extent sizes (extent.Fixed place m) n = if int_eq m (pos n) then Some sizes else None

abbrev pub bind_there : Numbers → Extent → Option ℕ → Option Numbers
bind_there sizes e None = None
bind_there sizes e (Some n) = bind_extent sizes e n

-- the sizes with those of one more parameter from its i-th extent on, where its extents fit
abbrev pub bind_from : Numbers → List Extent → ℕ → List ℕ → Option Numbers
bind_from sizes [] i ns = Some sizes
bind_from sizes (e ∷ es) i ns =
    option_and_then (λ more. bind_from more es (i + 1) ns) (bind_there sizes e (slice_get ns i))

abbrev pub bind_there_all : Numbers → Param → Option Argument → Option Numbers
bind_there_all sizes p None = Some sizes
bind_there_all sizes p (Some x) = bind_from sizes p.extents 0 (lengths x.rect)

abbrev pub misfit_or : ℕ → Option Numbers → (Numbers → Option ℕ) → Option ℕ
misfit_or i None next = Some i
misfit_or i (Some sizes) next = next sizes

-- the first argument, from the i-th on, that doesn't fit its parameter
abbrev pub shape_from : ℕ → Numbers → List Param → List Argument → Option ℕ
shape_from i sizes [] xs = None
shape_from i sizes (p ∷ ps) xs =
    misfit_or i (bind_there_all sizes p (slice_get xs i)) (λ more. shape_from (i + 1) more ps xs)

-- ---- Alias

-- a written argument before it that shares an element
abbrev pub clashes : Argument → Argument → Bool
clashes x y = is_written y.mode && shares x y

abbrev pub alias_from : ℕ → List Argument → List Argument → Option ℕ
alias_from i before [] = None
alias_from i before (x ∷ xs) = if is_written x.mode && list_any (clashes x) before then Some i else
    alias_from (i + 1) (before ++ x ∷ []) xs

-- ---- in place

abbrev pub meets : Argument → Argument → Bool
meets x y = shares x y && (is_written x.mode || is_written y.mode)

-- each other argument, of those from the j-th on, shares no element with the k-th or neither is written
abbrev pub is_apart : Argument → ℕ → ℕ → List Argument → Bool
is_apart x k j [] = true
is_apart x k j (y ∷ ys) = (j == k || not (meets x y)) && is_apart x k (j + 1) ys

abbrev pub flags_from : Bool → List Argument → ℕ → List Argument → List Bool
flags_from same all k [] = []
flags_from same all k (x ∷ xs) = (same && (not x.is_reduced && is_apart x k 0 all)) ∷ flags_from same all (k + 1) xs

-- in a call at the same level, where each other argument is apart; never an array that is reduced into
abbrev pub flags : Bool → List Argument → List Bool
flags same xs = flags_from same xs 0 xs

-- ---- the form

abbrev pub bit : Bool → ℕ
bit true = 1
bit false = 0

abbrev pub key_extents : List (List ℕ) → List ℕ
key_extents [] = []
key_extents (e ∷ es) = length e ∷ e ++ key_extents es

-- a 2 stands behind the flags
abbrev pub key_of : ℕ → ℕ → ℕ → List Bool → List (List ℕ) → Key
key_of form call instance in_place extents = form ∷ call ∷ instance ∷ map bit in_place ++ 2 ∷ key_extents extents

abbrev pub extents_of : List Argument → List (List ℕ)
extents_of xs = map (λ x. lengths x.rect) xs

-- where a call stands in its form: its number, the outermost map round it, the array that is reduced into, and the
-- iterations
pub record CallSite : Type 0 where
  pub call : ℕ
  pub outer : Option Place
  pub reduced : Option Bytes
  pub iterations : List ℕ

abbrev pub site_of : CodeSite → CallSite
site_of s = record { call = s.call; outer = s.outer; reduced = option_copied s.reduced; iterations = s.iterations.now }

abbrev pub form_of : Frame → Callee → CallSite → List Argument → Found
form_of frame callee site xs = record {
  instance = callee.instance;
  level = callee.level;
  extents = extents_of xs;
  in_place = flags (callee.level == frame.level) xs;
  caller = Some (record { form = frame.form; call = site.call });
  maps = frame.maps + length site.iterations;
  depth = frame.depth + 1;
}

abbrev pub uses_from : CallSite → ℕ → ℕ → List Argument → List Use
uses_from site callee i [] = []
uses_from site callee i (x ∷ xs) =
    record {
      call = site.call;
      arg = i;
      iterations = site.iterations;
      array = x.array;
      rect = x.rect;
      mode =
          x.mode;
      callee = callee;
    } ∷ uses_from site callee (i + 1) xs

-- ---- the call

-- the fault of the argument in a position
abbrev pub fault_of_arg : Code → List ArgUse → Option ℕ → Option Fault
fault_of_arg c args None = None
fault_of_arg c args (Some i) = option_map (λ a. fault_named c (out-ArgUse a).place (out-ArgUse a).name)
    (slice_get args i)

unfoldable pub most_round : ℕ
most_round = 64

abbrev pub is_too_deep : Frame → CallSite → Bool
is_too_deep frame site = nat_lt most_round (frame.maps + length site.iterations) || nat_lt most_round frame.depth

abbrev pub depth_fault : Frame → CallSite → Call → Option Fault
depth_fault frame site c = if is_too_deep frame site then Some (fault_named code.LimitDepth c.place c.task) else None

abbrev pub call_of : Frame → Callee → CallSite → Call → List Argument → Called
call_of frame callee site c xs = record {
  key = key_of frame.form site.call callee.instance (flags (callee.level == frame.level) xs) (extents_of xs);
  form = form_of frame callee site xs;
  uses = λ n. uses_from site n 0 xs;
  too_many = fault_named code.LimitCalls c.place c.task;
}

abbrev pub reached_steps : Frame → Callee → CallSite → Call → List Argument → Part
reached_steps frame callee site c xs later =
    Tests (fault_of_arg code.Shape c.args (shape_from 0 [] callee.params xs))
    ∷ Tests (fault_of_arg code.Alias c.args (alias_from 0 [] xs))
    ∷ Tests (depth_fault frame site c)
    ∷ Calls (call_of frame callee site c xs)
    ∷ later

abbrev pub served_steps : Frame → Names → CallSite → Numbers → Call → Option Callee → Part
served_steps frame names site numbers c None later = later
served_steps frame names site numbers c (Some callee) later =
    args_steps site.outer names numbers site.reduced callee.params 0 c.args
    (reached_steps frame callee site c (arguments names numbers site.reduced callee.params 0 c.args) later)

abbrev pub call_steps : Frame → Names → CallSite → Numbers → Call → Part
call_steps frame names site numbers c later = served_steps frame names site numbers c (callee_of frame c.task) later

-- ---- what the code does

-- whether the extents fit, and the sizes with theirs
abbrev pub Binds : Option Numbers → Bool → Numbers → Type 0
Binds None fits new = fits ≡ false
Binds (Some sizes) fits new = (fits ≡ true) × (new ≡ sizes)

-- The forms of the demo's program: a product of 128 by 128 in blocks of 32, one of 32 by 32 in blocks of 8, and one of
-- 8 by 8.
use Rattle.std.specs.Prelude.{ℕ, zero, suc, ◌*◌, ◌/◌, ◌%◌, false, List, [], ◌∷◌, ◌++◌, Some, None}
use Rattle.sq_text.specs.declared.place.Span.{Span}
use Rattle.sq_ast.specs.declared.program.Mode.{Mode}
use Rattle.sq_ast.specs.declared.program.Mode.TheVariants as mode
use Rattle.sq_forms.specs.declared.form.Form.{Form}
use Rattle.sq_forms.specs.declared.form.Found.{Found}
use Rattle.sq_forms.specs.declared.form.Use.{Use}
use Rattle.sq_forms.specs.Steps.{Forms, Key}
use Rattle.sq_forms.specs.Resolving.{Resolving}

-- ---- the forms

-- three matrices of n by n
abbrev pub square : ℕ → List (List ℕ)
square n = (n ∷ n ∷ []) ∷ (n ∷ n ∷ []) ∷ (n ∷ n ∷ []) ∷ []

abbrev pub entry_found : Found
entry_found = record {
  instance = 0;
  level = 0;
  extents = square 128;
  in_place = false ∷ false ∷ false ∷ [];
  caller = None;
  maps = 0;
  depth = 1;
}

abbrev pub chip_found : Found
chip_found = record {
  instance = 1;
  level = 1;
  extents = square 32;
  in_place = false ∷ false ∷ false ∷ [];
  caller = Some (record { form = 0; call = 0 });
  maps = 2;
  depth = 2;
}

abbrev pub core_found : Found
core_found = record {
  instance = 2;
  level = 2;
  extents = square 8;
  in_place = false ∷ false ∷ false ∷ [];
  caller = Some (record { form = 1; call = 0 });
  maps = 4;
  depth = 3;
}

-- of the one call of a form, to an instance on three matrices of n by n
abbrev pub key_to : (form instance n : ℕ) → Key
key_to form instance n =
    form ∷ 0 ∷ instance ∷ 0 ∷ 0 ∷ 0 ∷ 2 ∷ 2 ∷ n ∷ n ∷ 2 ∷ n ∷ n ∷ 2 ∷ n ∷ n ∷ []

abbrev pub demo_found : Forms
demo_found = ([], entry_found) ∷ (key_to 0 1 32, chip_found) ∷ (key_to 1 2 8, core_found) ∷ []

abbrev pub form_like : Found → Form
form_like f = record {
  instance = f.instance;
  level = f.level;
  extents = f.extents;
  in_place = f.in_place;
  caller = f.caller;
  locals = [];
}

abbrev pub demo_forms : List Form
demo_forms = form_like entry_found ∷ form_like chip_found ∷ form_like core_found ∷ []

-- ---- the accesses

-- piece i of b numbers
abbrev pub piece_at : (b i : ℕ) → Span
piece_at b i = record { lo = i * b; hi = suc i * b }

abbrev pub block_at : (b i j : ℕ) → List Span
block_at b i j = piece_at b i ∷ piece_at b j ∷ []

abbrev pub block_use : (callee t k arg : ℕ) → Mode → List Span → Use
block_use callee t k arg way rect = record {
  call = 0;
  arg = arg;
  iterations = t ∷ k ∷ [];
  array = arg;
  rect = rect;
  mode = way;
  callee = callee;
}

-- of iteration t of the map over i and j, and iteration k of the one inside
abbrev pub uses_at : (b callee t k : ℕ) → List Use
uses_at b callee t k =
    block_use callee t k 0 mode.Input (block_at b (t / 4) k) ∷ block_use callee t k 1 mode.Input (block_at b k (t % 4))
    ∷ block_use callee t k 2 mode.Both (block_at b (t / 4) (t % 4)) ∷ []

-- of n iterations from the k-th on
abbrev pub uses_from : (b callee t n k : ℕ) → List Use
uses_from b callee t zero k = []
uses_from b callee t (suc n) k = uses_at b callee t k ++ uses_from b callee t n (suc k)

abbrev pub all_uses_from : (b callee n t : ℕ) → List Use
all_uses_from b callee zero t = []
all_uses_from b callee (suc n) t = uses_from b callee t 4 0 ++ all_uses_from b callee n (suc t)

abbrev pub demo_uses : List (List Use)
demo_uses = all_uses_from 32 1 16 0 ∷ all_uses_from 8 2 16 0 ∷ [] ∷ []

abbrev pub demo_resolving : Resolving
demo_resolving = record { found = demo_found; forms = demo_forms; uses = demo_uses }

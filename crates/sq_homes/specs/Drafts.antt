-- The draft of a program under what is chosen for its forms.
use Rattle.std.specs.Prelude.{◌≡◌, ℕ, suc, ◌+◌, List, [], ◌∷◌, ◌++◌, map, get_or, slice_get, length, Option, Some, None}
use Rattle.sq_text.specs.Names.{Bytes}
use Rattle.sq_ast.specs.declared.program.Variant.{Variant}
use Rattle.sq_ir.specs.Leaf.Leaf.{arrays_of}
use Rattle.sq_ir.specs.declared.term.Term.{Term}
use Rattle.sq_ir.specs.declared.plan.Buffer.{Buffer}
use Rattle.sq_ir.specs.declared.plan.Leaf.{Leaf}
use Rattle.sq_ir.specs.declared.plan.Draft.{Draft}
use Rattle.sq_ir.specs.Blocks.declared.argument.Argument.{Argument}
use Rattle.sq_chosen.specs.SpecLaws.Forms.declared.form.Form.{Form}
use Rattle.sq_chosen.specs.SpecLaws.Forms.Resolving.{entry_params}
use Rattle.sq_chosen.specs.SpecLaws.Spec.declared.body.Body.{Body}
use Rattle.sq_chosen.specs.SpecLaws.Spec.declared.body.Body.TheVariants as body
use Rattle.sq_chosen.specs.SpecLaws.Spec.declared.body.FormBody.{FormBody}
use Rattle.sq_chosen.specs.SpecLaws.Spec.declared.resolved.Resolved.{Resolved}
use Rattle.sq_chosen.specs.SpecLaws.Spec.Works.{entry_arguments}
use Rattle.sq_chosen.specs.SpecLaws.Needs.{variant_for}
use Rattle.sq_draft.specs.Placed.declared.home.Homes.{Homes}
use Rattle.sq_draft.specs.Term.Terms.{entry_term, body_in, homes_in, buffer_or}
use Rattle.sq_chosen.specs.declared.choice.Choice.{Choice}
use Rattle.sq_chosen.specs.Arrays.{standing, array_size}
use Rattle.sq_chosen.specs.Forms.{bodies_of, choice_in, instance_at, level_by, rule_by, name_by}
use Rattle.sq_homes.specs.Numbering.{form_homes}

-- ---- the homes of all arrays

abbrev pub codes_in : Body → ℕ
codes_in (body.Leaf code) = 1
codes_in (body.Inner list) = 0

-- of these forms, from the k-th on; base: how many buffers stand before, code: how many leaves
abbrev pub homes_from : Resolved → List Choice → (k base code : ℕ) → List FormBody → List Homes
homes_from r choices k base code [] = []
homes_from r choices k base code (b ∷ bs) =
    form_homes base (rule_by (instance_at r k)) code b (choice_in choices k)
    ∷ homes_from r choices (suc k) (base + length (standing b (choice_in choices k))) (code + codes_in b.body) bs

abbrev pub homes_of : Resolved → List Choice → List Homes
homes_of r choices = homes_from r choices 0 0 0 (bodies_of r)

-- ---- buffers

-- the names of a variant's parameters and locals
abbrev pub names_by : Option Variant → List Bytes
names_by None = []
names_by (Some v) = arrays_of v

abbrev pub buffer_at : Resolved → (k : ℕ) → FormBody → (array : ℕ) → Buffer
buffer_at r k b i = record {
  level = level_by (slice_get r.forms k);
  size = array_size b i;
  instance = name_by (instance_at r k);
  array = get_or (names_by (variant_for r.typed.now.tasks (instance_at r k))) i [];
}

abbrev pub buffers_from : Resolved → List Choice → (k : ℕ) → List FormBody → List Buffer
buffers_from r choices k [] = []
buffers_from r choices k (b ∷ bs) =
    map (buffer_at r k b) (standing b (choice_in choices k)) ++ buffers_from r choices (suc k) bs

-- by form, and of each form as they stand
abbrev pub buffers_of : Resolved → List Choice → List Buffer
buffers_of r choices = buffers_from r choices 0 (bodies_of r)

-- ---- leaves

abbrev pub leaves_in : Bytes → Body → List Leaf
leaves_in name (body.Leaf code) = record { instance = name; code = code } ∷ []
leaves_in name (body.Inner list) = []

abbrev pub leaves_from : Resolved → (k : ℕ) → List FormBody → List Leaf
leaves_from r k [] = []
leaves_from r k (b ∷ bs) = leaves_in (name_by (instance_at r k)) b.body ++ leaves_from r (suc k) bs

-- the code of each form that is a leaf
abbrev pub leaves_of : Resolved → List Leaf
leaves_of r = leaves_from r 0 (bodies_of r)

-- ---- the draft

abbrev pub extents_by : Option Form → List (List ℕ)
extents_by None = []
extents_by (Some f) = f.extents

-- the entry is called with whole arrays
abbrev pub args_of : Resolved → List Argument
args_of r =
    entry_arguments (entry_params r.typed.now.tasks (slice_get r.mapping.now.instances r.mapping.now.entry)) 0
    (extents_by (slice_get r.forms 0))

-- the term of the entry, where the forms do what the first list says and their arrays have the homes of the second one
unfoldable pub term_with : List FormBody → List Homes → List Argument → Term
term_with bodies homes args = entry_term (body_in bodies) (homes_in homes) (length bodies) args

-- the term that a program's compiled form is, its loops kept
abbrev pub program_term : Resolved → List Choice → Term
program_term r choices = term_with (bodies_of r) (homes_of r choices) (args_of r)

-- the buffers of the entry's arrays
abbrev pub entry_of : Resolved → List Choice → List ℕ
entry_of r choices = map buffer_or (homes_in (homes_of r choices) 0).params

-- a draft of the program in which these are the choices
pub record IsDraftOf (r : Resolved) (choices : List Choice) (d : Draft) : Type 0 where
  pub term : d.term ≡ program_term r choices
  pub buffers : d.buffers ≡ buffers_of r choices
  pub leaves : d.leaves ≡ leaves_of r
  pub entry : d.entry ≡ entry_of r choices

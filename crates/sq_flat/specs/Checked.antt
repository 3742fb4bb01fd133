-- What is asked of forms, as tests.
use Rattle.std.specs.Prelude.{ℕ, ◌+◌, Bool, true, false, ◌&&◌, nat_eq, nat_lt, nat_le, List, [], ◌∷◌, map, length, slice_get, Option, Some, None}
use Rattle.std.specs.Cmp.Lexicographic.{pointwise}
use Rattle.sq_num.specs.Elements.{width}
use Rattle.sq_text.specs.declared.place.Span.{Span}
use Rattle.sq_rect.specs.declared.view.View.{View}
use Rattle.sq_rect.specs.Extents.{product, row_major}
use Rattle.sq_leaf.specs.Line.{are_in_line}
use Rattle.sq_leaf.specs.Views.{shape_of}
use Rattle.sq_blocks.specs.declared.argument.Argument.{Argument}
use Rattle.sq_spec.specs.declared.statement.CallInstance.{CallInstance}
use Rattle.sq_blocks.specs.Arguments.{lengths}
use Rattle.sq_spec.specs.declared.body.Body.{Body}
use Rattle.sq_spec.specs.declared.body.Body.TheVariants as body
use Rattle.sq_flat.specs.declared.form.FormCode.{FormCode}
use Rattle.sq_flat.specs.Memory.{size, total}
use Rattle.sq_flat.specs.Ready.{rows_in}

-- ---- views

abbrev pub same_numbers : List ℕ → List ℕ → Bool
same_numbers = pointwise nat_eq

-- a whole array from this byte on, with elements and a size that has 32 bits
abbrev pub is_at : ℕ → View → Bool
is_at at v = nat_eq v.at at && (nat_lt 0 (product v.extents) && (nat_lt (size v) 4294967296 && same_numbers v.strides (row_major v.extents)))

-- one behind the other
abbrev pub are_lined : ℕ → List View → Bool
are_lined at [] = true
are_lined at (v ∷ vs) = is_at at v && are_lined (at + size v) vs

-- ---- arguments

-- spans of numbers of the dimensions, none of which is empty
abbrev pub are_inside : List Span → List ℕ → Bool
are_inside [] [] = true
are_inside (s ∷ spans) (n ∷ ns) = nat_lt s.lo s.hi && (nat_le s.hi n && are_inside spans ns)
are_inside _ _ = false

abbrev pub is_block : Argument → Option View → Option View → Bool
is_block a (Some of) (Some to) = are_inside a.rect of.extents && (nat_eq (width to.elem) (width of.elem) && same_numbers to.extents (lengths a.rect))
is_block a _ _ = false

-- of the arguments from the k-th on
abbrev pub are_blocks : List View → List View → ℕ → List Argument → Bool
are_blocks outer inner k [] = true
are_blocks outer inner k (a ∷ args) = is_block a (slice_get outer a.array) (slice_get inner k) && are_blocks outer inner (k + 1) args

-- ---- rows

abbrev pub reaches : List View → CallInstance → Option FormCode → Bool
reaches vs r None = false
reaches vs r (Some f) = nat_lt (length r.args) 4294967296 && are_blocks vs f.views 0 r.args

abbrev pub rows_fit : List FormCode → List View → List CallInstance → Bool
rows_fit forms vs [] = true
rows_fit forms vs (r ∷ rows) = reaches vs r (slice_get forms r.form) && rows_fit forms vs rows

-- ---- forms

abbrev pub body_fits : List FormCode → List View → Body → Bool
body_fits forms vs (body.Leaf code) = are_in_line 0 (total (map shape_of vs)) vs
body_fits forms vs (body.Inner list) = rows_fit forms vs (rows_in list)

abbrev pub is_form : List FormCode → FormCode → Bool
is_form forms f = are_lined 0 f.views && body_fits forms f.views f.body

abbrev pub are_forms : List FormCode → List FormCode → Bool
are_forms forms [] = true
are_forms forms (f ∷ rest) = is_form forms f && are_forms forms rest

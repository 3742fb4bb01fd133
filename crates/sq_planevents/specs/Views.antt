-- Views of leaf calls.
use Rattle.std.specs.Prelude.{◌≡◌, ℕ, ◌+◌, ◌-◌, ◌*◌, ◌^◌, ◌<◌, ◌==◌, Bool, true, not, ◌&&◌, nat_eq, nat_le, nat_lt, List, [], ◌∷◌, length}
use Rattle.sq_num.specs.Elements.{width}
use Rattle.sq_rect.specs.declared.view.View.{View}
use Rattle.sq_areas.specs.Areas.{reach_of}
use Rattle.sq_areas.specs.Alike.{IsAreaOf}
use Rattle.sq_areas.specs.declared.areas.Area.{Area}
use Rattle.sq_plantext.specs.declared.text.ViewText.{ViewText}
use Rattle.sq_plantext.specs.declared.text.PlanText.{PlanText}
use Rattle.sq_planevents.specs.Lines.{room_of}
use Rattle.sq_planevents.specs.Rows.{place_of, is_row}
use Rattle.sq_planevents.specs.Twice.{IsTwice, turns_of}

abbrev pub are_words : List ℕ → Bool
are_words [] = true
are_words (n ∷ ns) = nat_lt n (2 ^ 32) && are_words ns

abbrev pub are_some : List ℕ → Bool
are_some [] = true
are_some (n ∷ ns) = not (nat_eq n 0) && are_some ns

-- the view has elements, by 1 to 3 extents and strides of 32 bits
abbrev pub is_strided : ViewText → Bool
is_strided v =
    nat_le 1 (length v.extents) && nat_le (length v.extents) 3 && (length v.strides == length v.extents)
    && are_words v.extents && are_words v.strides && are_some v.extents

-- how many elements behind the first one the last one stands
abbrev pub span_of : (extents strides : List ℕ) → ℕ
span_of [] ss = 0
span_of (n ∷ ns) [] = 0
span_of (n ∷ ns) (s ∷ ss) = (n - 1) * s + span_of ns ss

-- from the first byte to the last one
abbrev pub bytes_over : ViewText → ℕ
bytes_over v = width v.elem * span_of v.extents v.strides + width v.elem

abbrev pub is_view : PlanText → (nodes scopes : List ℕ) → ViewText → Bool
is_view x nodes scopes v =
    is_strided v && ((room_of x v.slot.buffer).level == length nodes) && is_row x nodes scopes v.slot (bytes_over v)

abbrev pub are_views : PlanText → (nodes scopes : List ℕ) → List ViewText → Bool
are_views x nodes scopes [] = true
are_views x nodes scopes (v ∷ vs) = is_view x nodes scopes v && are_views x nodes scopes vs

-- the view of the event
abbrev pub seen : PlanText → ViewText → View
seen x v = record { at = place_of x v.slot; elem = v.elem; extents = v.extents; strides = v.strides }

-- no two of its elements stand at one place
abbrev pub IsOnce : ViewText → Type 0
IsOnce v = IsTwice (turns_of v.extents v.strides) → ⊥

-- a view with elements that reaches over less than 2^31 bytes
pub record IsSmall (v : ViewText) : Type 0 where
  pub strided : is_strided v ≡ true
  pub over : bytes_over v < 2 ^ 31

-- and that ends within the first 2^32 bytes of its node
pub record IsNear (x : PlanText) (v : ViewText) : Type 0 where
  pub near : place_of x v.slot + bytes_over v < 2 ^ 32

-- the area has the bytes of the view
pub record IsShown (x : PlanText) (v : ViewText) (a : Area) : Type 0 where
  pub area : IsAreaOf (seen x v) a
  pub near : a.at + reach_of a.steps a.run < 2 ^ 63

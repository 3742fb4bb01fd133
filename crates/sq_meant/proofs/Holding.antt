-- What the entry's buffers hold is what stands at its arrays' places.
use Rattle.std.proofs.Common.{◌≡◌, ℕ, ◌+◌, List, [], length, get_or, Some, refl, sym, ap, ◌∙◌}
use Rattle.std.proofs.Common.{subst}
use Rattle.std.specs.Prelude.{slice_get}
use Rattle.std.proofs.lemmas.Option.{slice_get_within, get_or_from_slice_get}
use Rattle.sq_num.specs.Elements.{width, value}
use Rattle.sq_rect.specs.Placing.{IsIn}
use Rattle.sq_leaf.specs.declared.shape.Shape.{Shape}
use Rattle.sq_leaf.specs.Source.{Arrays}
use Rattle.sq_flat.specs.Blocks.{element}
use Rattle.sq_flat.specs.Held.{Holds}
use Rattle.sq_ir.specs.Plans.{setting_of}
use Rattle.sq_ir.specs.declared.plan.Plan.{Plan}
use Rattle.sq_cells.specs.Cells.{spot}
use Rattle.sq_cells.specs.Machine.{offset_of}
use Rattle.sq_plan_laws.specs.Codes.{loaded, Codes}
use Rattle.sq_plan_laws.proofs.PlacedLists.{mapped}
use Rattle.sq_plan_laws.specs.Entry.{held_in}
use Rattle.sq_tree.specs.Bank.{bytes_at, bytes_in}
use Rattle.sq_root.specs.declared.place.Place.{Place}
use Rattle.sq_root.specs.Places.{part, parts, IsWithin, Fits}
use Rattle.sq_meant.specs.Places.{place_of, places_of}
use Rattle.sq_meant.proofs.Elements.{loaded_is}
use Rattle.sq_meant.proofs.Fitting.{place_at}

-- an element in a buffer of the root
in_buffer : (p : Plan) (nodes : List (List ℕ)) (n : ℕ) (sh : Shape) (cs : List ℕ)
    → loaded sh (λ k. held_in (setting_of p) p.draft.entry (bytes_in nodes) (spot n k)) cs
    ≡ loaded sh (λ k. get_or (bytes_at nodes 0) ((setting_of p).offset (get_or p.draft.entry n 0) + k) 0) cs
unfolding offset_of
in_buffer p nodes n sh cs = refl

module _ (p : Plan) (shapes : List Shape) (nodes : List (List ℕ)) (many : length p.draft.entry ≡ length shapes)
    (fit : Fits (places_of p shapes) (length (bytes_at nodes 0))) where
  abbrev root : List ℕ
  root = bytes_at nodes 0

  module _ (n : ℕ) (sh : Shape) (there : slice_get shapes n ≡ Some sh) where
    abbrev place : Place
    place = place_of p (get_or p.draft.entry n 0) sh

    placed : slice_get (places_of p shapes) n ≡ Some place
    placed = place_at p p.draft.entry shapes many n sh there

    below : IsWithin (length root) place
    below = subst (IsWithin (length root)) (get_or_from_slice_get (places_of p shapes) n place place placed)
        (fit.within n place (slice_get_within (places_of p shapes) n place placed))

    part_is : get_or (parts (places_of p shapes) root) n [] ≡ part place root
    part_is = get_or_from_slice_get (parts (places_of p shapes) root) n (part place root) []
        (mapped (λ q. part q root) (places_of p shapes) n place placed)

    -- an element in its buffer, and in its array's bytes
    in_part : (cs : List ℕ) → IsIn sh.extents cs
        → loaded sh (λ k. held_in (setting_of p) p.draft.entry (bytes_in nodes) (spot n k)) cs
        ≡ value sh.elem (element (width sh.elem) sh.extents cs (get_or (parts (places_of p shapes) root) n []))
    in_part cs inner =
        in_buffer p nodes n sh cs
        ∙ (loaded_is sh place.at root cs below inner
        ∙ ap (λ (l : List ℕ). value sh.elem (element (width sh.elem) sh.extents cs l)) (sym part_is))

  pub from_parts : (a : Arrays) → Holds shapes (parts (places_of p shapes) root) a
      → (n : ℕ) (sh : Shape) (cs : List ℕ) → slice_get shapes n ≡ Some sh → IsIn sh.extents cs
      → a n cs ≡ loaded sh (λ k. held_in (setting_of p) p.draft.entry (bytes_in nodes) (spot n k)) cs
  from_parts a holds n sh cs there inner = sym (in_part n sh there cs inner ∙ holds.held n sh cs there inner)

  pub to_parts : (a : Arrays) → Codes shapes a (held_in (setting_of p) p.draft.entry (bytes_in nodes))
      → Holds shapes (parts (places_of p shapes) root) a
  to_parts a codes = record {
    held = λ n sh cs there inner. sym (in_part n sh there cs inner) ∙ sym (codes.at n sh cs there inner);
  }
